-- What the machine holds after a part of the tokens of a statement is no deeper than the nodes that have begun.
use Rattle.std.proofs.Common.{◌≡◌, ℕ, suc, ◌+◌, ◌-◌, ◌<◌, ◌≤◌, max, List, [], ◌∷◌, ◌++◌, length, take, Some, None, refl, sym, ◌∙◌, ap, arith, append_assoc}
use Rattle.ob_tree.specs.declared.tokens.TokenKind.{TokenKind}
use Rattle.ob_tree.specs.declared.tokens.TokenKind.TheVariants as kind
use Rattle.ob_tree.specs.declared.tokens.Keyword.TheVariants as word
use Rattle.ob_tree.specs.declared.tokens.Sign.TheVariants as sign
use Rattle.ob_tree.specs.Trees.{ExprTree}
use Rattle.ob_tree.specs.Programs.{StartTree, StmtTree, BlockTrees}
use Rattle.ob_tree.specs.Spelling.{spell}
use Rattle.ob_tree.specs.ProgramSpelling.{spell_option, spell_local, spell_start, spell_stmt, spell_block}
use Rattle.ob_tree.specs.Valid.{IsOf}
use Rattle.ob_tree.specs.ProgramValid.{ValidStart, ValidStmt, ValidBlock}
use Rattle.ob_tree.specs.Places.{here, place, width}
use Rattle.ob_tree.specs.ProgramPlaces.{width_option, width_local, width_start, width_stmt, place_option, place_local, place_start, place_stmt}
use Rattle.ob_tree.specs.Paths.{begun, height}
use Rattle.ob_tree.specs.ProgramPaths.{begun_option, begun_local, begun_start, begun_stmt, begun_block, height_option, height_local, height_start, height_stmt}
use Rattle.ob_tree.specs.ExprMachine as reader
use Rattle.ob_tree.proofs.PlaceKeeps.{valid-place}
use Rattle.ob_tree.proofs.Unreduced.{state_behind}
use Rattle.ob_tree.specs.ProgramStates.{PendingStmt, InBlock, InIf, InElse, InWhile, InDo, InFor, BlockScope, ExprContext, Statement, IfTest, WhileTest, DoTest, ForStart, ForTest, ForNext, Return, State, Optional, Reading, Begin, Opening, ForWord, ForOpen, Semi, Done}
use Rattle.ob_tree.specs.ProgramParts.{add_statement, add_local}
use Rattle.ob_tree.specs.ProgramMachine.{context_level, used, statement, block_item, shift, run}
use Rattle.ob_tree.proofs.ProgramRuns.{restart, read-expr, expr-ends, StartsExpr, first-expr}
use Rattle.ob_tree.proofs.ProgramInits.{any-level, after_option, read-option, option-ends}
use Rattle.ob_tree.proofs.ProgramDeclarations.{BeginsDeclaration, read-local}
use Rattle.ob_tree.proofs.ProgramThrough.{after_stmt, NotElse, stmt-ends, else-follows, StartsStmt, expr-starts, expr-statement, for-expr, block-statement, block-declaration, declares-not-else, starts-not-else, read-start, read-stmt}
use Rattle.ob_exprs.proofs.Begun.{begun-full}
use Rattle.ob_exprs.proofs.Heights.{height-place}
use Rattle.ob_parser.specs.DeepestPaths.{deepest_stack_path, context_depth, context_path, deepest_path}
use Rattle.ob_parser.proofs.Adding.{statement-height, local-height}
use Rattle.ob_parser.proofs.Full.{node-some, full-option, full-local, full-start, full-stmt, option-place, local-place, start-place, stmt-place}
use Rattle.ob_parser.proofs.Climbs.{Within, w-nothing, w-token, w-part, w-spelled, w-restart, reach-expr, reach-option}
use Rattle.ob_parser.proofs.ReachNames.{reach-local, reach-for-local}

-- no token was read where one was
pub none-zero : {A : Type 0} (j : ℕ) → suc j ≡ 0 → A
none-zero j h = let f : ⊥ = omega arith in absurd f

module _ (lines : ℕ → ℕ) (m : ℕ) where
  -- a test in its parentheses, and what follows it
  reach-test : (u : ExprContext) (c : ExprTree) (ys : List TokenKind) (k p a b : ℕ) (t : State) → IsOf (context_level u) c → used (kind.Sign sign.CloseParen) u (Some (place lines a c)) ≡ Some t
      → a ≡ p + 1 → b ≡ a + width c + 1 → context_path u ≤ m → context_depth u + begun c (k - 1) ≤ m
      → ((j : ℕ) → k ≡ width c + 2 + j → Within m (run lines b (take j ys) (Some t)))
      → Within m (run lines p (take k (kind.Sign sign.OpenParen ∷ (spell c ++ kind.Sign sign.CloseParen ∷ ys))) (Some (Opening u)))
  reach-test u c ys k p a b t v e h g l d next =
      let start = Reading u (reader.BeforeOperand []) in
      w-token lines m (kind.Sign sign.OpenParen) (spell c ++ kind.Sign sign.CloseParen ∷ ys) k p a (Opening u) start (λ z. l) refl h
      (λ j z.
      w-part lines m (spell c) (kind.Sign sign.CloseParen ∷ ys) j a (a + width c) start (Reading u (state_behind (place lines a c) [])) (read-expr lines u c a v)
      (λ w. (let f : k - 1 ≡ j = omega arith in reach-expr lines m u c j a v l (omega (arith, d, ap (begun c) f))))
      (λ i w.
      w-token lines m (kind.Sign sign.CloseParen) ys (suc i) (a + width c) b (Reading u (state_behind (place lines a c) [])) t (none-zero i)
      (expr-ends u (here lines (a + width c)) (kind.Sign sign.CloseParen) (place lines a c) (valid-place lines a c v.0) tt ∙ e) g
      (λ r x. next r (omega arith))))

  -- an expression and its semicolon, from a state that begins one
  reach-semi : (u : ExprContext) (e : ExprTree) (s t : State) (k p : ℕ) → IsOf (context_level u) e → used (kind.Sign sign.Semi) u (Some (place lines p e)) ≡ Some t
      → ((c : TokenKind) → StartsExpr c → shift (here lines p) c s ≡ shift (here lines p) c (Reading u (reader.BeforeOperand [])))
      → (k ≡ 0 → deepest_path s ≤ m) → (0 < k → context_path u ≤ m) → (0 < k → context_depth u + begun e k ≤ m) → (width e < k → deepest_path t ≤ m)
      → Within m (run lines p (take k (spell e ++ kind.Sign sign.Semi ∷ [])) (Some s))
  reach-semi u e s t k p v g same z l d f =
      let start = Reading u (reader.BeforeOperand []) in
      w-part lines m (spell e) (kind.Sign sign.Semi ∷ []) k p (p + width e) s (Reading u (state_behind (place lines p e) [])) (restart start StartsExpr (first-expr e v.0) same (read-expr lines u e p v))
      (λ w. w-restart lines m start StartsExpr (spell e) k p s (first-expr e v.0) same z
      (λ j x. reach-expr lines m u e (suc j) p v (l (omega arith)) (omega (arith, d (omega arith), ap (begun e) x))))
      (λ j w.
      w-token lines m (kind.Sign sign.Semi) [] (suc j) (p + width e) (p + width e + 1) (Reading u (state_behind (place lines p e) [])) t (none-zero j)
      (expr-ends u (here lines (p + width e)) (kind.Sign sign.Semi) (place lines p e) (valid-place lines p e v.0) tt ∙ g) refl
      (λ i x. w-nothing lines m i (p + width e + 1) t (f (omega arith))))

  -- the first part of a `for`, with its semicolon
  reach-start : (start : StartTree) (f n : ℕ) (fs : List PendingStmt) (k p : ℕ) → ValidStart start → deepest_stack_path fs ≤ m → length fs + 1 + begun_start start k ≤ m
      → Within m (run lines p (take k (spell_start start)) (Some (ForOpen f n fs)))
  reach-start (StartTree.Expr None) f n fs k p v l d =
      let t = Optional (ForTest f n (StartTree.Expr None) fs) in
      w-token lines m (kind.Sign sign.Semi) [] k p (p + 1) (ForOpen f n fs) t (λ z. omega arith) refl refl (λ j z. w-nothing lines m j (p + 1) t (omega arith))
  reach-start (StartTree.Expr (Some e)) f n fs k p v l d =
      reach-semi (ForStart f n fs) e (ForOpen f n fs) (Optional (ForTest f n (StartTree.Expr (Some (place lines p e))) fs)) k p (v, omega arith) refl
      (λ c s. for-expr (here lines p) c f n fs s) (λ z. omega arith) (λ z. omega arith) (λ z. d) (λ z. omega (arith, d, begun-full e k v (omega arith), height-place lines p e))
  reach-start (StartTree.Local y) f n fs k p v l d = reach-for-local lines m f n fs y k p v.0 v.1 (omega arith) d

  mutual
    pub reach-stmt : (s : StmtTree) (fs : List PendingStmt) (st : State) (k p : ℕ) → ValidStmt s → ((c : TokenKind) → StartsStmt c → shift (here lines p) c st ≡ statement (here lines p) c fs)
        → (k ≡ 0 → deepest_path st ≤ m) → deepest_stack_path fs ≤ m → length fs + begun_stmt s k ≤ m → Within m (run lines p (take k (spell_stmt s)) (Some st))
    reach-stmt (StmtTree.Block f n items) fs st k p v same z l d =
        let gs = InBlock p (lines p) BlockTrees.NoItems ∷ fs in
        w-token lines m (kind.Sign sign.OpenBrace) (spell_block items ++ kind.Sign sign.CloseBrace ∷ []) k p (p + 1) st (Begin gs) z (same (kind.Sign sign.OpenBrace) tt) refl
        (λ j e.
        (
        let n1 = node-some k (begun_block items (k - 1)) (omega arith) in
        let g : k - 1 ≡ j = omega arith in
        reach-block items p (lines p) BlockTrees.NoItems fs (Begin gs) j (p + 1) v (λ c h. refl) (λ y. omega (arith, n1)) (omega (arith, n1)) (omega (arith, n1, ap (begun_block items) g))
        ))
    reach-stmt (StmtTree.Expr f n None) fs st k p v same z l d =
        let t = Done (StmtTree.Expr p (lines p) None) fs in
        w-token lines m (kind.Sign sign.Semi) [] k p (p + 1) st t z (same (kind.Sign sign.Semi) tt) refl
        (λ j e. w-nothing lines m j (p + 1) t (omega (arith, node-some k 0 (omega arith))))
    reach-stmt (StmtTree.Expr f n (Some e)) fs st k p v same z l d =
        let u = Statement p (lines p) fs in
        reach-semi u e st (Done (StmtTree.Expr p (lines p) (Some (place lines p e))) fs) k p (v, omega arith) refl
        (λ c s. same c (expr-starts c s) ∙ expr-statement (here lines p) c fs s) z (λ h. omega (arith, node-some k (begun e k) h)) (λ h. omega (arith, node-some k (begun e k) h))
        (λ h. omega (arith, node-some k (begun e k) (omega arith), begun-full e k v (omega arith), height-place lines p e))
    reach-stmt (StmtTree.If f n c s) fs st k p v same z l d =
        let c' = place lines (p + 2) c in
        let u = IfTest p (lines p) fs in
        let gs = InIf p (lines p) c' ∷ fs in
        let rest = kind.Sign sign.OpenParen ∷ (spell c ++ kind.Sign sign.CloseParen ∷ spell_stmt s) in
        w-token lines m (kind.Word word.If) rest k p (p + 1) st (Opening u) z (same (kind.Word word.If) refl) refl
        (λ j e.
        (
        let n1 = node-some k (max (begun c (k - 2)) (begun_stmt s (k - (width c + 3)))) (omega arith) in
        let g : k - 2 ≡ j - 1 = omega arith in
        reach-test u c (spell_stmt s) j (p + 1) (p + 2) (p + width c + 3) (Begin gs) (v.0, omega arith) refl (omega arith) (omega arith) (omega (arith, n1)) (omega (arith, n1, ap (begun c) g))
        (λ i w.
        (
        let h : k - (width c + 3) ≡ i = omega arith in
        let b : begun c (k - 2) ≡ height c = begun-full c (k - 2) v.0 (omega arith) in
        let y : deepest_stack_path gs ≤ m = omega (arith, n1, b, height-place lines (p + 2) c) in
        reach-stmt s gs (Begin gs) i (p + width c + 3) v.1 (λ x q. refl) (λ x. y) y (omega (arith, n1, ap (begun_stmt s) h))
        ))
        ))
    reach-stmt (StmtTree.IfElse f n c s t) fs st k p v same z l d =
        let c' = place lines (p + 2) c in
        let a = p + width c + 3 in
        let b = p + width c + width_stmt s + 4 in
        let s' = place_stmt lines a s in
        let u = IfTest p (lines p) fs in
        let gs = InIf p (lines p) c' ∷ fs in
        let hs = InElse p (lines p) c' s' ∷ fs in
        let tail = spell_stmt s ++ kind.Word word.Else ∷ spell_stmt t in
        let rest = kind.Sign sign.OpenParen ∷ (spell c ++ kind.Sign sign.CloseParen ∷ tail) in
        w-token lines m (kind.Word word.If) rest k p (p + 1) st (Opening u) z (same (kind.Word word.If) refl) refl
        (λ j e.
        (
        let n1 = node-some k (max (begun c (k - 2)) (max (begun_stmt s (k - (width c + 3))) (begun_stmt t (k - (width c + width_stmt s + 4))))) (omega arith) in
        let g : k - 2 ≡ j - 1 = omega arith in
        reach-test u c tail j (p + 1) (p + 2) a (Begin gs) (v.0, omega arith) refl (omega arith) (omega arith) (omega (arith, n1)) (omega (arith, n1, ap (begun c) g))
        (λ i w.
        (
        let h : k - (width c + 3) ≡ i = omega arith in
        let full : begun c (k - 2) ≡ height c = begun-full c (k - 2) v.0 (omega arith) in
        let y : deepest_stack_path gs ≤ m = omega (arith, n1, full, height-place lines (p + 2) c) in
        w-part lines m (spell_stmt s) (kind.Word word.Else ∷ spell_stmt t) i a (a + width_stmt s) (Begin gs) (after_stmt s' gs) (read-stmt lines s gs (Begin gs) a v.1 (λ x q. refl))
        (λ q. reach-stmt s gs (Begin gs) i a v.1 (λ x r. refl) (λ x. y) y (omega (arith, n1, ap (begun_stmt s) h)))
        (λ r q.
        w-token lines m (kind.Word word.Else) (spell_stmt t) (suc r) (a + width_stmt s) b (after_stmt s' gs) (Begin hs) (none-zero r) (else-follows lines a (here lines (a + width_stmt s)) s p (lines p) c' fs v.2) (omega arith)
        (λ x y2.
        (
        let q2 : k - (width c + width_stmt s + 4) ≡ x = omega arith in
        let full2 : begun_stmt s (k - (width c + 3)) ≡ height_stmt s = full-stmt s (k - (width c + 3)) v.1 (omega arith) in
        let w2 : deepest_stack_path hs ≤ m = omega (arith, n1, full, full2, height-place lines (p + 2) c, stmt-place lines a s) in
        reach-stmt t hs (Begin hs) x b v.3 (λ x q. refl) (λ x. w2) w2 (omega (arith, n1, ap (begun_stmt t) q2))
        )))
        ))
        ))
    reach-stmt (StmtTree.While f n c s) fs st k p v same z l d =
        let c' = place lines (p + 2) c in
        let u = WhileTest p (lines p) fs in
        let gs = InWhile p (lines p) c' ∷ fs in
        let rest = kind.Sign sign.OpenParen ∷ (spell c ++ kind.Sign sign.CloseParen ∷ spell_stmt s) in
        w-token lines m (kind.Word word.While) rest k p (p + 1) st (Opening u) z (same (kind.Word word.While) refl) refl
        (λ j e.
        (
        let n1 = node-some k (max (begun c (k - 2)) (begun_stmt s (k - (width c + 3)))) (omega arith) in
        let g : k - 2 ≡ j - 1 = omega arith in
        reach-test u c (spell_stmt s) j (p + 1) (p + 2) (p + width c + 3) (Begin gs) (v.0, omega arith) refl (omega arith) (omega arith) (omega (arith, n1)) (omega (arith, n1, ap (begun c) g))
        (λ i w.
        (
        let h : k - (width c + 3) ≡ i = omega arith in
        let b : begun c (k - 2) ≡ height c = begun-full c (k - 2) v.0 (omega arith) in
        let y : deepest_stack_path gs ≤ m = omega (arith, n1, b, height-place lines (p + 2) c) in
        reach-stmt s gs (Begin gs) i (p + width c + 3) v.1 (λ x q. refl) (λ x. y) y (omega (arith, n1, ap (begun_stmt s) h))
        ))
        ))
    reach-stmt (StmtTree.Do f n s c) fs st k p v same z l d =
        let s' = place_stmt lines (p + 1) s in
        let a = p + width_stmt s + 3 in
        let c' = place lines a c in
        let u = DoTest p (lines p) s' fs in
        let gs = InDo p (lines p) ∷ fs in
        let end = Semi (StmtTree.Do p (lines p) s' c') fs in
        let done = Done (StmtTree.Do p (lines p) s' c') fs in
        let rest = kind.Word word.While ∷ (kind.Sign sign.OpenParen ∷ (spell c ++ kind.Sign sign.CloseParen ∷ (kind.Sign sign.Semi ∷ []))) in
        w-token lines m (kind.Word word.Do) (spell_stmt s ++ rest) k p (p + 1) st (Begin gs) z (same (kind.Word word.Do) refl) refl
        (λ j e.
        (
        let n1 = node-some k (max (begun_stmt s (k - 1)) (begun c (k - (width_stmt s + 3)))) (omega arith) in
        let g : k - 1 ≡ j = omega arith in
        let y : deepest_stack_path gs ≤ m = omega (arith, n1) in
        w-part lines m (spell_stmt s) rest j (p + 1) (p + 1 + width_stmt s) (Begin gs) (after_stmt s' gs) (read-stmt lines s gs (Begin gs) (p + 1) v.0 (λ x q. refl))
        (λ q. reach-stmt s gs (Begin gs) j (p + 1) v.0 (λ x r. refl) (λ x. y) y (omega (arith, n1, ap (begun_stmt s) g)))
        (λ r q.
        w-token lines m (kind.Word word.While) (kind.Sign sign.OpenParen ∷ (spell c ++ kind.Sign sign.CloseParen ∷ (kind.Sign sign.Semi ∷ []))) (suc r) (p + 1 + width_stmt s) (p + width_stmt s + 2) (after_stmt s' gs) (Opening u) (none-zero r)
        (stmt-ends (here lines (p + 1 + width_stmt s)) (kind.Word word.While) s' gs tt) (omega arith)
        (λ i w.
        (
        let full : begun_stmt s (k - 1) ≡ height_stmt s = full-stmt s (k - 1) v.0 (omega arith) in
        let h : k - (width_stmt s + 3) ≡ i - 1 = omega arith in
        reach-test u c (kind.Sign sign.Semi ∷ []) i (p + width_stmt s + 2) a (a + width c + 1) end (v.1, omega arith) refl (omega arith) refl
        (omega (arith, n1, full, stmt-place lines (p + 1) s)) (omega (arith, n1, ap (begun c) h))
        (λ x t.
        (
        let full2 : begun c (k - (width_stmt s + 3)) ≡ height c = begun-full c (k - (width_stmt s + 3)) v.1 (omega arith) in
        let b : deepest_path done ≤ m = omega (arith, n1, full, full2, stmt-place lines (p + 1) s, height-place lines a c) in
        w-token lines m (kind.Sign sign.Semi) [] x (a + width c + 1) (a + width c + 2) end done (λ e2. b) refl (omega arith) (λ i2 e2. w-nothing lines m i2 (a + width c + 2) done b)
        ))
        )))
        ))
    reach-stmt (StmtTree.For f n start test next s) fs st k p v same z l d =
        let a = p + width_start start + 2 in
        let b = p + width_start start + width_option test + 3 in
        let q = p + width_start start + width_option test + width_option next + 4 in
        let start' = place_start lines (p + 2) start in
        let test' = place_option lines a test in
        let next' = place_option lines b next in
        let u = ForTest p (lines p) start' fs in
        let w = ForNext p (lines p) start' test' fs in
        let gs = InFor p (lines p) start' test' next' ∷ fs in
        let rest3 = kind.Sign sign.CloseParen ∷ spell_stmt s in
        let rest2 = kind.Sign sign.Semi ∷ (spell_option next ++ rest3) in
        let rest1 = spell_option test ++ rest2 in
        w-token lines m (kind.Word word.For) (kind.Sign sign.OpenParen ∷ (spell_start start ++ rest1)) k p (p + 1) st (ForWord p (lines p) fs) z (same (kind.Word word.For) refl) refl
        (λ j e.
        (
        let ka = k - (width_start start + 2) in
        let kb = k - (width_start start + width_option test + 3) in
        let kq = k - (width_start start + width_option test + width_option next + 4) in
        let n1 = node-some k (max (begun_start start (k - 2)) (max (begun_option test ka) (max (begun_option next kb) (begun_stmt s kq)))) (omega arith) in
        w-token lines m (kind.Sign sign.OpenParen) (spell_start start ++ rest1) j (p + 1) (p + 2) (ForWord p (lines p) fs) (ForOpen p (lines p) fs) (λ x. omega (arith, n1)) refl (omega arith)
        (λ i y.
        (
        let g : k - 2 ≡ i = omega arith in
        w-part lines m (spell_start start) rest1 i (p + 2) a (ForOpen p (lines p) fs) (Optional u) (read-start lines start p (lines p) fs (p + 2) a v.0 (omega arith))
        (λ x. reach-start start p (lines p) fs i (p + 2) v.0 l (omega (arith, n1, ap (begun_start start) g)))
        (λ r x.
        (
        let fs1 : begun_start start (k - 2) ≡ height_start start = full-start start (k - 2) v.0 (omega arith) in
        let lu : context_path u ≤ m = omega (arith, n1, fs1, start-place lines (p + 2) start) in
        let h : ka ≡ suc r = omega arith in
        w-part lines m (spell_option test) rest2 (suc r) a (a + width_option test) (Optional u) (after_option u test') (read-option lines u test a (any-level test v.1))
        (λ x2. reach-option lines m u test (suc r) a (any-level test v.1) lu (omega (arith, n1, ap (begun_option test) h)))
        (λ r2 x2.
        w-token lines m (kind.Sign sign.Semi) (spell_option next ++ rest3) (suc r2) (a + width_option test) b (after_option u test') (Optional w) (none-zero r2)
        (option-ends lines u test a (here lines (a + width_option test)) (kind.Sign sign.Semi) _ (any-level test v.1) tt refl) (omega arith)
        (λ r3 x3.
        (
        let fs2 : begun_option test ka ≡ height_option test = full-option test ka v.1 (omega arith) in
        let lw : context_path w ≤ m = omega (arith, n1, fs1, fs2, start-place lines (p + 2) start, option-place lines a test) in
        let h2 : kb ≡ r3 = omega arith in
        w-part lines m (spell_option next) rest3 r3 b (b + width_option next) (Optional w) (after_option w next') (read-option lines w next b (any-level next v.2))
        (λ x4. reach-option lines m w next r3 b (any-level next v.2) lw (omega (arith, n1, ap (begun_option next) h2)))
        (λ r4 x4.
        w-token lines m (kind.Sign sign.CloseParen) (spell_stmt s) (suc r4) (b + width_option next) q (after_option w next') (Begin gs) (none-zero r4)
        (option-ends lines w next b (here lines (b + width_option next)) (kind.Sign sign.CloseParen) _ (any-level next v.2) tt refl) (omega arith)
        (λ r5 x5.
        (
        let fs3 : begun_option next kb ≡ height_option next = full-option next kb v.2 (omega arith) in
        let lg : deepest_stack_path gs ≤ m = omega (arith, n1, fs1, fs2, fs3, start-place lines (p + 2) start, option-place lines a test, option-place lines b next) in
        let h3 : kq ≡ r5 = omega arith in
        reach-stmt s gs (Begin gs) r5 q v.3 (λ x q. refl) (λ x. lg) lg (omega (arith, n1, ap (begun_stmt s) h3))
        )))
        )))
        ))
        ))
        ))
    reach-stmt (StmtTree.Break f n) fs st k p v same z l d =
        let s = StmtTree.Break p (lines p) in
        w-token lines m (kind.Word word.Break) (kind.Sign sign.Semi ∷ []) k p (p + 1) st (Semi s fs) z (same (kind.Word word.Break) refl) refl
        (λ j e.
        (
        let n1 = node-some k 0 (omega arith) in
        w-token lines m (kind.Sign sign.Semi) [] j (p + 1) (p + 2) (Semi s fs) (Done s fs) (λ x. omega (arith, n1)) refl (omega arith) (λ i x. w-nothing lines m i (p + 2) (Done s fs) (omega (arith, n1)))
        ))
    reach-stmt (StmtTree.Continue f n) fs st k p v same z l d =
        let s = StmtTree.Continue p (lines p) in
        w-token lines m (kind.Word word.Continue) (kind.Sign sign.Semi ∷ []) k p (p + 1) st (Semi s fs) z (same (kind.Word word.Continue) refl) refl
        (λ j e.
        (
        let n1 = node-some k 0 (omega arith) in
        w-token lines m (kind.Sign sign.Semi) [] j (p + 1) (p + 2) (Semi s fs) (Done s fs) (λ x. omega (arith, n1)) refl (omega arith) (λ i x. w-nothing lines m i (p + 2) (Done s fs) (omega (arith, n1)))
        ))
    reach-stmt (StmtTree.Return f n o) fs st k p v same z l d =
        let u = Return p (lines p) fs in
        let o' = place_option lines (p + 1) o in
        let end = Done (StmtTree.Return p (lines p) o') fs in
        w-token lines m (kind.Word word.Return) (spell_option o ++ kind.Sign sign.Semi ∷ []) k p (p + 1) st (Optional u) z (same (kind.Word word.Return) refl) refl
        (λ j e.
        (
        let n1 = node-some k (begun_option o (k - 1)) (omega arith) in
        let g : k - 1 ≡ j = omega arith in
        w-part lines m (spell_option o) (kind.Sign sign.Semi ∷ []) j (p + 1) (p + 1 + width_option o) (Optional u) (after_option u o') (read-option lines u o (p + 1) (any-level o v))
        (λ x. reach-option lines m u o j (p + 1) (any-level o v) (omega (arith, n1)) (omega (arith, n1, ap (begun_option o) g)))
        (λ r x.
        w-token lines m (kind.Sign sign.Semi) [] (suc r) (p + 1 + width_option o) (p + 1 + width_option o + 1) (after_option u o') end (none-zero r)
        (option-ends lines u o (p + 1) (here lines (p + 1 + width_option o)) (kind.Sign sign.Semi) _ (any-level o v) tt refl) refl
        (λ i y. w-nothing lines m i (p + 1 + width_option o + 1) end (omega (arith, n1, full-option o (k - 1) v (omega arith), option-place lines (p + 1) o))))
        ))

    -- what is left of a block, and its closing brace
    pub reach-block : (items : BlockTrees) (f n : ℕ) (xs : BlockTrees) (fs : List PendingStmt) (st : State) (k p : ℕ) → ValidBlock items
        → ((c : TokenKind) → NotElse c → shift (here lines p) c st ≡ block_item (here lines p) c f n xs fs) → (k ≡ 0 → deepest_path st ≤ m) → deepest_stack_path (InBlock f n xs ∷ fs) ≤ m
        → length fs + 1 + begun_block items k ≤ m → Within m (run lines p (take k (spell_block items ++ kind.Sign sign.CloseBrace ∷ [])) (Some st))
    reach-block BlockTrees.NoItems f n xs fs st k p v same z l d =
        let end = Done (StmtTree.Block f n xs) fs in
        w-token lines m (kind.Sign sign.CloseBrace) [] k p (p + 1) st end z (same (kind.Sign sign.CloseBrace) tt) refl (λ j e. w-nothing lines m j (p + 1) end (omega arith))
    reach-block (BlockTrees.Declaration y items) f n xs fs st k p v same z l d =
        let y' = place_local lines p y in
        let q = p + width_local y in
        let next = Begin (InBlock f n (add_local xs y') ∷ fs) in
        let begins = λ (c : TokenKind) (b : BeginsDeclaration c). same c (declares-not-else c b) ∙ block-declaration (here lines p) c f n xs fs b in
        w-spelled lines m k p (spell_local y ++ (spell_block items ++ kind.Sign sign.CloseBrace ∷ [])) ((spell_local y ++ spell_block items) ++ kind.Sign sign.CloseBrace ∷ []) st
        (sym (append_assoc (spell_local y) (spell_block items) (kind.Sign sign.CloseBrace ∷ []))) (
        w-part lines m (spell_local y) (spell_block items ++ kind.Sign sign.CloseBrace ∷ []) k p q st next (read-local lines f n xs fs y st p v.0 begins)
        (λ e. reach-local lines m (BlockScope f n xs fs) y st k p v.0 begins z l (omega arith))
        (λ j e.
        (
        let full : begun_local y k ≡ height_local y = full-local y k v.0 (omega arith) in
        let g : k - width_local y ≡ suc j = omega arith in
        reach-block items f n (add_local xs y') fs next (suc j) q v.1 (λ c h. refl) (none-zero j) (omega (arith, full, local-height xs y', local-place lines p y)) (omega (arith, d, ap (begun_block items) g))
        ))
        )
    reach-block (BlockTrees.Statement s items) f n xs fs st k p v same z l d =
        let s' = place_stmt lines p s in
        let q = p + width_stmt s in
        let gs = InBlock f n xs ∷ fs in
        let begins = λ (c : TokenKind) (b : StartsStmt c). same c (starts-not-else c b) ∙ block-statement (here lines p) c f n xs fs b in
        w-spelled lines m k p (spell_stmt s ++ (spell_block items ++ kind.Sign sign.CloseBrace ∷ [])) ((spell_stmt s ++ spell_block items) ++ kind.Sign sign.CloseBrace ∷ []) st
        (sym (append_assoc (spell_stmt s) (spell_block items) (kind.Sign sign.CloseBrace ∷ []))) (
        w-part lines m (spell_stmt s) (spell_block items ++ kind.Sign sign.CloseBrace ∷ []) k p q st (after_stmt s' gs) (read-stmt lines s gs st p v.0 begins)
        (λ e. reach-stmt s gs st k p v.0 begins z l (omega arith))
        (λ j e.
        (
        let full : begun_stmt s k ≡ height_stmt s = full-stmt s k v.0 (omega arith) in
        let g : k - width_stmt s ≡ suc j = omega arith in
        reach-block items f n (add_statement xs s') fs (after_stmt s' gs) (suc j) q v.1 (λ c h. stmt-ends (here lines q) c s' gs h) (none-zero j)
        (omega (arith, full, statement-height xs s', stmt-place lines p s)) (omega (arith, d, ap (begun_block items) g))
        ))
        )
