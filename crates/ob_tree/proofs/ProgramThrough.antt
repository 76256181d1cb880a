-- The machine reads each valid statement and block from its spelling.
use Rattle.std.proofs.Common.{◌≡◌, ℕ, ◌+◌, List, [], ◌∷◌, ◌++◌, length, true, false, Some, None, refl, sym, ◌∙◌, ap, arith, append_assoc}
use Rattle.std.specs.Prelude.{cond}
use Rattle.ob_tree.specs.declared.tokens.TokenKind.{TokenKind}
use Rattle.ob_tree.specs.declared.tokens.TokenKind.TheVariants as kind
use Rattle.ob_tree.specs.declared.tokens.Keyword.{Keyword}
use Rattle.ob_tree.specs.declared.tokens.Keyword.TheVariants as word
use Rattle.ob_tree.specs.declared.tokens.Sign.TheVariants as sign
use Rattle.ob_tree.specs.Trees.{Mark, ExprTree}
use Rattle.ob_tree.specs.Programs.{LocalTree, StartTree, StmtTree, BlockTrees}
use Rattle.ob_tree.specs.ProgramSpelling.{spell_local, spell_start, spell_stmt, spell_block}
use Rattle.ob_tree.specs.Spelling.{spell}
use Rattle.ob_tree.specs.Valid.{IsOf}
use Rattle.ob_tree.specs.ProgramValid.{ValidStart, ValidStmt, ValidBlock, ends_in_if}
use Rattle.ob_tree.specs.Places.{here, place, width}
use Rattle.ob_tree.specs.ProgramPlaces.{width_option, width_local, width_start, width_stmt, place_option, place_local, place_start, place_stmt, place_block}
use Rattle.ob_tree.specs.ExprMachine as expr
use Rattle.ob_tree.proofs.PlaceKeeps.{valid-place}
use Rattle.ob_tree.specs.ProgramStates.{PendingStmt, InBlock, InIf, InElse, InWhile, InDo, InFor, BlockScope, ExprContext, Statement, IfTest, WhileTest, DoTest, ForStart, ForTest, ForNext, Return, State, Optional, Reading, Begin, Opening, ForWord, ForOpen, Semi, Done}
use Rattle.ob_tree.specs.ProgramParts.{add_statement, add_local}
use Rattle.ob_tree.specs.ProgramMachine.{context_level, used, begins_declaration, begin_declaration, statement, statement_word, block_item, to_else, reduce, after_whole, done, shift}
use Rattle.ob_tree.proofs.ProgramRuns.{RunsTo, token, ◌before◌, counted, respelled, arrives, relocated, restart, read-expr, expr-ends, StartsExpr, first-expr}
use Rattle.ob_tree.proofs.ProgramInits.{optional-starts, any-level, read-option, option-ends}
use Rattle.ob_tree.proofs.ProgramDeclarations.{BeginsDeclaration, read-local, read-for-local}

-- The statement is the last part of what it stands in: the statements on its right side as pending statements, and the one at
-- their end.
abbrev pub unreduced : StmtTree → List PendingStmt → StmtTree × List PendingStmt
unreduced (StmtTree.If f n c s) fs = unreduced s (InIf f n c ∷ fs)
unreduced (StmtTree.IfElse f n c s t) fs = unreduced t (InElse f n c s ∷ fs)
unreduced (StmtTree.While f n c s) fs = unreduced s (InWhile f n c ∷ fs)
unreduced (StmtTree.For f n start test next s) fs = unreduced s (InFor f n start test next ∷ fs)
unreduced s fs = (s, fs)

-- what is held behind a whole statement
abbrev pub after_stmt : StmtTree → List PendingStmt → State
after_stmt s fs = Done (unreduced s fs).0 (unreduced s fs).1

reduce-unreduced : (s : StmtTree) (fs : List PendingStmt) → reduce (unreduced s fs).0 (unreduced s fs).1 ≡ reduce s fs
reduce-unreduced (StmtTree.If f n c s) fs = reduce-unreduced s (InIf f n c ∷ fs)
reduce-unreduced (StmtTree.IfElse f n c s t) fs = reduce-unreduced t (InElse f n c s ∷ fs)
reduce-unreduced (StmtTree.While f n c s) fs = reduce-unreduced s (InWhile f n c ∷ fs)
reduce-unreduced (StmtTree.For f n start test next s) fs = reduce-unreduced s (InFor f n start test next ∷ fs)
reduce-unreduced s fs = refl

else-unreduced : (s : StmtTree) (fs : List PendingStmt) → ends_in_if s ≡ false → to_else (unreduced s fs).0 (unreduced s fs).1 ≡ to_else s fs
else-unreduced (StmtTree.If f n c s) fs h = let e : true ≡ false = h in cc
else-unreduced (StmtTree.IfElse f n c s t) fs h = else-unreduced t (InElse f n c s ∷ fs) h
else-unreduced (StmtTree.While f n c s) fs h = else-unreduced s (InWhile f n c ∷ fs) h
else-unreduced (StmtTree.For f n start test next s) fs h = else-unreduced s (InFor f n start test next ∷ fs) h
else-unreduced s fs h = refl

ends-placed : (lines : ℕ → ℕ) (p : ℕ) (s : StmtTree) → ends_in_if (place_stmt lines p s) ≡ ends_in_if s
ends-placed lines p (StmtTree.IfElse f n c s t) = ends-placed lines (p + width c + width_stmt s + 4) t
ends-placed lines p (StmtTree.While f n c s) = ends-placed lines (p + width c + 3) s
ends-placed lines p (StmtTree.For f n start test next s) = ends-placed lines (p + width_start start + width_option test + width_option next + 4) s
ends-placed lines p s = refl

-- any token but `else`
abbrev pub NotElse : TokenKind → Type 0
NotElse (kind.Word word.Else) = ⊥
NotElse k = Unit {0}

not-else : (m : Mark) (k : TokenKind) (s : StmtTree) (fs : List PendingStmt) → NotElse k → done m k s fs ≡ after_whole m k (reduce s fs).0 (reduce s fs).1
not-else m (kind.Word word.Else) s fs h = absurd h
not-else m (kind.Word w) s fs h = refl
not-else m k s fs h = refl

pub stmt-ends : (m : Mark) (k : TokenKind) (s : StmtTree) (fs : List PendingStmt) → NotElse k
    → shift m k (after_stmt s fs) ≡ after_whole m k (reduce s fs).0 (reduce s fs).1
stmt-ends m k s fs h = not-else m k (unreduced s fs).0 (unreduced s fs).1 h ∙ ap (λ r. after_whole m k r.0 r.1) (reduce-unreduced s fs)

pub else-follows : (lines : ℕ → ℕ) (p : ℕ) (m : Mark) (s : StmtTree) (f n : ℕ) (c : ExprTree) (fs : List PendingStmt) → ends_in_if s ≡ false
    → shift m (kind.Word word.Else) (after_stmt (place_stmt lines p s) (InIf f n c ∷ fs)) ≡ Some (Begin (InElse f n c (place_stmt lines p s) ∷ fs))
else-follows lines p m s f n c fs h = else-unreduced (place_stmt lines p s) (InIf f n c ∷ fs) (ends-placed lines p s ∙ h)

-- What a statement begins with.
abbrev StartsWord : Keyword → Type 0
StartsWord word.Else = ⊥
StartsWord w = begins_declaration w ≡ false

abbrev pub StartsStmt : TokenKind → Type 0
StartsStmt (kind.Word w) = StartsWord w
StartsStmt (kind.Sign sign.CloseBrace) = ⊥
StartsStmt k = Unit {0}

pub expr-starts : (k : TokenKind) → StartsExpr k → StartsStmt k
expr-starts (kind.Word word.Null) h = refl
expr-starts (kind.Word word.Eof) h = refl
expr-starts (kind.Word word.Sizeof) h = refl
expr-starts (kind.Word w) h = absurd h
expr-starts (kind.Sign sign.CloseBrace) h = absurd h
expr-starts (kind.Sign s) h = tt
expr-starts k h = tt

pub expr-statement : (m : Mark) (k : TokenKind) (fs : List PendingStmt) → StartsExpr k
    → statement m k fs ≡ shift m k (Reading (Statement m.first m.line fs) (expr.BeforeOperand []))
expr-statement m (kind.Word word.Null) fs h = refl
expr-statement m (kind.Word word.Eof) fs h = refl
expr-statement m (kind.Word word.Sizeof) fs h = refl
expr-statement m (kind.Word w) fs h = absurd h
expr-statement m (kind.Sign sign.OpenBrace) fs h = absurd h
expr-statement m (kind.Sign s) fs h = optional-starts (Statement m.first m.line fs) m (kind.Sign s) h
expr-statement m k fs h = optional-starts (Statement m.first m.line fs) m k h

pub for-expr : (m : Mark) (k : TokenKind) (f n : ℕ) (fs : List PendingStmt) → StartsExpr k
    → shift m k (ForOpen f n fs) ≡ shift m k (Reading (ForStart f n fs) (expr.BeforeOperand []))
for-expr m (kind.Word word.Null) f n fs h = refl
for-expr m (kind.Word word.Eof) f n fs h = refl
for-expr m (kind.Word word.Sizeof) f n fs h = refl
for-expr m (kind.Word w) f n fs h = absurd h
for-expr m k f n fs h = optional-starts (ForStart f n fs) m k h

block-word : (m : Mark) (w : Keyword) (f n : ℕ) (items : BlockTrees) (fs : List PendingStmt) → StartsWord w
    → block_item m (kind.Word w) f n items fs ≡ statement m (kind.Word w) (InBlock f n items ∷ fs)
block-word m word.Else f n items fs h = absurd h
block-word m w f n items fs h =
    ap (λ b. cond b (begin_declaration m (kind.Word w) (BlockScope f n items fs)) (statement_word m w (InBlock f n items ∷ fs))) h

pub block-statement : (m : Mark) (k : TokenKind) (f n : ℕ) (items : BlockTrees) (fs : List PendingStmt) → StartsStmt k
    → block_item m k f n items fs ≡ statement m k (InBlock f n items ∷ fs)
block-statement m (kind.Word w) f n items fs h = block-word m w f n items fs h
block-statement m (kind.Sign sign.CloseBrace) f n items fs h = absurd h
block-statement m (kind.Sign s) f n items fs h = refl
block-statement m k f n items fs h = refl

pub block-declaration : (m : Mark) (k : TokenKind) (f n : ℕ) (items : BlockTrees) (fs : List PendingStmt) → BeginsDeclaration k
    → block_item m k f n items fs ≡ begin_declaration m k (BlockScope f n items fs)
block-declaration m (kind.Word w) f n items fs h =
    ap (λ b. cond b (begin_declaration m (kind.Word w) (BlockScope f n items fs)) (statement_word m w (InBlock f n items ∷ fs))) h
block-declaration m _ f n items fs h = absurd h

pub declares-not-else : (k : TokenKind) → BeginsDeclaration k → NotElse k
declares-not-else (kind.Word word.Else) h = let e : false ≡ true = h in cc
declares-not-else (kind.Word w) h = tt
declares-not-else _ h = absurd h

pub starts-not-else : (k : TokenKind) → StartsStmt k → NotElse k
starts-not-else (kind.Word word.Else) h = absurd h
starts-not-else (kind.Word w) h = tt
starts-not-else k h = tt

-- lists with more behind
abbrev pub append_block : BlockTrees → BlockTrees → BlockTrees
append_block BlockTrees.NoItems ys = ys
append_block (BlockTrees.Declaration l xs) ys = BlockTrees.Declaration l (append_block xs ys)
append_block (BlockTrees.Statement s xs) ys = BlockTrees.Statement s (append_block xs ys)

block-end : (xs : BlockTrees) → xs ≡ append_block xs BlockTrees.NoItems
block-end BlockTrees.NoItems = refl
block-end (BlockTrees.Declaration l xs) = ap (BlockTrees.Declaration l) (block-end xs)
block-end (BlockTrees.Statement s xs) = ap (BlockTrees.Statement s) (block-end xs)

block-local : (xs : BlockTrees) (l : LocalTree) (ys : BlockTrees) → append_block (add_local xs l) ys ≡ append_block xs (BlockTrees.Declaration l ys)
block-local BlockTrees.NoItems l ys = refl
block-local (BlockTrees.Declaration x xs) l ys = ap (BlockTrees.Declaration x) (block-local xs l ys)
block-local (BlockTrees.Statement s xs) l ys = ap (BlockTrees.Statement s) (block-local xs l ys)

block-stmt : (xs : BlockTrees) (s : StmtTree) (ys : BlockTrees) → append_block (add_statement xs s) ys ≡ append_block xs (BlockTrees.Statement s ys)
block-stmt BlockTrees.NoItems s ys = refl
block-stmt (BlockTrees.Declaration l xs) s ys = ap (BlockTrees.Declaration l) (block-stmt xs s ys)
block-stmt (BlockTrees.Statement x xs) s ys = ap (BlockTrees.Statement x) (block-stmt xs s ys)

module _ (lines : ℕ → ℕ) where
  -- a test in its parentheses, and what follows it
  pub read-test : {q : ℕ} {ys : List TokenKind} {r : State} → (u : ExprContext) (c : ExprTree) (p a b : ℕ) (t : State) → IsOf (context_level u) c
      → used (kind.Sign sign.CloseParen) u (Some (place lines a c)) ≡ Some t → a ≡ p + 1 → b ≡ a + width c + 1 → RunsTo lines b ys t q r
      → RunsTo lines p (kind.Sign sign.OpenParen ∷ (spell c ++ kind.Sign sign.CloseParen ∷ ys)) (Opening u) q r
  read-test u c p a b t v e h g rest =
      token (kind.Sign sign.OpenParen) a (Reading u (expr.BeforeOperand [])) refl h
      before read-expr lines u c a v
      before token (kind.Sign sign.CloseParen) b t (expr-ends u (here lines (a + width c)) (kind.Sign sign.CloseParen) (place lines a c) (valid-place lines a c v.0) tt ∙ e) g
      before rest

  -- the first part of a `for`, with its semicolon
  pub read-start : (start : StartTree) (f n : ℕ) (fs : List PendingStmt) (p q : ℕ) → ValidStart start → q ≡ p + width_start start
      → RunsTo lines p (spell_start start) (ForOpen f n fs) q (Optional (ForTest f n (place_start lines p start) fs))
  read-start (StartTree.Expr None) f n fs p q v h = token (kind.Sign sign.Semi) q (Optional (ForTest f n (StartTree.Expr None) fs)) refl h
  read-start (StartTree.Expr (Some e)) f n fs p q v h =
      let u = ForStart f n fs in
      relocated (sym h) (
      counted (
      restart (Reading u (expr.BeforeOperand [])) StartsExpr (first-expr e v) (λ k s. for-expr (here lines p) k f n fs s) (read-expr lines u e p (v, omega arith))
      before token (kind.Sign sign.Semi) (p + width e + 1) (Optional (ForTest f n (StartTree.Expr (Some (place lines p e))) fs))
      (expr-ends u (here lines (p + width e)) (kind.Sign sign.Semi) (place lines p e) (valid-place lines p e v) tt) refl
      )
      )
  read-start (StartTree.Local l) f n fs p q v h = relocated (sym h) (read-for-local lines f n fs l p v.0 v.1)

  mutual
    -- a statement, from a state that begins one
    pub read-stmt : (s : StmtTree) (fs : List PendingStmt) (st : State) (p : ℕ) → ValidStmt s
        → ((k : TokenKind) → StartsStmt k → shift (here lines p) k st ≡ statement (here lines p) k fs)
        → RunsTo lines p (spell_stmt s) st (p + width_stmt s) (after_stmt (place_stmt lines p s) fs)
    read-stmt (StmtTree.Block f n items) fs st p v same =
        counted (
        token (kind.Sign sign.OpenBrace) (p + 1) (Begin (InBlock p (lines p) BlockTrees.NoItems ∷ fs)) (same (kind.Sign sign.OpenBrace) tt) refl
        before read-block items p (lines p) BlockTrees.NoItems fs (Begin (InBlock p (lines p) BlockTrees.NoItems ∷ fs)) (p + 1) v (λ k h. refl)
        )
    read-stmt (StmtTree.Expr f n None) fs st p v same =
        token (kind.Sign sign.Semi) (p + 1) (Done (StmtTree.Expr p (lines p) None) fs) (same (kind.Sign sign.Semi) tt) refl
    read-stmt (StmtTree.Expr f n (Some e)) fs st p v same =
        let u = Statement p (lines p) fs in
        counted (
        restart (Reading u (expr.BeforeOperand [])) StartsExpr (first-expr e v) (λ k s. same k (expr-starts k s) ∙ expr-statement (here lines p) k fs s)
        (read-expr lines u e p (v, omega arith))
        before token (kind.Sign sign.Semi) (p + width e + 1) (Done (StmtTree.Expr p (lines p) (Some (place lines p e))) fs)
        (expr-ends u (here lines (p + width e)) (kind.Sign sign.Semi) (place lines p e) (valid-place lines p e v) tt) refl
        )
    read-stmt (StmtTree.If f n c s) fs st p v same =
        let c' = place lines (p + 2) c in
        let u = IfTest p (lines p) fs in
        let gs = InIf p (lines p) c' ∷ fs in
        counted (
        token (kind.Word word.If) (p + 1) (Opening u) (same (kind.Word word.If) refl) refl
        before read-test u c (p + 1) (p + 2) (p + width c + 3) (Begin gs) (v.0, omega arith) refl (omega arith) (omega arith)
        (read-stmt s gs (Begin gs) (p + width c + 3) v.1 (λ k h. refl))
        )
    read-stmt (StmtTree.IfElse f n c s t) fs st p v same =
        let c' = place lines (p + 2) c in
        let a = p + width c + 3 in
        let b = p + width c + width_stmt s + 4 in
        let u = IfTest p (lines p) fs in
        let gs = InIf p (lines p) c' ∷ fs in
        let hs = InElse p (lines p) c' (place_stmt lines a s) ∷ fs in
        counted (
        token (kind.Word word.If) (p + 1) (Opening u) (same (kind.Word word.If) refl) refl
        before read-test u c (p + 1) (p + 2) a (Begin gs) (v.0, omega arith) refl (omega arith) (omega arith) (
        read-stmt s gs (Begin gs) a v.1 (λ k h. refl)
        before token (kind.Word word.Else) b (Begin hs) (else-follows lines a (here lines (a + width_stmt s)) s p (lines p) c' fs v.2) (omega arith)
        before read-stmt t hs (Begin hs) b v.3 (λ k h. refl)
        )
        )
    read-stmt (StmtTree.While f n c s) fs st p v same =
        let c' = place lines (p + 2) c in
        let u = WhileTest p (lines p) fs in
        let gs = InWhile p (lines p) c' ∷ fs in
        counted (
        token (kind.Word word.While) (p + 1) (Opening u) (same (kind.Word word.While) refl) refl
        before read-test u c (p + 1) (p + 2) (p + width c + 3) (Begin gs) (v.0, omega arith) refl (omega arith) (omega arith)
        (read-stmt s gs (Begin gs) (p + width c + 3) v.1 (λ k h. refl))
        )
    read-stmt (StmtTree.Do f n s c) fs st p v same =
        let s' = place_stmt lines (p + 1) s in
        let a = p + width_stmt s + 3 in
        let c' = place lines a c in
        let u = DoTest p (lines p) s' fs in
        let gs = InDo p (lines p) ∷ fs in
        counted (
        token (kind.Word word.Do) (p + 1) (Begin gs) (same (kind.Word word.Do) refl) refl
        before read-stmt s gs (Begin gs) (p + 1) v.0 (λ k h. refl)
        before token (kind.Word word.While) (p + width_stmt s + 2) (Opening u) (stmt-ends (here lines (p + 1 + width_stmt s)) (kind.Word word.While) s' gs tt) (omega arith)
        before read-test u c (p + width_stmt s + 2) a (a + width c + 1) (Semi (StmtTree.Do p (lines p) s' c') fs) (v.1, omega arith) refl (omega arith) refl
        (token (kind.Sign sign.Semi) (a + width c + 2) (Done (StmtTree.Do p (lines p) s' c') fs) refl (omega arith))
        )
    read-stmt (StmtTree.For f n start test next s) fs st p v same =
        let a = p + width_start start + 2 in
        let b = p + width_start start + width_option test + 3 in
        let d = p + width_start start + width_option test + width_option next + 4 in
        let start' = place_start lines (p + 2) start in
        let test' = place_option lines a test in
        let next' = place_option lines b next in
        let u = ForTest p (lines p) start' fs in
        let w = ForNext p (lines p) start' test' fs in
        let gs = InFor p (lines p) start' test' next' ∷ fs in
        counted (
        token (kind.Word word.For) (p + 1) (ForWord p (lines p) fs) (same (kind.Word word.For) refl) refl
        before token (kind.Sign sign.OpenParen) (p + 2) (ForOpen p (lines p) fs) refl (omega arith)
        before read-start start p (lines p) fs (p + 2) a v.0 (omega arith)
        before read-option lines u test a (any-level test v.1)
        before token (kind.Sign sign.Semi) b (Optional w) (option-ends lines u test a (here lines (a + width_option test)) (kind.Sign sign.Semi) _ (any-level test v.1) tt refl) (omega arith)
        before read-option lines w next b (any-level next v.2)
        before token (kind.Sign sign.CloseParen) d (Begin gs) (option-ends lines w next b (here lines (b + width_option next)) (kind.Sign sign.CloseParen) _ (any-level next v.2) tt refl) (omega arith)
        before read-stmt s gs (Begin gs) d v.3 (λ k h. refl)
        )
    read-stmt (StmtTree.Break f n) fs st p v same =
        token (kind.Word word.Break) (p + 1) (Semi (StmtTree.Break p (lines p)) fs) (same (kind.Word word.Break) refl) refl
        before token (kind.Sign sign.Semi) (p + 2) (Done (StmtTree.Break p (lines p)) fs) refl (omega arith)
    read-stmt (StmtTree.Continue f n) fs st p v same =
        token (kind.Word word.Continue) (p + 1) (Semi (StmtTree.Continue p (lines p)) fs) (same (kind.Word word.Continue) refl) refl
        before token (kind.Sign sign.Semi) (p + 2) (Done (StmtTree.Continue p (lines p)) fs) refl (omega arith)
    read-stmt (StmtTree.Return f n e) fs st p v same =
        let u = Return p (lines p) fs in
        counted (
        token (kind.Word word.Return) (p + 1) (Optional u) (same (kind.Word word.Return) refl) refl
        before read-option lines u e (p + 1) (any-level e v)
        before token (kind.Sign sign.Semi) (p + 1 + width_option e + 1) (Done (StmtTree.Return p (lines p) (place_option lines (p + 1) e)) fs)
        (option-ends lines u e (p + 1) (here lines (p + 1 + width_option e)) (kind.Sign sign.Semi) _ (any-level e v) tt refl) refl
        )

    -- what is left of a block, and its closing brace, from a state that begins a block item
    pub read-block : (items : BlockTrees) (f n : ℕ) (before_them : BlockTrees) (fs : List PendingStmt) (st : State) (p : ℕ) → ValidBlock items
        → ((k : TokenKind) → NotElse k → shift (here lines p) k st ≡ block_item (here lines p) k f n before_them fs)
        → RunsTo lines p (spell_block items ++ kind.Sign sign.CloseBrace ∷ []) st (p + length (spell_block items ++ kind.Sign sign.CloseBrace ∷ []))
        (Done (StmtTree.Block f n (append_block before_them (place_block lines p items))) fs)
    read-block BlockTrees.NoItems f n xs fs st p v same =
        token (kind.Sign sign.CloseBrace) (p + 1) (Done (StmtTree.Block f n (append_block xs BlockTrees.NoItems)) fs)
        (same (kind.Sign sign.CloseBrace) tt ∙ ap (λ x. Some (Done (StmtTree.Block f n x) fs)) (block-end xs)) refl
    read-block (BlockTrees.Declaration l items) f n xs fs st p v same =
        let l' = place_local lines p l in
        let q = p + width_local l in
        counted (
        respelled (sym (append_assoc (spell_local l) (spell_block items) (kind.Sign sign.CloseBrace ∷ []))) (
        arrives (ap (λ x. Done (StmtTree.Block f n x) fs) (block-local xs l' (place_block lines q items))) (
        read-local lines f n xs fs l st p v.0 (λ k b. same k (declares-not-else k b) ∙ block-declaration (here lines p) k f n xs fs b)
        before read-block items f n (add_local xs l') fs (Begin (InBlock f n (add_local xs l') ∷ fs)) q v.1 (λ k h. refl)
        )
        )
        )
    read-block (BlockTrees.Statement s items) f n xs fs st p v same =
        let s' = place_stmt lines p s in
        let q = p + width_stmt s in
        let gs = InBlock f n xs ∷ fs in
        counted (
        respelled (sym (append_assoc (spell_stmt s) (spell_block items) (kind.Sign sign.CloseBrace ∷ []))) (
        arrives (ap (λ x. Done (StmtTree.Block f n x) fs) (block-stmt xs s' (place_block lines q items))) (
        read-stmt s gs st p v.0 (λ k b. same k (starts-not-else k b) ∙ block-statement (here lines p) k f n xs fs b)
        before read-block items f n (add_statement xs s') fs (after_stmt s' gs) q v.1 (λ k h. stmt-ends (here lines q) k s' gs h)
        )
        )
        )
