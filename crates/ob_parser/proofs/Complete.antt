-- What the machine holds can be made a whole program in which no further node has begun.
use Rattle.std.proofs.Common.{◌≡◌, ℕ, ◌+◌, ◌-◌, ◌≤◌, max, List, [], ◌∷◌, ◌++◌, length, Bool, None, refl, sym, ◌∙◌, ap, subst, arith, append_assoc, append-nil, length-append}
use Rattle.std.specs.List.{AllByRecursion}
use Rattle.ob_tree.specs.declared.tokens.TokenKind.{TokenKind}
use Rattle.ob_tree.specs.declared.tokens.TokenKind.TheVariants as kind
use Rattle.ob_tree.specs.declared.tokens.Keyword.TheVariants as word
use Rattle.ob_tree.specs.declared.tokens.Sign.TheVariants as sign
use Rattle.ob_tree.specs.Trees.{SpecTree}
use Rattle.ob_tree.specs.Programs.{LocalTree, StartTree, StmtTree, FileTree, ItemTree, ProgramTree}
use Rattle.ob_tree.specs.Spelling.{spell, spell_spec, listed}
use Rattle.ob_tree.specs.ProgramSpelling.{spell_option, spell_static, spell_local, spell_start, spell_stmt, spell_block, spell_function, spell_file, spell_program}
use Rattle.ob_tree.specs.Valid.{ValidSpec}
use Rattle.ob_tree.specs.ProgramValid.{ValidStmt, ValidFile, ValidFiles, ValidItem, ValidProgram, IsBlock}
use Rattle.ob_tree.specs.Places.{width, width_spec}
use Rattle.ob_tree.specs.Paths.{node_with, begun, begun_spec, begun_objs, begun_obj}
use Rattle.ob_tree.specs.ProgramPlaces.{width_option, width_static, width_local, width_start, width_stmt, width_params, width_file}
use Rattle.ob_tree.specs.ProgramPaths.{begun_option, begun_start, begun_stmt, begun_block, begun_local, begun_function, begun_file, begun_files, begun_program}
use Rattle.ob_tree.specs.Fronts.{Begins}
use Rattle.ob_tree.proofs.OneProgram.{length-function}
use Rattle.ob_tree.specs.ProgramStates.{Definition, PendingStmt, InBody, InBlock, InIf, InElse, InWhile, InDo, InFor, Scope, FileScope, BlockScope, ForScope, Declaration}
use Rattle.ob_tree.specs.ProgramParts.{add_statement, add_local, objects}
use Rattle.ob_tree.specs.ProgramMachine.{define}
use Rattle.ob_tree.proofs.ProgramNames.{IsFileScope, MayDeclare}
use Rattle.ob_exprs.proofs.Filling.{leaf}
use Rattle.ob_parser.specs.DeepestPaths.{deepest_stack_path, scope_depth, scope_path, depth_in, declaration_path}
use Rattle.ob_parser.proofs.Most.{node-most, most, spec-most, option-most, start-most, stmt-most, function-most}
use Rattle.ob_parser.proofs.Shapes.{names_before, if_open, while_open, for_open, definition_spell, pending_spell, stack_spell, scope_spell, declaration_spell, Takes, Stands, ScopeOk, MayBe, DeclarationOk}
use Rattle.ob_parser.proofs.Adding.{statement-spelled, statement-valid, statement-begun, local-spelled, local-valid, local-begun, item-spelled, item-begun, all-more, name-spelled, name-begun}
use Rattle.ob_parser.proofs.Sound.{all-objects, valid-names, valid-more}
use Rattle.ob_parser.proofs.SoundContexts.{takes-any, takes-block}
use Rattle.ob_parser.proofs.SoundStatements.{define-valid, define-spelled}

-- some program begins with these tokens, and at most m nodes of a path have begun with them
abbrev pub Completes : (m : ℕ) → List TokenKind → Type 0
Completes m read = Begins ValidProgram spell_program begun_program (λ n. n ≤ m) read

pub completes-same : (m : ℕ) (xs ys : List TokenKind) → xs ≡ ys → Completes m xs → Completes m ys
completes-same m xs ys e c = subst (Completes m) e c

-- the least statement
abbrev pub empty : StmtTree
empty = StmtTree.Expr 0 0 None

-- A statement that ends with this one, and what its tokens end with.
abbrev fill : PendingStmt → StmtTree → StmtTree
fill (InBody d) s = s
fill (InBlock f n items) s = StmtTree.Block f n (add_statement items s)
fill (InIf f n c) s = StmtTree.If f n c s
fill (InElse f n c y) s = StmtTree.IfElse f n c y s
fill (InWhile f n c) s = StmtTree.While f n c s
fill (InDo f n) s = StmtTree.Do f n s leaf
fill (InFor f n start test next) s = StmtTree.For f n start test next s

abbrev behind : PendingStmt → List TokenKind
behind (InBlock f n items) = kind.Sign sign.CloseBrace ∷ []
behind (InDo f n) = while_open ++ (spell leaf ++ kind.Sign sign.CloseParen ∷ (kind.Sign sign.Semi ∷ []))
behind f = []

abbrev IsInner : PendingStmt → Type 0
IsInner (InBody d) = ⊥
IsInner f = Unit {0}

fill-spell : (f : PendingStmt) (s : StmtTree) → IsInner f → spell_stmt (fill f s) ≡ pending_spell f ++ (spell_stmt s ++ behind f)
fill-spell (InBody d) s i = absurd i
fill-spell (InBlock f n items) s i =
    ap (λ ks. kind.Sign sign.OpenBrace ∷ (ks ++ kind.Sign sign.CloseBrace ∷ [])) (statement-spelled items s)
    ∙ ap (λ ks. kind.Sign sign.OpenBrace ∷ ks) (append_assoc (spell_block items) (spell_stmt s) (kind.Sign sign.CloseBrace ∷ []))
fill-spell (InIf f n c) s i = groups if_open (spell c) (kind.Sign sign.CloseParen) (spell_stmt s)
  where
    groups : (a b : List TokenKind) (k : TokenKind) (s : List TokenKind) → a ++ (b ++ k ∷ s) ≡ (a ++ (b ++ k ∷ [])) ++ (s ++ [])
    groups a b k s = simp (append_assoc, append-nil)
fill-spell (InElse f n c y) s i = groups if_open (spell c) (kind.Sign sign.CloseParen) (spell_stmt y) (kind.Word word.Else) (spell_stmt s)
  where
    groups : (a b : List TokenKind) (k : TokenKind) (y : List TokenKind) (e : TokenKind) (s : List TokenKind) → a ++ (b ++ k ∷ (y ++ e ∷ s)) ≡ (a ++ (b ++ k ∷ (y ++ e ∷ []))) ++ (s ++ [])
    groups a b k y e s = simp (append_assoc, append-nil)
fill-spell (InWhile f n c) s i = groups while_open (spell c) (kind.Sign sign.CloseParen) (spell_stmt s)
  where
    groups : (a b : List TokenKind) (k : TokenKind) (s : List TokenKind) → a ++ (b ++ k ∷ s) ≡ (a ++ (b ++ k ∷ [])) ++ (s ++ [])
    groups a b k s = simp (append_assoc, append-nil)
fill-spell (InDo f n) s i = refl
fill-spell (InFor f n start test next) s i =
    groups for_open (spell_start start) (spell_option test) (kind.Sign sign.Semi) (spell_option next) (kind.Sign sign.CloseParen) (spell_stmt s)
  where
    groups : (a b c : List TokenKind) (q : TokenKind) (d : List TokenKind) (k : TokenKind) (s : List TokenKind) → a ++ (b ++ (c ++ q ∷ (d ++ k ∷ s))) ≡ (a ++ (b ++ (c ++ q ∷ (d ++ k ∷ [])))) ++ (s ++ [])
    groups a b c q d k s = simp (append_assoc, append-nil)

fill-valid : (f : PendingStmt) (fs : List PendingStmt) (s : StmtTree) → IsInner f → Stands (f ∷ fs) → ValidStmt s → ValidStmt (fill f s)
fill-valid (InBody d) fs s i ok v = absurd i
fill-valid (InBlock f n items) fs s i ok v = statement-valid items s ok.0 v
fill-valid (InIf f n c) fs s i ok v = (ok.0, v)
fill-valid (InElse f n c y) fs s i ok v = (ok.0, ok.3, ok.4, v)
fill-valid (InWhile f n c) fs s i ok v = (ok.0, v)
fill-valid (InDo f n) fs s i ok v = (v, tt)
fill-valid (InFor f n start test next) fs s i ok v = (ok.0, ok.3, ok.4, v)

fill-takes : (f : PendingStmt) (fs : List PendingStmt) (s : StmtTree) → IsInner f → Stands (f ∷ fs) → Takes fs (fill f s)
fill-takes (InBody d) fs s i ok = absurd i
fill-takes (InBlock f n items) fs s i ok = takes-block fs f n (add_statement items s) ok.2
fill-takes (InIf f n c) fs s i ok = takes-any fs (StmtTree.If f n c s) ok.1
fill-takes (InElse f n c y) fs s i ok = takes-any fs (StmtTree.IfElse f n c y s) ok.1
fill-takes (InWhile f n c) fs s i ok = takes-any fs (StmtTree.While f n c s) ok.1
fill-takes (InDo f n) fs s i ok = takes-any fs (StmtTree.Do f n s leaf) ok.0
fill-takes (InFor f n start test next) fs s i ok = takes-any fs (StmtTree.For f n start test next s) ok.1

fill-stands : (f : PendingStmt) (fs : List PendingStmt) → IsInner f → Stands (f ∷ fs) → Stands fs
fill-stands (InBody d) fs i ok = absurd i
fill-stands (InBlock f n items) fs i ok = ok.1
fill-stands (InIf f n c) fs i ok = ok.2
fill-stands (InElse f n c y) fs i ok = ok.2
fill-stands (InWhile f n c) fs i ok = ok.2
fill-stands (InDo f n) fs i ok = ok.1
fill-stands (InFor f n start test next) fs i ok = ok.2

fill-begun : (f : PendingStmt) (fs : List PendingStmt) (s : StmtTree) (j k m : ℕ) → IsInner f → k ≡ length (pending_spell f) + j → j ≤ width_stmt s
    → deepest_stack_path (f ∷ fs) ≤ m → length fs + 1 + begun_stmt s j ≤ m → length fs + begun_stmt (fill f s) k ≤ m
fill-begun (InBody d) fs s j k m i h w l b = absurd i
fill-begun (InBlock f n items) fs s j k m i h w l b =
    omega (arith, node-most k (begun_block (add_statement items s) (k - 1)), statement-begun items s (k - 1) j (omega (arith, h)))
fill-begun (InIf f n c) fs s j k m i h w l b =
    let e : k - (width c + 3) ≡ j = omega (arith, h, length-append (spell c) (kind.Sign sign.CloseParen ∷ [])) in
    omega (arith, node-most k (max (begun c (k - 2)) (begun_stmt s (k - (width c + 3)))), most c (k - 2), ap (λ z. begun_stmt s z) e)
fill-begun (InElse f n c y) fs s j k m i h w l b =
    let e : k - (width c + width_stmt y + 4) ≡ j = omega (arith, h, length-append (spell c) (kind.Sign sign.CloseParen ∷ (spell_stmt y ++ kind.Word word.Else ∷ [])), length-append (spell_stmt y) (kind.Word word.Else ∷ [])) in
    omega (
      arith,
      node-most k (max (begun c (k - 2)) (max (begun_stmt y (k - (width c + 3))) (begun_stmt s (k - (width c + width_stmt y + 4))))),
      most c (k - 2),
      stmt-most y (k - (width c + 3)),
      ap (λ z. begun_stmt s z) e,
    )
fill-begun (InWhile f n c) fs s j k m i h w l b =
    let e : k - (width c + 3) ≡ j = omega (arith, h, length-append (spell c) (kind.Sign sign.CloseParen ∷ [])) in
    omega (arith, node-most k (max (begun c (k - 2)) (begun_stmt s (k - (width c + 3)))), most c (k - 2), ap (λ z. begun_stmt s z) e)
fill-begun (InDo f n) fs s j k m i h w l b =
    let e : k - 1 ≡ j = omega (arith, h) in
    let z : k - (width_stmt s + 3) ≡ 0 = omega (arith, h) in
    omega (arith, node-most k (max (begun_stmt s (k - 1)) (begun leaf (k - (width_stmt s + 3)))), ap (λ z. begun_stmt s z) e, ap (λ z. begun leaf z) z)
fill-begun (InFor f n start test next) fs s j k m i h w l b =
    let a = k - (width_start start + 2) in
    let c = k - (width_start start + width_option test + 3) in
    let d = k - (width_start start + width_option test + width_option next + 4) in
    let tail = spell_option test ++ kind.Sign sign.Semi ∷ (spell_option next ++ kind.Sign sign.CloseParen ∷ []) in
    let e : d ≡ j = omega (
      arith,
      h,
      length-append (spell_start start) tail,
      length-append (spell_option test) (kind.Sign sign.Semi ∷ (spell_option next ++ kind.Sign sign.CloseParen ∷ [])),
      length-append (spell_option next) (kind.Sign sign.CloseParen ∷ []),
    ) in
    omega (
      arith,
      node-most k (max (begun_start start (k - 2)) (max (begun_option test a) (max (begun_option next c) (begun_stmt s d)))),
      start-most start (k - 2),
      option-most test a,
      option-most next c,
      ap (λ z. begun_stmt s z) e,
    )

-- a statement that stands on pending statements
module _ (m : ℕ) where
  body-complete : (d : Definition) (s : StmtTree) (read rest : List TokenKind) → Stands (InBody d ∷ []) → ValidStmt s → IsBlock s → spell_stmt s ≡ read ++ rest
      → deepest_stack_path (InBody d ∷ []) ≤ m → 1 + begun_stmt s (length read) ≤ m → Completes m (stack_spell (InBody d ∷ []) ++ read)
  body-complete d s read rest ok v b g l h =
      let i = ItemTree.Function d.first d.line d.fixed d.spec d.stars d.name d.at d.params s in
      let k = length (stack_spell (InBody d ∷ []) ++ read) in
      let j = length (definition_spell d) + length read in
      let w : length (definition_spell d) ≡ width_static d.fixed + width_spec d.spec + d.stars + width_params d.params + 3 = omega (
        arith,
        length-append (spell_static d.fixed) (spell_spec d.spec ++ spell_function d.stars d.name d.params),
        length-append (spell_spec d.spec) (spell_function d.stars d.name d.params),
        length-function d.stars d.name d.params,
      ) in
      let n : k ≡ length (spell_program d.items) + j = omega (arith, length-append (spell_program d.items ++ definition_spell d) read, length-append (spell_program d.items) (definition_spell d)) in
      let a = j - (width_static d.fixed + width_spec d.spec) in
      let c = j - (width_static d.fixed + width_spec d.spec + d.stars + width_params d.params + 3) in
      let e : c ≡ length read = omega (arith, w) in
      record {
        whole = define d s;
        rest = rest;
        valid = program-some d.items i (define-valid d s ok v b);
        spelled = define-spelled d s ∙ ap (λ ks. stack_spell (InBody d ∷ []) ++ ks) g ∙ sym (append_assoc (stack_spell (InBody d ∷ [])) read rest);
        limit = omega (
          arith,
          item-begun d.items i k j n,
          node-most j (max (begun_spec d.spec (j - width_static d.fixed)) (max (begun_function d.stars d.params a) (begun_stmt s c))),
          spec-most d.spec (j - width_static d.fixed),
          function-most d.stars d.params a,
          ap (λ z. begun_stmt s z) e,
        );
      }
    where
      program-some : (items : ProgramTree) (i : ItemTree) → AllByRecursion ValidItem (items ++ i ∷ []) → ValidProgram (items ++ i ∷ [])
      program-some [] i v = v
      program-some (y ∷ ys) i v = v

  -- what a statement that stands on these pending statements completes to
  abbrev Next : List PendingStmt → Type 0
  Next fs = (s : StmtTree) (read rest : List TokenKind) → Takes fs s → ValidStmt s → spell_stmt s ≡ read ++ rest → length fs + begun_stmt s (length read) ≤ m
      → Completes m (stack_spell fs ++ read)

  wrap : (f : PendingStmt) (fs : List PendingStmt) (s : StmtTree) (read rest : List TokenKind) → IsInner f → Stands (f ∷ fs) → ValidStmt s → spell_stmt s ≡ read ++ rest
      → deepest_stack_path (f ∷ fs) ≤ m → length fs + 1 + begun_stmt s (length read) ≤ m → Next fs → Completes m (stack_spell (f ∷ fs) ++ read)
  wrap f fs s read rest i ok v g l h next =
      let read2 = pending_spell f ++ read in
      let g2 : spell_stmt (fill f s) ≡ read2 ++ (rest ++ behind f) =
      fill-spell f s i ∙ ap (λ ks. pending_spell f ++ (ks ++ behind f)) g ∙ groups (pending_spell f) read rest (behind f) in
      let b : length fs + begun_stmt (fill f s) (length read2) ≤ m =
      fill-begun f fs s (length read) (length read2) m i (length-append (pending_spell f) read) (omega (arith, ap length g, length-append read rest)) l h in
      completes-same m (stack_spell fs ++ read2) (stack_spell (f ∷ fs) ++ read) (sym (append_assoc (stack_spell fs) (pending_spell f) read))
      (next (fill f s) read2 (rest ++ behind f) (fill-takes f fs s i ok) (fill-valid f fs s i ok v) g2 b)
    where
      groups : (a b c d : List TokenKind) → a ++ ((b ++ c) ++ d) ≡ (a ++ b) ++ (c ++ d)
      groups a b c d = simp append_assoc

  pub complete-stmt : (fs : List PendingStmt) (s : StmtTree) (read rest : List TokenKind) → Stands fs → Takes fs s → ValidStmt s → spell_stmt s ≡ read ++ rest
      → deepest_stack_path fs ≤ m → length fs + begun_stmt s (length read) ≤ m → Completes m (stack_spell fs ++ read)
  complete-stmt [] s read rest ok t v g l h = absurd t
  complete-stmt (InBody d ∷ []) s read rest ok t v g l h = body-complete d s read rest ok v t g l h
  complete-stmt (InBody d ∷ (f ∷ fs)) s read rest ok t v g l h = absurd ok.0
  complete-stmt (f ∷ fs) s read rest ok t v g l h =
      wrap f fs s read rest tt ok v g l (omega (arith, h))
      (λ s2 read2 rest2 t2 v2 g2 h2. complete-stmt fs s2 read2 rest2 (fill-stands f fs tt ok) t2 v2 g2 (omega arith) h2)

-- Declarations.
abbrev pub begun_declaration : (fixed : Bool) → SpecTree → List FileTree → ℕ → ℕ
begun_declaration fixed s xs k = node_with k (max (begun_spec s (k - width_static fixed)) (begun_files xs (k - (width_static fixed + width_spec s))))

begun-objects : (o : Scope) (xs : List FileTree) (k : ℕ) → (IsFileScope o → ⊥) → AllByRecursion (MayDeclare o) xs → begun_objs (objects xs) k ≡ begun_files xs k
begun-objects o [] k n v = refl
begun-objects o (FileTree.Object y ∷ xs) k n v = ap (λ z. max (begun_obj y k) z) (begun-objects o xs (k - (width_file (FileTree.Object y) + 1)) n v.1)
begun-objects o (FileTree.Function i name a ps ∷ xs) k n v = absurd (n v.0)

abbrev pub declaration_tokens : (fixed : Bool) → SpecTree → List FileTree → List TokenKind
declaration_tokens fixed s xs = spell_static fixed ++ (spell_spec s ++ (listed spell_file xs ++ kind.Sign sign.Semi ∷ []))

module _ (m : ℕ) where
  pub complete-declaration : (o : Scope) (fixed : Bool) (s : SpecTree) (xs : List FileTree) (read rest : List TokenKind)
      → ScopeOk o → MayBe o fixed → ValidSpec s → AllByRecursion (MayDeclare o) xs → ValidFiles s xs → declaration_tokens fixed s xs ≡ read ++ rest
      → scope_path o ≤ m → scope_depth o + begun_declaration fixed s xs (length read) ≤ m → Completes m (scope_spell o ++ read)
  complete-declaration (FileScope items) fixed s xs read rest ok b v d w g l h =
      let i = ItemTree.Decls 0 0 fixed s xs in
      record {
        whole = items ++ i ∷ [];
        rest = rest;
        valid = program-some items i ok (v, w);
        spelled = item-spelled items i ∙ ap (λ ks. spell_program items ++ ks) g ∙ sym (append_assoc (spell_program items) read rest);
        limit = omega (arith, item-begun items i (length (spell_program items ++ read)) (length read) (length-append (spell_program items) read));
      }
    where
      program-some : (items : ProgramTree) (i : ItemTree) → AllByRecursion ValidItem items → ValidItem i → ValidProgram (items ++ i ∷ [])
      program-some [] i v w = (w, tt)
      program-some (y ∷ ys) i v w = (v.0, all-more ValidItem ys i v.1 w)
  complete-declaration (BlockScope f n items fs) fixed s xs read rest ok b v d w g l h =
      let o = BlockScope f n items fs in
      let y : LocalTree = record { first = 0; line = 0; fixed = fixed; spec = s; names = objects xs } in
      let e : spell_local y ≡ declaration_tokens fixed s xs = ap (λ ks. spell_static fixed ++ (spell_spec s ++ (ks ++ kind.Sign sign.Semi ∷ []))) (all-objects o xs (λ z. z) d) in
      let t = StmtTree.Block f n (add_local items y) in
      let read2 = kind.Sign sign.OpenBrace ∷ (spell_block items ++ read) in
      let k = length read2 in
      let r = length read in
      let n2 : k ≡ 1 + length (spell_block items) + r = omega (arith, length-append (spell_block items) read) in
      let p : begun_local y r ≡ begun_declaration fixed s xs r =
      ap (λ z. node_with r (max (begun_spec s (r - width_static fixed)) z)) (begun-objects o xs (r - (width_static fixed + width_spec s)) (λ z. z) d) in
      completes-same m (stack_spell fs ++ read2) (scope_spell o ++ read) (sym (append_assoc (stack_spell fs) (kind.Sign sign.OpenBrace ∷ spell_block items) read)) (
      complete-stmt m fs t read2 (rest ++ kind.Sign sign.CloseBrace ∷ []) ok.1 (takes-block fs f n (add_local items y) ok.2) (local-valid items y ok.0 (v, valid-names o s xs (λ z. z) d w))
      (
      ap (λ ks. kind.Sign sign.OpenBrace ∷ (ks ++ kind.Sign sign.CloseBrace ∷ [])) (local-spelled items y ∙ ap (λ ks. spell_block items ++ ks) (e ∙ g))
      ∙ ap (λ ks. kind.Sign sign.OpenBrace ∷ ks) (groups (spell_block items) read rest (kind.Sign sign.CloseBrace ∷ []))
      )
      (omega arith)
      (omega (arith, node-most k (begun_block (add_local items y) (k - 1)), local-begun items y (k - 1) r (omega (arith, n2)), p))
      )
    where
      groups : (a b c d : List TokenKind) → (a ++ (b ++ c)) ++ d ≡ (a ++ b) ++ (c ++ d)
      groups a b c d = simp append_assoc
  complete-declaration (ForScope f n fs) fixed s xs read rest ok b v d w g l h =
      let o = ForScope f n fs in
      let y : LocalTree = record { first = 0; line = 0; fixed = fixed; spec = s; names = objects xs } in
      let e : spell_local y ≡ declaration_tokens fixed s xs = ap (λ ks. spell_static fixed ++ (spell_spec s ++ (ks ++ kind.Sign sign.Semi ∷ []))) (all-objects o xs (λ z. z) d) in
      let t = StmtTree.For f n (StartTree.Local y) None None empty in
      let tail = kind.Sign sign.Semi ∷ (kind.Sign sign.CloseParen ∷ (kind.Sign sign.Semi ∷ [])) in
      let read2 = for_open ++ read in
      let k = length read2 in
      let r = length read in
      let n2 : k - 2 ≡ r = omega arith in
      let z : k - (width_local y + 0 + 0 + 4) ≡ 0 = omega (arith, ap length (e ∙ g), length-append read rest) in
      let p : begun_local y (k - 2) ≡ begun_declaration fixed s xs r =
      ap (λ i. begun_local y i) n2 ∙ ap (λ q. node_with r (max (begun_spec s (r - width_static fixed)) q)) (begun-objects o xs (r - (width_static fixed + width_spec s)) (λ i. i) d) in
      completes-same m (stack_spell fs ++ read2) (scope_spell o ++ read) (sym (append_assoc (stack_spell fs) for_open read)) (
      complete-stmt m fs t read2 (rest ++ tail) ok.1 (takes-any fs t ok.0) ((b, (v, valid-names o s xs (λ i. i) d w)), tt, tt, tt)
      (ap (λ ks. for_open ++ (ks ++ tail)) (e ∙ g) ∙ groups for_open read rest tail)
      (omega arith)
      (
      omega (
        arith,
        node-most k (max (begun_local y (k - 2)) (max 0 (max 0 (begun_stmt empty (k - (width_local y + 0 + 0 + 4)))))),
        p,
        ap (λ i. begun_stmt empty i) z,
      )
      )
      )
    where
      groups : (a b c d : List TokenKind) → a ++ ((b ++ c) ++ d) ≡ (a ++ b) ++ (c ++ d)
      groups a b c d = simp append_assoc

  -- a declarator
  pub complete-name : (d : Declaration) (y : FileTree) (read rest : List TokenKind) → DeclarationOk d → ValidFile y → MayDeclare d.heading.scope y → spell_file y ≡ read ++ rest
      → declaration_path d ≤ m → depth_in d + begun_file y (length read) ≤ m → Completes m (declaration_spell d ++ read)
  complete-name d y read rest ok v w g l h =
      let o = d.heading.scope in
      let fixed = d.heading.fixed in
      let xs = d.names ++ y ∷ [] in
      let read2 = spell_static fixed ++ (spell_spec d.spec ++ (names_before d.names ++ read)) in
      let k = length read2 in
      let a = k - (width_static fixed + width_spec d.spec) in
      let n : k ≡ width_static fixed + width_spec d.spec + length (names_before d.names) + length read = omega (
        arith,
        length-append (spell_static fixed) (spell_spec d.spec ++ (names_before d.names ++ read)),
        length-append (spell_spec d.spec) (names_before d.names ++ read),
        length-append (names_before d.names) read,
      ) in
      completes-same m (scope_spell o ++ read2) (declaration_spell d ++ read) (groups (scope_spell o) (spell_static fixed) (spell_spec d.spec) (names_before d.names) read) (
      complete-declaration o fixed d.spec xs read2 (rest ++ kind.Sign sign.Semi ∷ []) ok.0.0 ok.0.1 ok.1 (all-more (MayDeclare o) d.names y ok.3 w) (valid-more d.spec d.names y ok.2 v)
      (
      ap (λ ks. spell_static fixed ++ (spell_spec d.spec ++ (ks ++ kind.Sign sign.Semi ∷ []))) (name-spelled d.names y ∙ ap (λ ks. names_before d.names ++ ks) g)
      ∙ regroup (spell_static fixed) (spell_spec d.spec) (names_before d.names) read rest (kind.Sign sign.Semi ∷ [])
      )
      (omega arith)
      (
      omega (
        arith,
        node-most k (max (begun_spec d.spec (k - width_static fixed)) (begun_files xs a)),
        spec-most d.spec (k - width_static fixed),
        name-begun d.names y a (length read) (omega (arith, n)),
      )
      )
      )
    where
      groups : (o f s n r : List TokenKind) → o ++ (f ++ (s ++ (n ++ r))) ≡ ((o ++ f) ++ (s ++ n)) ++ r
      groups o f s n r = simp append_assoc

      regroup : (f s n r t k : List TokenKind) → f ++ (s ++ ((n ++ (r ++ t)) ++ k)) ≡ (f ++ (s ++ (n ++ r))) ++ (t ++ k)
      regroup f s n r t k = simp append_assoc
