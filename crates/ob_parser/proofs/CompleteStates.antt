-- Each state of the machine can be made a whole program in which no further node has begun.
use Rattle.std.proofs.Common.{◌≡◌, ℕ, ◌+◌, ◌-◌, ◌≤◌, inl, inr, max, List, [], ◌∷◌, ◌++◌, length, false, Some, None, refl, sym, ◌∙◌, ap, arith, append_assoc, append-nil, length-append}
use Rattle.ob_tree.specs.declared.tokens.TokenKind.{TokenKind}
use Rattle.ob_tree.specs.declared.tokens.TokenKind.TheVariants as kind
use Rattle.ob_tree.specs.declared.tokens.Keyword.TheVariants as word
use Rattle.ob_tree.specs.declared.tokens.Sign.TheVariants as sign
use Rattle.ob_tree.specs.Trees.{ExprTree, SpecTree, ObjTree, DimTrees, InitTree}
use Rattle.ob_tree.specs.Programs.{StartTree, StmtTree, ParamTree, ParamsTree, FileTree, ProgramTree}
use Rattle.ob_tree.specs.Spelling.{stars, spell, spell_spec, spell_dims, spell_init}
use Rattle.ob_tree.specs.ProgramSpelling.{spell_option, spell_start, spell_stmt, spell_params, spell_program}
use Rattle.ob_tree.specs.Valid.{IsOf}
use Rattle.ob_tree.specs.ProgramValid.{ValidStmt}
use Rattle.ob_tree.specs.Places.{width, width_dims}
use Rattle.ob_tree.specs.Paths.{begun}
use Rattle.ob_tree.specs.ProgramPlaces.{width_option, width_start, width_stmt}
use Rattle.ob_tree.specs.ProgramPaths.{begun_option, begun_start, begun_stmt, height_stmt}
use Rattle.ob_tree.specs.ExprMachine as reader
use Rattle.ob_tree.proofs.SpecShifts.{length-stars}
use Rattle.ob_tree.specs.ProgramStates.{PendingStmt, InBody, InBlock, InIf, InElse, InWhile, InDo, InFor, FileScope, Declaration, Declarator, ParamList, Head, InitDeclarator, InitList, SpecContext, ExprContext, Statement, IfTest, WhileTest, DoTest, ForStart, ForTest, ForNext, Return, Length, Item, State, Items, Specifying, Declare, Dims, Optional, Reading, Init, AfterInit, Params, NextParam, Param, Closed, Begin, Opening, ForWord, ForOpen, Semi, Done}
use Rattle.ob_tree.specs.ProgramParts.{function}
use Rattle.ob_tree.specs.ProgramMachine.{context_level}
use Rattle.ob_exprs.proofs.Adding.{dims-added}
use Rattle.ob_exprs.proofs.Filling.{leaf, x, valid-x}
use Rattle.ob_exprs.proofs.Shapes as expr
use Rattle.ob_exprs.proofs.Complete as expr_complete
use Rattle.ob_exprs.proofs.States as expr_states
use Rattle.ob_parser.specs.DeepestPaths.{deepest_stack_path, param_list_path, init_declarator_depth, lists_path, spec_depth, context_depth, context_path, deepest_path}
use Rattle.ob_parser.proofs.Most.{node-most, dims-most, init-most, option-most, start-most, stmt-most, param-most, function-most}
use Rattle.ob_parser.proofs.Shapes.{if_open, while_open, for_open, stack_spell, declaration_spell, param_list_spell, head_spell, lists_spell, spec_context_spell, opening_spell, context_spell, semi_spell, state_spell, TakesStmt, Stands, DeclarationOk, ParamListOk, SpecContextOk, IsTest, ContextOk, SemiOk, StateOk}
use Rattle.ob_parser.proofs.Adding.{open-valid, dim-begun}
use Rattle.ob_parser.proofs.SoundContexts.{takes-any, use-low}
use Rattle.ob_parser.proofs.Complete.{Completes, completes-same, empty, complete-stmt, complete-declaration, complete-name}
use Rattle.ob_parser.proofs.CompleteNames.{complete-init, complete-param, complete-head, complete-spec}

-- a statement has a node, and the nodes above one have begun
pub stmt-some : (s : StmtTree) → 1 ≤ height_stmt s
stmt-some (StmtTree.Block f n items) = omega arith
stmt-some (StmtTree.Expr f n e) = omega arith
stmt-some (StmtTree.If f n c s) = omega arith
stmt-some (StmtTree.IfElse f n c s t) = omega arith
stmt-some (StmtTree.While f n c s) = omega arith
stmt-some (StmtTree.Do f n s c) = omega arith
stmt-some (StmtTree.For f n start test next s) = omega arith
stmt-some (StmtTree.Break f n) = omega arith
stmt-some (StmtTree.Continue f n) = omega arith
stmt-some (StmtTree.Return f n e) = omega arith

stack-deep : (fs : List PendingStmt) → Stands fs → TakesStmt fs → length fs ≤ deepest_stack_path fs
stack-deep [] ok t = absurd t
stack-deep (InBody d ∷ fs) ok t = absurd t
stack-deep (InBlock f n items ∷ fs) ok t = omega arith
stack-deep (InIf f n c ∷ fs) ok t = omega arith
stack-deep (InElse f n c y ∷ fs) ok t = omega arith
stack-deep (InWhile f n c ∷ fs) ok t = omega arith
stack-deep (InDo f n ∷ fs) ok t = omega arith
stack-deep (InFor f n start test next ∷ fs) ok t = omega arith

module _ (m : ℕ) where
  -- a statement of which these tokens were read
  part : (fs : List PendingStmt) (s : StmtTree) (read rest : List TokenKind) → TakesStmt fs → Stands fs → ValidStmt s → spell_stmt s ≡ read ++ rest
      → deepest_stack_path fs ≤ m → length fs + begun_stmt s (length read) ≤ m → Completes m (stack_spell fs ++ read)
  part fs s read rest t ok v g l h = complete-stmt m fs s read rest ok (takes-any fs s t) v g l h

  -- an expression
  pub complete-use : (u : ExprContext) (e : ExprTree) (read rest : List TokenKind) → ContextOk u → IsOf (context_level u) e → spell e ≡ read ++ rest
      → context_path u ≤ m → context_depth u + begun e (length read) ≤ m → Completes m (context_spell u ++ read)
  complete-use (Statement f n fs) e read rest ok v g l h =
      part fs (StmtTree.Expr f n (Some e)) read (rest ++ kind.Sign sign.Semi ∷ []) ok.0 ok.1 v.0 (ap (λ ks. ks ++ kind.Sign sign.Semi ∷ []) g ∙ append_assoc read rest (kind.Sign sign.Semi ∷ [])) (omega arith)
      (omega (arith, node-most (length read) (begun e (length read))))
  complete-use (IfTest f n fs) e read rest ok v g l h =
      let read2 = if_open ++ read in
      let k = length read2 in
      let i : k - 2 ≡ length read = omega arith in
      let z : k - (width e + 3) ≡ 0 = omega (arith, ap length g, length-append read rest) in
      let tail = kind.Sign sign.CloseParen ∷ spell_stmt empty in
      completes-same m (stack_spell fs ++ read2) ((stack_spell fs ++ if_open) ++ read) (sym (append_assoc (stack_spell fs) if_open read)) (
      part fs (StmtTree.If f n e empty) read2 (rest ++ tail) ok.0 ok.1 (v.0, tt) (ap (λ ks. if_open ++ (ks ++ tail)) g ∙ ap (λ ks. if_open ++ ks) (append_assoc read rest tail)) (omega arith)
      (omega (arith, node-most k (max (begun e (k - 2)) (begun_stmt empty (k - (width e + 3)))), ap (λ j. begun e j) i, ap (λ j. begun_stmt empty j) z))
      )
  complete-use (WhileTest f n fs) e read rest ok v g l h =
      let read2 = while_open ++ read in
      let k = length read2 in
      let i : k - 2 ≡ length read = omega arith in
      let z : k - (width e + 3) ≡ 0 = omega (arith, ap length g, length-append read rest) in
      let tail = kind.Sign sign.CloseParen ∷ spell_stmt empty in
      completes-same m (stack_spell fs ++ read2) ((stack_spell fs ++ while_open) ++ read) (sym (append_assoc (stack_spell fs) while_open read)) (
      part fs (StmtTree.While f n e empty) read2 (rest ++ tail) ok.0 ok.1 (v.0, tt) (ap (λ ks. while_open ++ (ks ++ tail)) g ∙ ap (λ ks. while_open ++ ks) (append_assoc read rest tail)) (omega arith)
      (omega (arith, node-most k (max (begun e (k - 2)) (begun_stmt empty (k - (width e + 3)))), ap (λ j. begun e j) i, ap (λ j. begun_stmt empty j) z))
      )
  complete-use (DoTest f n s fs) e read rest ok v g l h =
      let tail = kind.Sign sign.CloseParen ∷ (kind.Sign sign.Semi ∷ []) in
      let read2 = kind.Word word.Do ∷ (spell_stmt s ++ (while_open ++ read)) in
      let k = length read2 in
      let n2 : k ≡ width_stmt s + 3 + length read = omega (arith, length-append (spell_stmt s) (while_open ++ read)) in
      let i : k - (width_stmt s + 3) ≡ length read = omega (arith, n2) in
      completes-same m (stack_spell fs ++ read2) (context_spell (DoTest f n s fs) ++ read) (groups (stack_spell fs) (kind.Word word.Do) (spell_stmt s) while_open read) (
      part fs (StmtTree.Do f n s e) read2 (rest ++ tail) ok.0 ok.1 (ok.2, v.0)
      (ap (λ ks. kind.Word word.Do ∷ (spell_stmt s ++ (while_open ++ (ks ++ tail)))) g ∙ ap (λ ks. kind.Word word.Do ∷ ks) (regroup (spell_stmt s) while_open read rest tail)) (omega arith)
      (omega (arith, node-most k (max (begun_stmt s (k - 1)) (begun e (k - (width_stmt s + 3)))), stmt-most s (k - 1), ap (λ j. begun e j) i))
      )
    where
      groups : (a : List TokenKind) (d : TokenKind) (s w r : List TokenKind) → a ++ d ∷ (s ++ (w ++ r)) ≡ (a ++ d ∷ (s ++ w)) ++ r
      groups a d s w r = simp append_assoc

      regroup : (s w r t k : List TokenKind) → s ++ (w ++ ((r ++ t) ++ k)) ≡ (s ++ (w ++ r)) ++ (t ++ k)
      regroup s w r t k = simp append_assoc
  complete-use (ForStart f n fs) e read rest ok v g l h =
      let t = StmtTree.For f n (StartTree.Expr (Some e)) None None empty in
      let tail = kind.Sign sign.Semi ∷ (kind.Sign sign.Semi ∷ (kind.Sign sign.CloseParen ∷ spell_stmt empty)) in
      let read2 = for_open ++ read in
      let k = length read2 in
      let w = width_start (StartTree.Expr (Some e)) in
      let wide : w ≡ width e + 1 = length-append (spell e) (kind.Sign sign.Semi ∷ []) in
      let i : k - 2 ≡ length read = omega arith in
      let z : k - (w + 0 + 0 + 4) ≡ 0 = omega (arith, wide, ap length g, length-append read rest) in
      completes-same m (stack_spell fs ++ read2) ((stack_spell fs ++ for_open) ++ read) (sym (append_assoc (stack_spell fs) for_open read)) (
      part fs t read2 (rest ++ tail) ok.0 ok.1 (v.0, tt, tt, tt) (ap (λ ks. for_open ++ ((ks ++ kind.Sign sign.Semi ∷ []) ++ (kind.Sign sign.Semi ∷ (kind.Sign sign.CloseParen ∷ spell_stmt empty)))) g ∙ ap (λ ks. for_open ++ ks) (regroup read rest (kind.Sign sign.Semi) (kind.Sign sign.Semi ∷ (kind.Sign sign.CloseParen ∷ spell_stmt empty)))) (omega arith)
      (omega (arith, node-most k (max (begun e (k - 2)) (max 0 (max 0 (begun_stmt empty (k - (w + 0 + 0 + 4)))))), ap (λ j. begun e j) i, ap (λ j. begun_stmt empty j) z))
      )
    where
      regroup : (r t : List TokenKind) (q : TokenKind) (k : List TokenKind) → ((r ++ t) ++ q ∷ []) ++ k ≡ r ++ (t ++ q ∷ k)
      regroup r t q k = simp append_assoc
  complete-use (ForTest f n start fs) e read rest ok v g l h =
      let t = StmtTree.For f n start (Some e) None empty in
      let tail = kind.Sign sign.Semi ∷ (kind.Sign sign.CloseParen ∷ spell_stmt empty) in
      let read2 = for_open ++ (spell_start start ++ read) in
      let k = length read2 in
      let w = width_start start in
      let n2 : k ≡ w + 2 + length read = omega (arith, length-append (spell_start start) read) in
      let i : k - (w + 2) ≡ length read = omega (arith, n2) in
      let z : k - (w + width e + 0 + 4) ≡ 0 = omega (arith, n2, ap length g, length-append read rest) in
      completes-same m (stack_spell fs ++ read2) (context_spell (ForTest f n start fs) ++ read) (groups (stack_spell fs) for_open (spell_start start) read) (
      part fs t read2 (rest ++ tail) ok.0 ok.1 (ok.2, v.0, tt, tt) (ap (λ ks. for_open ++ (spell_start start ++ (ks ++ tail))) g ∙ ap (λ ks. for_open ++ ks) (regroup (spell_start start) read rest tail)) (omega arith)
      (omega (arith, node-most k (max (begun_start start (k - 2)) (max (begun e (k - (w + 2))) (max 0 (begun_stmt empty (k - (w + width e + 0 + 4)))))), start-most start (k - 2), ap (λ j. begun e j) i, ap (λ j. begun_stmt empty j) z))
      )
    where
      groups : (a b c r : List TokenKind) → a ++ (b ++ (c ++ r)) ≡ (a ++ (b ++ c)) ++ r
      groups a b c r = simp append_assoc

      regroup : (s r t k : List TokenKind) → s ++ ((r ++ t) ++ k) ≡ (s ++ r) ++ (t ++ k)
      regroup s r t k = simp append_assoc
  complete-use (ForNext f n start test fs) e read rest ok v g l h =
      let t = StmtTree.For f n start test (Some e) empty in
      let tail = kind.Sign sign.CloseParen ∷ spell_stmt empty in
      let read2 = for_open ++ (spell_start start ++ (spell_option test ++ kind.Sign sign.Semi ∷ read)) in
      let k = length read2 in
      let w = width_start start in
      let o = width_option test in
      let n2 : k ≡ w + o + 3 + length read = omega (arith, length-append (spell_start start) (spell_option test ++ kind.Sign sign.Semi ∷ read), length-append (spell_option test) (kind.Sign sign.Semi ∷ read)) in
      let i : k - (w + o + 3) ≡ length read = omega (arith, n2) in
      let z : k - (w + o + width e + 4) ≡ 0 = omega (arith, n2, ap length g, length-append read rest) in
      completes-same m (stack_spell fs ++ read2) (context_spell (ForNext f n start test fs) ++ read) (groups (stack_spell fs) for_open (spell_start start) (spell_option test) (kind.Sign sign.Semi) read) (
      part fs t read2 (rest ++ tail) ok.0 ok.1 (ok.2, ok.3, v.0, tt)
      (ap (λ ks. for_open ++ (spell_start start ++ (spell_option test ++ kind.Sign sign.Semi ∷ (ks ++ tail)))) g ∙ ap (λ ks. for_open ++ ks) (regroup (spell_start start) (spell_option test) (kind.Sign sign.Semi) read rest tail)) (omega arith)
      (
      omega (
        arith,
        node-most k (max (begun_start start (k - 2)) (max (begun_option test (k - (w + 2))) (max (begun e (k - (w + o + 3))) (begun_stmt empty (k - (w + o + width e + 4)))))),
        start-most start (k - 2),
        option-most test (k - (w + 2)),
        ap (λ j. begun e j) i,
        ap (λ j. begun_stmt empty j) z,
      )
      )
      )
    where
      groups : (a b c d : List TokenKind) (q : TokenKind) (r : List TokenKind) → a ++ (b ++ (c ++ (d ++ q ∷ r))) ≡ (a ++ (b ++ (c ++ (d ++ q ∷ [])))) ++ r
      groups a b c d q r = simp append_assoc

      regroup : (s d : List TokenKind) (q : TokenKind) (r t k : List TokenKind) → s ++ (d ++ q ∷ ((r ++ t) ++ k)) ≡ (s ++ (d ++ q ∷ r)) ++ (t ++ k)
      regroup s d q r t k = simp append_assoc
  complete-use (Return f n fs) e read rest ok v g l h =
      let read2 = kind.Word word.Return ∷ read in
      let k = length read2 in
      let i : k - 1 ≡ length read = omega arith in
      completes-same m (stack_spell fs ++ read2) (context_spell (Return f n fs) ++ read) (sym (append_assoc (stack_spell fs) (kind.Word word.Return ∷ []) read)) (
      part fs (StmtTree.Return f n (Some e)) read2 (rest ++ kind.Sign sign.Semi ∷ []) ok.0 ok.1 v.0
      (ap (λ ks. kind.Word word.Return ∷ (ks ++ kind.Sign sign.Semi ∷ [])) g ∙ ap (λ ks. kind.Word word.Return ∷ ks) (append_assoc read rest (kind.Sign sign.Semi ∷ []))) (omega arith)
      (omega (arith, node-most k (begun e (k - 1)), ap (λ j. begun e j) i))
      )
  complete-use (Length b ds) e read rest ok v g l h =
      let read2 = spell_dims ds ++ kind.Sign sign.OpenBracket ∷ read in
      let k = length read2 in
      let n : k ≡ width_dims ds + 1 + length read = length-append (spell_dims ds) (kind.Sign sign.OpenBracket ∷ read) ∙ omega arith in
      completes-same m (head_spell b ++ read2) (context_spell (Length b ds) ++ read) (groups (head_spell b) (spell_dims ds) (kind.Sign sign.OpenBracket) read) (
      complete-head m b (reader.add_dim ds e) read2 (rest ++ kind.Sign sign.CloseBracket ∷ []) ok.0 (open-valid ds e ok.1 v)
      (dims-added ds e ∙ ap (λ ks. spell_dims ds ++ kind.Sign sign.OpenBracket ∷ (ks ++ kind.Sign sign.CloseBracket ∷ [])) g ∙ regroup (spell_dims ds) (kind.Sign sign.OpenBracket) read rest (kind.Sign sign.CloseBracket ∷ [])) (omega arith)
      (omega (arith, dim-begun ds e k (length read) n))
      )
    where
      groups : (a b : List TokenKind) (o : TokenKind) (r : List TokenKind) → a ++ (b ++ o ∷ r) ≡ (a ++ (b ++ o ∷ [])) ++ r
      groups a b o r = simp append_assoc

      regroup : (b : List TokenKind) (o : TokenKind) (r t k : List TokenKind) → b ++ o ∷ ((r ++ t) ++ k) ≡ (b ++ o ∷ r) ++ (t ++ k)
      regroup b o r t k = simp append_assoc
  complete-use (Item t is) e read rest ok v g l h = complete-init m t is (InitTree.Value e) read rest ok.0 ok.1 v g l h

  -- the nodes above an expression have begun
  lists-depth : (t : InitDeclarator) (is : List InitList) → init_declarator_depth t + length is ≤ lists_path t is
  lists-depth t [] = omega arith
  lists-depth t (b ∷ is) = omega (arith, lists-depth t is)

  use-deep : (u : ExprContext) → context_depth u ≤ context_path u
  use-deep (Statement f n fs) = omega arith
  use-deep (IfTest f n fs) = omega arith
  use-deep (WhileTest f n fs) = omega arith
  use-deep (DoTest f n s fs) = omega (arith, stmt-some s)
  use-deep (ForStart f n fs) = omega arith
  use-deep (ForTest f n start fs) = omega arith
  use-deep (ForNext f n start test fs) = omega arith
  use-deep (Return f n fs) = omega arith
  use-deep (Length h ds) = omega arith
  use-deep (Item t is) = lists-depth t is

  optional-whole : (u : ExprContext) → ContextOk u → context_path u ≤ m → Completes m (context_spell u)
  optional-whole u ok l =
      completes-same m (context_spell u ++ []) (context_spell u) (append-nil (context_spell u)) (complete-use u leaf [] (spell leaf) ok (tt, omega (arith, use-low u)) refl l (omega (arith, use-deep u)))

  reading-whole : (u : ExprContext) (s : reader.State) → ContextOk u → expr.StateOk (context_level u) s → deepest_path (Reading u s) ≤ m → Completes m (context_spell u ++ expr.state_spell s)
  reading-whole u s ok v l = go (expr_states.state-whole (context_level u) (m - context_depth u) s v (omega arith))
    where
      go : expr_complete.Completes (context_level u) (m - context_depth u) (expr.state_spell s) → Completes m (context_spell u ++ expr.state_spell s)
      go (inl b) = complete-use u b.1.whole (expr.state_spell s) b.1.rest ok b.1.valid b.1.spelled (omega arith) (omega (arith, b.1.limit))
      go (inr b) = absurd (omega (arith, b.0, use-low u))

  specifying-whole : (u : SpecContext) (s : reader.State) → SpecContextOk u → expr.StateOk 17 s → deepest_path (Specifying u s) ≤ m → Completes m (spec_context_spell u ++ expr.state_spell s)
  specifying-whole u s ok v l = go (expr_states.state-whole 17 (m - spec_depth u) s v (omega arith))
    where
      go : expr_complete.Completes 17 (m - spec_depth u) (expr.state_spell s) → Completes m (spec_context_spell u ++ expr.state_spell s)
      go (inl b) = absurd (omega (arith, b.0))
      go (inr b) = complete-spec m u b.1.whole (expr.state_spell s) b.1.rest ok b.1.valid b.1.spelled (omega arith) (omega (arith, b.1.limit))

  -- nothing was read of the next external declaration
  items-whole : (items : ProgramTree) → StateOk (Items items) → deepest_path (Items items) ≤ m → Completes m (spell_program items)
  items-whole items ok l =
      completes-same m (spell_program items ++ []) (spell_program items) (append-nil (spell_program items)) (
      complete-declaration m (FileScope items) false (SpecTree.Tag 0 x) [] [] (kind.Word word.Struct ∷ (kind.Name x ∷ (kind.Sign sign.Semi ∷ []))) ok tt valid-x tt tt refl l (omega arith)
      )

  declare-whole : (d : Declaration) (n : ℕ) → DeclarationOk d → deepest_path (Declare d n) ≤ m → Completes m (declaration_spell d ++ stars n)
  declare-whole d n ok l =
      let y = FileTree.Object (ObjTree.Bare n x 0 DimTrees.NoDims) in
      complete-name m d y (stars n) (kind.Name x ∷ []) ok (valid-x, tt) tt refl (omega arith) (omega (arith, length-stars n))

  int : SpecTree
  int = SpecTree.Integer 0 (word.Int ∷ [])

  next-param-whole : (l : ParamList) → ParamListOk l → param_list_path l ≤ m → Completes m (param_list_spell l)
  unfolding int
  next-param-whole l ok h =
      let y : ParamTree = record { first = 0; line = 0; spec = int; stars = 0; name = None; at = 0; dims = DimTrees.NoDims } in
      completes-same m (param_list_spell l ++ []) (param_list_spell l) (append-nil (param_list_spell l)) (complete-param m l y [] (kind.Word word.Int ∷ []) ok (refl, tt, tt) refl h (omega arith))

  param-whole : (l : ParamList) (f n : ℕ) (s : SpecTree) (i : ℕ) → StateOk (Param l f n s i) → deepest_path (Param l f n s i) ≤ m → Completes m (param_list_spell l ++ (spell_spec s ++ stars i))
  param-whole l f n s i ok h =
      let y : ParamTree = record { first = f; line = n; spec = s; stars = i; name = None; at = f; dims = DimTrees.NoDims } in
      complete-param m l y (spell_spec s ++ stars i) [] ok.0 (ok.1, tt, tt) (ap (λ ks. spell_spec s ++ ks) (append-nil (stars i)) ∙ sym (append-nil (spell_spec s ++ stars i))) (omega arith)
      (omega (arith, param-most y (length (spell_spec s ++ stars i))))

  closed-whole : (y : Declarator) (ps : ParamsTree) → StateOk (Closed y ps) → deepest_path (Closed y ps) ≤ m → Completes m (state_spell (Closed y ps))
  closed-whole y ps ok l =
      let call = kind.Sign sign.OpenParen ∷ (spell_params ps ++ kind.Sign sign.CloseParen ∷ []) in
      let read = stars y.stars ++ kind.Name y.name ∷ call in
      completes-same m (declaration_spell y.declaration ++ read) (state_spell (Closed y ps)) (groups (declaration_spell y.declaration) (stars y.stars) (kind.Name y.name) call) (
      complete-name m y.declaration (function y ps) read [] ok.0.0 (ok.0.1, ok.2) ok.1 (sym (append-nil read)) (omega arith) (omega (arith, function-most y.stars ps (length read)))
      )
    where
      groups : (d s : List TokenKind) (n : TokenKind) (c : List TokenKind) → d ++ (s ++ n ∷ c) ≡ (d ++ (s ++ n ∷ [])) ++ c
      groups d s n c = simp append_assoc

  dims-whole : (h : Head) (ds : DimTrees) → StateOk (Dims h ds) → deepest_path (Dims h ds) ≤ m → Completes m (head_spell h ++ spell_dims ds)
  dims-whole h ds ok l = complete-head m h ds (spell_dims ds) [] ok.0 ok.1 (sym (append-nil (spell_dims ds))) (omega arith) (omega (arith, dims-most ds (width_dims ds)))

  init-whole : (t : InitDeclarator) (is : List InitList) → StateOk (Init t is) → lists_path t is ≤ m → Completes m (lists_spell t is)
  init-whole t is ok l =
      completes-same m (lists_spell t is ++ []) (lists_spell t is) (append-nil (lists_spell t is))
      (complete-init m t is (InitTree.Value leaf) [] (spell leaf) ok.0 ok.1 (tt, omega arith) refl l (omega (arith, lists-depth t is)))

  after-init-whole : (t : InitDeclarator) (is : List InitList) (i : InitTree) → StateOk (AfterInit t is i) → deepest_path (AfterInit t is i) ≤ m → Completes m (lists_spell t is ++ spell_init i)
  after-init-whole t is i ok l =
      complete-init m t is i (spell_init i) [] ok.0 ok.1 ok.2 (sym (append-nil (spell_init i))) (omega arith) (omega (arith, init-most i (length (spell_init i))))

  begin-whole : (fs : List PendingStmt) → TakesStmt fs → Stands fs → deepest_stack_path fs ≤ m → Completes m (stack_spell fs)
  begin-whole fs t ok l =
      completes-same m (stack_spell fs ++ []) (stack_spell fs) (append-nil (stack_spell fs)) (part fs empty [] (kind.Sign sign.Semi ∷ []) t ok tt refl l (omega (arith, stack-deep fs ok t)))

  opening-whole : (u : ExprContext) → IsTest u → ContextOk u → context_path u ≤ m → Completes m (opening_spell u)
  opening-whole (IfTest f n fs) i ok l =
      part fs (StmtTree.If f n leaf empty) (kind.Word word.If ∷ []) (kind.Sign sign.OpenParen ∷ (spell leaf ++ kind.Sign sign.CloseParen ∷ spell_stmt empty)) ok.0 ok.1 (tt, tt) refl (omega arith) (omega arith)
  opening-whole (WhileTest f n fs) i ok l =
      part fs (StmtTree.While f n leaf empty) (kind.Word word.While ∷ []) (kind.Sign sign.OpenParen ∷ (spell leaf ++ kind.Sign sign.CloseParen ∷ spell_stmt empty)) ok.0 ok.1 (tt, tt) refl (omega arith) (omega arith)
  opening-whole (DoTest f n s fs) i ok l =
      let read = kind.Word word.Do ∷ (spell_stmt s ++ kind.Word word.While ∷ []) in
      let tail = kind.Sign sign.OpenParen ∷ (spell leaf ++ kind.Sign sign.CloseParen ∷ (kind.Sign sign.Semi ∷ [])) in
      let k = length read in
      let z : k - (width_stmt s + 3) ≡ 0 = omega (arith, length-append (spell_stmt s) (kind.Word word.While ∷ [])) in
      part fs (StmtTree.Do f n s leaf) read tail ok.0 ok.1 (ok.2, tt) (ap (λ ks. kind.Word word.Do ∷ ks) (sym (append_assoc (spell_stmt s) (kind.Word word.While ∷ []) tail))) (omega arith)
      (omega (arith, node-most k (max (begun_stmt s (k - 1)) (begun leaf (k - (width_stmt s + 3)))), stmt-most s (k - 1), ap (λ j. begun leaf j) z))
  opening-whole u i ok l = absurd i

  for-whole : (f n : ℕ) (fs : List PendingStmt) (read rest : List TokenKind) → TakesStmt fs → Stands fs → max (deepest_stack_path fs) (length fs + 1) ≤ m → length read ≤ 2
      → spell_stmt (StmtTree.For f n (StartTree.Expr None) None None empty) ≡ read ++ rest → Completes m (stack_spell fs ++ read)
  for-whole f n fs read rest t ok l w g =
      let k = length read in
      let z : k - 5 ≡ 0 = omega arith in
      part fs (StmtTree.For f n (StartTree.Expr None) None None empty) read rest t ok (tt, tt, tt, tt) g (omega arith)
      (omega (arith, node-most k (max 0 (max 0 (max 0 (begun_stmt empty (k - 5))))), ap (λ j. begun_stmt empty j) z))

  semi-whole : (s : StmtTree) (fs : List PendingStmt) → SemiOk s → TakesStmt fs → Stands fs → deepest_path (Semi s fs) ≤ m → Completes m (stack_spell fs ++ semi_spell s)
  semi-whole (StmtTree.Break f n) fs v t ok l = part fs (StmtTree.Break f n) (kind.Word word.Break ∷ []) (kind.Sign sign.Semi ∷ []) t ok tt refl (omega arith) (omega arith)
  semi-whole (StmtTree.Continue f n) fs v t ok l = part fs (StmtTree.Continue f n) (kind.Word word.Continue ∷ []) (kind.Sign sign.Semi ∷ []) t ok tt refl (omega arith) (omega arith)
  semi-whole (StmtTree.Do f n s c) fs v t ok l =
      let y = StmtTree.Do f n s c in
      part fs y (semi_spell y) (kind.Sign sign.Semi ∷ []) t ok v (groups (kind.Word word.Do) (spell_stmt s) while_open (spell c) (kind.Sign sign.CloseParen) (kind.Sign sign.Semi ∷ [])) (omega arith)
      (omega (arith, stmt-most y (length (semi_spell y))))
    where
      groups : (d : TokenKind) (s w c : List TokenKind) (p : TokenKind) (k : List TokenKind) → d ∷ (s ++ (w ++ (c ++ p ∷ k))) ≡ (d ∷ (s ++ (w ++ (c ++ p ∷ [])))) ++ k
      groups d s w c p k = simp append_assoc
  semi-whole s fs v t ok l = absurd v

  pub program-whole : (s : State) → StateOk s → deepest_path s ≤ m → Completes m (state_spell s)
  program-whole (Items items) ok l = items-whole items ok l
  program-whole (Specifying u s) ok l = specifying-whole u s ok.0 ok.1 l
  program-whole (Declare d n) ok l = declare-whole d n ok l
  program-whole (Dims h ds) ok l = dims-whole h ds ok l
  program-whole (Optional u) ok l = optional-whole u ok l
  program-whole (Reading u s) ok l = reading-whole u s ok.0 ok.1 l
  program-whole (Init t is) ok l = init-whole t is ok l
  program-whole (AfterInit t is i) ok l = after-init-whole t is i ok l
  program-whole (Params y) ok l = next-param-whole y ok.0 l
  program-whole (NextParam y) ok l = next-param-whole y ok l
  program-whole (Param y f n s i) ok l = param-whole y f n s i ok l
  program-whole (Closed y ps) ok l = closed-whole y ps ok l
  program-whole (Begin fs) ok l = begin-whole fs ok.0 ok.1 l
  program-whole (Opening u) ok l = opening-whole u ok.0 ok.1 l
  program-whole (ForWord f n fs) ok l = for-whole f n fs (kind.Word word.For ∷ []) _ ok.0 ok.1 l (omega arith) refl
  program-whole (ForOpen f n fs) ok l = for-whole f n fs for_open _ ok.0 ok.1 l (omega arith) refl
  program-whole (Semi s fs) ok l = semi-whole s fs ok.0 ok.1 ok.2 l
  program-whole (Done s fs) ok l =
      complete-stmt m fs s (spell_stmt s) [] ok.2 ok.1 ok.0 (sym (append-nil (spell_stmt s))) (omega arith) (omega (arith, stmt-most s (width_stmt s)))
