-- Each state of the machine can be made a whole tree in which no further node has begun.
use Rattle.std.proofs.Common.{◌≡◌, ℕ, zero, suc, ◌+◌, ◌≤◌, max, List, [], ◌∷◌, ◌++◌, length, Bool, true, false, refl, sym, ◌∙◌, subst, arith, append_assoc, append-nil, length-append}
use Rattle.ob_tree.specs.declared.tokens.TokenKind.{TokenKind}
use Rattle.ob_tree.specs.declared.tokens.TokenKind.TheVariants as kind
use Rattle.ob_tree.specs.declared.tokens.Keyword.TheVariants as word
use Rattle.ob_tree.specs.declared.tokens.Sign.TheVariants as sign
use Rattle.ob_tree.specs.Trees.{Mark, ExprTree, ExprTrees, TypeTree, SpecTree, ObjTree, DimTrees}
use Rattle.ob_tree.specs.Spelling.{spell, spell_spec, spell_dims, stars}
use Rattle.ob_tree.specs.Valid.{ValidDims, IsOf}
use Rattle.ob_tree.specs.Places.{width, width_spec, width_type, width_obj}
use Rattle.ob_tree.specs.Paths.{node_with, begun, height}
use Rattle.ob_tree.specs.ExprStates.{Head, OfType, OfMember, StructDeclaration, PendingNode, InParen, InCall, InSize, InType, InStruct, State, BeforeOperand, Open, Size, SizeOpen, Called, Select, AfterOperand, Specifier, StructWord, Members, Declare, Dims, AfterSpec, top_operand_level}
use Rattle.ob_tree.proofs.SpecShifts.{length-stars}
use Rattle.ob_exprs.specs.DeepestPaths.{depth_of, line_height, deepest_stack_path, deepest_path}
use Rattle.ob_exprs.proofs.Begun.{begun-full, full-type, full-spec, full-name, width-type, width-bare}
use Rattle.ob_exprs.proofs.Heights.{depth-path}
use Rattle.ob_exprs.proofs.Shapes.{line_spell, type_start, stack_spell, state_spell, LineOk, HeadOk, TakesSpec, HeadFits, Stands, StateOk}
use Rattle.ob_exprs.proofs.Filling.{leaf, x, valid-x, struct_with, struct-begun, struct-spell, struct-valid, type_filled, type_behind, type-filled-spell, type-filled-of, type-filled-begun}
use Rattle.ob_exprs.proofs.Complete.{Completes, complete-expr, complete-spec}
use Rattle.ob_tree.specs.Levels.{primary_level, postfix_level}

node-most : (k n : ℕ) → node_with k n ≤ 1 + n
node-most zero n = omega arith
node-most (suc k) n = omega arith

module _ (least m : ℕ) where
  -- an operand that hasn't begun, a specifier that hasn't
  operand-whole : (fs : List PendingNode) → Stands least fs → top_operand_level least fs ≤ primary_level → deepest_stack_path fs ≤ m → Completes least m (stack_spell fs)
  operand-whole fs st h l =
      subst (Completes least m) (append-nil (stack_spell fs))
      (complete-expr least m fs leaf [] (kind.Word word.Null ∷ []) st (tt, h) refl l (omega (arith, depth-path fs)))

  spec-whole : (fs : List PendingNode) → Stands least fs → TakesSpec least fs → deepest_stack_path fs ≤ m → Completes least m (stack_spell fs)
  spec-whole fs st h l =
      subst (Completes least m) (append-nil (stack_spell fs))
      (complete-spec least m fs (SpecTree.Void 0) [] (kind.Word word.Void ∷ []) st h tt refl l (omega (arith, depth-path fs)))

  select-whole : (n : Mark) (arrow : Bool) (b : ExprTree) (fs : List PendingNode) → Stands least fs → top_operand_level least fs ≤ postfix_level → IsOf postfix_level b
      → deepest_stack_path fs ≤ m → depth_of fs + (1 + height b) ≤ m → Completes least m (state_spell (Select n arrow b fs))
  select-whole n false b fs st h v l d =
      let k = length (spell b ++ kind.Sign sign.Dot ∷ []) in
      let w : k ≡ width b + 1 = length-append (spell b) (kind.Sign sign.Dot ∷ []) in
      complete-expr least m fs (ExprTree.Member n b x) (spell b ++ kind.Sign sign.Dot ∷ []) (kind.Name x ∷ []) st ((v.0, v.1, valid-x), h)
      (sym (append_assoc (spell b) (kind.Sign sign.Dot ∷ []) (kind.Name x ∷ []))) l
      (omega (arith, node-most k (begun b k), begun-full b k v.0 (omega arith)))
  select-whole n true b fs st h v l d =
      let k = length (spell b ++ kind.Sign sign.Arrow ∷ []) in
      let w : k ≡ width b + 1 = length-append (spell b) (kind.Sign sign.Arrow ∷ []) in
      complete-expr least m fs (ExprTree.Arrow n b x) (spell b ++ kind.Sign sign.Arrow ∷ []) (kind.Name x ∷ []) st ((v.0, v.1, valid-x), h)
      (sym (append_assoc (spell b) (kind.Sign sign.Arrow ∷ []) (kind.Name x ∷ []))) l
      (omega (arith, node-most k (begun b k), begun-full b k v.0 (omega arith)))

  declare-whole : (line : StructDeclaration) (n : ℕ) (fs : List PendingNode) → Stands least fs → TakesSpec least fs → LineOk line
      → deepest_stack_path fs ≤ m → depth_of fs + (1 + max (line_height line) n) ≤ m → Completes least m (state_spell (Declare line n fs))
  declare-whole line n fs st h v l d =
      let o = ObjTree.Bare n x 0 DimTrees.NoDims in
      let ends = kind.Name x ∷ (kind.Sign sign.Semi ∷ (kind.Sign sign.CloseBrace ∷ [])) in
      let k : length (line_spell line ++ stars n) ≡ length (line_spell line) + n = omega (arith, length-append (line_spell line) (stars n), length-stars n) in
      complete-spec least m fs (struct_with line o) (line_spell line ++ stars n) ends st h (struct-valid line o v (valid-x, tt))
      (struct-spell line o ∙ groups (line_spell line) (stars n) (kind.Name x ∷ []) (kind.Sign sign.Semi ∷ (kind.Sign sign.CloseBrace ∷ []))) l
      (omega (arith, struct-begun line o (length (line_spell line ++ stars n)) n v k))
    where
      groups : (a b c d : List TokenKind) → a ++ ((b ++ c) ++ d) ≡ (a ++ b) ++ (c ++ d)
      groups a b c d = simp append_assoc

  dims-whole : (h : Head) (ds : DimTrees) (fs : List PendingNode) → Stands least fs → HeadFits least fs h → HeadOk h → ValidDims ds
      → deepest_path (Dims h ds fs) ≤ m → Completes least m (state_spell (Dims h ds fs))
  dims-whole (OfType n z s i) ds fs st f v w l =
      let t = TypeTree.TypeName s i ds in
      let read = (type_start z ++ (spell_spec s ++ stars i)) ++ spell_dims ds in
      let k : length read ≡ length (type_start z) + width_type t = omega (
        arith,
        length-append (type_start z ++ (spell_spec s ++ stars i)) (spell_dims ds),
        length-append (type_start z) (spell_spec s ++ stars i),
        length-append (spell_spec s) (stars i),
        length-stars i,
        width-type s i ds,
      ) in
      complete-expr least m fs (type_filled n z t) read (type_behind z) st (type-filled-of n z t least fs (v, w) f)
      (type-filled-spell n z t ∙ groups (type_start z) (spell_spec s) (stars i) (spell_dims ds) (type_behind z)) (omega arith)
      (omega (arith, type-filled-begun n z t (length read) (width_type t) k (omega arith), full-type t (width_type t) (v, w) (omega arith)))
    where
      groups : (a b c d e : List TokenKind) → a ++ ((b ++ (c ++ d)) ++ e) ≡ ((a ++ (b ++ c)) ++ d) ++ e
      groups a b c d e = simp append_assoc
  dims-whole (OfMember line n name a) ds fs st f v w l =
      let o = ObjTree.Bare n name a ds in
      let read = (line_spell line ++ (stars n ++ kind.Name name ∷ [])) ++ spell_dims ds in
      let ends = kind.Sign sign.Semi ∷ (kind.Sign sign.CloseBrace ∷ []) in
      let k : length read ≡ length (line_spell line) + width_obj o = omega (
        arith,
        length-append (line_spell line ++ (stars n ++ kind.Name name ∷ [])) (spell_dims ds),
        length-append (line_spell line) (stars n ++ kind.Name name ∷ []),
        length-append (stars n) (kind.Name name ∷ []),
        length-stars n,
        width-bare n name a ds,
      ) in
      complete-spec least m fs (struct_with line o) read ends st f (struct-valid line o v.0 (v.1, w))
      (struct-spell line o ∙ groups (line_spell line) (stars n) (kind.Name name ∷ []) (spell_dims ds) ends) (omega arith)
      (omega (arith, struct-begun line o (length read) (width_obj o) v.0 k, full-name o (width_obj o) (v.1, w) (omega arith)))
    where
      groups : (a b c d e : List TokenKind) → a ++ ((b ++ (c ++ d)) ++ e) ≡ ((a ++ (b ++ c)) ++ d) ++ e
      groups a b c d e = simp append_assoc

  pub state-whole : (s : State) → StateOk least s → deepest_path s ≤ m → Completes least m (state_spell s)
  state-whole (BeforeOperand fs) ok l = operand-whole fs ok.0 (omega (arith, ok.1)) (omega arith)
  state-whole (Open n fs) ok l = operand-whole (InParen n ∷ fs) (tt, omega (arith, ok.1), ok.0) (omega arith) (omega arith)
  state-whole (Size n fs) ok l = operand-whole (InSize n ∷ fs) (tt, ok.1, ok.0) (omega arith) (omega arith)
  state-whole (SizeOpen n q fs) ok l = spec-whole (InType n true ∷ fs) (tt, ok.1, ok.0) tt (omega arith)
  state-whole (Called n name fs) ok l = operand-whole (InCall n name ExprTrees.NoArguments ∷ fs) ((ok.2, tt), ok.1, ok.0) (omega arith) (omega arith)
  state-whole (Select n arrow b fs) ok l = select-whole n arrow b fs ok.0 ok.1 ok.2 (omega arith) (omega arith)
  state-whole (AfterOperand e fs) ok l =
      complete-expr least m fs e (spell e) [] ok.0 ok.1 (sym (append-nil (spell e))) (omega arith) (omega (arith, begun-full e (width e) ok.1.0 (omega arith)))
  state-whole (Specifier fs) ok l = spec-whole fs ok.0 ok.1 (omega arith)
  state-whole (StructWord f fs) ok l =
      complete-spec least m fs (SpecTree.Tag f x) (kind.Word word.Struct ∷ []) (kind.Name x ∷ []) ok.0 ok.1 valid-x refl (omega arith) (omega arith)
  state-whole (Members b fs) ok l = spec-whole (InStruct b ∷ fs) (ok.2, ok.1, ok.0) tt (omega arith)
  state-whole (Declare line n fs) ok l = declare-whole line n fs ok.0 ok.1 ok.2 (omega arith) (omega arith)
  state-whole (Dims h ds fs) ok l = dims-whole h ds fs ok.0 ok.1 ok.2 ok.3 l
  state-whole (AfterSpec s fs) ok l =
      complete-spec least m fs s (spell_spec s) [] ok.0 ok.1 ok.2 (sym (append-nil (spell_spec s))) (omega arith) (omega (arith, full-spec s (width_spec s) ok.2 (omega arith)))
