-- The node of a pending node with its operand, and with least operands for what doesn't stand there yet.
use Rattle.std.proofs.Common.{◌≡◌, ℕ, zero, suc, ◌+◌, ◌-◌, ◌≤◌, max, List, [], ◌∷◌, ◌++◌, length, false, refl, sym, ◌∙◌, ap, arith, append_assoc, append-nil, length-append}
use Rattle.ob_tree.specs.declared.tokens.TokenKind.{TokenKind}
use Rattle.ob_tree.specs.declared.tokens.TokenKind.TheVariants as kind
use Rattle.ob_tree.specs.declared.tokens.Keyword.TheVariants as word
use Rattle.ob_tree.specs.declared.tokens.Sign.TheVariants as sign
use Rattle.ob_tree.specs.Trees.{ExprTree, TypeTree}
use Rattle.ob_tree.specs.Spelling.{spell, spell_type, spell_spec, spell_dims, stars, step_sign, infix_sign}
use Rattle.ob_tree.specs.Valid.{IsOf}
use Rattle.ob_tree.specs.Places.{width, width_spec, width_dims, width_type}
use Rattle.ob_tree.specs.Paths.{begun}
use Rattle.ob_tree.specs.ExprStates.{OfType, OfMember, PendingNode, InParen, InIndex, InCall, InStep, InUnary, InSize, InCast, InJoin, InThen, InElse, InLength, InType, InStruct, operand_level, top_operand_level, add_argument, add_dim}
use Rattle.ob_tree.proofs.SpecShifts.{length-stars}
use Rattle.ob_exprs.specs.DeepestPaths.{rise, inner}
use Rattle.ob_exprs.proofs.Begun.{begun-full, full-type, width-type}
use Rattle.ob_exprs.proofs.Shapes.{spell_arguments_before, type_start, pending_spell, PendingOk, PendingFits}
use Rattle.ob_exprs.proofs.Adding.{arguments-added, arguments-valid, dims-added, dims-valid}
use Rattle.ob_exprs.proofs.Filling.{leaf, begun-argument, type-begun, type_filled, type_behind, type-filled-spell, type-filled-of, type-filled-begun}

-- the pending nodes that an expression ends as an expression
abbrev pub IsExprPending : PendingNode → Type 0
IsExprPending (InLength (OfMember l n name a) ds) = ⊥
IsExprPending (InType m z) = ⊥
IsExprPending (InStruct b) = ⊥
IsExprPending f = Unit {0}

abbrev pub fill : PendingNode → ExprTree → ExprTree
fill (InParen m) e = ExprTree.Paren m e
fill (InIndex m b) e = ExprTree.Index m b e
fill (InCall m name es) e = ExprTree.Call m name (add_argument es e)
fill (InStep m down) e = ExprTree.Step m false down e
fill (InUnary m s) e = ExprTree.Unary m s e
fill (InSize m) e = ExprTree.SizeExpr m e
fill (InCast m t) e = ExprTree.Cast m t e
fill (InJoin m op l) e = ExprTree.Join m op l e
fill (InThen m c) e = ExprTree.Cond m c e leaf
fill (InElse m c y) e = ExprTree.Cond m c y e
fill (InLength (OfType m z s n) ds) e = type_filled m z (TypeTree.TypeName s n (add_dim ds e))
fill f e = e

-- the tokens behind the operand
abbrev pub behind : PendingNode → List TokenKind
behind (InParen m) = kind.Sign sign.CloseParen ∷ []
behind (InIndex m b) = kind.Sign sign.CloseBracket ∷ []
behind (InCall m name es) = kind.Sign sign.CloseParen ∷ []
behind (InThen m c) = kind.Sign sign.Colon ∷ (kind.Word word.Null ∷ [])
behind (InLength (OfType m z s n) ds) = kind.Sign sign.CloseBracket ∷ type_behind z
behind f = []

groups : (t s n d b e c z : List TokenKind) → t ++ ((s ++ (n ++ (d ++ (b ++ (e ++ c))))) ++ z) ≡ ((t ++ (s ++ n)) ++ (d ++ b)) ++ (e ++ (c ++ z))
groups t s n d b e c z = simp append_assoc

groups3 : (a b c d : List TokenKind) → a ++ (b ++ (c ++ d)) ≡ (a ++ b) ++ (c ++ d)
groups3 a b c d = simp append_assoc

pub fill-spell : (f : PendingNode) (e : ExprTree) → IsExprPending f → spell (fill f e) ≡ pending_spell f ++ (spell e ++ behind f)
fill-spell (InParen m) e i = refl
fill-spell (InIndex m b) e i = sym (append_assoc (spell b) (kind.Sign sign.OpenBracket ∷ []) (spell e ++ kind.Sign sign.CloseBracket ∷ []))
fill-spell (InCall m name es) e i =
    ap (λ ks. kind.Name name ∷ (kind.Sign sign.OpenParen ∷ (ks ++ kind.Sign sign.CloseParen ∷ []))) (arguments-added es e)
    ∙ ap (λ ks. kind.Name name ∷ (kind.Sign sign.OpenParen ∷ ks)) (append_assoc (spell_arguments_before es) (spell e) (kind.Sign sign.CloseParen ∷ []))
fill-spell (InStep m down) e i = ap (λ ks. kind.Sign (step_sign down) ∷ ks) (sym (append-nil (spell e)))
fill-spell (InUnary m s) e i = ap (λ ks. kind.Sign s ∷ ks) (sym (append-nil (spell e)))
fill-spell (InSize m) e i = ap (λ ks. kind.Word word.Sizeof ∷ ks) (sym (append-nil (spell e)))
fill-spell (InCast m t) e i =
    ap (λ ks. kind.Sign sign.OpenParen ∷ (spell_type t ++ kind.Sign sign.CloseParen ∷ ks)) (sym (append-nil (spell e)))
    ∙ ap (λ ks. kind.Sign sign.OpenParen ∷ ks) (sym (append_assoc (spell_type t) (kind.Sign sign.CloseParen ∷ []) (spell e ++ [])))
fill-spell (InJoin m op l) e i =
    ap (λ ks. spell l ++ kind.Sign (infix_sign op) ∷ ks) (sym (append-nil (spell e)))
    ∙ sym (append_assoc (spell l) (kind.Sign (infix_sign op) ∷ []) (spell e ++ []))
fill-spell (InThen m c) e i = sym (append_assoc (spell c) (kind.Sign sign.Question ∷ []) (spell e ++ kind.Sign sign.Colon ∷ (kind.Word word.Null ∷ [])))
fill-spell (InElse m c y) e i =
    ap (λ ks. spell c ++ kind.Sign sign.Question ∷ (spell y ++ kind.Sign sign.Colon ∷ ks)) (sym (append-nil (spell e)))
    ∙ ap (λ ks. spell c ++ kind.Sign sign.Question ∷ ks) (sym (append_assoc (spell y) (kind.Sign sign.Colon ∷ []) (spell e ++ [])))
    ∙ sym (append_assoc (spell c) (kind.Sign sign.Question ∷ (spell y ++ kind.Sign sign.Colon ∷ [])) (spell e ++ []))
fill-spell (InLength (OfType m z s n) ds) e i =
    type-filled-spell m z (TypeTree.TypeName s n (add_dim ds e))
    ∙ ap (λ ks. type_start z ++ ((spell_spec s ++ (stars n ++ ks)) ++ type_behind z)) (dims-added ds e)
    ∙ groups (type_start z) (spell_spec s) (stars n) (spell_dims ds) (kind.Sign sign.OpenBracket ∷ []) (spell e) (kind.Sign sign.CloseBracket ∷ []) (type_behind z)
fill-spell (InLength (OfMember l n name a) ds) e i = absurd i
fill-spell (InType m z) e i = absurd i
fill-spell (InStruct b) e i = absurd i

pub fill-of : (f : PendingNode) (e : ExprTree) (least : ℕ) (fs : List PendingNode) → IsExprPending f → PendingOk f → PendingFits least fs f → IsOf (operand_level f) e → IsOf (top_operand_level least fs) (fill f e)
fill-of (InParen m) e least fs i k h v = (v.0, h)
fill-of (InIndex m b) e least fs i k h v = ((k.0, k.1, v.0), h)
fill-of (InCall m name es) e least fs i k h v = ((k.0, arguments-valid es e k.1 v), h)
fill-of (InStep m down) e least fs i k h v = (v, h)
fill-of (InUnary m s) e least fs i k h v = ((k, v.0, v.1), h)
fill-of (InSize m) e least fs i k h v = (v, h)
fill-of (InCast m t) e least fs i k h v = ((k, v.0, v.1), h)
fill-of (InJoin m op l) e least fs i k h v = ((k.0, k.1.0, k.1.1, v.0, v.1), h)
fill-of (InThen m c) e least fs i k h v = ((k.0, k.1, v.0, tt, omega arith), h)
fill-of (InElse m c y) e least fs i k h v = ((k.0.0, k.0.1, k.1, v.0, v.1), h)
fill-of (InLength (OfType m z s n) ds) e least fs i k h v = type-filled-of m z (TypeTree.TypeName s n (add_dim ds e)) least fs (k.0, dims-valid ds e k.1 v) h
fill-of (InLength (OfMember l n name a) ds) e least fs i k h v = absurd i
fill-of (InType m z) e least fs i k h v = absurd i
fill-of (InStruct b) e least fs i k h v = absurd i

-- the nodes of the filled node that have begun when j tokens of the operand were read
pub fill-begun : (f : PendingNode) (e : ExprTree) (j k : ℕ) → IsExprPending f → PendingOk f → j ≤ width e → k ≡ length (pending_spell f) + j
    → begun (fill f e) k ≤ max (inner f) (rise f + begun e j)
fill-begun (InParen m) e j zero i o h g = omega arith
fill-begun (InParen m) e j (suc k) i o h g = let n : suc k - 1 ≡ j = omega arith in rw n (omega arith)
fill-begun (InIndex m b) e j zero i o h g = omega arith
fill-begun (InIndex m b) e j (suc k) i o h g =
    let n : suc k ≡ width b + 1 + j = omega (arith, length-append (spell b) (kind.Sign sign.OpenBracket ∷ [])) in
    let a : suc k - (width b + 1) ≡ j = omega arith in
    rw (a, begun-full b (suc k) o.0 (omega arith)) (omega arith)
fill-begun (InCall m name es) e j zero i o h g = omega arith
fill-begun (InCall m name es) e j (suc k) i o h g = omega (arith, begun-argument es e (suc k - 2) j o.1 (omega arith))
fill-begun (InStep m down) e j zero i o h g = omega arith
fill-begun (InStep m down) e j (suc k) i o h g = let n : suc k - 1 ≡ j = omega arith in rw n (omega arith)
fill-begun (InUnary m s) e j zero i o h g = omega arith
fill-begun (InUnary m s) e j (suc k) i o h g = let n : suc k - 1 ≡ j = omega arith in rw n (omega arith)
fill-begun (InSize m) e j zero i o h g = omega arith
fill-begun (InSize m) e j (suc k) i o h g = let n : suc k - 1 ≡ j = omega arith in rw n (omega arith)
fill-begun (InCast m t) e j zero i o h g = omega arith
fill-begun (InCast m t) e j (suc k) i o h g =
    let n : suc k ≡ width_type t + 2 + j = omega (arith, length-append (spell_type t) (kind.Sign sign.CloseParen ∷ [])) in
    let a : suc k - (width_type t + 2) ≡ j = omega arith in
    rw (a, full-type t (suc k - 1) o (omega arith)) (omega arith)
fill-begun (InJoin m op l) e j zero i o h g = omega arith
fill-begun (InJoin m op l) e j (suc k) i o h g =
    let n : suc k ≡ width l + 1 + j = omega (arith, length-append (spell l) (kind.Sign (infix_sign op) ∷ [])) in
    let a : suc k - (width l + 1) ≡ j = omega arith in
    rw (a, begun-full l (suc k) o.1.0 (omega arith)) (omega arith)
fill-begun (InThen m c) e j zero i o h g = omega arith
fill-begun (InThen m c) e j (suc k) i o h g =
    let n : suc k ≡ width c + 1 + j = omega (arith, length-append (spell c) (kind.Sign sign.Question ∷ [])) in
    let a : suc k - (width c + 1) ≡ j = omega arith in
    let z : suc k - (width c + width e + 2) ≡ 0 = omega arith in
    rw (a, z, begun-full c (suc k) o.0 (omega arith)) (omega arith)
fill-begun (InElse m c y) e j zero i o h g = omega arith
fill-begun (InElse m c y) e j (suc k) i o h g =
    let n : suc k ≡ width c + width y + 2 + j = omega (arith, length-append (spell c) (kind.Sign sign.Question ∷ (spell y ++ kind.Sign sign.Colon ∷ [])), length-append (spell y) (kind.Sign sign.Colon ∷ [])) in
    let a : suc k - (width c + width y + 2) ≡ j = omega arith in
    rw (a, begun-full c (suc k) o.0.0 (omega arith), begun-full y (suc k - (width c + 1)) o.1 (omega arith)) (omega arith)
fill-begun (InLength (OfType m z s n) ds) e j k i o h g =
    let q = width_spec s + n + width_dims ds + 1 + j in
    let w : k ≡ length (type_start z) + q = omega (
      arith,
      length-append (type_start z ++ (spell_spec s ++ stars n)) (spell_dims ds ++ kind.Sign sign.OpenBracket ∷ []),
      length-append (type_start z) (spell_spec s ++ stars n),
      length-append (spell_spec s) (stars n),
      length-append (spell_dims ds) (kind.Sign sign.OpenBracket ∷ []),
      length-stars n,
    ) in
    let u : width_dims (add_dim ds e) ≡ width_dims ds + width e + 2 = omega (
      arith,
      ap length (dims-added ds e),
      length-append (spell_dims ds) (kind.Sign sign.OpenBracket ∷ (spell e ++ kind.Sign sign.CloseBracket ∷ [])),
      length-append (spell e) (kind.Sign sign.CloseBracket ∷ []),
    ) in
    omega (
      arith,
      type-filled-begun m z (TypeTree.TypeName s n (add_dim ds e)) k q w (omega (arith, width-type s n (add_dim ds e))),
      type-begun s n ds e q j o.0 o.1 refl,
    )
fill-begun (InLength (OfMember l n name a) ds) e j k i o h g = absurd i
fill-begun (InType m z) e j k i o h g = absurd i
fill-begun (InStruct b) e j k i o h g = absurd i
