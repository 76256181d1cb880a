-- What the machine holds after a part of a tree's tokens is no deeper than the tree's nodes that have begun.
use Rattle.std.proofs.Common.{◌≡◌, ℕ, zero, suc, ◌+◌, ◌-◌, ◌≤◌, max, min, List, [], ◌∷◌, ◌++◌, length, take, Bool, false, true, Some, None, refl, sym, ◌∙◌, ap, arith, append_assoc}
use Rattle.ob_tree.specs.declared.tokens.TokenKind.{TokenKind}
use Rattle.ob_tree.specs.declared.tokens.TokenKind.TheVariants as kind
use Rattle.ob_tree.specs.declared.tokens.Sign.TheVariants as sign
use Rattle.ob_tree.specs.Trees.{Mark, ExprTree, ExprTrees, TypeTree, SpecTree, MemberTrees, ObjTree, ObjTrees, DimTrees}
use Rattle.ob_tree.specs.Spelling.{spell, spell_more_arguments, spell_type, spell_spec, spell_members, spell_objs, spell_more_objs, spell_obj, spell_dims, stars, infix_sign}
use Rattle.ob_tree.specs.Levels.{postfix_level, left_level}
use Rattle.ob_tree.specs.Valid.{Valid, ValidArguments, ValidType, ValidSpec, ValidMembers, ValidMemberNames, ValidMemberName, ValidDims, HasDeclarator, IsOf}
use Rattle.ob_tree.specs.Places.{here, signed, place, place_type, place_spec, place_objs, place_obj, place_dims, width, width_type, width_spec, width_objs, width_obj, width_dims}
use Rattle.ob_tree.specs.Paths.{begun, begun_arguments, begun_type, begun_spec, begun_members, begun_objs, begun_obj, begun_dims, height, height_arguments, height_spec, height_members, height_objs, height_obj, height_dims, height_type}
use Rattle.ob_tree.specs.ExprStates.{Head, OfType, OfMember, StructBody, StructDeclaration, PendingNode, InParen, InIndex, InCall, InStep, InUnary, InSize, InCast, InJoin, InThen, InElse, InLength, InType, InStruct, State, BeforeOperand, Open, SizeOpen, Called, AfterOperand, Specifier, Members, Declare, Dims, AfterSpec, add_argument, add_dim, add_obj, top_operand_level}
use Rattle.ob_tree.specs.ExprMachine.{ended, run}
use Rattle.ob_tree.proofs.PlaceKeeps.{mark-place, valid-place, of-place, valid-name}
use Rattle.ob_tree.proofs.Unreduced.{state_behind}
use Rattle.ob_tree.proofs.SignShifts.{shift-join, shift-question, shift-index, shift-up, shift-down, shift-paren, shift-argument, shift-called, shift-bracket, shift-length, shift-colon}
use Rattle.ob_tree.proofs.Runs.{run-shift}
use Rattle.ob_tree.proofs.FirstTokens.{FirstOf, BeginsOperand, BeginsSpec, first-take, first-operand, first-unary, first-spec, open-list, call-list, open-spec-list, size-spec-list, members-list}
use Rattle.ob_tree.proofs.SpecShifts.{more_names, add_name, length-stars, obj_state, type_state, type-stars, member-stars, name-comma, name-semi}
use Rattle.ob_tree.proofs.Through.{left-above, unary-shift, type-closes, through, through-type, through-spec, through-names, through-obj, through-dims}
use Rattle.ob_exprs.specs.DeepestPaths.{count, head_rise, head_height, line_height, depth_of, deepest_stack_path}
use Rattle.ob_exprs.proofs.Begun.{begun-full, full-type, full-spec, full-names, full-name, full-dims}
use Rattle.ob_exprs.proofs.Heights.{height-place, type-place, spec-place, objs-place, obj-place, dims-place, arguments-height, dims-height, dims-count, objs-height, members-height, depth-path}
use Rattle.ob_exprs.proofs.Within.{Within, newest_path-stack, within-on, within-then, within-end, within-same, within-as, strings-reach, integer-reach, type-stars-reach, member-stars-reach, type-on-part}
use Rattle.ob_exprs.proofs.ReachParts.{member-reach, arrow-reach, type-path, length-more, obj-on-part, reach-size, reach-body}

module _ (lines : ℕ → ℕ) (least : ℕ) where
  mutual
    pub reach : (t : ExprTree) (k p m : ℕ) (fs : List PendingNode) → IsOf (top_operand_level least fs) t → deepest_stack_path fs ≤ m → depth_of fs + begun t k ≤ m
        → Within m (run lines least p (take k (spell t)) (Some (BeforeOperand fs)))
    reach t zero p m fs v l d = omega (arith, newest_path-stack fs)
    reach (ExprTree.Name n name) (suc k) p m fs v l d = within-end lines least (p + 1) k m (Some (AfterOperand (ExprTree.Name (here lines p) name) fs)) (omega arith)
    reach (ExprTree.Number n value ty) (suc k) p m fs v l d = within-end lines least (p + 1) k m (Some (AfterOperand (ExprTree.Number (here lines p) value ty) fs)) (omega arith)
    reach (ExprTree.Null n) (suc k) p m fs v l d = within-end lines least (p + 1) k m (Some (AfterOperand (ExprTree.Null (here lines p)) fs)) (omega arith)
    reach (ExprTree.Eof n) (suc k) p m fs v l d = within-end lines least (p + 1) k m (Some (AfterOperand (ExprTree.Eof (here lines p)) fs)) (omega arith)
    reach (ExprTree.Str n []) (suc k) p m fs v l d = absurd v.0
    reach (ExprTree.Str n (s ∷ ss)) (suc k) p m fs v l d = strings-reach lines least (p + 1) k m (here lines p) (s ∷ []) ss fs l (omega arith)
    reach (ExprTree.Paren n e) (suc zero) p m fs v l d = omega arith
    reach (ExprTree.Paren n e) (suc (suc k)) p m fs v l d =
        let e' = place lines (p + 1) e in
        let f = InParen (here lines p) in
        let g : suc (suc k) - 1 ≡ suc k = omega arith in
        let d' : depth_of fs + (1 + begun e (suc k)) ≤ m = rw g at d in
        within-then lines least (p + 1) (suc k) m (spell e) (kind.Sign sign.CloseParen) [] (Some (Open (here lines p) fs)) (state_behind e' (f ∷ fs)) (Some (AfterOperand (ExprTree.Paren (here lines p) e') fs))
        (open-list lines least (p + 1) (here lines p) (spell e) fs (first-operand e v.0) ∙ through lines least e (p + 1) (f ∷ fs) (v.0, omega arith))
        (shift-paren least (here lines (p + 1 + width e)) e' fs (valid-place lines (p + 1) e v.0) (here lines p))
        (λ h. within-as lines least m _ (run lines least (p + 1) (take (suc k) (spell e)) (Some (BeforeOperand (f ∷ fs))))
        (open-list lines least (p + 1) (here lines p) (take (suc k) (spell e)) fs (first-take BeginsOperand k (spell e) (first-operand e v.0)))
        (reach e (suc k) (p + 1) m (f ∷ fs) (v.0, omega arith) (omega arith) (omega arith)))
        (λ j n. within-end lines least _ j m (Some (AfterOperand (ExprTree.Paren (here lines p) e') fs)) (omega (arith, height-place lines (p + 1) e, begun-full e (suc k) v.0 (omega arith))))
    reach (ExprTree.Index n b i) (suc k) p m fs v l d =
        let b' = place lines p b in
        let q = p + width b in
        let i' = place lines (q + 1) i in
        let f = InIndex (signed lines p q) b' in
        within-then lines least p (suc k) m (spell b) (kind.Sign sign.OpenBracket) (spell i ++ kind.Sign sign.CloseBracket ∷ []) (Some (BeforeOperand fs)) (state_behind b' fs) (Some (BeforeOperand (f ∷ fs)))
        (through lines least b p fs (v.0.0, omega (arith, v.1, v.0.1)))
        (shift-index least (here lines q) b' fs (of-place lines p postfix_level b (v.0.0, v.0.1)).1 ∙ ap (λ k. Some (BeforeOperand (InIndex k b' ∷ fs))) (mark-place lines p q b))
        (λ h. reach b (suc k) p m fs (v.0.0, omega (arith, v.1, v.0.1)) l (omega arith))
        (λ j n. let g : suc k - (width b + 1) ≡ j = omega arith in
        let d' : depth_of fs + (1 + max (begun b (suc k)) (begun i j)) ≤ m = rw g at d in
        let hb : height b' ≡ begun b (suc k) = height-place lines p b ∙ sym (begun-full b (suc k) v.0.0 (omega arith)) in
        let ls : deepest_stack_path (f ∷ fs) ≤ m = omega arith in
        within-then lines least (q + 1) j m (spell i) (kind.Sign sign.CloseBracket) [] (Some (BeforeOperand (f ∷ fs))) (state_behind i' (f ∷ fs)) (Some (AfterOperand (ExprTree.Index (signed lines p q) b' i') fs))
        (through lines least i (q + 1) (f ∷ fs) (v.0.2, omega arith))
        (shift-bracket least (here lines (q + 1 + width i)) i' fs (valid-place lines (q + 1) i v.0.2) (signed lines p q) b')
        (λ h. reach i j (q + 1) m (f ∷ fs) (v.0.2, omega arith) ls (omega arith))
        (λ j2 n2. let hi : height i' ≡ begun i j = height-place lines (q + 1) i ∙ sym (begun-full i j v.0.2 (omega arith)) in
        within-end lines least _ j2 m (Some (AfterOperand (ExprTree.Index (signed lines p q) b' i') fs)) (omega arith)))
    reach (ExprTree.Call n name es) (suc zero) p m fs v l d = omega arith
    reach (ExprTree.Call n name es) (suc (suc zero)) p m fs v l d = omega arith
    reach (ExprTree.Call n name ExprTrees.NoArguments) (suc (suc (suc k))) p m fs v l d =
        within-end lines least (p + 1 + 1 + 1) k m (Some (AfterOperand (ExprTree.Call (here lines p) name ExprTrees.NoArguments) fs)) (omega arith)
    reach (ExprTree.Call n name (ExprTrees.Argument e es)) (suc (suc (suc k))) p m fs v l d =
        let q = p + 1 + 1 in
        let e' = place lines q e in
        let c = here lines p in
        let f = InCall c name ExprTrees.NoArguments in
        let zs = spell_more_arguments es ++ kind.Sign sign.CloseParen ∷ [] in
        let g : suc (suc (suc k)) - 2 ≡ suc k = omega arith in
        let d' : depth_of fs + (1 + max (begun e (suc k)) (begun_arguments es (suc k - (width e + 1)))) ≤ m = rw g at d in
        within-same lines least q m (suc k) ((spell e ++ spell_more_arguments es) ++ kind.Sign sign.CloseParen ∷ []) (spell e ++ zs) (Some (Called c name fs))
        (append_assoc (spell e) (spell_more_arguments es) (kind.Sign sign.CloseParen ∷ []))
        (within-on lines least q (suc k) m (spell e) zs (Some (Called c name fs)) (state_behind e' (f ∷ fs))
        (call-list lines least q c name (spell e) fs (first-operand e v.0.1.0) ∙ through lines least e q (f ∷ fs) (v.0.1.0, v.0.1.1))
        (λ h. within-as lines least m _ (run lines least q (take (suc k) (spell e)) (Some (BeforeOperand (f ∷ fs))))
        (call-list lines least q c name (take (suc k) (spell e)) fs (first-take BeginsOperand k (spell e) (first-operand e v.0.1.0)))
        (reach e (suc k) q m (f ∷ fs) (v.0.1.0, v.0.1.1) (omega arith) (omega arith)))
        (λ j n. let g2 : suc k - (width e + 1) ≡ j = omega arith in
        let d2 : depth_of fs + (1 + max (begun e (suc k)) (begun_arguments es j)) ≤ m = rw g2 at d' in
        let he : height e' ≡ begun e (suc k) = height-place lines q e ∙ sym (begun-full e (suc k) v.0.1.0 (omega arith)) in
        reach-arguments es j (q + width e) m c name ExprTrees.NoArguments e' fs v.0.1.2 (valid-place lines q e v.0.1.0) l (omega arith) (omega arith)))
    reach (ExprTree.Member n b name) (suc k) p m fs v l d =
        member-reach lines least n b name k p m fs v l d (reach b (suc k) p m fs (v.0.0, omega (arith, v.1, v.0.1)) l (omega arith))
    reach (ExprTree.Arrow n b name) (suc k) p m fs v l d =
        arrow-reach lines least n b name k p m fs v l d (reach b (suc k) p m fs (v.0.0, omega (arith, v.1, v.0.1)) l (omega arith))
    reach (ExprTree.Step n false false e) (suc k) p m fs v l d =
        let g : suc k - 1 ≡ k = omega arith in
        let d' : depth_of fs + (1 + begun e k) ≤ m = rw g at d in
        reach e k (p + 1) m (InStep (here lines p) false ∷ fs) v.0 (omega arith) (omega arith)
    reach (ExprTree.Step n false true e) (suc k) p m fs v l d =
        let g : suc k - 1 ≡ k = omega arith in
        let d' : depth_of fs + (1 + begun e k) ≤ m = rw g at d in
        reach e k (p + 1) m (InStep (here lines p) true ∷ fs) v.0 (omega arith) (omega arith)
    reach (ExprTree.Step n true false e) (suc k) p m fs v l d =
        let e' = place lines p e in
        let q = p + width e in
        let g : suc k - 0 ≡ suc k = omega arith in
        let d' : depth_of fs + (1 + begun e (suc k)) ≤ m = rw g at d in
        within-then lines least p (suc k) m (spell e) (kind.Sign sign.PlusPlus) [] (Some (BeforeOperand fs)) (state_behind e' fs) (Some (AfterOperand (ExprTree.Step (signed lines p q) true false e') fs))
        (through lines least e p fs (v.0.0, omega (arith, v.1, v.0.1)))
        (shift-up least (here lines q) e' fs (of-place lines p postfix_level e v.0).1 ∙ ap (λ k. Some (AfterOperand (ExprTree.Step k true false e') fs)) (mark-place lines p q e))
        (λ h. reach e (suc k) p m fs (v.0.0, omega (arith, v.1, v.0.1)) l (omega arith))
        (λ j n. let he : height e' ≡ begun e (suc k) = height-place lines p e ∙ sym (begun-full e (suc k) v.0.0 (omega arith)) in
        within-end lines least _ j m (Some (AfterOperand (ExprTree.Step (signed lines p q) true false e') fs)) (omega arith))
    reach (ExprTree.Step n true true e) (suc k) p m fs v l d =
        let e' = place lines p e in
        let q = p + width e in
        let g : suc k - 0 ≡ suc k = omega arith in
        let d' : depth_of fs + (1 + begun e (suc k)) ≤ m = rw g at d in
        within-then lines least p (suc k) m (spell e) (kind.Sign sign.MinusMinus) [] (Some (BeforeOperand fs)) (state_behind e' fs) (Some (AfterOperand (ExprTree.Step (signed lines p q) true true e') fs))
        (through lines least e p fs (v.0.0, omega (arith, v.1, v.0.1)))
        (shift-down least (here lines q) e' fs (of-place lines p postfix_level e v.0).1 ∙ ap (λ k. Some (AfterOperand (ExprTree.Step k true true e') fs)) (mark-place lines p q e))
        (λ h. reach e (suc k) p m fs (v.0.0, omega (arith, v.1, v.0.1)) l (omega arith))
        (λ j n. let he : height e' ≡ begun e (suc k) = height-place lines p e ∙ sym (begun-full e (suc k) v.0.0 (omega arith)) in
        within-end lines least _ j m (Some (AfterOperand (ExprTree.Step (signed lines p q) true true e') fs)) (omega arith))
    reach (ExprTree.Unary n s e) (suc k) p m fs v l d =
        let g : suc k - 1 ≡ k = omega arith in
        let d' : depth_of fs + (1 + begun e k) ≤ m = rw g at d in
        within-as lines least m _ (run lines least (p + 1) (take k (spell e)) (Some (BeforeOperand (InUnary (here lines p) s ∷ fs))))
        (run-shift lines least p (kind.Sign s) (take k (spell e)) (BeforeOperand fs) (Some (BeforeOperand (InUnary (here lines p) s ∷ fs))) (unary-shift (here lines p) s fs v.0.0))
        (reach e k (p + 1) m (InUnary (here lines p) s ∷ fs) (v.0.1, v.0.2) (omega arith) (omega arith))
    reach (ExprTree.SizeExpr n e) (suc k) p m fs v l d =
        let g : suc k - 1 ≡ k = omega arith in
        let d' : depth_of fs + (1 + begun e k) ≤ m = rw g at d in
        reach-size lines least e k p m fs l (omega arith) (first-unary e v.0.0 v.0.1) (reach e k (p + 1) m (InSize (here lines p) ∷ fs) v.0 (omega arith) (omega arith))
    reach (ExprTree.SizeType n t) (suc zero) p m fs v l d = omega arith
    reach (ExprTree.SizeType n t) (suc (suc zero)) p m fs v l d = omega arith
    reach (ExprTree.SizeType n t) (suc (suc (suc k))) p m fs v l d =
        let q = p + 1 + 1 in
        let g : suc (suc (suc k)) - 2 ≡ suc k = omega arith in
        let d' : depth_of fs + (1 + begun_type t (suc k)) ≤ m = rw g at d in
        reach-type t k q m (here lines p) true fs (SizeOpen (here lines p) (here lines (p + 1)) fs) v.0
        (λ ks f. size-spec-list lines least q (here lines p) (here lines (p + 1)) ks fs f) l d'
    reach (ExprTree.Cast n t e) (suc zero) p m fs v l d = omega arith
    reach (ExprTree.Cast n t e) (suc (suc k)) p m fs v l d =
        let c = here lines p in
        let q = p + 1 in
        let t' = place_type lines q t in
        let f = InCast c t' in
        let xs = spell_type t ++ kind.Sign sign.CloseParen ∷ [] in
        let w : length xs ≡ width_type t + 1 = length-more (spell_type t) (kind.Sign sign.CloseParen) in
        let g : suc (suc k) - 1 ≡ suc k = omega arith in
        let d' : depth_of fs + (1 + max (begun_type t (suc k)) (begun e (suc (suc k) - (width_type t + 2)))) ≤ m = rw g at d in
        within-same lines least q m (suc k) (spell_type t ++ kind.Sign sign.CloseParen ∷ spell e) (xs ++ spell e) (Some (Open c fs))
        (sym (append_assoc (spell_type t) (kind.Sign sign.CloseParen ∷ []) (spell e)))
        (within-on lines least q (suc k) m xs (spell e) (Some (Open c fs)) (BeforeOperand (f ∷ fs))
        (through-type lines least t q c false fs [] (Open c fs) v.0.0 (λ ks h. open-spec-list lines least q c ks fs h v.1))
        (λ h. reach-type t k q m c false fs (Open c fs) v.0.0 (λ ks h. open-spec-list lines least q c ks fs h v.1) l (omega arith))
        (λ j n. let g2 : suc (suc k) - (width_type t + 2) ≡ suc j = omega arith in
        let d2 : depth_of fs + (1 + max (begun_type t (suc k)) (begun e (suc j))) ≤ m = rw g2 at d' in
        let ht : height_type t' ≡ begun_type t (suc k) = type-place lines q t ∙ sym (full-type t (suc k) v.0.0 (omega arith)) in
        reach e (suc j) (q + length xs) m (f ∷ fs) (v.0.1, v.0.2) (omega arith) (omega arith)))
    reach (ExprTree.Cond n c x y) (suc k) p m fs v l d =
        let c' = place lines p c in
        let q = p + width c in
        let s = signed lines p q in
        let x' = place lines (q + 1) x in
        let f = InThen s c' in
        let h = InElse s c' x' in
        within-then lines least p (suc k) m (spell c) (kind.Sign sign.Question) (spell x ++ kind.Sign sign.Colon ∷ spell y) (Some (BeforeOperand fs)) (state_behind c' fs) (Some (BeforeOperand (f ∷ fs)))
        (through lines least c p fs (v.0.0, omega (arith, v.1, v.0.1)))
        (shift-question least (here lines q) c' fs (of-place lines p 3 c (v.0.0, v.0.1)) v.1 ∙ ap (λ k. Some (BeforeOperand (InThen k c' ∷ fs))) (mark-place lines p q c))
        (λ _. reach c (suc k) p m fs (v.0.0, omega (arith, v.1, v.0.1)) l (omega arith))
        (λ j n1. let g : suc k - (width c + 1) ≡ j = omega arith in
        let d' : depth_of fs + (1 + max (begun c (suc k)) (max (begun x j) (begun y (suc k - (width c + width x + 2))))) ≤ m = rw g at d in
        let hc : height c' ≡ begun c (suc k) = height-place lines p c ∙ sym (begun-full c (suc k) v.0.0 (omega arith)) in
        let ls : deepest_stack_path (f ∷ fs) ≤ m = omega arith in
        within-then lines least (q + 1) j m (spell x) (kind.Sign sign.Colon) (spell y) (Some (BeforeOperand (f ∷ fs))) (state_behind x' (f ∷ fs)) (Some (BeforeOperand (h ∷ fs)))
        (through lines least x (q + 1) (f ∷ fs) (v.0.2, omega arith))
        (shift-colon least (here lines (q + 1 + width x)) x' fs (valid-place lines (q + 1) x v.0.2) s c')
        (λ _. reach x j (q + 1) m (f ∷ fs) (v.0.2, omega arith) ls (omega arith))
        (λ i n2. let g2 : suc k - (width c + width x + 2) ≡ i = omega arith in
        let d2 : depth_of fs + (1 + max (begun c (suc k)) (max (begun x j) (begun y i))) ≤ m = rw g2 at d' in
        let hx : height x' ≡ begun x j = height-place lines (q + 1) x ∙ sym (begun-full x j v.0.2 (omega arith)) in
        reach y i (q + 1 + width x + 1) m (h ∷ fs) (v.0.3, v.0.4) (omega arith) (omega arith)))
    reach (ExprTree.Join n op a b) (suc k) p m fs v l d =
        let a' = place lines p a in
        let q = p + width a in
        let f = InJoin (signed lines p q) op a' in
        within-then lines least p (suc k) m (spell a) (kind.Sign (infix_sign op)) (spell b) (Some (BeforeOperand fs)) (state_behind a' fs) (Some (BeforeOperand (f ∷ fs)))
        (through lines least a p fs (v.0.1, omega (arith, v.1, v.0.2, left-above op)))
        (shift-join least (here lines q) op a' fs v.0.0 (of-place lines p (left_level op) a (v.0.1, v.0.2)) v.1 ∙ ap (λ k. Some (BeforeOperand (InJoin k op a' ∷ fs))) (mark-place lines p q a))
        (λ h. reach a (suc k) p m fs (v.0.1, omega (arith, v.1, v.0.2, left-above op)) l (omega arith))
        (λ j n. let g : suc k - (width a + 1) ≡ j = omega arith in
        let d' : depth_of fs + (1 + max (begun a (suc k)) (begun b j)) ≤ m = rw g at d in
        let ha : height a' ≡ begun a (suc k) = height-place lines p a ∙ sym (begun-full a (suc k) v.0.1 (omega arith)) in
        reach b j (q + 1) m (f ∷ fs) (v.0.3, v.0.4) (omega arith) (omega arith))

    -- the arguments behind a first one
    reach-arguments : (es : ExprTrees) (k p m : ℕ) (c : Mark) (name : List ℕ) (done : ExprTrees) (e : ExprTree) (fs : List PendingNode) → ValidArguments es → Valid e
        → deepest_stack_path fs ≤ m → depth_of fs + (1 + max (height_arguments done) (height e)) ≤ m → depth_of fs + (1 + begun_arguments es k) ≤ m
        → Within m (run lines least p (take (suc k) (spell_more_arguments es ++ kind.Sign sign.CloseParen ∷ [])) (Some (state_behind e (InCall c name done ∷ fs))))
    reach-arguments ExprTrees.NoArguments k p m c name done e fs v w l a d =
        within-as lines least m _ (run lines least (p + 1) (take k []) (Some (AfterOperand (ExprTree.Call c name (add_argument done e)) fs)))
        (run-shift lines least p (kind.Sign sign.CloseParen) (take k []) (state_behind e (InCall c name done ∷ fs)) (Some (AfterOperand (ExprTree.Call c name (add_argument done e)) fs))
        (shift-called least (here lines p) e fs w c name done))
        (within-end lines least (p + 1) k m (Some (AfterOperand (ExprTree.Call c name (add_argument done e)) fs)) (omega (arith, arguments-height done e)))
    reach-arguments (ExprTrees.Argument x es) k p m c name done e fs v w l a d =
        let q = p + 1 in
        let x' = place lines q x in
        let f = InCall c name (add_argument done e) in
        let zs = spell_more_arguments es ++ kind.Sign sign.CloseParen ∷ [] in
        let ls : deepest_stack_path (f ∷ fs) ≤ m = omega (arith, arguments-height done e) in
        within-as lines least m _ (run lines least q (take k ((spell x ++ spell_more_arguments es) ++ kind.Sign sign.CloseParen ∷ [])) (Some (BeforeOperand (f ∷ fs))))
        (run-shift lines least p (kind.Sign sign.Comma) (take k ((spell x ++ spell_more_arguments es) ++ kind.Sign sign.CloseParen ∷ [])) (state_behind e (InCall c name done ∷ fs)) (Some (BeforeOperand (f ∷ fs)))
        (shift-argument least (here lines p) e fs w c name done))
        (within-same lines least q m k ((spell x ++ spell_more_arguments es) ++ kind.Sign sign.CloseParen ∷ []) (spell x ++ zs) (Some (BeforeOperand (f ∷ fs)))
        (append_assoc (spell x) (spell_more_arguments es) (kind.Sign sign.CloseParen ∷ []))
        (within-on lines least q k m (spell x) zs (Some (BeforeOperand (f ∷ fs))) (state_behind x' (f ∷ fs))
        (through lines least x q (f ∷ fs) (v.0, v.1))
        (λ h. reach x k q m (f ∷ fs) (v.0, v.1) ls (omega arith))
        (λ j n. let g : k - (width x + 1) ≡ j = omega arith in
        let d' : depth_of fs + (1 + max (begun x k) (begun_arguments es j)) ≤ m = rw g at d in
        let hx : height x' ≡ begun x k = height-place lines q x ∙ sym (begun-full x k v.0 (omega arith)) in
        reach-arguments es j (q + width x) m c name (add_argument done e) x' fs v.2 (valid-place lines q x v.0) l (omega (arith, arguments-height done e)) (omega arith))))

    -- a type name from what is held where its specifier comes, with the parenthesis behind it
    reach-type : (t : TypeTree) (k q m : ℕ) (n : Mark) (z : Bool) (fs : List PendingNode) (start : State) → ValidType t
        → ((ks : List TokenKind) → FirstOf BeginsSpec ks → run lines least q ks (Some start) ≡ run lines least q ks (Some (Specifier (InType n z ∷ fs))))
        → deepest_stack_path fs ≤ m → depth_of fs + (1 + begun_type t (suc k)) ≤ m
        → Within m (run lines least q (take (suc k) (spell_type t ++ kind.Sign sign.CloseParen ∷ [])) (Some start))
    reach-type (TypeTree.TypeName s i ds) k q m n z fs start v begins l d =
        let s' = place_spec lines q s in
        let a = q + width_spec s in
        let ds' = place_dims lines (a + length (stars i)) ds in
        let ys = spell_dims ds ++ kind.Sign sign.CloseParen ∷ [] in
        within-same lines least q m (suc k) ((spell_spec s ++ (stars i ++ spell_dims ds)) ++ kind.Sign sign.CloseParen ∷ []) (spell_spec s ++ (stars i ++ ys)) (Some start)
        (append_assoc (spell_spec s) (stars i ++ spell_dims ds) (kind.Sign sign.CloseParen ∷ [])
        ∙ ap (λ ks. spell_spec s ++ ks) (append_assoc (stars i) (spell_dims ds) (kind.Sign sign.CloseParen ∷ [])))
        (within-on lines least q (suc k) m (spell_spec s) (stars i ++ ys) (Some start) (AfterSpec s' (InType n z ∷ fs))
        (begins (spell_spec s) (first-spec s v.0) ∙ through-spec lines least s q (InType n z ∷ fs) v.0)
        (λ h. within-as lines least m _ (run lines least q (take (suc k) (spell_spec s)) (Some (Specifier (InType n z ∷ fs))))
        (begins (take (suc k) (spell_spec s)) (first-take BeginsSpec k (spell_spec s) (first-spec s v.0)))
        (reach-spec s (suc k) q m (InType n z ∷ fs) v.0 (omega arith) (omega arith)))
        (λ j e. let g : suc k - width_spec s ≡ suc j = omega arith in
        let g2 : suc k - (width_spec s + i) ≡ suc j - i = omega arith in
        let d' : depth_of fs + (1 + max (begun_spec s (suc k)) (min i (suc j) + begun_dims ds (suc j - i))) ≤ m = rw (g, g2) at d in
        let hs : height_spec s' ≡ begun_spec s (suc k) = spec-place lines q s ∙ sym (full-spec s (suc k) v.0 (omega arith)) in
        let lw : length (stars i) ≡ i = length-stars i in
        within-as lines least m _ (run lines least a (take (suc j) (stars i ++ ys)) (Some (Dims (OfType n z s' 0) DimTrees.NoDims fs)))
        (type-on-part lines least a j i s' n z ds [] fs v.1)
        (within-on lines least a (suc j) m (stars i) ys (Some (Dims (OfType n z s' 0) DimTrees.NoDims fs)) (Dims (OfType n z s' (0 + i)) DimTrees.NoDims fs)
        (type-stars lines least a n z s' 0 i fs)
        (λ h. type-stars-reach lines least a (suc j) m n z s' 0 i fs (omega arith) l (omega arith) (omega arith))
        (λ x e2. let z0 : 0 + i ≡ i = omega arith in
        let g3 : suc j - i ≡ suc x = omega arith in
        let d2 : depth_of fs + (1 + max (begun_spec s (suc k)) (min i (suc j) + begun_dims ds (suc x))) ≤ m = rw g3 at d' in
        let b = a + length (stars i) in
        within-then lines least b (suc x) m (spell_dims ds) (kind.Sign sign.CloseParen) [] (Some (Dims (OfType n z s' (0 + i)) DimTrees.NoDims fs)) (Dims (OfType n z s' (0 + i)) ds' fs) (Some (type_state n z (TypeTree.TypeName s' (0 + i) ds') fs))
        (through-dims lines least ds b (OfType n z s' (0 + i)) DimTrees.NoDims fs v.1)
        (type-closes least (here lines (b + width_dims ds)) n z s' (0 + i) ds' fs)
        (λ h. reach-dims ds (suc x) b m (OfType n z s' (0 + i)) DimTrees.NoDims fs v.1 l (omega arith) (omega arith))
        (λ y e3. let hd : height_dims ds' ≡ begun_dims ds (suc x) = dims-place lines b ds ∙ sym (full-dims ds (suc x) v.1 (omega arith)) in
        within-end lines least _ y m (Some (type_state n z (TypeTree.TypeName s' (0 + i) ds') fs)) (type-path m n z (TypeTree.TypeName s' (0 + i) ds') fs l (omega arith)))))))

    reach-dims : (ds : DimTrees) (k p m : ℕ) (h : Head) (done : DimTrees) (fs : List PendingNode) → ValidDims ds
        → deepest_stack_path fs ≤ m → depth_of fs + max (head_height h) (head_rise h + height_dims done) ≤ m → depth_of fs + (head_rise h + (count done + begun_dims ds k)) ≤ m
        → Within m (run lines least p (take k (spell_dims ds)) (Some (Dims h done fs)))
    reach-dims ds zero p m h done fs v l a d = omega arith
    reach-dims DimTrees.NoDims (suc k) p m h done fs v l a d = omega arith
    reach-dims (DimTrees.Unsized ds) (suc k) p m h done fs v l a d = absurd v
    reach-dims (DimTrees.Sized e ds) (suc k) p m h done fs v l a d =
        let q = p + 1 in
        let e' = place lines q e in
        let f = InLength h done in
        let g : suc k - 1 ≡ k = omega arith in
        let d' : depth_of fs + (head_rise h + (count done + (1 + max (begun e k) (begun_dims ds (suc k - (width e + 2)))))) ≤ m = rw g at d in
        within-then lines least q k m (spell e) (kind.Sign sign.CloseBracket) (spell_dims ds) (Some (BeforeOperand (f ∷ fs))) (state_behind e' (f ∷ fs)) (Some (Dims h (add_dim done e') fs))
        (through lines least e q (f ∷ fs) (v.0, v.1))
        (shift-length least (here lines (q + width e)) e' fs (valid-place lines q e v.0) h done)
        (λ _. reach e k q m (f ∷ fs) (v.0, v.1) (omega arith) (omega arith))
        (λ j n. let g2 : suc k - (width e + 2) ≡ j = omega arith in
        let d2 : depth_of fs + (head_rise h + (count done + (1 + max (begun e k) (begun_dims ds j)))) ≤ m = rw g2 at d' in
        let he : height e' ≡ begun e k = height-place lines q e ∙ sym (begun-full e k v.0 (omega arith)) in
        reach-dims ds j (q + width e + 1) m h (add_dim done e') fs v.2 l (omega (arith, dims-height done e')) (omega (arith, dims-count done e')))

    pub reach-spec : (s : SpecTree) (k p m : ℕ) (fs : List PendingNode) → ValidSpec s → deepest_stack_path fs ≤ m → depth_of fs + begun_spec s k ≤ m
        → Within m (run lines least p (take k (spell_spec s)) (Some (Specifier fs)))
    reach-spec s zero p m fs v l d = omega (arith, newest_path-stack fs)
    reach-spec (SpecTree.Void f) (suc k) p m fs v l d = within-end lines least (p + 1) k m (Some (AfterSpec (SpecTree.Void p) fs)) (omega (arith, depth-path fs))
    reach-spec (SpecTree.SizeT f) (suc k) p m fs v l d = within-end lines least (p + 1) k m (Some (AfterSpec (SpecTree.SizeT p) fs)) (omega (arith, depth-path fs))
    reach-spec (SpecTree.Integer f ws) (suc k) p m fs v l d = integer-reach lines least p (suc k) m ws fs v l
    reach-spec (SpecTree.Tag f tag) (suc zero) p m fs v l d = omega arith
    reach-spec (SpecTree.Tag f tag) (suc (suc k)) p m fs v l d = within-end lines least (p + 1 + 1) k m (Some (AfterSpec (SpecTree.Tag p tag) fs)) (omega arith)
    reach-spec (SpecTree.Struct f tag ms) (suc zero) p m fs v l d = omega arith
    reach-spec (SpecTree.Struct f None ms) (suc (suc k)) p m fs v l d =
        let g : suc (suc k) - (0 + 2) ≡ k = omega arith in
        let d' : depth_of fs + (1 + begun_members ms k) ≤ m = rw g at d in
        let b : StructBody = record { first = p; tag = None; members = MemberTrees.NoMembers } in
        reach-body lines least ms k (p + 1 + 1) m p None fs v.1 v.2 l d' (reach-members ms k (p + 1 + 1) m b fs v.2 l (omega arith) d')
    reach-spec (SpecTree.Struct f (Some tag) ms) (suc (suc zero)) p m fs v l d = omega arith
    reach-spec (SpecTree.Struct f (Some tag) ms) (suc (suc (suc k))) p m fs v l d =
        let g : suc (suc (suc k)) - (1 + 2) ≡ k = omega arith in
        let d' : depth_of fs + (1 + begun_members ms k) ≤ m = rw g at d in
        let b : StructBody = record { first = p; tag = Some tag; members = MemberTrees.NoMembers } in
        reach-body lines least ms k (p + 1 + 1 + 1) m p (Some tag) fs v.1 v.2 l d' (reach-members ms k (p + 1 + 1 + 1) m b fs v.2 l (omega arith) d')

    reach-members : (ms : MemberTrees) (k p m : ℕ) (b : StructBody) (fs : List PendingNode) → ValidMembers ms
        → deepest_stack_path fs ≤ m → depth_of fs + (1 + height_members b.members) ≤ m → depth_of fs + (1 + begun_members ms k) ≤ m
        → Within m (run lines least p (take k (spell_members ms)) (Some (Members b fs)))
    reach-members ms zero p m b fs v l a d = omega arith
    reach-members MemberTrees.NoMembers (suc k) p m b fs v l a d = omega arith
    reach-members (MemberTrees.MemberLine s names ms) (suc k) p m b fs v l a d =
        let s' = place_spec lines p s in
        let q = p + width_spec s in
        let names' = place_objs lines q names in
        let xs = spell_objs names ++ kind.Sign sign.Semi ∷ [] in
        let w : length xs ≡ width_objs names + 1 = length-more (spell_objs names) (kind.Sign sign.Semi) in
        let line : StructDeclaration = record { body = b; spec = s'; names = ObjTrees.NoDeclarators } in
        within-on lines least p (suc k) m (spell_spec s) (spell_objs names ++ kind.Sign sign.Semi ∷ spell_members ms) (Some (Members b fs)) (AfterSpec s' (InStruct b ∷ fs))
        (members-list lines least p b (spell_spec s) fs (first-spec s v.0) ∙ through-spec lines least s p (InStruct b ∷ fs) v.0)
        (λ _. within-as lines least m _ (run lines least p (take (suc k) (spell_spec s)) (Some (Specifier (InStruct b ∷ fs))))
        (members-list lines least p b (take (suc k) (spell_spec s)) fs (first-take BeginsSpec k (spell_spec s) (first-spec s v.0)))
        (reach-spec s (suc k) p m (InStruct b ∷ fs) v.0 (omega arith) (omega arith)))
        (λ j e. let g : suc k - width_spec s ≡ suc j = omega arith in
        let d' : depth_of fs + (1 + max (begun_spec s (suc k)) (max (begun_objs names (suc j)) (begun_members ms (suc k - (width_spec s + width_objs names + 1))))) ≤ m = rw g at d in
        let hs : height_spec s' ≡ begun_spec s (suc k) = spec-place lines p s ∙ sym (full-spec s (suc k) v.0 (omega arith)) in
        within-same lines least q m (suc j) (spell_objs names ++ kind.Sign sign.Semi ∷ spell_members ms) (xs ++ spell_members ms) (Some (AfterSpec s' (InStruct b ∷ fs)))
        (sym (append_assoc (spell_objs names) (kind.Sign sign.Semi ∷ []) (spell_members ms)))
        (within-on lines least q (suc j) m xs (spell_members ms) (Some (AfterSpec s' (InStruct b ∷ fs))) (Members (ended (more_names line names')) fs)
        (through-names lines least names q s' b fs [] v.1 v.2)
        (λ _. reach-names names j q m s' b fs v.1 v.2 l (omega arith) (omega arith))
        (λ i e2. let g2 : suc k - (width_spec s + width_objs names + 1) ≡ suc i = omega arith in
        let d2 : depth_of fs + (1 + max (begun_spec s (suc k)) (max (begun_objs names (suc j)) (begun_members ms (suc i)))) ≤ m = rw g2 at d' in
        let hn : height_objs names' ≡ begun_objs names (suc j) = objs-place lines q names ∙ sym (full-names names (suc j) v.2 (omega arith)) in
        reach-members ms (suc i) (q + length xs) m (ended (more_names line names')) fs v.3 l (omega (arith, members-height b.members s' names')) (omega arith))))

    -- the names of a line of members, and its semicolon
    reach-names : (names : ObjTrees) (k q m : ℕ) (s : SpecTree) (b : StructBody) (fs : List PendingNode) → HasDeclarator names → ValidMemberNames names
        → deepest_stack_path fs ≤ m → depth_of fs + (1 + max (height_members b.members) (height_spec s)) ≤ m → depth_of fs + (1 + begun_objs names (suc k)) ≤ m
        → Within m (run lines least q (take (suc k) (spell_objs names ++ kind.Sign sign.Semi ∷ [])) (Some (AfterSpec s (InStruct b ∷ fs))))
    reach-names ObjTrees.NoDeclarators k q m s b fs h v l a d = absurd h
    reach-names (ObjTrees.Declarator o os) k q m s b fs h v l a d =
        let line : StructDeclaration = record { body = b; spec = s; names = ObjTrees.NoDeclarators } in
        let o' = place_obj lines q o in
        let zs = spell_more_objs os ++ kind.Sign sign.Semi ∷ [] in
        within-same lines least q m (suc k) ((spell_obj o ++ spell_more_objs os) ++ kind.Sign sign.Semi ∷ []) (spell_obj o ++ zs) (Some (AfterSpec s (InStruct b ∷ fs)))
        (append_assoc (spell_obj o) (spell_more_objs os) (kind.Sign sign.Semi ∷ []))
        (within-as lines least m _ (run lines least q (take (suc k) (spell_obj o ++ zs)) (Some (Declare line 0 fs)))
        (obj-on-part lines least o k q s b zs fs v.0)
        (within-on lines least q (suc k) m (spell_obj o) zs (Some (Declare line 0 fs)) (obj_state line o' fs)
        (through-obj lines least o q line fs v.0)
        (λ _. reach-obj o (suc k) q m line fs v.0 l (omega arith) (omega arith))
        (λ j n. let g : suc k - (width_obj o + 1) ≡ j = omega arith in
        let d' : depth_of fs + (1 + max (begun_obj o (suc k)) (begun_objs os j)) ≤ m = rw g at d in
        let ho : height_obj o' ≡ begun_obj o (suc k) = obj-place lines q o ∙ sym (full-name o (suc k) v.0 (omega arith)) in
        reach-more-names os j (q + width_obj o) m line o' fs v.1 (valid-name lines q o v.0) l (omega arith) (omega arith))))

    reach-more-names : (os : ObjTrees) (k p m : ℕ) (line : StructDeclaration) (o : ObjTree) (fs : List PendingNode) → ValidMemberNames os → ValidMemberName o
        → deepest_stack_path fs ≤ m → depth_of fs + (1 + max (line_height line) (height_obj o)) ≤ m → depth_of fs + (1 + begun_objs os k) ≤ m
        → Within m (run lines least p (take (suc k) (spell_more_objs os ++ kind.Sign sign.Semi ∷ [])) (Some (obj_state line o fs)))
    reach-more-names ObjTrees.NoDeclarators k p m line o fs v w l a d =
        within-as lines least m _ (run lines least (p + 1) (take k []) (Some (Members (ended (add_name line o)) fs)))
        (run-shift lines least p (kind.Sign sign.Semi) (take k []) (obj_state line o fs) (Some (Members (ended (add_name line o)) fs)) (name-semi least (here lines p) line o fs w))
        (within-end lines least (p + 1) k m (Some (Members (ended (add_name line o)) fs))
        (omega (arith, members-height line.body.members line.spec (add_obj line.names o), objs-height line.names o)))
    reach-more-names (ObjTrees.Declarator x os) k p m line o fs v w l a d =
        let q = p + 1 in
        let x' = place_obj lines q x in
        let zs = spell_more_objs os ++ kind.Sign sign.Semi ∷ [] in
        within-as lines least m _ (run lines least q (take k ((spell_obj x ++ spell_more_objs os) ++ kind.Sign sign.Semi ∷ [])) (Some (Declare (add_name line o) 0 fs)))
        (run-shift lines least p (kind.Sign sign.Comma) (take k ((spell_obj x ++ spell_more_objs os) ++ kind.Sign sign.Semi ∷ [])) (obj_state line o fs) (Some (Declare (add_name line o) 0 fs)) (name-comma least (here lines p) line o fs w))
        (within-same lines least q m k ((spell_obj x ++ spell_more_objs os) ++ kind.Sign sign.Semi ∷ []) (spell_obj x ++ zs) (Some (Declare (add_name line o) 0 fs))
        (append_assoc (spell_obj x) (spell_more_objs os) (kind.Sign sign.Semi ∷ []))
        (within-on lines least q k m (spell_obj x) zs (Some (Declare (add_name line o) 0 fs)) (obj_state (add_name line o) x' fs)
        (through-obj lines least x q (add_name line o) fs v.0)
        (λ _. reach-obj x k q m (add_name line o) fs v.0 l (omega (arith, objs-height line.names o)) (omega arith))
        (λ j n. let g : k - (width_obj x + 1) ≡ j = omega arith in
        let d' : depth_of fs + (1 + max (begun_obj x k) (begun_objs os j)) ≤ m = rw g at d in
        let hx : height_obj x' ≡ begun_obj x k = obj-place lines q x ∙ sym (full-name x k v.0 (omega arith)) in
        reach-more-names os j (q + width_obj x) m (add_name line o) x' fs v.1 (valid-name lines q x v.0) l (omega (arith, objs-height line.names o)) (omega arith))))

    reach-obj : (o : ObjTree) (k q m : ℕ) (line : StructDeclaration) (fs : List PendingNode) → ValidMemberName o
        → deepest_stack_path fs ≤ m → depth_of fs + (1 + line_height line) ≤ m → depth_of fs + (1 + begun_obj o k) ≤ m
        → Within m (run lines least q (take k (spell_obj o)) (Some (Declare line 0 fs)))
    reach-obj (ObjTree.Initial i name x ds n) k q m line fs v l a d = absurd v
    reach-obj (ObjTree.Bare i name x ds) k q m line fs v l a d =
        let b = q + length (stars i) in
        within-then lines least q k m (stars i) (kind.Name name) (spell_dims ds) (Some (Declare line 0 fs)) (Declare line (0 + i) fs) (Some (Dims (OfMember line (0 + i) name b) DimTrees.NoDims fs))
        (member-stars lines least q line 0 i fs) refl
        (λ h. member-stars-reach lines least q k m line 0 i fs (omega (arith, length-stars i)) l a (omega (arith, length-stars i)))
        (λ j n. let g : k - (i + 1) ≡ j = omega (arith, length-stars i) in
        let d' : depth_of fs + (1 + (min i k + begun_dims ds j)) ≤ m = rw g at d in
        reach-dims ds j (b + 1) m (OfMember line (0 + i) name b) DimTrees.NoDims fs v.1 l (omega (arith, length-stars i)) (omega (arith, length-stars i)))
