-- The machine reads each valid tree from its spelling, and leaves the tree with its places.
use Rattle.std.proofs.Common.{◌≡◌, ℕ, suc, ◌+◌, ◌≤◌, List, [], ◌∷◌, ◌++◌, length, map, Bool, false, true, Option, Some, refl, sym, ◌∙◌, ap, arith, append_assoc, append-nil, length-append}
use Rattle.std.specs.Prelude.{IsTrue}
use Rattle.ob_tree.specs.declared.tokens.TokenKind.{TokenKind}
use Rattle.ob_tree.specs.declared.tokens.TokenKind.TheVariants as kind
use Rattle.ob_tree.specs.declared.tokens.Sign.{Sign}
use Rattle.ob_tree.specs.declared.tokens.Sign.TheVariants as sign
use Rattle.ob_tree.specs.Trees.{Mark, Infix, ExprTree, ExprTrees, TypeTree, SpecTree, MemberTrees, ObjTree, ObjTrees, DimTrees}
use Rattle.ob_tree.specs.Spelling.{spell, spell_more_arguments, spell_type, spell_spec, spell_members, spell_objs, spell_more_objs, spell_obj, spell_dims, stars, infix_sign}
use Rattle.ob_tree.specs.Levels.{is_unary, infix_level, left_level}
use Rattle.ob_tree.specs.Valid.{Valid, ValidArguments, ValidType, ValidSpec, ValidMembers, ValidMemberNames, ValidMemberName, ValidDims, HasDeclarator, IsOf}
use Rattle.ob_tree.specs.Places.{here, signed, place, place_arguments, place_type, place_spec, place_members, place_objs, place_obj, place_dims, width, width_name, width_type, width_spec, width_objs, width_obj, width_dims}
use Rattle.ob_tree.specs.ExprStates.{Head, OfType, OfMember, StructBody, StructDeclaration, PendingNode, InParen, InIndex, InCall, InStep, InUnary, InSize, InCast, InJoin, InThen, InElse, InLength, InType, InStruct, State, BeforeOperand, Open, SizeOpen, Called, Select, AfterOperand, Specifier, Members, Declare, Dims, AfterSpec, add_argument, add_dim, top_operand_level}
use Rattle.ob_tree.specs.ExprMachine.{ended, operand, shift, run}
use Rattle.ob_tree.proofs.PlaceKeeps.{mark-place, valid-place, of-place, valid-name, has-member}
use Rattle.ob_tree.proofs.Unreduced.{state_behind}
use Rattle.ob_tree.proofs.SignShifts.{no, shift-join, shift-question, shift-index, shift-dot, shift-arrow, shift-up, shift-down, shift-paren, shift-argument, shift-called, shift-bracket, shift-length, shift-colon}
use Rattle.ob_tree.proofs.Runs.{run-on, run-then, run-from, run-shift}
use Rattle.ob_tree.proofs.FirstTokens.{FirstOf, BeginsSpec, first-operand, first-unary, first-spec, open-list, call-list, size-list, open-spec-list, size-spec-list, members-list}
use Rattle.ob_tree.proofs.SpecShifts.{append_arguments, append_dims, arguments-add, arguments-more, dims-end, dims-more, objs-add, objs-more, members-end, members-more, more_members, more_names, add_name, length-stars, obj_state, type_state, integer-run, type-stars, type-on, line-on, name-run, struct-run, struct-ends, name-comma, name-semi}

pub left-above : (op : Infix) → infix_level op ≤ left_level op
left-above Infix.Comma = omega arith
left-above (Infix.Assign s) = omega arith
left-above (Infix.Binary s) = omega arith

pub unary-shift : (m : Mark) (s : Sign) (fs : List PendingNode) → IsTrue (is_unary s) → operand m (kind.Sign s) fs ≡ Some (BeforeOperand (InUnary m s ∷ fs))
unary-shift m sign.Amp fs h = refl
unary-shift m sign.Star fs h = refl
unary-shift m sign.Plus fs h = refl
unary-shift m sign.Minus fs h = refl
unary-shift m sign.Tilde fs h = refl
unary-shift m sign.Not fs h = refl
unary-shift m s fs h = no h

pub type-closes : (least : ℕ) (m n : Mark) (z : Bool) (s : SpecTree) (i : ℕ) (ds : DimTrees) (fs : List PendingNode)
    → shift least m (kind.Sign sign.CloseParen) (Dims (OfType n z s i) ds fs) ≡ Some (type_state n z (TypeTree.TypeName s i ds) fs)
type-closes least m n false s i ds fs = refl
type-closes least m n true s i ds fs = refl

module _ (lines : ℕ → ℕ) (least : ℕ) where
  pub strings-run : (p : ℕ) (m : Mark) (xs ss : List (List ℕ)) (fs : List PendingNode)
      → run lines least p (map kind.Str ss) (Some (AfterOperand (ExprTree.Str m xs) fs)) ≡ Some (AfterOperand (ExprTree.Str m (xs ++ ss)) fs)
  strings-run p m xs [] fs = ap (λ ss. Some (AfterOperand (ExprTree.Str m ss) fs)) (sym (append-nil xs))
  strings-run p m xs (s ∷ ss) fs =
      strings-run (p + 1) m (xs ++ s ∷ []) ss fs ∙ ap (λ x. Some (AfterOperand (ExprTree.Str m x) fs)) (append_assoc xs (s ∷ []) ss)

  through-strings : (p : ℕ) (ss : List (List ℕ)) (fs : List PendingNode) → Valid (ExprTree.Str (here lines p) ss)
      → run lines least p (map kind.Str ss) (Some (BeforeOperand fs)) ≡ Some (AfterOperand (ExprTree.Str (here lines p) ss) fs)
  through-strings p [] fs v = absurd v
  through-strings p (s ∷ ss) fs v = strings-run (p + 1) (here lines p) (s ∷ []) ss fs

  pub obj-on : (q : ℕ) (o : ObjTree) (b : StructBody) (s : SpecTree) (fs : List PendingNode) → ValidMemberName o
      → run lines least q (spell_obj o) (Some (AfterSpec s (InStruct b ∷ fs)))
      ≡ run lines least q (spell_obj o) (Some (Declare (record { body = b; spec = s; names = ObjTrees.NoDeclarators }) 0 fs))
  obj-on q (ObjTree.Bare n name a ds) b s fs v = line-on lines least q n s b name (spell_dims ds) fs
  obj-on q (ObjTree.Initial n name a ds i) b s fs v = absurd v

  -- the same tokens in other groups
  pub regroup : (p : ℕ) (xs ys zs : List TokenKind) (s : Option State)
      → run lines least p ((xs ++ ys) ++ zs) s ≡ run lines least p (xs ++ (ys ++ zs)) s
  regroup p xs ys zs s = ap (λ ks. run lines least p ks s) (append_assoc xs ys zs)

  mutual
    pub through : (t : ExprTree) (p : ℕ) (fs : List PendingNode) → IsOf (top_operand_level least fs) t
        → run lines least p (spell t) (Some (BeforeOperand fs)) ≡ Some (state_behind (place lines p t) fs)
    through (ExprTree.Name m name) p fs v = refl
    through (ExprTree.Number m value ty) p fs v = refl
    through (ExprTree.Null m) p fs v = refl
    through (ExprTree.Eof m) p fs v = refl
    through (ExprTree.Str m ss) p fs v = through-strings p ss fs v.0
    through (ExprTree.Paren m e) p fs v =
        let e' = place lines (p + 1) e in
        let n = here lines p in
        run-then lines least (p + 1) (spell e) (kind.Sign sign.CloseParen) [] (Some (Open n fs)) (state_behind e' (InParen n ∷ fs)) (Some (AfterOperand (ExprTree.Paren n e') fs))
        (open-list lines least (p + 1) n (spell e) fs (first-operand e v.0) ∙ through e (p + 1) (InParen n ∷ fs) (v.0, omega arith))
        (shift-paren least (here lines (p + 1 + width e)) e' fs (valid-place lines (p + 1) e v.0) n)
    through (ExprTree.Index m b i) p fs v =
        let b' = place lines p b in
        let q = p + width b in
        let i' = place lines (q + 1) i in
        let n = signed lines p q in
        run-then lines least p (spell b) (kind.Sign sign.OpenBracket) (spell i ++ kind.Sign sign.CloseBracket ∷ []) (Some (BeforeOperand fs)) (state_behind b' fs) (Some (BeforeOperand (InIndex n b' ∷ fs)))
        (through b p fs (v.0.0, omega (arith, v.1, v.0.1)))
        (shift-index least (here lines q) b' fs (of-place lines p 15 b (v.0.0, v.0.1)).1 ∙ ap (λ k. Some (BeforeOperand (InIndex k b' ∷ fs))) (mark-place lines p q b))
        ∙ run-then lines least (q + 1) (spell i) (kind.Sign sign.CloseBracket) [] (Some (BeforeOperand (InIndex n b' ∷ fs))) (state_behind i' (InIndex n b' ∷ fs)) (Some (AfterOperand (ExprTree.Index n b' i') fs))
        (through i (q + 1) (InIndex n b' ∷ fs) (v.0.2, omega arith))
        (shift-bracket least (here lines (q + 1 + width i)) i' fs (valid-place lines (q + 1) i v.0.2) n b')
    through (ExprTree.Call m name ExprTrees.NoArguments) p fs v = refl
    through (ExprTree.Call m name (ExprTrees.Argument e es)) p fs v =
        let n = here lines p in
        let e' = place lines (p + 2) e in
        let f = InCall n name ExprTrees.NoArguments in
        run-from lines least (p + 1 + 1) (p + 2) ((spell e ++ spell_more_arguments es) ++ kind.Sign sign.CloseParen ∷ []) (Some (Called n name fs)) (omega arith)
        ∙ regroup (p + 2) (spell e) (spell_more_arguments es) (kind.Sign sign.CloseParen ∷ []) (Some (Called n name fs))
        ∙ run-on lines least (p + 2) (spell e) (spell_more_arguments es ++ kind.Sign sign.CloseParen ∷ []) (Some (Called n name fs)) (Some (state_behind e' (f ∷ fs)))
        (call-list lines least (p + 2) n name (spell e) fs (first-operand e v.0.1.0) ∙ through e (p + 2) (f ∷ fs) (v.0.1.0, v.0.1.1))
        ∙ through-arguments es (p + 2 + width e) n name ExprTrees.NoArguments e' fs [] v.0.1.2 (valid-place lines (p + 2) e v.0.1.0)
    through (ExprTree.Member m b name) p fs v =
        let b' = place lines p b in
        let q = p + width b in
        run-then lines least p (spell b) (kind.Sign sign.Dot) (kind.Name name ∷ []) (Some (BeforeOperand fs)) (state_behind b' fs) (Some (Select (signed lines p q) false b' fs))
        (through b p fs (v.0.0, omega (arith, v.1, v.0.1)))
        (shift-dot least (here lines q) b' fs (of-place lines p 15 b (v.0.0, v.0.1)).1 ∙ ap (λ k. Some (Select k false b' fs)) (mark-place lines p q b))
    through (ExprTree.Arrow m b name) p fs v =
        let b' = place lines p b in
        let q = p + width b in
        run-then lines least p (spell b) (kind.Sign sign.Arrow) (kind.Name name ∷ []) (Some (BeforeOperand fs)) (state_behind b' fs) (Some (Select (signed lines p q) true b' fs))
        (through b p fs (v.0.0, omega (arith, v.1, v.0.1)))
        (shift-arrow least (here lines q) b' fs (of-place lines p 15 b (v.0.0, v.0.1)).1 ∙ ap (λ k. Some (Select k true b' fs)) (mark-place lines p q b))
    through (ExprTree.Step m false false e) p fs v = through e (p + 1) (InStep (here lines p) false ∷ fs) v.0
    through (ExprTree.Step m false true e) p fs v = through e (p + 1) (InStep (here lines p) true ∷ fs) v.0
    through (ExprTree.Step m true false e) p fs v =
        let e' = place lines p e in
        let q = p + width e in
        run-then lines least p (spell e) (kind.Sign sign.PlusPlus) [] (Some (BeforeOperand fs)) (state_behind e' fs) (Some (AfterOperand (ExprTree.Step (signed lines p q) true false e') fs))
        (through e p fs (v.0.0, omega (arith, v.1, v.0.1)))
        (shift-up least (here lines q) e' fs (of-place lines p 15 e v.0).1 ∙ ap (λ k. Some (AfterOperand (ExprTree.Step k true false e') fs)) (mark-place lines p q e))
    through (ExprTree.Step m true true e) p fs v =
        let e' = place lines p e in
        let q = p + width e in
        run-then lines least p (spell e) (kind.Sign sign.MinusMinus) [] (Some (BeforeOperand fs)) (state_behind e' fs) (Some (AfterOperand (ExprTree.Step (signed lines p q) true true e') fs))
        (through e p fs (v.0.0, omega (arith, v.1, v.0.1)))
        (shift-down least (here lines q) e' fs (of-place lines p 15 e v.0).1 ∙ ap (λ k. Some (AfterOperand (ExprTree.Step k true true e') fs)) (mark-place lines p q e))
    through (ExprTree.Unary m s e) p fs v =
        run-shift lines least p (kind.Sign s) (spell e) (BeforeOperand fs) (Some (BeforeOperand (InUnary (here lines p) s ∷ fs))) (unary-shift (here lines p) s fs v.0.0)
        ∙ through e (p + 1) (InUnary (here lines p) s ∷ fs) (v.0.1, v.0.2)
    through (ExprTree.SizeExpr m e) p fs v =
        size-list lines least (p + 1) (here lines p) (spell e) fs (first-unary e v.0.0 v.0.1) ∙ through e (p + 1) (InSize (here lines p) ∷ fs) v.0
    through (ExprTree.SizeType m t) p fs v =
        run-from lines least (p + 1 + 1) (p + 2) (spell_type t ++ kind.Sign sign.CloseParen ∷ []) (Some (SizeOpen (here lines p) (here lines (p + 1)) fs)) (omega arith)
        ∙ through-type t (p + 2) (here lines p) true fs [] (SizeOpen (here lines p) (here lines (p + 1)) fs) v.0
        (λ ks f. size-spec-list lines least (p + 2) (here lines p) (here lines (p + 1)) ks fs f)
    through (ExprTree.Cast m t e) p fs v =
        let n = here lines p in
        let t' = place_type lines (p + 1) t in
        through-type t (p + 1) n false fs (spell e) (Open n fs) v.0.0 (λ ks f. open-spec-list lines least (p + 1) n ks fs f v.1)
        ∙ run-from lines least (p + 1 + width_type t + 1) (p + width_type t + 2) (spell e) (Some (BeforeOperand (InCast n t' ∷ fs))) (omega arith)
        ∙ through e (p + width_type t + 2) (InCast n t' ∷ fs) (v.0.1, v.0.2)
    through (ExprTree.Cond m c x y) p fs v =
        let c' = place lines p c in
        let q = p + width c in
        let x' = place lines (q + 1) x in
        let n = signed lines p q in
        run-then lines least p (spell c) (kind.Sign sign.Question) (spell x ++ kind.Sign sign.Colon ∷ spell y) (Some (BeforeOperand fs)) (state_behind c' fs) (Some (BeforeOperand (InThen n c' ∷ fs)))
        (through c p fs (v.0.0, omega (arith, v.1, v.0.1)))
        (shift-question least (here lines q) c' fs (of-place lines p 3 c (v.0.0, v.0.1)) v.1 ∙ ap (λ k. Some (BeforeOperand (InThen k c' ∷ fs))) (mark-place lines p q c))
        ∙ run-then lines least (q + 1) (spell x) (kind.Sign sign.Colon) (spell y) (Some (BeforeOperand (InThen n c' ∷ fs))) (state_behind x' (InThen n c' ∷ fs)) (Some (BeforeOperand (InElse n c' x' ∷ fs)))
        (through x (q + 1) (InThen n c' ∷ fs) (v.0.2, omega arith))
        (shift-colon least (here lines (q + 1 + width x)) x' fs (valid-place lines (q + 1) x v.0.2) n c')
        ∙ run-from lines least (q + 1 + width x + 1) (p + width c + width x + 2) (spell y) (Some (BeforeOperand (InElse n c' x' ∷ fs))) (omega arith)
        ∙ through y (p + width c + width x + 2) (InElse n c' x' ∷ fs) (v.0.3, v.0.4)
    through (ExprTree.Join m op l r) p fs v =
        let l' = place lines p l in
        let q = p + width l in
        let n = signed lines p q in
        run-then lines least p (spell l) (kind.Sign (infix_sign op)) (spell r) (Some (BeforeOperand fs)) (state_behind l' fs) (Some (BeforeOperand (InJoin n op l' ∷ fs)))
        (through l p fs (v.0.1, omega (arith, v.1, v.0.2, left-above op)))
        (shift-join least (here lines q) op l' fs v.0.0 (of-place lines p (left_level op) l (v.0.1, v.0.2)) v.1 ∙ ap (λ k. Some (BeforeOperand (InJoin k op l' ∷ fs))) (mark-place lines p q l))
        ∙ through r (q + 1) (InJoin n op l' ∷ fs) (v.0.3, v.0.4)

    -- the arguments behind a first one
    pub through-arguments : (es : ExprTrees) (p : ℕ) (m : Mark) (name : List ℕ) (done : ExprTrees) (e : ExprTree) (fs : List PendingNode) (ys : List TokenKind) → ValidArguments es → Valid e
        → run lines least p (spell_more_arguments es ++ kind.Sign sign.CloseParen ∷ ys) (Some (state_behind e (InCall m name done ∷ fs)))
        ≡ run lines least (p + length (spell_more_arguments es) + 1) ys (Some (AfterOperand (ExprTree.Call m name (append_arguments done (ExprTrees.Argument e (place_arguments lines (p + 1) es)))) fs))
    through-arguments ExprTrees.NoArguments p m name done e fs ys v w =
        run-shift lines least p (kind.Sign sign.CloseParen) ys (state_behind e (InCall m name done ∷ fs)) (Some (AfterOperand (ExprTree.Call m name (add_argument done e)) fs))
        (shift-called least (here lines p) e fs w m name done)
        ∙ run-from lines least (p + 1) (p + 0 + 1) ys _ (omega arith)
        ∙ ap (λ a. run lines least (p + 0 + 1) ys (Some (AfterOperand (ExprTree.Call m name a) fs))) (sym (arguments-add done e))
    through-arguments (ExprTrees.Argument x es) p m name done e fs ys v w =
        let x' = place lines (p + 1) x in
        let f = InCall m name (add_argument done e) in
        let rest = place_arguments lines (p + 1 + width x + 1) es in
        let n : p + 1 + width x + length (spell_more_arguments es) + 1 ≡ p + suc (length (spell x ++ spell_more_arguments es)) + 1 =
        omega (arith, length-append (spell x) (spell_more_arguments es)) in
        run-shift lines least p (kind.Sign sign.Comma) ((spell x ++ spell_more_arguments es) ++ kind.Sign sign.CloseParen ∷ ys) (state_behind e (InCall m name done ∷ fs)) (Some (BeforeOperand (f ∷ fs)))
        (shift-argument least (here lines p) e fs w m name done)
        ∙ regroup (p + 1) (spell x) (spell_more_arguments es) (kind.Sign sign.CloseParen ∷ ys) (Some (BeforeOperand (f ∷ fs)))
        ∙ run-on lines least (p + 1) (spell x) (spell_more_arguments es ++ kind.Sign sign.CloseParen ∷ ys) (Some (BeforeOperand (f ∷ fs))) (Some (state_behind x' (f ∷ fs)))
        (through x (p + 1) (f ∷ fs) (v.0, v.1))
        ∙ through-arguments es (p + 1 + width x) m name (add_argument done e) x' fs ys v.2 (valid-place lines (p + 1) x v.0)
        ∙ run-from lines least _ _ ys _ n
        ∙ ap (λ a. run lines least (p + suc (length (spell x ++ spell_more_arguments es)) + 1) ys (Some (AfterOperand (ExprTree.Call m name a) fs))) (arguments-more done e (ExprTrees.Argument x' rest))

    -- a type name from what is held where its specifier comes, with the parenthesis behind it
    pub through-type : (t : TypeTree) (q : ℕ) (m : Mark) (z : Bool) (fs : List PendingNode) (ys : List TokenKind) (start : State) → ValidType t
        → ((ks : List TokenKind) → FirstOf BeginsSpec ks → run lines least q ks (Some start) ≡ run lines least q ks (Some (Specifier (InType m z ∷ fs))))
        → run lines least q (spell_type t ++ kind.Sign sign.CloseParen ∷ ys) (Some start) ≡ run lines least (q + width_type t + 1) ys (Some (type_state m z (place_type lines q t) fs))
    through-type (TypeTree.TypeName s n ds) q m z fs ys start v begins =
        let s' = place_spec lines q s in
        let a = q + width_spec s in
        let ds' = place_dims lines (a + n) ds in
        let zs = spell_dims ds ++ kind.Sign sign.CloseParen ∷ ys in
        let l : a + n + width_dims ds + 1 ≡ q + length (spell_spec s ++ (stars n ++ spell_dims ds)) + 1 =
        omega (arith, length-append (spell_spec s) (stars n ++ spell_dims ds), length-append (stars n) (spell_dims ds), length-stars n) in
        regroup q (spell_spec s) (stars n ++ spell_dims ds) (kind.Sign sign.CloseParen ∷ ys) (Some start)
        ∙ ap (λ ks. run lines least q (spell_spec s ++ ks) (Some start)) (append_assoc (stars n) (spell_dims ds) (kind.Sign sign.CloseParen ∷ ys))
        ∙ run-on lines least q (spell_spec s) (stars n ++ zs) (Some start) (Some (AfterSpec s' (InType m z ∷ fs))) (begins (spell_spec s) (first-spec s v.0) ∙ through-spec s q (InType m z ∷ fs) v.0)
        ∙ type-on lines least a n s' m z ds ys fs v.1
        ∙ run-on lines least a (stars n) zs (Some (Dims (OfType m z s' 0) DimTrees.NoDims fs)) (Some (Dims (OfType m z s' n) DimTrees.NoDims fs))
        (type-stars lines least a m z s' 0 n fs ∙ (let e : 0 + n ≡ n = omega arith in ap (λ i. Some (Dims (OfType m z s' i) DimTrees.NoDims fs)) e))
        ∙ run-from lines least (a + length (stars n)) (a + n) zs _ (omega (arith, length-stars n))
        ∙ run-then lines least (a + n) (spell_dims ds) (kind.Sign sign.CloseParen) ys (Some (Dims (OfType m z s' n) DimTrees.NoDims fs)) (Dims (OfType m z s' n) ds' fs) (Some (type_state m z (TypeTree.TypeName s' n ds') fs))
        (through-dims ds (a + n) (OfType m z s' n) DimTrees.NoDims fs v.1)
        (type-closes least (here lines (a + n + width_dims ds)) m z s' n ds' fs)
        ∙ run-from lines least (a + n + width_dims ds + 1) _ ys _ l

    pub through-spec : (s : SpecTree) (p : ℕ) (fs : List PendingNode) → ValidSpec s
        → run lines least p (spell_spec s) (Some (Specifier fs)) ≡ Some (AfterSpec (place_spec lines p s) fs)
    through-spec (SpecTree.Void f) p fs v = refl
    through-spec (SpecTree.SizeT f) p fs v = refl
    through-spec (SpecTree.Integer f words) p fs v = integer-run lines least p words fs v
    through-spec (SpecTree.Tag f tag) p fs v = refl
    through-spec (SpecTree.Struct f tag ms) p fs v =
        let q = p + width_name tag + 2 in
        let ms' = place_members lines q ms in
        let b : StructBody = record { first = p; tag = tag; members = MemberTrees.NoMembers } in
        struct-run lines least p tag (spell_members ms ++ kind.Sign sign.CloseBrace ∷ []) fs
        ∙ run-then lines least q (spell_members ms) (kind.Sign sign.CloseBrace) [] (Some (Members b fs)) (Members (more_members b ms') fs) (Some (AfterSpec (SpecTree.Struct p tag ms') fs))
        (through-members ms q b fs v.2) (struct-ends p tag ms' fs (has-member lines q ms v.1))

    pub through-members : (ms : MemberTrees) (p : ℕ) (b : StructBody) (fs : List PendingNode) → ValidMembers ms
        → run lines least p (spell_members ms) (Some (Members b fs)) ≡ Some (Members (more_members b (place_members lines p ms)) fs)
    through-members MemberTrees.NoMembers p b fs v =
        ap (λ ms. Some (Members (record { first = b.first; tag = b.tag; members = ms }) fs)) (sym (members-end b.members))
    through-members (MemberTrees.MemberLine s names ms) p b fs v =
        let s' = place_spec lines p s in
        let a = p + width_spec s in
        let names' = place_objs lines a names in
        let q = a + width_objs names + 1 in
        let l : StructDeclaration = record { body = b; spec = s'; names = ObjTrees.NoDeclarators } in
        run-on lines least p (spell_spec s) (spell_objs names ++ kind.Sign sign.Semi ∷ spell_members ms) (Some (Members b fs)) (Some (AfterSpec s' (InStruct b ∷ fs)))
        (members-list lines least p b (spell_spec s) fs (first-spec s v.0) ∙ through-spec s p (InStruct b ∷ fs) v.0)
        ∙ through-names names a s' b fs (spell_members ms) v.1 v.2
        ∙ through-members ms q (ended (more_names l names')) fs v.3
        ∙ ap (λ x. Some (Members (record { first = b.first; tag = b.tag; members = x }) fs)) (members-more b.members s' names' (place_members lines q ms))

    -- the names of a line of members, and its semicolon
    pub through-names : (names : ObjTrees) (q : ℕ) (s : SpecTree) (b : StructBody) (fs : List PendingNode) (ys : List TokenKind) → HasDeclarator names → ValidMemberNames names
        → run lines least q (spell_objs names ++ kind.Sign sign.Semi ∷ ys) (Some (AfterSpec s (InStruct b ∷ fs)))
        ≡ run lines least (q + width_objs names + 1) ys (Some (Members (ended (more_names (record { body = b; spec = s; names = ObjTrees.NoDeclarators }) (place_objs lines q names))) fs))
    through-names ObjTrees.NoDeclarators q s b fs ys h v = absurd h
    through-names (ObjTrees.Declarator o os) q s b fs ys h v =
        let l : StructDeclaration = record { body = b; spec = s; names = ObjTrees.NoDeclarators } in
        let o' = place_obj lines q o in
        let n : q + width_obj o + length (spell_more_objs os) + 1 ≡ q + length (spell_obj o ++ spell_more_objs os) + 1 =
        omega (arith, length-append (spell_obj o) (spell_more_objs os)) in
        regroup q (spell_obj o) (spell_more_objs os) (kind.Sign sign.Semi ∷ ys) (Some (AfterSpec s (InStruct b ∷ fs)))
        ∙ run-on lines least q (spell_obj o) (spell_more_objs os ++ kind.Sign sign.Semi ∷ ys) (Some (AfterSpec s (InStruct b ∷ fs))) (Some (obj_state l o' fs))
        (obj-on q o b s fs v.0 ∙ through-obj o q l fs v.0)
        ∙ through-more-names os (q + width_obj o) l o' fs ys v.1 (valid-name lines q o v.0)
        ∙ run-from lines least _ _ ys _ n

    pub through-more-names : (os : ObjTrees) (p : ℕ) (l : StructDeclaration) (o : ObjTree) (fs : List PendingNode) (ys : List TokenKind) → ValidMemberNames os → ValidMemberName o
        → run lines least p (spell_more_objs os ++ kind.Sign sign.Semi ∷ ys) (Some (obj_state l o fs))
        ≡ run lines least (p + length (spell_more_objs os) + 1) ys (Some (Members (ended (more_names l (ObjTrees.Declarator o (place_objs lines (p + 1) os)))) fs))
    through-more-names ObjTrees.NoDeclarators p l o fs ys v w =
        run-shift lines least p (kind.Sign sign.Semi) ys (obj_state l o fs) (Some (Members (ended (add_name l o)) fs)) (name-semi least (here lines p) l o fs w)
        ∙ run-from lines least (p + 1) (p + 0 + 1) ys _ (omega arith)
        ∙ ap (λ x. run lines least (p + 0 + 1) ys (Some (Members (ended (record { body = l.body; spec = l.spec; names = x })) fs))) (sym (objs-add l.names o))
    through-more-names (ObjTrees.Declarator x os) p l o fs ys v w =
        let x' = place_obj lines (p + 1) x in
        let rest = place_objs lines (p + 1 + width_obj x + 1) os in
        let n : p + 1 + width_obj x + length (spell_more_objs os) + 1 ≡ p + suc (length (spell_obj x ++ spell_more_objs os)) + 1 =
        omega (arith, length-append (spell_obj x) (spell_more_objs os)) in
        run-shift lines least p (kind.Sign sign.Comma) ((spell_obj x ++ spell_more_objs os) ++ kind.Sign sign.Semi ∷ ys) (obj_state l o fs) (Some (Declare (add_name l o) 0 fs))
        (name-comma least (here lines p) l o fs w)
        ∙ regroup (p + 1) (spell_obj x) (spell_more_objs os) (kind.Sign sign.Semi ∷ ys) (Some (Declare (add_name l o) 0 fs))
        ∙ run-on lines least (p + 1) (spell_obj x) (spell_more_objs os ++ kind.Sign sign.Semi ∷ ys) (Some (Declare (add_name l o) 0 fs)) (Some (obj_state (add_name l o) x' fs))
        (through-obj x (p + 1) (add_name l o) fs v.0)
        ∙ through-more-names os (p + 1 + width_obj x) (add_name l o) x' fs ys v.1 (valid-name lines (p + 1) x v.0)
        ∙ run-from lines least _ _ ys _ n
        ∙ ap (λ y. run lines least (p + suc (length (spell_obj x ++ spell_more_objs os)) + 1) ys (Some (Members (ended (record { body = l.body; spec = l.spec; names = y })) fs))) (objs-more l.names o (ObjTrees.Declarator x' rest))

    pub through-obj : (o : ObjTree) (q : ℕ) (l : StructDeclaration) (fs : List PendingNode) → ValidMemberName o
        → run lines least q (spell_obj o) (Some (Declare l 0 fs)) ≡ Some (obj_state l (place_obj lines q o) fs)
    through-obj (ObjTree.Bare n name a ds) q l fs v =
        name-run lines least q l n name (spell_dims ds) fs ∙ through-dims ds (q + n + 1) (OfMember l n name (q + n)) DimTrees.NoDims fs v.1
    through-obj (ObjTree.Initial n name a ds i) q l fs v = absurd v

    pub through-dims : (ds : DimTrees) (p : ℕ) (h : Head) (done : DimTrees) (fs : List PendingNode) → ValidDims ds
        → run lines least p (spell_dims ds) (Some (Dims h done fs)) ≡ Some (Dims h (append_dims done (place_dims lines p ds)) fs)
    through-dims DimTrees.NoDims p h done fs v = ap (λ ds. Some (Dims h ds fs)) (sym (dims-end done))
    through-dims (DimTrees.Unsized ds) p h done fs v = absurd v
    through-dims (DimTrees.Sized e ds) p h done fs v =
        let e' = place lines (p + 1) e in
        let q = p + width e + 2 in
        run-then lines least (p + 1) (spell e) (kind.Sign sign.CloseBracket) (spell_dims ds) (Some (BeforeOperand (InLength h done ∷ fs))) (state_behind e' (InLength h done ∷ fs)) (Some (Dims h (add_dim done e') fs))
        (through e (p + 1) (InLength h done ∷ fs) (v.0, v.1))
        (shift-length least (here lines (p + 1 + width e)) e' fs (valid-place lines (p + 1) e v.0) h done)
        ∙ run-from lines least (p + 1 + width e + 1) q (spell_dims ds) _ (omega arith)
        ∙ through-dims ds q h (add_dim done e') fs v.2
        ∙ ap (λ x. Some (Dims h x fs)) (dims-more done e' (place_dims lines q ds))
