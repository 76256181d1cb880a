-- What placing a tree keeps: its level, its validity, its nodes and its tokens.
use Rattle.std.proofs.Common.{◌≡◌, ℕ, ◌+◌, ◌≤◌, true, false, refl}
use Rattle.ob_tree.specs.Trees.{ExprTree, ExprTrees, TypeTree, SpecTree, MemberTrees, ObjTree, ObjTrees, DimTrees}
use Rattle.ob_tree.specs.Levels.{level_of, left_level, right_level, step_level, mark_of}
use Rattle.ob_tree.specs.Valid.{Valid, ValidArguments, ValidType, ValidSpec, ValidMembers, ValidMemberNames, ValidMemberName, ValidDims, HasMember, HasDeclarator, IsOf}
use Rattle.ob_tree.specs.Places.{place, place_arguments, place_type, place_spec, place_members, place_objs, place_obj, place_dims, width, width_name, width_type, width_spec, width_objs, width_obj, signed, step_place}
use Rattle.ob_tree.specs.ExprStates.{at_sign}

module _ (lines : ℕ → ℕ) where
  pub level-place : (p : ℕ) (t : ExprTree) → level_of (place lines p t) ≡ level_of t
  level-place p (ExprTree.Name m name) = refl
  level-place p (ExprTree.Number m value ty) = refl
  level-place p (ExprTree.Null m) = refl
  level-place p (ExprTree.Eof m) = refl
  level-place p (ExprTree.Str m strings) = refl
  level-place p (ExprTree.Paren m e) = refl
  level-place p (ExprTree.Index m b i) = refl
  level-place p (ExprTree.Call m name es) = refl
  level-place p (ExprTree.Member m b name) = refl
  level-place p (ExprTree.Arrow m b name) = refl
  level-place p (ExprTree.Step m post down e) = refl
  level-place p (ExprTree.Unary m s e) = refl
  level-place p (ExprTree.SizeExpr m e) = refl
  level-place p (ExprTree.SizeType m t) = refl
  level-place p (ExprTree.Cast m t e) = refl
  level-place p (ExprTree.Cond m c x y) = refl
  level-place p (ExprTree.Join m op l r) = refl

  -- a placed tree begins at its place
  pub mark-place : (p q : ℕ) (t : ExprTree) → at_sign (mark_of (place lines p t)) q ≡ signed lines p q
  mark-place p q (ExprTree.Name m name) = refl
  mark-place p q (ExprTree.Number m value ty) = refl
  mark-place p q (ExprTree.Null m) = refl
  mark-place p q (ExprTree.Eof m) = refl
  mark-place p q (ExprTree.Str m strings) = refl
  mark-place p q (ExprTree.Paren m e) = refl
  mark-place p q (ExprTree.Index m b i) = refl
  mark-place p q (ExprTree.Call m name es) = refl
  mark-place p q (ExprTree.Member m b name) = refl
  mark-place p q (ExprTree.Arrow m b name) = refl
  mark-place p q (ExprTree.Step m false down e) = refl
  mark-place p q (ExprTree.Step m true down e) = refl
  mark-place p q (ExprTree.Unary m s e) = refl
  mark-place p q (ExprTree.SizeExpr m e) = refl
  mark-place p q (ExprTree.SizeType m t) = refl
  mark-place p q (ExprTree.Cast m t e) = refl
  mark-place p q (ExprTree.Cond m c x y) = refl
  mark-place p q (ExprTree.Join m op l r) = refl

  pub at-place : (p n : ℕ) (t : ExprTree) → n ≤ level_of t → n ≤ level_of (place lines p t)
  at-place p n t h = rw level-place h

  pub has-member : (p : ℕ) (ms : MemberTrees) → HasMember ms → HasMember (place_members lines p ms)
  has-member p MemberTrees.NoMembers h = h
  has-member p (MemberTrees.MemberLine s names ms) h = tt

  has-declarator : (p : ℕ) (os : ObjTrees) → HasDeclarator os → HasDeclarator (place_objs lines p os)
  has-declarator p ObjTrees.NoDeclarators h = h
  has-declarator p (ObjTrees.Declarator o os) h = tt

  mutual
    pub valid-place : (p : ℕ) (t : ExprTree) → Valid t → Valid (place lines p t)
    valid-place p (ExprTree.Name m name) v = v
    valid-place p (ExprTree.Number m value ty) v = v
    valid-place p (ExprTree.Null m) v = tt
    valid-place p (ExprTree.Eof m) v = tt
    valid-place p (ExprTree.Str m strings) v = v
    valid-place p (ExprTree.Paren m e) v = valid-place (p + 1) e v
    valid-place p (ExprTree.Index m b i) v = (valid-place p b v.0, at-place p 15 b v.1, valid-place (p + width b + 1) i v.2)
    valid-place p (ExprTree.Call m name es) v = (v.0, valid-arguments (p + 2) es v.1)
    valid-place p (ExprTree.Member m b name) v = (valid-place p b v.0, at-place p 15 b v.1, v.2)
    valid-place p (ExprTree.Arrow m b name) v = (valid-place p b v.0, at-place p 15 b v.1, v.2)
    valid-place p (ExprTree.Step m post down e) v =
        (valid-place (step_place p post) e v.0, at-place (step_place p post) (step_level post) e v.1)
    valid-place p (ExprTree.Unary m s e) v = (v.0, valid-place (p + 1) e v.1, at-place (p + 1) 13 e v.2)
    valid-place p (ExprTree.SizeExpr m e) v = (valid-place (p + 1) e v.0, at-place (p + 1) 14 e v.1)
    valid-place p (ExprTree.SizeType m t) v = valid-type (p + 2) t v
    valid-place p (ExprTree.Cast m t e) v =
        (valid-type (p + 1) t v.0, valid-place (p + width_type t + 2) e v.1, at-place (p + width_type t + 2) 13 e v.2)
    valid-place p (ExprTree.Cond m c x y) v = (
      valid-place p c v.0,
      at-place p 3 c v.1,
      valid-place (p + width c + 1) x v.2,
      valid-place (p + width c + width x + 2) y v.3,
      at-place (p + width c + width x + 2) 2 y v.4,
    )
    valid-place p (ExprTree.Join m op l r) v = (
      v.0,
      valid-place p l v.1,
      at-place p (left_level op) l v.2,
      valid-place (p + width l + 1) r v.3,
      at-place (p + width l + 1) (right_level op) r v.4,
    )

    valid-arguments : (p : ℕ) (es : ExprTrees) → ValidArguments es → ValidArguments (place_arguments lines p es)
    valid-arguments p ExprTrees.NoArguments v = tt
    valid-arguments p (ExprTrees.Argument e es) v = (valid-place p e v.0, at-place p 1 e v.1, valid-arguments (p + width e + 1) es v.2)

    pub valid-type : (p : ℕ) (t : TypeTree) → ValidType t → ValidType (place_type lines p t)
    valid-type p (TypeTree.TypeName s n ds) v = (valid-spec p s v.0, valid-dims (p + width_spec s + n) ds v.1)

    pub valid-spec : (p : ℕ) (s : SpecTree) → ValidSpec s → ValidSpec (place_spec lines p s)
    valid-spec p (SpecTree.Void f) v = tt
    valid-spec p (SpecTree.SizeT f) v = tt
    valid-spec p (SpecTree.Integer f words) v = v
    valid-spec p (SpecTree.Tag f tag) v = v
    valid-spec p (SpecTree.Struct f tag ms) v =
        (v.0, has-member (p + width_name tag + 2) ms v.1, valid-members (p + width_name tag + 2) ms v.2)

    valid-members : (p : ℕ) (ms : MemberTrees) → ValidMembers ms → ValidMembers (place_members lines p ms)
    valid-members p MemberTrees.NoMembers v = tt
    valid-members p (MemberTrees.MemberLine s names ms) v = (
      valid-spec p s v.0,
      has-declarator (p + width_spec s) names v.1,
      valid-names (p + width_spec s) names v.2,
      valid-members (p + width_spec s + width_objs names + 1) ms v.3,
    )

    valid-names : (p : ℕ) (os : ObjTrees) → ValidMemberNames os → ValidMemberNames (place_objs lines p os)
    valid-names p ObjTrees.NoDeclarators v = tt
    valid-names p (ObjTrees.Declarator o os) v = (valid-name p o v.0, valid-names (p + width_obj o + 1) os v.1)

    pub valid-name : (p : ℕ) (o : ObjTree) → ValidMemberName o → ValidMemberName (place_obj lines p o)
    valid-name p (ObjTree.Bare n name a ds) v = (v.0, valid-dims (p + n + 1) ds v.1)
    valid-name p (ObjTree.Initial n name a ds i) v = v

    pub valid-dims : (p : ℕ) (ds : DimTrees) → ValidDims ds → ValidDims (place_dims lines p ds)
    valid-dims p DimTrees.NoDims v = tt
    valid-dims p (DimTrees.Unsized ds) v = v
    valid-dims p (DimTrees.Sized e ds) v = (valid-place (p + 1) e v.0, at-place (p + 1) 2 e v.1, valid-dims (p + width e + 2) ds v.2)

  pub of-place : (p n : ℕ) (t : ExprTree) → IsOf n t → IsOf n (place lines p t)
  of-place p n t v = (valid-place p t v.0, at-place p n t v.1)
