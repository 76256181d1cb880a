-- When the whole of a tree was read, all of its nodes have begun.
use Rattle.std.proofs.Common.{◌≡◌, ℕ, zero, suc, ◌+◌, ◌-◌, ◌<◌, ◌≤◌, max, min, List, [], ◌∷◌, ◌++◌, length, Bool, true, false, refl, ◌∙◌, ap, arith, length-append}
use Rattle.ob_tree.specs.declared.tokens.TokenKind.TheVariants as kind
use Rattle.ob_tree.specs.declared.tokens.Sign.TheVariants as sign
use Rattle.ob_tree.specs.Trees.{Mark, Infix, ExprTree, ExprTrees, TypeTree, SpecTree, MemberTrees, ObjTree, ObjTrees, DimTrees, InitTree, InitTrees}
use Rattle.ob_tree.specs.Spelling.{spell, spell_arguments, spell_more_arguments, spell_type, spell_spec, spell_members, spell_objs, spell_more_objs, spell_obj, spell_dims, spell_init, spell_inits, spell_more_inits, spell_name, spell_comma, infix_sign, stars}
use Rattle.ob_tree.specs.Valid.{Valid, ValidArguments, ValidType, ValidSpec, ValidMembers, ValidMemberNames, ValidMemberName, ValidDims}
use Rattle.ob_tree.specs.Places.{width, width_name, width_type, width_spec, width_objs, width_obj, width_dims, width_init}
use Rattle.ob_tree.specs.Paths.{node_with, begun, begun_arguments, begun_type, begun_spec, begun_members, begun_objs, begun_obj, begun_dims, height, height_arguments, height_type, height_spec, height_members, height_objs, height_obj, height_dims}
use Rattle.ob_tree.proofs.SpecShifts.{length-stars}

node-pos : (k x : ℕ) → 0 < k → node_with k x ≡ 1 + x
node-pos zero x h = absurd (omega arith)
node-pos (suc k) x h = refl

-- how many tokens trees have
pub width-paren : (m : Mark) (e : ExprTree) → width (ExprTree.Paren m e) ≡ width e + 2
width-paren m e = omega (arith, length-append (spell e) (kind.Sign sign.CloseParen ∷ []))

pub width-index : (m : Mark) (b i : ExprTree) → width (ExprTree.Index m b i) ≡ width b + width i + 2
width-index m b i = omega (arith, length-append (spell b) (kind.Sign sign.OpenBracket ∷ (spell i ++ kind.Sign sign.CloseBracket ∷ [])), length-append (spell i) (kind.Sign sign.CloseBracket ∷ []))

pub width-call : (m : Mark) (name : List ℕ) (es : ExprTrees) → width (ExprTree.Call m name es) ≡ length (spell_arguments es) + 3
width-call m name es = omega (arith, length-append (spell_arguments es) (kind.Sign sign.CloseParen ∷ []))

pub width-arguments : (e : ExprTree) (es : ExprTrees) → length (spell_arguments (ExprTrees.Argument e es)) ≡ width e + length (spell_more_arguments es)
width-arguments e es = length-append (spell e) (spell_more_arguments es)

pub width-member : (m : Mark) (b : ExprTree) (name : List ℕ) → width (ExprTree.Member m b name) ≡ width b + 2
width-member m b name = length-append (spell b) (kind.Sign sign.Dot ∷ (kind.Name name ∷ []))

pub width-arrow : (m : Mark) (b : ExprTree) (name : List ℕ) → width (ExprTree.Arrow m b name) ≡ width b + 2
width-arrow m b name = length-append (spell b) (kind.Sign sign.Arrow ∷ (kind.Name name ∷ []))

pub width-shift : (m : Mark) (post down : Bool) (e : ExprTree) → width (ExprTree.Step m post down e) ≡ width e + 1
width-shift m false down e = omega arith
width-shift m true down e = length-append (spell e) (_ ∷ [])

pub width-size_type : (m : Mark) (t : TypeTree) → width (ExprTree.SizeType m t) ≡ width_type t + 3
width-size_type m t = omega (arith, length-append (spell_type t) (kind.Sign sign.CloseParen ∷ []))

pub width-cast : (m : Mark) (t : TypeTree) (e : ExprTree) → width (ExprTree.Cast m t e) ≡ width_type t + width e + 2
width-cast m t e = omega (arith, length-append (spell_type t) (kind.Sign sign.CloseParen ∷ spell e))

pub width-cond : (m : Mark) (c x y : ExprTree) → width (ExprTree.Cond m c x y) ≡ width c + width x + width y + 2
width-cond m c x y = omega (arith, length-append (spell c) (kind.Sign sign.Question ∷ (spell x ++ kind.Sign sign.Colon ∷ spell y)), length-append (spell x) (kind.Sign sign.Colon ∷ spell y))

pub width-join : (m : Mark) (op : Infix) (l r : ExprTree) → width (ExprTree.Join m op l r) ≡ width l + width r + 1
width-join m op l r = omega (arith, length-append (spell l) (kind.Sign (infix_sign op) ∷ spell r))

pub width-type : (s : SpecTree) (n : ℕ) (ds : DimTrees) → width_type (TypeTree.TypeName s n ds) ≡ width_spec s + n + width_dims ds
width-type s n ds = omega (arith, length-append (spell_spec s) (stars n ++ spell_dims ds), length-append (stars n) (spell_dims ds), length-stars n)

pub width-struct : (f : ℕ) (tag : _) (ms : MemberTrees) → width_spec (SpecTree.Struct f tag ms) ≡ width_name tag + length (spell_members ms) + 3
width-struct f tag ms = omega (arith, length-append (spell_name tag) (kind.Sign sign.OpenBrace ∷ (spell_members ms ++ kind.Sign sign.CloseBrace ∷ [])), length-append (spell_members ms) (kind.Sign sign.CloseBrace ∷ []))

pub width-line : (s : SpecTree) (names : ObjTrees) (ms : MemberTrees)
    → length (spell_members (MemberTrees.MemberLine s names ms)) ≡ width_spec s + width_objs names + length (spell_members ms) + 1
width-line s names ms = omega (arith, length-append (spell_spec s) (spell_objs names ++ kind.Sign sign.Semi ∷ spell_members ms), length-append (spell_objs names) (kind.Sign sign.Semi ∷ spell_members ms))

pub width-names : (o : ObjTree) (os : ObjTrees) → width_objs (ObjTrees.Declarator o os) ≡ width_obj o + length (spell_more_objs os)
width-names o os = length-append (spell_obj o) (spell_more_objs os)

pub width-bare : (n : ℕ) (name : List ℕ) (a : ℕ) (ds : DimTrees) → width_obj (ObjTree.Bare n name a ds) ≡ n + width_dims ds + 1
width-bare n name a ds = omega (arith, length-append (stars n) (kind.Name name ∷ spell_dims ds), length-stars n)

pub width-initial : (n : ℕ) (name : List ℕ) (a : ℕ) (ds : DimTrees) (i : InitTree) → width_obj (ObjTree.Initial n name a ds i) ≡ n + width_dims ds + width_init i + 2
width-initial n name a ds i = omega (arith, length-append (stars n) (kind.Name name ∷ (spell_dims ds ++ kind.Sign sign.Assign ∷ spell_init i)), length-stars n, length-append (spell_dims ds) (kind.Sign sign.Assign ∷ spell_init i))

pub width-sized : (e : ExprTree) (ds : DimTrees) → width_dims (DimTrees.Sized e ds) ≡ width e + width_dims ds + 2
width-sized e ds = omega (arith, length-append (spell e) (kind.Sign sign.CloseBracket ∷ spell_dims ds))

pub width-braces : (f : ℕ) (is : InitTrees) (comma : Bool) → length (spell_inits is) + 2 ≤ width_init (InitTree.Braces f is comma)
width-braces f is comma = omega (arith, length-append (spell_inits is) (spell_comma comma ++ kind.Sign sign.CloseBrace ∷ []), length-append (spell_comma comma) (kind.Sign sign.CloseBrace ∷ []))

pub width-items : (i : InitTree) (is : InitTrees) → length (spell_inits (InitTrees.Item i is)) ≡ width_init i + length (spell_more_inits is)
width-items i is = length-append (spell_init i) (spell_more_inits is)

-- what stands behind the first of a list, with the commas before each and without the first comma
more-arguments : (es : ExprTrees) → length (spell_arguments es) ≤ length (spell_more_arguments es) - 1
more-arguments ExprTrees.NoArguments = omega arith
more-arguments (ExprTrees.Argument e es) = omega arith

more-objs : (os : ObjTrees) → length (spell_objs os) ≤ length (spell_more_objs os) - 1
more-objs ObjTrees.NoDeclarators = omega arith
more-objs (ObjTrees.Declarator o os) = omega arith

more-inits : (is : InitTrees) → length (spell_inits is) ≤ length (spell_more_inits is) - 1
more-inits InitTrees.NoItems = omega arith
more-inits (InitTrees.Item i is) = omega arith

-- each expression has a token
pub some-width : (t : ExprTree) → Valid t → 0 < width t
some-width (ExprTree.Name m name) v = omega arith
some-width (ExprTree.Number m value ty) v = omega arith
some-width (ExprTree.Null m) v = omega arith
some-width (ExprTree.Eof m) v = omega arith
some-width (ExprTree.Str m []) v = absurd v
some-width (ExprTree.Str m (s ∷ ss)) v = omega arith
some-width (ExprTree.Paren m e) v = omega arith
some-width (ExprTree.Index m b i) v = omega (arith, width-index m b i)
some-width (ExprTree.Call m name es) v = omega arith
some-width (ExprTree.Member m b name) v = omega (arith, width-member m b name)
some-width (ExprTree.Arrow m b name) v = omega (arith, width-arrow m b name)
some-width (ExprTree.Step m post down e) v = omega (arith, width-shift m post down e)
some-width (ExprTree.Unary m s e) v = omega arith
some-width (ExprTree.SizeExpr m e) v = omega arith
some-width (ExprTree.SizeType m t) v = omega arith
some-width (ExprTree.Cast m t e) v = omega arith
some-width (ExprTree.Cond m c x y) v = omega (arith, width-cond m c x y)
some-width (ExprTree.Join m op l r) v = omega (arith, width-join m op l r)

mutual
  pub begun-full : (t : ExprTree) (k : ℕ) → Valid t → width t ≤ k → begun t k ≡ height t
  begun-full (ExprTree.Name m name) k v h = node-pos k 0 (omega arith)
  begun-full (ExprTree.Number m value ty) k v h = node-pos k 0 (omega arith)
  begun-full (ExprTree.Null m) k v h = node-pos k 0 (omega arith)
  begun-full (ExprTree.Eof m) k v h = node-pos k 0 (omega arith)
  begun-full (ExprTree.Str m ss) k v h = node-pos k 0 (omega (arith, some-width (ExprTree.Str m ss) v))
  begun-full (ExprTree.Paren m e) k v h =
      node-pos k (begun e (k - 1)) (omega arith) ∙ ap (λ x. 1 + x) (begun-full e (k - 1) v (omega (arith, width-paren m e)))
  begun-full (ExprTree.Index m b i) k v h =
      node-pos k (max (begun b k) (begun i (k - (width b + 1)))) (omega (arith, width-index m b i))
      ∙ rw (begun-full b k v.0 (omega (arith, width-index m b i)), begun-full i (k - (width b + 1)) v.2 (omega (arith, width-index m b i))) refl
  begun-full (ExprTree.Call m name es) k v h =
      node-pos k (begun_arguments es (k - 2)) (omega arith) ∙ ap (λ x. 1 + x) (full-arguments es (k - 2) v.1 (omega (arith, width-call m name es)))
  begun-full (ExprTree.Member m b name) k v h =
      node-pos k (begun b k) (omega (arith, width-member m b name)) ∙ ap (λ x. 1 + x) (begun-full b k v.0 (omega (arith, width-member m b name)))
  begun-full (ExprTree.Arrow m b name) k v h =
      node-pos k (begun b k) (omega (arith, width-arrow m b name)) ∙ ap (λ x. 1 + x) (begun-full b k v.0 (omega (arith, width-arrow m b name)))
  begun-full (ExprTree.Step m false down e) k v h =
      node-pos k (begun e (k - 1)) (omega arith) ∙ ap (λ x. 1 + x) (begun-full e (k - 1) v.0 (omega arith))
  begun-full (ExprTree.Step m true down e) k v h =
      node-pos k (begun e (k - 0)) (omega (arith, width-shift m true down e)) ∙ ap (λ x. 1 + x) (begun-full e (k - 0) v.0 (omega (arith, width-shift m true down e)))
  begun-full (ExprTree.Unary m s e) k v h =
      node-pos k (begun e (k - 1)) (omega arith) ∙ ap (λ x. 1 + x) (begun-full e (k - 1) v.1 (omega arith))
  begun-full (ExprTree.SizeExpr m e) k v h =
      node-pos k (begun e (k - 1)) (omega arith) ∙ ap (λ x. 1 + x) (begun-full e (k - 1) v.0 (omega arith))
  begun-full (ExprTree.SizeType m t) k v h =
      node-pos k (begun_type t (k - 2)) (omega arith) ∙ ap (λ x. 1 + x) (full-type t (k - 2) v (omega (arith, width-size_type m t)))
  begun-full (ExprTree.Cast m t e) k v h =
      node-pos k (max (begun_type t (k - 1)) (begun e (k - (width_type t + 2)))) (omega arith)
      ∙ rw (full-type t (k - 1) v.0 (omega (arith, width-cast m t e)), begun-full e (k - (width_type t + 2)) v.1 (omega (arith, width-cast m t e))) refl
  begun-full (ExprTree.Cond m c x y) k v h =
      node-pos k (max (begun c k) (max (begun x (k - (width c + 1))) (begun y (k - (width c + width x + 2))))) (omega (arith, width-cond m c x y))
      ∙ rw (
        begun-full c k v.0 (omega (arith, width-cond m c x y)),
        begun-full x (k - (width c + 1)) v.2 (omega (arith, width-cond m c x y)),
        begun-full y (k - (width c + width x + 2)) v.3 (omega (arith, width-cond m c x y)),
      ) refl
  begun-full (ExprTree.Join m op l r) k v h =
      node-pos k (max (begun l k) (begun r (k - (width l + 1)))) (omega (arith, width-join m op l r))
      ∙ rw (begun-full l k v.1 (omega (arith, width-join m op l r)), begun-full r (k - (width l + 1)) v.3 (omega (arith, width-join m op l r))) refl

  pub full-arguments : (es : ExprTrees) (k : ℕ) → ValidArguments es → length (spell_arguments es) ≤ k → begun_arguments es k ≡ height_arguments es
  full-arguments ExprTrees.NoArguments k v h = refl
  full-arguments (ExprTrees.Argument e es) k v h =
      rw (
        begun-full e k v.0 (omega (arith, width-arguments e es)),
        full-arguments es (k - (width e + 1)) v.2 (omega (arith, width-arguments e es, more-arguments es)),
      ) refl

  pub full-type : (t : TypeTree) (k : ℕ) → ValidType t → width_type t ≤ k → begun_type t k ≡ height_type t
  full-type (TypeTree.TypeName s n ds) k v h =
      let e : min n (k - width_spec s) ≡ n = omega (arith, width-type s n ds) in
      rw (
        e,
        full-spec s k v.0 (omega (arith, width-type s n ds)),
        full-dims ds (k - (width_spec s + n)) v.1 (omega (arith, width-type s n ds)),
      ) refl

  pub full-spec : (s : SpecTree) (k : ℕ) → ValidSpec s → width_spec s ≤ k → begun_spec s k ≡ height_spec s
  full-spec (SpecTree.Void f) k v h = refl
  full-spec (SpecTree.SizeT f) k v h = refl
  full-spec (SpecTree.Integer f words) k v h = refl
  full-spec (SpecTree.Tag f tag) k v h = node-pos k 0 (omega arith)
  full-spec (SpecTree.Struct f tag ms) k v h =
      node-pos k (begun_members ms (k - (width_name tag + 2))) (omega arith)
      ∙ ap (λ x. 1 + x) (full-members ms (k - (width_name tag + 2)) v.2 (omega (arith, width-struct f tag ms)))

  pub full-members : (ms : MemberTrees) (k : ℕ) → ValidMembers ms → length (spell_members ms) ≤ k → begun_members ms k ≡ height_members ms
  full-members MemberTrees.NoMembers k v h = refl
  full-members (MemberTrees.MemberLine s names ms) k v h =
      rw (
        full-spec s k v.0 (omega (arith, width-line s names ms)),
        full-names names (k - width_spec s) v.2 (omega (arith, width-line s names ms)),
        full-members ms (k - (width_spec s + width_objs names + 1)) v.3 (omega (arith, width-line s names ms)),
      ) refl

  pub full-names : (os : ObjTrees) (k : ℕ) → ValidMemberNames os → width_objs os ≤ k → begun_objs os k ≡ height_objs os
  full-names ObjTrees.NoDeclarators k v h = refl
  full-names (ObjTrees.Declarator o os) k v h =
      rw (
        full-name o k v.0 (omega (arith, width-names o os)),
        full-names os (k - (width_obj o + 1)) v.1 (omega (arith, width-names o os, more-objs os)),
      ) refl

  pub full-name : (o : ObjTree) (k : ℕ) → ValidMemberName o → width_obj o ≤ k → begun_obj o k ≡ height_obj o
  full-name (ObjTree.Bare n name a ds) k v h =
      let e : min n k ≡ n = omega (arith, width-bare n name a ds) in
      rw (e, full-dims ds (k - (n + 1)) v.1 (omega (arith, width-bare n name a ds))) refl
  full-name (ObjTree.Initial n name a ds i) k v h = absurd v

  pub full-dims : (ds : DimTrees) (k : ℕ) → ValidDims ds → width_dims ds ≤ k → begun_dims ds k ≡ height_dims ds
  full-dims DimTrees.NoDims k v h = refl
  full-dims (DimTrees.Unsized ds) k v h = absurd v
  full-dims (DimTrees.Sized e ds) k v h =
      node-pos k (max (begun e (k - 1)) (begun_dims ds (k - (width e + 2)))) (omega arith)
      ∙ rw (begun-full e (k - 1) v.0 (omega (arith, width-sized e ds)), full-dims ds (k - (width e + 2)) v.2 (omega (arith, width-sized e ds))) refl
