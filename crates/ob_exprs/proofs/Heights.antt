-- The nodes on the paths of placed trees and of longer lists.
use Rattle.std.proofs.Common.{◌≡◌, ℕ, ◌+◌, ◌≤◌, max, List, [], ◌∷◌, refl, ap, arith}
use Rattle.ob_tree.specs.Trees.{ExprTree, ExprTrees, TypeTree, SpecTree, MemberTrees, ObjTree, ObjTrees, DimTrees, InitTree, InitTrees}
use Rattle.ob_tree.specs.Places.{place, place_arguments, place_type, place_spec, place_members, place_objs, place_obj, place_dims, place_init, place_inits, width, width_name, width_type, width_spec, width_objs, width_obj, width_dims, width_init, step_place}
use Rattle.ob_tree.specs.Paths.{height, height_arguments, height_type, height_spec, height_members, height_objs, height_obj, height_dims, height_init, height_inits}
use Rattle.ob_tree.specs.ExprStates.{PendingNode, InParen, InIndex, InCall, InStep, InUnary, InSize, InCast, InJoin, InThen, InElse, InLength, InType, InStruct, add_argument, add_dim, add_obj, add_member}
use Rattle.ob_exprs.specs.DeepestPaths.{count, rise, inner, depth_of, deepest_stack_path}

module _ (lines : ℕ → ℕ) where
  mutual
    pub height-place : (p : ℕ) (t : ExprTree) → height (place lines p t) ≡ height t
    height-place p (ExprTree.Name m name) = refl
    height-place p (ExprTree.Number m value ty) = refl
    height-place p (ExprTree.Null m) = refl
    height-place p (ExprTree.Eof m) = refl
    height-place p (ExprTree.Str m ss) = refl
    height-place p (ExprTree.Paren m e) = ap (λ h. 1 + h) (height-place (p + 1) e)
    height-place p (ExprTree.Index m b i) = rw (height-place p b, height-place (p + width b + 1) i) refl
    height-place p (ExprTree.Call m name es) = ap (λ h. 1 + h) (arguments-place (p + 2) es)
    height-place p (ExprTree.Member m b name) = ap (λ h. 1 + h) (height-place p b)
    height-place p (ExprTree.Arrow m b name) = ap (λ h. 1 + h) (height-place p b)
    height-place p (ExprTree.Step m post down e) = ap (λ h. 1 + h) (height-place (step_place p post) e)
    height-place p (ExprTree.Unary m s e) = ap (λ h. 1 + h) (height-place (p + 1) e)
    height-place p (ExprTree.SizeExpr m e) = ap (λ h. 1 + h) (height-place (p + 1) e)
    height-place p (ExprTree.SizeType m t) = ap (λ h. 1 + h) (type-place (p + 2) t)
    height-place p (ExprTree.Cast m t e) = rw (type-place (p + 1) t, height-place (p + width_type t + 2) e) refl
    height-place p (ExprTree.Cond m c x y) =
        rw (height-place p c, height-place (p + width c + 1) x, height-place (p + width c + width x + 2) y) refl
    height-place p (ExprTree.Join m op l r) = rw (height-place p l, height-place (p + width l + 1) r) refl

    pub arguments-place : (p : ℕ) (es : ExprTrees) → height_arguments (place_arguments lines p es) ≡ height_arguments es
    arguments-place p ExprTrees.NoArguments = refl
    arguments-place p (ExprTrees.Argument e es) = rw (height-place p e, arguments-place (p + width e + 1) es) refl

    pub type-place : (p : ℕ) (t : TypeTree) → height_type (place_type lines p t) ≡ height_type t
    type-place p (TypeTree.TypeName s n ds) = rw (spec-place p s, dims-place (p + width_spec s + n) ds) refl

    pub spec-place : (p : ℕ) (s : SpecTree) → height_spec (place_spec lines p s) ≡ height_spec s
    spec-place p (SpecTree.Void f) = refl
    spec-place p (SpecTree.SizeT f) = refl
    spec-place p (SpecTree.Integer f words) = refl
    spec-place p (SpecTree.Tag f tag) = refl
    spec-place p (SpecTree.Struct f tag ms) = ap (λ h. 1 + h) (members-place (p + width_name tag + 2) ms)

    pub members-place : (p : ℕ) (ms : MemberTrees) → height_members (place_members lines p ms) ≡ height_members ms
    members-place p MemberTrees.NoMembers = refl
    members-place p (MemberTrees.MemberLine s names ms) =
        rw (spec-place p s, objs-place (p + width_spec s) names, members-place (p + width_spec s + width_objs names + 1) ms) refl

    pub objs-place : (p : ℕ) (os : ObjTrees) → height_objs (place_objs lines p os) ≡ height_objs os
    objs-place p ObjTrees.NoDeclarators = refl
    objs-place p (ObjTrees.Declarator o os) = rw (obj-place p o, objs-place (p + width_obj o + 1) os) refl

    pub obj-place : (p : ℕ) (o : ObjTree) → height_obj (place_obj lines p o) ≡ height_obj o
    obj-place p (ObjTree.Bare n name a ds) = ap (λ h. n + h) (dims-place (p + n + 1) ds)
    obj-place p (ObjTree.Initial n name a ds i) = rw (dims-place (p + n + 1) ds, init-place (p + n + width_dims ds + 2) i) refl

    pub dims-place : (p : ℕ) (ds : DimTrees) → height_dims (place_dims lines p ds) ≡ height_dims ds
    dims-place p DimTrees.NoDims = refl
    dims-place p (DimTrees.Unsized ds) = ap (λ h. 1 + h) (dims-place (p + 2) ds)
    dims-place p (DimTrees.Sized e ds) = rw (height-place (p + 1) e, dims-place (p + width e + 2) ds) refl

    pub init-place : (p : ℕ) (i : InitTree) → height_init (place_init lines p i) ≡ height_init i
    init-place p (InitTree.Value e) = height-place p e
    init-place p (InitTree.Braces f is comma) = ap (λ h. 1 + h) (inits-place (p + 1) is)

    pub inits-place : (p : ℕ) (is : InitTrees) → height_inits (place_inits lines p is) ≡ height_inits is
    inits-place p InitTrees.NoItems = refl
    inits-place p (InitTrees.Item i is) = rw (init-place p i, inits-place (p + width_init i + 1) is) refl

pub arguments-height : (es : ExprTrees) (e : ExprTree) → height_arguments (add_argument es e) ≡ max (height_arguments es) (height e)
arguments-height ExprTrees.NoArguments e = omega arith
arguments-height (ExprTrees.Argument x es) e = omega (arith, arguments-height es e)

pub dims-height : (ds : DimTrees) (e : ExprTree) → height_dims (add_dim ds e) ≡ max (height_dims ds) (count ds + (1 + height e))
dims-height DimTrees.NoDims e = omega arith
dims-height (DimTrees.Unsized ds) e = omega (arith, dims-height ds e)
dims-height (DimTrees.Sized x ds) e = omega (arith, dims-height ds e)

pub dims-count : (ds : DimTrees) (e : ExprTree) → count (add_dim ds e) ≡ count ds + 1
dims-count DimTrees.NoDims e = refl
dims-count (DimTrees.Unsized ds) e = omega (arith, dims-count ds e)
dims-count (DimTrees.Sized x ds) e = omega (arith, dims-count ds e)

pub count-height : (ds : DimTrees) → count ds ≤ height_dims ds
count-height DimTrees.NoDims = omega arith
count-height (DimTrees.Unsized ds) = omega (arith, count-height ds)
count-height (DimTrees.Sized x ds) = omega (arith, count-height ds)

pub objs-height : (os : ObjTrees) (o : ObjTree) → height_objs (add_obj os o) ≡ max (height_objs os) (height_obj o)
objs-height ObjTrees.NoDeclarators o = omega arith
objs-height (ObjTrees.Declarator x os) o = omega (arith, objs-height os o)

pub members-height : (ms : MemberTrees) (s : SpecTree) (names : ObjTrees)
    → height_members (add_member ms s names) ≡ max (height_members ms) (max (height_spec s) (height_objs names))
members-height MemberTrees.NoMembers s names = omega arith
members-height (MemberTrees.MemberLine t others ms) s names = omega (arith, members-height ms s names)

-- the path down to what is missing is one of the pending node's paths
pub rise-inner : (f : PendingNode) → rise f ≤ inner f
rise-inner (InParen m) = omega arith
rise-inner (InIndex m b) = omega arith
rise-inner (InCall m name es) = omega arith
rise-inner (InStep m down) = omega arith
rise-inner (InUnary m s) = omega arith
rise-inner (InSize m) = omega arith
rise-inner (InCast m t) = omega arith
rise-inner (InJoin m op l) = omega arith
rise-inner (InThen m c) = omega arith
rise-inner (InElse m c x) = omega arith
rise-inner (InLength h ds) = omega arith
rise-inner (InType m z) = omega arith
rise-inner (InStruct b) = omega arith

pub depth-path : (fs : List PendingNode) → depth_of fs ≤ deepest_stack_path fs
depth-path [] = omega arith
depth-path (f ∷ fs) = omega (arith, rise-inner f)
