-- What the steps through rows of brackets and structures need of the machine.
use Rattle.std.proofs.Common.{◌≡◌, ℕ, ◌+◌, ◌≤◌, ◌<◌, List, [], ◌∷◌, length, Bool, Option, Some, None, refl, arith}
use Rattle.ob_tree.specs.declared.expressions.MemberDecl.{MemberDecl, MemberDecl'}
use Rattle.ob_tree.specs.Trees.{Mark, SpecTree, DimTrees}
use Rattle.ob_tree.specs.ExprStates.{Head, OfType, OfMember, PendingNode, Dims, AfterSpec}
use Rattle.ob_tree.specs.ExprMachine.{more_stars, close_struct}
use Rattle.ob_exprs.specs.Lists.{member_trees}
use Rattle.ob_exprs.specs.DeepestPaths.{count}

pub star_more : (m : Mark) (z : Bool) (s : SpecTree) (n : ℕ) (ds : DimTrees) (fs : List PendingNode) → count ds ≤ 0
    → more_stars (OfType m z s n) ds fs ≡ Some (Dims (OfType m z s (n + 1)) ds fs)
star_more m z s n DimTrees.NoDims fs h = refl
star_more m z s n (DimTrees.Unsized ds) fs h = absurd (omega arith)
star_more m z s n (DimTrees.Sized e ds) fs h = absurd (omega arith)

pub star_none : (h : Head) (ds : DimTrees) (fs : List PendingNode) → 0 < count ds → more_stars h ds fs ≡ None
star_none (OfType m z s n) DimTrees.NoDims fs h = absurd (omega arith)
star_none (OfType m z s n) (DimTrees.Unsized ds) fs h = refl
star_none (OfType m z s n) (DimTrees.Sized e ds) fs h = refl
star_none (OfMember l n name a) ds fs h = refl

pub struct_some : (f : ℕ) (tag : Option (List ℕ)) (ms : List MemberDecl) (fs : List PendingNode) → 0 < length ms
    → close_struct f tag (member_trees ms) fs ≡ Some (AfterSpec (SpecTree.Struct f tag (member_trees ms)) fs)
struct_some f tag [] fs h = absurd (omega arith)
struct_some f tag (MemberDecl' a n r names ∷ ms) fs h = refl

pub struct_none : (f : ℕ) (tag : Option (List ℕ)) (ms : List MemberDecl) (fs : List PendingNode) → length ms ≤ 0 → close_struct f tag (member_trees ms) fs ≡ None
struct_none f tag [] fs h = refl
struct_none f tag (m ∷ ms) fs h = absurd (omega arith)
