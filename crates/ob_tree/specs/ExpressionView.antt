-- What the expressions of the program are without their boxes and vectors, and what stands in them.
use Rattle.std.specs.Prelude.{ℕ, List, [], ◌∷◌}
use Rattle.ob_tree.specs.declared.expressions.Expr.{Expr}
use Rattle.ob_tree.specs.declared.expressions.ExprNode as from
use Rattle.ob_tree.specs.declared.expressions.ExprNode.{ExprNode, Row_of-Expr, end_of-Expr, more_of-Expr}
use Rattle.ob_tree.specs.declared.expressions.TypeName.{TypeName, TypeName'}
use Rattle.ob_tree.specs.declared.expressions.Spec.{Spec}
use Rattle.ob_tree.specs.declared.expressions.SpecNode as spec
use Rattle.ob_tree.specs.declared.expressions.SpecNode.{SpecNode, Row_of-MemberDecl, end_of-MemberDecl, more_of-MemberDecl}
use Rattle.ob_tree.specs.declared.expressions.MemberDecl.{MemberDecl, MemberDecl', Row_of-ObjDecl, end_of-ObjDecl, more_of-ObjDecl}
use Rattle.ob_tree.specs.declared.expressions.ObjDecl.{ObjDecl, ObjDecl', Held-ObjDecl-init, ObjDecl-init-None', ObjDecl-init-Some'}
use Rattle.ob_tree.specs.declared.expressions.Dim.{Dim, Dim', Held-Dim-length, Dim-length-None', Dim-length-Some'}
use Rattle.ob_tree.specs.declared.expressions.TypeName.{Row_of-Dim, end_of-Dim, more_of-Dim}
use Rattle.ob_tree.specs.declared.expressions.Init as init
use Rattle.ob_tree.specs.declared.expressions.Init.{Init, Row_of-Init, end_of-Init, more_of-Init}
use Rattle.ob_tree.specs.Trees.{Mark, Infix, ExprTree, ExprTrees, TypeTree, SpecTree, MemberTrees, ObjTree, ObjTrees, DimTrees, InitTree, InitTrees}

abbrev pub marked : (first at line : ℕ) → Mark
marked f a l = record { first = f; at = a; line = l }

abbrev mutual
  pub node_tree : ExprNode → (first at line : ℕ) → ExprTree
  node_tree (from.Name name) f a l = ExprTree.Name (marked f a l) name
  node_tree (from.Number value ty) f a l = ExprTree.Number (marked f a l) value ty
  node_tree from.Null f a l = ExprTree.Null (marked f a l)
  node_tree from.Eof f a l = ExprTree.Eof (marked f a l)
  node_tree (from.Str strings) f a l = ExprTree.Str (marked f a l) strings.items
  node_tree (from.Paren' p f1 a1 l1 e) f a l = ExprTree.Paren (marked f a l) (node_tree e f1 a1 l1)
  node_tree (from.Index' p f1 a1 l1 b q f2 a2 l2 i) f a l =
      ExprTree.Index (marked f a l) (node_tree b f1 a1 l1) (node_tree i f2 a2 l2)
  node_tree (from.Call' name r es) f a l = ExprTree.Call (marked f a l) name (argument_row es)
  node_tree (from.Member' p f1 a1 l1 b name) f a l = ExprTree.Member (marked f a l) (node_tree b f1 a1 l1) name
  node_tree (from.Arrow' p f1 a1 l1 b name) f a l = ExprTree.Arrow (marked f a l) (node_tree b f1 a1 l1) name
  node_tree (from.Step' post down p f1 a1 l1 e) f a l = ExprTree.Step (marked f a l) post down (node_tree e f1 a1 l1)
  node_tree (from.Unary' s p f1 a1 l1 e) f a l = ExprTree.Unary (marked f a l) s (node_tree e f1 a1 l1)
  node_tree (from.SizeExpr' p f1 a1 l1 e) f a l = ExprTree.SizeExpr (marked f a l) (node_tree e f1 a1 l1)
  node_tree (from.SizeType t) f a l = ExprTree.SizeType (marked f a l) (type_tree t)
  node_tree (from.Cast' t p f1 a1 l1 e) f a l = ExprTree.Cast (marked f a l) (type_tree t) (node_tree e f1 a1 l1)
  node_tree (from.Binary' s p f1 a1 l1 x q f2 a2 l2 y) f a l =
      ExprTree.Join (marked f a l) (Infix.Binary s) (node_tree x f1 a1 l1) (node_tree y f2 a2 l2)
  node_tree (from.Cond' p f1 a1 l1 c q f2 a2 l2 x r f3 a3 l3 y) f a l =
      ExprTree.Cond (marked f a l) (node_tree c f1 a1 l1) (node_tree x f2 a2 l2) (node_tree y f3 a3 l3)
  node_tree (from.Assign' s p f1 a1 l1 x q f2 a2 l2 y) f a l =
      ExprTree.Join (marked f a l) (Infix.Assign s) (node_tree x f1 a1 l1) (node_tree y f2 a2 l2)
  node_tree (from.Comma' p f1 a1 l1 x q f2 a2 l2 y) f a l =
      ExprTree.Join (marked f a l) Infix.Comma (node_tree x f1 a1 l1) (node_tree y f2 a2 l2)

  pub argument_row : {n : _} → Row_of-Expr n → ExprTrees
  argument_row end_of-Expr = ExprTrees.NoArguments
  argument_row (more_of-Expr f a l e es) = ExprTrees.Argument (node_tree e f a l) (argument_row es)

  pub type_tree : TypeName → TypeTree
  type_tree (TypeName' f s stars r dims) = TypeTree.TypeName (spec_node_tree s f) stars (dim_row dims)

  pub spec_node_tree : SpecNode → (first : ℕ) → SpecTree
  spec_node_tree spec.Void f = SpecTree.Void f
  spec_node_tree spec.SizeT f = SpecTree.SizeT f
  spec_node_tree (spec.Integer words) f = SpecTree.Integer f words.items
  spec_node_tree (spec.Tag tag) f = SpecTree.Tag f tag
  spec_node_tree (spec.Struct' tag r members) f = SpecTree.Struct f tag (member_row members)

  pub member_row : {n : _} → Row_of-MemberDecl n → MemberTrees
  member_row end_of-MemberDecl = MemberTrees.NoMembers
  member_row (more_of-MemberDecl (MemberDecl' f s r names) ms) =
      MemberTrees.MemberLine (spec_node_tree s f) (obj_row names) (member_row ms)

  pub obj_row : {n : _} → Row_of-ObjDecl n → ObjTrees
  obj_row end_of-ObjDecl = ObjTrees.NoDeclarators
  obj_row (more_of-ObjDecl o os) = ObjTrees.Declarator (obj_tree o) (obj_row os)

  pub obj_tree : ObjDecl → ObjTree
  obj_tree (ObjDecl' stars name at r dims i) = held_init stars name at (dim_row dims) i

  pub held_init : ℕ → List ℕ → ℕ → DimTrees → Held-ObjDecl-init → ObjTree
  held_init stars name at dims ObjDecl-init-None' = ObjTree.Bare stars name at dims
  held_init stars name at dims (ObjDecl-init-Some' i) = ObjTree.Initial stars name at dims (init_tree i)

  pub dim_row : {n : _} → Row_of-Dim n → DimTrees
  dim_row end_of-Dim = DimTrees.NoDims
  dim_row (more_of-Dim (Dim' e) ds) = held_length e (dim_row ds)

  pub held_length : Held-Dim-length → DimTrees → DimTrees
  held_length Dim-length-None' ds = DimTrees.Unsized ds
  held_length (Dim-length-Some' f a l e) ds = DimTrees.Sized (node_tree e f a l) ds

  pub init_tree : Init → InitTree
  init_tree (init.Value' f a l e) = InitTree.Value (node_tree e f a l)
  init_tree (init.List' f r is comma) = InitTree.Braces f (init_row is) comma

  pub init_row : {n : _} → Row_of-Init n → InitTrees
  init_row end_of-Init = InitTrees.NoItems
  init_row (more_of-Init i is) = InitTrees.Item (init_tree i) (init_row is)

abbrev pub expr_tree : Expr → ExprTree
expr_tree e = node_tree e.node e.first e.at e.line

abbrev pub spec_tree : Spec → SpecTree
spec_tree s = spec_node_tree s.node s.first

-- one line of members, and one pair of brackets, as a list of one
abbrev pub one_member : MemberDecl → MemberTrees
one_member (MemberDecl' f s r names) = MemberTrees.MemberLine (spec_node_tree s f) (obj_row names) MemberTrees.NoMembers

abbrev pub one_dim : Dim → DimTrees
one_dim (Dim' e) = held_length e DimTrees.NoDims

-- the declarators and the brackets of a vector
abbrev pub obj_trees : List ObjDecl → ObjTrees
obj_trees [] = ObjTrees.NoDeclarators
obj_trees (o ∷ os) = ObjTrees.Declarator (obj_tree o) (obj_trees os)

abbrev pub dim_trees : List Dim → DimTrees
dim_trees [] = DimTrees.NoDims
dim_trees (Dim' e ∷ ds) = held_length e (dim_trees ds)
