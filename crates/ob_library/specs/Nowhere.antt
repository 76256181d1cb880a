-- Whether a tree is placed as those of the library are: every place is the greatest that a token's place can be, and
-- every line 0.
use Rattle.std.specs.Prelude.{ℕ, Bool, true, ◌&&◌, nat_eq, Option, Some, None}
use Rattle.std.specs.List.{list_all}
use Rattle.ob_tree.specs.Trees.{Mark, ExprTree, ExprTrees, TypeTree, SpecTree, MemberTrees, ObjTree, ObjTrees, DimTrees, InitTree, InitTrees}
use Rattle.ob_tree.specs.Programs.{LocalTree, StartTree, StmtTree, BlockTrees, ParamTree, ParamsTree, FileTree, ItemTree}
use Rattle.ob_library.specs.Nodes.{no_place}

abbrev pub at_none : (place : ℕ) → Bool
at_none p = nat_eq p no_place

-- a place with its line
abbrev pub on_none : (place line : ℕ) → Bool
on_none p l = at_none p && nat_eq l 0

abbrev pub nowhere_mark : Mark → Bool
nowhere_mark m = on_none m.first m.line && at_none m.at

abbrev mutual
  pub nowhere_expr : ExprTree → Bool
  nowhere_expr (ExprTree.Name m x) = nowhere_mark m
  nowhere_expr (ExprTree.Number m v t) = nowhere_mark m
  nowhere_expr (ExprTree.Null m) = nowhere_mark m
  nowhere_expr (ExprTree.Eof m) = nowhere_mark m
  nowhere_expr (ExprTree.Str m xs) = nowhere_mark m
  nowhere_expr (ExprTree.Paren m e) = nowhere_mark m && nowhere_expr e
  nowhere_expr (ExprTree.Index m b i) = nowhere_mark m && (nowhere_expr b && nowhere_expr i)
  nowhere_expr (ExprTree.Call m x es) = nowhere_mark m && nowhere_arguments es
  nowhere_expr (ExprTree.Member m b x) = nowhere_mark m && nowhere_expr b
  nowhere_expr (ExprTree.Arrow m b x) = nowhere_mark m && nowhere_expr b
  nowhere_expr (ExprTree.Step m post down e) = nowhere_mark m && nowhere_expr e
  nowhere_expr (ExprTree.Unary m s e) = nowhere_mark m && nowhere_expr e
  nowhere_expr (ExprTree.SizeExpr m e) = nowhere_mark m && nowhere_expr e
  nowhere_expr (ExprTree.SizeType m t) = nowhere_mark m && nowhere_type t
  nowhere_expr (ExprTree.Cast m t e) = nowhere_mark m && (nowhere_type t && nowhere_expr e)
  nowhere_expr (ExprTree.Cond m c x y) = nowhere_mark m && (nowhere_expr c && (nowhere_expr x && nowhere_expr y))
  nowhere_expr (ExprTree.Join m op l r) = nowhere_mark m && (nowhere_expr l && nowhere_expr r)

  pub nowhere_arguments : ExprTrees → Bool
  nowhere_arguments ExprTrees.NoArguments = true
  nowhere_arguments (ExprTrees.Argument e es) = nowhere_expr e && nowhere_arguments es

  pub nowhere_type : TypeTree → Bool
  nowhere_type (TypeTree.TypeName s k ds) = nowhere_spec s && nowhere_dims ds

  pub nowhere_spec : SpecTree → Bool
  nowhere_spec (SpecTree.Void f) = at_none f
  nowhere_spec (SpecTree.SizeT f) = at_none f
  nowhere_spec (SpecTree.Integer f words) = at_none f
  nowhere_spec (SpecTree.Tag f tag) = at_none f
  nowhere_spec (SpecTree.Struct f tag ms) = at_none f && nowhere_members ms

  pub nowhere_members : MemberTrees → Bool
  nowhere_members MemberTrees.NoMembers = true
  nowhere_members (MemberTrees.MemberLine s os ms) = nowhere_spec s && (nowhere_objs os && nowhere_members ms)

  pub nowhere_objs : ObjTrees → Bool
  nowhere_objs ObjTrees.NoDeclarators = true
  nowhere_objs (ObjTrees.Declarator o os) = nowhere_obj o && nowhere_objs os

  pub nowhere_obj : ObjTree → Bool
  nowhere_obj (ObjTree.Bare k x a ds) = at_none a && nowhere_dims ds
  nowhere_obj (ObjTree.Initial k x a ds i) = at_none a && (nowhere_dims ds && nowhere_init i)

  pub nowhere_dims : DimTrees → Bool
  nowhere_dims DimTrees.NoDims = true
  nowhere_dims (DimTrees.Unsized ds) = nowhere_dims ds
  nowhere_dims (DimTrees.Sized e ds) = nowhere_expr e && nowhere_dims ds

  pub nowhere_init : InitTree → Bool
  nowhere_init (InitTree.Value e) = nowhere_expr e
  nowhere_init (InitTree.Braces f is comma) = at_none f && nowhere_inits is

  pub nowhere_inits : InitTrees → Bool
  nowhere_inits InitTrees.NoItems = true
  nowhere_inits (InitTrees.Item i is) = nowhere_init i && nowhere_inits is

abbrev pub nowhere_option : Option ExprTree → Bool
nowhere_option None = true
nowhere_option (Some e) = nowhere_expr e

abbrev pub nowhere_local : LocalTree → Bool
nowhere_local l = on_none l.first l.line && (nowhere_spec l.spec && nowhere_objs l.names)

abbrev pub nowhere_start : StartTree → Bool
nowhere_start (StartTree.Expr e) = nowhere_option e
nowhere_start (StartTree.Local l) = nowhere_local l

abbrev mutual
  pub nowhere_stmt : StmtTree → Bool
  nowhere_stmt (StmtTree.Block f l items) = on_none f l && nowhere_block items
  nowhere_stmt (StmtTree.Expr f l e) = on_none f l && nowhere_option e
  nowhere_stmt (StmtTree.If f l c s) = on_none f l && (nowhere_expr c && nowhere_stmt s)
  nowhere_stmt (StmtTree.IfElse f l c s t) = on_none f l && (nowhere_expr c && (nowhere_stmt s && nowhere_stmt t))
  nowhere_stmt (StmtTree.While f l c s) = on_none f l && (nowhere_expr c && nowhere_stmt s)
  nowhere_stmt (StmtTree.Do f l s c) = on_none f l && (nowhere_stmt s && nowhere_expr c)
  nowhere_stmt (StmtTree.For f l i c e s) =
      on_none f l && (nowhere_start i && (nowhere_option c && (nowhere_option e && nowhere_stmt s)))
  nowhere_stmt (StmtTree.Break f l) = on_none f l
  nowhere_stmt (StmtTree.Continue f l) = on_none f l
  nowhere_stmt (StmtTree.Return f l e) = on_none f l && nowhere_option e

  pub nowhere_block : BlockTrees → Bool
  nowhere_block BlockTrees.NoItems = true
  nowhere_block (BlockTrees.Declaration l items) = nowhere_local l && nowhere_block items
  nowhere_block (BlockTrees.Statement s items) = nowhere_stmt s && nowhere_block items

abbrev pub nowhere_param : ParamTree → Bool
nowhere_param p = (on_none p.first p.line && at_none p.at) && (nowhere_spec p.spec && nowhere_dims p.dims)

abbrev pub nowhere_params : ParamsTree → Bool
nowhere_params ParamsTree.Empty = true
nowhere_params ParamsTree.Void = true
nowhere_params (ParamsTree.Listed ps) = list_all nowhere_param ps

abbrev pub nowhere_file : FileTree → Bool
nowhere_file (FileTree.Function k x a ps) = at_none a && nowhere_params ps
nowhere_file (FileTree.Object o) = nowhere_obj o

-- the item is placed as those of the library are
abbrev pub nowhere_item : ItemTree → Bool
nowhere_item (ItemTree.Function f l fixed s k x a ps body) =
    (on_none f l && at_none a) && (nowhere_spec s && (nowhere_params ps && nowhere_stmt body))
nowhere_item (ItemTree.Decls f l fixed s ds) = on_none f l && (nowhere_spec s && list_all nowhere_file ds)
