-- Whether a function of a name is called: the name stands before the parentheses of a call (C99 6.5.2.2), wherever in
-- the tree the call stands.
use Rattle.std.specs.Prelude.{ℕ, List, Bool, false, ◌||◌, Option, Some, None}
use Rattle.std.specs.List.{list_any}
use Rattle.std.specs.Str.{bytes_eq}
use Rattle.ob_tree.specs.Trees.{ExprTree, ExprTrees, TypeTree, SpecTree, MemberTrees, ObjTree, ObjTrees, DimTrees, InitTree, InitTrees}
use Rattle.ob_tree.specs.Programs.{LocalTree, StartTree, StmtTree, BlockTrees, ParamTree, ParamsTree, FileTree, ItemTree, ProgramTree}

abbrev mutual
  pub calls : (name : List ℕ) → ExprTree → Bool
  calls n (ExprTree.Name m x) = false
  calls n (ExprTree.Number m v t) = false
  calls n (ExprTree.Null m) = false
  calls n (ExprTree.Eof m) = false
  calls n (ExprTree.Str m xs) = false
  calls n (ExprTree.Paren m e) = calls n e
  calls n (ExprTree.Index m b i) = calls n b || calls n i
  calls n (ExprTree.Call m x es) = bytes_eq x n || arguments_call n es
  calls n (ExprTree.Member m b x) = calls n b
  calls n (ExprTree.Arrow m b x) = calls n b
  calls n (ExprTree.Step m post down e) = calls n e
  calls n (ExprTree.Unary m s e) = calls n e
  calls n (ExprTree.SizeExpr m e) = calls n e
  calls n (ExprTree.SizeType m t) = type_calls n t
  calls n (ExprTree.Cast m t e) = type_calls n t || calls n e
  calls n (ExprTree.Cond m c x y) = calls n c || (calls n x || calls n y)
  calls n (ExprTree.Join m op l r) = calls n l || calls n r

  pub arguments_call : (name : List ℕ) → ExprTrees → Bool
  arguments_call n ExprTrees.NoArguments = false
  arguments_call n (ExprTrees.Argument e es) = calls n e || arguments_call n es

  pub type_calls : (name : List ℕ) → TypeTree → Bool
  type_calls n (TypeTree.TypeName s k ds) = spec_calls n s || dims_call n ds

  pub spec_calls : (name : List ℕ) → SpecTree → Bool
  spec_calls n (SpecTree.Void f) = false
  spec_calls n (SpecTree.SizeT f) = false
  spec_calls n (SpecTree.Integer f words) = false
  spec_calls n (SpecTree.Tag f tag) = false
  spec_calls n (SpecTree.Struct f tag ms) = members_call n ms

  pub members_call : (name : List ℕ) → MemberTrees → Bool
  members_call n MemberTrees.NoMembers = false
  members_call n (MemberTrees.MemberLine s os ms) = (spec_calls n s || objs_call n os) || members_call n ms

  pub objs_call : (name : List ℕ) → ObjTrees → Bool
  objs_call n ObjTrees.NoDeclarators = false
  objs_call n (ObjTrees.Declarator o os) = obj_calls n o || objs_call n os

  pub obj_calls : (name : List ℕ) → ObjTree → Bool
  obj_calls n (ObjTree.Bare k x a ds) = dims_call n ds
  obj_calls n (ObjTree.Initial k x a ds i) = dims_call n ds || init_calls n i

  pub dims_call : (name : List ℕ) → DimTrees → Bool
  dims_call n DimTrees.NoDims = false
  dims_call n (DimTrees.Unsized ds) = dims_call n ds
  dims_call n (DimTrees.Sized e ds) = calls n e || dims_call n ds

  pub init_calls : (name : List ℕ) → InitTree → Bool
  init_calls n (InitTree.Value e) = calls n e
  init_calls n (InitTree.Braces f is comma) = inits_call n is

  pub inits_call : (name : List ℕ) → InitTrees → Bool
  inits_call n InitTrees.NoItems = false
  inits_call n (InitTrees.Item i is) = init_calls n i || inits_call n is

abbrev pub option_calls : (name : List ℕ) → Option ExprTree → Bool
option_calls n None = false
option_calls n (Some e) = calls n e

abbrev pub local_calls : (name : List ℕ) → LocalTree → Bool
local_calls n l = spec_calls n l.spec || objs_call n l.names

abbrev pub start_calls : (name : List ℕ) → StartTree → Bool
start_calls n (StartTree.Expr e) = option_calls n e
start_calls n (StartTree.Local l) = local_calls n l

abbrev mutual
  pub stmt_calls : (name : List ℕ) → StmtTree → Bool
  stmt_calls n (StmtTree.Block f l items) = block_calls n items
  stmt_calls n (StmtTree.Expr f l e) = option_calls n e
  stmt_calls n (StmtTree.If f l c s) = calls n c || stmt_calls n s
  stmt_calls n (StmtTree.IfElse f l c s t) = (calls n c || stmt_calls n s) || stmt_calls n t
  stmt_calls n (StmtTree.While f l c s) = calls n c || stmt_calls n s
  stmt_calls n (StmtTree.Do f l s c) = stmt_calls n s || calls n c
  stmt_calls n (StmtTree.For f l i c e s) = start_calls n i || (option_calls n c || (option_calls n e || stmt_calls n s))
  stmt_calls n (StmtTree.Break f l) = false
  stmt_calls n (StmtTree.Continue f l) = false
  stmt_calls n (StmtTree.Return f l e) = option_calls n e

  pub block_calls : (name : List ℕ) → BlockTrees → Bool
  block_calls n BlockTrees.NoItems = false
  block_calls n (BlockTrees.Declaration l items) = local_calls n l || block_calls n items
  block_calls n (BlockTrees.Statement s items) = stmt_calls n s || block_calls n items

abbrev pub param_calls : (name : List ℕ) → ParamTree → Bool
param_calls n p = spec_calls n p.spec || dims_call n p.dims

abbrev pub params_call : (name : List ℕ) → ParamsTree → Bool
params_call n ParamsTree.Empty = false
params_call n ParamsTree.Void = false
params_call n (ParamsTree.Listed ps) = list_any (param_calls n) ps

abbrev pub file_calls : (name : List ℕ) → FileTree → Bool
file_calls n (FileTree.Function k x a ps) = params_call n ps
file_calls n (FileTree.Object o) = obj_calls n o

abbrev pub item_calls : (name : List ℕ) → ItemTree → Bool
item_calls n (ItemTree.Function f l fixed s k x a ps body) = spec_calls n s || (params_call n ps || stmt_calls n body)
item_calls n (ItemTree.Decls f l fixed s ds) = spec_calls n s || list_any (file_calls n) ds

-- whether the program calls a function of this name
abbrev pub program_calls : (name : List ℕ) → ProgramTree → Bool
program_calls n p = list_any (item_calls n) p

-- whether the item is a function of this name with its body
abbrev pub item_defines : (name : List ℕ) → ItemTree → Bool
item_defines n (ItemTree.Function f l fixed s k x a ps body) = bytes_eq x n
item_defines n (ItemTree.Decls f l fixed s ds) = false

-- whether the program defines a function of this name
abbrev pub program_defines : (name : List ℕ) → ProgramTree → Bool
program_defines n p = list_any (item_defines n) p
