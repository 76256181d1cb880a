-- How many expressions the tree of a function has, and the weight that limits code. Parentheses are an
-- expression; the name of a called function is none.
use Rattle.std.specs.Prelude.{ℕ, ◌+◌, ◌*◌, Option, Some, None, List, [], ◌∷◌, length}
use Rattle.ob_tree.specs.Trees.{ExprTree, ExprTrees, TypeTree, SpecTree, MemberTrees, ObjTree, ObjTrees, DimTrees, InitTree, InitTrees}
use Rattle.ob_tree.specs.Trees.{ExprTree as tree, ExprTrees as trees, TypeTree as named, SpecTree as spec, MemberTrees as members, ObjTree as declarator, ObjTrees as declarators, DimTrees as dims, InitTree as init, InitTrees as inits}
use Rattle.ob_tree.specs.Programs.{LocalTree, StartTree, StmtTree, BlockTrees, ParamTree, ParamsTree}
use Rattle.ob_tree.specs.Programs.{StartTree as start, StmtTree as source, BlockTrees as items, ParamsTree as params}
use Rattle.ob_tree.specs.Types.{PlainType, PlainStructs}
use Rattle.ob_tree.specs.Sizes.{scalars}
use Rattle.ob_typed.specs.TypedTree.{TypedExpr, TypedExprs, TypedPlace, TypedLean, TypedNode, TypedInit, TypedInits, TypedStmt, TypedStmts}
use Rattle.ob_typed.specs.TypedTree.{TypedExpr as expr, TypedExprs as exprs, TypedPlace as place, TypedLean as lean, TypedNode as node, TypedInit as typed, TypedInits as typeds, TypedStmt as stmt, TypedStmts as stmts}

-- ---- expressions in the tree of the grammar, those in array brackets and under `sizeof` included

abbrev mutual
  pub nodes : ExprTree → ℕ
  nodes (tree.Name m name) = 1
  nodes (tree.Number m z t) = 1
  nodes (tree.Null m) = 1
  nodes (tree.Eof m) = 1
  nodes (tree.Str m strings) = 1
  nodes (tree.Paren m e) = 1 + nodes e
  nodes (tree.Index m a b) = 1 + (nodes a + nodes b)
  nodes (tree.Call m name es) = 1 + nodes_of_arguments es
  nodes (tree.Member m a name) = 1 + nodes a
  nodes (tree.Arrow m a name) = 1 + nodes a
  nodes (tree.Step m post down a) = 1 + nodes a
  nodes (tree.Unary m s a) = 1 + nodes a
  nodes (tree.SizeExpr m a) = 1 + nodes a
  nodes (tree.SizeType m t) = 1 + nodes_of_type t
  nodes (tree.Cast m t a) = 1 + (nodes_of_type t + nodes a)
  nodes (tree.Cond m c a b) = 1 + (nodes c + (nodes a + nodes b))
  nodes (tree.Join m op a b) = 1 + (nodes a + nodes b)

  pub nodes_of_arguments : ExprTrees → ℕ
  nodes_of_arguments trees.NoArguments = 0
  nodes_of_arguments (trees.Argument e es) = nodes e + nodes_of_arguments es

  pub nodes_of_type : TypeTree → ℕ
  nodes_of_type (named.TypeName s stars ds) = nodes_of_spec s + nodes_of_dims ds

  pub nodes_of_spec : SpecTree → ℕ
  nodes_of_spec (spec.Void first) = 0
  nodes_of_spec (spec.SizeT first) = 0
  nodes_of_spec (spec.Integer first words) = 0
  nodes_of_spec (spec.Tag first tag) = 0
  nodes_of_spec (spec.Struct first tag ms) = nodes_of_members ms

  pub nodes_of_members : MemberTrees → ℕ
  nodes_of_members members.NoMembers = 0
  nodes_of_members (members.MemberLine s names ms) = nodes_of_spec s + (nodes_of_objects names + nodes_of_members ms)

  pub nodes_of_objects : ObjTrees → ℕ
  nodes_of_objects declarators.NoDeclarators = 0
  nodes_of_objects (declarators.Declarator o os) = nodes_of_object o + nodes_of_objects os

  pub nodes_of_object : ObjTree → ℕ
  nodes_of_object (declarator.Bare stars name at ds) = nodes_of_dims ds
  nodes_of_object (declarator.Initial stars name at ds i) = nodes_of_dims ds + nodes_of_init i

  pub nodes_of_dims : DimTrees → ℕ
  nodes_of_dims dims.NoDims = 0
  nodes_of_dims (dims.Unsized ds) = nodes_of_dims ds
  nodes_of_dims (dims.Sized e ds) = nodes e + nodes_of_dims ds

  pub nodes_of_init : InitTree → ℕ
  nodes_of_init (init.Value e) = nodes e
  nodes_of_init (init.Braces first is comma) = nodes_of_inits is

  pub nodes_of_inits : InitTrees → ℕ
  nodes_of_inits inits.NoItems = 0
  nodes_of_inits (inits.Item i is) = nodes_of_init i + nodes_of_inits is

abbrev pub nodes_of_option : Option ExprTree → ℕ
nodes_of_option None = 0
nodes_of_option (Some e) = nodes e

abbrev pub nodes_of_local : LocalTree → ℕ
nodes_of_local d = nodes_of_spec d.spec + nodes_of_objects d.names

abbrev pub nodes_of_start : StartTree → ℕ
nodes_of_start (start.Expr e) = nodes_of_option e
nodes_of_start (start.Local d) = nodes_of_local d

abbrev mutual
  pub nodes_of_stmt : StmtTree → ℕ
  nodes_of_stmt (source.Block first line is) = nodes_of_block is
  nodes_of_stmt (source.Expr first line e) = nodes_of_option e
  nodes_of_stmt (source.If first line c s) = nodes c + nodes_of_stmt s
  nodes_of_stmt (source.IfElse first line c s other) = nodes c + (nodes_of_stmt s + nodes_of_stmt other)
  nodes_of_stmt (source.While first line c s) = nodes c + nodes_of_stmt s
  nodes_of_stmt (source.Do first line s c) = nodes_of_stmt s + nodes c
  nodes_of_stmt (source.For first line i c n s) = nodes_of_start i + (nodes_of_option c + (nodes_of_option n + nodes_of_stmt s))
  nodes_of_stmt (source.Break first line) = 0
  nodes_of_stmt (source.Continue first line) = 0
  nodes_of_stmt (source.Return first line e) = nodes_of_option e

  pub nodes_of_block : BlockTrees → ℕ
  nodes_of_block items.NoItems = 0
  nodes_of_block (items.Declaration d rest) = nodes_of_local d + nodes_of_block rest
  nodes_of_block (items.Statement s rest) = nodes_of_stmt s + nodes_of_block rest

abbrev pub nodes_of_each : List ParamTree → ℕ
nodes_of_each [] = 0
nodes_of_each (p ∷ ps) = nodes_of_spec p.spec + (nodes_of_dims p.dims + nodes_of_each ps)

abbrev pub nodes_of_params : ParamsTree → ℕ
nodes_of_params params.Empty = 0
nodes_of_params params.Void = 0
nodes_of_params (params.Listed ps) = nodes_of_each ps

-- of a function: its specifier, its parameters and its body
abbrev pub nodes_of_function : SpecTree → ParamsTree → StmtTree → ℕ
nodes_of_function s ps body = nodes_of_spec s + (nodes_of_params ps + nodes_of_stmt body)

-- ---- the scalars of the structure assignments in an expression

abbrev pub type_of_place : TypedPlace → PlainType
type_of_place (place.Place line t l) = t

abbrev mutual
  pub copies : PlainStructs → TypedExpr → ℕ
  copies s (expr.Typed line t n) = copies_of_node s n

  pub copies_of_place : PlainStructs → TypedPlace → ℕ
  copies_of_place s (place.Place line t l) = copies_of_lean s l

  pub copies_of_lean : PlainStructs → TypedLean → ℕ
  copies_of_lean s (lean.Static n) = 0
  copies_of_lean s (lean.Local n) = 0
  copies_of_lean s (lean.Value e) = copies s e
  copies_of_lean s (lean.Slide b scale minus number_first e) = copies_of_lean s b + copies s e
  copies_of_lean s (lean.Member b offset) = copies_of_lean s b

  pub copies_of_node : PlainStructs → TypedNode → ℕ
  copies_of_node s (node.Num z) = 0
  copies_of_node s node.Null = 0
  copies_of_node s (node.Read p) = copies_of_place s p
  copies_of_node s (node.Lean l) = copies_of_lean s l
  copies_of_node s (node.Convert k e) = copies s e
  copies_of_node s (node.ToVoid e) = copies s e
  copies_of_node s (node.Arith op k a b) = copies s a + copies s b
  copies_of_node s (node.Compare r a b) = copies s a + copies s b
  copies_of_node s (node.PtrCompare r a b) = copies s a + copies s b
  copies_of_node s (node.PtrDiff n a b) = copies s a + copies s b
  copies_of_node s (node.And a b) = copies s a + copies s b
  copies_of_node s (node.Or a b) = copies s a + copies s b
  copies_of_node s (node.Cond c a b) = copies s c + (copies s a + copies s b)
  copies_of_node s (node.Comma a b) = copies s a + copies s b
  copies_of_node s (node.Assign p e) = copies_of_place s p + copies s e
  copies_of_node s (node.Update op k post p e) = copies_of_place s p + copies s e
  copies_of_node s (node.PtrUpdate scale minus post p e) = copies_of_place s p + copies s e
  copies_of_node s (node.CopyStruct to from) = scalars s (type_of_place to) + (copies_of_place s to + copies_of_place s from)
  copies_of_node s (node.Call n es) = copies_of_arguments s es
  copies_of_node s (node.CallBuiltin b es) = copies_of_arguments s es

  pub copies_of_arguments : PlainStructs → TypedExprs → ℕ
  copies_of_arguments s exprs.NoArguments = 0
  copies_of_arguments s (exprs.Argument e es) = copies s e + copies_of_arguments s es

-- ---- the load of automatic initialisers: their values and lists, the bytes of strings without the final zero,
-- and the scalars of copied structures

abbrev mutual
  pub init_load : PlainStructs → TypedInit → ℕ
  init_load s (typed.Value e) = 1 + copies s e
  init_load s (typed.Chars bytes) = 1 + length bytes
  init_load s (typed.Items is) = 1 + items_load s is
  init_load s (typed.Copy p) = 1 + (scalars s (type_of_place p) + copies_of_place s p)

  pub items_load : PlainStructs → TypedInits → ℕ
  items_load s typeds.NoItems = 0
  items_load s (typeds.Item i is) = init_load s i + items_load s is

abbrev pub option_copies : PlainStructs → Option TypedExpr → ℕ
option_copies s None = 0
option_copies s (Some e) = copies s e

-- what starts a `for` is no statement
abbrev pub start_load : PlainStructs → TypedStmts → ℕ
start_load s stmts.NoStmts = 0
start_load s (stmts.Stmt (stmt.Expr e) ss) = copies s e + start_load s ss
start_load s (stmts.Stmt (stmt.Init n i) ss) = init_load s i + start_load s ss
start_load s (stmts.Stmt x ss) = start_load s ss

-- the statements, and what the initialisers and the structure assignments among them add
abbrev mutual
  pub stmt_load : PlainStructs → TypedStmt → ℕ
  stmt_load s stmt.Empty = 1
  stmt_load s (stmt.Expr e) = 1 + copies s e
  stmt_load s (stmt.Block ss) = 1 + stmts_load s ss
  stmt_load s (stmt.Init n i) = init_load s i
  stmt_load s (stmt.If c x) = 1 + (copies s c + stmt_load s x)
  stmt_load s (stmt.IfElse c x other) = 1 + (copies s c + (stmt_load s x + stmt_load s other))
  stmt_load s (stmt.While c x) = 1 + (copies s c + stmt_load s x)
  stmt_load s (stmt.Do x c) = 1 + (stmt_load s x + copies s c)
  stmt_load s (stmt.For i c n x) = 1 + (start_load s i + (option_copies s c + (option_copies s n + stmt_load s x)))
  stmt_load s stmt.Break = 1
  stmt_load s stmt.Continue = 1
  stmt_load s (stmt.Return e) = 1 + option_copies s e

  pub stmts_load : PlainStructs → TypedStmts → ℕ
  stmts_load s stmts.NoStmts = 0
  stmts_load s (stmts.Stmt x ss) = stmt_load s x + stmts_load s ss

-- the weight of a function with so many automatic objects and expressions
abbrev pub weight : PlainStructs → (locals nodes : ℕ) → TypedStmt → ℕ
weight s locals n body = 8 * (1 + (locals + (n + stmt_load s body)))
