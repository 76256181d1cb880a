-- What the typed trees of the program are without their boxes and vectors.
use Rattle.std.specs.Prelude.{ℕ, Option, Some, None, map, Vec}
use Rattle.std.specs.declared.alloc.Global.{Global}
use Rattle.ob_tree.specs.declared.types.CType.{CType}
use Rattle.ob_tree.specs.declared.structs.Structs.{Structs}
use Rattle.ob_tree.specs.TypeView.{plain_type, plain_types}
use Rattle.ob_tree.specs.StructsView.{plain_structs}
use Rattle.ob_typed.specs.declared.expressions.TExpr.{TExpr}
use Rattle.ob_typed.specs.declared.expressions.TPlace.{TPlace}
use Rattle.ob_typed.specs.declared.expressions.TLean as lean
use Rattle.ob_typed.specs.declared.expressions.TLean.{TLean}
use Rattle.ob_typed.specs.declared.expressions.TNode as node
use Rattle.ob_typed.specs.declared.expressions.TNode.{TNode, Row_of-TExpr, end_of-TExpr, more_of-TExpr}
use Rattle.ob_typed.specs.declared.statements.TInit as init
use Rattle.ob_typed.specs.declared.statements.TInit.{TInit, Row_of-TInit, end_of-TInit, more_of-TInit}
use Rattle.ob_typed.specs.declared.statements.TStmt as stmt
use Rattle.ob_typed.specs.declared.statements.TStmt.{TStmt, Row_of-TStmt, end_of-TStmt, more_of-TStmt, Held-TStmt-If-2, None', Some'}
use Rattle.ob_typed.specs.declared.statics.TStatic.{TStatic}
use Rattle.ob_typed.specs.declared.statics.StaticImage.{StaticImage}
use Rattle.ob_typed.specs.declared.program.TFunction.{TFunction}
use Rattle.ob_typed.specs.TypedTree.{TypedExpr, TypedPlace, TypedLean, TypedNode, TypedExprs, TypedInit, TypedInits, TypedStmt, TypedStmts, TypedFunction, PlainImage, TypedObject, TypedProgram}

abbrev pub typed : (line : ℕ) → CType → TypedNode → TypedExpr
typed l t e = TypedExpr.Typed l (plain_type t) e

abbrev pub placed : (line : ℕ) → CType → TypedLean → TypedPlace
placed l t e = TypedPlace.Place l (plain_type t) e

abbrev mutual
  pub typed_lean : TLean → TypedLean
  typed_lean (lean.Static n) = TypedLean.Static n
  typed_lean (lean.Local n) = TypedLean.Local n
  typed_lean (lean.Value' p l t e) = TypedLean.Value (typed l t (typed_node e))
  typed_lean (lean.Slide' p b scale minus number_first q l t e) =
      TypedLean.Slide (typed_lean b) scale minus number_first (typed l t (typed_node e))
  typed_lean (lean.Member' p b offset) = TypedLean.Member (typed_lean b) offset

  pub typed_node : TNode → TypedNode
  typed_node (node.Num n) = TypedNode.Num n
  typed_node node.Null = TypedNode.Null
  typed_node (node.Read' p l t e) = TypedNode.Read (placed l t (typed_lean e))
  typed_node (node.Lean' p e) = TypedNode.Lean (typed_lean e)
  typed_node (node.Convert' k p l t e) = TypedNode.Convert k (typed l t (typed_node e))
  typed_node (node.ToVoid' p l t e) = TypedNode.ToVoid (typed l t (typed_node e))
  typed_node (node.Arith' op k p l t e q m u f) = TypedNode.Arith op k (typed l t (typed_node e)) (typed m u (typed_node f))
  typed_node (node.Compare' r p l t e q m u f) = TypedNode.Compare r (typed l t (typed_node e)) (typed m u (typed_node f))
  typed_node (node.PtrCompare' r p l t e q m u f) = TypedNode.PtrCompare r (typed l t (typed_node e)) (typed m u (typed_node f))
  typed_node (node.PtrDiff' n p l t e q m u f) = TypedNode.PtrDiff n (typed l t (typed_node e)) (typed m u (typed_node f))
  typed_node (node.And' p l t e q m u f) = TypedNode.And (typed l t (typed_node e)) (typed m u (typed_node f))
  typed_node (node.Or' p l t e q m u f) = TypedNode.Or (typed l t (typed_node e)) (typed m u (typed_node f))
  typed_node (node.Cond' p l t e q m u f r n v g) = TypedNode.Cond (typed l t (typed_node e)) (typed m u (typed_node f)) (typed n v (typed_node g))
  typed_node (node.Comma' p l t e q m u f) = TypedNode.Comma (typed l t (typed_node e)) (typed m u (typed_node f))
  typed_node (node.Assign' p l t e q m u f) = TypedNode.Assign (placed l t (typed_lean e)) (typed m u (typed_node f))
  typed_node (node.Update' op k post p l t e q m u f) = TypedNode.Update op k post (placed l t (typed_lean e)) (typed m u (typed_node f))
  typed_node (node.PtrUpdate' scale minus post p l t e q m u f) =
      TypedNode.PtrUpdate scale minus post (placed l t (typed_lean e)) (typed m u (typed_node f))
  typed_node (node.CopyStruct' p l t e q m u f) = TypedNode.CopyStruct (placed l t (typed_lean e)) (placed m u (typed_lean f))
  typed_node (node.Call' n r es) = TypedNode.Call n (argument_row es)
  typed_node (node.Builtin' b r es) = TypedNode.CallBuiltin b (argument_row es)

  pub argument_row : {n : _} → Row_of-TExpr n → TypedExprs
  argument_row end_of-TExpr = TypedExprs.NoArguments
  argument_row (more_of-TExpr l t e es) = TypedExprs.Argument (typed l t (typed_node e)) (argument_row es)

abbrev pub typed_expr : TExpr → TypedExpr
typed_expr e = typed e.line e.ty (typed_node e.node)

abbrev pub typed_place : TPlace → TypedPlace
typed_place p = placed p.line p.ty (typed_lean p.lean)

abbrev pub typed_option : Option TExpr → Option TypedExpr
typed_option None = None
typed_option (Some e) = Some (typed_expr e)

abbrev mutual
  pub typed_init : TInit → TypedInit
  typed_init (init.Value e) = TypedInit.Value (typed_expr e)
  typed_init (init.Chars bytes) = TypedInit.Chars bytes
  typed_init (init.List' r is) = TypedInit.Items (init_row is)
  typed_init (init.Copy p) = TypedInit.Copy (typed_place p)

  pub init_row : {n : _} → Row_of-TInit n → TypedInits
  init_row end_of-TInit = TypedInits.NoItems
  init_row (more_of-TInit i is) = TypedInits.Item (typed_init i) (init_row is)

abbrev mutual
  pub typed_stmt : TStmt → TypedStmt
  typed_stmt stmt.Empty = TypedStmt.Empty
  typed_stmt (stmt.Expr e) = TypedStmt.Expr (typed_expr e)
  typed_stmt (stmt.Block' r ss) = TypedStmt.Block (stmt_row ss)
  typed_stmt (stmt.Init n i) = TypedStmt.Init n (typed_init i)
  typed_stmt (stmt.If' c p s other) = held_else (typed_expr c) (typed_stmt s) other
  typed_stmt (stmt.While' c p s) = TypedStmt.While (typed_expr c) (typed_stmt s)
  typed_stmt (stmt.Do' p s c) = TypedStmt.Do (typed_stmt s) (typed_expr c)
  typed_stmt (stmt.For' r ss c n p s) = TypedStmt.For (stmt_row ss) (typed_option c) (typed_option n) (typed_stmt s)
  typed_stmt stmt.Break = TypedStmt.Break
  typed_stmt stmt.Continue = TypedStmt.Continue
  typed_stmt (stmt.Return e) = TypedStmt.Return (typed_option e)

  pub held_else : TypedExpr → TypedStmt → Held-TStmt-If-2 → TypedStmt
  held_else c s None' = TypedStmt.If c s
  held_else c s (Some' p other) = TypedStmt.IfElse c s (typed_stmt other)

  pub stmt_row : {n : _} → Row_of-TStmt n → TypedStmts
  stmt_row end_of-TStmt = TypedStmts.NoStmts
  stmt_row (more_of-TStmt s ss) = TypedStmts.Stmt (typed_stmt s) (stmt_row ss)

abbrev pub typed_function : TFunction → TypedFunction
typed_function f = record {
  name = f.name;
  result = plain_type f.result;
  params = f.params;
  locals = plain_types f.locals.items;
  names = f.names.items;
  nodes = f.nodes;
  weight = f.weight;
  body = typed_stmt f.body;
}

abbrev pub plain_image : StaticImage → PlainImage
plain_image i = record { bytes = i.bytes; pointers = i.pointers.items }

abbrev pub typed_object : TStatic → TypedObject
typed_object o = record { name = o.name; ty = plain_type o.ty; image = plain_image o.image }

-- a program from its parts
abbrev pub typed_parts : Structs → Vec TStatic Global → Vec TFunction Global → ℕ → TypedProgram
typed_parts structs statics functions main = record {
  structs = plain_structs structs;
  statics = map typed_object statics.items;
  functions = map typed_function functions.items;
  main = main;
}
