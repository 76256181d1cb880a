-- The typed tree of a program, as plain data: what each expression, initialiser, statement, object and
-- function of it is once names are resolved and conversions are written out. Functions, static objects,
-- a function's automatic objects and structures are named by their numbers, all counted from 0.
use Rattle.std.specs.Prelude.{ℕ, ℤ, Bool, List, Option}
use Rattle.ob_words.specs.declared.types.IntType.{IntType}
use Rattle.ob_words.specs.declared.types.BinOp.{BinOp}
use Rattle.ob_words.specs.declared.types.Relation.{Relation}
use Rattle.ob_tree.specs.Types.{PlainType, PlainStructs}
use Rattle.ob_typed.specs.declared.names.Builtin.{Builtin}
use Rattle.ob_typed.specs.declared.names.VarName.{VarName}
use Rattle.ob_typed.specs.declared.statics.StaticPointer.{StaticPointer}

mutual
  -- An expression that has a value (C99 6.5): the line that its accesses are told with, its type, and
  -- how the value comes.
  pub data TypedExpr : Type 0 where
    Typed : (line : ℕ) → (ty : PlainType) → (node : TypedNode) → TypedExpr

  -- An expression that designates an object (an lvalue, 6.3.2.1): its line, the type of what it
  -- designates, and where that lies.
  pub data TypedPlace : Type 0 where
    Place : (line : ℕ) → (ty : PlainType) → (lean : TypedLean) → TypedPlace

  -- A base and a displacement in bytes from it.
  pub data TypedLean : Type 0 where
    -- an object, with displacement 0: the static or the automatic one of this number
    Static : (number : ℕ) → TypedLean
    Local : (number : ℕ) → TypedLean
    -- what a pointer's value points to, with displacement 0
    Value : (pointer : TypedExpr) → TypedLean
    -- `scale` times a number further, or where minus before; the number is evaluated first where
    -- number_first, else the base is
    Slide : (base : TypedLean) → (scale : ℕ) → (minus number_first : Bool) → (by : TypedExpr) → TypedLean
    -- so many bytes further, to a member
    Member : (base : TypedLean) → (offset : ℕ) → TypedLean

  pub data TypedNode : Type 0 where
    Num : (value : ℤ) → TypedNode
    -- the null pointer
    Null : TypedNode
    -- what is loaded from a place
    Read : (place : TypedPlace) → TypedNode
    -- the pointer to a base and a displacement
    Lean : (lean : TypedLean) → TypedNode
    -- a number converted to a type
    Convert : (ty : IntType) → (operand : TypedExpr) → TypedNode
    -- a value that is dropped
    ToVoid : (operand : TypedExpr) → TypedNode
    -- an operator on two numbers of a type; of a shift the left operand alone has this type
    Arith : (op : BinOp) → (ty : IntType) → (left right : TypedExpr) → TypedNode
    -- whether two numbers, or two pointers, stand in a relation
    Compare : (relation : Relation) → (left right : TypedExpr) → TypedNode
    PtrCompare : (relation : Relation) → (left right : TypedExpr) → TypedNode
    -- how many elements of `scale` bytes lie between two pointers
    PtrDiff : (scale : ℕ) → (left right : TypedExpr) → TypedNode
    And : (left right : TypedExpr) → TypedNode
    Or : (left right : TypedExpr) → TypedNode
    Cond : (test yes other : TypedExpr) → TypedNode
    Comma : (left right : TypedExpr) → TypedNode
    Assign : (place : TypedPlace) → (value : TypedExpr) → TypedNode
    -- a compound assignment or a step of a number: computed in type `common`; where post, the value is
    -- that before
    Update : (op : BinOp) → (common : IntType) → (post : Bool) → (place : TypedPlace) → (value : TypedExpr) → TypedNode
    -- one of a pointer, by `scale` bytes times a number
    PtrUpdate : (scale : ℕ) → (minus post : Bool) → (place : TypedPlace) → (value : TypedExpr) → TypedNode
    -- the assignment of a structure, which has no value
    CopyStruct : (to from : TypedPlace) → TypedNode
    Call : (function : ℕ) → (arguments : TypedExprs) → TypedNode
    CallBuiltin : (builtin : Builtin) → (arguments : TypedExprs) → TypedNode

  pub data TypedExprs : Type 0 where
    NoArguments : TypedExprs
    Argument : (head : TypedExpr) → (tail : TypedExprs) → TypedExprs

-- An initialiser (6.7.8): a value; the characters of a string, without the final zero; the items of a
-- list, one for each element or member from the first on; or a structure that is copied.
mutual
  pub data TypedInit : Type 0 where
    Value : (value : TypedExpr) → TypedInit
    Chars : (bytes : List ℕ) → TypedInit
    Items : (items : TypedInits) → TypedInit
    Copy : (from : TypedPlace) → TypedInit

  pub data TypedInits : Type 0 where
    NoItems : TypedInits
    Item : (head : TypedInit) → (tail : TypedInits) → TypedInits

-- A statement (6.8), or the initialisation of an automatic object, which is none. What starts a `for`
-- is no statement either: nothing, an expression, or initialisations.
mutual
  pub data TypedStmt : Type 0 where
    Empty : TypedStmt
    Expr : (expr : TypedExpr) → TypedStmt
    Block : (statements : TypedStmts) → TypedStmt
    Init : (local : ℕ) → (init : TypedInit) → TypedStmt
    If : (test : TypedExpr) → (yes : TypedStmt) → TypedStmt
    IfElse : (test : TypedExpr) → (yes other : TypedStmt) → TypedStmt
    While : (test : TypedExpr) → (body : TypedStmt) → TypedStmt
    Do : (body : TypedStmt) → (test : TypedExpr) → TypedStmt
    For : (start : TypedStmts) → (test next : Option TypedExpr) → (body : TypedStmt) → TypedStmt
    Break : TypedStmt
    Continue : TypedStmt
    Return : (value : Option TypedExpr) → TypedStmt

  pub data TypedStmts : Type 0 where
    NoStmts : TypedStmts
    Stmt : (head : TypedStmt) → (tail : TypedStmts) → TypedStmts

-- A function with a body (6.9.1): its name, the type of its result, how many parameters it has, the types
-- of its automatic objects, which begin with the parameters, and the names of these; how many expressions
-- its tree has, the weight that limits code, and its body.
pub record TypedFunction : Type 0 where
  pub name : List ℕ
  pub result : PlainType
  pub params : ℕ
  pub locals : List PlainType
  pub names : List VarName
  pub nodes : ℕ
  pub weight : ℕ
  pub body : TypedStmt

-- What a static object holds at the start: its first bytes, all others being 0, and the pointers to static
-- objects in it, in order of their places.
pub record PlainImage : Type 0 where
  pub bytes : List ℕ
  pub pointers : List StaticPointer

-- A static object (6.2.4): one at file scope, one that is declared `static` in a block, or a string
-- literal, whose name is empty.
pub record TypedObject : Type 0 where
  pub name : VarName
  pub ty : PlainType
  pub image : PlainImage

-- A program: its structures, its static objects in the order of their tokens, its functions in the order
-- of their bodies, and the number of the function `main`.
pub record TypedProgram : Type 0 where
  pub structs : PlainStructs
  pub statics : List TypedObject
  pub functions : List TypedFunction
  pub main : ℕ
