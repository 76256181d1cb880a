-- A shift-reduce parser of programs as a machine on plain data: what it holds (C99 6.7 to 6.9). The statements that have
-- begun and aren't whole yet stand on a stack, the newest first; beside it stands what was read last.
use Rattle.std.specs.Prelude.{ℕ, Bool, List, Option}
use Rattle.ob_tree.specs.Trees.{ExprTree, SpecTree, DimTrees, InitTree, InitTrees}
use Rattle.ob_tree.specs.Programs.{StartTree, StmtTree, BlockTrees, ParamTree, ParamsTree, FileTree, ProgramTree}
use Rattle.ob_tree.specs.ExprMachine as expr

-- what stands before the body of a function, and the external declarations before it
pub record Definition : Type 0 where
  pub items : ProgramTree
  pub first : ℕ
  pub line : ℕ
  pub fixed : Bool
  pub spec : SpecTree
  pub stars : ℕ
  pub name : List ℕ
  pub at : ℕ
  pub params : ParamsTree

-- a statement or a function that waits for its last part
pub data PendingStmt : Type 0 where
  InBody : (definition : Definition) → PendingStmt
  InBlock : (first line : ℕ) → (items : BlockTrees) → PendingStmt
  InIf : (first line : ℕ) → (test : ExprTree) → PendingStmt
  InElse : (first line : ℕ) → (test : ExprTree) → (then : StmtTree) → PendingStmt
  InWhile : (first line : ℕ) → (test : ExprTree) → PendingStmt
  InDo : (first line : ℕ) → PendingStmt
  InFor : (first line : ℕ) → (start : StartTree) → (test next : Option ExprTree) → PendingStmt

-- the scope of a declaration (C99 6.2.1), with what stands before it there: other external declarations, other items of
-- a block, or `for` and its parenthesis
pub data Scope : Type 0 where
  FileScope : (items : ProgramTree) → Scope
  BlockScope : (first line : ℕ) → (items : BlockTrees) → (pending : List PendingStmt) → Scope
  ForScope : (first line : ℕ) → (pending : List PendingStmt) → Scope

-- a declaration that has begun
pub record Heading : Type 0 where
  pub scope : Scope
  pub first : ℕ
  pub line : ℕ
  pub fixed : Bool

-- one whose specifier was read, with the declarators before this one
pub record Declaration : Type 0 where
  pub heading : Heading
  pub spec : SpecTree
  pub names : List FileTree

-- a declarator whose name was read
pub record Declarator : Type 0 where
  pub declaration : Declaration
  pub stars : ℕ
  pub name : List ℕ
  pub at : ℕ

-- a function declarator, with the parameters before this one
pub record ParamList : Type 0 where
  pub function : Declarator
  pub params : List ParamTree

-- what a row of brackets stands behind: the name of a declarator, or a parameter's stars and name
pub data Head : Type 0 where
  OfName : (declarator : Declarator) → Head
  OfParam : (listing : ParamList) → (first line : ℕ) → (spec : SpecTree) → (stars : ℕ) → (name : Option (List ℕ)) → (at : ℕ) → Head

-- a declarator that is initialised (C99 6.7, init-declarator)
pub record InitDeclarator : Type 0 where
  pub declarator : Declarator
  pub dims : DimTrees

-- an initialiser list that has begun, with the items before this one (C99 6.7.8)
pub record InitList : Type 0 where
  pub first : ℕ
  pub items : InitTrees

-- what a specifier is read for
pub data SpecContext : Type 0 where
  ForDeclaration : (heading : Heading) → SpecContext
  ForParam : (listing : ParamList) → (first line : ℕ) → SpecContext

-- what an expression is read for
pub data ExprContext : Type 0 where
  Statement : (first line : ℕ) → (pending : List PendingStmt) → ExprContext
  IfTest : (first line : ℕ) → (pending : List PendingStmt) → ExprContext
  WhileTest : (first line : ℕ) → (pending : List PendingStmt) → ExprContext
  DoTest : (first line : ℕ) → (body : StmtTree) → (pending : List PendingStmt) → ExprContext
  ForStart : (first line : ℕ) → (pending : List PendingStmt) → ExprContext
  ForTest : (first line : ℕ) → (start : StartTree) → (pending : List PendingStmt) → ExprContext
  ForNext : (first line : ℕ) → (start : StartTree) → (test : Option ExprTree) → (pending : List PendingStmt) → ExprContext
  Return : (first line : ℕ) → (pending : List PendingStmt) → ExprContext
  Length : (head : Head) → (dims : DimTrees) → ExprContext
  Item : (target : InitDeclarator) → (lists : List InitList) → ExprContext

pub data State : Type 0 where
  -- an external declaration comes, or the end
  Items : ProgramTree → State
  -- a specifier is read
  Specifying : SpecContext → expr.State → State
  -- a declarator's stars were read
  Declare : Declaration → (stars : ℕ) → State
  -- a row of brackets was read
  Dims : Head → DimTrees → State
  -- an expression comes, or nothing
  Optional : ExprContext → State
  -- an expression is read
  Reading : ExprContext → expr.State → State
  -- an initialiser comes
  Init : InitDeclarator → List InitList → State
  -- a list was read whole
  AfterInit : InitDeclarator → List InitList → InitTree → State
  -- the opening parenthesis of parameters was read
  Params : ParamList → State
  -- a comma was read behind a parameter
  NextParam : ParamList → State
  -- a parameter's specifier and stars were read
  Param : ParamList → (first line : ℕ) → SpecTree → (stars : ℕ) → State
  -- the closing parenthesis of parameters was read
  Closed : Declarator → ParamsTree → State
  -- a statement comes or, in a block, a declaration or the block's end
  Begin : List PendingStmt → State
  -- the parenthesis before a test comes
  Opening : ExprContext → State
  -- `for` was read
  ForWord : (first line : ℕ) → List PendingStmt → State
  -- `for` and its opening parenthesis were read
  ForOpen : (first line : ℕ) → List PendingStmt → State
  -- a statement was read but for its semicolon
  Semi : StmtTree → List PendingStmt → State
  -- a statement was read; it may be the last part of others that have begun
  Done : StmtTree → List PendingStmt → State
