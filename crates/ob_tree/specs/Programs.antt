-- Statements and external declarations as plain data (C99 6.7 to 6.9). A place counts tokens from 0. What
-- has a first token keeps its place and its line; where fixed, `static` stands first.
use Rattle.std.specs.Prelude.{ℕ, Bool, List, Option}
use Rattle.ob_tree.specs.Trees.{ExprTree, SpecTree, ObjTree, ObjTrees, DimTrees}

-- A declaration in a block (C99 6.7).
pub record LocalTree : Type 0 where
  pub first : ℕ
  pub line : ℕ
  pub fixed : Bool
  pub spec : SpecTree
  pub names : ObjTrees

-- What stands before the first semicolon of a `for` (C99 6.8.5.3).
pub data StartTree : Type 0 where
  Expr : (start : Option ExprTree) → StartTree
  Local : (declaration : LocalTree) → StartTree

mutual
  -- A statement (C99 6.8).
  pub data StmtTree : Type 0 where
    Block : (first line : ℕ) → (items : BlockTrees) → StmtTree
    Expr : (first line : ℕ) → (expr : Option ExprTree) → StmtTree
    If : (first line : ℕ) → (test : ExprTree) → (then : StmtTree) → StmtTree
    IfElse : (first line : ℕ) → (test : ExprTree) → (then other : StmtTree) → StmtTree
    While : (first line : ℕ) → (test : ExprTree) → (body : StmtTree) → StmtTree
    Do : (first line : ℕ) → (body : StmtTree) → (test : ExprTree) → StmtTree
    For : (first line : ℕ) → (start : StartTree) → (test next : Option ExprTree) → (body : StmtTree) → StmtTree
    Break : (first line : ℕ) → StmtTree
    Continue : (first line : ℕ) → StmtTree
    Return : (first line : ℕ) → (value : Option ExprTree) → StmtTree

  -- What stands in a block (C99 6.8.2).
  pub data BlockTrees : Type 0 where
    NoItems : BlockTrees
    Declaration : (head : LocalTree) → (tail : BlockTrees) → BlockTrees
    Statement : (head : StmtTree) → (tail : BlockTrees) → BlockTrees

-- A parameter (C99 6.7.5.3): a specifier, so many stars, a name or none, and array brackets. `at` is the
-- name's place, or the first token's where there is no name.
pub record ParamTree : Type 0 where
  pub first : ℕ
  pub line : ℕ
  pub spec : SpecTree
  pub stars : ℕ
  pub name : Option (List ℕ)
  pub at : ℕ
  pub dims : DimTrees

-- What stands between the brackets of a function declarator: nothing, `void`, or parameters.
pub data ParamsTree : Type 0 where
  Empty : ParamsTree
  Void : ParamsTree
  Listed : (params : List ParamTree) → ParamsTree

-- A declarator at file scope: of a function, or of an object.
pub data FileTree : Type 0 where
  Function : (stars : ℕ) → (name : List ℕ) → (at : ℕ) → (params : ParamsTree) → FileTree
  Object : (object : ObjTree) → FileTree

-- An external declaration (C99 6.9): a function with its body, or a declaration.
pub data ItemTree : Type 0 where
  Function : (first line : ℕ) → (fixed : Bool) → (spec : SpecTree) → (stars : ℕ) → (name : List ℕ) → (at : ℕ) → (params : ParamsTree) → (body : StmtTree) → ItemTree
  Decls : (first line : ℕ) → (fixed : Bool) → (spec : SpecTree) → (declarators : List FileTree) → ItemTree

-- A translation unit (C99 6.9).
abbrev pub ProgramTree : Type 0
ProgramTree = List ItemTree
