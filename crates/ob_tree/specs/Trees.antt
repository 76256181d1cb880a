-- Expressions and what stands in them, as plain data (C99 6.5, 6.7): type names, specifiers, declarators
-- and initialisers. A tree keeps what its tokens say, and where they stand: a place counts tokens from 0.
use Rattle.std.specs.Prelude.{ℕ, ℤ, Bool, List, Option}
use Rattle.ob_tree.specs.declared.tokens.Keyword.{Keyword}
use Rattle.ob_tree.specs.declared.tokens.Sign.{Sign}
use Rattle.ob_words.specs.declared.types.IntType.{IntType}

-- Where an expression stands: the place of its first token, that of its own sign, and the line of the
-- first token. A binary, assignment or postfix operator, `?`, `[`, `.`, `->` and the comma are signs;
-- every other expression has its first token for a sign.
pub record Mark : Type 0 where
  pub first : ℕ
  pub at : ℕ
  pub line : ℕ

-- what joins two operands: the comma operator, an assignment operator, a binary operator
pub data Infix : Type 0 where
  Comma : Infix
  Assign : (sign : Sign) → Infix
  Binary : (sign : Sign) → Infix

mutual
  -- An expression (C99 6.5).
  pub data ExprTree : Type 0 where
    Name : (mark : Mark) → (name : List ℕ) → ExprTree
    Number : (mark : Mark) → (value : ℤ) → (ty : IntType) → ExprTree
    Null : (mark : Mark) → ExprTree
    Eof : (mark : Mark) → ExprTree
    Str : (mark : Mark) → (strings : List (List ℕ)) → ExprTree
    Paren : (mark : Mark) → (inner : ExprTree) → ExprTree
    Index : (mark : Mark) → (base index : ExprTree) → ExprTree
    Call : (mark : Mark) → (name : List ℕ) → (arguments : ExprTrees) → ExprTree
    Member : (mark : Mark) → (base : ExprTree) → (member : List ℕ) → ExprTree
    Arrow : (mark : Mark) → (base : ExprTree) → (member : List ℕ) → ExprTree
    -- `++` or, where down, `--`; behind its operand where post, else before it
    Step : (mark : Mark) → (post down : Bool) → (operand : ExprTree) → ExprTree
    Unary : (mark : Mark) → (sign : Sign) → (operand : ExprTree) → ExprTree
    SizeExpr : (mark : Mark) → (operand : ExprTree) → ExprTree
    SizeType : (mark : Mark) → (name : TypeTree) → ExprTree
    Cast : (mark : Mark) → (name : TypeTree) → (operand : ExprTree) → ExprTree
    Cond : (mark : Mark) → (test then other : ExprTree) → ExprTree
    Join : (mark : Mark) → (op : Infix) → (left right : ExprTree) → ExprTree

  -- The arguments of a call.
  pub data ExprTrees : Type 0 where
    NoArguments : ExprTrees
    Argument : (head : ExprTree) → (tail : ExprTrees) → ExprTrees

  -- A type name (C99 6.7.6): a specifier, so many stars, and array brackets.
  pub data TypeTree : Type 0 where
    TypeName : (spec : SpecTree) → (stars : ℕ) → (dims : DimTrees) → TypeTree

  -- A type specifier (C99 6.7.2), with the place of its first token. An integer type has the words
  -- that name it.
  pub data SpecTree : Type 0 where
    Void : (first : ℕ) → SpecTree
    SizeT : (first : ℕ) → SpecTree
    Integer : (first : ℕ) → (words : List Keyword) → SpecTree
    Tag : (first : ℕ) → (tag : List ℕ) → SpecTree
    Struct : (first : ℕ) → (tag : Option (List ℕ)) → (members : MemberTrees) → SpecTree

  -- The member declarations of a structure (C99 6.7.2.1).
  pub data MemberTrees : Type 0 where
    NoMembers : MemberTrees
    MemberLine : (spec : SpecTree) → (names : ObjTrees) → (tail : MemberTrees) → MemberTrees

  -- The declarators of one declaration.
  pub data ObjTrees : Type 0 where
    NoDeclarators : ObjTrees
    Declarator : (head : ObjTree) → (tail : ObjTrees) → ObjTrees

  -- The declarator of an object or a member (C99 6.7.5), without or with an initialiser: so many stars,
  -- the name with its place, and array brackets.
  pub data ObjTree : Type 0 where
    Bare : (stars : ℕ) → (name : List ℕ) → (at : ℕ) → (dims : DimTrees) → ObjTree
    Initial : (stars : ℕ) → (name : List ℕ) → (at : ℕ) → (dims : DimTrees) → (init : InitTree) → ObjTree

  -- Array brackets one behind another, each without or with a length.
  pub data DimTrees : Type 0 where
    NoDims : DimTrees
    Unsized : (tail : DimTrees) → DimTrees
    Sized : (length : ExprTree) → (tail : DimTrees) → DimTrees

  -- An initialiser (C99 6.7.8): an expression, or a list in braces with the place of its opening brace;
  -- where comma, one stands before the closing brace.
  pub data InitTree : Type 0 where
    Value : (value : ExprTree) → InitTree
    Braces : (first : ℕ) → (items : InitTrees) → (comma : Bool) → InitTree

  pub data InitTrees : Type 0 where
    NoItems : InitTrees
    Item : (head : InitTree) → (tail : InitTrees) → InitTrees
