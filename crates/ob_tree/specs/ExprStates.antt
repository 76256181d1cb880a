-- An operator-precedence (shift-reduce) parser as a machine on plain data: what it holds. Floyd, Syntactic analysis and
-- operator precedence, J. ACM 10 (1963); Aho, Sethi and Ullman, Compilers, 4.6. It reads an expression or a specifier
-- (C99 6.5, 6.7.2). The nodes that have begun and aren't whole yet stand on a stack, the newest first, and beside it
-- stands what was read last.
use Rattle.std.specs.Prelude.{ℕ, ◌+◌, List, [], ◌∷◌, Bool, false, Option, cond, nat_lt}
use Rattle.ob_tree.specs.declared.tokens.Sign.{Sign}
use Rattle.ob_tree.specs.Trees.{Mark, Infix, ExprTree, ExprTrees, TypeTree, SpecTree, MemberTrees, ObjTree, ObjTrees, DimTrees}
use Rattle.ob_tree.specs.Levels.{expr_level, assign_level, cond_level, cast_level, unary_level, primary_level, right_level}

-- a structure specifier that has begun: the place of its first token, its tag, and the members before this one
pub record StructBody : Type 0 where
  pub first : ℕ
  pub tag : Option (List ℕ)
  pub members : MemberTrees

-- a line of members that has begun: its specifier, and the names before this one
pub record StructDeclaration : Type 0 where
  pub body : StructBody
  pub spec : SpecTree
  pub names : ObjTrees

-- what a row of brackets stands behind: the stars of the type name of a cast or, where sized, of a `sizeof`; or
-- the stars and the name of a member
pub data Head : Type 0 where
  OfType : (mark : Mark) → (sized : Bool) → (spec : SpecTree) → (stars : ℕ) → Head
  OfMember : (line : StructDeclaration) → (stars : ℕ) → (name : List ℕ) → (at : ℕ) → Head

-- a node that waits for its last part
pub data PendingNode : Type 0 where
  InParen : (mark : Mark) → PendingNode
  InIndex : (mark : Mark) → (base : ExprTree) → PendingNode
  InCall : (mark : Mark) → (name : List ℕ) → (arguments : ExprTrees) → PendingNode
  InStep : (mark : Mark) → (down : Bool) → PendingNode
  InUnary : (mark : Mark) → (sign : Sign) → PendingNode
  InSize : (mark : Mark) → PendingNode
  InCast : (mark : Mark) → (name : TypeTree) → PendingNode
  InJoin : (mark : Mark) → (op : Infix) → (left : ExprTree) → PendingNode
  InThen : (mark : Mark) → (test : ExprTree) → PendingNode
  InElse : (mark : Mark) → (test then : ExprTree) → PendingNode
  InLength : (head : Head) → (dims : DimTrees) → PendingNode
  -- a cast or, where sized, a `sizeof` that waits for the specifier of its type name
  InType : (mark : Mark) → (sized : Bool) → PendingNode
  -- a structure that waits for a member's specifier
  InStruct : (body : StructBody) → PendingNode

pub data State : Type 0 where
  -- an operand comes
  BeforeOperand : List PendingNode → State
  -- an opening parenthesis was read, of a cast or not
  Open : (mark : Mark) → List PendingNode → State
  -- `sizeof` was read
  Size : (mark : Mark) → List PendingNode → State
  -- `sizeof` and an opening parenthesis were read, of a type name or not
  SizeOpen : (mark paren : Mark) → List PendingNode → State
  -- a name and an opening parenthesis were read
  Called : (mark : Mark) → (name : List ℕ) → List PendingNode → State
  -- an operand and `.` or, where arrow, `->` were read
  Select : (mark : Mark) → (arrow : Bool) → (base : ExprTree) → List PendingNode → State
  -- a whole operand was read
  AfterOperand : ExprTree → List PendingNode → State
  -- a specifier comes
  Specifier : List PendingNode → State
  -- `struct` was read
  StructWord : (first : ℕ) → List PendingNode → State
  -- the opening brace of a structure was read, or a semicolon behind a line of members
  Members : StructBody → List PendingNode → State
  -- a member's stars were read
  Declare : StructDeclaration → (stars : ℕ) → List PendingNode → State
  -- a row of brackets was read
  Dims : Head → DimTrees → List PendingNode → State
  -- a specifier was read that is whole
  AfterSpec : SpecTree → List PendingNode → State

-- the level that stands where no expression does
abbrev pub no_level : ℕ
no_level = primary_level + 1

-- the level of the operand that a pending node waits for
abbrev pub operand_level : PendingNode → ℕ
operand_level (InParen m) = expr_level
operand_level (InIndex m b) = expr_level
operand_level (InCall m name es) = assign_level
operand_level (InStep m down) = unary_level
operand_level (InUnary m s) = cast_level
operand_level (InSize m) = unary_level
operand_level (InCast m t) = cast_level
operand_level (InJoin m op l) = right_level op
operand_level (InThen m c) = expr_level
operand_level (InElse m c x) = cond_level
operand_level (InLength h ds) = cond_level
operand_level (InType m z) = no_level
operand_level (InStruct b) = no_level

-- The right precedence of a pending node: a sign behind its operand makes it whole where the sign's own level is below
-- it. No sign does so where the node waits for a token, and then it is 0.
abbrev pub right_precedence : PendingNode → ℕ
right_precedence (InParen m) = 0
right_precedence (InIndex m b) = 0
right_precedence (InCall m name es) = 0
right_precedence (InStep m down) = unary_level
right_precedence (InUnary m s) = cast_level
right_precedence (InSize m) = unary_level
right_precedence (InCast m t) = cast_level
right_precedence (InJoin m op l) = right_level op
right_precedence (InThen m c) = 0
right_precedence (InElse m c x) = cond_level
right_precedence (InLength h ds) = 0
right_precedence (InType m z) = 0
right_precedence (InStruct b) = 0

-- `least` is the level of the expression that is read, or no level where a specifier is read
abbrev pub top_operand_level : (least : ℕ) → List PendingNode → ℕ
top_operand_level least [] = least
top_operand_level least (f ∷ fs) = operand_level f

abbrev pub top_right_precedence : List PendingNode → ℕ
top_right_precedence [] = 0
top_right_precedence (f ∷ fs) = right_precedence f

-- the node with its last operand
abbrev pub close : PendingNode → ExprTree → ExprTree
close (InStep m down) e = ExprTree.Step m false down e
close (InUnary m s) e = ExprTree.Unary m s e
close (InSize m) e = ExprTree.SizeExpr m e
close (InCast m t) e = ExprTree.Cast m t e
close (InJoin m op l) e = ExprTree.Join m op l e
close (InElse m c x) e = ExprTree.Cond m c x e
close f e = e

-- reducing: each of the newest nodes whose right precedence is over n becomes the operand of the one below
abbrev pub reduce : (n : ℕ) → ExprTree → List PendingNode → ExprTree × List PendingNode
reduce n e [] = (e, [])
reduce n e (f ∷ fs) = cond (nat_lt n (right_precedence f)) (reduce n (close f e) fs) (e, f ∷ fs)

-- lists with one item more
abbrev pub add_argument : ExprTrees → ExprTree → ExprTrees
add_argument ExprTrees.NoArguments e = ExprTrees.Argument e ExprTrees.NoArguments
add_argument (ExprTrees.Argument x es) e = ExprTrees.Argument x (add_argument es e)

abbrev pub add_dim : DimTrees → ExprTree → DimTrees
add_dim DimTrees.NoDims e = DimTrees.Sized e DimTrees.NoDims
add_dim (DimTrees.Unsized ds) e = DimTrees.Unsized (add_dim ds e)
add_dim (DimTrees.Sized x ds) e = DimTrees.Sized x (add_dim ds e)

abbrev pub add_obj : ObjTrees → ObjTree → ObjTrees
add_obj ObjTrees.NoDeclarators o = ObjTrees.Declarator o ObjTrees.NoDeclarators
add_obj (ObjTrees.Declarator x os) o = ObjTrees.Declarator x (add_obj os o)

abbrev pub add_member : MemberTrees → SpecTree → ObjTrees → MemberTrees
add_member MemberTrees.NoMembers s names = MemberTrees.MemberLine s names MemberTrees.NoMembers
add_member (MemberTrees.MemberLine t others ms) s names = MemberTrees.MemberLine t others (add_member ms s names)

-- a mark with the sign at q
abbrev pub at_sign : Mark → (q : ℕ) → Mark
at_sign m q = record { first = m.first; at = q; line = m.line }
