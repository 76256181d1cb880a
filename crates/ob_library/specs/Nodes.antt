-- The nodes of the library's trees: every place is the greatest of a token's places, every line 0.
use Rattle.std.specs.Prelude.{ℕ, ℤ, pos, List, [], ◌∷◌, false, Some}
use Rattle.ob_words.specs.declared.types.IntType.TheVariants as int
use Rattle.ob_tree.specs.declared.tokens.Keyword.{Keyword}
use Rattle.ob_tree.specs.declared.tokens.Keyword.TheVariants as word
use Rattle.ob_tree.specs.declared.tokens.Sign.{Sign}
use Rattle.ob_tree.specs.declared.tokens.Sign.TheVariants as sign
use Rattle.ob_tree.specs.Trees.{Mark, Infix, ExprTree, ExprTrees, TypeTree, SpecTree, ObjTree, ObjTrees, DimTrees}
use Rattle.ob_tree.specs.Programs.{LocalTree, StartTree, StmtTree, BlockTrees, ParamTree, ParamsTree, ItemTree}
use Rattle.ob_library.specs.declared.types.Base.{Base}
use Rattle.ob_library.specs.declared.types.Base.TheVariants as base

abbrev pub no_place : ℕ
no_place = 4294967295

abbrev pub nowhere : Mark
nowhere = record { first = no_place; at = no_place; line = 0 }

-- ---- expressions

abbrev pub named : (name : List ℕ) → ExprTree
named x = ExprTree.Name nowhere x

abbrev pub number : (value : ℤ) → ExprTree
number v = ExprTree.Number nowhere v int.Int

abbrev pub string : (text : List ℕ) → ExprTree
string t = ExprTree.Str nowhere (t ∷ [])

abbrev pub paren : ExprTree → ExprTree
paren e = ExprTree.Paren nowhere e

abbrev pub index : (array place : ExprTree) → ExprTree
index a i = ExprTree.Index nowhere a i

abbrev pub binary : Sign → (left right : ExprTree) → ExprTree
binary s l r = ExprTree.Join nowhere (Infix.Binary s) l r

abbrev pub assign : (left right : ExprTree) → ExprTree
assign l r = ExprTree.Join nowhere (Infix.Assign sign.Assign) l r

abbrev pub conditional : (test then other : ExprTree) → ExprTree
conditional c x y = ExprTree.Cond nowhere c x y

abbrev pub call_one : (name : List ℕ) → ExprTree → ExprTree
call_one f e = ExprTree.Call nowhere f (ExprTrees.Argument e ExprTrees.NoArguments)

abbrev pub call_two : (name : List ℕ) → (first second : ExprTree) → ExprTree
call_two f x y = ExprTree.Call nowhere f (ExprTrees.Argument x (ExprTrees.Argument y ExprTrees.NoArguments))

-- ---- types

abbrev pub integer : List Keyword → SpecTree
integer words = SpecTree.Integer no_place words

abbrev pub base_tree : Base → SpecTree
base_tree base.Void = SpecTree.Void no_place
base_tree base.Size = SpecTree.SizeT no_place
base_tree base.Char = integer (word.Char ∷ [])
base_tree base.UnsignedChar = integer (word.Unsigned ∷ (word.Char ∷ []))
base_tree base.Int = integer (word.Int ∷ [])
base_tree base.Long = integer (word.Long ∷ [])
base_tree base.UnsignedLong = integer (word.Unsigned ∷ (word.Long ∷ []))

abbrev pub cast : Base → ExprTree → ExprTree
cast b e = ExprTree.Cast nowhere (TypeTree.TypeName (base_tree b) 0 DimTrees.NoDims) e

-- ---- expressions of names

-- `array[place]`
abbrev pub element : (array place : List ℕ) → ExprTree
element a i = index (named a) (named i)

-- `left sign right`
abbrev pub of_names : (left : List ℕ) → Sign → (right : List ℕ) → ExprTree
of_names x s y = binary s (named x) (named y)

-- `name sign number`
abbrev pub with_number : (name : List ℕ) → Sign → ℤ → ExprTree
with_number x s v = binary s (named x) (number v)

-- `array[place] sign number`
abbrev pub element_with : (array place : List ℕ) → Sign → ℤ → ExprTree
element_with a i s v = binary s (element a i) (number v)

-- `name = value`
abbrev pub set_to : (name : List ℕ) → ExprTree → ExprTree
set_to x e = assign (named x) e

-- `name = name sign number`
abbrev pub moved : (name : List ℕ) → Sign → ℤ → ExprTree
moved x s v = set_to x (with_number x s v)

-- ---- statements

abbrev pub expr_stmt : ExprTree → StmtTree
expr_stmt e = StmtTree.Expr no_place 0 (Some e)

abbrev pub block : BlockTrees → StmtTree
block items = StmtTree.Block no_place 0 items

abbrev pub while_stmt : ExprTree → StmtTree → StmtTree
while_stmt c s = StmtTree.While no_place 0 c s

abbrev pub do_stmt : StmtTree → ExprTree → StmtTree
do_stmt s c = StmtTree.Do no_place 0 s c

abbrev pub for_stmt : (start test next : ExprTree) → StmtTree → StmtTree
for_stmt i c n s = StmtTree.For no_place 0 (StartTree.Expr (Some i)) (Some c) (Some n) s

abbrev pub if_stmt : ExprTree → StmtTree → StmtTree
if_stmt c s = StmtTree.If no_place 0 c s

abbrev pub if_else_stmt : ExprTree → (then other : StmtTree) → StmtTree
if_else_stmt c s t = StmtTree.IfElse no_place 0 c s t

abbrev pub return_stmt : ExprTree → StmtTree
return_stmt e = StmtTree.Return no_place 0 (Some e)

-- `name = name sign number;`
abbrev pub step : (name : List ℕ) → Sign → ℤ → StmtTree
step x s v = expr_stmt (moved x s v)

-- `name = number;`
abbrev pub set_number : (name : List ℕ) → ℤ → StmtTree
set_number x v = expr_stmt (set_to x (number v))

-- `left = right;`
abbrev pub set_name : (left right : List ℕ) → StmtTree
set_name x y = expr_stmt (set_to x (named y))

-- `while (array[place]) place = place + 1;`
abbrev pub scan : (array place : List ℕ) → StmtTree
scan a i = while_stmt (element a i) (step i sign.Plus (pos 1))

-- ---- declarations and functions

abbrev pub local : Base → ObjTree → LocalTree
local b o = record {
  first = no_place;
  line = 0;
  fixed = false;
  spec = base_tree b;
  names = ObjTrees.Declarator o ObjTrees.NoDeclarators;
}

-- `type *..name;`
abbrev pub variable : Base → (stars : ℕ) → (name : List ℕ) → LocalTree
variable b n x = local b (ObjTree.Bare n x no_place DimTrees.NoDims)

-- `type name[length];`
abbrev pub array : Base → (name : List ℕ) → (length : ℤ) → LocalTree
array b x v = local b (ObjTree.Bare 0 x no_place (DimTrees.Sized (number v) DimTrees.NoDims))

abbrev pub param : Base → (stars : ℕ) → (name : List ℕ) → ParamTree
param b n x = record {
  first = no_place;
  line = 0;
  spec = base_tree b;
  stars = n;
  name = Some x;
  at = no_place;
  dims = DimTrees.NoDims;
}

abbrev pub function : Base → (stars : ℕ) → (name : List ℕ) → List ParamTree → BlockTrees → ItemTree
function b n x ps items = ItemTree.Function no_place 0 false (base_tree b) n x no_place (ParamsTree.Listed ps) (block items)
