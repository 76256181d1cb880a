-- Small programs, valid and not, as the grammar's definitions decide them.
use Rattle.std.proofs.Common.{◌≡◌, ℕ, List, [], ◌∷◌, true, false, Bool, Option, None, Some, refl, arith}
use Rattle.std.specs.Prelude.{codes, ◌+◌}
use Rattle.ob_tree.specs.declared.tokens.Keyword.TheVariants as word
use Rattle.ob_tree.specs.Bytes.{is_letter, is_name_byte}
use Rattle.ob_tree.specs.Trees.{ExprTree, SpecTree, MemberTrees, ObjTree, ObjTrees, DimTrees, InitTree, InitTrees}
use Rattle.ob_tree.specs.Programs.{LocalTree, StartTree, StmtTree, BlockTrees, ParamTree, ParamsTree, FileTree, ItemTree}
use Rattle.ob_tree.specs.Valid.{ValidName}
use Rattle.ob_tree.specs.ProgramValid.{ValidLocal, ValidStart, ValidStmt, ValidParams, ValidItem, ValidProgram}
use Rattle.ob_tree.specs.ProgramPlaces.{place_program}
use Rattle.ob_tree.specs.ProgramPaths.{begun_program, height_program}

abbrev null : ExprTree
null = ExprTree.Null (record { first = 0; at = 0; line = 0 })

abbrev int : SpecTree
int = SpecTree.Integer 0 (word.Int ∷ [])

abbrev f : List ℕ
f = codes "f"

is_name : ValidName f
unfolding is_letter is_name_byte
is_name = (refl, omega arith)

abbrev empty : StmtTree
empty = StmtTree.Expr 0 0 None

abbrev short : StmtTree
short = StmtTree.If 0 0 null empty

abbrev block : BlockTrees → StmtTree
block items = StmtTree.Block 0 0 items

-- an `else` belongs to the nearest `if`: `if (NULL) if (NULL) ; else ;` has it inside, and braces keep it outside
inner_else : ValidStmt (StmtTree.If 0 0 null (StmtTree.IfElse 0 0 null empty empty))
inner_else = (tt, (tt, tt, refl, tt))

outer_else : ValidStmt (StmtTree.IfElse 0 0 null short empty) → ⊥
outer_else v = let e : true ≡ false = v.2 in cc

else_behind_while : ValidStmt (StmtTree.IfElse 0 0 null (StmtTree.While 0 0 null short) empty) → ⊥
else_behind_while v = let e : true ≡ false = v.2 in cc

else_behind_block : ValidStmt (StmtTree.IfElse 0 0 null (block (BlockTrees.Statement short BlockTrees.NoItems)) empty)
else_behind_block = (tt, ((tt, tt), tt), refl, tt)

else_behind_do : ValidStmt (StmtTree.IfElse 0 0 null (StmtTree.Do 0 0 short null) empty)
else_behind_do = (tt, ((tt, tt), tt), refl, tt)

-- `int f`, with these brackets
abbrev named : DimTrees → ObjTrees
named ds = ObjTrees.Declarator (ObjTree.Bare 0 f 0 ds) ObjTrees.NoDeclarators

abbrev local : Bool → SpecTree → ObjTrees → LocalTree
local fixed s names = record { first = 0; line = 0; fixed = fixed; spec = s; names = names }

-- `for (int f; ; ) ;`, and `static` isn't allowed there
for_local : ValidStmt (StmtTree.For 0 0 (StartTree.Local (local false int (named DimTrees.NoDims))) None None empty)
for_local = ((refl, (refl, ((is_name, tt), tt))), tt, tt, tt)

for_static : ValidStart (StartTree.Local (local true int (named DimTrees.NoDims))) → ⊥
for_static v = let e : true ≡ false = v.0 in cc

-- `struct f;` declares a tag; `int;` and `struct { int f; };` declare nothing
tag_alone : ValidLocal (local true (SpecTree.Tag 0 f) ObjTrees.NoDeclarators)
tag_alone = (is_name, tt)

int_alone : ValidLocal (local false int ObjTrees.NoDeclarators) → ⊥
int_alone v = v.1

structure_alone : ValidLocal (local false (SpecTree.Struct 0 None (MemberTrees.MemberLine int (named DimTrees.NoDims) MemberTrees.NoMembers)) ObjTrees.NoDeclarators) → ⊥
structure_alone v = v.1

-- `int f[] = {NULL};` has a length, `int f[];` has none
length_given : ValidLocal (local false int (ObjTrees.Declarator (ObjTree.Initial 0 f 0 (DimTrees.Unsized DimTrees.NoDims) (InitTree.Braces 0 (InitTrees.Item (InitTree.Value null) InitTrees.NoItems) false)) ObjTrees.NoDeclarators))
length_given = (refl, ((is_name, tt, (tt, ((tt, omega arith), tt))), tt))

length_missing : ValidLocal (local false int (named (DimTrees.Unsized DimTrees.NoDims))) → ⊥
length_missing v = v.1.0.1

abbrev param : SpecTree → Option (List ℕ) → DimTrees → ParamTree
param s name ds = record { first = 0; line = 0; spec = s; stars = 0; name = name; at = 0; dims = ds }

-- `(void)` has no parameter, `(void, int)` has two, `(int f[])` has one
void_alone : ValidParams (ParamsTree.Listed (param (SpecTree.Void 0) None DimTrees.NoDims ∷ [])) → ⊥
void_alone v = let e : true ≡ false = v.0 in cc

void_first : ValidParams (ParamsTree.Listed (param (SpecTree.Void 0) None DimTrees.NoDims ∷ (param int None DimTrees.NoDims ∷ [])))
void_first = ((tt, tt, tt), (refl, tt, tt), tt)

array_param : ValidParams (ParamsTree.Listed (param int (Some f) (DimTrees.Unsized DimTrees.NoDims) ∷ []))
array_param = (refl, (refl, is_name, tt))

abbrev function : ParamsTree → ItemTree
function ps =
    ItemTree.Function 0 0 false int 0 f 0 ps (block (BlockTrees.Statement (StmtTree.Return 0 0 (Some null)) BlockTrees.NoItems))

-- `int f(void){return NULL;}`
valid_function : ValidProgram (function ParamsTree.Void ∷ [])
valid_function = ((refl, is_name, tt, tt, tt, (tt, tt)), tt)

-- a function with a body names its parameters; one without needn't
unnamed_with_body : ValidItem (function (ParamsTree.Listed (param int None DimTrees.NoDims ∷ []))) → ⊥
unnamed_with_body v = v.3.0

unnamed_without_body : ValidItem (ItemTree.Decls 0 0 false int (FileTree.Function 0 f 0 (ParamsTree.Listed (param int None DimTrees.NoDims ∷ [])) ∷ []))
unnamed_without_body = (refl, ((is_name, (refl, (refl, tt, tt))), tt))

-- no program is empty
empty_program : ValidProgram [] → ⊥
empty_program v = v

-- the name of `int f(void){return NULL;}` stands at 1, its body at 5, `return` at 6 and `NULL` at 7
place_function : place_program (λ p. 10 + p) 0 (function ParamsTree.Void ∷ []) ≡
    ItemTree.Function 0 10 false int 0 f 1 ParamsTree.Void (
    StmtTree.Block 5 15 (BlockTrees.Statement (StmtTree.Return 6 16 (Some (ExprTree.Null (record { first = 7; at = 7; line = 17 })))) BlockTrees.NoItems)
    ) ∷ []
place_function = refl

-- its nodes begin with the tokens 1, 6, 7 and 8
begun_at_first : begun_program (function ParamsTree.Void ∷ []) 1 ≡ 1
begun_at_first = refl

begun_before_body : begun_program (function ParamsTree.Void ∷ []) 5 ≡ 1
begun_before_body = refl

begun_in_body : begun_program (function ParamsTree.Void ∷ []) 7 ≡ 3
begun_in_body = refl

all_begun : begun_program (function ParamsTree.Void ∷ []) 8 ≡ 4
all_begun = refl

whole_height : height_program (function ParamsTree.Void ∷ []) ≡ 4
whole_height = refl
