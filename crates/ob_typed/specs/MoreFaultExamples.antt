-- More programs with a fault.
use Rattle.std.specs.Prelude.{pos, false, Some, [], ◌∷◌}
use Rattle.ob_words.specs.declared.types.IntType.TheVariants as int
use Rattle.ob_tree.specs.declared.tokens.Keyword.TheVariants as word
use Rattle.ob_tree.specs.declared.tokens.Sign.TheVariants as sign
use Rattle.ob_tree.specs.Trees.{ExprTree as tree, ExprTrees as trees, SpecTree as spec, MemberTrees as members, ObjTree as declarator, ObjTrees as declarators, DimTrees as dims, InitTree as init, InitTrees as inits, Infix as joint}
use Rattle.ob_tree.specs.Programs.{ProgramTree}
use Rattle.ob_tree.specs.Programs.{StmtTree as source, BlockTrees as items, ParamsTree as params, FileTree as file, ItemTree as item}
use Rattle.ob_typed.specs.Examples.{mark, param}
use Rattle.ob_typed.specs.Faults.{no_place}

-- A list for a number.
--     int x = {1};
abbrev pub list_for_number : ProgramTree
list_for_number =
    ((item.Decls 0 1 false
    (spec.Integer 0 (word.Int ∷ []))
    ((file.Object
    (declarator.Initial 0 (120 ∷ []) 1 dims.NoDims
    (init.Braces 3 (inits.Item (init.Value (tree.Number (mark 4 4 1) (pos 1) int.Int)) inits.NoItems) false)))
    ∷ []))
    ∷ [])

-- A call of an object.
--     void f(int x){x();}
abbrev pub called_object : ProgramTree
called_object =
    ((item.Function 0 1 false (spec.Void 0) 0 (102 ∷ []) 1
    (params.Listed ((param 3 1 (spec.Integer 3 (word.Int ∷ [])) 0 (Some (120 ∷ [])) 4 dims.NoDims) ∷ []))
    (source.Block 6 1
    (items.Statement (source.Expr 7 1 (Some (tree.Call (mark 7 7 1) (120 ∷ []) trees.NoArguments))) items.NoItems)))
    ∷ [])

-- A function's name that isn't called.
--     int x = putchar;
abbrev pub function_as_value : ProgramTree
function_as_value =
    ((item.Decls 0 1 false
    (spec.Integer 0 (word.Int ∷ []))
    ((file.Object
    (declarator.Initial 0 (120 ∷ []) 1 dims.NoDims
    (init.Value (tree.Name (mark 3 3 1) (112 ∷ 117 ∷ 116 ∷ 99 ∷ 104 ∷ 97 ∷ 114 ∷ [])))))
    ∷ []))
    ∷ [])

-- A member of an `int`.
--     void f(int x){x.a;}
abbrev pub member_of_int : ProgramTree
member_of_int =
    ((item.Function 0 1 false (spec.Void 0) 0 (102 ∷ []) 1
    (params.Listed ((param 3 1 (spec.Integer 3 (word.Int ∷ [])) 0 (Some (120 ∷ [])) 4 dims.NoDims) ∷ []))
    (source.Block 6 1
    (items.Statement
    (source.Expr 7 1 (Some (tree.Member (mark 7 8 1) (tree.Name (mark 7 7 1) (120 ∷ [])) (97 ∷ []))))
    items.NoItems)))
    ∷ [])

-- An array of no elements.
--     int a[0];
abbrev pub no_elements : ProgramTree
no_elements =
    ((item.Decls 0 1 false
    (spec.Integer 0 (word.Int ∷ []))
    ((file.Object
    (declarator.Bare 0 (97 ∷ []) 1 (dims.Sized (tree.Number (mark 3 3 1) (pos 0) int.Int) dims.NoDims)))
    ∷ []))
    ∷ [])

-- A length that divides by zero.
--     int a[1 / 0];
abbrev pub length_divides : ProgramTree
length_divides =
    ((item.Decls 0 1 false
    (spec.Integer 0 (word.Int ∷ []))
    ((file.Object
    (declarator.Bare 0 (97 ∷ []) 1
    (dims.Sized
    (tree.Join (mark 3 4 1) (joint.Binary sign.Slash)
    (tree.Number (mark 3 3 1) (pos 1) int.Int)
    (tree.Number (mark 5 5 1) (pos 0) int.Int))
    dims.NoDims)))
    ∷ []))
    ∷ [])

-- An array of too many bytes.
--     char a[4194305];
abbrev pub great_array : ProgramTree
great_array =
    ((item.Decls 0 1 false
    (spec.Integer 0 (word.Char ∷ []))
    ((file.Object
    (declarator.Bare 0 (97 ∷ []) 1 (dims.Sized (tree.Number (mark 3 3 1) (pos 4194305) int.Int) dims.NoDims)))
    ∷ []))
    ∷ [])

-- A static object with a value that is no constant.
--     int x; int y = x;
abbrev pub variable_value : ProgramTree
variable_value =
    ((item.Decls 0 1 false
    (spec.Integer 0 (word.Int ∷ []))
    ((file.Object (declarator.Bare 0 (120 ∷ []) 1 dims.NoDims)) ∷ []))
    ∷ (item.Decls 3 1 false
    (spec.Integer 3 (word.Int ∷ []))
    ((file.Object
    (declarator.Initial 0 (121 ∷ []) 4 dims.NoDims (init.Value (tree.Name (mark 6 6 1) (120 ∷ [])))))
    ∷ []))
    ∷ [])

-- A `break` outside a loop.
--     void f(void){break;}
abbrev pub break_alone : ProgramTree
break_alone =
    ((item.Function 0 1 false (spec.Void 0) 0 (102 ∷ []) 1 params.Void
    (source.Block 5 1 (items.Statement (source.Break 6 1) items.NoItems)))
    ∷ [])

-- A value in a function of type `void`.
--     void f(void){return 1;}
abbrev pub value_of_void : ProgramTree
value_of_void =
    ((item.Function 0 1 false (spec.Void 0) 0 (102 ∷ []) 1 params.Void
    (source.Block 5 1
    (items.Statement (source.Return 6 1 (Some (tree.Number (mark 7 7 1) (pos 1) int.Int))) items.NoItems)))
    ∷ [])

-- A program without `main`.
--     int x;
abbrev pub no_main : ProgramTree
no_main =
    ((item.Decls 0 1 false
    (spec.Integer 0 (word.Int ∷ []))
    ((file.Object (declarator.Bare 0 (120 ∷ []) 1 dims.NoDims)) ∷ []))
    ∷ [])

-- A `main` that is no `int`.
--     char main(void){}
abbrev pub main_of_char : ProgramTree
main_of_char =
    ((item.Function 0 1 false
    (spec.Integer 0 (word.Char ∷ []))
    0
    (109 ∷ 97 ∷ 105 ∷ 110 ∷ [])
    1
    params.Void
    (source.Block 5 1 items.NoItems))
    ∷ [])

-- A called function without a body.
--     int f(void); int main(void){return f();}
abbrev pub called_without_body : ProgramTree
called_without_body =
    ((item.Decls 0 1 false (spec.Integer 0 (word.Int ∷ [])) ((file.Function 0 (102 ∷ []) 1 params.Void) ∷ []))
    ∷ (item.Function 6 1 false
    (spec.Integer 6 (word.Int ∷ []))
    0
    (109 ∷ 97 ∷ 105 ∷ 110 ∷ [])
    7
    params.Void
    (source.Block 11 1
    (items.Statement
    (source.Return 12 1 (Some (tree.Call (mark 13 13 1) (102 ∷ []) trees.NoArguments)))
    items.NoItems)))
    ∷ [])

-- Two member lists of one tag, the second within the first.
--     struct s {struct s {int a;} x; int b;} y;
abbrev pub nested_lists : ProgramTree
nested_lists =
    ((item.Decls 0 1 false
    (spec.Struct 0 (Some (115 ∷ []))
    (members.MemberLine
    (spec.Struct 3 (Some (115 ∷ []))
    (members.MemberLine
    (spec.Integer 6 (word.Int ∷ []))
    (declarators.Declarator (declarator.Bare 0 (97 ∷ []) 7 dims.NoDims) declarators.NoDeclarators)
    members.NoMembers))
    (declarators.Declarator (declarator.Bare 0 (120 ∷ []) 10 dims.NoDims) declarators.NoDeclarators)
    (members.MemberLine
    (spec.Integer 12 (word.Int ∷ []))
    (declarators.Declarator (declarator.Bare 0 (98 ∷ []) 13 dims.NoDims) declarators.NoDeclarators)
    members.NoMembers)))
    ((file.Object (declarator.Bare 0 (121 ∷ []) 16 dims.NoDims)) ∷ []))
    ∷ [])

-- A member that there isn't, in a tree without places.
--     void f(int x){x.a;}
abbrev pub member_without_place : ProgramTree
member_without_place =
    ((item.Function 0 1 false (spec.Void 0) 0 (102 ∷ []) 1
    (params.Listed ((param 3 1 (spec.Integer 3 (word.Int ∷ [])) 0 (Some (120 ∷ [])) 4 dims.NoDims) ∷ []))
    (source.Block 6 1
    (items.Statement
    (source.Expr no_place 0 (Some (tree.Member (mark no_place no_place 0) (tree.Name (mark no_place no_place 0) (120 ∷ [])) (97 ∷ []))))
    items.NoItems)))
    ∷ [])
