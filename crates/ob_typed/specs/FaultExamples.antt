-- Programs with a fault of names, types or values.
use Rattle.std.specs.Prelude.{pos, false, Some, [], ◌∷◌}
use Rattle.ob_words.specs.declared.types.IntType.TheVariants as int
use Rattle.ob_tree.specs.declared.tokens.Keyword.TheVariants as word
use Rattle.ob_tree.specs.declared.tokens.Sign.TheVariants as sign
use Rattle.ob_tree.specs.Trees.{ExprTree as tree, ExprTrees as trees, TypeTree as named, SpecTree as spec, MemberTrees as members, ObjTree as declarator, ObjTrees as declarators, DimTrees as dims, InitTree as init, InitTrees as inits, Infix as joint}
use Rattle.ob_tree.specs.Programs.{ProgramTree}
use Rattle.ob_tree.specs.Programs.{StmtTree as source, BlockTrees as items, ParamsTree as params, FileTree as file, ItemTree as item}
use Rattle.ob_typed.specs.Examples.{mark, param, local}

-- A name that isn't declared.
--     int main(void){return x;}
abbrev pub undeclared_name : ProgramTree
undeclared_name =
    ((item.Function 0 1 false
    (spec.Integer 0 (word.Int ∷ []))
    0
    (109 ∷ 97 ∷ 105 ∷ 110 ∷ [])
    1
    params.Void
    (source.Block 5 1
    (items.Statement (source.Return 6 1 (Some (tree.Name (mark 7 7 1) (120 ∷ [])))) items.NoItems)))
    ∷ [])

-- A fault of a part comes before that of the whole, which multiplies a pointer.
--     void f(int *p){p * q;}
abbrev pub parts_first : ProgramTree
parts_first =
    ((item.Function 0 1 false (spec.Void 0) 0 (102 ∷ []) 1
    (params.Listed ((param 3 1 (spec.Integer 3 (word.Int ∷ [])) 1 (Some (112 ∷ [])) 5 dims.NoDims) ∷ []))
    (source.Block 7 1
    (items.Statement
    (source.Expr 8 1
    (Some
    (tree.Join (mark 8 9 1) (joint.Binary sign.Star)
    (tree.Name (mark 8 8 1) (112 ∷ []))
    (tree.Name (mark 10 10 1) (113 ∷ [])))))
    items.NoItems)))
    ∷ [])

-- Two objects of a name at file scope.
--     int x; int x;
abbrev pub two_objects : ProgramTree
two_objects =
    ((item.Decls 0 1 false
    (spec.Integer 0 (word.Int ∷ []))
    ((file.Object (declarator.Bare 0 (120 ∷ []) 1 dims.NoDims)) ∷ []))
    ∷ (item.Decls 3 1 false
    (spec.Integer 3 (word.Int ∷ []))
    ((file.Object (declarator.Bare 0 (120 ∷ []) 4 dims.NoDims)) ∷ []))
    ∷ [])

-- Two members of a name.
--     struct s {int a; int a;};
abbrev pub two_members : ProgramTree
two_members =
    ((item.Decls 0 1 false
    (spec.Struct 0 (Some (115 ∷ []))
    (members.MemberLine
    (spec.Integer 3 (word.Int ∷ []))
    (declarators.Declarator (declarator.Bare 0 (97 ∷ []) 4 dims.NoDims) declarators.NoDeclarators)
    (members.MemberLine
    (spec.Integer 6 (word.Int ∷ []))
    (declarators.Declarator (declarator.Bare 0 (97 ∷ []) 7 dims.NoDims) declarators.NoDeclarators)
    members.NoMembers)))
    [])
    ∷ [])

-- A body of a built-in function.
--     int putchar(int c){}
abbrev pub own_putchar : ProgramTree
own_putchar =
    ((item.Function 0 1 false
    (spec.Integer 0 (word.Int ∷ []))
    0
    (112 ∷ 117 ∷ 116 ∷ 99 ∷ 104 ∷ 97 ∷ 114 ∷ [])
    1
    (params.Listed ((param 3 1 (spec.Integer 3 (word.Int ∷ [])) 0 (Some (99 ∷ [])) 4 dims.NoDims) ∷ []))
    (source.Block 6 1 items.NoItems))
    ∷ [])

-- An object of type `void`.
--     void x;
abbrev pub void_object : ProgramTree
void_object =
    ((item.Decls 0 1 false (spec.Void 0) ((file.Object (declarator.Bare 0 (120 ∷ []) 1 dims.NoDims)) ∷ [])) ∷ [])

-- A structure that holds itself.
--     struct s {struct s n;};
abbrev pub endless_structure : ProgramTree
endless_structure =
    ((item.Decls 0 1 false
    (spec.Struct 0 (Some (115 ∷ []))
    (members.MemberLine (spec.Tag 3 (115 ∷ []))
    (declarators.Declarator (declarator.Bare 0 (110 ∷ []) 5 dims.NoDims) declarators.NoDeclarators)
    members.NoMembers))
    [])
    ∷ [])

-- The size of `void`.
--     int n = sizeof(void);
abbrev pub size_of_void : ProgramTree
size_of_void =
    ((item.Decls 0 1 false
    (spec.Integer 0 (word.Int ∷ []))
    ((file.Object
    (declarator.Initial 0 (110 ∷ []) 1 dims.NoDims
    (init.Value (tree.SizeType (mark 3 3 1) (named.TypeName (spec.Void 5) 0 dims.NoDims)))))
    ∷ []))
    ∷ [])

-- An assignment to a number.
--     void f(void){1 = 2;}
abbrev pub number_assigned : ProgramTree
number_assigned =
    ((item.Function 0 1 false (spec.Void 0) 0 (102 ∷ []) 1 params.Void
    (source.Block 5 1
    (items.Statement
    (source.Expr 6 1
    (Some
    (tree.Join (mark 6 7 1) (joint.Assign sign.Assign)
    (tree.Number (mark 6 6 1) (pos 1) int.Int)
    (tree.Number (mark 8 8 1) (pos 2) int.Int))))
    items.NoItems)))
    ∷ [])

-- An assignment to an array.
--     void f(void){int a[2]; a = 0;}
abbrev pub array_assigned : ProgramTree
array_assigned =
    ((item.Function 0 1 false (spec.Void 0) 0 (102 ∷ []) 1 params.Void
    (source.Block 5 1
    (items.Declaration
    (local 6 1 false
    (spec.Integer 6 (word.Int ∷ []))
    (declarators.Declarator
    (declarator.Bare 0 (97 ∷ []) 7 (dims.Sized (tree.Number (mark 9 9 1) (pos 2) int.Int) dims.NoDims))
    declarators.NoDeclarators))
    (items.Statement
    (source.Expr 12 1
    (Some
    (tree.Join (mark 12 13 1) (joint.Assign sign.Assign)
    (tree.Name (mark 12 12 1) (97 ∷ []))
    (tree.Number (mark 14 14 1) (pos 0) int.Int))))
    items.NoItems))))
    ∷ [])

-- A product with a pointer.
--     void f(int *p){p * 2;}
abbrev pub pointer_times : ProgramTree
pointer_times =
    ((item.Function 0 1 false (spec.Void 0) 0 (102 ∷ []) 1
    (params.Listed ((param 3 1 (spec.Integer 3 (word.Int ∷ [])) 1 (Some (112 ∷ [])) 5 dims.NoDims) ∷ []))
    (source.Block 7 1
    (items.Statement
    (source.Expr 8 1
    (Some
    (tree.Join (mark 8 9 1) (joint.Binary sign.Star)
    (tree.Name (mark 8 8 1) (112 ∷ []))
    (tree.Number (mark 10 10 1) (pos 2) int.Int))))
    items.NoItems)))
    ∷ [])

-- What a pointer to `void` points to.
--     void f(void *p){*p;}
abbrev pub void_pointed_to : ProgramTree
void_pointed_to =
    ((item.Function 0 1 false (spec.Void 0) 0 (102 ∷ []) 1
    (params.Listed ((param 3 1 (spec.Void 3) 1 (Some (112 ∷ [])) 5 dims.NoDims) ∷ []))
    (source.Block 7 1
    (items.Statement
    (source.Expr 8 1 (Some (tree.Unary (mark 8 8 1) sign.Star (tree.Name (mark 9 9 1) (112 ∷ [])))))
    items.NoItems)))
    ∷ [])

-- A number that is no null pointer constant, for a pointer.
--     int *p = 5;
abbrev pub number_for_pointer : ProgramTree
number_for_pointer =
    ((item.Decls 0 1 false
    (spec.Integer 0 (word.Int ∷ []))
    ((file.Object
    (declarator.Initial 1 (112 ∷ []) 2 dims.NoDims (init.Value (tree.Number (mark 4 4 1) (pos 5) int.Int))))
    ∷ []))
    ∷ [])

-- A pointer for an element of type `char`.
--     char a[3] = {"ab"};
abbrev pub string_in_braces : ProgramTree
string_in_braces =
    ((item.Decls 0 1 false
    (spec.Integer 0 (word.Char ∷ []))
    ((file.Object
    (declarator.Initial 0 (97 ∷ []) 1
    (dims.Sized (tree.Number (mark 3 3 1) (pos 3) int.Int) dims.NoDims)
    (init.Braces 6
    (inits.Item (init.Value (tree.Str (mark 7 7 1) ((97 ∷ 98 ∷ []) ∷ []))) inits.NoItems)
    false)))
    ∷ []))
    ∷ [])

-- A call with too few arguments.
--     void f(void){putchar();}
abbrev pub no_argument : ProgramTree
no_argument =
    ((item.Function 0 1 false (spec.Void 0) 0 (102 ∷ []) 1 params.Void
    (source.Block 5 1
    (items.Statement
    (source.Expr 6 1
    (Some (tree.Call (mark 6 6 1) (112 ∷ 117 ∷ 116 ∷ 99 ∷ 104 ∷ 97 ∷ 114 ∷ []) trees.NoArguments)))
    items.NoItems)))
    ∷ [])

-- An item past the end of an array.
--     int a[2] = {1, 2, 3};
abbrev pub third_item : ProgramTree
third_item =
    ((item.Decls 0 1 false
    (spec.Integer 0 (word.Int ∷ []))
    ((file.Object
    (declarator.Initial 0 (97 ∷ []) 1
    (dims.Sized (tree.Number (mark 3 3 1) (pos 2) int.Int) dims.NoDims)
    (init.Braces 6
    (inits.Item
    (init.Value (tree.Number (mark 7 7 1) (pos 1) int.Int))
    (inits.Item
    (init.Value (tree.Number (mark 9 9 1) (pos 2) int.Int))
    (inits.Item (init.Value (tree.Number (mark 11 11 1) (pos 3) int.Int)) inits.NoItems)))
    false)))
    ∷ []))
    ∷ [])

-- A string that is too long.
--     char a[2] = "abc";
abbrev pub long_string : ProgramTree
long_string =
    ((item.Decls 0 1 false
    (spec.Integer 0 (word.Char ∷ []))
    ((file.Object
    (declarator.Initial 0 (97 ∷ []) 1
    (dims.Sized (tree.Number (mark 3 3 1) (pos 2) int.Int) dims.NoDims)
    (init.Value (tree.Str (mark 6 6 1) ((97 ∷ 98 ∷ 99 ∷ []) ∷ [])))))
    ∷ []))
    ∷ [])
