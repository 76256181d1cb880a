-- Programs that each show one fault. They came about at random, with the fault that another implementation of the rules found.
use Rattle.std.specs.Prelude.{ℕ, pos, negsuc, true, false, Some, None, [], ◌∷◌}
use Rattle.ob_words.specs.declared.types.IntType.TheVariants as int
use Rattle.ob_tree.specs.declared.tokens.Keyword.TheVariants as word
use Rattle.ob_tree.specs.declared.tokens.Sign.TheVariants as sign
use Rattle.ob_tree.specs.Trees.{ExprTree as tree, ExprTrees as trees, TypeTree as named, SpecTree as spec, MemberTrees as members, ObjTree as declarator, ObjTrees as declarators, DimTrees as dims, InitTree as init, Infix as joint}
use Rattle.ob_tree.specs.Programs.{ProgramTree}
use Rattle.ob_tree.specs.Programs.{StmtTree as source, BlockTrees as items, ParamsTree as params, FileTree as file, ItemTree as item}
use Rattle.ob_typed.specs.Examples.{mark, param, local}

-- A comma operator is no constant.
--     unsigned long v6=(sizeof "y",2); int main(void){*"d";}
abbrev pub comma_for_static : ProgramTree
comma_for_static = ((item.Decls 0 1 false (spec.Integer 0 (word.Unsigned ∷ word.Long ∷ [])) ((file.Object (declarator.Initial 0 (118 ∷ 54 ∷ []) 2 dims.NoDims (init.Value (tree.Paren (mark 4 4 1) (tree.Join (mark 5 7 1) joint.Comma (tree.SizeExpr (mark 5 5 1) (tree.Str (mark 6 6 1) ((121 ∷ []) ∷ []))) (tree.Number (mark 8 8 1) (pos 2) int.Int)))))) ∷ [])) ∷ (item.Function 11 1 false (spec.Integer 11 (word.Int ∷ [])) 0 (109 ∷ 97 ∷ 105 ∷ 110 ∷ []) 12 params.Void (source.Block 16 1 (items.Statement (source.Expr 17 1 (Some (tree.Unary (mark 17 17 1) sign.Star (tree.Str (mark 18 18 1) ((100 ∷ []) ∷ []))))) items.NoItems))) ∷ [])

-- A sum of the null pointer and a number is no address constant.
--     char *x=(char*)0+4294967296; int main(void){sizeof(char[1048577]);}
abbrev pub null_and_number : ProgramTree
null_and_number = ((item.Decls 0 2 false (spec.Integer 0 (word.Char ∷ [])) ((file.Object (declarator.Initial 1 (120 ∷ []) 2 dims.NoDims (init.Value (tree.Join (mark 4 9 3) (joint.Binary sign.Plus) (tree.Cast (mark 4 4 3) (named.TypeName (spec.Integer 5 (word.Char ∷ [])) 1 dims.NoDims) (tree.Number (mark 8 8 4) (pos 0) int.Int)) (tree.Number (mark 10 10 4) (pos 4294967296) int.Long))))) ∷ [])) ∷ (item.Function 12 4 false (spec.Integer 12 (word.Int ∷ [])) 0 (109 ∷ 97 ∷ 105 ∷ 110 ∷ []) 13 params.Void (source.Block 17 5 (items.Statement (source.Expr 18 5 (Some (tree.SizeType (mark 18 18 5) (named.TypeName (spec.Integer 20 (word.Char ∷ [])) 0 (dims.Sized (tree.Number (mark 22 22 6) (pos 1048577) int.Int) dims.NoDims))))) items.NoItems))) ∷ [])

-- A function gives no structure, with a body or without.
--     struct T *p; struct T f(void); struct S{struct S *n; int a;} x; int main(void){p->a;}
abbrev pub structure_as_result : ProgramTree
structure_as_result = ((item.Decls 0 1 false (spec.Tag 0 (84 ∷ [])) ((file.Object (declarator.Bare 1 (112 ∷ []) 3 dims.NoDims)) ∷ [])) ∷ (item.Decls 5 1 false (spec.Tag 5 (84 ∷ [])) ((file.Function 0 (102 ∷ []) 7 params.Void) ∷ [])) ∷ (item.Decls 12 4 false (spec.Struct 12 (Some (83 ∷ [])) (members.MemberLine (spec.Tag 15 (83 ∷ [])) (declarators.Declarator (declarator.Bare 1 (110 ∷ []) 18 dims.NoDims) declarators.NoDeclarators) (members.MemberLine (spec.Integer 20 (word.Int ∷ [])) (declarators.Declarator (declarator.Bare 0 (97 ∷ []) 21 dims.NoDims) declarators.NoDeclarators) members.NoMembers))) ((file.Object (declarator.Bare 0 (120 ∷ []) 24 dims.NoDims)) ∷ [])) ∷ (item.Function 26 8 false (spec.Integer 26 (word.Int ∷ [])) 0 (109 ∷ 97 ∷ 105 ∷ 110 ∷ []) 27 params.Void (source.Block 31 8 (items.Statement (source.Expr 32 8 (Some (tree.Arrow (mark 32 33 8) (tree.Name (mark 32 32 8) (112 ∷ [])) (97 ∷ [])))) items.NoItems))) ∷ [])

-- Pointers to two structures are not compared.
--     int h(struct S *q,struct T *r){return q==r;} int main(void){q=p;}
abbrev pub pointers_to_two_structures : ProgramTree
pointers_to_two_structures = ((item.Function 0 1 false (spec.Integer 0 (word.Int ∷ [])) 0 (104 ∷ []) 1 (params.Listed ((param 3 1 (spec.Tag 3 (83 ∷ [])) 1 (Some (113 ∷ [])) 6 dims.NoDims) ∷ (param 8 1 (spec.Tag 8 (84 ∷ [])) 1 (Some (114 ∷ [])) 11 dims.NoDims) ∷ [])) (source.Block 13 1 (items.Statement (source.Return 14 1 (Some (tree.Join (mark 15 16 1) (joint.Binary sign.EqEq) (tree.Name (mark 15 15 1) (113 ∷ [])) (tree.Name (mark 17 17 1) (114 ∷ []))))) items.NoItems))) ∷ (item.Function 20 1 false (spec.Integer 20 (word.Int ∷ [])) 0 (109 ∷ 97 ∷ 105 ∷ 110 ∷ []) 21 params.Void (source.Block 25 1 (items.Statement (source.Expr 26 1 (Some (tree.Join (mark 26 27 1) (joint.Assign sign.Assign) (tree.Name (mark 26 26 1) (113 ∷ [])) (tree.Name (mark 28 28 1) (112 ∷ []))))) items.NoItems))) ∷ [])

-- A tag that is declared among parameters ends with the declarator: here are two structures, and two functions.
--     int g(struct S{int b;} *q); int g(struct S{int b;} *q); struct S y; int main(void){p->a; q=p;}
abbrev pub tag_in_parameters : ProgramTree
tag_in_parameters = ((item.Decls 0 2 false (spec.Integer 0 (word.Int ∷ [])) ((file.Function 0 (103 ∷ []) 1 (params.Listed ((param 3 3 (spec.Struct 3 (Some (83 ∷ [])) (members.MemberLine (spec.Integer 6 (word.Int ∷ [])) (declarators.Declarator (declarator.Bare 0 (98 ∷ []) 7 dims.NoDims) declarators.NoDeclarators) members.NoMembers)) 1 (Some (113 ∷ [])) 11 dims.NoDims) ∷ []))) ∷ [])) ∷ (item.Decls 14 11 false (spec.Integer 14 (word.Int ∷ [])) ((file.Function 0 (103 ∷ []) 15 (params.Listed ((param 17 13 (spec.Struct 17 (Some (83 ∷ [])) (members.MemberLine (spec.Integer 20 (word.Int ∷ [])) (declarators.Declarator (declarator.Bare 0 (98 ∷ []) 21 dims.NoDims) declarators.NoDeclarators) members.NoMembers)) 1 (Some (113 ∷ [])) 25 dims.NoDims) ∷ []))) ∷ [])) ∷ (item.Decls 28 13 false (spec.Tag 28 (83 ∷ [])) ((file.Object (declarator.Bare 0 (121 ∷ []) 30 dims.NoDims)) ∷ [])) ∷ (item.Function 32 15 false (spec.Integer 32 (word.Int ∷ [])) 0 (109 ∷ 97 ∷ 105 ∷ 110 ∷ []) 33 params.Void (source.Block 37 18 (items.Statement (source.Expr 38 18 (Some (tree.Arrow (mark 38 39 18) (tree.Name (mark 38 38 18) (112 ∷ [])) (97 ∷ [])))) (items.Statement (source.Expr 42 18 (Some (tree.Join (mark 42 43 18) (joint.Assign sign.Assign) (tree.Name (mark 42 42 18) (113 ∷ [])) (tree.Name (mark 44 44 19) (112 ∷ []))))) items.NoItems)))) ∷ [])

-- A tag in the controlling expression of an `if` is in force in both its statements, and a structure without members
-- makes no object.
--     struct S{int a;}; int main(void){
--         if(sizeof(struct S{char a;})){struct S w; w.a;} else {struct T w; w.a;}
--     }
abbrev pub tag_in_condition : ProgramTree
tag_in_condition = ((item.Decls 0 1 false (spec.Struct 0 (Some (83 ∷ [])) (members.MemberLine (spec.Integer 3 (word.Int ∷ [])) (declarators.Declarator (declarator.Bare 0 (97 ∷ []) 4 dims.NoDims) declarators.NoDeclarators) members.NoMembers)) ([])) ∷ (item.Function 8 3 false (spec.Integer 8 (word.Int ∷ [])) 0 (109 ∷ 97 ∷ 105 ∷ 110 ∷ []) 9 params.Void (source.Block 13 6 (items.Statement (source.IfElse 14 6 (tree.SizeType (mark 16 16 7) (named.TypeName (spec.Struct 18 (Some (83 ∷ [])) (members.MemberLine (spec.Integer 21 (word.Char ∷ [])) (declarators.Declarator (declarator.Bare 0 (97 ∷ []) 22 dims.NoDims) declarators.NoDeclarators) members.NoMembers)) 0 dims.NoDims)) (source.Block 27 10 (items.Declaration (local 28 10 false (spec.Tag 28 (83 ∷ [])) (declarators.Declarator (declarator.Bare 0 (119 ∷ []) 30 dims.NoDims) declarators.NoDeclarators)) (items.Statement (source.Expr 32 12 (Some (tree.Member (mark 32 33 12) (tree.Name (mark 32 32 12) (119 ∷ [])) (97 ∷ [])))) items.NoItems))) (source.Block 38 13 (items.Declaration (local 39 13 false (spec.Tag 39 (84 ∷ [])) (declarators.Declarator (declarator.Bare 0 (119 ∷ []) 41 dims.NoDims) declarators.NoDeclarators)) (items.Statement (source.Expr 43 14 (Some (tree.Member (mark 43 44 14) (tree.Name (mark 43 43 14) (119 ∷ [])) (97 ∷ [])))) items.NoItems)))) items.NoItems))) ∷ [])

-- Nothing is cast to an array.
--     int f(char a[0xffffffffffffffff]); int main(void){int *p; (char[0xffffffffffffffff])p;}
abbrev pub cast_to_array : ProgramTree
cast_to_array = ((item.Decls 0 1 false (spec.Integer 0 (word.Int ∷ [])) ((file.Function 0 (102 ∷ []) 1 (params.Listed ((param 3 2 (spec.Integer 3 (word.Char ∷ [])) 0 (Some (97 ∷ [])) 4 (dims.Sized (tree.Number (mark 6 6 3) (pos 18446744073709551615) int.ULong) dims.NoDims)) ∷ []))) ∷ [])) ∷ (item.Function 10 3 false (spec.Integer 10 (word.Int ∷ [])) 0 (109 ∷ 97 ∷ 105 ∷ 110 ∷ []) 11 params.Void (source.Block 15 4 (items.Declaration (local 16 4 false (spec.Integer 16 (word.Int ∷ [])) (declarators.Declarator (declarator.Bare 1 (112 ∷ []) 18 dims.NoDims) declarators.NoDeclarators)) (items.Statement (source.Expr 20 5 (Some (tree.Cast (mark 20 20 5) (named.TypeName (spec.Integer 21 (word.Char ∷ [])) 0 (dims.Sized (tree.Number (mark 23 23 5) (pos 18446744073709551615) int.ULong) dims.NoDims)) (tree.Name (mark 26 26 6) (112 ∷ []))))) items.NoItems)))) ∷ [])

-- An object in a block hides a function.
--     char a[9]; int main(void){int puts; puts(a);} int puts(char *s){return 0;}
abbrev pub hidden_function : ProgramTree
hidden_function = ((item.Decls 0 1 false (spec.Integer 0 (word.Char ∷ [])) ((file.Object (declarator.Bare 0 (97 ∷ []) 1 (dims.Sized (tree.Number (mark 3 3 1) (pos 9) int.Int) dims.NoDims))) ∷ [])) ∷ (item.Function 6 1 false (spec.Integer 6 (word.Int ∷ [])) 0 (109 ∷ 97 ∷ 105 ∷ 110 ∷ []) 7 params.Void (source.Block 11 1 (items.Declaration (local 12 1 false (spec.Integer 12 (word.Int ∷ [])) (declarators.Declarator (declarator.Bare 0 (112 ∷ 117 ∷ 116 ∷ 115 ∷ []) 13 dims.NoDims) declarators.NoDeclarators)) (items.Statement (source.Expr 15 1 (Some (tree.Call (mark 15 15 1) (112 ∷ 117 ∷ 116 ∷ 115 ∷ []) (trees.Argument (tree.Name (mark 17 17 1) (97 ∷ [])) trees.NoArguments)))) items.NoItems)))) ∷ (item.Function 21 1 false (spec.Integer 21 (word.Int ∷ [])) 0 (112 ∷ 117 ∷ 116 ∷ 115 ∷ []) 22 (params.Listed ((param 24 1 (spec.Integer 24 (word.Char ∷ [])) 1 (Some (115 ∷ [])) 26 dims.NoDims) ∷ [])) (source.Block 28 1 (items.Statement (source.Return 29 1 (Some (tree.Number (mark 30 30 1) (pos 0) int.Int))) items.NoItems))) ∷ [])
