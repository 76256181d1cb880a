-- Programs that have typed trees.
use Rattle.std.specs.Prelude.{pos, false, Some, [], ◌∷◌}
use Rattle.ob_words.specs.declared.types.IntType.TheVariants as int
use Rattle.ob_tree.specs.declared.tokens.Keyword.TheVariants as word
use Rattle.ob_tree.specs.declared.tokens.Sign.TheVariants as sign
use Rattle.ob_tree.specs.Trees.{ExprTree as tree, ExprTrees as trees, SpecTree as spec, MemberTrees as members, ObjTree as declarator, ObjTrees as declarators, DimTrees as dims, InitTree as init, InitTrees as inits, Infix as joint}
use Rattle.ob_tree.specs.Programs.{ProgramTree}
use Rattle.ob_tree.specs.Programs.{StmtTree as source, BlockTrees as items, ParamsTree as params, FileTree as file, ItemTree as item}
use Rattle.ob_typed.specs.Examples.{mark, param, local}

-- A function that calls itself; functions are numbered in the order of their bodies.
--     int f(int n){putchar(46); return f(n + 1);}
--     int main(void){return f(0);}
abbrev pub recursion : ProgramTree
recursion =
    ((item.Function 0 1 false
    (spec.Integer 0 (word.Int ∷ []))
    0
    (102 ∷ [])
    1
    (params.Listed ((param 3 1 (spec.Integer 3 (word.Int ∷ [])) 0 (Some (110 ∷ [])) 4 dims.NoDims) ∷ []))
    (source.Block 6 1
    (items.Statement
    (source.Expr 7 1
    (Some
    (tree.Call (mark 7 7 1)
    (112 ∷ 117 ∷ 116 ∷ 99 ∷ 104 ∷ 97 ∷ 114 ∷ [])
    (trees.Argument (tree.Number (mark 9 9 1) (pos 46) int.Int) trees.NoArguments))))
    (items.Statement
    (source.Return 12 1
    (Some
    (tree.Call (mark 13 13 1) (102 ∷ [])
    (trees.Argument
    (tree.Join (mark 15 16 1) (joint.Binary sign.Plus)
    (tree.Name (mark 15 15 1) (110 ∷ []))
    (tree.Number (mark 17 17 1) (pos 1) int.Int))
    trees.NoArguments))))
    items.NoItems))))
    ∷ (item.Function 21 2 false
    (spec.Integer 21 (word.Int ∷ []))
    0
    (109 ∷ 97 ∷ 105 ∷ 110 ∷ [])
    22
    params.Void
    (source.Block 26 2
    (items.Statement
    (source.Return 27 2
    (Some
    (tree.Call (mark 28 28 2) (102 ∷ [])
    (trees.Argument (tree.Number (mark 30 30 2) (pos 0) int.Int) trees.NoArguments))))
    items.NoItems)))
    ∷ [])

-- An element past the end of an array is a place like any other.
--     char a[2];
--     int main(void){a[16] = 88; return a[0];}
abbrev pub elements : ProgramTree
elements =
    ((item.Decls 0 1 false
    (spec.Integer 0 (word.Char ∷ []))
    ((file.Object
    (declarator.Bare 0 (97 ∷ []) 1 (dims.Sized (tree.Number (mark 3 3 1) (pos 2) int.Int) dims.NoDims)))
    ∷ []))
    ∷ (item.Function 6 2 false
    (spec.Integer 6 (word.Int ∷ []))
    0
    (109 ∷ 97 ∷ 105 ∷ 110 ∷ [])
    7
    params.Void
    (source.Block 11 2
    (items.Statement
    (source.Expr 12 2
    (Some
    (tree.Join (mark 12 16 2) (joint.Assign sign.Assign)
    (tree.Index (mark 12 13 2)
    (tree.Name (mark 12 12 2) (97 ∷ []))
    (tree.Number (mark 14 14 2) (pos 16) int.Int))
    (tree.Number (mark 17 17 2) (pos 88) int.Int))))
    (items.Statement
    (source.Return 19 2
    (Some
    (tree.Index (mark 20 21 2)
    (tree.Name (mark 20 20 2) (97 ∷ []))
    (tree.Number (mark 22 22 2) (pos 0) int.Int))))
    items.NoItems))))
    ∷ [])

-- A static structure with a pointer to a string literal.
--     struct s {char c; char *p;} x = {65, "ab"};
--     int main(void){return x.p[1];}
abbrev pub strings : ProgramTree
strings =
    ((item.Decls 0 1 false
    (spec.Struct 0 (Some (115 ∷ []))
    (members.MemberLine
    (spec.Integer 3 (word.Char ∷ []))
    (declarators.Declarator (declarator.Bare 0 (99 ∷ []) 4 dims.NoDims) declarators.NoDeclarators)
    (members.MemberLine
    (spec.Integer 6 (word.Char ∷ []))
    (declarators.Declarator (declarator.Bare 1 (112 ∷ []) 8 dims.NoDims) declarators.NoDeclarators)
    members.NoMembers)))
    ((file.Object
    (declarator.Initial 0 (120 ∷ []) 11 dims.NoDims
    (init.Braces 13
    (inits.Item
    (init.Value (tree.Number (mark 14 14 1) (pos 65) int.Int))
    (inits.Item (init.Value (tree.Str (mark 16 16 1) ((97 ∷ 98 ∷ []) ∷ []))) inits.NoItems))
    false)))
    ∷ []))
    ∷ (item.Function 19 2 false
    (spec.Integer 19 (word.Int ∷ []))
    0
    (109 ∷ 97 ∷ 105 ∷ 110 ∷ [])
    20
    params.Void
    (source.Block 24 2
    (items.Statement
    (source.Return 25 2
    (Some
    (tree.Index (mark 26 29 2)
    (tree.Member (mark 26 27 2) (tree.Name (mark 26 26 2) (120 ∷ [])) (112 ∷ []))
    (tree.Number (mark 30 30 2) (pos 1) int.Int))))
    items.NoItems)))
    ∷ [])

-- An assignment stores at the line of its own first token; brackets around a place keep the line of the place.
--     int main(void){
--     int *p = 0;
--     (
--     *p) = 1;
--     return *
--     p;
--     }
abbrev pub lines : ProgramTree
lines =
    ((item.Function 0 1 false
    (spec.Integer 0 (word.Int ∷ []))
    0
    (109 ∷ 97 ∷ 105 ∷ 110 ∷ [])
    1
    params.Void
    (source.Block 5 1
    (items.Declaration
    (local 6 2 false
    (spec.Integer 6 (word.Int ∷ []))
    (declarators.Declarator
    (declarator.Initial 1 (112 ∷ []) 8 dims.NoDims
    (init.Value (tree.Number (mark 10 10 2) (pos 0) int.Int)))
    declarators.NoDeclarators))
    (items.Statement
    (source.Expr 12 3
    (Some
    (tree.Join (mark 12 16 3) (joint.Assign sign.Assign)
    (tree.Paren (mark 12 12 3)
    (tree.Unary (mark 13 13 4) sign.Star (tree.Name (mark 14 14 4) (112 ∷ []))))
    (tree.Number (mark 17 17 4) (pos 1) int.Int))))
    (items.Statement
    (source.Return 19 5 (Some (tree.Unary (mark 20 20 5) sign.Star (tree.Name (mark 21 21 6) (112 ∷ [])))))
    items.NoItems)))))
    ∷ [])

-- Promotions and common types.
--     int main(void){
--     unsigned char c; long l;
--     c += 1;
--     l = c ? -1 : 2u;
--     return c < l;
--     }
abbrev pub conversions : ProgramTree
conversions =
    ((item.Function 0 1 false
    (spec.Integer 0 (word.Int ∷ []))
    0
    (109 ∷ 97 ∷ 105 ∷ 110 ∷ [])
    1
    params.Void
    (source.Block 5 1
    (items.Declaration
    (local 6 2 false
    (spec.Integer 6 (word.Unsigned ∷ word.Char ∷ []))
    (declarators.Declarator (declarator.Bare 0 (99 ∷ []) 8 dims.NoDims) declarators.NoDeclarators))
    (items.Declaration
    (local 10 2 false
    (spec.Integer 10 (word.Long ∷ []))
    (declarators.Declarator (declarator.Bare 0 (108 ∷ []) 11 dims.NoDims) declarators.NoDeclarators))
    (items.Statement
    (source.Expr 13 3
    (Some
    (tree.Join (mark 13 14 3)
    (joint.Assign sign.PlusAssign)
    (tree.Name (mark 13 13 3) (99 ∷ []))
    (tree.Number (mark 15 15 3) (pos 1) int.Int))))
    (items.Statement
    (source.Expr 17 4
    (Some
    (tree.Join (mark 17 18 4) (joint.Assign sign.Assign)
    (tree.Name (mark 17 17 4) (108 ∷ []))
    (tree.Cond (mark 19 20 4)
    (tree.Name (mark 19 19 4) (99 ∷ []))
    (tree.Unary (mark 21 21 4) sign.Minus (tree.Number (mark 22 22 4) (pos 1) int.Int))
    (tree.Number (mark 24 24 4) (pos 2) int.UInt)))))
    (items.Statement
    (source.Return 26 5
    (Some
    (tree.Join (mark 27 28 5) (joint.Binary sign.Lt)
    (tree.Name (mark 27 27 5) (99 ∷ []))
    (tree.Name (mark 29 29 5) (108 ∷ [])))))
    items.NoItems)))))))
    ∷ [])
