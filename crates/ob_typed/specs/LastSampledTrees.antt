-- Programs made at random, with the typed trees that another implementation of the rules gave. Together they have
-- each operator, statement and type.
use Rattle.std.specs.Prelude.{pos, true, false, Some, None, [], ◌∷◌}
use Rattle.ob_words.specs.declared.types.IntType.TheVariants as int
use Rattle.ob_words.specs.declared.types.BinOp.TheVariants as op
use Rattle.ob_words.specs.declared.types.Relation.TheVariants as relation
use Rattle.ob_tree.specs.declared.tokens.Keyword.TheVariants as word
use Rattle.ob_tree.specs.declared.tokens.Sign.TheVariants as sign
use Rattle.ob_tree.specs.Trees.{ExprTree as tree, ExprTrees as trees, TypeTree as named, SpecTree as spec, MemberTrees as members, ObjTree as declarator, ObjTrees as declarators, DimTrees as dims, InitTree as init, InitTrees as inits, Infix as joint}
use Rattle.ob_tree.specs.Programs.{ProgramTree}
use Rattle.ob_tree.specs.Programs.{StmtTree as source, StartTree as start, BlockTrees as items, ParamsTree as params, FileTree as file, ItemTree as item}
use Rattle.ob_tree.specs.Types.{PlainType as type}
use Rattle.ob_typed.specs.declared.names.Builtin.TheVariants as builtin
use Rattle.ob_typed.specs.Examples.{mark, param, local}
use Rattle.ob_typed.specs.TypedTree.{TypedProgram}
use Rattle.ob_typed.specs.TypedTree.{TypedExpr as texpr, TypedExprs as texprs, TypedPlace as tplace, TypedLean as tlean, TypedNode as tnode, TypedInit as tinit, TypedInits as tinits, TypedStmt as tstmt, TypedStmts as tstmts}

-- Among its rules: `break`.
--
--     struct X{
--     char b;int c[2
--     ];} x
--     ;int
--     a
--     [3];
--     int
--     i;int f(int p
--     ,int q){return p;
--     }struct X * g(struct X *p){int v1
--     [3
--     +
--     0];
--     while(sizeof(int[
--     2+1]))break;return 0;
--     }int
--     main
--     (void
--     )
--     {for(
--     ;;
--     ){}int
--     v44=
--     1+2*
--     3
--     ;}
abbrev pub program_seventeen : ProgramTree
program_seventeen = ((item.Decls 0 2 false (spec.Struct 0 (Some (88 ∷ [])) (members.MemberLine (spec.Integer 3 (word.Char ∷ [])) (declarators.Declarator (declarator.Bare 0 (98 ∷ []) 4 dims.NoDims) declarators.NoDeclarators) (members.MemberLine (spec.Integer 6 (word.Int ∷ [])) (declarators.Declarator (declarator.Bare 0 (99 ∷ []) 7 (dims.Sized (tree.Number (mark 9 9 3) (pos 2) int.Int) dims.NoDims)) declarators.NoDeclarators) members.NoMembers))) ((file.Object (declarator.Bare 0 (120 ∷ []) 13 dims.NoDims)) ∷ [])) ∷ (item.Decls 15 5 false (spec.Integer 15 (word.Int ∷ [])) ((file.Object (declarator.Bare 0 (97 ∷ []) 16 (dims.Sized (tree.Number (mark 18 18 7) (pos 3) int.Int) dims.NoDims))) ∷ [])) ∷ (item.Decls 21 8 false (spec.Integer 21 (word.Int ∷ [])) ((file.Object (declarator.Bare 0 (105 ∷ []) 22 dims.NoDims)) ∷ [])) ∷ (item.Function 24 9 false (spec.Integer 24 (word.Int ∷ [])) 0 (102 ∷ []) 25 (params.Listed ((param 27 9 (spec.Integer 27 (word.Int ∷ [])) 0 (Some (112 ∷ [])) 28 dims.NoDims) ∷ (param 30 10 (spec.Integer 30 (word.Int ∷ [])) 0 (Some (113 ∷ [])) 31 dims.NoDims) ∷ [])) (source.Block 33 10 (items.Statement (source.Return 34 10 (Some (tree.Name (mark 35 35 10) (112 ∷ [])))) items.NoItems))) ∷ (item.Function 38 11 false (spec.Tag 38 (88 ∷ [])) 1 (103 ∷ []) 41 (params.Listed ((param 43 11 (spec.Tag 43 (88 ∷ [])) 1 (Some (112 ∷ [])) 46 dims.NoDims) ∷ [])) (source.Block 48 11 (items.Declaration (local 49 11 false (spec.Integer 49 (word.Int ∷ [])) (declarators.Declarator (declarator.Bare 0 (118 ∷ 49 ∷ []) 50 (dims.Sized (tree.Join (mark 52 53 12) (joint.Binary sign.Plus) (tree.Number (mark 52 52 12) (pos 3) int.Int) (tree.Number (mark 54 54 14) (pos 0) int.Int)) dims.NoDims)) declarators.NoDeclarators)) (items.Statement (source.While 57 15 (tree.SizeType (mark 59 59 15) (named.TypeName (spec.Integer 61 (word.Int ∷ [])) 0 (dims.Sized (tree.Join (mark 63 64 16) (joint.Binary sign.Plus) (tree.Number (mark 63 63 16) (pos 2) int.Int) (tree.Number (mark 65 65 16) (pos 1) int.Int)) dims.NoDims))) (source.Break 69 16)) (items.Statement (source.Return 71 16 (Some (tree.Number (mark 72 72 16) (pos 0) int.Int))) items.NoItems))))) ∷ (item.Function 75 17 false (spec.Integer 75 (word.Int ∷ [])) 0 (109 ∷ 97 ∷ 105 ∷ 110 ∷ []) 76 params.Void (source.Block 80 21 (items.Statement (source.For 81 21 (start.Expr None) None None (source.Block 86 23 items.NoItems)) (items.Declaration (local 88 23 false (spec.Integer 88 (word.Int ∷ [])) (declarators.Declarator (declarator.Initial 0 (118 ∷ 52 ∷ 52 ∷ []) 89 dims.NoDims (init.Value (tree.Join (mark 91 92 25) (joint.Binary sign.Plus) (tree.Number (mark 91 91 25) (pos 1) int.Int) (tree.Join (mark 93 94 25) (joint.Binary sign.Star) (tree.Number (mark 93 93 25) (pos 2) int.Int) (tree.Number (mark 95 95 26) (pos 3) int.Int))))) declarators.NoDeclarators)) items.NoItems)))) ∷ [])

abbrev pub typed_seventeen : TypedProgram
typed_seventeen = record { structs = (record { complete = true; members = (record { name = (98 ∷ []); ty = (type.Int int.Char) } ∷ record { name = (99 ∷ []); ty = (type.Array (type.Int int.Int) 2) } ∷ []) } ∷ []); statics = (record { name = record { name = (120 ∷ []); line = 2 }; ty = (type.Struct 0); image = record { bytes = ([]); pointers = ([]) } } ∷ record { name = record { name = (97 ∷ []); line = 5 }; ty = (type.Array (type.Int int.Int) 3); image = record { bytes = ([]); pointers = ([]) } } ∷ record { name = record { name = (105 ∷ []); line = 8 }; ty = (type.Int int.Int); image = record { bytes = ([]); pointers = ([]) } } ∷ []); functions = (record { name = (102 ∷ []); result = (type.Int int.Int); params = 2; locals = ((type.Int int.Int) ∷ (type.Int int.Int) ∷ []); names = (record { name = (112 ∷ []); line = 9 } ∷ record { name = (113 ∷ []); line = 10 } ∷ []); nodes = 1; weight = 48; body = (tstmt.Block (tstmts.Stmt (tstmt.Return (Some (texpr.Typed 10 (type.Int int.Int) (tnode.Read (tplace.Place 10 (type.Int int.Int) (tlean.Local 0)))))) tstmts.NoStmts)) } ∷ record { name = (103 ∷ []); result = (type.Pointer (type.Struct 0)); params = 1; locals = ((type.Pointer (type.Struct 0)) ∷ (type.Array (type.Int int.Int) 3) ∷ []); names = (record { name = (112 ∷ []); line = 11 } ∷ record { name = (118 ∷ 49 ∷ []); line = 11 } ∷ []); nodes = 8; weight = 120; body = (tstmt.Block (tstmts.Stmt (tstmt.While (texpr.Typed 15 (type.Int int.ULong) (tnode.Num (pos 12))) tstmt.Break) (tstmts.Stmt (tstmt.Return (Some (texpr.Typed 16 (type.Pointer (type.Struct 0)) tnode.Null))) tstmts.NoStmts))) } ∷ record { name = (109 ∷ 97 ∷ 105 ∷ 110 ∷ []); result = (type.Int int.Int); params = 0; locals = ((type.Int int.Int) ∷ []); names = (record { name = (118 ∷ 52 ∷ 52 ∷ []); line = 23 } ∷ []); nodes = 5; weight = 88; body = (tstmt.Block (tstmts.Stmt (tstmt.For tstmts.NoStmts None None (tstmt.Block tstmts.NoStmts)) (tstmts.Stmt (tstmt.Init 0 (tinit.Value (texpr.Typed 25 (type.Int int.Int) (tnode.Arith op.Add int.Int (texpr.Typed 25 (type.Int int.Int) (tnode.Num (pos 1))) (texpr.Typed 25 (type.Int int.Int) (tnode.Arith op.Mul int.Int (texpr.Typed 25 (type.Int int.Int) (tnode.Num (pos 2))) (texpr.Typed 26 (type.Int int.Int) (tnode.Num (pos 3))))))))) tstmts.NoStmts))) } ∷ []); main = 2 }

--     struct S0{int m;struct S9 *n;short k;} b1;long int b2;int f0(int a3);int f0(int a3
--     ){int *c4;((unsigned char)256)||(sizeof c4);return b1.m;}int main(void){
--     b2=(b1.m%=0!=0
--     );return (-6)&b2;}
abbrev pub program_eighteen : ProgramTree
program_eighteen = ((item.Decls 0 1 false (spec.Struct 0 (Some (83 ∷ 48 ∷ [])) (members.MemberLine (spec.Integer 3 (word.Int ∷ [])) (declarators.Declarator (declarator.Bare 0 (109 ∷ []) 4 dims.NoDims) declarators.NoDeclarators) (members.MemberLine (spec.Tag 6 (83 ∷ 57 ∷ [])) (declarators.Declarator (declarator.Bare 1 (110 ∷ []) 9 dims.NoDims) declarators.NoDeclarators) (members.MemberLine (spec.Integer 11 (word.Short ∷ [])) (declarators.Declarator (declarator.Bare 0 (107 ∷ []) 12 dims.NoDims) declarators.NoDeclarators) members.NoMembers)))) ((file.Object (declarator.Bare 0 (98 ∷ 49 ∷ []) 15 dims.NoDims)) ∷ [])) ∷ (item.Decls 17 1 false (spec.Integer 17 (word.Long ∷ word.Int ∷ [])) ((file.Object (declarator.Bare 0 (98 ∷ 50 ∷ []) 19 dims.NoDims)) ∷ [])) ∷ (item.Decls 21 1 false (spec.Integer 21 (word.Int ∷ [])) ((file.Function 0 (102 ∷ 48 ∷ []) 22 (params.Listed ((param 24 1 (spec.Integer 24 (word.Int ∷ [])) 0 (Some (97 ∷ 51 ∷ [])) 25 dims.NoDims) ∷ []))) ∷ [])) ∷ (item.Function 28 1 false (spec.Integer 28 (word.Int ∷ [])) 0 (102 ∷ 48 ∷ []) 29 (params.Listed ((param 31 1 (spec.Integer 31 (word.Int ∷ [])) 0 (Some (97 ∷ 51 ∷ [])) 32 dims.NoDims) ∷ [])) (source.Block 34 2 (items.Declaration (local 35 2 false (spec.Integer 35 (word.Int ∷ [])) (declarators.Declarator (declarator.Bare 1 (99 ∷ 52 ∷ []) 37 dims.NoDims) declarators.NoDeclarators)) (items.Statement (source.Expr 39 2 (Some (tree.Join (mark 39 46 2) (joint.Binary sign.OrOr) (tree.Paren (mark 39 39 2) (tree.Cast (mark 40 40 2) (named.TypeName (spec.Integer 41 (word.Unsigned ∷ word.Char ∷ [])) 0 dims.NoDims) (tree.Number (mark 44 44 2) (pos 256) int.Int))) (tree.Paren (mark 47 47 2) (tree.SizeExpr (mark 48 48 2) (tree.Name (mark 49 49 2) (99 ∷ 52 ∷ []))))))) (items.Statement (source.Return 52 2 (Some (tree.Member (mark 53 54 2) (tree.Name (mark 53 53 2) (98 ∷ 49 ∷ [])) (109 ∷ [])))) items.NoItems))))) ∷ (item.Function 58 2 false (spec.Integer 58 (word.Int ∷ [])) 0 (109 ∷ 97 ∷ 105 ∷ 110 ∷ []) 59 params.Void (source.Block 63 2 (items.Statement (source.Expr 64 3 (Some (tree.Join (mark 64 65 3) (joint.Assign sign.Assign) (tree.Name (mark 64 64 3) (98 ∷ 50 ∷ [])) (tree.Paren (mark 66 66 3) (tree.Join (mark 67 70 3) (joint.Assign sign.PercentAssign) (tree.Member (mark 67 68 3) (tree.Name (mark 67 67 3) (98 ∷ 49 ∷ [])) (109 ∷ [])) (tree.Join (mark 71 72 3) (joint.Binary sign.NotEq) (tree.Number (mark 71 71 3) (pos 0) int.Int) (tree.Number (mark 73 73 3) (pos 0) int.Int))))))) (items.Statement (source.Return 76 4 (Some (tree.Join (mark 77 81 4) (joint.Binary sign.Amp) (tree.Paren (mark 77 77 4) (tree.Unary (mark 78 78 4) sign.Minus (tree.Number (mark 79 79 4) (pos 6) int.Int))) (tree.Name (mark 82 82 4) (98 ∷ 50 ∷ []))))) items.NoItems)))) ∷ [])

abbrev pub typed_eighteen : TypedProgram
typed_eighteen = record { structs = (record { complete = true; members = (record { name = (109 ∷ []); ty = (type.Int int.Int) } ∷ record { name = (110 ∷ []); ty = (type.Pointer (type.Struct 1)) } ∷ record { name = (107 ∷ []); ty = (type.Int int.Short) } ∷ []) } ∷ record { complete = false; members = ([]) } ∷ []); statics = (record { name = record { name = (98 ∷ 49 ∷ []); line = 1 }; ty = (type.Struct 0); image = record { bytes = ([]); pointers = ([]) } } ∷ record { name = record { name = (98 ∷ 50 ∷ []); line = 1 }; ty = (type.Int int.Long); image = record { bytes = ([]); pointers = ([]) } } ∷ []); functions = (record { name = (102 ∷ 48 ∷ []); result = (type.Int int.Int); params = 1; locals = ((type.Int int.Int) ∷ (type.Pointer (type.Int int.Int)) ∷ []); names = (record { name = (97 ∷ 51 ∷ []); line = 1 } ∷ record { name = (99 ∷ 52 ∷ []); line = 2 } ∷ []); nodes = 9; weight = 120; body = (tstmt.Block (tstmts.Stmt (tstmt.Expr (texpr.Typed 2 (type.Int int.Int) (tnode.Or (texpr.Typed 2 (type.Int int.UChar) (tnode.Convert int.UChar (texpr.Typed 2 (type.Int int.Int) (tnode.Num (pos 256))))) (texpr.Typed 2 (type.Int int.ULong) (tnode.Num (pos 8)))))) (tstmts.Stmt (tstmt.Return (Some (texpr.Typed 2 (type.Int int.Int) (tnode.Read (tplace.Place 2 (type.Int int.Int) (tlean.Member (tlean.Static 0) 0)))))) tstmts.NoStmts))) } ∷ record { name = (109 ∷ 97 ∷ 105 ∷ 110 ∷ []); result = (type.Int int.Int); params = 0; locals = ([]); names = ([]); nodes = 14; weight = 144; body = (tstmt.Block (tstmts.Stmt (tstmt.Expr (texpr.Typed 3 (type.Int int.Long) (tnode.Assign (tplace.Place 3 (type.Int int.Long) (tlean.Static 1)) (texpr.Typed 3 (type.Int int.Long) (tnode.Convert int.Long (texpr.Typed 3 (type.Int int.Int) (tnode.Update op.Rem int.Int false (tplace.Place 3 (type.Int int.Int) (tlean.Member (tlean.Static 0) 0)) (texpr.Typed 3 (type.Int int.Int) (tnode.Compare relation.Ne (texpr.Typed 3 (type.Int int.Int) (tnode.Num (pos 0))) (texpr.Typed 3 (type.Int int.Int) (tnode.Num (pos 0)))))))))))) (tstmts.Stmt (tstmt.Return (Some (texpr.Typed 4 (type.Int int.Int) (tnode.Convert int.Int (texpr.Typed 4 (type.Int int.Long) (tnode.Arith op.And int.Long (texpr.Typed 4 (type.Int int.Long) (tnode.Convert int.Long (texpr.Typed 4 (type.Int int.Int) (tnode.Arith op.Sub int.Int (texpr.Typed 4 (type.Int int.Int) (tnode.Num (pos 0))) (texpr.Typed 4 (type.Int int.Int) (tnode.Num (pos 6))))))) (texpr.Typed 4 (type.Int int.Long) (tnode.Read (tplace.Place 4 (type.Int int.Long) (tlean.Static 1)))))))))) tstmts.NoStmts))) } ∷ []); main = 1 }

-- Among its rules: `/`.
--     struct N *b1[]={(
--     void
--     *)0};short int p2;int
--      main(void){
--     signed long long b3;unsigned long int
--      x4=0
--     !=(char*)0;unsigned
--      char
--      *
--     d5;(void)((
--     34
--     *x4)>>((b3
--     +=p2)
--     ));(*d5
--     )+(
--     (x4*x4)/(sizeof b1));}
abbrev pub program_nineteen : ProgramTree
program_nineteen = ((item.Decls 0 1 false (spec.Tag 0 (78 ∷ [])) ((file.Object (declarator.Initial 1 (98 ∷ 49 ∷ []) 3 (dims.Unsized dims.NoDims) (init.Braces 7 (inits.Item (init.Value (tree.Cast (mark 8 8 1) (named.TypeName (spec.Void 9) 1 dims.NoDims) (tree.Number (mark 12 12 3) (pos 0) int.Int))) inits.NoItems) false))) ∷ [])) ∷ (item.Decls 15 3 false (spec.Integer 15 (word.Short ∷ word.Int ∷ [])) ((file.Object (declarator.Bare 0 (112 ∷ 50 ∷ []) 17 dims.NoDims)) ∷ [])) ∷ (item.Function 19 3 false (spec.Integer 19 (word.Int ∷ [])) 0 (109 ∷ 97 ∷ 105 ∷ 110 ∷ []) 20 params.Void (source.Block 24 4 (items.Declaration (local 25 5 false (spec.Integer 25 (word.Signed ∷ word.Long ∷ word.Long ∷ [])) (declarators.Declarator (declarator.Bare 0 (98 ∷ 51 ∷ []) 28 dims.NoDims) declarators.NoDeclarators)) (items.Declaration (local 30 5 false (spec.Integer 30 (word.Unsigned ∷ word.Long ∷ word.Int ∷ [])) (declarators.Declarator (declarator.Initial 0 (120 ∷ 52 ∷ []) 33 dims.NoDims (init.Value (tree.Join (mark 35 36 6) (joint.Binary sign.NotEq) (tree.Number (mark 35 35 6) (pos 0) int.Int) (tree.Cast (mark 37 37 7) (named.TypeName (spec.Integer 38 (word.Char ∷ [])) 1 dims.NoDims) (tree.Number (mark 41 41 7) (pos 0) int.Int))))) declarators.NoDeclarators)) (items.Declaration (local 43 7 false (spec.Integer 43 (word.Unsigned ∷ word.Char ∷ [])) (declarators.Declarator (declarator.Bare 1 (100 ∷ 53 ∷ []) 46 dims.NoDims) declarators.NoDeclarators)) (items.Statement (source.Expr 48 10 (Some (tree.Cast (mark 48 48 10) (named.TypeName (spec.Void 49) 0 dims.NoDims) (tree.Paren (mark 51 51 10) (tree.Join (mark 52 57 10) (joint.Binary sign.Shr) (tree.Paren (mark 52 52 10) (tree.Join (mark 53 54 11) (joint.Binary sign.Star) (tree.Number (mark 53 53 11) (pos 34) int.Int) (tree.Name (mark 55 55 12) (120 ∷ 52 ∷ [])))) (tree.Paren (mark 58 58 12) (tree.Paren (mark 59 59 12) (tree.Join (mark 60 61 12) (joint.Assign sign.PlusAssign) (tree.Name (mark 60 60 12) (98 ∷ 51 ∷ [])) (tree.Name (mark 62 62 13) (112 ∷ 50 ∷ [])))))))))) (items.Statement (source.Expr 67 14 (Some (tree.Join (mark 67 71 14) (joint.Binary sign.Plus) (tree.Paren (mark 67 67 14) (tree.Unary (mark 68 68 14) sign.Star (tree.Name (mark 69 69 14) (100 ∷ 53 ∷ [])))) (tree.Paren (mark 72 72 15) (tree.Join (mark 73 78 16) (joint.Binary sign.Slash) (tree.Paren (mark 73 73 16) (tree.Join (mark 74 75 16) (joint.Binary sign.Star) (tree.Name (mark 74 74 16) (120 ∷ 52 ∷ [])) (tree.Name (mark 76 76 16) (120 ∷ 52 ∷ [])))) (tree.Paren (mark 79 79 16) (tree.SizeExpr (mark 80 80 16) (tree.Name (mark 81 81 16) (98 ∷ 49 ∷ []))))))))) items.NoItems))))))) ∷ [])

abbrev pub typed_nineteen : TypedProgram
typed_nineteen = record { structs = (record { complete = false; members = ([]) } ∷ []); statics = (record { name = record { name = (98 ∷ 49 ∷ []); line = 1 }; ty = (type.Array (type.Pointer (type.Struct 0)) 1); image = record { bytes = ([]); pointers = ([]) } } ∷ record { name = record { name = (112 ∷ 50 ∷ []); line = 3 }; ty = (type.Int int.Short); image = record { bytes = ([]); pointers = ([]) } } ∷ []); functions = (record { name = (109 ∷ 97 ∷ 105 ∷ 110 ∷ []); result = (type.Int int.Int); params = 0; locals = ((type.Int int.LLong) ∷ (type.Int int.ULong) ∷ (type.Pointer (type.Int int.UChar)) ∷ []); names = (record { name = (98 ∷ 51 ∷ []); line = 5 } ∷ record { name = (120 ∷ 52 ∷ []); line = 5 } ∷ record { name = (100 ∷ 53 ∷ []); line = 7 } ∷ []); nodes = 29; weight = 296; body = (tstmt.Block (tstmts.Stmt (tstmt.Init 1 (tinit.Value (texpr.Typed 6 (type.Int int.ULong) (tnode.Convert int.ULong (texpr.Typed 6 (type.Int int.Int) (tnode.PtrCompare relation.Ne (texpr.Typed 6 (type.Pointer (type.Int int.Char)) tnode.Null) (texpr.Typed 7 (type.Pointer (type.Int int.Char)) tnode.Null))))))) (tstmts.Stmt (tstmt.Expr (texpr.Typed 10 type.Void (tnode.ToVoid (texpr.Typed 10 (type.Int int.ULong) (tnode.Arith op.Shr int.ULong (texpr.Typed 11 (type.Int int.ULong) (tnode.Arith op.Mul int.ULong (texpr.Typed 11 (type.Int int.ULong) (tnode.Convert int.ULong (texpr.Typed 11 (type.Int int.Int) (tnode.Num (pos 34))))) (texpr.Typed 12 (type.Int int.ULong) (tnode.Read (tplace.Place 12 (type.Int int.ULong) (tlean.Local 1)))))) (texpr.Typed 12 (type.Int int.LLong) (tnode.Update op.Add int.LLong false (tplace.Place 12 (type.Int int.LLong) (tlean.Local 0)) (texpr.Typed 13 (type.Int int.LLong) (tnode.Convert int.LLong (texpr.Typed 13 (type.Int int.Short) (tnode.Read (tplace.Place 13 (type.Int int.Short) (tlean.Static 1))))))))))))) (tstmts.Stmt (tstmt.Expr (texpr.Typed 14 (type.Int int.ULong) (tnode.Arith op.Add int.ULong (texpr.Typed 14 (type.Int int.ULong) (tnode.Convert int.ULong (texpr.Typed 14 (type.Int int.UChar) (tnode.Read (tplace.Place 14 (type.Int int.UChar) (tlean.Value (texpr.Typed 14 (type.Pointer (type.Int int.UChar)) (tnode.Read (tplace.Place 14 (type.Pointer (type.Int int.UChar)) (tlean.Local 2)))))))))) (texpr.Typed 16 (type.Int int.ULong) (tnode.Arith op.Div int.ULong (texpr.Typed 16 (type.Int int.ULong) (tnode.Arith op.Mul int.ULong (texpr.Typed 16 (type.Int int.ULong) (tnode.Read (tplace.Place 16 (type.Int int.ULong) (tlean.Local 1)))) (texpr.Typed 16 (type.Int int.ULong) (tnode.Read (tplace.Place 16 (type.Int int.ULong) (tlean.Local 1)))))) (texpr.Typed 16 (type.Int int.ULong) (tnode.Num (pos 8)))))))) tstmts.NoStmts)))) } ∷ []); main = 0 }

-- Among its rules: `continue`.
--     struct X{char b;int c[2];} x;int a[3];int i;int f(int p,int q){return p;}void * g(int p[sizeof(int)]){char v7[]="abcd";return 0;}int main(void){{;}sizeof i;for(;;){}for(int v67=sizeof(int[2+1]);1+2*3;&x)continue;}
abbrev pub program_twenty : ProgramTree
program_twenty = ((item.Decls 0 1 false (spec.Struct 0 (Some (88 ∷ [])) (members.MemberLine (spec.Integer 3 (word.Char ∷ [])) (declarators.Declarator (declarator.Bare 0 (98 ∷ []) 4 dims.NoDims) declarators.NoDeclarators) (members.MemberLine (spec.Integer 6 (word.Int ∷ [])) (declarators.Declarator (declarator.Bare 0 (99 ∷ []) 7 (dims.Sized (tree.Number (mark 9 9 1) (pos 2) int.Int) dims.NoDims)) declarators.NoDeclarators) members.NoMembers))) ((file.Object (declarator.Bare 0 (120 ∷ []) 13 dims.NoDims)) ∷ [])) ∷ (item.Decls 15 1 false (spec.Integer 15 (word.Int ∷ [])) ((file.Object (declarator.Bare 0 (97 ∷ []) 16 (dims.Sized (tree.Number (mark 18 18 1) (pos 3) int.Int) dims.NoDims))) ∷ [])) ∷ (item.Decls 21 1 false (spec.Integer 21 (word.Int ∷ [])) ((file.Object (declarator.Bare 0 (105 ∷ []) 22 dims.NoDims)) ∷ [])) ∷ (item.Function 24 1 false (spec.Integer 24 (word.Int ∷ [])) 0 (102 ∷ []) 25 (params.Listed ((param 27 1 (spec.Integer 27 (word.Int ∷ [])) 0 (Some (112 ∷ [])) 28 dims.NoDims) ∷ (param 30 1 (spec.Integer 30 (word.Int ∷ [])) 0 (Some (113 ∷ [])) 31 dims.NoDims) ∷ [])) (source.Block 33 1 (items.Statement (source.Return 34 1 (Some (tree.Name (mark 35 35 1) (112 ∷ [])))) items.NoItems))) ∷ (item.Function 38 1 false (spec.Void 38) 1 (103 ∷ []) 40 (params.Listed ((param 42 1 (spec.Integer 42 (word.Int ∷ [])) 0 (Some (112 ∷ [])) 43 (dims.Sized (tree.SizeType (mark 45 45 1) (named.TypeName (spec.Integer 47 (word.Int ∷ [])) 0 dims.NoDims)) dims.NoDims)) ∷ [])) (source.Block 51 1 (items.Declaration (local 52 1 false (spec.Integer 52 (word.Char ∷ [])) (declarators.Declarator (declarator.Initial 0 (118 ∷ 55 ∷ []) 53 (dims.Unsized dims.NoDims) (init.Value (tree.Str (mark 57 57 1) ((97 ∷ 98 ∷ 99 ∷ 100 ∷ []) ∷ [])))) declarators.NoDeclarators)) (items.Statement (source.Return 59 1 (Some (tree.Number (mark 60 60 1) (pos 0) int.Int))) items.NoItems)))) ∷ (item.Function 63 1 false (spec.Integer 63 (word.Int ∷ [])) 0 (109 ∷ 97 ∷ 105 ∷ 110 ∷ []) 64 params.Void (source.Block 68 1 (items.Statement (source.Block 69 1 (items.Statement (source.Expr 70 1 None) items.NoItems)) (items.Statement (source.Expr 72 1 (Some (tree.SizeExpr (mark 72 72 1) (tree.Name (mark 73 73 1) (105 ∷ []))))) (items.Statement (source.For 75 1 (start.Expr None) None None (source.Block 80 1 items.NoItems)) (items.Statement (source.For 82 1 (start.Local (local 84 1 false (spec.Integer 84 (word.Int ∷ [])) (declarators.Declarator (declarator.Initial 0 (118 ∷ 54 ∷ 55 ∷ []) 85 dims.NoDims (init.Value (tree.SizeType (mark 87 87 1) (named.TypeName (spec.Integer 89 (word.Int ∷ [])) 0 (dims.Sized (tree.Join (mark 91 92 1) (joint.Binary sign.Plus) (tree.Number (mark 91 91 1) (pos 2) int.Int) (tree.Number (mark 93 93 1) (pos 1) int.Int)) dims.NoDims))))) declarators.NoDeclarators))) (Some (tree.Join (mark 97 98 1) (joint.Binary sign.Plus) (tree.Number (mark 97 97 1) (pos 1) int.Int) (tree.Join (mark 99 100 1) (joint.Binary sign.Star) (tree.Number (mark 99 99 1) (pos 2) int.Int) (tree.Number (mark 101 101 1) (pos 3) int.Int)))) (Some (tree.Unary (mark 103 103 1) sign.Amp (tree.Name (mark 104 104 1) (120 ∷ [])))) (source.Continue 106 1)) items.NoItems)))))) ∷ [])

abbrev pub typed_twenty : TypedProgram
typed_twenty = record { structs = (record { complete = true; members = (record { name = (98 ∷ []); ty = (type.Int int.Char) } ∷ record { name = (99 ∷ []); ty = (type.Array (type.Int int.Int) 2) } ∷ []) } ∷ []); statics = (record { name = record { name = (120 ∷ []); line = 1 }; ty = (type.Struct 0); image = record { bytes = ([]); pointers = ([]) } } ∷ record { name = record { name = (97 ∷ []); line = 1 }; ty = (type.Array (type.Int int.Int) 3); image = record { bytes = ([]); pointers = ([]) } } ∷ record { name = record { name = (105 ∷ []); line = 1 }; ty = (type.Int int.Int); image = record { bytes = ([]); pointers = ([]) } } ∷ []); functions = (record { name = (102 ∷ []); result = (type.Int int.Int); params = 2; locals = ((type.Int int.Int) ∷ (type.Int int.Int) ∷ []); names = (record { name = (112 ∷ []); line = 1 } ∷ record { name = (113 ∷ []); line = 1 } ∷ []); nodes = 1; weight = 48; body = (tstmt.Block (tstmts.Stmt (tstmt.Return (Some (texpr.Typed 1 (type.Int int.Int) (tnode.Read (tplace.Place 1 (type.Int int.Int) (tlean.Local 0)))))) tstmts.NoStmts)) } ∷ record { name = (103 ∷ []); result = (type.Pointer type.Void); params = 1; locals = ((type.Pointer (type.Int int.Int)) ∷ (type.Array (type.Int int.Char) 5) ∷ []); names = (record { name = (112 ∷ []); line = 1 } ∷ record { name = (118 ∷ 55 ∷ []); line = 1 } ∷ []); nodes = 3; weight = 104; body = (tstmt.Block (tstmts.Stmt (tstmt.Init 1 (tinit.Chars (97 ∷ 98 ∷ 99 ∷ 100 ∷ []))) (tstmts.Stmt (tstmt.Return (Some (texpr.Typed 1 (type.Pointer type.Void) tnode.Null))) tstmts.NoStmts))) } ∷ record { name = (109 ∷ 97 ∷ 105 ∷ 110 ∷ []); result = (type.Int int.Int); params = 0; locals = ((type.Int int.Int) ∷ []); names = (record { name = (118 ∷ 54 ∷ 55 ∷ []); line = 1 } ∷ []); nodes = 13; weight = 192; body = (tstmt.Block (tstmts.Stmt (tstmt.Block (tstmts.Stmt tstmt.Empty tstmts.NoStmts)) (tstmts.Stmt (tstmt.Expr (texpr.Typed 1 (type.Int int.ULong) (tnode.Num (pos 4)))) (tstmts.Stmt (tstmt.For tstmts.NoStmts None None (tstmt.Block tstmts.NoStmts)) (tstmts.Stmt (tstmt.For (tstmts.Stmt (tstmt.Init 0 (tinit.Value (texpr.Typed 1 (type.Int int.Int) (tnode.Convert int.Int (texpr.Typed 1 (type.Int int.ULong) (tnode.Num (pos 12))))))) tstmts.NoStmts) (Some (texpr.Typed 1 (type.Int int.Int) (tnode.Arith op.Add int.Int (texpr.Typed 1 (type.Int int.Int) (tnode.Num (pos 1))) (texpr.Typed 1 (type.Int int.Int) (tnode.Arith op.Mul int.Int (texpr.Typed 1 (type.Int int.Int) (tnode.Num (pos 2))) (texpr.Typed 1 (type.Int int.Int) (tnode.Num (pos 3)))))))) (Some (texpr.Typed 1 (type.Pointer (type.Struct 0)) (tnode.Lean (tlean.Static 0)))) tstmt.Continue) tstmts.NoStmts))))) } ∷ []); main = 2 }

-- Among its rules: `&=`.
--     struct S0{int m;struct S0 *n;};long *x1=(void*)0;static struct S0 c2={-6<<3};
--     int main
--     (void){
--     size_t t3[1][3]={{*((int *)NULL),!(&*((unsigned long long int *)NULL)),((struct S0 *)(c2.n))<((struct S0 *)((void*)0))},};(void)((*(0+
--     x1)&=8));return getchar();}
abbrev pub program_twenty_one : ProgramTree
program_twenty_one = ((item.Decls 0 1 false (spec.Struct 0 (Some (83 ∷ 48 ∷ [])) (members.MemberLine (spec.Integer 3 (word.Int ∷ [])) (declarators.Declarator (declarator.Bare 0 (109 ∷ []) 4 dims.NoDims) declarators.NoDeclarators) (members.MemberLine (spec.Tag 6 (83 ∷ 48 ∷ [])) (declarators.Declarator (declarator.Bare 1 (110 ∷ []) 9 dims.NoDims) declarators.NoDeclarators) members.NoMembers))) ([])) ∷ (item.Decls 13 1 false (spec.Integer 13 (word.Long ∷ [])) ((file.Object (declarator.Initial 1 (120 ∷ 49 ∷ []) 15 dims.NoDims (init.Value (tree.Cast (mark 17 17 1) (named.TypeName (spec.Void 18) 1 dims.NoDims) (tree.Number (mark 21 21 1) (pos 0) int.Int))))) ∷ [])) ∷ (item.Decls 23 1 true (spec.Tag 24 (83 ∷ 48 ∷ [])) ((file.Object (declarator.Initial 0 (99 ∷ 50 ∷ []) 26 dims.NoDims (init.Braces 28 (inits.Item (init.Value (tree.Join (mark 29 31 1) (joint.Binary sign.Shl) (tree.Unary (mark 29 29 1) sign.Minus (tree.Number (mark 30 30 1) (pos 6) int.Int)) (tree.Number (mark 32 32 1) (pos 3) int.Int))) inits.NoItems) false))) ∷ [])) ∷ (item.Function 35 2 false (spec.Integer 35 (word.Int ∷ [])) 0 (109 ∷ 97 ∷ 105 ∷ 110 ∷ []) 36 params.Void (source.Block 40 3 (items.Declaration (local 41 4 false (spec.SizeT 41) (declarators.Declarator (declarator.Initial 0 (116 ∷ 51 ∷ []) 42 (dims.Sized (tree.Number (mark 44 44 4) (pos 1) int.Int) (dims.Sized (tree.Number (mark 47 47 4) (pos 3) int.Int) dims.NoDims)) (init.Braces 50 (inits.Item (init.Braces 51 (inits.Item (init.Value (tree.Unary (mark 52 52 4) sign.Star (tree.Paren (mark 53 53 4) (tree.Cast (mark 54 54 4) (named.TypeName (spec.Integer 55 (word.Int ∷ [])) 1 dims.NoDims) (tree.Null (mark 58 58 4)))))) (inits.Item (init.Value (tree.Unary (mark 61 61 4) sign.Not (tree.Paren (mark 62 62 4) (tree.Unary (mark 63 63 4) sign.Amp (tree.Unary (mark 64 64 4) sign.Star (tree.Paren (mark 65 65 4) (tree.Cast (mark 66 66 4) (named.TypeName (spec.Integer 67 (word.Unsigned ∷ word.Long ∷ word.Long ∷ word.Int ∷ [])) 1 dims.NoDims) (tree.Null (mark 73 73 4))))))))) (inits.Item (init.Value (tree.Join (mark 77 89 4) (joint.Binary sign.Lt) (tree.Paren (mark 77 77 4) (tree.Cast (mark 78 78 4) (named.TypeName (spec.Tag 79 (83 ∷ 48 ∷ [])) 1 dims.NoDims) (tree.Paren (mark 83 83 4) (tree.Member (mark 84 85 4) (tree.Name (mark 84 84 4) (99 ∷ 50 ∷ [])) (110 ∷ []))))) (tree.Paren (mark 90 90 4) (tree.Cast (mark 91 91 4) (named.TypeName (spec.Tag 92 (83 ∷ 48 ∷ [])) 1 dims.NoDims) (tree.Paren (mark 96 96 4) (tree.Cast (mark 97 97 4) (named.TypeName (spec.Void 98) 1 dims.NoDims) (tree.Number (mark 101 101 4) (pos 0) int.Int))))))) inits.NoItems))) false) inits.NoItems) true)) declarators.NoDeclarators)) (items.Statement (source.Expr 108 4 (Some (tree.Cast (mark 108 108 4) (named.TypeName (spec.Void 109) 0 dims.NoDims) (tree.Paren (mark 111 111 4) (tree.Paren (mark 112 112 4) (tree.Join (mark 113 119 4) (joint.Assign sign.AmpAssign) (tree.Unary (mark 113 113 4) sign.Star (tree.Paren (mark 114 114 4) (tree.Join (mark 115 116 4) (joint.Binary sign.Plus) (tree.Number (mark 115 115 4) (pos 0) int.Int) (tree.Name (mark 117 117 5) (120 ∷ 49 ∷ []))))) (tree.Number (mark 120 120 5) (pos 8) int.Int))))))) (items.Statement (source.Return 124 5 (Some (tree.Call (mark 125 125 5) (103 ∷ 101 ∷ 116 ∷ 99 ∷ 104 ∷ 97 ∷ 114 ∷ []) trees.NoArguments))) items.NoItems))))) ∷ [])

abbrev pub typed_twenty_one : TypedProgram
typed_twenty_one = record { structs = (record { complete = true; members = (record { name = (109 ∷ []); ty = (type.Int int.Int) } ∷ record { name = (110 ∷ []); ty = (type.Pointer (type.Struct 0)) } ∷ []) } ∷ []); statics = (record { name = record { name = (120 ∷ 49 ∷ []); line = 1 }; ty = (type.Pointer (type.Int int.Long)); image = record { bytes = ([]); pointers = ([]) } } ∷ record { name = record { name = (99 ∷ 50 ∷ []); line = 1 }; ty = (type.Struct 0); image = record { bytes = (208 ∷ 255 ∷ 255 ∷ 255 ∷ []); pointers = ([]) } } ∷ []); functions = (record { name = (109 ∷ 97 ∷ 105 ∷ 110 ∷ []); result = (type.Int int.Int); params = 0; locals = ((type.Array (type.Array (type.Int int.ULong) 3) 1) ∷ []); names = (record { name = (116 ∷ 51 ∷ []); line = 4 } ∷ []); nodes = 35; weight = 360; body = (tstmt.Block (tstmts.Stmt (tstmt.Init 0 (tinit.Items (tinits.Item (tinit.Items (tinits.Item (tinit.Value (texpr.Typed 4 (type.Int int.ULong) (tnode.Convert int.ULong (texpr.Typed 4 (type.Int int.Int) (tnode.Read (tplace.Place 4 (type.Int int.Int) (tlean.Value (texpr.Typed 4 (type.Pointer (type.Int int.Int)) tnode.Null)))))))) (tinits.Item (tinit.Value (texpr.Typed 4 (type.Int int.ULong) (tnode.Convert int.ULong (texpr.Typed 4 (type.Int int.Int) (tnode.PtrCompare relation.Eq (texpr.Typed 4 (type.Pointer (type.Int int.ULLong)) (tnode.Lean (tlean.Value (texpr.Typed 4 (type.Pointer (type.Int int.ULLong)) tnode.Null)))) (texpr.Typed 4 (type.Pointer (type.Int int.ULLong)) tnode.Null)))))) (tinits.Item (tinit.Value (texpr.Typed 4 (type.Int int.ULong) (tnode.Convert int.ULong (texpr.Typed 4 (type.Int int.Int) (tnode.PtrCompare relation.Lt (texpr.Typed 4 (type.Pointer (type.Struct 0)) (tnode.Read (tplace.Place 4 (type.Pointer (type.Struct 0)) (tlean.Member (tlean.Static 1) 8)))) (texpr.Typed 4 (type.Pointer (type.Struct 0)) tnode.Null)))))) tinits.NoItems)))) tinits.NoItems))) (tstmts.Stmt (tstmt.Expr (texpr.Typed 4 type.Void (tnode.ToVoid (texpr.Typed 4 (type.Int int.Long) (tnode.Update op.And int.Long false (tplace.Place 4 (type.Int int.Long) (tlean.Slide (tlean.Value (texpr.Typed 5 (type.Pointer (type.Int int.Long)) (tnode.Read (tplace.Place 5 (type.Pointer (type.Int int.Long)) (tlean.Static 0))))) 8 false true (texpr.Typed 4 (type.Int int.Int) (tnode.Num (pos 0))))) (texpr.Typed 5 (type.Int int.Long) (tnode.Convert int.Long (texpr.Typed 5 (type.Int int.Int) (tnode.Num (pos 8)))))))))) (tstmts.Stmt (tstmt.Return (Some (texpr.Typed 5 (type.Int int.Int) (tnode.CallBuiltin builtin.GetChar texprs.NoArguments)))) tstmts.NoStmts)))) } ∷ []); main = 0 }

-- Among its rules: `*=`.
--     struct S0{struct S0 *
--     m;unsigned char n;struct S0 *k;} c1;int t2=sizeof(struct S0 *)<<3,a3=2147483647;signed int b4[1];struct S1{size_t *m;unsigned n[
--     3];signed short k;};int main(void){char
--      x5=(*&a3*=t2*
--     a3);
--     t2=!((a3)
--     --);(x5)
--     --;return x5-9;}
abbrev pub program_twenty_two : ProgramTree
program_twenty_two = ((item.Decls 0 1 false (spec.Struct 0 (Some (83 ∷ 48 ∷ [])) (members.MemberLine (spec.Tag 3 (83 ∷ 48 ∷ [])) (declarators.Declarator (declarator.Bare 1 (109 ∷ []) 6 dims.NoDims) declarators.NoDeclarators) (members.MemberLine (spec.Integer 8 (word.Unsigned ∷ word.Char ∷ [])) (declarators.Declarator (declarator.Bare 0 (110 ∷ []) 10 dims.NoDims) declarators.NoDeclarators) (members.MemberLine (spec.Tag 12 (83 ∷ 48 ∷ [])) (declarators.Declarator (declarator.Bare 1 (107 ∷ []) 15 dims.NoDims) declarators.NoDeclarators) members.NoMembers)))) ((file.Object (declarator.Bare 0 (99 ∷ 49 ∷ []) 18 dims.NoDims)) ∷ [])) ∷ (item.Decls 20 2 false (spec.Integer 20 (word.Int ∷ [])) ((file.Object (declarator.Initial 0 (116 ∷ 50 ∷ []) 21 dims.NoDims (init.Value (tree.Join (mark 23 29 2) (joint.Binary sign.Shl) (tree.SizeType (mark 23 23 2) (named.TypeName (spec.Tag 25 (83 ∷ 48 ∷ [])) 1 dims.NoDims)) (tree.Number (mark 30 30 2) (pos 3) int.Int))))) ∷ (file.Object (declarator.Initial 0 (97 ∷ 51 ∷ []) 32 dims.NoDims (init.Value (tree.Number (mark 34 34 2) (pos 2147483647) int.Int)))) ∷ [])) ∷ (item.Decls 36 2 false (spec.Integer 36 (word.Signed ∷ word.Int ∷ [])) ((file.Object (declarator.Bare 0 (98 ∷ 52 ∷ []) 38 (dims.Sized (tree.Number (mark 40 40 2) (pos 1) int.Int) dims.NoDims))) ∷ [])) ∷ (item.Decls 43 2 false (spec.Struct 43 (Some (83 ∷ 49 ∷ [])) (members.MemberLine (spec.SizeT 46) (declarators.Declarator (declarator.Bare 1 (109 ∷ []) 48 dims.NoDims) declarators.NoDeclarators) (members.MemberLine (spec.Integer 50 (word.Unsigned ∷ [])) (declarators.Declarator (declarator.Bare 0 (110 ∷ []) 51 (dims.Sized (tree.Number (mark 53 53 3) (pos 3) int.Int) dims.NoDims)) declarators.NoDeclarators) (members.MemberLine (spec.Integer 56 (word.Signed ∷ word.Short ∷ [])) (declarators.Declarator (declarator.Bare 0 (107 ∷ []) 58 dims.NoDims) declarators.NoDeclarators) members.NoMembers)))) ([])) ∷ (item.Function 62 3 false (spec.Integer 62 (word.Int ∷ [])) 0 (109 ∷ 97 ∷ 105 ∷ 110 ∷ []) 63 params.Void (source.Block 67 3 (items.Declaration (local 68 3 false (spec.Integer 68 (word.Char ∷ [])) (declarators.Declarator (declarator.Initial 0 (120 ∷ 53 ∷ []) 69 dims.NoDims (init.Value (tree.Paren (mark 71 71 4) (tree.Join (mark 72 75 4) (joint.Assign sign.StarAssign) (tree.Unary (mark 72 72 4) sign.Star (tree.Unary (mark 73 73 4) sign.Amp (tree.Name (mark 74 74 4) (97 ∷ 51 ∷ [])))) (tree.Join (mark 76 77 4) (joint.Binary sign.Star) (tree.Name (mark 76 76 4) (116 ∷ 50 ∷ [])) (tree.Name (mark 78 78 5) (97 ∷ 51 ∷ []))))))) declarators.NoDeclarators)) (items.Statement (source.Expr 81 6 (Some (tree.Join (mark 81 82 6) (joint.Assign sign.Assign) (tree.Name (mark 81 81 6) (116 ∷ 50 ∷ [])) (tree.Unary (mark 83 83 6) sign.Not (tree.Paren (mark 84 84 6) (tree.Step (mark 85 88 6) true true (tree.Paren (mark 85 85 6) (tree.Name (mark 86 86 6) (97 ∷ 51 ∷ []))))))))) (items.Statement (source.Expr 91 7 (Some (tree.Step (mark 91 94 7) true true (tree.Paren (mark 91 91 7) (tree.Name (mark 92 92 7) (120 ∷ 53 ∷ [])))))) (items.Statement (source.Return 96 8 (Some (tree.Join (mark 97 98 8) (joint.Binary sign.Minus) (tree.Name (mark 97 97 8) (120 ∷ 53 ∷ [])) (tree.Number (mark 99 99 8) (pos 9) int.Int)))) items.NoItems)))))) ∷ [])

abbrev pub typed_twenty_two : TypedProgram
typed_twenty_two = record { structs = (record { complete = true; members = (record { name = (109 ∷ []); ty = (type.Pointer (type.Struct 0)) } ∷ record { name = (110 ∷ []); ty = (type.Int int.UChar) } ∷ record { name = (107 ∷ []); ty = (type.Pointer (type.Struct 0)) } ∷ []) } ∷ record { complete = true; members = (record { name = (109 ∷ []); ty = (type.Pointer (type.Int int.ULong)) } ∷ record { name = (110 ∷ []); ty = (type.Array (type.Int int.UInt) 3) } ∷ record { name = (107 ∷ []); ty = (type.Int int.Short) } ∷ []) } ∷ []); statics = (record { name = record { name = (99 ∷ 49 ∷ []); line = 1 }; ty = (type.Struct 0); image = record { bytes = ([]); pointers = ([]) } } ∷ record { name = record { name = (116 ∷ 50 ∷ []); line = 2 }; ty = (type.Int int.Int); image = record { bytes = (64 ∷ []); pointers = ([]) } } ∷ record { name = record { name = (97 ∷ 51 ∷ []); line = 2 }; ty = (type.Int int.Int); image = record { bytes = (255 ∷ 255 ∷ 255 ∷ 127 ∷ []); pointers = ([]) } } ∷ record { name = record { name = (98 ∷ 52 ∷ []); line = 2 }; ty = (type.Array (type.Int int.Int) 1); image = record { bytes = ([]); pointers = ([]) } } ∷ []); functions = (record { name = (109 ∷ 97 ∷ 105 ∷ 110 ∷ []); result = (type.Int int.Int); params = 0; locals = ((type.Int int.Char) ∷ []); names = (record { name = (120 ∷ 53 ∷ []); line = 3 } ∷ []); nodes = 21; weight = 224; body = (tstmt.Block (tstmts.Stmt (tstmt.Init 0 (tinit.Value (texpr.Typed 4 (type.Int int.Char) (tnode.Convert int.Char (texpr.Typed 4 (type.Int int.Int) (tnode.Update op.Mul int.Int false (tplace.Place 4 (type.Int int.Int) (tlean.Static 2)) (texpr.Typed 4 (type.Int int.Int) (tnode.Arith op.Mul int.Int (texpr.Typed 4 (type.Int int.Int) (tnode.Read (tplace.Place 4 (type.Int int.Int) (tlean.Static 1)))) (texpr.Typed 5 (type.Int int.Int) (tnode.Read (tplace.Place 5 (type.Int int.Int) (tlean.Static 2)))))))))))) (tstmts.Stmt (tstmt.Expr (texpr.Typed 6 (type.Int int.Int) (tnode.Assign (tplace.Place 6 (type.Int int.Int) (tlean.Static 1)) (texpr.Typed 6 (type.Int int.Int) (tnode.Compare relation.Eq (texpr.Typed 6 (type.Int int.Int) (tnode.Update op.Sub int.Int true (tplace.Place 6 (type.Int int.Int) (tlean.Static 2)) (texpr.Typed 6 (type.Int int.Int) (tnode.Num (pos 1))))) (texpr.Typed 6 (type.Int int.Int) (tnode.Num (pos 0)))))))) (tstmts.Stmt (tstmt.Expr (texpr.Typed 7 (type.Int int.Char) (tnode.Update op.Sub int.Int true (tplace.Place 7 (type.Int int.Char) (tlean.Local 0)) (texpr.Typed 7 (type.Int int.Int) (tnode.Num (pos 1)))))) (tstmts.Stmt (tstmt.Return (Some (texpr.Typed 8 (type.Int int.Int) (tnode.Arith op.Sub int.Int (texpr.Typed 8 (type.Int int.Int) (tnode.Convert int.Int (texpr.Typed 8 (type.Int int.Char) (tnode.Read (tplace.Place 8 (type.Int int.Char) (tlean.Local 0)))))) (texpr.Typed 8 (type.Int int.Int) (tnode.Num (pos 9))))))) tstmts.NoStmts))))) } ∷ []); main = 0 }

-- Among its rules: `<<=`.
--     static void *f0(int t1){int *c2[
--     2];;return (!0,*((void **)((
--     void **)0)));}int main(void){unsigned short int b3[1]={
--     *((long *)(
--     (
--     long *)0))};(b3[5ull]<<=(b3[7]+='\0'));*((9&&127)+b3)=(0xffffffffffffffff*2);return (-2)-(-4);}
abbrev pub program_twenty_three : ProgramTree
program_twenty_three = ((item.Function 0 1 true (spec.Void 1) 1 (102 ∷ 48 ∷ []) 3 (params.Listed ((param 5 1 (spec.Integer 5 (word.Int ∷ [])) 0 (Some (116 ∷ 49 ∷ [])) 6 dims.NoDims) ∷ [])) (source.Block 8 1 (items.Declaration (local 9 1 false (spec.Integer 9 (word.Int ∷ [])) (declarators.Declarator (declarator.Bare 1 (99 ∷ 50 ∷ []) 11 (dims.Sized (tree.Number (mark 13 13 2) (pos 2) int.Int) dims.NoDims)) declarators.NoDeclarators)) (items.Statement (source.Expr 16 2 None) (items.Statement (source.Return 17 2 (Some (tree.Paren (mark 18 18 2) (tree.Join (mark 19 21 2) joint.Comma (tree.Unary (mark 19 19 2) sign.Not (tree.Number (mark 20 20 2) (pos 0) int.Int)) (tree.Unary (mark 22 22 2) sign.Star (tree.Paren (mark 23 23 2) (tree.Cast (mark 24 24 2) (named.TypeName (spec.Void 25) 2 dims.NoDims) (tree.Paren (mark 29 29 2) (tree.Cast (mark 30 30 2) (named.TypeName (spec.Void 31) 2 dims.NoDims) (tree.Number (mark 35 35 3) (pos 0) int.Int)))))))))) items.NoItems))))) ∷ (item.Function 41 3 false (spec.Integer 41 (word.Int ∷ [])) 0 (109 ∷ 97 ∷ 105 ∷ 110 ∷ []) 42 params.Void (source.Block 46 3 (items.Declaration (local 47 3 false (spec.Integer 47 (word.Unsigned ∷ word.Short ∷ word.Int ∷ [])) (declarators.Declarator (declarator.Initial 0 (98 ∷ 51 ∷ []) 50 (dims.Sized (tree.Number (mark 52 52 3) (pos 1) int.Int) dims.NoDims) (init.Braces 55 (inits.Item (init.Value (tree.Unary (mark 56 56 4) sign.Star (tree.Paren (mark 57 57 4) (tree.Cast (mark 58 58 4) (named.TypeName (spec.Integer 59 (word.Long ∷ [])) 1 dims.NoDims) (tree.Paren (mark 62 62 4) (tree.Cast (mark 63 63 5) (named.TypeName (spec.Integer 64 (word.Long ∷ [])) 1 dims.NoDims) (tree.Number (mark 67 67 6) (pos 0) int.Int))))))) inits.NoItems) false)) declarators.NoDeclarators)) (items.Statement (source.Expr 72 6 (Some (tree.Paren (mark 72 72 6) (tree.Join (mark 73 77 6) (joint.Assign sign.ShlAssign) (tree.Index (mark 73 74 6) (tree.Name (mark 73 73 6) (98 ∷ 51 ∷ [])) (tree.Number (mark 75 75 6) (pos 5) int.ULLong)) (tree.Paren (mark 78 78 6) (tree.Join (mark 79 83 6) (joint.Assign sign.PlusAssign) (tree.Index (mark 79 80 6) (tree.Name (mark 79 79 6) (98 ∷ 51 ∷ [])) (tree.Number (mark 81 81 6) (pos 7) int.Int)) (tree.Number (mark 84 84 6) (pos 0) int.Int))))))) (items.Statement (source.Expr 88 6 (Some (tree.Join (mark 88 98 6) (joint.Assign sign.Assign) (tree.Unary (mark 88 88 6) sign.Star (tree.Paren (mark 89 89 6) (tree.Join (mark 90 95 6) (joint.Binary sign.Plus) (tree.Paren (mark 90 90 6) (tree.Join (mark 91 92 6) (joint.Binary sign.AndAnd) (tree.Number (mark 91 91 6) (pos 9) int.Int) (tree.Number (mark 93 93 6) (pos 127) int.Int))) (tree.Name (mark 96 96 6) (98 ∷ 51 ∷ []))))) (tree.Paren (mark 99 99 6) (tree.Join (mark 100 101 6) (joint.Binary sign.Star) (tree.Number (mark 100 100 6) (pos 18446744073709551615) int.ULong) (tree.Number (mark 102 102 6) (pos 2) int.Int)))))) (items.Statement (source.Return 105 6 (Some (tree.Join (mark 106 110 6) (joint.Binary sign.Minus) (tree.Paren (mark 106 106 6) (tree.Unary (mark 107 107 6) sign.Minus (tree.Number (mark 108 108 6) (pos 2) int.Int))) (tree.Paren (mark 111 111 6) (tree.Unary (mark 112 112 6) sign.Minus (tree.Number (mark 113 113 6) (pos 4) int.Int)))))) items.NoItems)))))) ∷ [])

abbrev pub typed_twenty_three : TypedProgram
typed_twenty_three = record { structs = ([]); statics = ([]); functions = (record { name = (102 ∷ 48 ∷ []); result = (type.Pointer type.Void); params = 1; locals = ((type.Int int.Int) ∷ (type.Array (type.Pointer (type.Int int.Int)) 2) ∷ []); names = (record { name = (116 ∷ 49 ∷ []); line = 1 } ∷ record { name = (99 ∷ 50 ∷ []); line = 1 } ∷ []); nodes = 11; weight = 136; body = (tstmt.Block (tstmts.Stmt tstmt.Empty (tstmts.Stmt (tstmt.Return (Some (texpr.Typed 2 (type.Pointer type.Void) (tnode.Comma (texpr.Typed 2 (type.Int int.Int) (tnode.Compare relation.Eq (texpr.Typed 2 (type.Int int.Int) (tnode.Num (pos 0))) (texpr.Typed 2 (type.Int int.Int) (tnode.Num (pos 0))))) (texpr.Typed 2 (type.Pointer type.Void) (tnode.Read (tplace.Place 2 (type.Pointer type.Void) (tlean.Value (texpr.Typed 3 (type.Pointer (type.Pointer type.Void)) tnode.Null))))))))) tstmts.NoStmts))) } ∷ record { name = (109 ∷ 97 ∷ 105 ∷ 110 ∷ []); result = (type.Int int.Int); params = 0; locals = ((type.Array (type.Int int.UShort) 1) ∷ []); names = (record { name = (98 ∷ 51 ∷ []); line = 3 } ∷ []); nodes = 38; weight = 368; body = (tstmt.Block (tstmts.Stmt (tstmt.Init 0 (tinit.Items (tinits.Item (tinit.Value (texpr.Typed 4 (type.Int int.UShort) (tnode.Convert int.UShort (texpr.Typed 4 (type.Int int.Long) (tnode.Read (tplace.Place 4 (type.Int int.Long) (tlean.Value (texpr.Typed 6 (type.Pointer (type.Int int.Long)) tnode.Null)))))))) tinits.NoItems))) (tstmts.Stmt (tstmt.Expr (texpr.Typed 6 (type.Int int.UShort) (tnode.Update op.Shl int.Int false (tplace.Place 6 (type.Int int.UShort) (tlean.Slide (tlean.Local 0) 2 false false (texpr.Typed 6 (type.Int int.ULLong) (tnode.Num (pos 5))))) (texpr.Typed 6 (type.Int int.Int) (tnode.Convert int.Int (texpr.Typed 6 (type.Int int.UShort) (tnode.Update op.Add int.Int false (tplace.Place 6 (type.Int int.UShort) (tlean.Slide (tlean.Local 0) 2 false false (texpr.Typed 6 (type.Int int.Int) (tnode.Num (pos 7))))) (texpr.Typed 6 (type.Int int.Int) (tnode.Num (pos 0)))))))))) (tstmts.Stmt (tstmt.Expr (texpr.Typed 6 (type.Int int.UShort) (tnode.Assign (tplace.Place 6 (type.Int int.UShort) (tlean.Slide (tlean.Local 0) 2 false true (texpr.Typed 6 (type.Int int.Int) (tnode.And (texpr.Typed 6 (type.Int int.Int) (tnode.Num (pos 9))) (texpr.Typed 6 (type.Int int.Int) (tnode.Num (pos 127))))))) (texpr.Typed 6 (type.Int int.UShort) (tnode.Convert int.UShort (texpr.Typed 6 (type.Int int.ULong) (tnode.Arith op.Mul int.ULong (texpr.Typed 6 (type.Int int.ULong) (tnode.Num (pos 18446744073709551615))) (texpr.Typed 6 (type.Int int.ULong) (tnode.Convert int.ULong (texpr.Typed 6 (type.Int int.Int) (tnode.Num (pos 2)))))))))))) (tstmts.Stmt (tstmt.Return (Some (texpr.Typed 6 (type.Int int.Int) (tnode.Arith op.Sub int.Int (texpr.Typed 6 (type.Int int.Int) (tnode.Arith op.Sub int.Int (texpr.Typed 6 (type.Int int.Int) (tnode.Num (pos 0))) (texpr.Typed 6 (type.Int int.Int) (tnode.Num (pos 2))))) (texpr.Typed 6 (type.Int int.Int) (tnode.Arith op.Sub int.Int (texpr.Typed 6 (type.Int int.Int) (tnode.Num (pos 0))) (texpr.Typed 6 (type.Int int.Int) (tnode.Num (pos 4))))))))) tstmts.NoStmts))))) } ∷ []); main = 1 }
