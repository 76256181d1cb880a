-- Programs made at random, with the typed trees that another implementation of the rules gave. Together they have
-- each operator, statement and type.
use Rattle.std.specs.Prelude.{pos, negsuc, true, false, Some, None, [], ◌∷◌}
use Rattle.ob_words.specs.declared.types.IntType.TheVariants as int
use Rattle.ob_words.specs.declared.types.BinOp.TheVariants as op
use Rattle.ob_words.specs.declared.types.Relation.TheVariants as relation
use Rattle.ob_tree.specs.declared.tokens.Keyword.TheVariants as word
use Rattle.ob_tree.specs.declared.tokens.Sign.TheVariants as sign
use Rattle.ob_tree.specs.Trees.{ExprTree as tree, ExprTrees as trees, TypeTree as named, SpecTree as spec, MemberTrees as members, ObjTree as declarator, ObjTrees as declarators, DimTrees as dims, InitTree as init, InitTrees as inits, Infix as joint}
use Rattle.ob_tree.specs.Programs.{ProgramTree}
use Rattle.ob_tree.specs.Programs.{StmtTree as source, StartTree as start, BlockTrees as items, ParamsTree as params, FileTree as file, ItemTree as item}
use Rattle.ob_tree.specs.Types.{PlainType as type}
use Rattle.ob_typed.specs.declared.names.Builtin.TheVariants as builtin
use Rattle.ob_typed.specs.Examples.{mark, param, local}
use Rattle.ob_typed.specs.TypedTree.{TypedProgram}
use Rattle.ob_typed.specs.TypedTree.{TypedExpr as texpr, TypedExprs as texprs, TypedPlace as tplace, TypedLean as tlean, TypedNode as tnode, TypedInit as tinit, TypedInits as tinits, TypedStmt as tstmt, TypedStmts as tstmts}

-- Among its rules: `/=`, `^=`.
--     int *q1=(void*)0;int t2=-21,a3;void f0(void){unsigned long long int q4[][1]={{(--*&a3)<<(sizeof t2)}};if(putchar(EOF+a3)){*((short int ***)NULL)=*
--     ((short int ***)NULL);}else ((a3/=sizeof(long int )))!=(-7);}int main(void){static int *x5=&a3+1;(2)[x5];return (*(41+q1)^=sizeof(unsigned long long int *));}
abbrev pub program_nine : ProgramTree
program_nine = ((item.Decls 0 1 false (spec.Integer 0 (word.Int ∷ [])) ((file.Object (declarator.Initial 1 (113 ∷ 49 ∷ []) 2 dims.NoDims (init.Value (tree.Cast (mark 4 4 1) (named.TypeName (spec.Void 5) 1 dims.NoDims) (tree.Number (mark 8 8 1) (pos 0) int.Int))))) ∷ [])) ∷ (item.Decls 10 1 false (spec.Integer 10 (word.Int ∷ [])) ((file.Object (declarator.Initial 0 (116 ∷ 50 ∷ []) 11 dims.NoDims (init.Value (tree.Unary (mark 13 13 1) sign.Minus (tree.Number (mark 14 14 1) (pos 21) int.Int))))) ∷ (file.Object (declarator.Bare 0 (97 ∷ 51 ∷ []) 16 dims.NoDims)) ∷ [])) ∷ (item.Function 18 1 false (spec.Void 18) 0 (102 ∷ 48 ∷ []) 19 params.Void (source.Block 23 1 (items.Declaration (local 24 1 false (spec.Integer 24 (word.Unsigned ∷ word.Long ∷ word.Long ∷ word.Int ∷ [])) (declarators.Declarator (declarator.Initial 0 (113 ∷ 52 ∷ []) 28 (dims.Unsized (dims.Sized (tree.Number (mark 32 32 1) (pos 1) int.Int) dims.NoDims)) (init.Braces 35 (inits.Item (init.Braces 36 (inits.Item (init.Value (tree.Join (mark 37 43 1) (joint.Binary sign.Shl) (tree.Paren (mark 37 37 1) (tree.Step (mark 38 38 1) false true (tree.Unary (mark 39 39 1) sign.Star (tree.Unary (mark 40 40 1) sign.Amp (tree.Name (mark 41 41 1) (97 ∷ 51 ∷ [])))))) (tree.Paren (mark 44 44 1) (tree.SizeExpr (mark 45 45 1) (tree.Name (mark 46 46 1) (116 ∷ 50 ∷ [])))))) inits.NoItems) false) inits.NoItems) false)) declarators.NoDeclarators)) (items.Statement (source.IfElse 51 1 (tree.Call (mark 53 53 1) (112 ∷ 117 ∷ 116 ∷ 99 ∷ 104 ∷ 97 ∷ 114 ∷ []) (trees.Argument (tree.Join (mark 55 56 1) (joint.Binary sign.Plus) (tree.Eof (mark 55 55 1)) (tree.Name (mark 57 57 1) (97 ∷ 51 ∷ []))) trees.NoArguments)) (source.Block 60 1 (items.Statement (source.Expr 61 1 (Some (tree.Join (mark 61 72 1) (joint.Assign sign.Assign) (tree.Unary (mark 61 61 1) sign.Star (tree.Paren (mark 62 62 1) (tree.Cast (mark 63 63 1) (named.TypeName (spec.Integer 64 (word.Short ∷ word.Int ∷ [])) 3 dims.NoDims) (tree.Null (mark 70 70 1))))) (tree.Unary (mark 73 73 1) sign.Star (tree.Paren (mark 74 74 2) (tree.Cast (mark 75 75 2) (named.TypeName (spec.Integer 76 (word.Short ∷ word.Int ∷ [])) 3 dims.NoDims) (tree.Null (mark 82 82 2)))))))) items.NoItems)) (source.Expr 87 2 (Some (tree.Join (mark 87 98 2) (joint.Binary sign.NotEq) (tree.Paren (mark 87 87 2) (tree.Paren (mark 88 88 2) (tree.Join (mark 89 90 2) (joint.Assign sign.SlashAssign) (tree.Name (mark 89 89 2) (97 ∷ 51 ∷ [])) (tree.SizeType (mark 91 91 2) (named.TypeName (spec.Integer 93 (word.Long ∷ word.Int ∷ [])) 0 dims.NoDims))))) (tree.Paren (mark 99 99 2) (tree.Unary (mark 100 100 2) sign.Minus (tree.Number (mark 101 101 2) (pos 7) int.Int))))))) items.NoItems)))) ∷ (item.Function 105 2 false (spec.Integer 105 (word.Int ∷ [])) 0 (109 ∷ 97 ∷ 105 ∷ 110 ∷ []) 106 params.Void (source.Block 110 2 (items.Declaration (local 111 2 true (spec.Integer 112 (word.Int ∷ [])) (declarators.Declarator (declarator.Initial 1 (120 ∷ 53 ∷ []) 114 dims.NoDims (init.Value (tree.Join (mark 116 118 2) (joint.Binary sign.Plus) (tree.Unary (mark 116 116 2) sign.Amp (tree.Name (mark 117 117 2) (97 ∷ 51 ∷ []))) (tree.Number (mark 119 119 2) (pos 1) int.Int)))) declarators.NoDeclarators)) (items.Statement (source.Expr 121 2 (Some (tree.Index (mark 121 124 2) (tree.Paren (mark 121 121 2) (tree.Number (mark 122 122 2) (pos 2) int.Int)) (tree.Name (mark 125 125 2) (120 ∷ 53 ∷ []))))) (items.Statement (source.Return 128 2 (Some (tree.Paren (mark 129 129 2) (tree.Join (mark 130 136 2) (joint.Assign sign.CaretAssign) (tree.Unary (mark 130 130 2) sign.Star (tree.Paren (mark 131 131 2) (tree.Join (mark 132 133 2) (joint.Binary sign.Plus) (tree.Number (mark 132 132 2) (pos 41) int.Int) (tree.Name (mark 134 134 2) (113 ∷ 49 ∷ []))))) (tree.SizeType (mark 137 137 2) (named.TypeName (spec.Integer 139 (word.Unsigned ∷ word.Long ∷ word.Long ∷ word.Int ∷ [])) 1 dims.NoDims)))))) items.NoItems))))) ∷ [])

abbrev pub typed_nine : TypedProgram
typed_nine = record { structs = ([]); statics = (record { name = record { name = (113 ∷ 49 ∷ []); line = 1 }; ty = (type.Pointer (type.Int int.Int)); image = record { bytes = ([]); pointers = ([]) } } ∷ record { name = record { name = (116 ∷ 50 ∷ []); line = 1 }; ty = (type.Int int.Int); image = record { bytes = (235 ∷ 255 ∷ 255 ∷ 255 ∷ []); pointers = ([]) } } ∷ record { name = record { name = (97 ∷ 51 ∷ []); line = 1 }; ty = (type.Int int.Int); image = record { bytes = ([]); pointers = ([]) } } ∷ record { name = record { name = (120 ∷ 53 ∷ []); line = 2 }; ty = (type.Pointer (type.Int int.Int)); image = record { bytes = ([]); pointers = (record { at = 0; target = 2; offset = 4 } ∷ []) } } ∷ []); functions = (record { name = (102 ∷ 48 ∷ []); result = type.Void; params = 0; locals = ((type.Array (type.Array (type.Int int.ULLong) 1) 1) ∷ []); names = (record { name = (113 ∷ 52 ∷ []); line = 1 } ∷ []); nodes = 32; weight = 336; body = (tstmt.Block (tstmts.Stmt (tstmt.Init 0 (tinit.Items (tinits.Item (tinit.Items (tinits.Item (tinit.Value (texpr.Typed 1 (type.Int int.ULLong) (tnode.Convert int.ULLong (texpr.Typed 1 (type.Int int.Int) (tnode.Arith op.Shl int.Int (texpr.Typed 1 (type.Int int.Int) (tnode.Update op.Sub int.Int false (tplace.Place 1 (type.Int int.Int) (tlean.Static 2)) (texpr.Typed 1 (type.Int int.Int) (tnode.Num (pos 1))))) (texpr.Typed 1 (type.Int int.ULong) (tnode.Num (pos 4)))))))) tinits.NoItems)) tinits.NoItems))) (tstmts.Stmt (tstmt.IfElse (texpr.Typed 1 (type.Int int.Int) (tnode.CallBuiltin builtin.PutChar (texprs.Argument (texpr.Typed 1 (type.Int int.Int) (tnode.Arith op.Add int.Int (texpr.Typed 1 (type.Int int.Int) (tnode.Num (negsuc 0))) (texpr.Typed 1 (type.Int int.Int) (tnode.Read (tplace.Place 1 (type.Int int.Int) (tlean.Static 2)))))) texprs.NoArguments))) (tstmt.Block (tstmts.Stmt (tstmt.Expr (texpr.Typed 1 (type.Pointer (type.Pointer (type.Int int.Short))) (tnode.Assign (tplace.Place 1 (type.Pointer (type.Pointer (type.Int int.Short))) (tlean.Value (texpr.Typed 1 (type.Pointer (type.Pointer (type.Pointer (type.Int int.Short)))) tnode.Null))) (texpr.Typed 1 (type.Pointer (type.Pointer (type.Int int.Short))) (tnode.Read (tplace.Place 1 (type.Pointer (type.Pointer (type.Int int.Short))) (tlean.Value (texpr.Typed 2 (type.Pointer (type.Pointer (type.Pointer (type.Int int.Short)))) tnode.Null)))))))) tstmts.NoStmts)) (tstmt.Expr (texpr.Typed 2 (type.Int int.Int) (tnode.Compare relation.Ne (texpr.Typed 2 (type.Int int.Int) (tnode.Update op.Div int.ULong false (tplace.Place 2 (type.Int int.Int) (tlean.Static 2)) (texpr.Typed 2 (type.Int int.ULong) (tnode.Num (pos 8))))) (texpr.Typed 2 (type.Int int.Int) (tnode.Arith op.Sub int.Int (texpr.Typed 2 (type.Int int.Int) (tnode.Num (pos 0))) (texpr.Typed 2 (type.Int int.Int) (tnode.Num (pos 7))))))))) tstmts.NoStmts))) } ∷ record { name = (109 ∷ 97 ∷ 105 ∷ 110 ∷ []); result = (type.Int int.Int); params = 0; locals = ([]); names = ([]); nodes = 16; weight = 160; body = (tstmt.Block (tstmts.Stmt (tstmt.Expr (texpr.Typed 2 (type.Int int.Int) (tnode.Read (tplace.Place 2 (type.Int int.Int) (tlean.Slide (tlean.Value (texpr.Typed 2 (type.Pointer (type.Int int.Int)) (tnode.Read (tplace.Place 2 (type.Pointer (type.Int int.Int)) (tlean.Static 3))))) 4 false true (texpr.Typed 2 (type.Int int.Int) (tnode.Num (pos 2)))))))) (tstmts.Stmt (tstmt.Return (Some (texpr.Typed 2 (type.Int int.Int) (tnode.Update op.Xor int.ULong false (tplace.Place 2 (type.Int int.Int) (tlean.Slide (tlean.Value (texpr.Typed 2 (type.Pointer (type.Int int.Int)) (tnode.Read (tplace.Place 2 (type.Pointer (type.Int int.Int)) (tlean.Static 0))))) 4 false true (texpr.Typed 2 (type.Int int.Int) (tnode.Num (pos 41))))) (texpr.Typed 2 (type.Int int.ULong) (tnode.Num (pos 8))))))) tstmts.NoStmts))) } ∷ []); main = 1 }

-- Among its rules: `>`, `%=`.
--     struct S0{long **m;} b1;char x2=0?2
--     :28;int main(void){struct S0 a3[2u][1];static struct S0 *y4=(void
--     *)0;x2=((x2
--     )=((int **)NULL)
--     -((int **)((int
--      **)0)));(x2)=((x2))>(0!=0);return (x2%='\377');}
abbrev pub program_ten : ProgramTree
program_ten = ((item.Decls 0 1 false (spec.Struct 0 (Some (83 ∷ 48 ∷ [])) (members.MemberLine (spec.Integer 3 (word.Long ∷ [])) (declarators.Declarator (declarator.Bare 2 (109 ∷ []) 6 dims.NoDims) declarators.NoDeclarators) members.NoMembers)) ((file.Object (declarator.Bare 0 (98 ∷ 49 ∷ []) 9 dims.NoDims)) ∷ [])) ∷ (item.Decls 11 1 false (spec.Integer 11 (word.Char ∷ [])) ((file.Object (declarator.Initial 0 (120 ∷ 50 ∷ []) 12 dims.NoDims (init.Value (tree.Cond (mark 14 15 1) (tree.Number (mark 14 14 1) (pos 0) int.Int) (tree.Number (mark 16 16 1) (pos 2) int.Int) (tree.Number (mark 18 18 2) (pos 28) int.Int))))) ∷ [])) ∷ (item.Function 20 2 false (spec.Integer 20 (word.Int ∷ [])) 0 (109 ∷ 97 ∷ 105 ∷ 110 ∷ []) 21 params.Void (source.Block 25 2 (items.Declaration (local 26 2 false (spec.Tag 26 (83 ∷ 48 ∷ [])) (declarators.Declarator (declarator.Bare 0 (97 ∷ 51 ∷ []) 28 (dims.Sized (tree.Number (mark 30 30 2) (pos 2) int.UInt) (dims.Sized (tree.Number (mark 33 33 2) (pos 1) int.Int) dims.NoDims))) declarators.NoDeclarators)) (items.Declaration (local 36 2 true (spec.Tag 37 (83 ∷ 48 ∷ [])) (declarators.Declarator (declarator.Initial 1 (121 ∷ 52 ∷ []) 40 dims.NoDims (init.Value (tree.Cast (mark 42 42 2) (named.TypeName (spec.Void 43) 1 dims.NoDims) (tree.Number (mark 46 46 3) (pos 0) int.Int)))) declarators.NoDeclarators)) (items.Statement (source.Expr 48 3 (Some (tree.Join (mark 48 49 3) (joint.Assign sign.Assign) (tree.Name (mark 48 48 3) (120 ∷ 50 ∷ [])) (tree.Paren (mark 50 50 3) (tree.Join (mark 51 54 3) (joint.Assign sign.Assign) (tree.Paren (mark 51 51 3) (tree.Name (mark 52 52 3) (120 ∷ 50 ∷ []))) (tree.Join (mark 55 63 4) (joint.Binary sign.Minus) (tree.Paren (mark 55 55 4) (tree.Cast (mark 56 56 4) (named.TypeName (spec.Integer 57 (word.Int ∷ [])) 2 dims.NoDims) (tree.Null (mark 61 61 4)))) (tree.Paren (mark 64 64 5) (tree.Cast (mark 65 65 5) (named.TypeName (spec.Integer 66 (word.Int ∷ [])) 2 dims.NoDims) (tree.Paren (mark 70 70 5) (tree.Cast (mark 71 71 5) (named.TypeName (spec.Integer 72 (word.Int ∷ [])) 2 dims.NoDims) (tree.Number (mark 76 76 6) (pos 0) int.Int))))))))))) (items.Statement (source.Expr 81 6 (Some (tree.Join (mark 81 84 6) (joint.Assign sign.Assign) (tree.Paren (mark 81 81 6) (tree.Name (mark 82 82 6) (120 ∷ 50 ∷ []))) (tree.Join (mark 85 90 6) (joint.Binary sign.Gt) (tree.Paren (mark 85 85 6) (tree.Paren (mark 86 86 6) (tree.Name (mark 87 87 6) (120 ∷ 50 ∷ [])))) (tree.Paren (mark 91 91 6) (tree.Join (mark 92 93 6) (joint.Binary sign.NotEq) (tree.Number (mark 92 92 6) (pos 0) int.Int) (tree.Number (mark 94 94 6) (pos 0) int.Int))))))) (items.Statement (source.Return 97 6 (Some (tree.Paren (mark 98 98 6) (tree.Join (mark 99 100 6) (joint.Assign sign.PercentAssign) (tree.Name (mark 99 99 6) (120 ∷ 50 ∷ [])) (tree.Number (mark 101 101 6) (negsuc 0) int.Int))))) items.NoItems))))))) ∷ [])

abbrev pub typed_ten : TypedProgram
typed_ten = record { structs = (record { complete = true; members = (record { name = (109 ∷ []); ty = (type.Pointer (type.Pointer (type.Int int.Long))) } ∷ []) } ∷ []); statics = (record { name = record { name = (98 ∷ 49 ∷ []); line = 1 }; ty = (type.Struct 0); image = record { bytes = ([]); pointers = ([]) } } ∷ record { name = record { name = (120 ∷ 50 ∷ []); line = 1 }; ty = (type.Int int.Char); image = record { bytes = (28 ∷ []); pointers = ([]) } } ∷ record { name = record { name = (121 ∷ 52 ∷ []); line = 2 }; ty = (type.Pointer (type.Struct 0)); image = record { bytes = ([]); pointers = ([]) } } ∷ []); functions = (record { name = (109 ∷ 97 ∷ 105 ∷ 110 ∷ []); result = (type.Int int.Int); params = 0; locals = ((type.Array (type.Array (type.Struct 0) 1) 2) ∷ []); names = (record { name = (97 ∷ 51 ∷ []); line = 2 } ∷ []); nodes = 34; weight = 320; body = (tstmt.Block (tstmts.Stmt (tstmt.Expr (texpr.Typed 3 (type.Int int.Char) (tnode.Assign (tplace.Place 3 (type.Int int.Char) (tlean.Static 1)) (texpr.Typed 3 (type.Int int.Char) (tnode.Assign (tplace.Place 3 (type.Int int.Char) (tlean.Static 1)) (texpr.Typed 4 (type.Int int.Char) (tnode.Convert int.Char (texpr.Typed 4 (type.Int int.Long) (tnode.PtrDiff 8 (texpr.Typed 4 (type.Pointer (type.Pointer (type.Int int.Int))) tnode.Null) (texpr.Typed 6 (type.Pointer (type.Pointer (type.Int int.Int))) tnode.Null)))))))))) (tstmts.Stmt (tstmt.Expr (texpr.Typed 6 (type.Int int.Char) (tnode.Assign (tplace.Place 6 (type.Int int.Char) (tlean.Static 1)) (texpr.Typed 6 (type.Int int.Char) (tnode.Convert int.Char (texpr.Typed 6 (type.Int int.Int) (tnode.Compare relation.Gt (texpr.Typed 6 (type.Int int.Int) (tnode.Convert int.Int (texpr.Typed 6 (type.Int int.Char) (tnode.Read (tplace.Place 6 (type.Int int.Char) (tlean.Static 1)))))) (texpr.Typed 6 (type.Int int.Int) (tnode.Compare relation.Ne (texpr.Typed 6 (type.Int int.Int) (tnode.Num (pos 0))) (texpr.Typed 6 (type.Int int.Int) (tnode.Num (pos 0)))))))))))) (tstmts.Stmt (tstmt.Return (Some (texpr.Typed 6 (type.Int int.Int) (tnode.Convert int.Int (texpr.Typed 6 (type.Int int.Char) (tnode.Update op.Rem int.Int false (tplace.Place 6 (type.Int int.Char) (tlean.Static 1)) (texpr.Typed 6 (type.Int int.Int) (tnode.Num (negsuc 0))))))))) tstmts.NoStmts)))) } ∷ []); main = 0 }

-- Among its rules: `if`.
--     struct X
--     {char b;int c
--     [2];} x
--     ;int a
--     [3]
--     ;int i;int f(int p,
--     int q
--     )
--     {return p
--     ;}void * g(int
--     p[][3]){struct X
--     v8=x;for
--     (
--     ;;)
--     {}return 0;}int main(void){struct
--     Y{int m[1
--     +2];}
--     v40;i=
--     2;if
--     (sizeof i)
--     i=2;}
abbrev pub program_eleven : ProgramTree
program_eleven = ((item.Decls 0 1 false (spec.Struct 0 (Some (88 ∷ [])) (members.MemberLine (spec.Integer 3 (word.Char ∷ [])) (declarators.Declarator (declarator.Bare 0 (98 ∷ []) 4 dims.NoDims) declarators.NoDeclarators) (members.MemberLine (spec.Integer 6 (word.Int ∷ [])) (declarators.Declarator (declarator.Bare 0 (99 ∷ []) 7 (dims.Sized (tree.Number (mark 9 9 3) (pos 2) int.Int) dims.NoDims)) declarators.NoDeclarators) members.NoMembers))) ((file.Object (declarator.Bare 0 (120 ∷ []) 13 dims.NoDims)) ∷ [])) ∷ (item.Decls 15 4 false (spec.Integer 15 (word.Int ∷ [])) ((file.Object (declarator.Bare 0 (97 ∷ []) 16 (dims.Sized (tree.Number (mark 18 18 5) (pos 3) int.Int) dims.NoDims))) ∷ [])) ∷ (item.Decls 21 6 false (spec.Integer 21 (word.Int ∷ [])) ((file.Object (declarator.Bare 0 (105 ∷ []) 22 dims.NoDims)) ∷ [])) ∷ (item.Function 24 6 false (spec.Integer 24 (word.Int ∷ [])) 0 (102 ∷ []) 25 (params.Listed ((param 27 6 (spec.Integer 27 (word.Int ∷ [])) 0 (Some (112 ∷ [])) 28 dims.NoDims) ∷ (param 30 7 (spec.Integer 30 (word.Int ∷ [])) 0 (Some (113 ∷ [])) 31 dims.NoDims) ∷ [])) (source.Block 33 9 (items.Statement (source.Return 34 9 (Some (tree.Name (mark 35 35 9) (112 ∷ [])))) items.NoItems))) ∷ (item.Function 38 10 false (spec.Void 38) 1 (103 ∷ []) 40 (params.Listed ((param 42 10 (spec.Integer 42 (word.Int ∷ [])) 0 (Some (112 ∷ [])) 43 (dims.Unsized (dims.Sized (tree.Number (mark 47 47 11) (pos 3) int.Int) dims.NoDims))) ∷ [])) (source.Block 50 11 (items.Declaration (local 51 11 false (spec.Tag 51 (88 ∷ [])) (declarators.Declarator (declarator.Initial 0 (118 ∷ 56 ∷ []) 53 dims.NoDims (init.Value (tree.Name (mark 55 55 12) (120 ∷ [])))) declarators.NoDeclarators)) (items.Statement (source.For 57 12 (start.Expr None) None None (source.Block 62 15 items.NoItems)) (items.Statement (source.Return 64 15 (Some (tree.Number (mark 65 65 15) (pos 0) int.Int))) items.NoItems))))) ∷ (item.Function 68 15 false (spec.Integer 68 (word.Int ∷ [])) 0 (109 ∷ 97 ∷ 105 ∷ 110 ∷ []) 69 params.Void (source.Block 73 15 (items.Declaration (local 74 15 false (spec.Struct 74 (Some (89 ∷ [])) (members.MemberLine (spec.Integer 77 (word.Int ∷ [])) (declarators.Declarator (declarator.Bare 0 (109 ∷ []) 78 (dims.Sized (tree.Join (mark 80 81 16) (joint.Binary sign.Plus) (tree.Number (mark 80 80 16) (pos 1) int.Int) (tree.Number (mark 82 82 17) (pos 2) int.Int)) dims.NoDims)) declarators.NoDeclarators) members.NoMembers)) (declarators.Declarator (declarator.Bare 0 (118 ∷ 52 ∷ 48 ∷ []) 86 dims.NoDims) declarators.NoDeclarators)) (items.Statement (source.Expr 88 18 (Some (tree.Join (mark 88 89 18) (joint.Assign sign.Assign) (tree.Name (mark 88 88 18) (105 ∷ [])) (tree.Number (mark 90 90 19) (pos 2) int.Int)))) (items.Statement (source.If 92 19 (tree.SizeExpr (mark 94 94 20) (tree.Name (mark 95 95 20) (105 ∷ []))) (source.Expr 97 21 (Some (tree.Join (mark 97 98 21) (joint.Assign sign.Assign) (tree.Name (mark 97 97 21) (105 ∷ [])) (tree.Number (mark 99 99 21) (pos 2) int.Int))))) items.NoItems))))) ∷ [])

abbrev pub typed_eleven : TypedProgram
typed_eleven = record { structs = (record { complete = true; members = (record { name = (98 ∷ []); ty = (type.Int int.Char) } ∷ record { name = (99 ∷ []); ty = (type.Array (type.Int int.Int) 2) } ∷ []) } ∷ record { complete = true; members = (record { name = (109 ∷ []); ty = (type.Array (type.Int int.Int) 3) } ∷ []) } ∷ []); statics = (record { name = record { name = (120 ∷ []); line = 1 }; ty = (type.Struct 0); image = record { bytes = ([]); pointers = ([]) } } ∷ record { name = record { name = (97 ∷ []); line = 4 }; ty = (type.Array (type.Int int.Int) 3); image = record { bytes = ([]); pointers = ([]) } } ∷ record { name = record { name = (105 ∷ []); line = 6 }; ty = (type.Int int.Int); image = record { bytes = ([]); pointers = ([]) } } ∷ []); functions = (record { name = (102 ∷ []); result = (type.Int int.Int); params = 2; locals = ((type.Int int.Int) ∷ (type.Int int.Int) ∷ []); names = (record { name = (112 ∷ []); line = 6 } ∷ record { name = (113 ∷ []); line = 7 } ∷ []); nodes = 1; weight = 48; body = (tstmt.Block (tstmts.Stmt (tstmt.Return (Some (texpr.Typed 9 (type.Int int.Int) (tnode.Read (tplace.Place 9 (type.Int int.Int) (tlean.Local 0)))))) tstmts.NoStmts)) } ∷ record { name = (103 ∷ []); result = (type.Pointer type.Void); params = 1; locals = ((type.Pointer (type.Array (type.Int int.Int) 3)) ∷ (type.Struct 0) ∷ []); names = (record { name = (112 ∷ []); line = 10 } ∷ record { name = (118 ∷ 56 ∷ []); line = 11 } ∷ []); nodes = 3; weight = 112; body = (tstmt.Block (tstmts.Stmt (tstmt.Init 1 (tinit.Copy (tplace.Place 12 (type.Struct 0) (tlean.Static 0)))) (tstmts.Stmt (tstmt.For tstmts.NoStmts None None (tstmt.Block tstmts.NoStmts)) (tstmts.Stmt (tstmt.Return (Some (texpr.Typed 15 (type.Pointer type.Void) tnode.Null))) tstmts.NoStmts)))) } ∷ record { name = (109 ∷ 97 ∷ 105 ∷ 110 ∷ []); result = (type.Int int.Int); params = 0; locals = ((type.Struct 1) ∷ []); names = (record { name = (118 ∷ 52 ∷ 48 ∷ []); line = 15 } ∷ []); nodes = 11; weight = 136; body = (tstmt.Block (tstmts.Stmt (tstmt.Expr (texpr.Typed 18 (type.Int int.Int) (tnode.Assign (tplace.Place 18 (type.Int int.Int) (tlean.Static 2)) (texpr.Typed 19 (type.Int int.Int) (tnode.Num (pos 2)))))) (tstmts.Stmt (tstmt.If (texpr.Typed 20 (type.Int int.ULong) (tnode.Num (pos 4))) (tstmt.Expr (texpr.Typed 21 (type.Int int.Int) (tnode.Assign (tplace.Place 21 (type.Int int.Int) (tlean.Static 2)) (texpr.Typed 21 (type.Int int.Int) (tnode.Num (pos 2))))))) tstmts.NoStmts))) } ∷ []); main = 2 }

-- Among its rules: `->`.
--     long a[2];int main(void){struct Q{char m[524289];short n;}*p;p+1;p->n;}
abbrev pub program_twelve : ProgramTree
program_twelve = ((item.Decls 0 1 false (spec.Integer 0 (word.Long ∷ [])) ((file.Object (declarator.Bare 0 (97 ∷ []) 1 (dims.Sized (tree.Number (mark 3 3 1) (pos 2) int.Int) dims.NoDims))) ∷ [])) ∷ (item.Function 6 1 false (spec.Integer 6 (word.Int ∷ [])) 0 (109 ∷ 97 ∷ 105 ∷ 110 ∷ []) 7 params.Void (source.Block 11 1 (items.Declaration (local 12 1 false (spec.Struct 12 (Some (81 ∷ [])) (members.MemberLine (spec.Integer 15 (word.Char ∷ [])) (declarators.Declarator (declarator.Bare 0 (109 ∷ []) 16 (dims.Sized (tree.Number (mark 18 18 1) (pos 524289) int.Int) dims.NoDims)) declarators.NoDeclarators) (members.MemberLine (spec.Integer 21 (word.Short ∷ [])) (declarators.Declarator (declarator.Bare 0 (110 ∷ []) 22 dims.NoDims) declarators.NoDeclarators) members.NoMembers))) (declarators.Declarator (declarator.Bare 1 (112 ∷ []) 26 dims.NoDims) declarators.NoDeclarators)) (items.Statement (source.Expr 28 1 (Some (tree.Join (mark 28 29 1) (joint.Binary sign.Plus) (tree.Name (mark 28 28 1) (112 ∷ [])) (tree.Number (mark 30 30 1) (pos 1) int.Int)))) (items.Statement (source.Expr 32 1 (Some (tree.Arrow (mark 32 33 1) (tree.Name (mark 32 32 1) (112 ∷ [])) (110 ∷ [])))) items.NoItems))))) ∷ [])

abbrev pub typed_twelve : TypedProgram
typed_twelve = record { structs = (record { complete = true; members = (record { name = (109 ∷ []); ty = (type.Array (type.Int int.Char) 524289) } ∷ record { name = (110 ∷ []); ty = (type.Int int.Short) } ∷ []) } ∷ []); statics = (record { name = record { name = (97 ∷ []); line = 1 }; ty = (type.Array (type.Int int.Long) 2); image = record { bytes = ([]); pointers = ([]) } } ∷ []); functions = (record { name = (109 ∷ 97 ∷ 105 ∷ 110 ∷ []); result = (type.Int int.Int); params = 0; locals = ((type.Pointer (type.Struct 0)) ∷ []); names = (record { name = (112 ∷ []); line = 1 } ∷ []); nodes = 6; weight = 88; body = (tstmt.Block (tstmts.Stmt (tstmt.Expr (texpr.Typed 1 (type.Pointer (type.Struct 0)) (tnode.Lean (tlean.Slide (tlean.Value (texpr.Typed 1 (type.Pointer (type.Struct 0)) (tnode.Read (tplace.Place 1 (type.Pointer (type.Struct 0)) (tlean.Local 0))))) 524292 false false (texpr.Typed 1 (type.Int int.Int) (tnode.Num (pos 1))))))) (tstmts.Stmt (tstmt.Expr (texpr.Typed 1 (type.Int int.Short) (tnode.Read (tplace.Place 1 (type.Int int.Short) (tlean.Member (tlean.Value (texpr.Typed 1 (type.Pointer (type.Struct 0)) (tnode.Read (tplace.Place 1 (type.Pointer (type.Struct 0)) (tlean.Local 0))))) 524290))))) tstmts.NoStmts))) } ∷ []); main = 0 }

-- Among its rules: unary `+`.
--     struct
--      S0{short m;unsigned long int n;int k;};int main(void){*((unsigned int *)(0xffffffffffffffff?0:((unsigned int *)NULL)))=(unsigned long long int)((-
--     7)<<
--     5);return +7;}
abbrev pub program_thirteen : ProgramTree
program_thirteen = ((item.Decls 0 1 false (spec.Struct 0 (Some (83 ∷ 48 ∷ [])) (members.MemberLine (spec.Integer 3 (word.Short ∷ [])) (declarators.Declarator (declarator.Bare 0 (109 ∷ []) 4 dims.NoDims) declarators.NoDeclarators) (members.MemberLine (spec.Integer 6 (word.Unsigned ∷ word.Long ∷ word.Int ∷ [])) (declarators.Declarator (declarator.Bare 0 (110 ∷ []) 9 dims.NoDims) declarators.NoDeclarators) (members.MemberLine (spec.Integer 11 (word.Int ∷ [])) (declarators.Declarator (declarator.Bare 0 (107 ∷ []) 12 dims.NoDims) declarators.NoDeclarators) members.NoMembers)))) ([])) ∷ (item.Function 16 2 false (spec.Integer 16 (word.Int ∷ [])) 0 (109 ∷ 97 ∷ 105 ∷ 110 ∷ []) 17 params.Void (source.Block 21 2 (items.Statement (source.Expr 22 2 (Some (tree.Join (mark 22 44 2) (joint.Assign sign.Assign) (tree.Unary (mark 22 22 2) sign.Star (tree.Paren (mark 23 23 2) (tree.Cast (mark 24 24 2) (named.TypeName (spec.Integer 25 (word.Unsigned ∷ word.Int ∷ [])) 1 dims.NoDims) (tree.Paren (mark 29 29 2) (tree.Cond (mark 30 31 2) (tree.Number (mark 30 30 2) (pos 18446744073709551615) int.ULong) (tree.Number (mark 32 32 2) (pos 0) int.Int) (tree.Paren (mark 34 34 2) (tree.Cast (mark 35 35 2) (named.TypeName (spec.Integer 36 (word.Unsigned ∷ word.Int ∷ [])) 1 dims.NoDims) (tree.Null (mark 40 40 2))))))))) (tree.Cast (mark 45 45 2) (named.TypeName (spec.Integer 46 (word.Unsigned ∷ word.Long ∷ word.Long ∷ word.Int ∷ [])) 0 dims.NoDims) (tree.Paren (mark 51 51 2) (tree.Join (mark 52 56 2) (joint.Binary sign.Shl) (tree.Paren (mark 52 52 2) (tree.Unary (mark 53 53 2) sign.Minus (tree.Number (mark 54 54 3) (pos 7) int.Int))) (tree.Number (mark 57 57 4) (pos 5) int.Int))))))) (items.Statement (source.Return 60 4 (Some (tree.Unary (mark 61 61 4) sign.Plus (tree.Number (mark 62 62 4) (pos 7) int.Int)))) items.NoItems)))) ∷ [])

abbrev pub typed_thirteen : TypedProgram
typed_thirteen = record { structs = (record { complete = true; members = (record { name = (109 ∷ []); ty = (type.Int int.Short) } ∷ record { name = (110 ∷ []); ty = (type.Int int.ULong) } ∷ record { name = (107 ∷ []); ty = (type.Int int.Int) } ∷ []) } ∷ []); statics = ([]); functions = (record { name = (109 ∷ 97 ∷ 105 ∷ 110 ∷ []); result = (type.Int int.Int); params = 0; locals = ([]); names = ([]); nodes = 20; weight = 192; body = (tstmt.Block (tstmts.Stmt (tstmt.Expr (texpr.Typed 2 (type.Int int.UInt) (tnode.Assign (tplace.Place 2 (type.Int int.UInt) (tlean.Value (texpr.Typed 2 (type.Pointer (type.Int int.UInt)) (tnode.Cond (texpr.Typed 2 (type.Int int.ULong) (tnode.Num (pos 18446744073709551615))) (texpr.Typed 2 (type.Pointer (type.Int int.UInt)) tnode.Null) (texpr.Typed 2 (type.Pointer (type.Int int.UInt)) tnode.Null))))) (texpr.Typed 2 (type.Int int.UInt) (tnode.Convert int.UInt (texpr.Typed 2 (type.Int int.ULLong) (tnode.Convert int.ULLong (texpr.Typed 2 (type.Int int.Int) (tnode.Arith op.Shl int.Int (texpr.Typed 2 (type.Int int.Int) (tnode.Arith op.Sub int.Int (texpr.Typed 2 (type.Int int.Int) (tnode.Num (pos 0))) (texpr.Typed 3 (type.Int int.Int) (tnode.Num (pos 7))))) (texpr.Typed 4 (type.Int int.Int) (tnode.Num (pos 5)))))))))))) (tstmts.Stmt (tstmt.Return (Some (texpr.Typed 4 (type.Int int.Int) (tnode.Num (pos 7))))) tstmts.NoStmts))) } ∷ []); main = 0 }

-- Among its rules: `malloc`.
--     int main
--     (
--     void){void **b1;
--     while(((-3
--     )
--     |5ull)%(0<
--     0)
--     ){int
--      c2
--     ;
--     }
--     *((
--     long int *
--     )(
--     &
--     *((long int
--      *)NULL)
--     ))=!((int *)malloc(14))&&
--     (((int *)NULL)-(
--     (int *
--     )0))
--     ;return !
--     NULL&&
--     0x1F;
--     }
abbrev pub program_fourteen : ProgramTree
program_fourteen = ((item.Function 0 1 false (spec.Integer 0 (word.Int ∷ [])) 0 (109 ∷ 97 ∷ 105 ∷ 110 ∷ []) 1 params.Void (source.Block 5 3 (items.Declaration (local 6 3 false (spec.Void 6) (declarators.Declarator (declarator.Bare 2 (98 ∷ 49 ∷ []) 9 dims.NoDims) declarators.NoDeclarators)) (items.Statement (source.While 11 4 (tree.Join (mark 13 21 4) (joint.Binary sign.Percent) (tree.Paren (mark 13 13 4) (tree.Join (mark 14 18 4) (joint.Binary sign.Bar) (tree.Paren (mark 14 14 4) (tree.Unary (mark 15 15 4) sign.Minus (tree.Number (mark 16 16 4) (pos 3) int.Int))) (tree.Number (mark 19 19 6) (pos 5) int.ULLong))) (tree.Paren (mark 22 22 6) (tree.Join (mark 23 24 6) (joint.Binary sign.Lt) (tree.Number (mark 23 23 6) (pos 0) int.Int) (tree.Number (mark 25 25 7) (pos 0) int.Int)))) (source.Block 28 8 (items.Declaration (local 29 8 false (spec.Integer 29 (word.Int ∷ [])) (declarators.Declarator (declarator.Bare 0 (99 ∷ 50 ∷ []) 30 dims.NoDims) declarators.NoDeclarators)) items.NoItems))) (items.Statement (source.Expr 33 12 (Some (tree.Join (mark 33 53 12) (joint.Assign sign.Assign) (tree.Unary (mark 33 33 12) sign.Star (tree.Paren (mark 34 34 12) (tree.Cast (mark 35 35 12) (named.TypeName (spec.Integer 36 (word.Long ∷ word.Int ∷ [])) 1 dims.NoDims) (tree.Paren (mark 40 40 14) (tree.Unary (mark 41 41 15) sign.Amp (tree.Unary (mark 42 42 16) sign.Star (tree.Paren (mark 43 43 16) (tree.Cast (mark 44 44 16) (named.TypeName (spec.Integer 45 (word.Long ∷ word.Int ∷ [])) 1 dims.NoDims) (tree.Null (mark 49 49 17)))))))))) (tree.Join (mark 54 65 18) (joint.Binary sign.AndAnd) (tree.Unary (mark 54 54 18) sign.Not (tree.Paren (mark 55 55 18) (tree.Cast (mark 56 56 18) (named.TypeName (spec.Integer 57 (word.Int ∷ [])) 1 dims.NoDims) (tree.Call (mark 60 60 18) (109 ∷ 97 ∷ 108 ∷ 108 ∷ 111 ∷ 99 ∷ []) (trees.Argument (tree.Number (mark 62 62 18) (pos 14) int.Int) trees.NoArguments))))) (tree.Paren (mark 66 66 19) (tree.Join (mark 67 74 19) (joint.Binary sign.Minus) (tree.Paren (mark 67 67 19) (tree.Cast (mark 68 68 19) (named.TypeName (spec.Integer 69 (word.Int ∷ [])) 1 dims.NoDims) (tree.Null (mark 72 72 19)))) (tree.Paren (mark 75 75 19) (tree.Cast (mark 76 76 20) (named.TypeName (spec.Integer 77 (word.Int ∷ [])) 1 dims.NoDims) (tree.Number (mark 80 80 21) (pos 0) int.Int))))))))) (items.Statement (source.Return 84 22 (Some (tree.Join (mark 85 87 22) (joint.Binary sign.AndAnd) (tree.Unary (mark 85 85 22) sign.Not (tree.Null (mark 86 86 23))) (tree.Number (mark 88 88 24) (pos 31) int.Int)))) items.NoItems)))))) ∷ [])

abbrev pub typed_fourteen : TypedProgram
typed_fourteen = record { structs = ([]); statics = ([]); functions = (record { name = (109 ∷ 97 ∷ 105 ∷ 110 ∷ []); result = (type.Int int.Int); params = 0; locals = ((type.Pointer (type.Pointer type.Void)) ∷ (type.Int int.Int) ∷ []); names = (record { name = (98 ∷ 49 ∷ []); line = 3 } ∷ record { name = (99 ∷ 50 ∷ []); line = 8 } ∷ []); nodes = 39; weight = 376; body = (tstmt.Block (tstmts.Stmt (tstmt.While (texpr.Typed 4 (type.Int int.ULLong) (tnode.Arith op.Rem int.ULLong (texpr.Typed 4 (type.Int int.ULLong) (tnode.Arith op.Or int.ULLong (texpr.Typed 4 (type.Int int.ULLong) (tnode.Convert int.ULLong (texpr.Typed 4 (type.Int int.Int) (tnode.Arith op.Sub int.Int (texpr.Typed 4 (type.Int int.Int) (tnode.Num (pos 0))) (texpr.Typed 4 (type.Int int.Int) (tnode.Num (pos 3))))))) (texpr.Typed 6 (type.Int int.ULLong) (tnode.Num (pos 5))))) (texpr.Typed 6 (type.Int int.ULLong) (tnode.Convert int.ULLong (texpr.Typed 6 (type.Int int.Int) (tnode.Compare relation.Lt (texpr.Typed 6 (type.Int int.Int) (tnode.Num (pos 0))) (texpr.Typed 7 (type.Int int.Int) (tnode.Num (pos 0))))))))) (tstmt.Block tstmts.NoStmts)) (tstmts.Stmt (tstmt.Expr (texpr.Typed 12 (type.Int int.Long) (tnode.Assign (tplace.Place 12 (type.Int int.Long) (tlean.Value (texpr.Typed 17 (type.Pointer (type.Int int.Long)) tnode.Null))) (texpr.Typed 18 (type.Int int.Long) (tnode.Convert int.Long (texpr.Typed 18 (type.Int int.Int) (tnode.And (texpr.Typed 18 (type.Int int.Int) (tnode.PtrCompare relation.Eq (texpr.Typed 18 (type.Pointer (type.Int int.Int)) (tnode.CallBuiltin builtin.Malloc (texprs.Argument (texpr.Typed 18 (type.Int int.ULong) (tnode.Convert int.ULong (texpr.Typed 18 (type.Int int.Int) (tnode.Num (pos 14))))) texprs.NoArguments))) (texpr.Typed 18 (type.Pointer (type.Int int.Int)) tnode.Null))) (texpr.Typed 19 (type.Int int.Long) (tnode.PtrDiff 4 (texpr.Typed 19 (type.Pointer (type.Int int.Int)) tnode.Null) (texpr.Typed 21 (type.Pointer (type.Int int.Int)) tnode.Null)))))))))) (tstmts.Stmt (tstmt.Return (Some (texpr.Typed 22 (type.Int int.Int) (tnode.And (texpr.Typed 22 (type.Int int.Int) (tnode.PtrCompare relation.Eq (texpr.Typed 23 (type.Pointer type.Void) tnode.Null) (texpr.Typed 22 (type.Pointer type.Void) tnode.Null))) (texpr.Typed 24 (type.Int int.Int) (tnode.Num (pos 31))))))) tstmts.NoStmts)))) } ∷ []); main = 0 }

-- Among its rules: `calloc`.
--     struct S0{long m;int **
--     n;
--     };void f0(void){signed long long *s1=(signed long long *
--     )calloc(3,4),d2;f0();}int main
--     (void){int *c3[1]
--     ;return (*((signed long long *)0)>>=(-1)^65535
--     );return (-6)?sizeof(struct S0 ):
--     EOF;}
abbrev pub program_fifteen : ProgramTree
program_fifteen = ((item.Decls 0 1 false (spec.Struct 0 (Some (83 ∷ 48 ∷ [])) (members.MemberLine (spec.Integer 3 (word.Long ∷ [])) (declarators.Declarator (declarator.Bare 0 (109 ∷ []) 4 dims.NoDims) declarators.NoDeclarators) (members.MemberLine (spec.Integer 6 (word.Int ∷ [])) (declarators.Declarator (declarator.Bare 2 (110 ∷ []) 9 dims.NoDims) declarators.NoDeclarators) members.NoMembers))) ([])) ∷ (item.Function 13 3 false (spec.Void 13) 0 (102 ∷ 48 ∷ []) 14 params.Void (source.Block 18 3 (items.Declaration (local 19 3 false (spec.Integer 19 (word.Signed ∷ word.Long ∷ word.Long ∷ [])) (declarators.Declarator (declarator.Initial 1 (115 ∷ 49 ∷ []) 23 dims.NoDims (init.Value (tree.Cast (mark 25 25 3) (named.TypeName (spec.Integer 26 (word.Signed ∷ word.Long ∷ word.Long ∷ [])) 1 dims.NoDims) (tree.Call (mark 31 31 4) (99 ∷ 97 ∷ 108 ∷ 108 ∷ 111 ∷ 99 ∷ []) (trees.Argument (tree.Number (mark 33 33 4) (pos 3) int.Int) (trees.Argument (tree.Number (mark 35 35 4) (pos 4) int.Int) trees.NoArguments)))))) (declarators.Declarator (declarator.Bare 0 (100 ∷ 50 ∷ []) 38 dims.NoDims) declarators.NoDeclarators))) (items.Statement (source.Expr 40 4 (Some (tree.Call (mark 40 40 4) (102 ∷ 48 ∷ []) trees.NoArguments))) items.NoItems)))) ∷ (item.Function 45 4 false (spec.Integer 45 (word.Int ∷ [])) 0 (109 ∷ 97 ∷ 105 ∷ 110 ∷ []) 46 params.Void (source.Block 50 5 (items.Declaration (local 51 5 false (spec.Integer 51 (word.Int ∷ [])) (declarators.Declarator (declarator.Bare 1 (99 ∷ 51 ∷ []) 53 (dims.Sized (tree.Number (mark 55 55 5) (pos 1) int.Int) dims.NoDims)) declarators.NoDeclarators)) (items.Statement (source.Return 58 6 (Some (tree.Paren (mark 59 59 6) (tree.Join (mark 60 70 6) (joint.Assign sign.ShrAssign) (tree.Unary (mark 60 60 6) sign.Star (tree.Paren (mark 61 61 6) (tree.Cast (mark 62 62 6) (named.TypeName (spec.Integer 63 (word.Signed ∷ word.Long ∷ word.Long ∷ [])) 1 dims.NoDims) (tree.Number (mark 68 68 6) (pos 0) int.Int)))) (tree.Join (mark 71 75 6) (joint.Binary sign.Caret) (tree.Paren (mark 71 71 6) (tree.Unary (mark 72 72 6) sign.Minus (tree.Number (mark 73 73 6) (pos 1) int.Int))) (tree.Number (mark 76 76 6) (pos 65535) int.Int)))))) (items.Statement (source.Return 79 7 (Some (tree.Cond (mark 80 84 7) (tree.Paren (mark 80 80 7) (tree.Unary (mark 81 81 7) sign.Minus (tree.Number (mark 82 82 7) (pos 6) int.Int))) (tree.SizeType (mark 85 85 7) (named.TypeName (spec.Tag 87 (83 ∷ 48 ∷ [])) 0 dims.NoDims)) (tree.Eof (mark 91 91 8))))) items.NoItems))))) ∷ [])

abbrev pub typed_fifteen : TypedProgram
typed_fifteen = record { structs = (record { complete = true; members = (record { name = (109 ∷ []); ty = (type.Int int.Long) } ∷ record { name = (110 ∷ []); ty = (type.Pointer (type.Pointer (type.Int int.Int))) } ∷ []) } ∷ []); statics = ([]); functions = (record { name = (102 ∷ 48 ∷ []); result = type.Void; params = 0; locals = ((type.Pointer (type.Int int.LLong)) ∷ (type.Int int.LLong) ∷ []); names = (record { name = (115 ∷ 49 ∷ []); line = 3 } ∷ record { name = (100 ∷ 50 ∷ []); line = 3 } ∷ []); nodes = 5; weight = 88; body = (tstmt.Block (tstmts.Stmt (tstmt.Init 0 (tinit.Value (texpr.Typed 4 (type.Pointer (type.Int int.LLong)) (tnode.CallBuiltin builtin.Calloc (texprs.Argument (texpr.Typed 4 (type.Int int.ULong) (tnode.Convert int.ULong (texpr.Typed 4 (type.Int int.Int) (tnode.Num (pos 3))))) (texprs.Argument (texpr.Typed 4 (type.Int int.ULong) (tnode.Convert int.ULong (texpr.Typed 4 (type.Int int.Int) (tnode.Num (pos 4))))) texprs.NoArguments)))))) (tstmts.Stmt (tstmt.Expr (texpr.Typed 4 type.Void (tnode.Call 0 texprs.NoArguments))) tstmts.NoStmts))) } ∷ record { name = (109 ∷ 97 ∷ 105 ∷ 110 ∷ []); result = (type.Int int.Int); params = 0; locals = ((type.Array (type.Pointer (type.Int int.Int)) 1) ∷ []); names = (record { name = (99 ∷ 51 ∷ []); line = 5 } ∷ []); nodes = 18; weight = 184; body = (tstmt.Block (tstmts.Stmt (tstmt.Return (Some (texpr.Typed 6 (type.Int int.Int) (tnode.Convert int.Int (texpr.Typed 6 (type.Int int.LLong) (tnode.Update op.Shr int.LLong false (tplace.Place 6 (type.Int int.LLong) (tlean.Value (texpr.Typed 6 (type.Pointer (type.Int int.LLong)) tnode.Null))) (texpr.Typed 6 (type.Int int.Int) (tnode.Arith op.Xor int.Int (texpr.Typed 6 (type.Int int.Int) (tnode.Arith op.Sub int.Int (texpr.Typed 6 (type.Int int.Int) (tnode.Num (pos 0))) (texpr.Typed 6 (type.Int int.Int) (tnode.Num (pos 1))))) (texpr.Typed 6 (type.Int int.Int) (tnode.Num (pos 65535))))))))))) (tstmts.Stmt (tstmt.Return (Some (texpr.Typed 7 (type.Int int.Int) (tnode.Convert int.Int (texpr.Typed 7 (type.Int int.ULong) (tnode.Cond (texpr.Typed 7 (type.Int int.Int) (tnode.Arith op.Sub int.Int (texpr.Typed 7 (type.Int int.Int) (tnode.Num (pos 0))) (texpr.Typed 7 (type.Int int.Int) (tnode.Num (pos 6))))) (texpr.Typed 7 (type.Int int.ULong) (tnode.Num (pos 16))) (texpr.Typed 8 (type.Int int.ULong) (tnode.Convert int.ULong (texpr.Typed 8 (type.Int int.Int) (tnode.Num (negsuc 0))))))))))) tstmts.NoStmts))) } ∷ []); main = 1 }

-- Among its rules: `<=`.
--     int main(
--     void){static
--      long x1;
--     int *
--     q2[2
--     ]
--     ;{return
--      putchar
--     (x1)
--     ;x1
--     =
--     ((
--     unsigned short
--      int)
--     2L)-(2<x1)
--     ;}((*
--     ((void ***)
--     0))--
--     )&&(((
--     void *
--     *)((
--     void *
--     *)((
--     void **
--     )0
--     )))<=((void
--      **
--     )((int *
--     )0)));
--     return (short)
--     x1
--     ;}
abbrev pub program_sixteen : ProgramTree
program_sixteen = ((item.Function 0 1 false (spec.Integer 0 (word.Int ∷ [])) 0 (109 ∷ 97 ∷ 105 ∷ 110 ∷ []) 1 params.Void (source.Block 5 2 (items.Declaration (local 6 2 true (spec.Integer 7 (word.Long ∷ [])) (declarators.Declarator (declarator.Bare 0 (120 ∷ 49 ∷ []) 8 dims.NoDims) declarators.NoDeclarators)) (items.Declaration (local 10 4 false (spec.Integer 10 (word.Int ∷ [])) (declarators.Declarator (declarator.Bare 1 (113 ∷ 50 ∷ []) 12 (dims.Sized (tree.Number (mark 14 14 5) (pos 2) int.Int) dims.NoDims)) declarators.NoDeclarators)) (items.Statement (source.Block 17 7 (items.Statement (source.Return 18 7 (Some (tree.Call (mark 19 19 8) (112 ∷ 117 ∷ 116 ∷ 99 ∷ 104 ∷ 97 ∷ 114 ∷ []) (trees.Argument (tree.Name (mark 21 21 9) (120 ∷ 49 ∷ [])) trees.NoArguments)))) (items.Statement (source.Expr 24 10 (Some (tree.Join (mark 24 25 10) (joint.Assign sign.Assign) (tree.Name (mark 24 24 10) (120 ∷ 49 ∷ [])) (tree.Join (mark 26 34 12) (joint.Binary sign.Minus) (tree.Paren (mark 26 26 12) (tree.Cast (mark 27 27 12) (named.TypeName (spec.Integer 28 (word.Unsigned ∷ word.Short ∷ word.Int ∷ [])) 0 dims.NoDims) (tree.Number (mark 32 32 15) (pos 2) int.Long))) (tree.Paren (mark 35 35 15) (tree.Join (mark 36 37 15) (joint.Binary sign.Lt) (tree.Number (mark 36 36 15) (pos 2) int.Int) (tree.Name (mark 38 38 15) (120 ∷ 49 ∷ [])))))))) items.NoItems))) (items.Statement (source.Expr 42 16 (Some (tree.Join (mark 42 57 16) (joint.Binary sign.AndAnd) (tree.Paren (mark 42 42 16) (tree.Step (mark 43 55 16) true true (tree.Paren (mark 43 43 16) (tree.Unary (mark 44 44 16) sign.Star (tree.Paren (mark 45 45 17) (tree.Cast (mark 46 46 17) (named.TypeName (spec.Void 47) 3 dims.NoDims) (tree.Number (mark 52 52 18) (pos 0) int.Int))))))) (tree.Paren (mark 58 58 19) (tree.Join (mark 59 81 19) (joint.Binary sign.Le) (tree.Paren (mark 59 59 19) (tree.Cast (mark 60 60 19) (named.TypeName (spec.Void 61) 2 dims.NoDims) (tree.Paren (mark 65 65 21) (tree.Cast (mark 66 66 21) (named.TypeName (spec.Void 67) 2 dims.NoDims) (tree.Paren (mark 71 71 23) (tree.Cast (mark 72 72 23) (named.TypeName (spec.Void 73) 2 dims.NoDims) (tree.Number (mark 77 77 25) (pos 0) int.Int))))))) (tree.Paren (mark 82 82 26) (tree.Cast (mark 83 83 26) (named.TypeName (spec.Void 84) 2 dims.NoDims) (tree.Paren (mark 88 88 28) (tree.Cast (mark 89 89 28) (named.TypeName (spec.Integer 90 (word.Int ∷ [])) 1 dims.NoDims) (tree.Number (mark 93 93 29) (pos 0) int.Int)))))))))) (items.Statement (source.Return 98 30 (Some (tree.Cast (mark 99 99 30) (named.TypeName (spec.Integer 100 (word.Short ∷ [])) 0 dims.NoDims) (tree.Name (mark 102 102 31) (120 ∷ 49 ∷ []))))) items.NoItems))))))) ∷ [])

abbrev pub typed_sixteen : TypedProgram
typed_sixteen = record { structs = ([]); statics = (record { name = record { name = (120 ∷ 49 ∷ []); line = 2 }; ty = (type.Int int.Long); image = record { bytes = ([]); pointers = ([]) } } ∷ []); functions = (record { name = (109 ∷ 97 ∷ 105 ∷ 110 ∷ []); result = (type.Int int.Int); params = 0; locals = ((type.Array (type.Pointer (type.Int int.Int)) 2) ∷ []); names = (record { name = (113 ∷ 50 ∷ []); line = 4 } ∷ []); nodes = 37; weight = 360; body = (tstmt.Block (tstmts.Stmt (tstmt.Block (tstmts.Stmt (tstmt.Return (Some (texpr.Typed 8 (type.Int int.Int) (tnode.CallBuiltin builtin.PutChar (texprs.Argument (texpr.Typed 9 (type.Int int.Int) (tnode.Convert int.Int (texpr.Typed 9 (type.Int int.Long) (tnode.Read (tplace.Place 9 (type.Int int.Long) (tlean.Static 0)))))) texprs.NoArguments))))) (tstmts.Stmt (tstmt.Expr (texpr.Typed 10 (type.Int int.Long) (tnode.Assign (tplace.Place 10 (type.Int int.Long) (tlean.Static 0)) (texpr.Typed 12 (type.Int int.Long) (tnode.Convert int.Long (texpr.Typed 12 (type.Int int.Int) (tnode.Arith op.Sub int.Int (texpr.Typed 15 (type.Int int.Int) (tnode.Convert int.Int (texpr.Typed 15 (type.Int int.UShort) (tnode.Convert int.UShort (texpr.Typed 15 (type.Int int.Long) (tnode.Num (pos 2))))))) (texpr.Typed 15 (type.Int int.Int) (tnode.Compare relation.Lt (texpr.Typed 15 (type.Int int.Long) (tnode.Convert int.Long (texpr.Typed 15 (type.Int int.Int) (tnode.Num (pos 2))))) (texpr.Typed 15 (type.Int int.Long) (tnode.Read (tplace.Place 15 (type.Int int.Long) (tlean.Static 0))))))))))))) tstmts.NoStmts))) (tstmts.Stmt (tstmt.Expr (texpr.Typed 16 (type.Int int.Int) (tnode.And (texpr.Typed 16 (type.Pointer (type.Pointer type.Void)) (tnode.PtrUpdate 8 true true (tplace.Place 16 (type.Pointer (type.Pointer type.Void)) (tlean.Value (texpr.Typed 18 (type.Pointer (type.Pointer (type.Pointer type.Void))) tnode.Null))) (texpr.Typed 16 (type.Int int.Int) (tnode.Num (pos 1))))) (texpr.Typed 19 (type.Int int.Int) (tnode.PtrCompare relation.Le (texpr.Typed 25 (type.Pointer (type.Pointer type.Void)) tnode.Null) (texpr.Typed 29 (type.Pointer (type.Pointer type.Void)) tnode.Null)))))) (tstmts.Stmt (tstmt.Return (Some (texpr.Typed 31 (type.Int int.Int) (tnode.Convert int.Int (texpr.Typed 31 (type.Int int.Short) (tnode.Convert int.Short (texpr.Typed 31 (type.Int int.Long) (tnode.Read (tplace.Place 31 (type.Int int.Long) (tlean.Static 0)))))))))) tstmts.NoStmts)))) } ∷ []); main = 0 }
