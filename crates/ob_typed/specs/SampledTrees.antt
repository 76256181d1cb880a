-- Programs made at random, with the typed trees that another implementation of the rules gave. Together they have
-- each operator, statement and type.
use Rattle.std.specs.Prelude.{pos, negsuc, true, false, Some, [], ◌∷◌}
use Rattle.ob_words.specs.declared.types.IntType.TheVariants as int
use Rattle.ob_words.specs.declared.types.BinOp.TheVariants as op
use Rattle.ob_words.specs.declared.types.Relation.TheVariants as relation
use Rattle.ob_tree.specs.declared.tokens.Keyword.TheVariants as word
use Rattle.ob_tree.specs.declared.tokens.Sign.TheVariants as sign
use Rattle.ob_tree.specs.Trees.{ExprTree as tree, ExprTrees as trees, TypeTree as named, SpecTree as spec, MemberTrees as members, ObjTree as declarator, ObjTrees as declarators, DimTrees as dims, InitTree as init, InitTrees as inits, Infix as joint}
use Rattle.ob_tree.specs.Programs.{ProgramTree}
use Rattle.ob_tree.specs.Programs.{StmtTree as source, StartTree as start, BlockTrees as items, ParamsTree as params, FileTree as file, ItemTree as item}
use Rattle.ob_tree.specs.Types.{PlainType as type}
use Rattle.ob_typed.specs.declared.names.Builtin.TheVariants as builtin
use Rattle.ob_typed.specs.Examples.{mark, local}
use Rattle.ob_typed.specs.TypedTree.{TypedProgram}
use Rattle.ob_typed.specs.TypedTree.{TypedExpr as texpr, TypedExprs as texprs, TypedPlace as tplace, TypedLean as tlean, TypedNode as tnode, TypedInit as tinit, TypedStmt as tstmt, TypedStmts as tstmts}

-- Among its rules: casts, `sizeof` of a type, `NULL`, `!`, `<<`, `!=`, `||`, `short`, `signed`, pointers that are compared.
--     int
--      x1=
--     1
--     ||
--     2;int main(void){(
--     *((short
--      int
--      *)
--     0))
--     <<(!(sizeof(signed short )));return 0
--     !=
--     NULL;}
abbrev pub program_one : ProgramTree
program_one = ((item.Decls 0 1 false (spec.Integer 0 (word.Int ∷ [])) ((file.Object (declarator.Initial 0 (120 ∷ 49 ∷ []) 1 dims.NoDims (init.Value (tree.Join (mark 3 4 3) (joint.Binary sign.OrOr) (tree.Number (mark 3 3 3) (pos 1) int.Int) (tree.Number (mark 5 5 5) (pos 2) int.Int))))) ∷ [])) ∷ (item.Function 7 5 false (spec.Integer 7 (word.Int ∷ [])) 0 (109 ∷ 97 ∷ 105 ∷ 110 ∷ []) 8 params.Void (source.Block 12 5 (items.Statement (source.Expr 13 5 (Some (tree.Join (mark 13 24 5) (joint.Binary sign.Shl) (tree.Paren (mark 13 13 5) (tree.Unary (mark 14 14 6) sign.Star (tree.Paren (mark 15 15 6) (tree.Cast (mark 16 16 6) (named.TypeName (spec.Integer 17 (word.Short ∷ word.Int ∷ [])) 1 dims.NoDims) (tree.Number (mark 21 21 9) (pos 0) int.Int))))) (tree.Paren (mark 25 25 10) (tree.Unary (mark 26 26 10) sign.Not (tree.Paren (mark 27 27 10) (tree.SizeType (mark 28 28 10) (named.TypeName (spec.Integer 30 (word.Signed ∷ word.Short ∷ [])) 0 dims.NoDims)))))))) (items.Statement (source.Return 36 10 (Some (tree.Join (mark 37 38 10) (joint.Binary sign.NotEq) (tree.Number (mark 37 37 10) (pos 0) int.Int) (tree.Null (mark 39 39 12))))) items.NoItems)))) ∷ [])

abbrev pub typed_one : TypedProgram
typed_one = record { structs = ([]); statics = (record { name = record { name = (120 ∷ 49 ∷ []); line = 1 }; ty = (type.Int int.Int); image = record { bytes = (1 ∷ []); pointers = ([]) } } ∷ []); functions = (record { name = (109 ∷ 97 ∷ 105 ∷ 110 ∷ []); result = (type.Int int.Int); params = 0; locals = ([]); names = ([]); nodes = 13; weight = 136; body = (tstmt.Block (tstmts.Stmt (tstmt.Expr (texpr.Typed 5 (type.Int int.Int) (tnode.Arith op.Shl int.Int (texpr.Typed 6 (type.Int int.Int) (tnode.Convert int.Int (texpr.Typed 6 (type.Int int.Short) (tnode.Read (tplace.Place 6 (type.Int int.Short) (tlean.Value (texpr.Typed 9 (type.Pointer (type.Int int.Short)) tnode.Null))))))) (texpr.Typed 10 (type.Int int.Int) (tnode.Compare relation.Eq (texpr.Typed 10 (type.Int int.ULong) (tnode.Num (pos 2))) (texpr.Typed 10 (type.Int int.ULong) (tnode.Num (pos 0)))))))) (tstmts.Stmt (tstmt.Return (Some (texpr.Typed 10 (type.Int int.Int) (tnode.PtrCompare relation.Ne (texpr.Typed 10 (type.Pointer type.Void) tnode.Null) (texpr.Typed 12 (type.Pointer type.Void) tnode.Null))))) tstmts.NoStmts))) } ∷ []); main = 0 }

-- Among its rules: `>>`, `<`, `else`, `for`, `long long`, `[]`, `|=`, `e++`.
--     void *s1
--     []={(void*
--     )0};long long c2
--     ;int main(void){if(c2
--     ){(void)(
--     putchar
--     (c2
--     ));}else for(int
--      c3=0,*
--     w=
--     &c3;c3<
--     1;
--     c3++){(sizeof
--     (int [
--     2]))>>(
--     (
--     c2|=c3)
--     );}}
abbrev pub program_two : ProgramTree
program_two = ((item.Decls 0 1 false (spec.Void 0) ((file.Object (declarator.Initial 1 (115 ∷ 49 ∷ []) 2 (dims.Unsized dims.NoDims) (init.Braces 6 (inits.Item (init.Value (tree.Cast (mark 7 7 2) (named.TypeName (spec.Void 8) 1 dims.NoDims) (tree.Number (mark 11 11 3) (pos 0) int.Int))) inits.NoItems) false))) ∷ [])) ∷ (item.Decls 14 3 false (spec.Integer 14 (word.Long ∷ word.Long ∷ [])) ((file.Object (declarator.Bare 0 (99 ∷ 50 ∷ []) 16 dims.NoDims)) ∷ [])) ∷ (item.Function 18 4 false (spec.Integer 18 (word.Int ∷ [])) 0 (109 ∷ 97 ∷ 105 ∷ 110 ∷ []) 19 params.Void (source.Block 23 4 (items.Statement (source.IfElse 24 4 (tree.Name (mark 26 26 4) (99 ∷ 50 ∷ [])) (source.Block 28 5 (items.Statement (source.Expr 29 5 (Some (tree.Cast (mark 29 29 5) (named.TypeName (spec.Void 30) 0 dims.NoDims) (tree.Paren (mark 32 32 5) (tree.Call (mark 33 33 6) (112 ∷ 117 ∷ 116 ∷ 99 ∷ 104 ∷ 97 ∷ 114 ∷ []) (trees.Argument (tree.Name (mark 35 35 7) (99 ∷ 50 ∷ [])) trees.NoArguments)))))) items.NoItems)) (source.For 41 8 (start.Local (local 43 8 false (spec.Integer 43 (word.Int ∷ [])) (declarators.Declarator (declarator.Initial 0 (99 ∷ 51 ∷ []) 44 dims.NoDims (init.Value (tree.Number (mark 46 46 9) (pos 0) int.Int))) (declarators.Declarator (declarator.Initial 1 (119 ∷ []) 49 dims.NoDims (init.Value (tree.Unary (mark 51 51 11) sign.Amp (tree.Name (mark 52 52 11) (99 ∷ 51 ∷ []))))) declarators.NoDeclarators)))) (Some (tree.Join (mark 54 55 11) (joint.Binary sign.Lt) (tree.Name (mark 54 54 11) (99 ∷ 51 ∷ [])) (tree.Number (mark 56 56 12) (pos 1) int.Int))) (Some (tree.Step (mark 58 59 13) true false (tree.Name (mark 58 58 13) (99 ∷ 51 ∷ [])))) (source.Block 61 13 (items.Statement (source.Expr 62 13 (Some (tree.Join (mark 62 71 13) (joint.Binary sign.Shr) (tree.Paren (mark 62 62 13) (tree.SizeType (mark 63 63 13) (named.TypeName (spec.Integer 65 (word.Int ∷ [])) 0 (dims.Sized (tree.Number (mark 67 67 15) (pos 2) int.Int) dims.NoDims)))) (tree.Paren (mark 72 72 15) (tree.Paren (mark 73 73 16) (tree.Join (mark 74 75 17) (joint.Assign sign.BarAssign) (tree.Name (mark 74 74 17) (99 ∷ 50 ∷ [])) (tree.Name (mark 76 76 17) (99 ∷ 51 ∷ [])))))))) items.NoItems)))) items.NoItems))) ∷ [])

abbrev pub typed_two : TypedProgram
typed_two = record { structs = ([]); statics = (record { name = record { name = (115 ∷ 49 ∷ []); line = 1 }; ty = (type.Array (type.Pointer type.Void) 1); image = record { bytes = ([]); pointers = ([]) } } ∷ record { name = record { name = (99 ∷ 50 ∷ []); line = 3 }; ty = (type.Int int.LLong); image = record { bytes = ([]); pointers = ([]) } } ∷ []); functions = (record { name = (109 ∷ 97 ∷ 105 ∷ 110 ∷ []); result = (type.Int int.Int); params = 0; locals = ((type.Int int.Int) ∷ (type.Pointer (type.Int int.Int)) ∷ []); names = (record { name = (99 ∷ 51 ∷ []); line = 8 } ∷ record { name = (119 ∷ []); line = 8 } ∷ []); nodes = 22; weight = 272; body = (tstmt.Block (tstmts.Stmt (tstmt.IfElse (texpr.Typed 4 (type.Int int.LLong) (tnode.Read (tplace.Place 4 (type.Int int.LLong) (tlean.Static 1)))) (tstmt.Block (tstmts.Stmt (tstmt.Expr (texpr.Typed 6 type.Void (tnode.ToVoid (texpr.Typed 6 (type.Int int.Int) (tnode.CallBuiltin builtin.PutChar (texprs.Argument (texpr.Typed 7 (type.Int int.Int) (tnode.Convert int.Int (texpr.Typed 7 (type.Int int.LLong) (tnode.Read (tplace.Place 7 (type.Int int.LLong) (tlean.Static 1)))))) texprs.NoArguments)))))) tstmts.NoStmts)) (tstmt.For (tstmts.Stmt (tstmt.Init 0 (tinit.Value (texpr.Typed 9 (type.Int int.Int) (tnode.Num (pos 0))))) (tstmts.Stmt (tstmt.Init 1 (tinit.Value (texpr.Typed 11 (type.Pointer (type.Int int.Int)) (tnode.Lean (tlean.Local 0))))) tstmts.NoStmts)) (Some (texpr.Typed 11 (type.Int int.Int) (tnode.Compare relation.Lt (texpr.Typed 11 (type.Int int.Int) (tnode.Read (tplace.Place 11 (type.Int int.Int) (tlean.Local 0)))) (texpr.Typed 12 (type.Int int.Int) (tnode.Num (pos 1)))))) (Some (texpr.Typed 13 (type.Int int.Int) (tnode.Update op.Add int.Int true (tplace.Place 13 (type.Int int.Int) (tlean.Local 0)) (texpr.Typed 13 (type.Int int.Int) (tnode.Num (pos 1)))))) (tstmt.Block (tstmts.Stmt (tstmt.Expr (texpr.Typed 13 (type.Int int.ULong) (tnode.Arith op.Shr int.ULong (texpr.Typed 13 (type.Int int.ULong) (tnode.Num (pos 8))) (texpr.Typed 17 (type.Int int.LLong) (tnode.Update op.Or int.LLong false (tplace.Place 17 (type.Int int.LLong) (tlean.Static 1)) (texpr.Typed 17 (type.Int int.LLong) (tnode.Convert int.LLong (texpr.Typed 17 (type.Int int.Int) (tnode.Read (tplace.Place 17 (type.Int int.Int) (tlean.Local 0))))))))))) tstmts.NoStmts)))) tstmts.NoStmts)) } ∷ []); main = 0 }

-- Among its rules: `EOF`, the comma, `==`, `while`, `unsigned`, `()`, `-=`, `e--`.
--     void
--      *
--     a1[2]={0
--     ,NULL}
--     ;
--     struct S0{void *m
--     [1];
--     }
--     ;int main()
--     {
--     struct S0 **c2=
--     (*(
--     (struct S0 ***)0)-=
--     0
--     );
--     while
--     (
--     (
--     ((
--     struct S0
--      *
--     *
--     )0
--     )
--     ==c2,*((
--     unsigned long int *)NULL
--     )))
--     {(
--     long
--     )((*((long *)
--     0))
--     --);}return
--      (sizeof(struct S0 *
--     ),
--     EOF)
--     ;}
abbrev pub program_three : ProgramTree
program_three = ((item.Decls 0 1 false (spec.Void 0) ((file.Object (declarator.Initial 1 (97 ∷ 49 ∷ []) 2 (dims.Sized (tree.Number (mark 4 4 3) (pos 2) int.Int) dims.NoDims) (init.Braces 7 (inits.Item (init.Value (tree.Number (mark 8 8 3) (pos 0) int.Int)) (inits.Item (init.Value (tree.Null (mark 10 10 4))) inits.NoItems)) false))) ∷ [])) ∷ (item.Decls 13 6 false (spec.Struct 13 (Some (83 ∷ 48 ∷ [])) (members.MemberLine (spec.Void 16) (declarators.Declarator (declarator.Bare 1 (109 ∷ []) 18 (dims.Sized (tree.Number (mark 20 20 7) (pos 1) int.Int) dims.NoDims)) declarators.NoDeclarators) members.NoMembers)) ([])) ∷ (item.Function 25 9 false (spec.Integer 25 (word.Int ∷ [])) 0 (109 ∷ 97 ∷ 105 ∷ 110 ∷ []) 26 params.Empty (source.Block 29 10 (items.Declaration (local 30 11 false (spec.Tag 30 (83 ∷ 48 ∷ [])) (declarators.Declarator (declarator.Initial 2 (99 ∷ 50 ∷ []) 34 dims.NoDims (init.Value (tree.Paren (mark 36 36 12) (tree.Join (mark 37 48 12) (joint.Assign sign.MinusAssign) (tree.Unary (mark 37 37 12) sign.Star (tree.Paren (mark 38 38 12) (tree.Cast (mark 39 39 13) (named.TypeName (spec.Tag 40 (83 ∷ 48 ∷ [])) 3 dims.NoDims) (tree.Number (mark 46 46 13) (pos 0) int.Int)))) (tree.Number (mark 49 49 14) (pos 0) int.Int))))) declarators.NoDeclarators)) (items.Statement (source.While 52 16 (tree.Paren (mark 54 54 18) (tree.Join (mark 55 66 19) joint.Comma (tree.Join (mark 55 64 19) (joint.Binary sign.EqEq) (tree.Paren (mark 55 55 19) (tree.Cast (mark 56 56 19) (named.TypeName (spec.Tag 57 (83 ∷ 48 ∷ [])) 2 dims.NoDims) (tree.Number (mark 62 62 23) (pos 0) int.Int))) (tree.Name (mark 65 65 25) (99 ∷ 50 ∷ []))) (tree.Unary (mark 67 67 25) sign.Star (tree.Paren (mark 68 68 25) (tree.Cast (mark 69 69 25) (named.TypeName (spec.Integer 70 (word.Unsigned ∷ word.Long ∷ word.Int ∷ [])) 1 dims.NoDims) (tree.Null (mark 75 75 26))))))) (source.Block 79 28 (items.Statement (source.Expr 80 28 (Some (tree.Cast (mark 80 80 28) (named.TypeName (spec.Integer 81 (word.Long ∷ [])) 0 dims.NoDims) (tree.Paren (mark 83 83 30) (tree.Step (mark 84 94 30) true true (tree.Paren (mark 84 84 30) (tree.Unary (mark 85 85 30) sign.Star (tree.Paren (mark 86 86 30) (tree.Cast (mark 87 87 30) (named.TypeName (spec.Integer 88 (word.Long ∷ [])) 1 dims.NoDims) (tree.Number (mark 91 91 31) (pos 0) int.Int)))))))))) items.NoItems))) (items.Statement (source.Return 98 32 (Some (tree.Paren (mark 99 99 33) (tree.Join (mark 100 106 33) joint.Comma (tree.SizeType (mark 100 100 33) (named.TypeName (spec.Tag 102 (83 ∷ 48 ∷ [])) 1 dims.NoDims)) (tree.Eof (mark 107 107 35)))))) items.NoItems))))) ∷ [])

abbrev pub typed_three : TypedProgram
typed_three = record { structs = (record { complete = true; members = (record { name = (109 ∷ []); ty = (type.Array (type.Pointer type.Void) 1) } ∷ []) } ∷ []); statics = (record { name = record { name = (97 ∷ 49 ∷ []); line = 1 }; ty = (type.Array (type.Pointer type.Void) 2); image = record { bytes = ([]); pointers = ([]) } } ∷ []); functions = (record { name = (109 ∷ 97 ∷ 105 ∷ 110 ∷ []); result = (type.Int int.Int); params = 0; locals = ((type.Pointer (type.Pointer (type.Struct 0))) ∷ []); names = (record { name = (99 ∷ 50 ∷ []); line = 11 } ∷ []); nodes = 30; weight = 304; body = (tstmt.Block (tstmts.Stmt (tstmt.Init 0 (tinit.Value (texpr.Typed 12 (type.Pointer (type.Pointer (type.Struct 0))) (tnode.PtrUpdate 8 true false (tplace.Place 12 (type.Pointer (type.Pointer (type.Struct 0))) (tlean.Value (texpr.Typed 13 (type.Pointer (type.Pointer (type.Pointer (type.Struct 0)))) tnode.Null))) (texpr.Typed 14 (type.Int int.Int) (tnode.Num (pos 0))))))) (tstmts.Stmt (tstmt.While (texpr.Typed 19 (type.Int int.ULong) (tnode.Comma (texpr.Typed 19 (type.Int int.Int) (tnode.PtrCompare relation.Eq (texpr.Typed 23 (type.Pointer (type.Pointer (type.Struct 0))) tnode.Null) (texpr.Typed 25 (type.Pointer (type.Pointer (type.Struct 0))) (tnode.Read (tplace.Place 25 (type.Pointer (type.Pointer (type.Struct 0))) (tlean.Local 0)))))) (texpr.Typed 25 (type.Int int.ULong) (tnode.Read (tplace.Place 25 (type.Int int.ULong) (tlean.Value (texpr.Typed 26 (type.Pointer (type.Int int.ULong)) tnode.Null))))))) (tstmt.Block (tstmts.Stmt (tstmt.Expr (texpr.Typed 30 (type.Int int.Long) (tnode.Update op.Sub int.Long true (tplace.Place 30 (type.Int int.Long) (tlean.Value (texpr.Typed 31 (type.Pointer (type.Int int.Long)) tnode.Null))) (texpr.Typed 30 (type.Int int.Long) (tnode.Convert int.Long (texpr.Typed 30 (type.Int int.Int) (tnode.Num (pos 1)))))))) tstmts.NoStmts))) (tstmts.Stmt (tstmt.Return (Some (texpr.Typed 33 (type.Int int.Int) (tnode.Comma (texpr.Typed 33 (type.Int int.ULong) (tnode.Num (pos 8))) (texpr.Typed 35 (type.Int int.Int) (tnode.Num (negsuc 0))))))) tstmts.NoStmts)))) } ∷ []); main = 0 }

-- Among its rules: `&&`, `.`, `+=`, `>>=`, `++e`.
--     struct S0{
--     void
--      *m;int n;int
--      k;} y1;int main(void){((y1
--     .n+=(y1
--     .k
--     >>=5)))&&
--     (y1.
--     n);y1.k=
--     ++y1.
--     k;
--     return y1.n;
--     }
abbrev pub program_four : ProgramTree
program_four = ((item.Decls 0 1 false (spec.Struct 0 (Some (83 ∷ 48 ∷ [])) (members.MemberLine (spec.Void 3) (declarators.Declarator (declarator.Bare 1 (109 ∷ []) 5 dims.NoDims) declarators.NoDeclarators) (members.MemberLine (spec.Integer 7 (word.Int ∷ [])) (declarators.Declarator (declarator.Bare 0 (110 ∷ []) 8 dims.NoDims) declarators.NoDeclarators) (members.MemberLine (spec.Integer 10 (word.Int ∷ [])) (declarators.Declarator (declarator.Bare 0 (107 ∷ []) 11 dims.NoDims) declarators.NoDeclarators) members.NoMembers)))) ((file.Object (declarator.Bare 0 (121 ∷ 49 ∷ []) 14 dims.NoDims)) ∷ [])) ∷ (item.Function 16 4 false (spec.Integer 16 (word.Int ∷ [])) 0 (109 ∷ 97 ∷ 105 ∷ 110 ∷ []) 17 params.Void (source.Block 21 4 (items.Statement (source.Expr 22 4 (Some (tree.Join (mark 22 37 4) (joint.Binary sign.AndAnd) (tree.Paren (mark 22 22 4) (tree.Paren (mark 23 23 4) (tree.Join (mark 24 27 4) (joint.Assign sign.PlusAssign) (tree.Member (mark 24 25 4) (tree.Name (mark 24 24 4) (121 ∷ 49 ∷ [])) (110 ∷ [])) (tree.Paren (mark 28 28 5) (tree.Join (mark 29 32 5) (joint.Assign sign.ShrAssign) (tree.Member (mark 29 30 5) (tree.Name (mark 29 29 5) (121 ∷ 49 ∷ [])) (107 ∷ [])) (tree.Number (mark 33 33 7) (pos 5) int.Int)))))) (tree.Paren (mark 38 38 8) (tree.Member (mark 39 40 8) (tree.Name (mark 39 39 8) (121 ∷ 49 ∷ [])) (110 ∷ [])))))) (items.Statement (source.Expr 44 9 (Some (tree.Join (mark 44 47 9) (joint.Assign sign.Assign) (tree.Member (mark 44 45 9) (tree.Name (mark 44 44 9) (121 ∷ 49 ∷ [])) (107 ∷ [])) (tree.Step (mark 48 48 10) false false (tree.Member (mark 49 50 10) (tree.Name (mark 49 49 10) (121 ∷ 49 ∷ [])) (107 ∷ [])))))) (items.Statement (source.Return 53 12 (Some (tree.Member (mark 54 55 12) (tree.Name (mark 54 54 12) (121 ∷ 49 ∷ [])) (110 ∷ [])))) items.NoItems))))) ∷ [])

abbrev pub typed_four : TypedProgram
typed_four = record { structs = (record { complete = true; members = (record { name = (109 ∷ []); ty = (type.Pointer type.Void) } ∷ record { name = (110 ∷ []); ty = (type.Int int.Int) } ∷ record { name = (107 ∷ []); ty = (type.Int int.Int) } ∷ []) } ∷ []); statics = (record { name = record { name = (121 ∷ 49 ∷ []); line = 1 }; ty = (type.Struct 0); image = record { bytes = ([]); pointers = ([]) } } ∷ []); functions = (record { name = (109 ∷ 97 ∷ 105 ∷ 110 ∷ []); result = (type.Int int.Int); params = 0; locals = ([]); names = ([]); nodes = 22; weight = 216; body = (tstmt.Block (tstmts.Stmt (tstmt.Expr (texpr.Typed 4 (type.Int int.Int) (tnode.And (texpr.Typed 4 (type.Int int.Int) (tnode.Update op.Add int.Int false (tplace.Place 4 (type.Int int.Int) (tlean.Member (tlean.Static 0) 8)) (texpr.Typed 5 (type.Int int.Int) (tnode.Update op.Shr int.Int false (tplace.Place 5 (type.Int int.Int) (tlean.Member (tlean.Static 0) 12)) (texpr.Typed 7 (type.Int int.Int) (tnode.Num (pos 5))))))) (texpr.Typed 8 (type.Int int.Int) (tnode.Read (tplace.Place 8 (type.Int int.Int) (tlean.Member (tlean.Static 0) 8))))))) (tstmts.Stmt (tstmt.Expr (texpr.Typed 9 (type.Int int.Int) (tnode.Assign (tplace.Place 9 (type.Int int.Int) (tlean.Member (tlean.Static 0) 12)) (texpr.Typed 10 (type.Int int.Int) (tnode.Update op.Add int.Int false (tplace.Place 10 (type.Int int.Int) (tlean.Member (tlean.Static 0) 12)) (texpr.Typed 10 (type.Int int.Int) (tnode.Num (pos 1)))))))) (tstmts.Stmt (tstmt.Return (Some (texpr.Typed 12 (type.Int int.Int) (tnode.Read (tplace.Place 12 (type.Int int.Int) (tlean.Member (tlean.Static 0) 8)))))) tstmts.NoStmts)))) } ∷ []); main = 0 }

-- Among its rules: `|`, `^`, `>=`, `?:`, `getchar`, `free`, pointer difference.
--     short int d1=7<<3;int s2;int main(void){int y3=d1^(getchar());d1=(((unsigned long long int *)NULL)>=((unsigned long long int *)NULL))?((void **)NULL)-(
--     (void **)((void **)0)):
--     (s2|d1);free(&*((void **)((
--     void **)0)));return d1|y3;}
abbrev pub program_five : ProgramTree
program_five = ((item.Decls 0 1 false (spec.Integer 0 (word.Short ∷ word.Int ∷ [])) ((file.Object (declarator.Initial 0 (100 ∷ 49 ∷ []) 2 dims.NoDims (init.Value (tree.Join (mark 4 5 1) (joint.Binary sign.Shl) (tree.Number (mark 4 4 1) (pos 7) int.Int) (tree.Number (mark 6 6 1) (pos 3) int.Int))))) ∷ [])) ∷ (item.Decls 8 1 false (spec.Integer 8 (word.Int ∷ [])) ((file.Object (declarator.Bare 0 (115 ∷ 50 ∷ []) 9 dims.NoDims)) ∷ [])) ∷ (item.Function 11 1 false (spec.Integer 11 (word.Int ∷ [])) 0 (109 ∷ 97 ∷ 105 ∷ 110 ∷ []) 12 params.Void (source.Block 16 1 (items.Declaration (local 17 1 false (spec.Integer 17 (word.Int ∷ [])) (declarators.Declarator (declarator.Initial 0 (121 ∷ 51 ∷ []) 18 dims.NoDims (init.Value (tree.Join (mark 20 21 1) (joint.Binary sign.Caret) (tree.Name (mark 20 20 1) (100 ∷ 49 ∷ [])) (tree.Paren (mark 22 22 1) (tree.Call (mark 23 23 1) (103 ∷ 101 ∷ 116 ∷ 99 ∷ 104 ∷ 97 ∷ 114 ∷ []) trees.NoArguments))))) declarators.NoDeclarators)) (items.Statement (source.Expr 28 1 (Some (tree.Join (mark 28 29 1) (joint.Assign sign.Assign) (tree.Name (mark 28 28 1) (100 ∷ 49 ∷ [])) (tree.Cond (mark 30 53 1) (tree.Paren (mark 30 30 1) (tree.Join (mark 31 41 1) (joint.Binary sign.Ge) (tree.Paren (mark 31 31 1) (tree.Cast (mark 32 32 1) (named.TypeName (spec.Integer 33 (word.Unsigned ∷ word.Long ∷ word.Long ∷ word.Int ∷ [])) 1 dims.NoDims) (tree.Null (mark 39 39 1)))) (tree.Paren (mark 42 42 1) (tree.Cast (mark 43 43 1) (named.TypeName (spec.Integer 44 (word.Unsigned ∷ word.Long ∷ word.Long ∷ word.Int ∷ [])) 1 dims.NoDims) (tree.Null (mark 50 50 1)))))) (tree.Join (mark 54 62 1) (joint.Binary sign.Minus) (tree.Paren (mark 54 54 1) (tree.Cast (mark 55 55 1) (named.TypeName (spec.Void 56) 2 dims.NoDims) (tree.Null (mark 60 60 1)))) (tree.Paren (mark 63 63 1) (tree.Cast (mark 64 64 2) (named.TypeName (spec.Void 65) 2 dims.NoDims) (tree.Paren (mark 69 69 2) (tree.Cast (mark 70 70 2) (named.TypeName (spec.Void 71) 2 dims.NoDims) (tree.Number (mark 75 75 2) (pos 0) int.Int)))))) (tree.Paren (mark 79 79 3) (tree.Join (mark 80 81 3) (joint.Binary sign.Bar) (tree.Name (mark 80 80 3) (115 ∷ 50 ∷ [])) (tree.Name (mark 82 82 3) (100 ∷ 49 ∷ [])))))))) (items.Statement (source.Expr 85 3 (Some (tree.Call (mark 85 85 3) (102 ∷ 114 ∷ 101 ∷ 101 ∷ []) (trees.Argument (tree.Unary (mark 87 87 3) sign.Amp (tree.Unary (mark 88 88 3) sign.Star (tree.Paren (mark 89 89 3) (tree.Cast (mark 90 90 3) (named.TypeName (spec.Void 91) 2 dims.NoDims) (tree.Paren (mark 95 95 3) (tree.Cast (mark 96 96 3) (named.TypeName (spec.Void 97) 2 dims.NoDims) (tree.Number (mark 101 101 4) (pos 0) int.Int))))))) trees.NoArguments)))) (items.Statement (source.Return 106 4 (Some (tree.Join (mark 107 108 4) (joint.Binary sign.Bar) (tree.Name (mark 107 107 4) (100 ∷ 49 ∷ [])) (tree.Name (mark 109 109 4) (121 ∷ 51 ∷ []))))) items.NoItems)))))) ∷ [])

abbrev pub typed_five : TypedProgram
typed_five = record { structs = ([]); statics = (record { name = record { name = (100 ∷ 49 ∷ []); line = 1 }; ty = (type.Int int.Short); image = record { bytes = (56 ∷ []); pointers = ([]) } } ∷ record { name = record { name = (115 ∷ 50 ∷ []); line = 1 }; ty = (type.Int int.Int); image = record { bytes = ([]); pointers = ([]) } } ∷ []); functions = (record { name = (109 ∷ 97 ∷ 105 ∷ 110 ∷ []); result = (type.Int int.Int); params = 0; locals = ((type.Int int.Int) ∷ []); names = (record { name = (121 ∷ 51 ∷ []); line = 1 } ∷ []); nodes = 39; weight = 368; body = (tstmt.Block (tstmts.Stmt (tstmt.Init 0 (tinit.Value (texpr.Typed 1 (type.Int int.Int) (tnode.Arith op.Xor int.Int (texpr.Typed 1 (type.Int int.Int) (tnode.Convert int.Int (texpr.Typed 1 (type.Int int.Short) (tnode.Read (tplace.Place 1 (type.Int int.Short) (tlean.Static 0)))))) (texpr.Typed 1 (type.Int int.Int) (tnode.CallBuiltin builtin.GetChar texprs.NoArguments)))))) (tstmts.Stmt (tstmt.Expr (texpr.Typed 1 (type.Int int.Short) (tnode.Assign (tplace.Place 1 (type.Int int.Short) (tlean.Static 0)) (texpr.Typed 1 (type.Int int.Short) (tnode.Convert int.Short (texpr.Typed 1 (type.Int int.Long) (tnode.Cond (texpr.Typed 1 (type.Int int.Int) (tnode.PtrCompare relation.Ge (texpr.Typed 1 (type.Pointer (type.Int int.ULLong)) tnode.Null) (texpr.Typed 1 (type.Pointer (type.Int int.ULLong)) tnode.Null))) (texpr.Typed 1 (type.Int int.Long) (tnode.PtrDiff 8 (texpr.Typed 1 (type.Pointer (type.Pointer type.Void)) tnode.Null) (texpr.Typed 2 (type.Pointer (type.Pointer type.Void)) tnode.Null))) (texpr.Typed 3 (type.Int int.Long) (tnode.Convert int.Long (texpr.Typed 3 (type.Int int.Int) (tnode.Arith op.Or int.Int (texpr.Typed 3 (type.Int int.Int) (tnode.Read (tplace.Place 3 (type.Int int.Int) (tlean.Static 1)))) (texpr.Typed 3 (type.Int int.Int) (tnode.Convert int.Int (texpr.Typed 3 (type.Int int.Short) (tnode.Read (tplace.Place 3 (type.Int int.Short) (tlean.Static 0))))))))))))))))) (tstmts.Stmt (tstmt.Expr (texpr.Typed 3 type.Void (tnode.CallBuiltin builtin.Free (texprs.Argument (texpr.Typed 3 (type.Pointer type.Void) (tnode.Lean (tlean.Value (texpr.Typed 4 (type.Pointer (type.Pointer type.Void)) tnode.Null)))) texprs.NoArguments)))) (tstmts.Stmt (tstmt.Return (Some (texpr.Typed 4 (type.Int int.Int) (tnode.Arith op.Or int.Int (texpr.Typed 4 (type.Int int.Int) (tnode.Convert int.Int (texpr.Typed 4 (type.Int int.Short) (tnode.Read (tplace.Place 4 (type.Int int.Short) (tlean.Static 0)))))) (texpr.Typed 4 (type.Int int.Int) (tnode.Read (tplace.Place 4 (type.Int int.Int) (tlean.Local 0)))))))) tstmts.NoStmts))))) } ∷ []); main = 0 }

-- Among its rules: `sizeof` of an expression, `~`, `do`.
--     struct S0{
--     int
--      *m;};int main
--     (void
--     ){{{~(*
--     ((int
--      *)NULL));}
--     }
--     do {int d1
--     ;d1;}while(
--     sizeof 0)
--     ;}
abbrev pub program_six : ProgramTree
program_six = ((item.Decls 0 1 false (spec.Struct 0 (Some (83 ∷ 48 ∷ [])) (members.MemberLine (spec.Integer 3 (word.Int ∷ [])) (declarators.Declarator (declarator.Bare 1 (109 ∷ []) 5 dims.NoDims) declarators.NoDeclarators) members.NoMembers)) ([])) ∷ (item.Function 9 3 false (spec.Integer 9 (word.Int ∷ [])) 0 (109 ∷ 97 ∷ 105 ∷ 110 ∷ []) 10 params.Void (source.Block 14 5 (items.Statement (source.Block 15 5 (items.Statement (source.Block 16 5 (items.Statement (source.Expr 17 5 (Some (tree.Unary (mark 17 17 5) sign.Tilde (tree.Paren (mark 18 18 5) (tree.Unary (mark 19 19 5) sign.Star (tree.Paren (mark 20 20 6) (tree.Cast (mark 21 21 6) (named.TypeName (spec.Integer 22 (word.Int ∷ [])) 1 dims.NoDims) (tree.Null (mark 25 25 7))))))))) items.NoItems)) items.NoItems)) (items.Statement (source.Do 31 9 (source.Block 32 9 (items.Declaration (local 33 9 false (spec.Integer 33 (word.Int ∷ [])) (declarators.Declarator (declarator.Bare 0 (100 ∷ 49 ∷ []) 34 dims.NoDims) declarators.NoDeclarators)) (items.Statement (source.Expr 36 10 (Some (tree.Name (mark 36 36 10) (100 ∷ 49 ∷ [])))) items.NoItems))) (tree.SizeExpr (mark 41 41 11) (tree.Number (mark 42 42 11) (pos 0) int.Int))) items.NoItems)))) ∷ [])

abbrev pub typed_six : TypedProgram
typed_six = record { structs = (record { complete = true; members = (record { name = (109 ∷ []); ty = (type.Pointer (type.Int int.Int)) } ∷ []) } ∷ []); statics = ([]); functions = (record { name = (109 ∷ 97 ∷ 105 ∷ 110 ∷ []); result = (type.Int int.Int); params = 0; locals = ((type.Int int.Int) ∷ []); names = (record { name = (100 ∷ 49 ∷ []); line = 9 } ∷ []); nodes = 9; weight = 144; body = (tstmt.Block (tstmts.Stmt (tstmt.Block (tstmts.Stmt (tstmt.Block (tstmts.Stmt (tstmt.Expr (texpr.Typed 5 (type.Int int.Int) (tnode.Arith op.Xor int.Int (texpr.Typed 5 (type.Int int.Int) (tnode.Read (tplace.Place 5 (type.Int int.Int) (tlean.Value (texpr.Typed 7 (type.Pointer (type.Int int.Int)) tnode.Null))))) (texpr.Typed 5 (type.Int int.Int) (tnode.Num (negsuc 0)))))) tstmts.NoStmts)) tstmts.NoStmts)) (tstmts.Stmt (tstmt.Do (tstmt.Block (tstmts.Stmt (tstmt.Expr (texpr.Typed 10 (type.Int int.Int) (tnode.Read (tplace.Place 10 (type.Int int.Int) (tlean.Local 0))))) tstmts.NoStmts)) (texpr.Typed 11 (type.Int int.ULong) (tnode.Num (pos 4)))) tstmts.NoStmts))) } ∷ []); main = 0 }

-- Among its rules: `static` in a block, `static` at file scope, `--e`.
--     struct S0{int m;};static int t1;struct S1{signed int *m;};int main(void){int **x2
--     ;static int t3=65535<<3;char
--      x1=--t1;*((struct S1 *
--     )0)=*
--     ((struct S1 *)0);}
abbrev pub program_seven : ProgramTree
program_seven = ((item.Decls 0 1 false (spec.Struct 0 (Some (83 ∷ 48 ∷ [])) (members.MemberLine (spec.Integer 3 (word.Int ∷ [])) (declarators.Declarator (declarator.Bare 0 (109 ∷ []) 4 dims.NoDims) declarators.NoDeclarators) members.NoMembers)) ([])) ∷ (item.Decls 8 1 true (spec.Integer 9 (word.Int ∷ [])) ((file.Object (declarator.Bare 0 (116 ∷ 49 ∷ []) 10 dims.NoDims)) ∷ [])) ∷ (item.Decls 12 1 false (spec.Struct 12 (Some (83 ∷ 49 ∷ [])) (members.MemberLine (spec.Integer 15 (word.Signed ∷ word.Int ∷ [])) (declarators.Declarator (declarator.Bare 1 (109 ∷ []) 18 dims.NoDims) declarators.NoDeclarators) members.NoMembers)) ([])) ∷ (item.Function 22 1 false (spec.Integer 22 (word.Int ∷ [])) 0 (109 ∷ 97 ∷ 105 ∷ 110 ∷ []) 23 params.Void (source.Block 27 1 (items.Declaration (local 28 1 false (spec.Integer 28 (word.Int ∷ [])) (declarators.Declarator (declarator.Bare 2 (120 ∷ 50 ∷ []) 31 dims.NoDims) declarators.NoDeclarators)) (items.Declaration (local 33 2 true (spec.Integer 34 (word.Int ∷ [])) (declarators.Declarator (declarator.Initial 0 (116 ∷ 51 ∷ []) 35 dims.NoDims (init.Value (tree.Join (mark 37 38 2) (joint.Binary sign.Shl) (tree.Number (mark 37 37 2) (pos 65535) int.Int) (tree.Number (mark 39 39 2) (pos 3) int.Int)))) declarators.NoDeclarators)) (items.Declaration (local 41 2 false (spec.Integer 41 (word.Char ∷ [])) (declarators.Declarator (declarator.Initial 0 (120 ∷ 49 ∷ []) 42 dims.NoDims (init.Value (tree.Step (mark 44 44 3) false true (tree.Name (mark 45 45 3) (116 ∷ 49 ∷ []))))) declarators.NoDeclarators)) (items.Statement (source.Expr 47 3 (Some (tree.Join (mark 47 56 3) (joint.Assign sign.Assign) (tree.Unary (mark 47 47 3) sign.Star (tree.Paren (mark 48 48 3) (tree.Cast (mark 49 49 3) (named.TypeName (spec.Tag 50 (83 ∷ 49 ∷ [])) 1 dims.NoDims) (tree.Number (mark 54 54 4) (pos 0) int.Int)))) (tree.Unary (mark 57 57 4) sign.Star (tree.Paren (mark 58 58 5) (tree.Cast (mark 59 59 5) (named.TypeName (spec.Tag 60 (83 ∷ 49 ∷ [])) 1 dims.NoDims) (tree.Number (mark 64 64 5) (pos 0) int.Int))))))) items.NoItems)))))) ∷ [])

abbrev pub typed_seven : TypedProgram
typed_seven = record { structs = (record { complete = true; members = (record { name = (109 ∷ []); ty = (type.Int int.Int) } ∷ []) } ∷ record { complete = true; members = (record { name = (109 ∷ []); ty = (type.Pointer (type.Int int.Int)) } ∷ []) } ∷ []); statics = (record { name = record { name = (116 ∷ 49 ∷ []); line = 1 }; ty = (type.Int int.Int); image = record { bytes = ([]); pointers = ([]) } } ∷ record { name = record { name = (116 ∷ 51 ∷ []); line = 2 }; ty = (type.Int int.Int); image = record { bytes = (248 ∷ 255 ∷ 7 ∷ []); pointers = ([]) } } ∷ []); functions = (record { name = (109 ∷ 97 ∷ 105 ∷ 110 ∷ []); result = (type.Int int.Int); params = 0; locals = ((type.Pointer (type.Pointer (type.Int int.Int))) ∷ (type.Int int.Char) ∷ []); names = (record { name = (120 ∷ 50 ∷ []); line = 1 } ∷ record { name = (120 ∷ 49 ∷ []); line = 2 } ∷ []); nodes = 14; weight = 168; body = (tstmt.Block (tstmts.Stmt (tstmt.Init 1 (tinit.Value (texpr.Typed 3 (type.Int int.Char) (tnode.Convert int.Char (texpr.Typed 3 (type.Int int.Int) (tnode.Update op.Sub int.Int false (tplace.Place 3 (type.Int int.Int) (tlean.Static 0)) (texpr.Typed 3 (type.Int int.Int) (tnode.Num (pos 1))))))))) (tstmts.Stmt (tstmt.Expr (texpr.Typed 3 type.Void (tnode.CopyStruct (tplace.Place 3 (type.Struct 1) (tlean.Value (texpr.Typed 4 (type.Pointer (type.Struct 1)) tnode.Null))) (tplace.Place 3 (type.Struct 1) (tlean.Value (texpr.Typed 5 (type.Pointer (type.Struct 1)) tnode.Null)))))) tstmts.NoStmts))) } ∷ []); main = 0 }

-- Among its rules: `%`, `&`, `size_t`.
--     unsigned long
--      long int a1=EOF?4
--     :EOF
--     ;size_t x1=(short)11;int main(void)
--     {signed int y3=*&a1;(
--     char)y3
--     ;
--     y3=(a1
--     *a1
--     )&(a1%x1);
--     }
abbrev pub program_eight : ProgramTree
program_eight = ((item.Decls 0 1 false (spec.Integer 0 (word.Unsigned ∷ word.Long ∷ word.Long ∷ word.Int ∷ [])) ((file.Object (declarator.Initial 0 (97 ∷ 49 ∷ []) 4 dims.NoDims (init.Value (tree.Cond (mark 6 7 2) (tree.Eof (mark 6 6 2)) (tree.Number (mark 8 8 2) (pos 4) int.Int) (tree.Eof (mark 10 10 3)))))) ∷ [])) ∷ (item.Decls 12 4 false (spec.SizeT 12) ((file.Object (declarator.Initial 0 (120 ∷ 49 ∷ []) 13 dims.NoDims (init.Value (tree.Cast (mark 15 15 4) (named.TypeName (spec.Integer 16 (word.Short ∷ [])) 0 dims.NoDims) (tree.Number (mark 18 18 4) (pos 11) int.Int))))) ∷ [])) ∷ (item.Function 20 4 false (spec.Integer 20 (word.Int ∷ [])) 0 (109 ∷ 97 ∷ 105 ∷ 110 ∷ []) 21 params.Void (source.Block 25 5 (items.Declaration (local 26 5 false (spec.Integer 26 (word.Signed ∷ word.Int ∷ [])) (declarators.Declarator (declarator.Initial 0 (121 ∷ 51 ∷ []) 28 dims.NoDims (init.Value (tree.Unary (mark 30 30 5) sign.Star (tree.Unary (mark 31 31 5) sign.Amp (tree.Name (mark 32 32 5) (97 ∷ 49 ∷ [])))))) declarators.NoDeclarators)) (items.Statement (source.Expr 34 5 (Some (tree.Cast (mark 34 34 5) (named.TypeName (spec.Integer 35 (word.Char ∷ [])) 0 dims.NoDims) (tree.Name (mark 37 37 6) (121 ∷ 51 ∷ []))))) (items.Statement (source.Expr 39 8 (Some (tree.Join (mark 39 40 8) (joint.Assign sign.Assign) (tree.Name (mark 39 39 8) (121 ∷ 51 ∷ [])) (tree.Join (mark 41 46 8) (joint.Binary sign.Amp) (tree.Paren (mark 41 41 8) (tree.Join (mark 42 43 8) (joint.Binary sign.Star) (tree.Name (mark 42 42 8) (97 ∷ 49 ∷ [])) (tree.Name (mark 44 44 9) (97 ∷ 49 ∷ [])))) (tree.Paren (mark 47 47 10) (tree.Join (mark 48 49 10) (joint.Binary sign.Percent) (tree.Name (mark 48 48 10) (97 ∷ 49 ∷ [])) (tree.Name (mark 50 50 10) (120 ∷ 49 ∷ [])))))))) items.NoItems))))) ∷ [])

abbrev pub typed_eight : TypedProgram
typed_eight = record { structs = ([]); statics = (record { name = record { name = (97 ∷ 49 ∷ []); line = 1 }; ty = (type.Int int.ULLong); image = record { bytes = (4 ∷ []); pointers = ([]) } } ∷ record { name = record { name = (120 ∷ 49 ∷ []); line = 4 }; ty = (type.Int int.ULong); image = record { bytes = (11 ∷ []); pointers = ([]) } } ∷ []); functions = (record { name = (109 ∷ 97 ∷ 105 ∷ 110 ∷ []); result = (type.Int int.Int); params = 0; locals = ((type.Int int.Int) ∷ []); names = (record { name = (121 ∷ 51 ∷ []); line = 5 } ∷ []); nodes = 16; weight = 176; body = (tstmt.Block (tstmts.Stmt (tstmt.Init 0 (tinit.Value (texpr.Typed 5 (type.Int int.Int) (tnode.Convert int.Int (texpr.Typed 5 (type.Int int.ULLong) (tnode.Read (tplace.Place 5 (type.Int int.ULLong) (tlean.Static 0)))))))) (tstmts.Stmt (tstmt.Expr (texpr.Typed 6 (type.Int int.Char) (tnode.Convert int.Char (texpr.Typed 6 (type.Int int.Int) (tnode.Read (tplace.Place 6 (type.Int int.Int) (tlean.Local 0))))))) (tstmts.Stmt (tstmt.Expr (texpr.Typed 8 (type.Int int.Int) (tnode.Assign (tplace.Place 8 (type.Int int.Int) (tlean.Local 0)) (texpr.Typed 8 (type.Int int.Int) (tnode.Convert int.Int (texpr.Typed 8 (type.Int int.ULLong) (tnode.Arith op.And int.ULLong (texpr.Typed 8 (type.Int int.ULLong) (tnode.Arith op.Mul int.ULLong (texpr.Typed 8 (type.Int int.ULLong) (tnode.Read (tplace.Place 8 (type.Int int.ULLong) (tlean.Static 0)))) (texpr.Typed 9 (type.Int int.ULLong) (tnode.Read (tplace.Place 9 (type.Int int.ULLong) (tlean.Static 0)))))) (texpr.Typed 10 (type.Int int.ULLong) (tnode.Arith op.Rem int.ULLong (texpr.Typed 10 (type.Int int.ULLong) (tnode.Read (tplace.Place 10 (type.Int int.ULLong) (tlean.Static 0)))) (texpr.Typed 10 (type.Int int.ULLong) (tnode.Convert int.ULLong (texpr.Typed 10 (type.Int int.ULong) (tnode.Read (tplace.Place 10 (type.Int int.ULong) (tlean.Static 1))))))))))))))) tstmts.NoStmts)))) } ∷ []); main = 0 }
