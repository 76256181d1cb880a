-- Programs that each show one rule: addresses in an initialiser, parameters that point far, conversions of
-- pointers, built-in functions.
use Rattle.std.specs.Prelude.{ℕ, ◌+◌, pos, false, true, Some, None, [], ◌∷◌}
use Rattle.ob_words.specs.declared.types.IntType.TheVariants as int
use Rattle.ob_tree.specs.declared.tokens.Keyword.TheVariants as word
use Rattle.ob_tree.specs.declared.tokens.Sign.TheVariants as sign
use Rattle.ob_tree.specs.Trees.{ExprTree, InitTree, InitTrees, SpecTree}
use Rattle.ob_tree.specs.Trees.{ExprTree as tree, ExprTrees as trees, SpecTree as spec, MemberTrees as members, ObjTree as declarator, ObjTrees as declarators, DimTrees as dims, InitTree as init, InitTrees as inits}
use Rattle.ob_tree.specs.Programs.{ItemTree, ProgramTree, StmtTree}
use Rattle.ob_tree.specs.Programs.{StmtTree as source, BlockTrees as items, ParamsTree as params, FileTree as file, ItemTree as item}
use Rattle.ob_tree.specs.Types.{PlainType, PlainStruct}
use Rattle.ob_tree.specs.Types.{PlainType as type}
use Rattle.ob_typed.specs.declared.names.Builtin.TheVariants as builtin
use Rattle.ob_typed.specs.declared.names.VarName.{VarName}
use Rattle.ob_typed.specs.Examples.{mark, param}
use Rattle.ob_typed.specs.Images.{no_image}
use Rattle.ob_typed.specs.TypedTree.{TypedExpr, TypedFunction, TypedProgram, TypedStmt}
use Rattle.ob_typed.specs.TypedTree.{TypedExpr as texpr, TypedExprs as texprs, TypedPlace as tplace, TypedLean as tlean, TypedNode as tnode, TypedStmt as tstmt, TypedStmts as tstmts}

-- ---- what the programs below are written with

abbrev number : (first value : ℕ) → ExprTree
number first value = tree.Number (mark first first 1) (pos value) int.Int

abbrev name : (first letter : ℕ) → ExprTree
name first letter = tree.Name (mark first first 1) (letter ∷ [])

abbrev value : ExprTree → InitTree
value e = init.Value e

abbrev one_item : InitTree → InitTrees
one_item i = inits.Item i inits.NoItems

-- `int main(void){..}` from the token `first` on
abbrev main_of : (first : ℕ) → StmtTree → ItemTree
main_of first body = item.Function first 1 false (spec.Integer first (word.Int ∷ [])) 0 (109 ∷ 97 ∷ 105 ∷ 110 ∷ []) (first + 1) params.Void body

-- a block of one statement
abbrev block_of : (first : ℕ) → StmtTree → StmtTree
block_of first s = source.Block first 1 (items.Statement s items.NoItems)

-- struct L {struct L *n; int v;}
abbrev list_struct : SpecTree
list_struct =
    spec.Struct 0 (Some (76 ∷ []))
    (members.MemberLine (spec.Tag 3 (76 ∷ [])) (declarators.Declarator (declarator.Bare 1 (110 ∷ []) 6 dims.NoDims) declarators.NoDeclarators)
    (members.MemberLine (spec.Integer 8 (word.Int ∷ [])) (declarators.Declarator (declarator.Bare 0 (118 ∷ []) 9 dims.NoDims) declarators.NoDeclarators)
    members.NoMembers))

-- &l[i], from the token `first` on
abbrev address_of_item : (first i : ℕ) → ExprTree
address_of_item first i = tree.Unary (mark first first 1) sign.Amp (tree.Index (mark (first + 1) (first + 2) 1) (name (first + 1) 108) (number (first + 3) i))

-- {&l[i],1}, from the token `first` on
abbrev linked : (first i : ℕ) → InitTree
linked first i = init.Braces first (inits.Item (value (address_of_item (first + 1) i)) (one_item (value (number (first + 7) 1)))) false

abbrev list_of : (items : InitTrees) → ItemTree
list_of is = item.Decls 0 1 false list_struct ((file.Object (declarator.Initial 0 (108 ∷ []) 12 (dims.Unsized dims.NoDims) (init.Braces 16 is false))) ∷ [])

-- ---- programs

-- An array whose length its initialiser tells has its final size as the bound of the addresses in it.
--     struct L {struct L *n; int v;} l[]={{&l[1],1},{0,2}}; int main(void){return 0;}
abbrev pub own_addresses : ProgramTree
own_addresses =
    list_of (inits.Item (linked 17 1) (one_item (init.Braces 27 (inits.Item (value (number 28 0)) (one_item (value (number 30 2)))) false)))
    ∷ main_of 34 (block_of 39 (source.Return 40 1 (Some (number 41 0))))
    ∷ []

-- The element behind the last one can still be pointed to.
--     struct L {struct L *n; int v;} l[]={{&l[1],1}}; int main(void){return 0;}
abbrev pub own_end : ProgramTree
own_end = list_of (one_item (linked 17 1)) ∷ main_of 28 (block_of 33 (source.Return 34 1 (Some (number 35 0)))) ∷ []

-- An address past it is no constant.
--     struct L {struct L *n; int v;} l[]={{&l[2],1}};
abbrev pub past_own_end : ProgramTree
past_own_end = list_of (one_item (linked 17 2)) ∷ []

-- In its own initialiser such an array has no size yet.
--     int a[]={sizeof a};
abbrev pub own_size : ProgramTree
own_size =
    item.Decls 0 1 false (spec.Integer 0 (word.Int ∷ []))
    ((file.Object (declarator.Initial 0 (97 ∷ []) 1 (dims.Unsized dims.NoDims)
    (init.Braces 5 (one_item (value (tree.SizeExpr (mark 6 6 1) (name 7 97)))) false)))
    ∷ [])
    ∷ []

-- A parameter that points to a type of more than 4,194,304 bytes.
--     int f(char a[][5000000]);
abbrev pub far_parameter : ProgramTree
far_parameter =
    item.Decls 0 1 false (spec.Integer 0 (word.Int ∷ []))
    ((file.Function 0 (102 ∷ []) 1
    (params.Listed (param 3 1 (spec.Integer 3 (word.Char ∷ [])) 0 (Some (97 ∷ [])) 4 (dims.Unsized (dims.Sized (number 8 5000000) dims.NoDims)) ∷ [])))
    ∷ [])
    ∷ []

-- The same without a name.
--     int f(char[][5000000]);
abbrev pub far_parameter_unnamed : ProgramTree
far_parameter_unnamed =
    item.Decls 0 1 false (spec.Integer 0 (word.Int ∷ []))
    ((file.Function 0 (102 ∷ []) 1
    (params.Listed (param 3 1 (spec.Integer 3 (word.Char ∷ [])) 0 None 3 (dims.Unsized (dims.Sized (number 7 5000000) dims.NoDims)) ∷ [])))
    ∷ [])
    ∷ []

-- A pointer that becomes another changes its type alone.
--     int *p; int main(void){free(p);}
abbrev pub freed_pointer : ProgramTree
freed_pointer =
    item.Decls 0 1 false (spec.Integer 0 (word.Int ∷ [])) ((file.Object (declarator.Bare 1 (112 ∷ []) 2 dims.NoDims)) ∷ [])
    ∷ main_of 4 (block_of 9 (source.Expr 10 1 (Some (tree.Call (mark 10 10 1) (102 ∷ 114 ∷ 101 ∷ 101 ∷ []) (trees.Argument (name 12 112) trees.NoArguments)))))
    ∷ []

-- A call of `exit`, with a number that becomes an `int`.
--     int main(void){exit(3L);}
abbrev pub exit_call : ProgramTree
exit_call =
    main_of 0 (block_of 5 (source.Expr 6 1 (Some (tree.Call (mark 6 6 1) (101 ∷ 120 ∷ 105 ∷ 116 ∷ [])
    (trees.Argument (tree.Number (mark 8 8 1) (pos 3) int.Long) trees.NoArguments)))))
    ∷ []

-- ---- their typed trees

abbrev int_type : PlainType
int_type = type.Int int.Int

abbrev plain_int : (value : ℕ) → TypedExpr
plain_int n = texpr.Typed 1 int_type (tnode.Num (pos n))

abbrev main_with : (nodes weight : ℕ) → TypedStmt → TypedFunction
main_with n w s = record {
  name = 109 ∷ 97 ∷ 105 ∷ 110 ∷ [];
  result = int_type;
  params = 0;
  locals = [];
  names = [];
  nodes = n;
  weight = w;
  body = tstmt.Block (tstmts.Stmt s tstmts.NoStmts);
}

abbrev typed_list : PlainStruct
typed_list = record { complete = true; members = record { name = 110 ∷ []; ty = type.Pointer (type.Struct 0) } ∷ record { name = 118 ∷ []; ty = int_type } ∷ [] }

abbrev named : (letter : ℕ) → VarName
named letter = record { name = letter ∷ []; line = 1 }

abbrev pub typed_own_addresses : TypedProgram
typed_own_addresses = record {
  structs = typed_list ∷ [];
  statics = record {
    name = named 108;
    ty = type.Array (type.Struct 0) 2;
    image = record {
      bytes = 0 ∷ 0 ∷ 0 ∷ 0 ∷ 0 ∷ 0 ∷ 0 ∷ 0 ∷ 1 ∷ 0 ∷ 0 ∷ 0 ∷ 0 ∷ 0 ∷ 0 ∷ 0 ∷ 0 ∷ 0 ∷ 0 ∷ 0 ∷ 0 ∷ 0 ∷ 0 ∷ 0 ∷ 2 ∷ [];
      pointers = record { at = 0; target = 0; offset = 16 } ∷ [];
    };
  }
      ∷ [];
  functions = main_with 1 32 (tstmt.Return (Some (plain_int 0))) ∷ [];
  main = 0;
}

abbrev pub typed_own_end : TypedProgram
typed_own_end = record {
  structs = typed_list ∷ [];
  statics = record {
    name = named 108;
    ty = type.Array (type.Struct 0) 1;
    image = record { bytes = 0 ∷ 0 ∷ 0 ∷ 0 ∷ 0 ∷ 0 ∷ 0 ∷ 0 ∷ 1 ∷ []; pointers = record { at = 0; target = 0; offset = 16 } ∷ [] };
  }
      ∷ [];
  functions = main_with 1 32 (tstmt.Return (Some (plain_int 0))) ∷ [];
  main = 0;
}

abbrev pub typed_freed_pointer : TypedProgram
typed_freed_pointer = record {
  structs = [];
  statics = record { name = named 112; ty = type.Pointer int_type; image = no_image } ∷ [];
  functions = main_with 2 40 (tstmt.Expr (texpr.Typed 1 type.Void (tnode.CallBuiltin builtin.Free
      (texprs.Argument (texpr.Typed 1 (type.Pointer type.Void) (tnode.Read (tplace.Place 1 (type.Pointer int_type) (tlean.Static 0)))) texprs.NoArguments))))
      ∷ [];
  main = 0;
}

abbrev pub typed_exit_call : TypedProgram
typed_exit_call = record {
  structs = [];
  statics = [];
  functions = main_with 2 40 (tstmt.Expr (texpr.Typed 1 type.Void (tnode.CallBuiltin builtin.Exit
      (texprs.Argument (texpr.Typed 1 int_type (tnode.Convert int.Int (texpr.Typed 1 (type.Int int.Long) (tnode.Num (pos 3))))) texprs.NoArguments))))
      ∷ [];
  main = 0;
}
