-- What the machine that reads programs makes of its parts, and the tests that it makes on them.
use Rattle.std.specs.Prelude.{ℕ, List, [], ◌∷◌, ◌++◌, Bool, false, true, Option, Some, None, cond, ◌&&◌}
use Rattle.ob_tree.specs.declared.tokens.TokenKind.{TokenKind}
use Rattle.ob_tree.specs.declared.tokens.TokenKind.TheVariants as kind
use Rattle.ob_tree.specs.declared.tokens.Keyword.TheVariants as word
use Rattle.ob_tree.specs.declared.tokens.Sign.TheVariants as sign
use Rattle.ob_tree.specs.Trees.{SpecTree, ObjTree, ObjTrees, DimTrees, InitTree, InitTrees}
use Rattle.ob_tree.specs.Programs.{LocalTree, StmtTree, BlockTrees, ParamTree, ParamsTree, FileTree, ItemTree}
use Rattle.ob_tree.specs.ProgramValid.{is_void_alone}
use Rattle.ob_tree.specs.ProgramStates.{Declaration, Declarator, ParamList, InitDeclarator, State}

-- The state behind a token that has to be this one.
abbrev pub at_semi : TokenKind → State → Option State
at_semi (kind.Sign sign.Semi) s = Some s
at_semi k s = None

abbrev pub at_open : TokenKind → State → Option State
at_open (kind.Sign sign.OpenParen) s = Some s
at_open k s = None

abbrev pub at_close : TokenKind → State → Option State
at_close (kind.Sign sign.CloseParen) s = Some s
at_close k s = None

abbrev pub at_bracket : TokenKind → State → Option State
at_bracket (kind.Sign sign.CloseBracket) s = Some s
at_bracket k s = None

abbrev pub at_brace : TokenKind → State → Option State
at_brace (kind.Sign sign.CloseBrace) s = Some s
at_brace k s = None

abbrev pub at_while : TokenKind → State → Option State
at_while (kind.Word word.While) s = Some s
at_while k s = None

-- lists with one item more
abbrev pub add_statement : BlockTrees → StmtTree → BlockTrees
add_statement BlockTrees.NoItems s = BlockTrees.Statement s BlockTrees.NoItems
add_statement (BlockTrees.Declaration l items) s = BlockTrees.Declaration l (add_statement items s)
add_statement (BlockTrees.Statement x items) s = BlockTrees.Statement x (add_statement items s)

abbrev pub add_local : BlockTrees → LocalTree → BlockTrees
add_local BlockTrees.NoItems l = BlockTrees.Declaration l BlockTrees.NoItems
add_local (BlockTrees.Declaration x items) l = BlockTrees.Declaration x (add_local items l)
add_local (BlockTrees.Statement s items) l = BlockTrees.Statement s (add_local items l)

abbrev pub add_init : InitTrees → InitTree → InitTrees
add_init InitTrees.NoItems i = InitTrees.Item i InitTrees.NoItems
add_init (InitTrees.Item x is) i = InitTrees.Item x (add_init is i)

abbrev pub add_name : Declaration → FileTree → Declaration
add_name d x = record { heading = d.heading; spec = d.spec; names = d.names ++ x ∷ [] }

abbrev pub add_param : ParamList → ParamTree → ParamList
add_param l x = record { function = l.function; params = l.params ++ x ∷ [] }

-- Tests on what was read.
abbrev pub is_tagged : Option (List ℕ) → Bool
is_tagged None = false
is_tagged (Some tag) = true

abbrev pub declares_tag : SpecTree → Bool
declares_tag (SpecTree.Tag f tag) = true
declares_tag (SpecTree.Struct f tag ms) = is_tagged tag
declares_tag s = false

abbrev pub has_lengths : DimTrees → Bool
has_lengths (DimTrees.Unsized ds) = false
has_lengths ds = true

abbrev pub has_dims : DimTrees → Bool
has_dims DimTrees.NoDims = false
has_dims ds = true

abbrev pub has_items : InitTrees → Bool
has_items InitTrees.NoItems = false
has_items is = true

abbrev pub are_all_named : List ParamTree → Bool
are_all_named [] = true
are_all_named (x ∷ xs) = is_tagged x.name && are_all_named xs

abbrev pub are_named : ParamsTree → Bool
are_named ParamsTree.Empty = true
are_named ParamsTree.Void = true
are_named (ParamsTree.Listed xs) = are_all_named xs

-- Declarations. `void` alone between the parentheses is the empty list.
abbrev pub params_of : List ParamTree → ParamsTree
params_of [] = ParamsTree.Empty
params_of (x ∷ []) = cond (is_void_alone x.spec x.stars x.name x.dims) ParamsTree.Void (ParamsTree.Listed (x ∷ []))
params_of xs = ParamsTree.Listed xs

-- the objects among declarators, which in a block are all
abbrev pub objects : List FileTree → ObjTrees
objects [] = ObjTrees.NoDeclarators
objects (FileTree.Object o ∷ ds) = ObjTrees.Declarator o (objects ds)
objects (FileTree.Function n name a ps ∷ ds) = objects ds

abbrev pub local_of : Declaration → LocalTree
local_of d = record {
  first = d.heading.first;
  line = d.heading.line;
  fixed = d.heading.fixed;
  spec = d.spec;
  names = objects d.names;
}

abbrev pub item_of : Declaration → ItemTree
item_of d = ItemTree.Decls d.heading.first d.heading.line d.heading.fixed d.spec d.names

abbrev pub bare : Declarator → DimTrees → FileTree
bare x ds = FileTree.Object (ObjTree.Bare x.stars x.name x.at ds)

abbrev pub initial : InitDeclarator → InitTree → FileTree
initial t i = FileTree.Object (ObjTree.Initial t.declarator.stars t.declarator.name t.declarator.at t.dims i)

abbrev pub function : Declarator → ParamsTree → FileTree
function x ps = FileTree.Function x.stars x.name x.at ps

-- no declarator was read
abbrev pub is_first : List FileTree → Bool
is_first [] = true
is_first ds = false
