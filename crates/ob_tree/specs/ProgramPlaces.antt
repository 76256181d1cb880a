-- Where statements and external declarations stand: the same tree with the places that it has where its first
-- token stands at place p. `lines` gives the line of the token at each place.
use Rattle.std.specs.Prelude.{◌≡◌, ℕ, ◌+◌, Bool, List, [], ◌∷◌, length, Option, Some, None}
use Rattle.ob_tree.specs.Trees.{ExprTree}
use Rattle.ob_tree.specs.Programs.{LocalTree, StartTree, StmtTree, BlockTrees, ParamTree, ParamsTree, FileTree, ItemTree, ProgramTree}
use Rattle.ob_tree.specs.ProgramSpelling.{spell_option, spell_static, spell_local, spell_start, spell_stmt, spell_param, spell_params, spell_file, spell_item}
use Rattle.ob_tree.specs.Places.{width, width_name, width_spec, place, place_spec, place_objs, place_obj, place_dims}

-- how many tokens a tree has
abbrev pub width_option : Option ExprTree → ℕ
width_option e = length (spell_option e)

abbrev pub width_static : Bool → ℕ
width_static fixed = length (spell_static fixed)

abbrev pub width_local : LocalTree → ℕ
width_local l = length (spell_local l)

abbrev pub width_start : StartTree → ℕ
width_start s = length (spell_start s)

abbrev pub width_stmt : StmtTree → ℕ
width_stmt s = length (spell_stmt s)

abbrev pub width_param : ParamTree → ℕ
width_param p = length (spell_param p)

abbrev pub width_params : ParamsTree → ℕ
width_params ps = length (spell_params ps)

abbrev pub width_file : FileTree → ℕ
width_file d = length (spell_file d)

abbrev pub width_item : ItemTree → ℕ
width_item i = length (spell_item i)

abbrev pub place_option : (lines : ℕ → ℕ) (p : ℕ) → Option ExprTree → Option ExprTree
place_option lines p None = None
place_option lines p (Some e) = Some (place lines p e)

-- the specifier stands behind `static`
abbrev pub place_local : (lines : ℕ → ℕ) (p : ℕ) → LocalTree → LocalTree
place_local lines p l = record {
  first = p;
  line = lines p;
  fixed = l.fixed;
  spec = place_spec lines (p + width_static l.fixed) l.spec;
  names = place_objs lines (p + width_static l.fixed + width_spec l.spec) l.names;
}

abbrev pub place_start : (lines : ℕ → ℕ) (p : ℕ) → StartTree → StartTree
place_start lines p (StartTree.Expr e) = StartTree.Expr (place_option lines p e)
place_start lines p (StartTree.Local l) = StartTree.Local (place_local lines p l)

abbrev mutual
  pub place_stmt : (lines : ℕ → ℕ) (p : ℕ) → StmtTree → StmtTree
  place_stmt lines p (StmtTree.Block f n items) = StmtTree.Block p (lines p) (place_block lines (p + 1) items)
  place_stmt lines p (StmtTree.Expr f n e) = StmtTree.Expr p (lines p) (place_option lines p e)
  place_stmt lines p (StmtTree.If f n c s) =
      StmtTree.If p (lines p) (place lines (p + 2) c) (place_stmt lines (p + width c + 3) s)
  place_stmt lines p (StmtTree.IfElse f n c s t) =
      StmtTree.IfElse p (lines p) (place lines (p + 2) c) (place_stmt lines (p + width c + 3) s) (place_stmt lines (p + width c + width_stmt s + 4) t)
  place_stmt lines p (StmtTree.While f n c s) =
      StmtTree.While p (lines p) (place lines (p + 2) c) (place_stmt lines (p + width c + 3) s)
  place_stmt lines p (StmtTree.Do f n s c) =
      StmtTree.Do p (lines p) (place_stmt lines (p + 1) s) (place lines (p + width_stmt s + 3) c)
  place_stmt lines p (StmtTree.For f n start test next s) =
      StmtTree.For p (lines p) (place_start lines (p + 2) start)
      (place_option lines (p + width_start start + 2) test)
      (place_option lines (p + width_start start + width_option test + 3) next)
      (place_stmt lines (p + width_start start + width_option test + width_option next + 4) s)
  place_stmt lines p (StmtTree.Break f n) = StmtTree.Break p (lines p)
  place_stmt lines p (StmtTree.Continue f n) = StmtTree.Continue p (lines p)
  place_stmt lines p (StmtTree.Return f n e) = StmtTree.Return p (lines p) (place_option lines (p + 1) e)

  pub place_block : (lines : ℕ → ℕ) (p : ℕ) → BlockTrees → BlockTrees
  place_block lines p BlockTrees.NoItems = BlockTrees.NoItems
  place_block lines p (BlockTrees.Declaration l items) =
      BlockTrees.Declaration (place_local lines p l) (place_block lines (p + width_local l) items)
  place_block lines p (BlockTrees.Statement s items) =
      BlockTrees.Statement (place_stmt lines p s) (place_block lines (p + width_stmt s) items)

-- the place of a parameter's name, or that of its first token p where it has no name
abbrev pub name_place : (p before : ℕ) → Option (List ℕ) → ℕ
name_place p before None = p
name_place p before (Some name) = p + before

abbrev pub place_param : (lines : ℕ → ℕ) (p : ℕ) → ParamTree → ParamTree
place_param lines p x = record {
  first = p;
  line = lines p;
  spec = place_spec lines p x.spec;
  stars = x.stars;
  name = x.name;
  at = name_place p (width_spec x.spec + x.stars) x.name;
  dims = place_dims lines (p + width_spec x.spec + x.stars + width_name x.name) x.dims;
}

-- behind each parameter but the last stands a comma
abbrev pub place_list : (lines : ℕ → ℕ) (p : ℕ) → List ParamTree → List ParamTree
place_list lines p [] = []
place_list lines p (x ∷ xs) = place_param lines p x ∷ place_list lines (p + width_param x + 1) xs

abbrev pub place_params : (lines : ℕ → ℕ) (p : ℕ) → ParamsTree → ParamsTree
place_params lines p ParamsTree.Empty = ParamsTree.Empty
place_params lines p ParamsTree.Void = ParamsTree.Void
place_params lines p (ParamsTree.Listed ps) = ParamsTree.Listed (place_list lines p ps)

abbrev pub place_file : (lines : ℕ → ℕ) (p : ℕ) → FileTree → FileTree
place_file lines p (FileTree.Function n name a ps) = FileTree.Function n name (p + n) (place_params lines (p + n + 2) ps)
place_file lines p (FileTree.Object o) = FileTree.Object (place_obj lines p o)

-- behind each declarator but the last stands a comma
abbrev pub place_files : (lines : ℕ → ℕ) (p : ℕ) → List FileTree → List FileTree
place_files lines p [] = []
place_files lines p (d ∷ ds) = place_file lines p d ∷ place_files lines (p + width_file d + 1) ds

abbrev pub place_item : (lines : ℕ → ℕ) (p : ℕ) → ItemTree → ItemTree
place_item lines p (ItemTree.Function f n fixed s stars name a ps body) =
    ItemTree.Function p (lines p) fixed (place_spec lines (p + width_static fixed) s) stars name
    (p + width_static fixed + width_spec s + stars)
    (place_params lines (p + width_static fixed + width_spec s + stars + 2) ps)
    (place_stmt lines (p + width_static fixed + width_spec s + stars + width_params ps + 3) body)
place_item lines p (ItemTree.Decls f n fixed s ds) =
    ItemTree.Decls p (lines p) fixed (place_spec lines (p + width_static fixed) s) (place_files lines (p + width_static fixed + width_spec s) ds)

abbrev pub place_program : (lines : ℕ → ℕ) (p : ℕ) → ProgramTree → ProgramTree
place_program lines p [] = []
place_program lines p (i ∷ is) = place_item lines p i ∷ place_program lines (p + width_item i) is

-- The program stands where its own tokens stand, the first at place 0.
abbrev pub PlacedProgram : (lines : ℕ → ℕ) → ProgramTree → Type 0
PlacedProgram lines p = place_program lines 0 p ≡ p
