-- The nodes on the paths of a program. Nodes are external declarations, declarations in blocks, statements (the
-- body of a function is one), and those of the expressions, specifiers and declarators in them. The stars and
-- brackets of a parameter stand below the external declaration, as those of its other declarators do. A node
-- has begun when its first token was read.
use Rattle.std.specs.Prelude.{ℕ, ◌+◌, ◌-◌, max, min, List, [], ◌∷◌, Option, Some, None}
use Rattle.ob_tree.specs.Trees.{ExprTree}
use Rattle.ob_tree.specs.Programs.{LocalTree, StartTree, StmtTree, BlockTrees, ParamTree, ParamsTree, FileTree, ItemTree, ProgramTree}
use Rattle.ob_tree.specs.Places.{width, width_name, width_spec}
use Rattle.ob_tree.specs.ProgramPlaces.{width_option, width_static, width_local, width_start, width_stmt, width_param, width_params, width_file, width_item}
use Rattle.ob_tree.specs.Paths.{node_with, begun, begun_spec, begun_objs, begun_obj, begun_dims, height, height_spec, height_objs, height_obj, height_dims}

-- The most nodes on a path that have begun when k tokens of the spelling were read.
abbrev pub begun_option : Option ExprTree → (k : ℕ) → ℕ
begun_option None k = 0
begun_option (Some e) k = begun e k

abbrev pub begun_local : LocalTree → (k : ℕ) → ℕ
begun_local l k =
    node_with k (max (begun_spec l.spec (k - width_static l.fixed)) (begun_objs l.names (k - (width_static l.fixed + width_spec l.spec))))

abbrev pub begun_start : StartTree → (k : ℕ) → ℕ
begun_start (StartTree.Expr e) k = begun_option e k
begun_start (StartTree.Local l) k = begun_local l k

abbrev mutual
  pub begun_stmt : StmtTree → (k : ℕ) → ℕ
  begun_stmt (StmtTree.Block f n items) k = node_with k (begun_block items (k - 1))
  begun_stmt (StmtTree.Expr f n e) k = node_with k (begun_option e k)
  begun_stmt (StmtTree.If f n c s) k = node_with k (max (begun c (k - 2)) (begun_stmt s (k - (width c + 3))))
  begun_stmt (StmtTree.IfElse f n c s t) k =
      node_with k (max (begun c (k - 2)) (max (begun_stmt s (k - (width c + 3))) (begun_stmt t (k - (width c + width_stmt s + 4)))))
  begun_stmt (StmtTree.While f n c s) k = node_with k (max (begun c (k - 2)) (begun_stmt s (k - (width c + 3))))
  begun_stmt (StmtTree.Do f n s c) k = node_with k (max (begun_stmt s (k - 1)) (begun c (k - (width_stmt s + 3))))
  begun_stmt (StmtTree.For f n start test next s) k =
      node_with k (
      max (begun_start start (k - 2)) (
      max (begun_option test (k - (width_start start + 2))) (
      max (begun_option next (k - (width_start start + width_option test + 3)))
      (begun_stmt s (k - (width_start start + width_option test + width_option next + 4)))
      )
      )
      )
  begun_stmt (StmtTree.Break f n) k = node_with k 0
  begun_stmt (StmtTree.Continue f n) k = node_with k 0
  begun_stmt (StmtTree.Return f n e) k = node_with k (begun_option e (k - 1))

  pub begun_block : BlockTrees → (k : ℕ) → ℕ
  begun_block BlockTrees.NoItems k = 0
  begun_block (BlockTrees.Declaration l items) k = max (begun_local l k) (begun_block items (k - width_local l))
  begun_block (BlockTrees.Statement s items) k = max (begun_stmt s k) (begun_block items (k - width_stmt s))

-- the specifier's nodes, and beside them the stars with the brackets below them
abbrev pub begun_param : ParamTree → (k : ℕ) → ℕ
begun_param p k =
    max (begun_spec p.spec k) (min p.stars (k - width_spec p.spec) + begun_dims p.dims (k - (width_spec p.spec + p.stars + width_name p.name)))

abbrev pub begun_list : List ParamTree → (k : ℕ) → ℕ
begun_list [] k = 0
begun_list (p ∷ ps) k = max (begun_param p k) (begun_list ps (k - (width_param p + 1)))

abbrev pub begun_params : ParamsTree → (k : ℕ) → ℕ
begun_params ParamsTree.Empty k = 0
begun_params ParamsTree.Void k = 0
begun_params (ParamsTree.Listed ps) k = begun_list ps k

-- the stars of a function declarator, and beside them its parameters
abbrev pub begun_function : (stars : ℕ) → ParamsTree → (k : ℕ) → ℕ
begun_function n ps k = max (min n k) (begun_params ps (k - (n + 2)))

abbrev pub begun_file : FileTree → (k : ℕ) → ℕ
begun_file (FileTree.Function n name a ps) k = begun_function n ps k
begun_file (FileTree.Object o) k = begun_obj o k

abbrev pub begun_files : List FileTree → (k : ℕ) → ℕ
begun_files [] k = 0
begun_files (d ∷ ds) k = max (begun_file d k) (begun_files ds (k - (width_file d + 1)))

abbrev pub begun_item : ItemTree → (k : ℕ) → ℕ
begun_item (ItemTree.Function f n fixed s stars name a ps body) k =
    node_with k (
    max (begun_spec s (k - width_static fixed)) (
    max (begun_function stars ps (k - (width_static fixed + width_spec s)))
    (begun_stmt body (k - (width_static fixed + width_spec s + stars + width_params ps + 3)))
    )
    )
begun_item (ItemTree.Decls f n fixed s ds) k =
    node_with k (max (begun_spec s (k - width_static fixed)) (begun_files ds (k - (width_static fixed + width_spec s))))

abbrev pub begun_program : ProgramTree → (k : ℕ) → ℕ
begun_program [] k = 0
begun_program (i ∷ is) k = max (begun_item i k) (begun_program is (k - width_item i))

-- The most nodes on a path.
abbrev pub height_option : Option ExprTree → ℕ
height_option None = 0
height_option (Some e) = height e

abbrev pub height_local : LocalTree → ℕ
height_local l = 1 + max (height_spec l.spec) (height_objs l.names)

abbrev pub height_start : StartTree → ℕ
height_start (StartTree.Expr e) = height_option e
height_start (StartTree.Local l) = height_local l

abbrev mutual
  pub height_stmt : StmtTree → ℕ
  height_stmt (StmtTree.Block f n items) = 1 + height_block items
  height_stmt (StmtTree.Expr f n e) = 1 + height_option e
  height_stmt (StmtTree.If f n c s) = 1 + max (height c) (height_stmt s)
  height_stmt (StmtTree.IfElse f n c s t) = 1 + max (height c) (max (height_stmt s) (height_stmt t))
  height_stmt (StmtTree.While f n c s) = 1 + max (height c) (height_stmt s)
  height_stmt (StmtTree.Do f n s c) = 1 + max (height_stmt s) (height c)
  height_stmt (StmtTree.For f n start test next s) =
      1 + max (height_start start) (max (height_option test) (max (height_option next) (height_stmt s)))
  height_stmt (StmtTree.Break f n) = 1
  height_stmt (StmtTree.Continue f n) = 1
  height_stmt (StmtTree.Return f n e) = 1 + height_option e

  pub height_block : BlockTrees → ℕ
  height_block BlockTrees.NoItems = 0
  height_block (BlockTrees.Declaration l items) = max (height_local l) (height_block items)
  height_block (BlockTrees.Statement s items) = max (height_stmt s) (height_block items)

abbrev pub height_param : ParamTree → ℕ
height_param p = max (height_spec p.spec) (p.stars + height_dims p.dims)

abbrev pub height_list : List ParamTree → ℕ
height_list [] = 0
height_list (p ∷ ps) = max (height_param p) (height_list ps)

abbrev pub height_params : ParamsTree → ℕ
height_params ParamsTree.Empty = 0
height_params ParamsTree.Void = 0
height_params (ParamsTree.Listed ps) = height_list ps

abbrev pub height_function : (stars : ℕ) → ParamsTree → ℕ
height_function n ps = max n (height_params ps)

abbrev pub height_file : FileTree → ℕ
height_file (FileTree.Function n name a ps) = height_function n ps
height_file (FileTree.Object o) = height_obj o

abbrev pub height_files : List FileTree → ℕ
height_files [] = 0
height_files (d ∷ ds) = max (height_file d) (height_files ds)

abbrev pub height_item : ItemTree → ℕ
height_item (ItemTree.Function f n fixed s stars name a ps body) =
    1 + max (height_spec s) (max (height_function stars ps) (height_stmt body))
height_item (ItemTree.Decls f n fixed s ds) = 1 + max (height_spec s) (height_files ds)

abbrev pub height_program : ProgramTree → ℕ
height_program [] = 0
height_program (i ∷ is) = max (height_item i) (height_program is)
