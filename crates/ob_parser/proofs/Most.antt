-- No more nodes on a path have begun than there are.
use Rattle.std.proofs.Common.{ℕ, zero, suc, ◌+◌, ◌-◌, ◌≤◌, max, List, [], ◌∷◌, Option, Some, None, arith}
use Rattle.ob_tree.specs.Trees.{ExprTree, ExprTrees, TypeTree, SpecTree, MemberTrees, ObjTree, ObjTrees, DimTrees, InitTree, InitTrees}
use Rattle.ob_tree.specs.Programs.{LocalTree, StartTree, StmtTree, BlockTrees, ParamTree, ParamsTree, FileTree, ItemTree, ProgramTree}
use Rattle.ob_tree.specs.Places.{width, width_name, width_type, width_spec, width_objs, width_obj, width_dims, width_init, step_place}
use Rattle.ob_tree.specs.Paths.{node_with, begun, begun_arguments, begun_type, begun_spec, begun_members, begun_objs, begun_obj, begun_dims, begun_init, begun_inits, height, height_arguments, height_type, height_spec, height_members, height_objs, height_obj, height_dims, height_init, height_inits}
use Rattle.ob_tree.specs.ProgramPlaces.{width_option, width_static, width_local, width_start, width_stmt, width_param, width_params, width_file, width_item}
use Rattle.ob_tree.specs.ProgramPaths.{begun_option, begun_local, begun_start, begun_stmt, begun_block, begun_param, begun_list, begun_params, begun_function, begun_file, begun_files, begun_item, begun_program, height_option, height_local, height_start, height_stmt, height_block, height_param, height_list, height_params, height_function, height_file, height_files, height_item, height_program}

pub node-most : (k n : ℕ) → node_with k n ≤ 1 + n
node-most zero n = omega arith
node-most (suc k) n = omega arith

mutual
  pub most : (e : ExprTree) (k : ℕ) → begun e k ≤ height e
  most (ExprTree.Name m name) k = node-most k 0
  most (ExprTree.Number m value ty) k = node-most k 0
  most (ExprTree.Null m) k = node-most k 0
  most (ExprTree.Eof m) k = node-most k 0
  most (ExprTree.Str m strings) k = node-most k 0
  most (ExprTree.Paren m e) k = omega (arith, node-most k (begun e (k - 1)), most e (k - 1))
  most (ExprTree.Index m b i) k =
      omega (arith, node-most k (max (begun b k) (begun i (k - (width b + 1)))), most b k, most i (k - (width b + 1)))
  most (ExprTree.Call m name es) k = omega (arith, node-most k (begun_arguments es (k - 2)), arguments-most es (k - 2))
  most (ExprTree.Member m b name) k = omega (arith, node-most k (begun b k), most b k)
  most (ExprTree.Arrow m b name) k = omega (arith, node-most k (begun b k), most b k)
  most (ExprTree.Step m post down e) k = omega (arith, node-most k (begun e (k - step_place 0 post)), most e (k - step_place 0 post))
  most (ExprTree.Unary m s e) k = omega (arith, node-most k (begun e (k - 1)), most e (k - 1))
  most (ExprTree.SizeExpr m e) k = omega (arith, node-most k (begun e (k - 1)), most e (k - 1))
  most (ExprTree.SizeType m t) k = omega (arith, node-most k (begun_type t (k - 2)), type-most t (k - 2))
  most (ExprTree.Cast m t e) k =
      omega (arith, node-most k (max (begun_type t (k - 1)) (begun e (k - (width_type t + 2)))), type-most t (k - 1), most e (k - (width_type t + 2)))
  most (ExprTree.Cond m c x y) k =
      omega (
        arith,
        node-most k (max (begun c k) (max (begun x (k - (width c + 1))) (begun y (k - (width c + width x + 2))))),
        most c k,
        most x (k - (width c + 1)),
        most y (k - (width c + width x + 2)),
      )
  most (ExprTree.Join m op l r) k =
      omega (arith, node-most k (max (begun l k) (begun r (k - (width l + 1)))), most l k, most r (k - (width l + 1)))

  arguments-most : (es : ExprTrees) (k : ℕ) → begun_arguments es k ≤ height_arguments es
  arguments-most ExprTrees.NoArguments k = omega arith
  arguments-most (ExprTrees.Argument e es) k = omega (arith, most e k, arguments-most es (k - (width e + 1)))

  type-most : (t : TypeTree) (k : ℕ) → begun_type t k ≤ height_type t
  type-most (TypeTree.TypeName s n ds) k = omega (arith, spec-most s k, dims-most ds (k - (width_spec s + n)))

  pub spec-most : (s : SpecTree) (k : ℕ) → begun_spec s k ≤ height_spec s
  spec-most (SpecTree.Void f) k = omega arith
  spec-most (SpecTree.SizeT f) k = omega arith
  spec-most (SpecTree.Integer f words) k = omega arith
  spec-most (SpecTree.Tag f tag) k = node-most k 0
  spec-most (SpecTree.Struct f tag ms) k =
      omega (arith, node-most k (begun_members ms (k - (width_name tag + 2))), members-most ms (k - (width_name tag + 2)))

  members-most : (ms : MemberTrees) (k : ℕ) → begun_members ms k ≤ height_members ms
  members-most MemberTrees.NoMembers k = omega arith
  members-most (MemberTrees.MemberLine s names ms) k =
      omega (arith, spec-most s k, objs-most names (k - width_spec s), members-most ms (k - (width_spec s + width_objs names + 1)))

  pub objs-most : (os : ObjTrees) (k : ℕ) → begun_objs os k ≤ height_objs os
  objs-most ObjTrees.NoDeclarators k = omega arith
  objs-most (ObjTrees.Declarator o os) k = omega (arith, obj-most o k, objs-most os (k - (width_obj o + 1)))

  pub obj-most : (o : ObjTree) (k : ℕ) → begun_obj o k ≤ height_obj o
  obj-most (ObjTree.Bare n name a ds) k = omega (arith, dims-most ds (k - (n + 1)))
  obj-most (ObjTree.Initial n name a ds i) k = omega (arith, dims-most ds (k - (n + 1)), init-most i (k - (n + width_dims ds + 2)))

  pub dims-most : (ds : DimTrees) (k : ℕ) → begun_dims ds k ≤ height_dims ds
  dims-most DimTrees.NoDims k = omega arith
  dims-most (DimTrees.Unsized ds) k = omega (arith, node-most k (begun_dims ds (k - 2)), dims-most ds (k - 2))
  dims-most (DimTrees.Sized e ds) k =
      omega (arith, node-most k (max (begun e (k - 1)) (begun_dims ds (k - (width e + 2)))), most e (k - 1), dims-most ds (k - (width e + 2)))

  pub init-most : (i : InitTree) (k : ℕ) → begun_init i k ≤ height_init i
  init-most (InitTree.Value e) k = most e k
  init-most (InitTree.Braces f is comma) k = omega (arith, node-most k (begun_inits is (k - 1)), inits-most is (k - 1))

  pub inits-most : (is : InitTrees) (k : ℕ) → begun_inits is k ≤ height_inits is
  inits-most InitTrees.NoItems k = omega arith
  inits-most (InitTrees.Item i is) k = omega (arith, init-most i k, inits-most is (k - (width_init i + 1)))

pub option-most : (o : Option ExprTree) (k : ℕ) → begun_option o k ≤ height_option o
option-most None k = omega arith
option-most (Some e) k = most e k

pub local-most : (l : LocalTree) (k : ℕ) → begun_local l k ≤ height_local l
local-most l k =
    omega (
      arith,
      node-most k (max (begun_spec l.spec (k - width_static l.fixed)) (begun_objs l.names (k - (width_static l.fixed + width_spec l.spec)))),
      spec-most l.spec (k - width_static l.fixed),
      objs-most l.names (k - (width_static l.fixed + width_spec l.spec)),
    )

pub start-most : (s : StartTree) (k : ℕ) → begun_start s k ≤ height_start s
start-most (StartTree.Expr e) k = option-most e k
start-most (StartTree.Local l) k = local-most l k

mutual
  pub stmt-most : (s : StmtTree) (k : ℕ) → begun_stmt s k ≤ height_stmt s
  stmt-most (StmtTree.Block f n items) k = omega (arith, node-most k (begun_block items (k - 1)), block-most items (k - 1))
  stmt-most (StmtTree.Expr f n e) k = omega (arith, node-most k (begun_option e k), option-most e k)
  stmt-most (StmtTree.If f n c s) k =
      omega (arith, node-most k (max (begun c (k - 2)) (begun_stmt s (k - (width c + 3)))), most c (k - 2), stmt-most s (k - (width c + 3)))
  stmt-most (StmtTree.IfElse f n c s t) k =
      omega (
        arith,
        node-most k (max (begun c (k - 2)) (max (begun_stmt s (k - (width c + 3))) (begun_stmt t (k - (width c + width_stmt s + 4))))),
        most c (k - 2),
        stmt-most s (k - (width c + 3)),
        stmt-most t (k - (width c + width_stmt s + 4)),
      )
  stmt-most (StmtTree.While f n c s) k =
      omega (arith, node-most k (max (begun c (k - 2)) (begun_stmt s (k - (width c + 3)))), most c (k - 2), stmt-most s (k - (width c + 3)))
  stmt-most (StmtTree.Do f n s c) k =
      omega (arith, node-most k (max (begun_stmt s (k - 1)) (begun c (k - (width_stmt s + 3)))), stmt-most s (k - 1), most c (k - (width_stmt s + 3)))
  stmt-most (StmtTree.For f n start test next s) k =
      let a = k - (width_start start + 2) in
      let b = k - (width_start start + width_option test + 3) in
      let d = k - (width_start start + width_option test + width_option next + 4) in
      omega (
        arith,
        node-most k (max (begun_start start (k - 2)) (max (begun_option test a) (max (begun_option next b) (begun_stmt s d)))),
        start-most start (k - 2),
        option-most test a,
        option-most next b,
        stmt-most s d,
      )
  stmt-most (StmtTree.Break f n) k = node-most k 0
  stmt-most (StmtTree.Continue f n) k = node-most k 0
  stmt-most (StmtTree.Return f n e) k = omega (arith, node-most k (begun_option e (k - 1)), option-most e (k - 1))

  pub block-most : (items : BlockTrees) (k : ℕ) → begun_block items k ≤ height_block items
  block-most BlockTrees.NoItems k = omega arith
  block-most (BlockTrees.Declaration l items) k = omega (arith, local-most l k, block-most items (k - width_local l))
  block-most (BlockTrees.Statement s items) k = omega (arith, stmt-most s k, block-most items (k - width_stmt s))

pub param-most : (p : ParamTree) (k : ℕ) → begun_param p k ≤ height_param p
param-most p k = omega (arith, spec-most p.spec k, dims-most p.dims (k - (width_spec p.spec + p.stars + width_name p.name)))

pub list-most : (ps : List ParamTree) (k : ℕ) → begun_list ps k ≤ height_list ps
list-most [] k = omega arith
list-most (p ∷ ps) k = omega (arith, param-most p k, list-most ps (k - (width_param p + 1)))

pub params-most : (ps : ParamsTree) (k : ℕ) → begun_params ps k ≤ height_params ps
params-most ParamsTree.Empty k = omega arith
params-most ParamsTree.Void k = omega arith
params-most (ParamsTree.Listed ps) k = list-most ps k

pub function-most : (n : ℕ) (ps : ParamsTree) (k : ℕ) → begun_function n ps k ≤ height_function n ps
function-most n ps k = omega (arith, params-most ps (k - (n + 2)))

pub file-most : (d : FileTree) (k : ℕ) → begun_file d k ≤ height_file d
file-most (FileTree.Function n name a ps) k = function-most n ps k
file-most (FileTree.Object o) k = obj-most o k

pub files-most : (ds : List FileTree) (k : ℕ) → begun_files ds k ≤ height_files ds
files-most [] k = omega arith
files-most (d ∷ ds) k = omega (arith, file-most d k, files-most ds (k - (width_file d + 1)))

pub item-most : (i : ItemTree) (k : ℕ) → begun_item i k ≤ height_item i
item-most (ItemTree.Function f n fixed s stars name a ps body) k =
    let b = k - (width_static fixed + width_spec s) in
    let c = k - (width_static fixed + width_spec s + stars + width_params ps + 3) in
    omega (
      arith,
      node-most k (max (begun_spec s (k - width_static fixed)) (max (begun_function stars ps b) (begun_stmt body c))),
      spec-most s (k - width_static fixed),
      function-most stars ps b,
      stmt-most body c,
    )
item-most (ItemTree.Decls f n fixed s ds) k =
    let b = k - (width_static fixed + width_spec s) in
    omega (arith, node-most k (max (begun_spec s (k - width_static fixed)) (begun_files ds b)), spec-most s (k - width_static fixed), files-most ds b)

pub program-most : (is : ProgramTree) (k : ℕ) → begun_program is k ≤ height_program is
program-most [] k = omega arith
program-most (i ∷ is) k = omega (arith, item-most i k, program-most is (k - width_item i))
