-- When the whole of a tree was read, all of its nodes have begun; and placing a tree keeps its nodes.
use Rattle.std.proofs.Common.{◌≡◌, ℕ, zero, suc, ◌+◌, ◌-◌, ◌<◌, ◌≤◌, max, List, [], ◌∷◌, ◌++◌, length, Bool, Option, Some, None, refl, arith, length-append}
use Rattle.std.specs.List.{AllByRecursion}
use Rattle.ob_tree.specs.declared.tokens.TokenKind.TheVariants as kind
use Rattle.ob_tree.specs.declared.tokens.Keyword.TheVariants as word
use Rattle.ob_tree.specs.declared.tokens.Sign.TheVariants as sign
use Rattle.ob_tree.specs.Trees.{ExprTree, SpecTree, ObjTree, ObjTrees, DimTrees, InitTree, InitTrees}
use Rattle.ob_tree.specs.Programs.{LocalTree, StartTree, StmtTree, BlockTrees, ParamTree, ParamsTree, FileTree, ItemTree}
use Rattle.ob_tree.specs.Spelling.{stars, spell, spell_spec, spell_name, spell_objs, spell_more_objs, spell_obj, spell_dims, spell_comma, spell_init, spell_inits, spell_more_inits, listed, more_listed}
use Rattle.ob_tree.specs.ProgramSpelling.{spell_option, spell_static, spell_local, spell_start, spell_stmt, spell_block, spell_param, spell_function, spell_file}
use Rattle.ob_tree.specs.Valid.{ValidOpenDims, ValidInit, ValidInits, ValidObj, ValidObjs}
use Rattle.ob_tree.specs.ProgramValid.{ValidOption, ValidNames, ValidLocal, ValidStart, ValidStmt, ValidBlock, ValidParam, ValidList, ValidParams, ValidFile, ValidFiles, ValidItem}
use Rattle.ob_tree.specs.Places.{width, width_name, width_spec, width_objs, width_obj, width_dims, width_init}
use Rattle.ob_tree.specs.Paths.{node_with, begun, begun_spec, begun_objs, begun_obj, begun_dims, begun_init, begun_inits, height_objs, height_obj, height_dims, height_init, height_inits}
use Rattle.ob_tree.specs.ProgramPlaces.{width_option, width_static, width_local, width_start, width_stmt, width_param, width_params, width_file, width_item, place_option, place_local, place_start, place_stmt, place_block, place_param, place_list, place_params, place_file, place_files, place_item}
use Rattle.ob_tree.specs.ProgramPaths.{begun_option, begun_local, begun_start, begun_stmt, begun_block, begun_param, begun_list, begun_params, begun_function, begun_file, begun_files, begun_item, height_option, height_local, height_start, height_stmt, height_block, height_param, height_list, height_params, height_function, height_file, height_files, height_item}
use Rattle.ob_tree.proofs.SpecShifts.{length-stars}
use Rattle.ob_tree.proofs.OneProgram.{length-function}
use Rattle.ob_exprs.proofs.Begun.{begun-full, full-spec, full-dims}
use Rattle.ob_exprs.proofs.Heights.{height-place, spec-place, objs-place, obj-place, dims-place}

pub node-some : (k n : ℕ) → 0 < k → node_with k n ≡ 1 + n
node-some zero n h = absurd (omega arith)
node-some (suc k) n h = refl

pub full-open-dims : (ds : DimTrees) (k : ℕ) → ValidOpenDims ds → width_dims ds ≤ k → begun_dims ds k ≡ height_dims ds
full-open-dims DimTrees.NoDims k v h = full-dims DimTrees.NoDims k v h
full-open-dims (DimTrees.Sized e ds) k v h = full-dims (DimTrees.Sized e ds) k v h
full-open-dims (DimTrees.Unsized ds) k v h = omega (arith, h, node-some k (begun_dims ds (k - 2)) (omega (arith, h)), full-dims ds (k - 2) v (omega (arith, h)))

-- how many tokens there are in initialisers and declarators
width-braces : (f : ℕ) (is : InitTrees) (comma : Bool) → length (spell_inits is) + 1 ≤ width_init (InitTree.Braces f is comma)
width-braces f is comma = omega (arith, length-append (spell_inits is) (spell_comma comma ++ kind.Sign sign.CloseBrace ∷ []))

width-more : (is : InitTrees) → length (spell_inits is) ≤ length (spell_more_inits is)
width-more InitTrees.NoItems = omega arith
width-more (InitTrees.Item i is) = omega arith

width-inits : (i : InitTree) (is : InitTrees) → length (spell_inits (InitTrees.Item i is)) ≡ width_init i + length (spell_more_inits is)
width-inits i is = length-append (spell_init i) (spell_more_inits is)

more-width : (i : InitTree) (is : InitTrees) → length (spell_more_inits (InitTrees.Item i is)) ≡ length (spell_inits (InitTrees.Item i is)) + 1
more-width i is = omega arith

mutual
  pub full-init : (i : InitTree) (k : ℕ) → ValidInit i → width_init i ≤ k → begun_init i k ≡ height_init i
  full-init (InitTree.Value e) k v h = begun-full e k v.0 h
  full-init (InitTree.Braces f is comma) k v h =
      omega (
        arith,
        node-some k (begun_inits is (k - 1)) (omega (arith, h, width-braces f is comma)),
        full-inits is (k - 1) v.1 (omega (arith, h, width-braces f is comma)),
      )

  pub full-inits : (is : InitTrees) (k : ℕ) → ValidInits is → length (spell_inits is) ≤ k → begun_inits is k ≡ height_inits is
  full-inits InitTrees.NoItems k v h = refl
  full-inits (InitTrees.Item i InitTrees.NoItems) k v h = omega (arith, full-init i k v.0 (omega (arith, h, width-inits i InitTrees.NoItems)))
  full-inits (InitTrees.Item i (InitTrees.Item x xs)) k v h =
      omega (
        arith,
        full-init i k v.0 (omega (arith, h, width-inits i (InitTrees.Item x xs))),
        full-inits (InitTrees.Item x xs) (k - (width_init i + 1)) v.1 (omega (arith, h, width-inits i (InitTrees.Item x xs), more-width x xs)),
      )

pub width-bare : (n : ℕ) (name : List ℕ) (a : ℕ) (ds : DimTrees) → width_obj (ObjTree.Bare n name a ds) ≡ n + 1 + width_dims ds
width-bare n name a ds = omega (arith, length-append (stars n) (kind.Name name ∷ spell_dims ds), length-stars n)

pub width-initial : (n : ℕ) (name : List ℕ) (a : ℕ) (ds : DimTrees) (i : InitTree) → width_obj (ObjTree.Initial n name a ds i) ≡ n + 2 + width_dims ds + width_init i
width-initial n name a ds i =
    omega (arith, length-append (stars n) (kind.Name name ∷ (spell_dims ds ++ kind.Sign sign.Assign ∷ spell_init i)), length-stars n, length-append (spell_dims ds) (kind.Sign sign.Assign ∷ spell_init i))

pub full-obj : (o : ObjTree) (k : ℕ) → ValidObj o → width_obj o ≤ k → begun_obj o k ≡ height_obj o
full-obj (ObjTree.Bare n name a ds) k v h =
    let w = width-bare n name a ds in omega (arith, h, w, full-dims ds (k - (n + 1)) v.1 (omega (arith, h, w)))
full-obj (ObjTree.Initial n name a ds i) k v h =
    let w = width-initial n name a ds i in
    omega (arith, h, w, full-open-dims ds (k - (n + 1)) v.1 (omega (arith, h, w)), full-init i (k - (n + width_dims ds + 2)) v.2 (omega (arith, h, w)))

-- lists with commas between
width-objs : (o : ObjTree) (os : ObjTrees) → width_objs (ObjTrees.Declarator o os) ≡ width_obj o + length (spell_more_objs os)
width-objs o os = length-append (spell_obj o) (spell_more_objs os)

pub full-objs : (os : ObjTrees) (k : ℕ) → ValidObjs os → width_objs os ≤ k → begun_objs os k ≡ height_objs os
full-objs ObjTrees.NoDeclarators k v h = refl
full-objs (ObjTrees.Declarator o ObjTrees.NoDeclarators) k v h = omega (arith, full-obj o k v.0 (omega (arith, h, width-objs o ObjTrees.NoDeclarators)))
full-objs (ObjTrees.Declarator o (ObjTrees.Declarator x xs)) k v h =
    omega (
      arith,
      full-obj o k v.0 (omega (arith, h, width-objs o (ObjTrees.Declarator x xs))),
      full-objs (ObjTrees.Declarator x xs) (k - (width_obj o + 1)) v.1 (omega (arith, h, width-objs o (ObjTrees.Declarator x xs))),
    )

pub full-option : (o : Option ExprTree) (k : ℕ) → ValidOption o → width_option o ≤ k → begun_option o k ≡ height_option o
full-option None k v h = refl
full-option (Some e) k v h = begun-full e k v h

pub width-local : (l : LocalTree) → width_local l ≡ width_static l.fixed + width_spec l.spec + width_objs l.names + 1
width-local l =
    omega (
      arith,
      length-append (spell_static l.fixed) (spell_spec l.spec ++ (spell_objs l.names ++ kind.Sign sign.Semi ∷ [])),
      length-append (spell_spec l.spec) (spell_objs l.names ++ kind.Sign sign.Semi ∷ []),
      length-append (spell_objs l.names) (kind.Sign sign.Semi ∷ []),
    )

names-valid : (s : SpecTree) (os : ObjTrees) → ValidNames s os → ValidObjs os
names-valid s ObjTrees.NoDeclarators v = tt
names-valid s (ObjTrees.Declarator o os) v = v

pub full-local : (l : LocalTree) (k : ℕ) → ValidLocal l → width_local l ≤ k → begun_local l k ≡ height_local l
full-local l k v h =
    let a = k - width_static l.fixed in
    let b = k - (width_static l.fixed + width_spec l.spec) in
    let w = width-local l in
    omega (
      arith,
      node-some k (max (begun_spec l.spec a) (begun_objs l.names b)) (omega (arith, h, w)),
      full-spec l.spec a v.0 (omega (arith, h, w)),
      full-objs l.names b (names-valid l.spec l.names v.1) (omega (arith, h, w)),
    )

pub full-start : (s : StartTree) (k : ℕ) → ValidStart s → width_start s ≤ k → begun_start s k ≡ height_start s
full-start (StartTree.Expr e) k v h = full-option e k v (omega (arith, h, length-append (spell_option e) (kind.Sign sign.Semi ∷ [])))
full-start (StartTree.Local l) k v h = full-local l k v.1 h

-- how many tokens statements have
pub width-block : (f n : ℕ) (items : BlockTrees) → width_stmt (StmtTree.Block f n items) ≡ length (spell_block items) + 2
width-block f n items = omega (arith, length-append (spell_block items) (kind.Sign sign.CloseBrace ∷ []))

pub width-if : (f n : ℕ) (c : ExprTree) (s : StmtTree) → width_stmt (StmtTree.If f n c s) ≡ width c + width_stmt s + 3
width-if f n c s = omega (arith, length-append (spell c) (kind.Sign sign.CloseParen ∷ spell_stmt s))

pub width-if_else_stmt : (f n : ℕ) (c : ExprTree) (s t : StmtTree) → width_stmt (StmtTree.IfElse f n c s t) ≡ width c + width_stmt s + width_stmt t + 4
width-if_else_stmt f n c s t =
    omega (arith, length-append (spell c) (kind.Sign sign.CloseParen ∷ (spell_stmt s ++ kind.Word word.Else ∷ spell_stmt t)), length-append (spell_stmt s) (kind.Word word.Else ∷ spell_stmt t))

pub width-while : (f n : ℕ) (c : ExprTree) (s : StmtTree) → width_stmt (StmtTree.While f n c s) ≡ width c + width_stmt s + 3
width-while f n c s = omega (arith, length-append (spell c) (kind.Sign sign.CloseParen ∷ spell_stmt s))

pub width-do : (f n : ℕ) (s : StmtTree) (c : ExprTree) → width_stmt (StmtTree.Do f n s c) ≡ width_stmt s + width c + 5
width-do f n s c =
    omega (
      arith,
      length-append (spell_stmt s) (kind.Word word.While ∷ (kind.Sign sign.OpenParen ∷ (spell c ++ kind.Sign sign.CloseParen ∷ (kind.Sign sign.Semi ∷ [])))),
      length-append (spell c) (kind.Sign sign.CloseParen ∷ (kind.Sign sign.Semi ∷ [])),
    )

pub width-for : (f n : ℕ) (start : StartTree) (test next : Option ExprTree) (s : StmtTree)
    → width_stmt (StmtTree.For f n start test next s) ≡ width_start start + width_option test + width_option next + width_stmt s + 4
width-for f n start test next s =
    omega (
      arith,
      length-append (spell_start start) (spell_option test ++ kind.Sign sign.Semi ∷ (spell_option next ++ kind.Sign sign.CloseParen ∷ spell_stmt s)),
      length-append (spell_option test) (kind.Sign sign.Semi ∷ (spell_option next ++ kind.Sign sign.CloseParen ∷ spell_stmt s)),
      length-append (spell_option next) (kind.Sign sign.CloseParen ∷ spell_stmt s),
    )

mutual
  pub full-stmt : (s : StmtTree) (k : ℕ) → ValidStmt s → width_stmt s ≤ k → begun_stmt s k ≡ height_stmt s
  full-stmt (StmtTree.Block f n items) k v h =
      let w = width-block f n items in
      omega (arith, node-some k (begun_block items (k - 1)) (omega (arith, h, w)), full-block items (k - 1) v (omega (arith, h, w)))
  full-stmt (StmtTree.Expr f n e) k v h =
      let w = length-append (spell_option e) (kind.Sign sign.Semi ∷ []) in
      omega (arith, node-some k (begun_option e k) (omega (arith, h, w)), full-option e k v (omega (arith, h, w)))
  full-stmt (StmtTree.If f n c s) k v h =
      let w = width-if f n c s in
      omega (
        arith,
        node-some k (max (begun c (k - 2)) (begun_stmt s (k - (width c + 3)))) (omega (arith, h, w)),
        begun-full c (k - 2) v.0 (omega (arith, h, w)),
        full-stmt s (k - (width c + 3)) v.1 (omega (arith, h, w)),
      )
  full-stmt (StmtTree.IfElse f n c s t) k v h =
      let w = width-if_else_stmt f n c s t in
      omega (
        arith,
        node-some k (max (begun c (k - 2)) (max (begun_stmt s (k - (width c + 3))) (begun_stmt t (k - (width c + width_stmt s + 4))))) (omega (arith, h, w)),
        begun-full c (k - 2) v.0 (omega (arith, h, w)),
        full-stmt s (k - (width c + 3)) v.1 (omega (arith, h, w)),
        full-stmt t (k - (width c + width_stmt s + 4)) v.3 (omega (arith, h, w)),
      )
  full-stmt (StmtTree.While f n c s) k v h =
      let w = width-while f n c s in
      omega (
        arith,
        node-some k (max (begun c (k - 2)) (begun_stmt s (k - (width c + 3)))) (omega (arith, h, w)),
        begun-full c (k - 2) v.0 (omega (arith, h, w)),
        full-stmt s (k - (width c + 3)) v.1 (omega (arith, h, w)),
      )
  full-stmt (StmtTree.Do f n s c) k v h =
      let w = width-do f n s c in
      omega (
        arith,
        node-some k (max (begun_stmt s (k - 1)) (begun c (k - (width_stmt s + 3)))) (omega (arith, h, w)),
        full-stmt s (k - 1) v.0 (omega (arith, h, w)),
        begun-full c (k - (width_stmt s + 3)) v.1 (omega (arith, h, w)),
      )
  full-stmt (StmtTree.For f n start test next s) k v h =
      let w = width-for f n start test next s in
      let a = k - (width_start start + 2) in
      let b = k - (width_start start + width_option test + 3) in
      let d = k - (width_start start + width_option test + width_option next + 4) in
      omega (
        arith,
        node-some k (max (begun_start start (k - 2)) (max (begun_option test a) (max (begun_option next b) (begun_stmt s d)))) (omega (arith, h, w)),
        full-start start (k - 2) v.0 (omega (arith, h, w)),
        full-option test a v.1 (omega (arith, h, w)),
        full-option next b v.2 (omega (arith, h, w)),
        full-stmt s d v.3 (omega (arith, h, w)),
      )
  full-stmt (StmtTree.Break f n) k v h = node-some k 0 (omega (arith, h))
  full-stmt (StmtTree.Continue f n) k v h = node-some k 0 (omega (arith, h))
  full-stmt (StmtTree.Return f n e) k v h =
      let w = length-append (spell_option e) (kind.Sign sign.Semi ∷ []) in
      omega (arith, node-some k (begun_option e (k - 1)) (omega (arith, h, w)), full-option e (k - 1) v (omega (arith, h, w)))

  pub full-block : (items : BlockTrees) (k : ℕ) → ValidBlock items → length (spell_block items) ≤ k → begun_block items k ≡ height_block items
  full-block BlockTrees.NoItems k v h = refl
  full-block (BlockTrees.Declaration l items) k v h =
      let w = length-append (spell_local l) (spell_block items) in
      omega (arith, full-local l k v.0 (omega (arith, h, w)), full-block items (k - width_local l) v.1 (omega (arith, h, w)))
  full-block (BlockTrees.Statement s items) k v h =
      let w = length-append (spell_stmt s) (spell_block items) in
      omega (arith, full-stmt s k v.0 (omega (arith, h, w)), full-block items (k - width_stmt s) v.1 (omega (arith, h, w)))

pub width-param : (p : ParamTree) → width_param p ≡ width_spec p.spec + p.stars + width_name p.name + width_dims p.dims
width-param p =
    omega (
      arith,
      length-append (spell_spec p.spec) (stars p.stars ++ (spell_name p.name ++ spell_dims p.dims)),
      length-append (stars p.stars) (spell_name p.name ++ spell_dims p.dims),
      length-stars p.stars,
      length-append (spell_name p.name) (spell_dims p.dims),
    )

pub full-param : (p : ParamTree) (k : ℕ) → ValidParam p → width_param p ≤ k → begun_param p k ≡ height_param p
full-param p k v h =
    let w = width-param p in
    omega (
      arith,
      h,
      w,
      full-spec p.spec k v.0 (omega (arith, h, w)),
      full-open-dims p.dims (k - (width_spec p.spec + p.stars + width_name p.name)) v.2 (omega (arith, h, w)),
    )

pub full-list : (ps : List ParamTree) (k : ℕ) → AllByRecursion ValidParam ps → length (listed spell_param ps) ≤ k → begun_list ps k ≡ height_list ps
full-list [] k v h = refl
full-list (p ∷ []) k v h = omega (arith, full-param p k v.0 (omega (arith, h, length-append (spell_param p) [])))
full-list (p ∷ (q ∷ qs)) k v h =
    let w = length-append (spell_param p) (more_listed spell_param (q ∷ qs)) in
    omega (arith, full-param p k v.0 (omega (arith, h, w)), full-list (q ∷ qs) (k - (width_param p + 1)) v.1 (omega (arith, h, w)))

pub all-params : (ps : List ParamTree) → ValidList ps → AllByRecursion ValidParam ps
all-params [] v = absurd v
all-params (p ∷ []) v = (v.1, tt)
all-params (p ∷ (q ∷ qs)) v = (v.0, (v.1, v.2))

pub full-params : (ps : ParamsTree) (k : ℕ) → ValidParams ps → width_params ps ≤ k → begun_params ps k ≡ height_params ps
full-params ParamsTree.Empty k v h = refl
full-params ParamsTree.Void k v h = refl
full-params (ParamsTree.Listed ps) k v h = full-list ps k (all-params ps v) h

pub full-function : (n : ℕ) (name : List ℕ) (ps : ParamsTree) (k : ℕ) → ValidParams ps → length (spell_function n name ps) ≤ k → begun_function n ps k ≡ height_function n ps
full-function n name ps k v h =
    let w = length-function n name ps in omega (arith, h, w, full-params ps (k - (n + 2)) v (omega (arith, h, w)))

pub full-file : (d : FileTree) (k : ℕ) → ValidFile d → width_file d ≤ k → begun_file d k ≡ height_file d
full-file (FileTree.Function n name a ps) k v h = full-function n name ps k v.1 h
full-file (FileTree.Object o) k v h = full-obj o k v h

pub full-files : (ds : List FileTree) (k : ℕ) → AllByRecursion ValidFile ds → length (listed spell_file ds) ≤ k → begun_files ds k ≡ height_files ds
full-files [] k v h = refl
full-files (d ∷ []) k v h = omega (arith, full-file d k v.0 (omega (arith, h, length-append (spell_file d) [])))
full-files (d ∷ (e ∷ es)) k v h =
    let w = length-append (spell_file d) (more_listed spell_file (e ∷ es)) in
    omega (arith, full-file d k v.0 (omega (arith, h, w)), full-files (e ∷ es) (k - (width_file d + 1)) v.1 (omega (arith, h, w)))

pub all-files : (s : SpecTree) (ds : List FileTree) → ValidFiles s ds → AllByRecursion ValidFile ds
all-files s [] v = tt
all-files s (d ∷ ds) v = v

pub width-definition : (f n : ℕ) (fixed : Bool) (s : SpecTree) (i : ℕ) (name : List ℕ) (a : ℕ) (ps : ParamsTree) (body : StmtTree)
    → width_item (ItemTree.Function f n fixed s i name a ps body) ≡ width_static fixed + width_spec s + i + width_params ps + width_stmt body + 3
width-definition f n fixed s i name a ps body =
    omega (
      arith,
      length-append (spell_static fixed) (spell_spec s ++ (spell_function i name ps ++ spell_stmt body)),
      length-append (spell_spec s) (spell_function i name ps ++ spell_stmt body),
      length-append (spell_function i name ps) (spell_stmt body),
      length-function i name ps,
    )

pub width-decls : (f n : ℕ) (fixed : Bool) (s : SpecTree) (ds : List FileTree)
    → width_item (ItemTree.Decls f n fixed s ds) ≡ width_static fixed + width_spec s + length (listed spell_file ds) + 1
width-decls f n fixed s ds =
    omega (
      arith,
      length-append (spell_static fixed) (spell_spec s ++ (listed spell_file ds ++ kind.Sign sign.Semi ∷ [])),
      length-append (spell_spec s) (listed spell_file ds ++ kind.Sign sign.Semi ∷ []),
      length-append (listed spell_file ds) (kind.Sign sign.Semi ∷ []),
    )

pub full-item : (i : ItemTree) (k : ℕ) → ValidItem i → width_item i ≤ k → begun_item i k ≡ height_item i
full-item (ItemTree.Function f n fixed s i name a ps body) k v h =
    let w = width-definition f n fixed s i name a ps body in
    let b = k - (width_static fixed + width_spec s) in
    let c = k - (width_static fixed + width_spec s + i + width_params ps + 3) in
    omega (
      arith,
      node-some k (max (begun_spec s (k - width_static fixed)) (max (begun_function i ps b) (begun_stmt body c))) (omega (arith, h, w)),
      full-spec s (k - width_static fixed) v.0 (omega (arith, h, w)),
      full-function i name ps b v.2 (omega (arith, h, w, length-function i name ps)),
      full-stmt body c v.5 (omega (arith, h, w)),
    )
full-item (ItemTree.Decls f n fixed s ds) k v h =
    let w = width-decls f n fixed s ds in
    let b = k - (width_static fixed + width_spec s) in
    omega (
      arith,
      node-some k (max (begun_spec s (k - width_static fixed)) (begun_files ds b)) (omega (arith, h, w)),
      full-spec s (k - width_static fixed) v.0 (omega (arith, h, w)),
      full-files ds b (all-files s ds v.1) (omega (arith, h, w)),
    )

-- Placing keeps the nodes.
module _ (lines : ℕ → ℕ) where
  pub option-place : (p : ℕ) (o : Option ExprTree) → height_option (place_option lines p o) ≡ height_option o
  option-place p None = refl
  option-place p (Some e) = height-place lines p e

  pub local-place : (p : ℕ) (l : LocalTree) → height_local (place_local lines p l) ≡ height_local l
  local-place p l =
      omega (arith, spec-place lines (p + width_static l.fixed) l.spec, objs-place lines (p + width_static l.fixed + width_spec l.spec) l.names)

  pub start-place : (p : ℕ) (s : StartTree) → height_start (place_start lines p s) ≡ height_start s
  start-place p (StartTree.Expr e) = option-place p e
  start-place p (StartTree.Local l) = local-place p l

  mutual
    pub stmt-place : (p : ℕ) (s : StmtTree) → height_stmt (place_stmt lines p s) ≡ height_stmt s
    stmt-place p (StmtTree.Block f n items) = omega (arith, block-place (p + 1) items)
    stmt-place p (StmtTree.Expr f n e) = omega (arith, option-place p e)
    stmt-place p (StmtTree.If f n c s) = omega (arith, height-place lines (p + 2) c, stmt-place (p + width c + 3) s)
    stmt-place p (StmtTree.IfElse f n c s t) =
        omega (arith, height-place lines (p + 2) c, stmt-place (p + width c + 3) s, stmt-place (p + width c + width_stmt s + 4) t)
    stmt-place p (StmtTree.While f n c s) = omega (arith, height-place lines (p + 2) c, stmt-place (p + width c + 3) s)
    stmt-place p (StmtTree.Do f n s c) = omega (arith, stmt-place (p + 1) s, height-place lines (p + width_stmt s + 3) c)
    stmt-place p (StmtTree.For f n start test next s) =
        omega (
          arith,
          start-place (p + 2) start,
          option-place (p + width_start start + 2) test,
          option-place (p + width_start start + width_option test + 3) next,
          stmt-place (p + width_start start + width_option test + width_option next + 4) s,
        )
    stmt-place p (StmtTree.Break f n) = refl
    stmt-place p (StmtTree.Continue f n) = refl
    stmt-place p (StmtTree.Return f n e) = omega (arith, option-place (p + 1) e)

    pub block-place : (p : ℕ) (items : BlockTrees) → height_block (place_block lines p items) ≡ height_block items
    block-place p BlockTrees.NoItems = refl
    block-place p (BlockTrees.Declaration l items) = omega (arith, local-place p l, block-place (p + width_local l) items)
    block-place p (BlockTrees.Statement s items) = omega (arith, stmt-place p s, block-place (p + width_stmt s) items)

  pub param-place : (p : ℕ) (x : ParamTree) → height_param (place_param lines p x) ≡ height_param x
  param-place p x = omega (arith, spec-place lines p x.spec, dims-place lines (p + width_spec x.spec + x.stars + width_name x.name) x.dims)

  pub list-place : (p : ℕ) (xs : List ParamTree) → height_list (place_list lines p xs) ≡ height_list xs
  list-place p [] = refl
  list-place p (x ∷ xs) = omega (arith, param-place p x, list-place (p + width_param x + 1) xs)

  pub params-place : (p : ℕ) (ps : ParamsTree) → height_params (place_params lines p ps) ≡ height_params ps
  params-place p ParamsTree.Empty = refl
  params-place p ParamsTree.Void = refl
  params-place p (ParamsTree.Listed xs) = list-place p xs

  pub file-place : (p : ℕ) (d : FileTree) → height_file (place_file lines p d) ≡ height_file d
  file-place p (FileTree.Function n name a ps) = omega (arith, params-place (p + n + 2) ps)
  file-place p (FileTree.Object o) = obj-place lines p o

  pub files-place : (p : ℕ) (ds : List FileTree) → height_files (place_files lines p ds) ≡ height_files ds
  files-place p [] = refl
  files-place p (d ∷ ds) = omega (arith, file-place p d, files-place (p + width_file d + 1) ds)

  pub item-place : (p : ℕ) (i : ItemTree) → height_item (place_item lines p i) ≡ height_item i
  item-place p (ItemTree.Function f n fixed s i name a ps body) =
      let r = p + width_static fixed in
      let q = r + width_spec s + i in
      omega (arith, spec-place lines r s, params-place (q + 2) ps, stmt-place (q + width_params ps + 3) body)
  item-place p (ItemTree.Decls f n fixed s ds) =
      omega (arith, spec-place lines (p + width_static fixed) s, files-place (p + width_static fixed + width_spec s) ds)
