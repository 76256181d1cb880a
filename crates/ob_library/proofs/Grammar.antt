-- Trees of the library are trees of the grammar: a test that computes says so of the constructors, names and constants
-- that the library has.
use Rattle.std.proofs.Common.{◌≡◌, ℕ, zero, suc, ◌≤◌, List, [], ◌∷◌, length, Bool, true, false, not, ◌&&◌, Option, Some, None, refl}
use Rattle.std.specs.Prelude.{nat_lt, nat_le, IsTrue}
use Rattle.std.specs.List.{AllByRecursion}
use Rattle.std.proofs.lemmas.Bool.{leb-true, ltb-true, and_parts, not-true, false≢true}
use Rattle.ob_base.specs.Names.{is_name}
use Rattle.ob_tree.specs.Trees.{Infix, ExprTree, ExprTrees, TypeTree, SpecTree, ObjTree, ObjTrees, DimTrees}
use Rattle.ob_tree.specs.Programs.{LocalTree, StartTree, StmtTree, BlockTrees, ParamTree, ParamsTree, ItemTree}
use Rattle.ob_tree.specs.Integers.{is_integer}
use Rattle.ob_tree.specs.Levels.{assign_level, cond_level, or_level, cast_level, postfix_level, binary_level, is_assign, IsInfix, left_level, right_level, level_of}
use Rattle.ob_tree.specs.Valid.{greatest_source, ValidName, ValidTag, Valid, ValidArguments, ValidType, ValidSpec, ValidDims, ValidOpenDims}
use Rattle.ob_tree.specs.ProgramValid.{ends_in_if, HasTag, ValidOption, ValidNames, ValidLocal, ValidStart, ValidStmt, ValidBlock, is_void_alone, ValidParam, ValidParams, AreNamed, ValidItem}
use Rattle.ob_library.proofs.Constants.{number_fits, number_spelled, strings_fit, strings_spelled}

three : (x y z : Bool) → (x && (y && z)) ≡ true → (x ≡ true) × (y ≡ true) × (z ≡ true)
three x y z h = let p = and_parts x (y && z) h in let q = and_parts y z p.1 in (p.0, q.0, q.1)

-- ---- names and operators

abbrev name_fits : List ℕ → Bool
name_fits x = is_name x && nat_le (length x) greatest_source

name_valid : (x : List ℕ) → IsTrue (name_fits x) → ValidName x
name_valid x h =
    let p = and_parts (is_name x) (nat_le (length x) greatest_source) h in
    (p.0, leb-true (length x) greatest_source p.1)

abbrev stands : (level : ℕ) → ExprTree → Bool
stands n e = nat_le n (level_of e)

at_level : (n : ℕ) (e : ExprTree) → IsTrue (stands n e) → n ≤ level_of e
at_level n e h = leb-true n (level_of e) h

abbrev infix_fits : Infix → Bool
infix_fits Infix.Comma = true
infix_fits (Infix.Assign s) = is_assign s
infix_fits (Infix.Binary s) = nat_lt 0 (binary_level s)

infix_valid : (op : Infix) → IsTrue (infix_fits op) → IsInfix op
infix_valid Infix.Comma h = tt
infix_valid (Infix.Assign s) h = h
infix_valid (Infix.Binary s) h = ltb-true 0 (binary_level s) h

-- ---- types

abbrev spec_fits : SpecTree → Bool
spec_fits (SpecTree.Void f) = true
spec_fits (SpecTree.SizeT f) = true
spec_fits (SpecTree.Integer f words) = is_integer words
spec_fits s = false

spec_valid : (s : SpecTree) → IsTrue (spec_fits s) → ValidSpec s
spec_valid (SpecTree.Void f) h = tt
spec_valid (SpecTree.SizeT f) h = tt
spec_valid (SpecTree.Integer f words) h = h
spec_valid s h = absurd (false≢true h)

abbrev type_fits : TypeTree → Bool
type_fits (TypeTree.TypeName s n DimTrees.NoDims) = spec_fits s
type_fits t = false

type_valid : (t : TypeTree) → IsTrue (type_fits t) → ValidType t
type_valid (TypeTree.TypeName s n DimTrees.NoDims) h = (spec_valid s h, tt)
type_valid t h = absurd (false≢true h)

-- ---- expressions

abbrev mutual
  expr_fits : ExprTree → Bool
  expr_fits (ExprTree.Name m x) = name_fits x
  expr_fits (ExprTree.Number m v t) = number_fits v t
  expr_fits (ExprTree.Str m ss) = strings_fit ss
  expr_fits (ExprTree.Paren m e) = expr_fits e
  expr_fits (ExprTree.Index m b i) = expr_fits b && (stands postfix_level b && expr_fits i)
  expr_fits (ExprTree.Call m x es) = name_fits x && arguments_fit es
  expr_fits (ExprTree.Cast m t e) = type_fits t && (expr_fits e && stands cast_level e)
  expr_fits (ExprTree.Cond m c x y) = (expr_fits c && stands or_level c) && (expr_fits x && (expr_fits y && stands cond_level y))
  expr_fits (ExprTree.Join m op l r) =
      infix_fits op && ((expr_fits l && stands (left_level op) l) && (expr_fits r && stands (right_level op) r))
  expr_fits e = false

  arguments_fit : ExprTrees → Bool
  arguments_fit ExprTrees.NoArguments = true
  arguments_fit (ExprTrees.Argument e es) = expr_fits e && (stands assign_level e && arguments_fit es)

mutual
  expr_valid : (e : ExprTree) → IsTrue (expr_fits e) → Valid e
  expr_valid (ExprTree.Name m x) h = name_valid x h
  expr_valid (ExprTree.Number m v t) h = number_spelled v t h
  expr_valid (ExprTree.Str m ss) h = strings_spelled ss h
  expr_valid (ExprTree.Paren m e) h = expr_valid e h
  expr_valid (ExprTree.Index m b i) h =
      let p = three (expr_fits b) (stands postfix_level b) (expr_fits i) h in
      (expr_valid b p.0, at_level postfix_level b p.1, expr_valid i p.2)
  expr_valid (ExprTree.Call m x es) h =
      let p = and_parts (name_fits x) (arguments_fit es) h in
      (name_valid x p.0, arguments_valid es p.1)
  expr_valid (ExprTree.Cast m t e) h =
      let p = three (type_fits t) (expr_fits e) (stands cast_level e) h in
      (type_valid t p.0, expr_valid e p.1, at_level cast_level e p.2)
  expr_valid (ExprTree.Cond m c x y) h =
      let p = and_parts (expr_fits c && stands or_level c) (expr_fits x && (expr_fits y && stands cond_level y)) h in
      let q = and_parts (expr_fits c) (stands or_level c) p.0 in
      let r = three (expr_fits x) (expr_fits y) (stands cond_level y) p.1 in
      (expr_valid c q.0, at_level or_level c q.1, expr_valid x r.0, expr_valid y r.1, at_level cond_level y r.2)
  expr_valid (ExprTree.Join m op l r) h =
      let p = three (infix_fits op) (expr_fits l && stands (left_level op) l) (expr_fits r && stands (right_level op) r) h in
      let q = and_parts (expr_fits l) (stands (left_level op) l) p.1 in
      let s = and_parts (expr_fits r) (stands (right_level op) r) p.2 in
      (infix_valid op p.0, expr_valid l q.0, at_level (left_level op) l q.1, expr_valid r s.0, at_level (right_level op) r s.1)
  expr_valid e h = absurd (false≢true h)

  arguments_valid : (es : ExprTrees) → IsTrue (arguments_fit es) → ValidArguments es
  arguments_valid ExprTrees.NoArguments h = tt
  arguments_valid (ExprTrees.Argument e es) h =
      let p = three (expr_fits e) (stands assign_level e) (arguments_fit es) h in
      (expr_valid e p.0, at_level assign_level e p.1, arguments_valid es p.2)

abbrev option_fits : Option ExprTree → Bool
option_fits None = true
option_fits (Some e) = expr_fits e

option_valid : (e : Option ExprTree) → IsTrue (option_fits e) → ValidOption e
option_valid None h = tt
option_valid (Some e) h = expr_valid e h

-- ---- declarations

abbrev dims_fit : DimTrees → Bool
dims_fit DimTrees.NoDims = true
dims_fit (DimTrees.Sized e ds) = expr_fits e && (stands cond_level e && dims_fit ds)
dims_fit ds = false

dims_valid : (ds : DimTrees) → IsTrue (dims_fit ds) → ValidDims ds
dims_valid DimTrees.NoDims h = tt
dims_valid (DimTrees.Sized e ds) h =
    let p = three (expr_fits e) (stands cond_level e) (dims_fit ds) h in
    (expr_valid e p.0, at_level cond_level e p.1, dims_valid ds p.2)
dims_valid ds h = absurd (false≢true h)

open_dims_valid : (ds : DimTrees) → IsTrue (dims_fit ds) → ValidOpenDims ds
open_dims_valid DimTrees.NoDims h = tt
open_dims_valid (DimTrees.Sized e ds) h = dims_valid (DimTrees.Sized e ds) h
open_dims_valid ds h = absurd (false≢true h)

abbrev names_fit : ObjTrees → Bool
names_fit (ObjTrees.Declarator (ObjTree.Bare n x a ds) ObjTrees.NoDeclarators) = name_fits x && dims_fit ds
names_fit os = false

names_valid : (s : SpecTree) (os : ObjTrees) → IsTrue (names_fit os) → ValidNames s os
names_valid s (ObjTrees.Declarator (ObjTree.Bare n x a ds) ObjTrees.NoDeclarators) h =
    let p = and_parts (name_fits x) (dims_fit ds) h in
    ((name_valid x p.0, dims_valid ds p.1), tt)
names_valid s os h = absurd (false≢true h)

abbrev local_fits : LocalTree → Bool
local_fits l = spec_fits l.spec && names_fit l.names

local_valid : (l : LocalTree) → IsTrue (local_fits l) → ValidLocal l
local_valid l h =
    let p = and_parts (spec_fits l.spec) (names_fit l.names) h in
    (spec_valid l.spec p.0, names_valid l.spec l.names p.1)

abbrev tag_fits : Option (List ℕ) → Bool
tag_fits None = false
tag_fits (Some x) = name_fits x

tag_valid : (o : Option (List ℕ)) → IsTrue (tag_fits o) → ValidTag o
tag_valid None h = absurd (false≢true h)
tag_valid (Some x) h = name_valid x h

has_tag : (o : Option (List ℕ)) → IsTrue (tag_fits o) → HasTag o
has_tag None h = absurd (false≢true h)
has_tag (Some x) h = tt

not_void_alone : (s : SpecTree) (n : ℕ) (o : Option (List ℕ)) (ds : DimTrees) → IsTrue (tag_fits o) → is_void_alone s n o ds ≡ false
not_void_alone (SpecTree.Void f) zero None ds h = absurd (false≢true h)
not_void_alone (SpecTree.Void f) zero (Some x) ds h = refl
not_void_alone (SpecTree.Void f) (suc n) o ds h = refl
not_void_alone s n o ds h = refl

abbrev param_fits : ParamTree → Bool
param_fits p = spec_fits p.spec && (tag_fits p.name && dims_fit p.dims)

param_parts : (p : ParamTree) → IsTrue (param_fits p) → ValidParam p × HasTag p.name × (is_void_alone p.spec p.stars p.name p.dims ≡ false)
param_parts p h =
    let q = three (spec_fits p.spec) (tag_fits p.name) (dims_fit p.dims) h in
    ((spec_valid p.spec q.0, tag_valid p.name q.1, open_dims_valid p.dims q.2), has_tag p.name q.1, not_void_alone p.spec p.stars p.name p.dims q.1)

abbrev list_fits : List ParamTree → Bool
list_fits [] = true
list_fits (p ∷ ps) = param_fits p && list_fits ps

list_valid : (ps : List ParamTree) → IsTrue (list_fits ps) → AllByRecursion ValidParam ps × AllByRecursion (λ p. HasTag p.name) ps
list_valid [] h = (tt, tt)
list_valid (p ∷ ps) h =
    let q = and_parts (param_fits p) (list_fits ps) h in
    let r = param_parts p q.0 in
    let t = list_valid ps q.1 in
    ((r.0, t.0), (r.1, t.1))

abbrev params_fit : ParamsTree → Bool
params_fit (ParamsTree.Listed (p ∷ ps)) = param_fits p && list_fits ps
params_fit ps = false

params_valid : (ps : ParamsTree) → IsTrue (params_fit ps) → ValidParams ps × AreNamed ps
params_valid (ParamsTree.Listed (p ∷ [])) h =
    let q = and_parts (param_fits p) true h in
    let r = param_parts p q.0 in
    ((r.2, r.0), (r.1, tt))
params_valid (ParamsTree.Listed (p ∷ (x ∷ ps))) h =
    let q = and_parts (param_fits p) (list_fits (x ∷ ps)) h in
    let r = param_parts p q.0 in
    let t = list_valid (x ∷ ps) q.1 in
    ((r.0, t.0.0, t.0.1), (r.1, t.1))
params_valid ps h = absurd (false≢true h)

-- ---- statements

abbrev start_fits : StartTree → Bool
start_fits (StartTree.Expr e) = option_fits e
start_fits (StartTree.Local l) = false

start_valid : (s : StartTree) → IsTrue (start_fits s) → ValidStart s
start_valid (StartTree.Expr e) h = option_valid e h
start_valid (StartTree.Local l) h = absurd (false≢true h)

abbrev mutual
  stmt_fits : StmtTree → Bool
  stmt_fits (StmtTree.Block f n items) = block_fits items
  stmt_fits (StmtTree.Expr f n e) = option_fits e
  stmt_fits (StmtTree.If f n c s) = expr_fits c && stmt_fits s
  stmt_fits (StmtTree.IfElse f n c s t) = expr_fits c && (stmt_fits s && (not (ends_in_if s) && stmt_fits t))
  stmt_fits (StmtTree.While f n c s) = expr_fits c && stmt_fits s
  stmt_fits (StmtTree.Do f n s c) = stmt_fits s && expr_fits c
  stmt_fits (StmtTree.For f n i c e s) = (start_fits i && option_fits c) && (option_fits e && stmt_fits s)
  stmt_fits (StmtTree.Return f n e) = option_fits e
  stmt_fits s = false

  block_fits : BlockTrees → Bool
  block_fits BlockTrees.NoItems = true
  block_fits (BlockTrees.Declaration l items) = local_fits l && block_fits items
  block_fits (BlockTrees.Statement s items) = stmt_fits s && block_fits items

mutual
  stmt_valid : (s : StmtTree) → IsTrue (stmt_fits s) → ValidStmt s
  stmt_valid (StmtTree.Block f n items) h = block_valid items h
  stmt_valid (StmtTree.Expr f n e) h = option_valid e h
  stmt_valid (StmtTree.If f n c s) h =
      let p = and_parts (expr_fits c) (stmt_fits s) h in (expr_valid c p.0, stmt_valid s p.1)
  stmt_valid (StmtTree.IfElse f n c s t) h =
      let p = three (expr_fits c) (stmt_fits s) (not (ends_in_if s) && stmt_fits t) h in
      let q = and_parts (not (ends_in_if s)) (stmt_fits t) p.2 in
      (expr_valid c p.0, stmt_valid s p.1, not-true (ends_in_if s) q.0, stmt_valid t q.1)
  stmt_valid (StmtTree.While f n c s) h =
      let p = and_parts (expr_fits c) (stmt_fits s) h in (expr_valid c p.0, stmt_valid s p.1)
  stmt_valid (StmtTree.Do f n s c) h =
      let p = and_parts (stmt_fits s) (expr_fits c) h in (stmt_valid s p.0, expr_valid c p.1)
  stmt_valid (StmtTree.For f n i c e s) h =
      let p = and_parts (start_fits i && option_fits c) (option_fits e && stmt_fits s) h in
      let q = and_parts (start_fits i) (option_fits c) p.0 in
      let r = and_parts (option_fits e) (stmt_fits s) p.1 in
      (start_valid i q.0, option_valid c q.1, option_valid e r.0, stmt_valid s r.1)
  stmt_valid (StmtTree.Return f n e) h = option_valid e h
  stmt_valid s h = absurd (false≢true h)

  block_valid : (items : BlockTrees) → IsTrue (block_fits items) → ValidBlock items
  block_valid BlockTrees.NoItems h = tt
  block_valid (BlockTrees.Declaration l items) h =
      let p = and_parts (local_fits l) (block_fits items) h in (local_valid l p.0, block_valid items p.1)
  block_valid (BlockTrees.Statement s items) h =
      let p = and_parts (stmt_fits s) (block_fits items) h in (stmt_valid s p.0, block_valid items p.1)

-- ---- functions

abbrev pub item_fits : ItemTree → Bool
item_fits (ItemTree.Function f n fixed s stars x a ps (StmtTree.Block g m items)) =
    spec_fits s && ((name_fits x && params_fit ps) && block_fits items)
item_fits i = false

pub item_valid : (i : ItemTree) → IsTrue (item_fits i) → ValidItem i
item_valid (ItemTree.Function f n fixed s stars x a ps (StmtTree.Block g m items)) h =
    let p = three (spec_fits s) (name_fits x && params_fit ps) (block_fits items) h in
    let q = and_parts (name_fits x) (params_fit ps) p.1 in
    let r = params_valid ps q.1 in
    (spec_valid s p.0, name_valid x q.0, r.0, r.1, tt, block_valid items p.2)
item_valid i h = absurd (false≢true h)
