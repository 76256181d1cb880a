-- The walk of a tree raises the flags of the variables that something of it exposes.
use Rattle.std.proofs.Common.{◌≡◌, ℕ, ◌+◌, Bool, true, false, not, ◌||◌, ◌&&◌, List, Option, Some, None, refl, ap, sym, ◌∙◌, arith}
use Rattle.std.specs.Prelude.{◌==◌, slice_get, if◌then◌else◌}
use Rattle.std.proofs.lemmas.Bool.Decides.{nat_tests}
use Rattle.ob_tree.specs.Types.{PlainType}
use Rattle.ob_typed.specs.TypedTree.{TypedExpr, TypedExprs, TypedFunction, TypedInit, TypedInits, TypedLean, TypedNode, TypedPlace, TypedStmt, TypedStmts}
use Rattle.ob_typed.specs.TypedTree.TypedExpr.{Typed}
use Rattle.ob_typed.specs.TypedTree.TypedPlace.{Place}
use Rattle.ob_typed.specs.TypedTree.{TypedExprs as exprs, TypedInit as init, TypedInits as inits, TypedLean as at, TypedNode as node, TypedStmt as stmt, TypedStmts as stmts}
use Rattle.ob_typed.specs.TypeTests.{same_type}
use Rattle.ob_lower.specs.Variables.{exposes, exposes_in_place, exposes_in_lean, exposes_in_node, exposes_in_arguments, exposes_in_option, exposes_in_init, exposes_in_items, exposes_further, exposes_as_item, exposes_in_own_item, exposes_in_own_items, exposes_in_start, exposes_in_stmt, exposes_in_stmts}
use Rattle.ob_homes.specs.Flags.{flags_with, raise_at, with_variable, with_variable_as, with_expr, with_place, with_placed, with_lean, with_node, with_arguments, with_option, unless, with_further, with_own_node, with_own_item, with_own_items, with_own, with_stmt, with_stmts}
use Rattle.ob_homes.proofs.FlagLists.{none_raised, two_raised, alike_raised, one_raised}

and_true : (a : Bool) → a ≡ (a && true)
and_true true = refl
and_true false = refl

variable_raises : (n : ℕ) (ts : List PlainType) (fs : List Bool) → with_variable n ts fs ≡ flags_with (λ v t. n == v) 0 ts fs
variable_raises n ts fs =
    let same : n ≡ 0 + n = omega arith in
    sym (alike_raised (λ v t. n == v) (λ v t. n == v && true) (λ v t. and_true (n == v)) 0 ts fs ∙ one_raised (λ t. true) n n 0 ts fs same)

variable_raises_as : (n : ℕ) (ty : PlainType) (ts : List PlainType) (fs : List Bool) →
    with_variable_as n ty ts fs ≡ flags_with (λ v t. n == v && not (same_type ty t)) 0 ts fs
variable_raises_as n ty ts fs =
    let same : n ≡ 0 + n = omega arith in
    sym (one_raised (λ t. not (same_type ty t)) n n 0 ts fs same)

nothing : (ts : List PlainType) (fs : List Bool) → fs ≡ flags_with (λ v t. false) 0 ts fs
nothing ts fs = sym (none_raised 0 ts fs)

mutual
  expr_raises : (e : TypedExpr) (ts : List PlainType) (fs : List Bool) → with_expr e ts fs ≡ flags_with (λ v t. exposes v t e) 0 ts fs
  expr_raises (Typed line ty what) ts fs = node_raises what ts fs

  place_raises : (p : TypedPlace) (ts : List PlainType) (fs : List Bool) → with_place p ts fs ≡ flags_with (λ v t. exposes_in_place v t p) 0 ts fs
  place_raises (Place line ty lean) ts fs = placed_raises ty lean line ts fs

  placed_raises : (ty : PlainType) (lean : TypedLean) (line : ℕ) (ts : List PlainType) (fs : List Bool) →
      with_placed ty lean ts fs ≡ flags_with (λ v t. exposes_in_place v t (Place line ty lean)) 0 ts fs
  placed_raises ty (at.Local n) line ts fs = variable_raises_as n ty ts fs
  placed_raises ty (at.Static n) line ts fs = nothing ts fs
  placed_raises ty (at.Value e) line ts fs = expr_raises e ts fs
  placed_raises ty (at.Slide lean scale minus number_first e) line ts fs = two_raised _ _ _ _ _ _ (lean_raises lean ts fs) (expr_raises e ts _)
  placed_raises ty (at.Member lean offset) line ts fs = lean_raises lean ts fs

  lean_raises : (lean : TypedLean) (ts : List PlainType) (fs : List Bool) → with_lean lean ts fs ≡ flags_with (λ v t. exposes_in_lean v t lean) 0 ts fs
  lean_raises (at.Static n) ts fs = nothing ts fs
  lean_raises (at.Local n) ts fs = variable_raises n ts fs
  lean_raises (at.Value e) ts fs = expr_raises e ts fs
  lean_raises (at.Slide lean scale minus number_first e) ts fs =
      two_raised _ _ _ _ _ _ (lean_raises lean ts fs) (expr_raises e ts _)
  lean_raises (at.Member lean offset) ts fs = lean_raises lean ts fs

  node_raises : (n : TypedNode) (ts : List PlainType) (fs : List Bool) → with_node n ts fs ≡ flags_with (λ v t. exposes_in_node v t n) 0 ts fs
  node_raises (node.Num n) ts fs = nothing ts fs
  node_raises node.Null ts fs = nothing ts fs
  node_raises (node.Read p) ts fs = place_raises p ts fs
  node_raises (node.Lean lean) ts fs = lean_raises lean ts fs
  node_raises (node.Convert k e) ts fs = expr_raises e ts fs
  node_raises (node.ToVoid e) ts fs = expr_raises e ts fs
  node_raises (node.Arith op k a b) ts fs = two_raised _ _ _ _ _ _ (expr_raises a ts fs) (expr_raises b ts _)
  node_raises (node.Compare r a b) ts fs = two_raised _ _ _ _ _ _ (expr_raises a ts fs) (expr_raises b ts _)
  node_raises (node.PtrCompare r a b) ts fs = two_raised _ _ _ _ _ _ (expr_raises a ts fs) (expr_raises b ts _)
  node_raises (node.PtrDiff size a b) ts fs = two_raised _ _ _ _ _ _ (expr_raises a ts fs) (expr_raises b ts _)
  node_raises (node.And a b) ts fs = two_raised _ _ _ _ _ _ (expr_raises a ts fs) (expr_raises b ts _)
  node_raises (node.Or a b) ts fs = two_raised _ _ _ _ _ _ (expr_raises a ts fs) (expr_raises b ts _)
  node_raises (node.Cond a b c) ts fs =
      two_raised _ _ _ _ _ _ (expr_raises a ts fs) (two_raised _ _ _ _ _ _ (expr_raises b ts _) (expr_raises c ts _))
  node_raises (node.Comma a b) ts fs = two_raised _ _ _ _ _ _ (expr_raises a ts fs) (expr_raises b ts _)
  node_raises (node.Assign p e) ts fs = two_raised _ _ _ _ _ _ (place_raises p ts fs) (expr_raises e ts _)
  node_raises (node.Update op k post p e) ts fs = two_raised _ _ _ _ _ _ (place_raises p ts fs) (expr_raises e ts _)
  node_raises (node.PtrUpdate scale minus post p e) ts fs = two_raised _ _ _ _ _ _ (place_raises p ts fs) (expr_raises e ts _)
  node_raises (node.CopyStruct (Place line ty to) (Place from_line from_ty from)) ts fs =
      two_raised _ _ _ _ _ _ (lean_raises to ts fs) (lean_raises from ts _)
  node_raises (node.Call f es) ts fs = arguments_raise es ts fs
  node_raises (node.CallBuiltin b es) ts fs = arguments_raise es ts fs

  arguments_raise : (es : TypedExprs) (ts : List PlainType) (fs : List Bool) → with_arguments es ts fs ≡ flags_with (λ v t. exposes_in_arguments v t es) 0 ts fs
  arguments_raise exprs.NoArguments ts fs = nothing ts fs
  arguments_raise (exprs.Argument e es) ts fs =
      two_raised _ _ _ _ _ _ (expr_raises e ts fs) (arguments_raise es ts _)

option_raises : (e : Option TypedExpr) (ts : List PlainType) (fs : List Bool) → with_option e ts fs ≡ flags_with (λ v t. exposes_in_option v t e) 0 ts fs
option_raises None ts fs = nothing ts fs
option_raises (Some e) ts fs = expr_raises e ts fs

-- ---- the initialiser of variable n

-- what is exposed of the variable whose own initialiser it is, or of another one
abbrev further_in : Bool → ℕ → PlainType → TypedLean → Bool
further_in true v t lean = exposes_further v t lean
further_in false v t lean = exposes_in_lean v t lean

abbrev node_in : Bool → ℕ → PlainType → TypedNode → Bool
node_in true v t what = exposes_as_item v t what
node_in false v t what = exposes_in_node v t what

abbrev item_in : Bool → ℕ → PlainType → TypedInit → Bool
item_in true v t i = exposes_in_own_item v t i
item_in false v t i = exposes_in_init v t i

abbrev items_in : Bool → ℕ → PlainType → TypedInits → Bool
items_in true v t is = exposes_in_own_items v t is
items_in false v t is = exposes_in_items v t is

same_number : (n m v : ℕ) (b : Bool) → n == m ≡ true → b ≡ n == v → false ≡ (if b then false else (m == v))
same_number n m v true h e = refl
same_number n m v false h e = grind (h, e, arith, nat_tests)

other_number : (n m v : ℕ) (b : Bool) → n == m ≡ false → b ≡ n == v → (m == v) ≡ (if b then false else (m == v))
other_number n m v true h e = grind (h, e, arith, nat_tests)
other_number n m v false h e = refl

local_in : (b : Bool) (m v : ℕ) (t : PlainType) → further_in b v t (at.Local m) ≡ (if b then false else (m == v))
local_in true m v t = refl
local_in false m v t = refl

unless_raises : (n m : ℕ) (b : Bool) (ts : List PlainType) (fs : List Bool) → n == m ≡ b → unless b m ts fs ≡ flags_with (λ v t. further_in (n == v) v t (at.Local m)) 0 ts fs
unless_raises n m true ts fs h =
    nothing ts fs ∙ alike_raised _ _ (λ v t. same_number n m v (n == v) h refl ∙ sym (local_in (n == v) m v t)) 0 ts fs
unless_raises n m false ts fs h =
    variable_raises m ts fs ∙ alike_raised _ _ (λ v t. other_number n m v (n == v) h refl ∙ sym (local_in (n == v) m v t)) 0 ts fs

static_in : (b : Bool) (i v : ℕ) (t : PlainType) → false ≡ further_in b v t (at.Static i)
static_in true i v t = refl
static_in false i v t = refl

value_in : (b : Bool) (e : TypedExpr) (v : ℕ) (t : PlainType) → exposes_in_lean v t (at.Value e) ≡ further_in b v t (at.Value e)
value_in true e v t = refl
value_in false e v t = refl

slide_in : (b : Bool) (lean : TypedLean) (scale : ℕ) (minus first : Bool) (e : TypedExpr) (v : ℕ) (t : PlainType) →
    exposes_in_lean v t (at.Slide lean scale minus first e) ≡ further_in b v t (at.Slide lean scale minus first e)
slide_in true lean scale minus first e v t = refl
slide_in false lean scale minus first e v t = refl

member_in : (b : Bool) (lean : TypedLean) (offset v : ℕ) (t : PlainType) → exposes_in_lean v t (at.Member lean offset) ≡ further_in b v t (at.Member lean offset)
member_in true lean offset v t = refl
member_in false lean offset v t = refl

further_raises : (n : ℕ) (lean : TypedLean) (ts : List PlainType) (fs : List Bool) → with_further n lean ts fs ≡ flags_with (λ v t. further_in (n == v) v t lean) 0 ts fs
further_raises n (at.Local m) ts fs = unless_raises n m (n == m) ts fs refl
further_raises n (at.Static i) ts fs = nothing ts fs ∙ alike_raised _ _ (λ v t. static_in (n == v) i v t) 0 ts fs
further_raises n (at.Value e) ts fs = lean_raises (at.Value e) ts fs ∙ alike_raised _ _ (λ v t. value_in (n == v) e v t) 0 ts fs
further_raises n (at.Slide lean scale minus first e) ts fs =
    lean_raises (at.Slide lean scale minus first e) ts fs ∙ alike_raised _ _ (λ v t. slide_in (n == v) lean scale minus first e v t) 0 ts fs
further_raises n (at.Member lean offset) ts fs = lean_raises (at.Member lean offset) ts fs ∙ alike_raised _ _ (λ v t. member_in (n == v) lean offset v t) 0 ts fs

both_nodes : (b : Bool) (what : TypedNode) (v : ℕ) (t : PlainType) → exposes_as_item v t what ≡ exposes_in_node v t what → exposes_in_node v t what ≡ node_in b v t what
both_nodes true what v t h = sym h
both_nodes false what v t h = refl

other_node : (n : ℕ) (what : TypedNode) (ts : List PlainType) (fs : List Bool) → ((v : ℕ) (t : PlainType) → exposes_as_item v t what ≡ exposes_in_node v t what) →
    with_node what ts fs ≡ flags_with (λ v t. node_in (n == v) v t what) 0 ts fs
other_node n what ts fs h = node_raises what ts fs ∙ alike_raised _ _ (λ v t. both_nodes (n == v) what v t (h v t)) 0 ts fs

lean_in : (b : Bool) (lean : TypedLean) (v : ℕ) (t : PlainType) → further_in b v t lean ≡ node_in b v t (node.Lean lean)
lean_in true lean v t = refl
lean_in false lean v t = refl

own_node_raises : (n : ℕ) (what : TypedNode) (ts : List PlainType) (fs : List Bool) → with_own_node n what ts fs ≡ flags_with (λ v t. node_in (n == v) v t what) 0 ts fs
own_node_raises n (node.Lean lean) ts fs = further_raises n lean ts fs ∙ alike_raised _ _ (λ v t. lean_in (n == v) lean v t) 0 ts fs
own_node_raises n (node.Num k) ts fs = other_node n (node.Num k) ts fs (λ v t. refl)
own_node_raises n node.Null ts fs = other_node n node.Null ts fs (λ v t. refl)
own_node_raises n (node.Read p) ts fs = other_node n (node.Read p) ts fs (λ v t. refl)
own_node_raises n (node.Convert k e) ts fs = other_node n (node.Convert k e) ts fs (λ v t. refl)
own_node_raises n (node.ToVoid e) ts fs = other_node n (node.ToVoid e) ts fs (λ v t. refl)
own_node_raises n (node.Arith op k x y) ts fs = other_node n (node.Arith op k x y) ts fs (λ v t. refl)
own_node_raises n (node.Compare r x y) ts fs = other_node n (node.Compare r x y) ts fs (λ v t. refl)
own_node_raises n (node.PtrCompare r x y) ts fs = other_node n (node.PtrCompare r x y) ts fs (λ v t. refl)
own_node_raises n (node.PtrDiff size x y) ts fs = other_node n (node.PtrDiff size x y) ts fs (λ v t. refl)
own_node_raises n (node.And x y) ts fs = other_node n (node.And x y) ts fs (λ v t. refl)
own_node_raises n (node.Or x y) ts fs = other_node n (node.Or x y) ts fs (λ v t. refl)
own_node_raises n (node.Cond x y z) ts fs = other_node n (node.Cond x y z) ts fs (λ v t. refl)
own_node_raises n (node.Comma x y) ts fs = other_node n (node.Comma x y) ts fs (λ v t. refl)
own_node_raises n (node.Assign p e) ts fs = other_node n (node.Assign p e) ts fs (λ v t. refl)
own_node_raises n (node.Update op k post p e) ts fs = other_node n (node.Update op k post p e) ts fs (λ v t. refl)
own_node_raises n (node.PtrUpdate scale minus post p e) ts fs = other_node n (node.PtrUpdate scale minus post p e) ts fs (λ v t. refl)
own_node_raises n (node.CopyStruct p q) ts fs = other_node n (node.CopyStruct p q) ts fs (λ v t. refl)
own_node_raises n (node.Call f es) ts fs = other_node n (node.Call f es) ts fs (λ v t. refl)
own_node_raises n (node.CallBuiltin f es) ts fs = other_node n (node.CallBuiltin f es) ts fs (λ v t. refl)

expr_in : (b : Bool) (line : ℕ) (ty : PlainType) (what : TypedNode) (v : ℕ) (t : PlainType) → node_in b v t what ≡ item_in b v t (init.Value (Typed line ty what))
expr_in true line ty what v t = refl
expr_in false line ty what v t = refl

chars_in : (b : Bool) (bytes : List ℕ) (v : ℕ) (t : PlainType) → false ≡ item_in b v t (init.Chars bytes)
chars_in true bytes v t = refl
chars_in false bytes v t = refl

list_in : (b : Bool) (is : TypedInits) (v : ℕ) (t : PlainType) → items_in b v t is ≡ item_in b v t (init.Items is)
list_in true is v t = refl
list_in false is v t = refl

copy_in : (b : Bool) (line : ℕ) (ty : PlainType) (from : TypedLean) (v : ℕ) (t : PlainType) → exposes_in_lean v t from ≡ item_in b v t (init.Copy (Place line ty from))
copy_in true line ty from v t = refl
copy_in false line ty from v t = refl

no_items_in : (b : Bool) (v : ℕ) (t : PlainType) → false ≡ items_in b v t inits.NoItems
no_items_in true v t = refl
no_items_in false v t = refl

more_items_in : (b : Bool) (i : TypedInit) (is : TypedInits) (v : ℕ) (t : PlainType) → (item_in b v t i || items_in b v t is) ≡ items_in b v t (inits.Item i is)
more_items_in true i is v t = refl
more_items_in false i is v t = refl

mutual
  own_item_raises : (n : ℕ) (i : TypedInit) (ts : List PlainType) (fs : List Bool) → with_own_item n i ts fs ≡ flags_with (λ v t. item_in (n == v) v t i) 0 ts fs
  own_item_raises n (init.Value (Typed line ty what)) ts fs = own_node_raises n what ts fs ∙ alike_raised _ _ (λ v t. expr_in (n == v) line ty what v t) 0 ts fs
  own_item_raises n (init.Chars bytes) ts fs = nothing ts fs ∙ alike_raised _ _ (λ v t. chars_in (n == v) bytes v t) 0 ts fs
  own_item_raises n (init.Items is) ts fs = own_items_raise n is ts fs ∙ alike_raised _ _ (λ v t. list_in (n == v) is v t) 0 ts fs
  own_item_raises n (init.Copy (Place line ty from)) ts fs = lean_raises from ts fs ∙ alike_raised _ _ (λ v t. copy_in (n == v) line ty from v t) 0 ts fs

  own_items_raise : (n : ℕ) (is : TypedInits) (ts : List PlainType) (fs : List Bool) → with_own_items n is ts fs ≡ flags_with (λ v t. items_in (n == v) v t is) 0 ts fs
  own_items_raise n inits.NoItems ts fs = nothing ts fs ∙ alike_raised _ _ (λ v t. no_items_in (n == v) v t) 0 ts fs
  own_items_raise n (inits.Item i is) ts fs =
      two_raised _ _ _ _ _ _ (own_item_raises n i ts fs) (own_items_raise n is ts _) ∙ alike_raised _ _ (λ v t. more_items_in (n == v) i is v t) 0 ts fs

start_value : (b : Bool) (e : TypedExpr) (v : ℕ) (t : PlainType) → exposes v t e ≡ exposes_in_start b v t (init.Value e)
start_value true e v t = refl
start_value false e v t = refl

start_chars : (b : Bool) (bytes : List ℕ) (v : ℕ) (t : PlainType) → false ≡ exposes_in_start b v t (init.Chars bytes)
start_chars true bytes v t = refl
start_chars false bytes v t = refl

start_list : (b : Bool) (is : TypedInits) (v : ℕ) (t : PlainType) → items_in b v t is ≡ exposes_in_start b v t (init.Items is)
start_list true is v t = refl
start_list false is v t = refl

start_copy : (b : Bool) (line : ℕ) (ty : PlainType) (from : TypedLean) (v : ℕ) (t : PlainType) → further_in b v t from ≡ exposes_in_start b v t (init.Copy (Place line ty from))
start_copy true line ty from v t = refl
start_copy false line ty from v t = refl

own_raises : (n : ℕ) (i : TypedInit) (ts : List PlainType) (fs : List Bool) → with_own n i ts fs ≡ flags_with (λ v t. exposes_in_start (n == v) v t i) 0 ts fs
own_raises n (init.Value e) ts fs = expr_raises e ts fs ∙ alike_raised _ _ (λ v t. start_value (n == v) e v t) 0 ts fs
own_raises n (init.Chars bytes) ts fs = nothing ts fs ∙ alike_raised _ _ (λ v t. start_chars (n == v) bytes v t) 0 ts fs
own_raises n (init.Items is) ts fs = own_items_raise n is ts fs ∙ alike_raised _ _ (λ v t. start_list (n == v) is v t) 0 ts fs
own_raises n (init.Copy (Place line ty from)) ts fs = further_raises n from ts fs ∙ alike_raised _ _ (λ v t. start_copy (n == v) line ty from v t) 0 ts fs

mutual
  pub stmt_raises : (s : TypedStmt) (ts : List PlainType) (fs : List Bool) → with_stmt s ts fs ≡ flags_with (λ v t. exposes_in_stmt v t s) 0 ts fs
  stmt_raises stmt.Empty ts fs = nothing ts fs
  stmt_raises (stmt.Expr e) ts fs = expr_raises e ts fs
  stmt_raises (stmt.Block ss) ts fs = stmts_raise ss ts fs
  stmt_raises (stmt.Init n i) ts fs = own_raises n i ts fs
  stmt_raises (stmt.If e s) ts fs = two_raised _ _ _ _ _ _ (expr_raises e ts fs) (stmt_raises s ts _)
  stmt_raises (stmt.IfElse e s other) ts fs =
      two_raised _ _ _ _ _ _ (expr_raises e ts fs) (two_raised _ _ _ _ _ _ (stmt_raises s ts _) (stmt_raises other ts _))
  stmt_raises (stmt.While e s) ts fs = two_raised _ _ _ _ _ _ (expr_raises e ts fs) (stmt_raises s ts _)
  stmt_raises (stmt.Do s e) ts fs =
      two_raised _ _ _ _ _ _ (stmt_raises s ts fs) (expr_raises e ts _)
  stmt_raises (stmt.For start test next s) ts fs =
      two_raised _ _ _ _ _ _ (stmts_raise start ts fs) (two_raised _ _ _ _ _ _ (option_raises test ts _) (two_raised _ _ _ _ _ _ (option_raises next ts _) (stmt_raises s ts _)))
  stmt_raises stmt.Break ts fs = nothing ts fs
  stmt_raises stmt.Continue ts fs = nothing ts fs
  stmt_raises (stmt.Return e) ts fs = option_raises e ts fs

  stmts_raise : (ss : TypedStmts) (ts : List PlainType) (fs : List Bool) → with_stmts ss ts fs ≡ flags_with (λ v t. exposes_in_stmts v t ss) 0 ts fs
  stmts_raise stmts.NoStmts ts fs = nothing ts fs
  stmts_raise (stmts.Stmt s ss) ts fs =
      two_raised _ _ _ _ _ _ (stmt_raises s ts fs) (stmts_raise ss ts _)
