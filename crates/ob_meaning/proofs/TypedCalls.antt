-- Calls give values of their types, and runs begin in typed worlds.
use Rattle.std.proofs.Common.{ℕ, zero, suc, ◌+◌, ◌/◌, Bool, true, false, nat_lt, pos, List, [], ◌∷◌, length, map, drop, slice_index_or, slice_set, All, arith, refl, sym, subst, ap}
use Rattle.std.proofs.lemmas.List.Elements.{All-append, All-cons, All-map, All-nil, All-set}
use Rattle.std.proofs.lemmas.Int.{ints}
use Rattle.ob_words.specs.declared.types.IntType.{IntType}
use Rattle.ob_words.specs.declared.types.IntType.TheVariants as type
use Rattle.ob_words.specs.Types.{IsNumber}
use Rattle.ob_model.specs.declared.endings.Ending.TheVariants.{Stack}
use Rattle.ob_model.specs.declared.objects.Sort.TheVariants.{Automatic}
use Rattle.ob_model.specs.declared.values.Value.{Value}
use Rattle.ob_model.specs.declared.values.Value.TheVariants as value_of
use Rattle.ob_model.specs.Accesses.{own_granules}
use Rattle.ob_model.specs.Cells.{zeros, pointer}
use Rattle.ob_model.specs.Endings.{plain}
use Rattle.ob_tree.specs.Sizes.{size}
use Rattle.ob_tree.specs.Types.{PlainType, PlainStructs}
use Rattle.ob_tree.specs.Types.PlainType.{Void, Int, Pointer, Array, Struct}
use Rattle.ob_typed.specs.declared.statics.StaticPointer.{StaticPointer}
use Rattle.ob_typed.specs.TypedTree.{TypedObject}
use Rattle.ob_model.specs.Limits.{stack_bytes}
use Rattle.ob_meaning.specs.Calls.{allowance_of, allowances, automatic, automatics, below, called, entered, left, left_to, null_of, result_of, returned}
use Rattle.ob_meaning.specs.Expressions.{choose}
use Rattle.ob_model.specs.Objects.{is_among}
use Rattle.ob_meaning.specs.Memory.{Object, next_number, no_object, with_own}
use Rattle.ob_meaning.specs.Runs.{first_granule, granules_of, static_object, with_pointers}
use Rattle.ob_meaning.specs.Setup.{Below, Flow, next, broke, continued, gave, Setup, function_at, kind_of}
use Rattle.ob_meaning.specs.Statements.{exec}
use Rattle.ob_meaning.specs.Values.{Cell, write_cell}
use Rattle.ob_meaning.specs.ValueTypes.{AreValues, CallsHaveTypes, GivesIn, HasClass, HoldsPointers, IsTypedProgram, IsTypedWorld, RunsBeginTyped, ValuesHaveTypes, class_of}
use Rattle.ob_meaning.specs.World.{Call, World, Run, stop, go}
use Rattle.ob_meaning.proofs.TypedActs.{Typed}
use Rattle.ob_meaning.proofs.TypedAccesses.{HoldsOwn, class_kind, write_holds}
use Rattle.ob_meaning.proofs.TypedPointers.{new_holds, without_ok}
use Rattle.ob_meaning.proofs.TypedExpressions.{FlowIs, TypedBelow, typed_value}
use Rattle.ob_meaning.proofs.TypedStatements.{typed_exec, typed_turns}

-- ---- entry

automatic_holds : (structs : PlainStructs) (ts : List PlainType) (vs : List Value) → AreValues ts vs → All HoldsOwn (automatics structs ts vs)
automatic_holds structs [] [] h = All-nil HoldsOwn
automatic_holds structs [] (v ∷ vs) h = absurd h
automatic_holds structs (t ∷ ts) [] h =
    All-cons HoldsOwn (automatic structs t) (automatics structs ts []) (new_holds Automatic (size structs t)) (automatic_holds structs ts [] tt)
automatic_holds structs (t ∷ ts) (v ∷ vs) h =
    let c : Cell = write_cell (kind_of t) (pos 0) v zeros in
    let held : HoldsPointers c = write_holds (kind_of t) (pos 0) v zeros (class_kind t v h.1 h.0) in
    let o : Object = automatic structs t in
    let first : HoldsOwn (with_own o (pos 0) c) = All-set HoldsPointers o.own 0 c held (new_holds Automatic (size structs t)) in
    All-cons HoldsOwn (with_own o (pos 0) c) (automatics structs ts vs) first (automatic_holds structs ts vs h.2)

-- ---- return

zero_is : (t : IntType) → IsNumber t (pos 0)
zero_is type.Char = record { from_least = omega (arith, ints); below_past = omega (arith, ints) }
zero_is type.SChar = record { from_least = omega (arith, ints); below_past = omega (arith, ints) }
zero_is type.UChar = record { from_least = omega (arith, ints); below_past = omega (arith, ints) }
zero_is type.Short = record { from_least = omega (arith, ints); below_past = omega (arith, ints) }
zero_is type.UShort = record { from_least = omega (arith, ints); below_past = omega (arith, ints) }
zero_is type.Int = record { from_least = omega (arith, ints); below_past = omega (arith, ints) }
zero_is type.UInt = record { from_least = omega (arith, ints); below_past = omega (arith, ints) }
zero_is type.Long = record { from_least = omega (arith, ints); below_past = omega (arith, ints) }
zero_is type.ULong = record { from_least = omega (arith, ints); below_past = omega (arith, ints) }
zero_is type.LLong = record { from_least = omega (arith, ints); below_past = omega (arith, ints) }
zero_is type.ULLong = record { from_least = omega (arith, ints); below_past = omega (arith, ints) }

null_is : (ty : PlainType) → HasClass (class_of ty) (null_of (kind_of ty))
null_is (Int t) = zero_is t
null_is (Pointer t) = tt
null_is Void = tt
null_is (Array t n) = tt
null_is (Struct n) = tt

result_is : (ty : PlainType) (flow : Flow) → FlowIs (class_of ty) flow → HasClass (class_of ty) (result_of ty flow)
result_is ty next h = null_is ty
result_is ty broke h = null_is ty
result_is ty continued h = null_is ty
result_is ty (gave v) h = h

-- the caller's calls are in progress again
left_ok : (u : Setup) (c : Call) (calls : List Call) (w : World) → IsTypedWorld (c ∷ calls) w → IsTypedWorld calls (left u w)
left_ok u c calls w ok =
    let dies = is_among c.first (length (function_at u c.function).locals) in
    let gone = without_ok (c ∷ calls) dies w ok in
    subst (λ cs. IsTypedWorld calls (left_to u cs w)) (sym ok.2) (gone.0, gone.1, refl)

returned_gives : (u : Setup) (c : Call) (calls : List Call) (ty : PlainType) (r : Run Flow) → GivesIn (c ∷ calls) (FlowIs (class_of ty)) r → GivesIn calls (HasClass (class_of ty)) (returned u ty r)
returned_gives u c calls ty (go flow w) h = (result_is ty flow h.0, left_ok u c calls w h.1)
returned_gives u c calls ty (stop finish w) h = tt

-- ---- calls

module _ (u : Setup) (program : IsTypedProgram u) where
  choose_gives : (calls : List Call) (P : Value → Type 0) (b : Bool) (f : World → Run Value) (w : World) → GivesIn calls P (f w) → GivesIn calls P (choose b (stop (plain Stack)) f w)
  choose_gives calls P true f w h = tt
  choose_gives calls P false f w h = h

  called_gives : (m : Below) → TypedBelow u m → (calls : List Call) (f : ℕ) (vs : List Value) → AreValues (function_at u f).locals vs → Typed calls (HasClass (class_of (function_at u f).result)) (called u m f vs)
  called_gives m below calls f vs h =
      let ty : PlainType = (function_at u f).result in
      record {
        each = λ w ok.
            let made : List Object = automatics u.program.structs (function_at u f).locals vs in
            let c : Call = record { function = f; first = next_number w.objects } in
            let inside : IsTypedWorld (c ∷ calls) (entered u f vs w) = (All-append HoldsOwn w.objects made ok.0 (automatic_holds u.program.structs (function_at u f).locals vs h), ok.1, ap (λ cs. c ∷ cs) ok.2) in
            let body = (typed_exec u (c ∷ calls) m below (function_at u f).body (program f)).each (entered u f vs w) inside in
            choose_gives calls (HasClass (class_of ty)) (nat_lt stack_bytes (allowance_of u f + allowances u w.calls)) (λ w1. returned u ty (exec u m (function_at u f).body (entered u f vs w1))) w (returned_gives u c calls ty (exec u m (function_at u f).body (entered u f vs w)) body);
      }

  below_typed : (k : ℕ) → TypedBelow u (below u k)
  below_typed zero =
      record {
        call = λ calls f vs h. record { each = λ w ok. tt };
        turns = λ calls loop h i j. record { each = λ w ok. tt };
      }
  below_typed (suc k) =
      let fewer = below_typed k in
      record {
        call = λ calls f vs h. called_gives (below u k) fewer calls f vs h;
        turns = λ calls loop h i j. typed_turns u calls (below u k) fewer loop h i j;
      }

pub values_have_types : ValuesHaveTypes
values_have_types u depth calls e w program h ok =
    (typed_value u calls (below u depth) (below_typed u program depth) e h).each w ok

pub calls_have_types : CallsHaveTypes
calls_have_types u depth f calls vs w program h ok = ((below_typed u program depth).call calls f vs h).each w ok

-- ---- the first world

granules_hold : (n : ℕ) (bs : List ℕ) → All HoldsPointers (granules_of n bs)
granules_hold zero bs = All-nil HoldsPointers
granules_hold (suc n) bs = All-cons HoldsPointers (first_granule bs) (granules_of n (drop 8 bs)) tt (granules_hold n (drop 8 bs))

pointers_hold : (ps : List StaticPointer) (cells : List Cell) → All HoldsPointers cells → All HoldsPointers (with_pointers ps cells)
pointers_hold [] cells all = all
pointers_hold (p ∷ ps) cells all =
    let c : Cell = pointer (value_of.Ptr (p.target + 1) (pos p.offset)) in
    pointers_hold ps (slice_set cells (p.at / 8) c) (All-set HoldsPointers cells (p.at / 8) c tt all)

static_holds : (structs : PlainStructs) (o : TypedObject) → HoldsOwn (static_object structs o)
static_holds structs o =
    let n : ℕ = own_granules (size structs o.ty) in
    pointers_hold o.image.pointers (granules_of n o.image.bytes) (granules_hold n o.image.bytes)

pub runs_begin_typed : RunsBeginTyped
runs_begin_typed u place input steps =
    let statics : List Object = map (static_object u.program.structs) u.program.statics in
    let all : All HoldsOwn statics = All-map HoldsOwn (static_object u.program.structs) u.program.statics (λ k d h. static_holds u.program.structs (slice_index_or u.program.statics k d)) in
    (All-cons HoldsOwn no_object statics (All-nil HoldsPointers) all, All-nil (λ e. HoldsPointers e.cell), refl)
