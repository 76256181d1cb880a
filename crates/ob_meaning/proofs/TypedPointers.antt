-- Moves, comparisons, the heap, input and output give values of their types.
use Rattle.std.proofs.Common.{ℕ, ◌+◌, ◌%◌, ◌==◌, Bool, true, false, not, nat_lt, ℤ, negsuc, List, [], ◌∷◌, length, Option, Some, None, if◌then◌else◌, All, arith}
use Rattle.std.proofs.lemmas.Int.{ints}
use Rattle.std.proofs.lemmas.Nat.{mod_below}
use Rattle.std.proofs.lemmas.List.Elements.{All-append, All-cons, All-filter, All-head, All-nil, All-replicate, All-tail}
use Rattle.ob_words.specs.declared.types.IntType.TheVariants as type
use Rattle.ob_words.specs.declared.types.Relation.{Relation}
use Rattle.ob_words.specs.Conversion.{convert}
use Rattle.ob_words.specs.Types.{IsNumber}
use Rattle.ob_words.proofs.Conversions.{convert_number}
use Rattle.ob_model.specs.declared.endings.Ending.TheVariants.{Descriptors, Far}
use Rattle.ob_model.specs.declared.objects.Sort.{Sort}
use Rattle.ob_model.specs.declared.objects.Sort.TheVariants.{Heap}
use Rattle.ob_model.specs.declared.strays.Act.TheVariants as act
use Rattle.ob_model.specs.declared.values.Value.{Value}
use Rattle.ob_model.specs.declared.values.Value.TheVariants as value
use Rattle.ob_model.specs.Accesses.{is_far, stray_event}
use Rattle.ob_model.specs.Bounded.{Listed}
use Rattle.ob_model.specs.Cells.{zeros}
use Rattle.ob_model.specs.Descriptors.{Pair}
use Rattle.ob_model.specs.Endings.{InputEnd, closed, failed, plain, dead}
use Rattle.ob_model.specs.Heap.{place_for}
use Rattle.ob_model.specs.Objects.{ObjectState, freed, dead as dead_state}
use Rattle.ob_model.specs.Pointers.{Moved, stays_null, too_far, in_bounds, out_of_bounds, difference, moved_by, pointers_compare}
use Rattle.ob_model.specs.declared.settings.Profile.{Profile}
use Rattle.ob_model.specs.declared.settings.Profile.TheVariants.{One, Two}
use Rattle.ob_meaning.specs.Heap.{allocated, allocated_at, free, free_known, freed_under, frees_it, read_byte, write_byte}
use Rattle.ob_meaning.specs.Memory.{Object, changed_if, is_dead, new_object, object_at, with_state}
use Rattle.ob_meaning.specs.Pointers.{compared, is_listed, listed, move, moved, one_is_dead, size_at, subtracted, uses_dead}
use Rattle.ob_meaning.specs.Values.{Cell, nothing, number_of, truth}
use Rattle.ob_meaning.specs.ValueTypes.{Class, GivesIn, HasClass, HoldsPointers, IsScalar, IsTypedWorld, class_of, none}
use Rattle.ob_meaning.specs.ValueTypes as class
use Rattle.ob_meaning.specs.World.{World, Call, stop, go, told, without}
use Rattle.ob_meaning.proofs.TypedActs.{Typed, gives_if, small_number, truth_is}
use Rattle.ob_meaning.proofs.TypedAccesses.{Any, HoldsOwn}

abbrev IsPointer : Value → Type 0
IsPointer v = HasClass class.pointer v

-- ---- moves

listed_gives : (calls : List Call) (away : ℕ) (pair : Pair) (w : World) → IsTypedWorld calls w → GivesIn calls IsPointer (listed away pair w)
listed_gives calls away pair w ok =
    let at : Value = value.Ptr pair.0 pair.1 in
    let more : World = record w { out_of_bounds = pair ∷ w.out_of_bounds } in
    gives_if calls IsPointer (is_listed pair w.out_of_bounds) (go at w) (if nat_lt (length w.out_of_bounds) away then go at more else stop (plain Descriptors) w) (tt, ok) (gives_if calls IsPointer (nat_lt (length w.out_of_bounds) away) (go at more) (stop (plain Descriptors) w) (tt, ok) tt)

moved_gives : (calls : List Call) (away : ℕ) (m : Moved) (w : World) → IsTypedWorld calls w → GivesIn calls IsPointer (moved away m w)
moved_gives calls away stays_null w ok = (tt, ok)
moved_gives calls away too_far w ok = tt
moved_gives calls away (in_bounds object offset) w ok = (tt, ok)
moved_gives calls away (out_of_bounds object offset) w ok = listed_gives calls away (object, offset) w ok

pub typed_move : (calls : List Call) (away line : ℕ) (p : Value) (d : ℤ) → Typed calls IsPointer (move away line p d)
typed_move calls away line p d =
    record {
      each = λ w ok.
          let m : Moved = moved_by (size_at w.objects p) p d in
          gives_if calls IsPointer (is_dead w.objects p) (stop (dead line) w) (if is_far d then stop (plain Far) w else moved away m w) tt (gives_if calls IsPointer (is_far d) (stop (plain Far) w) (moved away m w) tt (moved_gives calls away m w ok));
    }

-- ---- comparisons

pub typed_compared : (calls : List Call) (r : Relation) (line : ℕ) (p q : Value) → Typed calls (HasClass (class.number type.Int)) (compared r line p q)
typed_compared calls r line p q =
    record {
      each = λ w ok.
          gives_if calls (HasClass (class.number type.Int)) (uses_dead r w p q) (stop (dead line) w) (go (truth (pointers_compare r p q)) w) tt (truth_is (pointers_compare r p q), ok);
    }

pub typed_subtracted : (calls : List Call) (size line : ℕ) (p q : Value) → Typed calls (HasClass (class.number type.Long)) (subtracted size line p q)
typed_subtracted calls size line p q =
    record {
      each = λ w ok.
          gives_if calls (HasClass (class.number type.Long)) (one_is_dead w p q) (stop (dead line) w) (go (value.Num (convert type.Long (difference size p q))) w) tt (convert_number type.Long (difference size p q), ok);
    }

-- ---- the heap

pub new_holds : (sort : Sort) (n : ℕ) → HoldsOwn (new_object sort n)
new_holds sort n = All-replicate HoldsPointers _ zeros tt

allocated_gives : (calls : List Call) (place : Option ℕ) (n : ℕ) (w : World) → IsTypedWorld calls w → GivesIn calls IsPointer (allocated_at place n w)
allocated_gives calls None n w ok = (tt, ok)
allocated_gives calls (Some place) n w ok =
    (tt, (All-append HoldsOwn w.objects (new_object Heap n ∷ []) ok.0 (All-cons HoldsOwn (new_object Heap n) [] (new_holds Heap n) (All-nil HoldsOwn)), ok.1, ok.2))

pub typed_allocated : (calls : List Call) (heap n : ℕ) → Typed calls IsPointer (allocated heap n)
typed_allocated calls heap n = record { each = λ w ok. allocated_gives calls (place_for w.heap heap n) n w ok }

changed_holds : (b : Bool) (state : ObjectState) (o : Object) → HoldsOwn o → HoldsOwn (changed_if b state o)
changed_holds true state o h = h
changed_holds false state o h = h

states_hold : (state : ObjectState) (named : ℕ → Bool) (n : ℕ) (os : List Object) → All HoldsOwn os → All HoldsOwn (with_state state named n os)
states_hold state named n [] all = All-nil HoldsOwn
states_hold state named n (o ∷ os) all =
    All-cons HoldsOwn (changed_if (named n) state o) (with_state state named (n + 1) os) (changed_holds (named n) state o (All-head HoldsOwn o os all)) (states_hold state named (n + 1) os (All-tail HoldsOwn o os all))

abbrev HoldsListed : Listed Cell → Type 0
HoldsListed e = HoldsPointers e.cell

pub without_ok : (calls : List Call) (dies : ℕ → Bool) (w : World) → IsTypedWorld calls w → IsTypedWorld calls (without dies w)
without_ok calls dies w ok =
    (states_hold dead_state dies 0 w.objects ok.0, All-filter (λ e. not (dies e.object)) HoldsListed w.outside ok.1, ok.2)

freed_ok : (calls : List Call) (profile : Profile) (object : ℕ) (w : World) → IsTypedWorld calls w → IsTypedWorld calls (freed_under profile object w)
freed_ok calls One object w ok = without_ok calls (λ other. other == object) w ok
freed_ok calls Two object w ok =
    (states_hold freed (λ other. other == object) 0 w.objects ok.0, All-filter (λ e. not (e.object == object)) HoldsListed w.outside ok.1, ok.2)

known_gives : (calls : List Call) (profile : Profile) (line : ℕ) (p : Value) (w : World) → IsTypedWorld calls w → GivesIn calls Any (free_known profile line p w)
known_gives calls profile line (value.Num n) w ok = (tt, ok)
known_gives calls profile line value.Null w ok = (tt, ok)
known_gives calls profile line (value.Ptr object offset) w ok =
    gives_if calls Any (frees_it (object_at w.objects object) offset) (go nothing (freed_under profile object w)) (go nothing (told (stray_event line act.Free object offset 0) w)) (tt, freed_ok calls profile object w ok) (tt, ok)

pub typed_free : (calls : List Call) (profile : Profile) (line : ℕ) (p : Value) → Typed calls Any (free profile line p)
typed_free calls profile line p =
    record {
      each = λ w ok.
          gives_if calls Any (is_dead w.objects p) (stop (dead line) w) (free_known profile line p w) tt (known_gives calls profile line p w ok);
    }

-- ---- input and output

minus_one : IsNumber type.Int (negsuc 0)
minus_one = record { from_least = omega (arith, ints); below_past = omega (arith, ints) }

read_gives : (calls : List Call) (input_end : InputEnd) (input : List ℕ) (w : World) → IsTypedWorld calls w → GivesIn calls (HasClass (class.number type.Int)) (read_byte input_end input w)
read_gives calls closed (byte ∷ rest) w ok = (small_number (byte % 256) (mod_below byte 256 (omega arith)), ok)
read_gives calls failed (byte ∷ rest) w ok = (small_number (byte % 256) (mod_below byte 256 (omega arith)), ok)
read_gives calls closed [] w ok = (minus_one, ok)
read_gives calls failed [] w ok = tt

pub typed_read : (calls : List Call) (input_end : InputEnd) → Typed calls (HasClass (class.number type.Int)) (λ w. read_byte input_end w.input w)
typed_read calls input_end = record { each = λ w ok. read_gives calls input_end w.input w ok }

byte_number : (z : ℤ) → IsNumber type.UChar z → IsNumber type.Int z
byte_number z h = record { from_least = omega (arith, ints, h.from_least); below_past = omega (arith, ints, h.below_past) }

pub typed_write : (calls : List Call) (v : Value) → Typed calls (HasClass (class.number type.Int)) (write_byte v)
typed_write calls v =
    record { each = λ w ok. (byte_number (convert type.UChar (number_of v)) (convert_number type.UChar (number_of v)), ok) }
