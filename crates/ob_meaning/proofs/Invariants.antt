-- What a run's acts keep of its objects, of the granules outside of them and of the calls in progress holds at the run's end, if
-- it holds where the run begins.
use Rattle.std.proofs.Common.{◌≡◌, ℕ, zero, suc, ◌+◌, Bool, true, false, nat_lt, ℤ, List, [], ◌∷◌, ◌++◌, length, Option, Some, None, if◌then◌else◌, refl}
use Rattle.ob_words.specs.declared.types.IntType.TheVariants.{Long}
use Rattle.ob_words.specs.Conversion.{convert}
use Rattle.ob_model.specs.declared.endings.Ending.TheVariants.{Descriptors, Far, Stack}
use Rattle.ob_model.specs.declared.objects.Sort.TheVariants.{Heap}
use Rattle.ob_model.specs.declared.strays.Act.TheVariants as act
use Rattle.ob_model.specs.declared.values.LoadKind.{LoadKind}
use Rattle.ob_model.specs.declared.values.Value.{Value}
use Rattle.ob_model.specs.declared.values.Value.TheVariants as value
use Rattle.ob_model.specs.Accesses.{bytes_of_kind, granule, is_far, stray_event}
use Rattle.ob_model.specs.Accesses as reaches
use Rattle.ob_model.specs.Bounded.{Listed, after_load}
use Rattle.ob_model.specs.Descriptors.{Pair}
use Rattle.ob_model.specs.Endings.{InputEnd, closed, failed, plain, dead}
use Rattle.ob_model.specs.Heap.{place_for}
use Rattle.ob_model.specs.Limits.{stack_bytes}
use Rattle.ob_model.specs.Objects.{is_dead_state}
use Rattle.ob_model.specs.Pointers.{Moved, stays_null, too_far as far, in_bounds, out_of_bounds, difference, moved_by, pointers_compare}
use Rattle.ob_tree.specs.Types.{PlainType}
use Rattle.ob_tree.specs.Types.PlainType.{Void, Int, Pointer, Array, Struct}
use Rattle.ob_meaning.specs.Accesses.{Target, dead_object, too_far, at, after_outside_load, load_at, or_made, outside_cell, store, target}
use Rattle.ob_meaning.specs.Calls.{allowance_of, allowances, below, entered, left}
use Rattle.ob_meaning.specs.Expressions.{choose}
use Rattle.ob_meaning.specs.Heap.{allocated_at, free, freed_under, frees_it, read_byte}
use Rattle.ob_meaning.specs.Initialisers.{cleared, local_type}
use Rattle.ob_meaning.specs.Memory.{Object, is_dead, new_object, object_at, own_cell, with_wiped}
use Rattle.ob_meaning.specs.Pointers.{is_listed, listed, move, moved, one_is_dead, size_at, uses_dead}
use Rattle.ob_meaning.specs.Runs.{first_world, run}
use Rattle.ob_meaning.specs.Setup.{Setup, first_local}
use Rattle.ob_meaning.specs.Values.{Cell, nothing, read_cell, truth}
use Rattle.ob_meaning.specs.World.{Rule, vanish, kept, unlimited, World, Call, Run, stop, go, end_of, bind, take_step, told}
use Rattle.ob_meaning.proofs.Related.{KeptByActs}
use Rattle.ob_meaning.proofs.RelatedExpressions.{BelowActs}
use Rattle.ob_meaning.proofs.RelatedStatements.{called_acts, turns_acts}

module _ (u : Setup) (I : List Object → List (Listed Cell) → List Call → Type 0) where
  -- what holds of a world, and at the end of an act
  abbrev pub In : World → Type 0
  In w = I w.objects w.outside w.calls

  abbrev pub EndsIn : {A : Type 0} → Run A → Type 0
  EndsIn {A} r = In (end_of r)

  -- the acts that change what it speaks of
  pub record Kept : Type 0 where
    pub uses : (object : ℕ) (g : ℤ) (w : World) → In w → I w.objects (after_load object g w.outside) w.calls
    pub stores : (kind : LoadKind) (line : ℕ) (p : Value) (d : ℤ) (v : Value) (w : World) → In w → EndsIn (store u.rule kind line p d v w)
    pub frees : (object : ℕ) (offset : ℤ) (w : World) → is_dead_state (object_at w.objects object).state ≡ false → frees_it (object_at w.objects object) offset ≡ true → In w → In (freed_under u.settings.profile object w)
    pub allocates : (n : ℕ) (w : World) → In w → I (w.objects ++ new_object Heap n ∷ []) w.outside w.calls
    pub clears : (object : ℕ) (w : World) → In w → I (with_wiped w.objects object) w.outside w.calls
    pub enters : (f : ℕ) (arguments : List Value) (w : World) → In w → In (entered u f arguments w)
    pub leaves : (w : World) → In w → In (left u w)

  record Keeps {A : Type 0} (f : World → Run A) : Type 0 where
    each : (w : World) → In w → EndsIn (f w)

  -- of two acts, the first is meant
  abbrev First : {A : Type 0} → (World → Run A) → (World → Run A) → Type 0
  First {A} f g = Keeps f

  in_if : {A : Type 0} (b : Bool) (r s : Run A) → EndsIn r → EndsIn s → EndsIn (if b then r else s)
  in_if true r s x y = x
  in_if false r s x y = y

  module _ (k : Kept) where
    -- ---- acts on the world

    in_made : (c : Option Value) (cycle : List ℕ) (kind : LoadKind) (w : World) → In w → EndsIn (or_made c cycle kind w)
    in_made (Some v) cycle kind w h = h
    in_made None cycle kind w h = h

    in_used : (rule : Rule) (object : ℕ) (g : ℤ) (cycle : List ℕ) (kind : LoadKind) (c : Option Value) (w : World) → In w → EndsIn (or_made c cycle kind (after_outside_load rule object g w))
    in_used vanish object g cycle kind c w h = in_made c cycle kind w h
    in_used (kept cap) object g cycle kind c w h =
        in_made c cycle kind (after_outside_load (kept cap) object g w) (k.uses object g w h)
    in_used (unlimited cap) object g cycle kind c w h = in_made c cycle kind w h

    in_load : (t : Target) (cycle : List ℕ) (kind : LoadKind) (line : ℕ) (w : World) → In w → EndsIn (load_at t u.rule cycle kind line w)
    in_load dead_object cycle kind line w h = h
    in_load too_far cycle kind line w h = h
    in_load (at o a reaches.inside) cycle kind line w h = in_made (read_cell kind a (own_cell w.objects o (granule a))) cycle kind w h
    in_load (at o a reaches.own) cycle kind line w h =
        in_made (read_cell kind a (own_cell w.objects o (granule a))) cycle kind (told (stray_event line act.Load o a (bytes_of_kind kind)) w) h
    in_load (at o a reaches.outside) cycle kind line w h =
        let v : World = told (stray_event line act.Load o a (bytes_of_kind kind)) w in
        in_used u.rule o (granule a) cycle kind (read_cell kind a (outside_cell v o (granule a))) v h
    in_load (at o a reaches.vanishing) cycle kind line w h = h

    in_listed : (away : ℕ) (pair : Pair) (w : World) → In w → EndsIn (listed away pair w)
    in_listed away pair w h =
        let at : Value = value.Ptr pair.0 pair.1 in
        let more : World = record w { out_of_bounds = pair ∷ w.out_of_bounds } in
        in_if (is_listed pair w.out_of_bounds) (go at w) (if nat_lt (length w.out_of_bounds) away then go at more else stop (plain Descriptors) w) h (in_if (nat_lt (length w.out_of_bounds) away) (go at more) (stop (plain Descriptors) w) h h)

    in_moved : (away : ℕ) (m : Moved) (w : World) → In w → EndsIn (moved away m w)
    in_moved away stays_null w h = h
    in_moved away far w h = h
    in_moved away (in_bounds object offset) w h = h
    in_moved away (out_of_bounds object offset) w h = in_listed away (object, offset) w h

    in_move : (away line : ℕ) (p : Value) (d : ℤ) (w : World) → In w → EndsIn (move away line p d w)
    in_move away line p d w h =
        let m : Moved = moved_by (size_at w.objects p) p d in
        in_if (is_dead w.objects p) (stop (dead line) w) (if is_far d then stop (plain Far) w else moved away m w) h (in_if (is_far d) (stop (plain Far) w) (moved away m w) h (in_moved away m w h))

    in_allocated : (place : Option ℕ) (n : ℕ) (w : World) → In w → EndsIn (allocated_at place n w)
    in_allocated None n w h = h
    in_allocated (Some place) n w h = k.allocates n w h

    in_free : (line : ℕ) (p : Value) (w : World) → In w → EndsIn (free u.settings.profile line p w)
    in_free line (value.Num n) w h = h
    in_free line value.Null w h = h
    in_free line (value.Ptr object offset) w h =
        by_tests (is_dead_state (object_at w.objects object).state) (frees_it (object_at w.objects object) offset) refl refl
      where
        by_tests : (a b : Bool) → is_dead_state (object_at w.objects object).state ≡ a → frees_it (object_at w.objects object) offset ≡ b → EndsIn (if a then stop (dead line) w else (if b then go nothing (freed_under u.settings.profile object w) else go nothing (told (stray_event line act.Free object offset 0) w)))
        by_tests true b is test = h
        by_tests false true is test = k.frees object offset w is test h
        by_tests false false is test = h

    in_read : (input_end : InputEnd) (input : List ℕ) (w : World) → In w → EndsIn (read_byte input_end input w)
    in_read closed (byte ∷ rest) w h = h
    in_read failed (byte ∷ rest) w h = h
    in_read closed [] w h = h
    in_read failed [] w h = h

    -- ---- how acts follow one another

    in_bind : {A B : Type 0} (r : Run A) (f : A → World → Run B) → EndsIn r → ((a : A) → Keeps (f a)) → EndsIn (bind r f)
    in_bind (go a v) f h each = (each a).each v h
    in_bind (stop finish v) f h each = h

    in_step : {A : Type 0} (n : ℕ) (w : World) (f : World → Run A) → In w → Keeps f → EndsIn (take_step n w f)
    in_step zero w f h s = h
    in_step (suc n) w f h s = s.each (record w { left = n }) h

    in_cleared : {A : Type 0} (t : PlainType) (object : ℕ) (w : World) (f : World → Run A) → In w → Keeps f → EndsIn (f (cleared t object w))
    in_cleared Void object w f h s = s.each w h
    in_cleared (Int t) object w f h s = s.each w h
    in_cleared (Pointer t) object w f h s = s.each w h
    in_cleared (Array t n) object w f h s = s.each (cleared (Array t n) object w) (k.clears object w h)
    in_cleared (Struct n) object w f h s = s.each (cleared (Struct n) object w) (k.clears object w h)

    in_choose : {A : Type 0} (b : Bool) (w : World) (f : World → Run A) → In w → Keeps f → EndsIn (choose b (stop (plain Stack)) f w)
    in_choose true w f h s = h
    in_choose false w f h s = s.each w h

    abbrev in_acts : KeptByActs u u.rule u.rule
    in_acts =
        record {
          Acts = First;
          Fewer = First;
          fewer = λ f g s. s;
          goes = λ a. record { each = λ w h. h };
          stops = λ e own. record { each = λ w h. h };
          binds = λ f g i j s each. record { each = λ w h. in_bind (f w) i (s.each w h) each };
          fewer_binds = λ f g i j s each. record { each = λ w h. in_bind (f w) i (s.each w h) each };
          steps = λ f g s. record { each = λ w h. in_step w.left w f h s };
          loads = λ kind line p d. record { each = λ w h. in_load (target u.rule w.objects p d (bytes_of_kind kind)) u.cycle kind line w h };
          stores = λ kind line p d v. record { each = λ w h. k.stores kind line p d v w h };
          moves = λ line p d. record { each = λ w h. in_move u.settings.away line p d w h };
          compares = λ r line p q.
              record { each = λ w h. in_if (uses_dead r w p q) (stop (dead line) w) (go (truth (pointers_compare r p q)) w) h h };
          subtracts = λ size line p q.
              record {
                each = λ w h.
                    in_if (one_is_dead w p q) (stop (dead line) w) (go (value.Num (convert Long (difference size p q))) w) h h;
              };
          allocates = λ n. record { each = λ w h. in_allocated (place_for w.heap u.settings.heap n) n w h };
          frees = λ line p. record { each = λ w h. in_free line p w h };
          reads = record { each = λ w h. in_read u.input_end w.input w h };
          writes = λ v. record { each = λ w h. h };
          locals = λ i. record { each = λ w h. h };
          clears = λ i f g each.
              record {
                each = λ w h.
                    let t : PlainType = local_type u w i in
                    let object : ℕ = first_local w.calls + i in
                    in_cleared t object w (f t object) h (each t object);
              };
          fits = λ function f g s.
              record { each = λ w h. in_choose (nat_lt stack_bytes (allowance_of u function + allowances u w.calls)) w f h s };
          enters = λ function arguments f g s.
              record { each = λ w h. s.each (entered u function arguments w) (k.enters function arguments w h) };
          leaves = λ v. record { each = λ w h. k.leaves w h };
        }

    in_below : (n : ℕ) → BelowActs u u.rule u.rule in_acts (below u n) (below u n)
    in_below zero = record { call = λ f vs. record { each = λ w h. h }; turns = λ loop. record { each = λ w h. h } }
    in_below (suc n) =
        let fewer = in_below n in
        record {
          call = called_acts u u.rule u.rule in_acts (below u n) (below u n) fewer;
          turns = turns_acts u u.rule u.rule in_acts (below u n) (below u n) fewer;
        }

    pub holds_at_end : (place : ℕ) (input : List ℕ) (steps : ℕ) → In (first_world u place input steps) → EndsIn (run u place input steps)
    holds_at_end place input steps h =
        in_step steps (first_world u place input steps) ((below u steps).call u.program.main []) h ((in_below steps).call u.program.main [])
