-- Runs end by themselves, and for want of input only where the input fails.
use Rattle.std.proofs.Common.{◌≡◌, ◌≢◌, ℕ, zero, suc, ◌+◌, ◌||◌, Bool, true, false, nat_lt, ℤ, List, [], ◌∷◌, length, Option, Some, None, is_some, if◌then◌else◌, refl, subst}
use Rattle.ob_words.specs.declared.types.IntType.TheVariants.{Long}
use Rattle.ob_words.specs.Conversion.{convert}
use Rattle.ob_model.specs.declared.endings.Ending.{Ending}
use Rattle.ob_model.specs.declared.endings.Ending.TheVariants.{Ended, Steps, Divide, Stack, Descriptors, Far, Spent, ReadFault, WriteFault, NoMemory}
use Rattle.ob_model.specs.declared.settings.Profile.{Profile}
use Rattle.ob_model.specs.declared.strays.Act.TheVariants as act
use Rattle.ob_model.specs.declared.values.LoadKind.{LoadKind}
use Rattle.ob_model.specs.declared.values.Value.{Value}
use Rattle.ob_model.specs.declared.values.Value.TheVariants as value
use Rattle.ob_model.specs.Accesses.{Reach, bytes_of_kind, granule, is_far, stray_event}
use Rattle.ob_model.specs.Accesses as reaches
use Rattle.ob_model.specs.Bounded.{listed_cell, put_first}
use Rattle.ob_model.specs.Descriptors.{Pair}
use Rattle.ob_model.specs.Endings.{Finish, InputEnd, closed, failed, plain, dead, dropped}
use Rattle.ob_model.specs.Heap.{place_for}
use Rattle.ob_model.specs.Limits.{stack_bytes}
use Rattle.ob_model.specs.Pointers.{Moved, stays_null, too_far as far, in_bounds, out_of_bounds, difference, moved_by, pointers_compare}
use Rattle.ob_tree.specs.Types.{PlainType}
use Rattle.ob_meaning.specs.Accesses.{Target, dead_object, too_far, at, after_outside_load, load_at, or_made, outside_cell, put_outside, store_at, target}
use Rattle.ob_meaning.specs.Calls.{allowance_of, allowances, below, entered}
use Rattle.ob_meaning.specs.Expressions.{choose}
use Rattle.ob_meaning.specs.Heap.{allocated_at, free_known, freed_under, frees_it, read_byte}
use Rattle.ob_meaning.specs.Initialisers.{cleared, local_type}
use Rattle.ob_meaning.specs.Memory.{is_dead, object_at, own_cell}
use Rattle.ob_meaning.specs.Pointers.{is_listed, listed, move, moved, one_is_dead, size_at, uses_dead}
use Rattle.ob_meaning.specs.RunEnds.{RunsEndByThemselves}
use Rattle.ob_meaning.specs.Runs.{finish_of, first_world, run, setup_of}
use Rattle.ob_meaning.specs.Setup.{Setup, first_local}
use Rattle.ob_meaning.specs.Values.{Cell, nothing, read_cell, truth, write_cell}
use Rattle.ob_meaning.specs.World.{Rule, vanish, kept, unlimited, World, Run, stop, go, bind, take_step, told}
use Rattle.ob_meaning.proofs.Related.{IsOwnEnding, KeptByActs}
use Rattle.ob_meaning.proofs.RelatedExpressions.{BelowActs}
use Rattle.ob_meaning.proofs.RelatedStatements.{called_acts, turns_acts}

-- ---- how an act may end

abbrev MayEnd : InputEnd → Finish → Type 0
MayEnd i (plain (Ended n)) = Unit {0}
MayEnd i (plain Steps) = Unit {0}
MayEnd i (plain Divide) = Unit {0}
MayEnd i (plain Stack) = Unit {0}
MayEnd i (plain Descriptors) = Unit {0}
MayEnd i (plain Far) = Unit {0}
MayEnd i (plain ReadFault) = i ≡ failed
MayEnd i (plain Spent) = ⊥
MayEnd i (plain WriteFault) = ⊥
MayEnd i (plain NoMemory) = ⊥
MayEnd i (dead line) = Unit {0}
MayEnd i (dropped line) = Unit {0}

own_may : (i : InputEnd) (e : Ending) → IsOwnEnding e → MayEnd i (plain e)
own_may i (Ended n) own = tt
own_may i Steps own = tt
own_may i Divide own = tt
own_may i Stack own = tt
own_may i Descriptors own = tt
own_may i Far own = tt
own_may i Spent own = own
own_may i ReadFault own = absurd own
own_may i WriteFault own = own
own_may i NoMemory own = own

module _ (i : InputEnd) where
  abbrev EndsSo : {A : Type 0} → Run A → Type 0
  EndsSo {A} (go a w) = Unit {0}
  EndsSo {A} (stop finish w) = MayEnd i finish

  record Ends {A : Type 0} (f : World → Run A) : Type 0 where
    each : (w : World) → EndsSo (f w)

  -- of two acts, the first is meant
  abbrev First : {A : Type 0} → (World → Run A) → (World → Run A) → Type 0
  First {A} f g = Ends f

  ends_if : {A : Type 0} (b : Bool) (r s : Run A) → EndsSo r → EndsSo s → EndsSo (if b then r else s)
  ends_if true r s x y = x
  ends_if false r s x y = y

  -- ---- acts on the world

  ends_made : (c : Option Value) (cycle : List ℕ) (kind : LoadKind) (w : World) → EndsSo (or_made c cycle kind w)
  ends_made (Some v) cycle kind w = tt
  ends_made None cycle kind w = tt

  ends_load : (t : Target) (rule : Rule) (cycle : List ℕ) (kind : LoadKind) (line : ℕ) (w : World) → EndsSo (load_at t rule cycle kind line w)
  ends_load dead_object rule cycle kind line w = tt
  ends_load too_far rule cycle kind line w = tt
  ends_load (at o a reaches.inside) rule cycle kind line w = ends_made (read_cell kind a (own_cell w.objects o (granule a))) cycle kind w
  ends_load (at o a reaches.own) rule cycle kind line w =
      ends_made (read_cell kind a (own_cell w.objects o (granule a))) cycle kind (told (stray_event line act.Load o a (bytes_of_kind kind)) w)
  ends_load (at o a reaches.outside) rule cycle kind line w =
      let v : World = told (stray_event line act.Load o a (bytes_of_kind kind)) w in
      ends_made (read_cell kind a (outside_cell v o (granule a))) cycle kind (after_outside_load rule o (granule a) v)
  ends_load (at o a reaches.vanishing) rule cycle kind line w = tt

  ends_put : (rule : Rule) (line o : ℕ) (g : ℤ) (cell : Cell) (w : World) → EndsSo (put_outside rule line o g cell w)
  ends_put vanish line o g cell w = tt
  ends_put (kept cap) line o g cell w = tt
  ends_put (unlimited cap) line o g cell w =
      ends_if (is_some (listed_cell o g w.outside) || nat_lt (length w.outside) cap) (go nothing (record w { outside = put_first o g cell w.outside })) (stop (dropped line) w) tt tt

  ends_store : (t : Target) (rule : Rule) (kind : LoadKind) (line : ℕ) (v : Value) (w : World) → EndsSo (store_at t rule kind line v w)
  ends_store dead_object rule kind line v w = tt
  ends_store too_far rule kind line v w = tt
  ends_store (at o a reaches.inside) rule kind line v w = tt
  ends_store (at o a reaches.own) rule kind line v w = tt
  ends_store (at o a reaches.outside) rule kind line v w =
      let x : World = told (stray_event line act.Store o a (bytes_of_kind kind)) w in
      ends_put rule line o (granule a) (write_cell kind a v (outside_cell x o (granule a))) x
  ends_store (at o a reaches.vanishing) rule kind line v w = tt

  ends_listed : (away : ℕ) (pair : Pair) (w : World) → EndsSo (listed away pair w)
  ends_listed away pair w =
      let at : Value = value.Ptr pair.0 pair.1 in
      let more : World = record w { out_of_bounds = pair ∷ w.out_of_bounds } in
      ends_if (is_listed pair w.out_of_bounds) (go at w) (if nat_lt (length w.out_of_bounds) away then go at more else stop (plain Descriptors) w) tt (ends_if (nat_lt (length w.out_of_bounds) away) (go at more) (stop (plain Descriptors) w) tt tt)

  ends_moved : (away : ℕ) (m : Moved) (w : World) → EndsSo (moved away m w)
  ends_moved away stays_null w = tt
  ends_moved away far w = tt
  ends_moved away (in_bounds object offset) w = tt
  ends_moved away (out_of_bounds object offset) w = ends_listed away (object, offset) w

  ends_move : (away line : ℕ) (p : Value) (d : ℤ) (w : World) → EndsSo (move away line p d w)
  ends_move away line p d w =
      let m : Moved = moved_by (size_at w.objects p) p d in
      ends_if (is_dead w.objects p) (stop (dead line) w) (if is_far d then stop (plain Far) w else moved away m w) tt (ends_if (is_far d) (stop (plain Far) w) (moved away m w) tt (ends_moved away m w))

  ends_allocated : (place : Option ℕ) (n : ℕ) (w : World) → EndsSo (allocated_at place n w)
  ends_allocated None n w = tt
  ends_allocated (Some place) n w = tt

  ends_known : (profile : Profile) (line : ℕ) (p : Value) (w : World) → EndsSo (free_known profile line p w)
  ends_known profile line (value.Num n) w = tt
  ends_known profile line value.Null w = tt
  ends_known profile line (value.Ptr object offset) w =
      ends_if (frees_it (object_at w.objects object) offset) (go nothing (freed_under profile object w)) (go nothing (told (stray_event line act.Free object offset 0) w)) tt tt

  ends_read : (end : InputEnd) (input : List ℕ) (w : World) → end ≡ i → EndsSo (read_byte end input w)
  ends_read closed (byte ∷ rest) w is = tt
  ends_read failed (byte ∷ rest) w is = tt
  ends_read closed [] w is = tt
  ends_read failed [] w is = subst (λ (e : InputEnd). e ≡ failed) is refl

  -- ---- how acts follow one another

  ends_bind : {A B : Type 0} (r : Run A) (k : A → World → Run B) → EndsSo r → ((a : A) → Ends (k a)) → EndsSo (bind r k)
  ends_bind (go a v) k h each = (each a).each v
  ends_bind (stop finish v) k h each = h

  ends_step : {A : Type 0} (n : ℕ) (w : World) (f : World → Run A) → Ends f → EndsSo (take_step n w f)
  ends_step zero w f s = tt
  ends_step (suc n) w f s = s.each (record w { left = n })

  ends_cleared : {A : Type 0} (t : PlainType) (object : ℕ) (w : World) (f : World → Run A) → Ends f → EndsSo (f (cleared t object w))
  ends_cleared t object w f s = s.each (cleared t object w)

  ends_choose : {A : Type 0} (b : Bool) (w : World) (f : World → Run A) → Ends f → EndsSo (choose b (stop (plain Stack)) f w)
  ends_choose true w f s = tt
  ends_choose false w f s = s.each w

  module _ (u : Setup) (is : u.input_end ≡ i) where
    abbrev ends_acts : KeptByActs u u.rule u.rule
    ends_acts =
        record {
          Acts = First;
          Fewer = First;
          fewer = λ f g s. s;
          goes = λ a. record { each = λ w. tt };
          stops = λ e own. record { each = λ w. own_may i e own };
          binds = λ f g k l s each. record { each = λ w. ends_bind (f w) k (s.each w) each };
          fewer_binds = λ f g k l s each. record { each = λ w. ends_bind (f w) k (s.each w) each };
          steps = λ f g s. record { each = λ w. ends_step w.left w f s };
          loads = λ kind line p d.
              record { each = λ w. ends_load (target u.rule w.objects p d (bytes_of_kind kind)) u.rule u.cycle kind line w };
          stores = λ kind line p d v.
              record { each = λ w. ends_store (target u.rule w.objects p d (bytes_of_kind kind)) u.rule kind line v w };
          moves = λ line p d. record { each = λ w. ends_move u.settings.away line p d w };
          compares = λ r line p q.
              record { each = λ w. ends_if (uses_dead r w p q) (stop (dead line) w) (go (truth (pointers_compare r p q)) w) tt tt };
          subtracts = λ size line p q.
              record {
                each = λ w.
                    ends_if (one_is_dead w p q) (stop (dead line) w) (go (value.Num (convert Long (difference size p q))) w) tt tt;
              };
          allocates = λ n. record { each = λ w. ends_allocated (place_for w.heap u.settings.heap n) n w };
          frees = λ line p.
              record {
                each = λ w.
                    ends_if (is_dead w.objects p) (stop (dead line) w) (free_known u.settings.profile line p w) tt (ends_known u.settings.profile line p w);
              };
          reads = record { each = λ w. ends_read u.input_end w.input w is };
          writes = λ v. record { each = λ w. tt };
          locals = λ n. record { each = λ w. tt };
          clears = λ n f g each.
              record {
                each = λ w.
                    let t : PlainType = local_type u w n in
                    let object : ℕ = first_local w.calls + n in
                    ends_cleared t object w (f t object) (each t object);
              };
          fits = λ function f g s.
              record { each = λ w. ends_choose (nat_lt stack_bytes (allowance_of u function + allowances u w.calls)) w f s };
          enters = λ function arguments f g s. record { each = λ w. s.each (entered u function arguments w) };
          leaves = λ v. record { each = λ w. tt };
        }

    ends_below : (n : ℕ) → BelowActs u u.rule u.rule ends_acts (below u n) (below u n)
    ends_below zero = record { call = λ f vs. record { each = λ w. tt }; turns = λ loop. record { each = λ w. tt } }
    ends_below (suc n) =
        let fewer = ends_below n in
        record {
          call = called_acts u u.rule u.rule ends_acts (below u n) (below u n) fewer;
          turns = turns_acts u u.rule u.rule ends_acts (below u n) (below u n) fewer;
        }

    ends_run : (place : ℕ) (input : List ℕ) (steps : ℕ) → EndsSo (run u place input steps)
    ends_run place input steps =
        ends_step steps (first_world u place input steps) ((below u steps).call u.program.main []) ((ends_below steps).call u.program.main [])

  may_finish : (r : Run Value) → EndsSo r → MayEnd i (finish_of r)
  may_finish (go v w) h = tt
  may_finish (stop finish w) h = h

never : (i : InputEnd) (finish : Finish) (e : Ending) → MayEnd i finish → (MayEnd i (plain e) → ⊥) → finish ≢ plain e
never i finish e may absent is = absent (subst (MayEnd i) is may)

pub runs_end_by_themselves : RunsEndByThemselves
runs_end_by_themselves program rule settings cycle place input input_end steps =
    let u : Setup = setup_of program rule settings cycle input_end in
    let r : Run Value = run u place input steps in
    let may : MayEnd input_end (finish_of r) = may_finish input_end r (ends_run input_end u refl place input steps) in (
      never input_end (finish_of r) WriteFault may (λ h. h),
      never input_end (finish_of r) NoMemory may (λ h. h),
      never input_end (finish_of r) Spent may (λ h. h),
      λ is. subst (MayEnd input_end) is may,
    )
