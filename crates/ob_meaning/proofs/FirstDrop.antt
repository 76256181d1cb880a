-- A bounded run goes as the unlimited one up to its first drop.
use Rattle.std.proofs.Common.{ℕ, zero, suc, ◌+◌, nat_lt, List, [], ◌∷◌, length, arith, refl, ◌∙◌, ap}
use Rattle.ob_model.specs.declared.endings.Ending.TheVariants.{Stack, Steps}
use Rattle.ob_model.specs.declared.values.Value.{Value}
use Rattle.ob_model.specs.Bounded.{Listed, surviving_cells}
use Rattle.ob_model.specs.Endings.{plain, dead, dropped}
use Rattle.ob_tree.specs.Types.{PlainType}
use Rattle.ob_tree.specs.Types.PlainType.{Void, Int, Pointer, Array, Struct}
use Rattle.ob_model.specs.Limits.{stack_bytes}
use Rattle.ob_meaning.specs.Calls.{allowance_of, allowances, below, entered, left_to}
use Rattle.ob_meaning.specs.FirstDrop.{GoesOnFrom, RunsAreAlikeToTheFirstDrop}
use Rattle.ob_meaning.specs.Initialisers.{cleared, local_type}
use Rattle.ob_model.specs.Objects.{is_among}
use Rattle.ob_meaning.specs.Runs.{finish_of, first_world, outcome_of, run, setup_of}
use Rattle.ob_meaning.specs.Setup.{Setup, first_local, function_at}
use Rattle.ob_meaning.specs.Values.{Cell}
use Rattle.ob_meaning.specs.World.{World, Call, Run, stop, go, end_of, kept, unlimited, vanish}
use Rattle.ob_meaning.proofs.Alike.{Acts, Alike, Beside, IsLater, bind_acts, choose_acts, go_acts, later_self, step_acts, stop_acts, with_outside}
use Rattle.ob_meaning.proofs.AlikeAccesses.{load_acts, store_acts}
use Rattle.ob_meaning.proofs.AlikePointers.{allocated_acts, beside_without, compared_acts, free_acts, move_acts, read_acts, subtracted_acts, write_acts}
use Rattle.ob_meaning.proofs.Related.{KeptByActs, under}
use Rattle.ob_meaning.proofs.RelatedExpressions.{BelowActs}
use Rattle.ob_meaning.proofs.RelatedStatements.{called_acts, turns_acts}

-- ---- what depends on the calls in progress

module _ (cap : ℕ) (u : Setup) where
  cleared_acts : {A : Type 0} (t : PlainType) (object : ℕ) (f g : World → Run A) → Acts cap f g → Acts cap (λ w. f (cleared t object w)) (λ w. g (cleared t object w))
  cleared_acts Void object f g s = s
  cleared_acts (Int t) object f g s = s
  cleared_acts (Pointer t) object f g s = s
  cleared_acts (Array t k) object f g s =
      record { alike = λ w ks b. s.alike (cleared (Array t k) object w) ks b; later = λ w. s.later (cleared (Array t k) object w) }
  cleared_acts (Struct k) object f g s =
      record { alike = λ w ks b. s.alike (cleared (Struct k) object w) ks b; later = λ w. s.later (cleared (Struct k) object w) }

  local_acts : {A : Type 0} (i : ℕ) (f g : PlainType → ℕ → World → Run A) → ((t : PlainType) (object : ℕ) → Acts cap (f t object) (g t object)) → Acts cap (λ w. f (local_type u w i) (first_local w.calls + i) (cleared (local_type u w i) (first_local w.calls + i) w)) (λ w. g (local_type u w i) (first_local w.calls + i) (cleared (local_type u w i) (first_local w.calls + i) w))
  local_acts i f g each =
      record {
        alike = λ w ks b.
            let t : PlainType = local_type u w i in
            let object : ℕ = first_local w.calls + i in
            (cleared_acts t object (f t object) (g t object) (each t object)).alike w ks b;
        later = λ w.
            let t : PlainType = local_type u w i in
            let object : ℕ = first_local w.calls + i in
            (cleared_acts t object (f t object) (g t object) (each t object)).later w;
      }

  left_alike : (calls : List Call) (v : Value) (w : World) (ks : List (Listed Cell)) → Beside cap w ks → Alike cap (go v (left_to u calls w)) (go v (left_to u calls (with_outside ks w)))
  left_alike [] v w ks b = (ks, refl, b)
  left_alike (c ∷ cs) v w ks b =
      let dies = is_among c.first (length (function_at u c.function).locals) in
      (surviving_cells dies ks, refl, beside_without cap dies w ks b)

  left_later : (calls : List Call) (w : World) → IsLater w (left_to u calls w)
  left_later [] w = later_self w
  left_later (c ∷ cs) w = later_self w

  -- ---- whole runs

  abbrev alike_acts : KeptByActs u (unlimited cap) (kept cap)
  alike_acts =
      record {
        Acts = Acts cap;
        Fewer = Acts cap;
        fewer = λ f g s. s;
        goes = go_acts cap;
        stops = λ e own. stop_acts cap e;
        binds = bind_acts cap;
        fewer_binds = bind_acts cap;
        steps = step_acts cap;
        loads = load_acts cap u.cycle;
        stores = store_acts cap;
        moves = move_acts cap u.settings.away;
        compares = compared_acts cap;
        subtracts = subtracted_acts cap;
        allocates = allocated_acts cap u.settings.heap;
        frees = free_acts cap u.settings.profile;
        reads = read_acts cap u.input_end;
        writes = write_acts cap;
        locals = λ i. record { alike = λ w ks b. (ks, refl, b); later = λ w. later_self w };
        clears = local_acts;
        fits = λ function f g s.
            let full = λ (w : World). nat_lt stack_bytes (allowance_of u function + allowances u w.calls) in
            record {
              alike = λ w ks b. (choose_acts cap (full w) _ _ _ _ (stop_acts cap Stack) s).alike w ks b;
              later = λ w. (choose_acts cap (full w) _ _ _ _ (stop_acts cap Stack) s).later w;
            };
        enters = λ function arguments f g s.
            record {
              alike = λ w ks b. s.alike (entered u function arguments w) ks b;
              later = λ w. s.later (entered u function arguments w);
            };
        leaves = λ v. record { alike = λ w ks b. left_alike w.calls v w ks b; later = λ w. left_later w.calls w };
      }

  below_acts : (k : ℕ) → BelowActs u (unlimited cap) (kept cap) alike_acts (below (under (unlimited cap) u) k) (below (under (kept cap) u) k)
  below_acts zero = record { call = λ f vs. stop_acts cap Steps; turns = λ loop. stop_acts cap Steps }
  below_acts (suc k) =
      let fewer = below_acts k in
      record {
        call = called_acts u (unlimited cap) (kept cap) alike_acts (below (under (unlimited cap) u) k) (below (under (kept cap) u) k) fewer;
        turns = turns_acts u (unlimited cap) (kept cap) alike_acts (below (under (unlimited cap) u) k) (below (under (kept cap) u) k) fewer;
      }

runs_alike : (cap : ℕ) (u : Setup) (place : ℕ) (input : List ℕ) (steps : ℕ) → Alike cap (run (under (unlimited cap) u) place input steps) (run (under (kept cap) u) place input steps)
runs_alike cap u place input steps =
    (step_acts cap _ _ ((below_acts cap u steps).call u.program.main [])).alike (first_world u place input steps) []
    (record { left = tt; right = tt; same = λ o g. refl }, omega arith, refl)

goes_on : (cap : ℕ) (r s : Run Value) → Alike cap r s → GoesOnFrom (finish_of r) (outcome_of r) (outcome_of s) (end_of s)
goes_on cap (go v w) s h = (ap outcome_of h.1, ap (λ x. (end_of x).first_drop) h.1 ∙ h.2.2)
goes_on cap (stop (plain e) w) s h = (ap outcome_of h.1, ap (λ x. (end_of x).first_drop) h.1 ∙ h.2.2)
goes_on cap (stop (dead line) w) s h = (ap outcome_of h.1, ap (λ x. (end_of x).first_drop) h.1 ∙ h.2.2)
goes_on cap (stop (dropped line) w) s h = ((h.0, h.1), h.2)

pub to_the_first_drop : RunsAreAlikeToTheFirstDrop
to_the_first_drop program settings cycle place input input_end steps cap =
    let u : Setup = setup_of program vanish settings cycle input_end in
    goes_on cap (run (under (unlimited cap) u) place input steps) (run (under (kept cap) u) place input steps) (runs_alike cap u place input steps)
