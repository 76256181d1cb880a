-- Where stray accesses vanish, no run drops a granule.
use Rattle.std.proofs.Common.{◌≡◌, ℕ, zero, suc, ◌+◌, Bool, true, false, nat_lt, List, [], ◌∷◌, None, refl, ◌∙◌}
use Rattle.ob_model.specs.declared.endings.Ending.TheVariants.{Stack}
use Rattle.ob_model.specs.declared.values.Value.{Value}
use Rattle.ob_model.specs.Endings.{plain}
use Rattle.ob_tree.specs.Types.{PlainType}
use Rattle.ob_tree.specs.Types.PlainType.{Void, Int, Pointer, Array, Struct}
use Rattle.ob_model.specs.Limits.{stack_bytes}
use Rattle.ob_meaning.specs.Calls.{allowance_of, allowances, below, entered, left_to}
use Rattle.ob_meaning.specs.Expressions.{choose}
use Rattle.ob_meaning.specs.Initialisers.{cleared, local_type}
use Rattle.ob_meaning.specs.Runs.{finish_of, first_world, run}
use Rattle.ob_meaning.specs.Setup.{Setup, first_local}
use Rattle.ob_meaning.specs.World.{World, Call, Run, stop, go, end_of, bind, take_step, vanish}
use Rattle.ob_meaning.proofs.Quiet.{IsNoDrop, Quiet, quiet_allocated, quiet_compared, quiet_free, quiet_load, quiet_move, quiet_read, quiet_store, quiet_subtracted}
use Rattle.ob_meaning.proofs.Related.{KeptByActs, under}
use Rattle.ob_meaning.proofs.RelatedExpressions.{BelowActs}
use Rattle.ob_meaning.proofs.RelatedStatements.{called_acts, turns_acts}

abbrev HasNoDrop : {A : Type 0} → World → Run A → Type 0
HasNoDrop {A} w (go a v) = v.first_drop ≡ w.first_drop
HasNoDrop {A} w (stop finish v) = IsNoDrop finish × (v.first_drop ≡ w.first_drop)

record NoDrops {A : Type 0} (f : World → Run A) : Type 0 where
  each : (w : World) → HasNoDrop w (f w)

-- of two acts, the first is meant
abbrev First : {A : Type 0} → (World → Run A) → (World → Run A) → Type 0
First {A} f g = NoDrops f

of_quiet : {A : Type 0} (w : World) (r : Run A) → Quiet w r → HasNoDrop w r
of_quiet w (go a v) q = q.1
of_quiet w (stop finish v) q = (q.0, q.1.1)

no_drop_from : {A : Type 0} (w v : World) (r : Run A) → v.first_drop ≡ w.first_drop → HasNoDrop v r → HasNoDrop w r
no_drop_from w v (go a x) e h = h ∙ e
no_drop_from w v (stop finish x) e h = (h.0, h.1 ∙ e)

binds_no_drop : {A B : Type 0} (w : World) (r : Run A) (k : A → World → Run B) → HasNoDrop w r → ((a : A) → NoDrops (k a)) → HasNoDrop w (bind r k)
binds_no_drop w (go a v) k h each = no_drop_from w v (k a v) h ((each a).each v)
binds_no_drop w (stop finish v) k h each = h

steps_no_drop : {A : Type 0} (n : ℕ) (w : World) (f : World → Run A) → NoDrops f → HasNoDrop w (take_step n w f)
steps_no_drop zero w f s = (tt, refl)
steps_no_drop (suc n) w f s = s.each (record w { left = n })

clears_no_drop : {A : Type 0} (t : PlainType) (object : ℕ) (w : World) (f : World → Run A) → NoDrops f → HasNoDrop w (f (cleared t object w))
clears_no_drop Void object w f s = s.each w
clears_no_drop (Int t) object w f s = s.each w
clears_no_drop (Pointer t) object w f s = s.each w
clears_no_drop (Array t k) object w f s = s.each (cleared (Array t k) object w)
clears_no_drop (Struct k) object w f s = s.each (cleared (Struct k) object w)

fits_no_drop : {A : Type 0} (b : Bool) (w : World) (f : World → Run A) → NoDrops f → HasNoDrop w (choose b (stop (plain Stack)) f w)
fits_no_drop true w f s = (tt, refl)
fits_no_drop false w f s = s.each w

leaves_no_drop : (u : Setup) (calls : List Call) (v : Value) (w : World) → HasNoDrop w (go v (left_to u calls w))
leaves_no_drop u [] v w = refl
leaves_no_drop u (c ∷ cs) v w = refl

abbrev no_drop_acts : (u : Setup) → KeptByActs u vanish vanish
no_drop_acts u =
    record {
      Acts = First;
      Fewer = First;
      fewer = λ f g s. s;
      goes = λ a. record { each = λ w. refl };
      stops = λ e own. record { each = λ w. (tt, refl) };
      binds = λ f g k l s each. record { each = λ w. binds_no_drop w (f w) k (s.each w) each };
      fewer_binds = λ f g k l s each. record { each = λ w. binds_no_drop w (f w) k (s.each w) each };
      steps = λ f g s. record { each = λ w. steps_no_drop w.left w f s };
      loads = λ kind line p d. record { each = λ w. of_quiet w _ (quiet_load vanish u.cycle kind line p d w) };
      stores = λ kind line p d v. record { each = λ w. of_quiet w _ (quiet_store kind line p d v w) };
      moves = λ line p d. record { each = λ w. of_quiet w _ (quiet_move u.settings.away line p d w) };
      compares = λ r line p q. record { each = λ w. of_quiet w _ (quiet_compared r line p q w) };
      subtracts = λ size line p q. record { each = λ w. of_quiet w _ (quiet_subtracted size line p q w) };
      allocates = λ n. record { each = λ w. of_quiet w _ (quiet_allocated u.settings.heap n w) };
      frees = λ line p. record { each = λ w. of_quiet w _ (quiet_free u.settings.profile line p w) };
      reads = record { each = λ w. of_quiet w _ (quiet_read u.input_end w.input w) };
      writes = λ v. record { each = λ w. refl };
      locals = λ i. record { each = λ w. refl };
      clears = λ i f g each.
          record {
            each = λ w.
                let t : PlainType = local_type u w i in
                let object : ℕ = first_local w.calls + i in
                clears_no_drop t object w (f t object) (each t object);
          };
      fits = λ function f g s.
          record { each = λ w. fits_no_drop (nat_lt stack_bytes (allowance_of u function + allowances u w.calls)) w f s };
      enters = λ function arguments f g s. record { each = λ w. s.each (entered u function arguments w) };
      leaves = λ v. record { each = λ w. leaves_no_drop u w.calls v w };
    }

below_no_drop : (u : Setup) (k : ℕ) → BelowActs u vanish vanish (no_drop_acts u) (below (under vanish u) k) (below (under vanish u) k)
below_no_drop u zero =
    record { call = λ f vs. record { each = λ w. (tt, refl) }; turns = λ loop. record { each = λ w. (tt, refl) } }
below_no_drop u (suc k) =
    let fewer = below_no_drop u k in
    let m = below (under vanish u) k in
    record {
      call = called_acts u vanish vanish (no_drop_acts u) m m fewer;
      turns = turns_acts u vanish vanish (no_drop_acts u) m m fewer;
    }

pub vanishing_run : (u : Setup) (place : ℕ) (input : List ℕ) (steps : ℕ) → IsNoDrop (finish_of (run (under vanish u) place input steps)) × ((end_of (run (under vanish u) place input steps)).first_drop ≡ None)
vanishing_run u place input steps =
    of_run (run (under vanish u) place input steps) (steps_no_drop steps (first_world u place input steps) ((below (under vanish u) steps).call u.program.main []) ((below_no_drop u steps).call u.program.main []))
  where
    of_run : (r : Run Value) → HasNoDrop (first_world u place input steps) r → IsNoDrop (finish_of r) × ((end_of r).first_drop ≡ None)
    of_run (go v w) h = (tt, h)
    of_run (stop finish w) h = h
