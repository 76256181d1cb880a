-- With more depth than steps left, the depth makes no difference.
use Rattle.std.proofs.Common.{◌≡◌, ℕ, zero, suc, pred, ◌+◌, ◌<◌, ◌≤◌, Bool, true, false, nat_lt, List, [], ◌∷◌, arith, refl, ◌∙◌, ap, ◌⊎◌, inl, inr}
use Rattle.ob_model.specs.declared.endings.Ending.TheVariants.{Stack}
use Rattle.ob_model.specs.Endings.{plain}
use Rattle.ob_tree.specs.Types.{PlainType}
use Rattle.ob_tree.specs.Types.PlainType.{Void, Int, Pointer, Array, Struct}
use Rattle.ob_model.specs.Limits.{stack_bytes}
use Rattle.ob_meaning.specs.Calls.{allowance_of, allowances, below, entered, left_to}
use Rattle.ob_meaning.specs.Depth.{BoundOnCallsIsFree, BoundOnTurnsIsFree}
use Rattle.ob_meaning.specs.Expressions.{choose}
use Rattle.ob_meaning.specs.Initialisers.{cleared, local_type}
use Rattle.ob_meaning.specs.Setup.{Setup, first_local}
use Rattle.ob_meaning.specs.World.{World, Call, Run, stop, go, end_of, bind, take_step}
use Rattle.ob_meaning.proofs.Quiet.{Quiet, left_store, quiet_allocated, quiet_compared, quiet_free, quiet_load, quiet_move, quiet_read, quiet_subtracted}
use Rattle.ob_meaning.proofs.Related.{KeptByActs}
use Rattle.ob_meaning.proofs.RelatedExpressions.{BelowActs}
use Rattle.ob_meaning.proofs.RelatedStatements.{called_acts, turns_acts}

-- two acts are one where fewer than b steps are left, and give no steps back
record AgreeBelow (b : ℕ) {A : Type 0} (f g : World → Run A) : Type 0 where
  agree : (w : World) → w.left < b → f w ≡ g w
  spend : (w : World) → w.left < b → (end_of (f w)).left ≤ w.left

one_act : {A : Type 0} (b : ℕ) (f : World → Run A) → ((w : World) → (end_of (f w)).left ≡ w.left) → AgreeBelow b f f
one_act b f same = record { agree = λ w h. refl; spend = λ w h. omega (arith, same w) }

quiet_left : {A : Type 0} (w : World) (r : Run A) → Quiet w r → (end_of r).left ≡ w.left
quiet_left w (go a v) q = q.0
quiet_left w (stop finish v) q = q.1.0

fewer_agree : {A : Type 0} (b : ℕ) (f g : World → Run A) → AgreeBelow b f g → AgreeBelow (pred b) f g
fewer_agree zero f g s = s
fewer_agree (suc b) f g s = record { agree = λ w h. s.agree w (omega arith); spend = λ w h. s.spend w (omega arith) }

bind_agree : {A B : Type 0} (b n : ℕ) (r : Run A) (k l : A → World → Run B) → n < b → (end_of r).left ≤ n → ((a : A) → AgreeBelow b (k a) (l a)) → (bind r k ≡ bind r l) × ((end_of (bind r k)).left ≤ n)
bind_agree b n (go a v) k l h spent each =
    let more : (end_of (k a v)).left ≤ v.left = (each a).spend v (omega arith) in
    ((each a).agree v (omega arith), omega arith)
bind_agree b n (stop finish v) k l h spent each = (refl, spent)

binds_agree : {A B : Type 0} (b : ℕ) (f g : World → Run A) (k l : A → World → Run B) → AgreeBelow b f g → ((a : A) → AgreeBelow b (k a) (l a)) → AgreeBelow b (λ w. bind (f w) k) (λ w. bind (g w) l)
binds_agree b f g k l s each =
    record {
      agree = λ w h. (bind_agree b w.left (f w) k l h (s.spend w h) each).0 ∙ ap (λ r. bind r l) (s.agree w h);
      spend = λ w h. (bind_agree b w.left (f w) k l h (s.spend w h) each).1;
    }

step_agree : {A : Type 0} (b n : ℕ) (w : World) (f g : World → Run A) → n < b → AgreeBelow (pred b) f g → (take_step n w f ≡ take_step n w g) × ((end_of (take_step n w f)).left ≤ n ⊎ (w.left ≡ (end_of (take_step n w f)).left))
step_agree b zero w f g h s = (refl, inr refl)
step_agree (suc b) (suc n) w f g h s =
    let fewer : n < b = omega arith in
    let spent : (end_of (f (record w { left = n }))).left ≤ n = s.spend (record w { left = n }) fewer in
    (s.agree (record w { left = n }) fewer, inl (omega arith))
step_agree zero (suc n) w f g h s = absurd (omega arith)

steps_agree : {A : Type 0} (b : ℕ) (f g : World → Run A) → AgreeBelow (pred b) f g → AgreeBelow b (λ w. take_step w.left w f) (λ w. take_step w.left w g)
steps_agree b f g s =
    record {
      agree = λ w h. (step_agree b w.left w f g h s).0;
      spend = λ w h. elim (step_agree b w.left w f g h s).1 [ inl x ↦ x | inr e ↦ omega (arith, e) ];
    }

clear_agree : {A : Type 0} (b : ℕ) (t : PlainType) (object : ℕ) (f g : World → Run A) → AgreeBelow b f g → AgreeBelow b (λ w. f (cleared t object w)) (λ w. g (cleared t object w))
clear_agree b Void object f g s = s
clear_agree b (Int t) object f g s = s
clear_agree b (Pointer t) object f g s = s
clear_agree b (Array t k) object f g s =
    record { agree = λ w h. s.agree (cleared (Array t k) object w) h; spend = λ w h. s.spend (cleared (Array t k) object w) h }
clear_agree b (Struct k) object f g s =
    record { agree = λ w h. s.agree (cleared (Struct k) object w) h; spend = λ w h. s.spend (cleared (Struct k) object w) h }

choose_agree : {A : Type 0} (b : ℕ) (full : Bool) (f g : World → Run A) → AgreeBelow b f g → AgreeBelow b (choose full (stop (plain Stack)) f) (choose full (stop (plain Stack)) g)
choose_agree b true f g s = one_act b (stop (plain Stack)) (λ w. refl)
choose_agree b false f g s = s

leave_left : (u : Setup) (calls : List Call) (w : World) → (left_to u calls w).left ≡ w.left
leave_left u [] w = refl
leave_left u (c ∷ cs) w = refl

abbrev agree_acts : (u : Setup) (b : ℕ) → KeptByActs u u.rule u.rule
agree_acts u b =
    record {
      Acts = AgreeBelow b;
      Fewer = AgreeBelow (pred b);
      fewer = fewer_agree b;
      goes = λ a. one_act b (go a) (λ w. refl);
      stops = λ e own. one_act b (stop (plain e)) (λ w. refl);
      binds = binds_agree b;
      fewer_binds = binds_agree (pred b);
      steps = steps_agree b;
      loads = λ kind line p d. one_act b _ (λ w. quiet_left w _ (quiet_load u.rule u.cycle kind line p d w));
      stores = λ kind line p d v. one_act b _ (left_store u.rule kind line p d v);
      moves = λ line p d. one_act b _ (λ w. quiet_left w _ (quiet_move u.settings.away line p d w));
      compares = λ r line p q. one_act b _ (λ w. quiet_left w _ (quiet_compared r line p q w));
      subtracts = λ size line p q. one_act b _ (λ w. quiet_left w _ (quiet_subtracted size line p q w));
      allocates = λ n. one_act b _ (λ w. quiet_left w _ (quiet_allocated u.settings.heap n w));
      frees = λ line p. one_act b _ (λ w. quiet_left w _ (quiet_free u.settings.profile line p w));
      reads = one_act b _ (λ w. quiet_left w _ (quiet_read u.input_end w.input w));
      writes = λ v. one_act b _ (λ w. refl);
      locals = λ i. one_act b _ (λ w. refl);
      clears = λ i f g each.
          record {
            agree = λ w h.
                let t : PlainType = local_type u w i in
                let object : ℕ = first_local w.calls + i in
                (clear_agree b t object (f t object) (g t object) (each t object)).agree w h;
            spend = λ w h.
                let t : PlainType = local_type u w i in
                let object : ℕ = first_local w.calls + i in
                (clear_agree b t object (f t object) (g t object) (each t object)).spend w h;
          };
      fits = λ function f g s.
          let full = λ (w : World). nat_lt stack_bytes (allowance_of u function + allowances u w.calls) in
          record {
            agree = λ w h. (choose_agree b (full w) f g s).agree w h;
            spend = λ w h. (choose_agree b (full w) f g s).spend w h;
          };
      enters = λ function arguments f g s.
          record {
            agree = λ w h. s.agree (entered u function arguments w) h;
            spend = λ w h. s.spend (entered u function arguments w) h;
          };
      leaves = λ v. one_act b _ (λ w. leave_left u w.calls w);
    }

-- the depths are at least the bound; the meanings are those of a bound of one less
below_agree : (u : Setup) (b m n : ℕ) → b ≤ m → b ≤ n → BelowActs u u.rule u.rule (agree_acts u (suc b)) (below u m) (below u n)
below_agree u zero m n i j =
    record {
      call = λ f vs. record { agree = λ w h. absurd (omega arith); spend = λ w h. absurd (omega arith) };
      turns = λ loop. record { agree = λ w h. absurd (omega arith); spend = λ w h. absurd (omega arith) };
    }
below_agree u (suc b) zero n i j = absurd (omega arith)
below_agree u (suc b) (suc m) zero i j = absurd (omega arith)
below_agree u (suc b) (suc m) (suc n) i j =
    let fewer = below_agree u b m n (omega arith) (omega arith) in
    record {
      call = called_acts u u.rule u.rule (agree_acts u (suc b)) (below u m) (below u n) fewer;
      turns = turns_acts u u.rule u.rule (agree_acts u (suc b)) (below u m) (below u n) fewer;
    }

pub calls_are_free : BoundOnCallsIsFree
calls_are_free u m n f vs w h i =
    ((below_agree u (suc w.left) m n (omega arith) (omega arith)).call f vs).agree w (omega arith)

pub turns_are_free : BoundOnTurnsIsFree
turns_are_free u m n loop w h i =
    ((below_agree u (suc w.left) m n (omega arith) (omega arith)).turns loop).agree w (omega arith)
