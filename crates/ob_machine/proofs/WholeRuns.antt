-- Whole runs on any image: the output so far stays, instructions are counted, and only some endings come.
use Rattle.std.proofs.Common.{◌≡◌, ℕ, zero, suc, ◌+◌, ◌≤◌, ◌⊎◌, slice_get, List, [], ◌++◌, length, arith, refl, sym, ◌∙◌, ap, subst, append_assoc, inl, inr}
use Rattle.std.proofs.lemmas.List.{append-nil}
use Rattle.ob_model.specs.declared.endings.Ending.TheVariants.{Spent}
use Rattle.ob_model.specs.Endings.{Begins}
use Rattle.ob_code.specs.Machine.{after, counted, entering, runs, step}
use Rattle.ob_code.specs.Start.{fresh, most_instructions, run_from, started}
use Rattle.ob_code.specs.State.{Final, Next, Setup, Space, State, goes, stops}
use Rattle.ob_machine.specs.Progress.{Leads, Reaches}
use Rattle.ob_machine.proofs.Tells as tells
use Rattle.ob_machine.proofs.Tells.{CanEnd, Tells, act_on, quiet}

pub begins_then : {A : Type 0} → (xs ys zs : List A) → Begins xs ys → Begins ys zs → Begins xs zs
begins_then xs ys zs p q = (p.0 ++ q.0, q.1 ∙ ap (λ l. l ++ q.0) p.1 ∙ append_assoc xs p.0 q.0)

-- where a run from a state comes to
pub record Follows (u : Setup) (s : State) (f : Final) : Type 0 where
  pub output : Begins s.output f.state.output
  pub events : Begins s.events f.state.events
  pub instructions : s.instructions ≤ f.state.instructions
  pub ending : (f.ending ≡ Spent) ⊎ CanEnd u.input_end f.ending

-- after an instruction, or after starting
after_follows : (u : Setup) (s : State) (x : Next) (k : State → Final) → Tells u.input_end s x → ((t : State) → Follows u t (k t)) → Follows u s (after x k)
after_follows u s (goes t) k h f =
    record { output = begins_then s.output t.output (k t).state.output h.output (f t).output; events = begins_then s.events t.events (k t).state.events h.events (f t).events; instructions = omega (arith, h.instructions, (f t).instructions); ending = (f t).ending }
after_follows u s (stops e t) k h f = record { output = h.1.output; events = h.1.events; instructions = omega (arith, h.1.instructions); ending = inr h.0 }

pub runs_follow : (u : Setup) (n : ℕ) (s : State) → Follows u s (runs u n s)
runs_follow u zero s = record { output = ([], sym (append-nil s.output)); events = ([], sym (append-nil s.events)); instructions = omega arith; ending = inl refl }
runs_follow u (suc n) s =
    let f = after_follows u (counted s) (step u s) (runs u n) (act_on u (slice_get u.image.code s.counter) (counted s)) (runs_follow u n) in
    record { output = f.output; events = f.events; instructions = omega (arith, f.instructions); ending = f.ending }

-- a run of at least one instruction counts it
pub runs_count : (u : Setup) (n : ℕ) (s : State) → s.instructions + 1 ≤ (runs u (suc n) s).state.instructions
runs_count u n s = (after_follows u (counted s) (step u s) (runs u n) (act_on u (slice_get u.image.code s.counter) (counted s)) (runs_follow u n)).instructions

-- starting a run
starts : (u : Setup) (s : State) → Tells u.input_end s (started u.image s)
starts u s =
    tells.ticked u.input_end s.steps s (λ t. entering u.image u.image.main (length u.image.code) [] t)
    (λ n. tells.entering u.input_end s u.image u.image.main (length u.image.code) [] (record s { steps = n }) (quiet s _ refl refl refl))

pub run_follows : (u : Setup) (space : Space) (place : ℕ) (input : List ℕ) (steps : ℕ) → Follows u (fresh space place input steps) (run_from u space place input steps)
run_follows u space place input steps =
    after_follows u (fresh space place input steps) (started u.image (fresh space place input steps)) (runs u (most_instructions u.image steps)) (starts u (fresh space place input steps)) (runs_follow u (most_instructions u.image steps))

-- ---- runs that are spent

-- a state where the run goes on
abbrev GoesOn : Setup → ℕ → Next → Type 0
GoesOn u n x = (r : State) × (t : State) × (x ≡ goes r) × Leads u n r t

after_spent : (u : Setup) (n : ℕ) (s : State) (x : Next) → Tells u.input_end s x → ((r : State) → (runs u n r).ending ≡ Spent → (t : State) × Leads u n r t) → (after x (runs u n)).ending ≡ Spent → GoesOn u n x
after_spent u n s (goes r) h f e = let l = f r e in (r, l.0, refl, l.1)
after_spent u n s (stops e t) h f is = absurd (subst (CanEnd u.input_end) is h.0)

spent_leads : (u : Setup) (n : ℕ) (s : State) → (runs u n s).ending ≡ Spent → (t : State) × Leads u n s t
spent_leads u zero s e = (s, refl)
spent_leads u (suc n) s e =
    let g = after_spent u n (counted s) (step u s) (act_on u (slice_get u.image.code s.counter) (counted s)) (spent_leads u n) e in
    (g.1, (g.0, g.2, g.3))

leads_spent : (u : Setup) (n : ℕ) (s t : State) → Leads u n s t → (runs u n s).ending ≡ Spent
leads_spent u zero s t l = refl
leads_spent u (suc n) s t l = ap (λ x. (after x (runs u n)).ending) l.1 ∙ leads_spent u n l.0 t l.2

pub spent_reaches : (u : Setup) (space : Space) (place : ℕ) (input : List ℕ) (steps : ℕ) → (run_from u space place input steps).ending ≡ Spent → (t : State) × Reaches u space place input steps (most_instructions u.image steps) t
spent_reaches u space place input steps e =
    let s = fresh space place input steps in
    let n = most_instructions u.image steps in
    let g = after_spent u n s (started u.image s) (starts u s) (spent_leads u n) e in
    (g.1, record { first = g.0; starts = g.2; leads = g.3 })

pub reaches_spent : (u : Setup) (space : Space) (place : ℕ) (input : List ℕ) (steps : ℕ) (t : State) → Reaches u space place input steps (most_instructions u.image steps) t → (run_from u space place input steps).ending ≡ Spent
reaches_spent u space place input steps t r =
    let n = most_instructions u.image steps in
    ap (λ x. (after x (runs u n)).ending) r.starts ∙ leads_spent u n r.first t r.leads
