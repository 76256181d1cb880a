-- What a machine's run gives, from what its execution comes to.
use Rattle.std.proofs.Common.{◌≡◌, ℕ, ◌+◌, ◌*◌, ◌<◌, ◌≤◌, ◌^◌, ◌⊎◌, Bool, false, List, [], length, refl, sym, ap, ◌∙◌, subst, arith, inl, inr}
use Rattle.ob_base.specs.Faults.{Rose}
use Rattle.ob_model.specs.declared.endings.Ending.{Ending}
use Rattle.ob_model.specs.declared.endings.Ending.TheVariants.{NoMemory, ReadFault, Spent, WriteFault}
use Rattle.ob_model.specs.declared.settings.Mode.TheVariants.{Boundless}
use Rattle.ob_model.specs.declared.settings.RunSettings.{RunSettings}
use Rattle.ob_model.specs.declared.strays.StrayEvent.{StrayEvent}
use Rattle.ob_model.specs.Endings.{InputEnd, closed, failed}
use Rattle.ob_code.proofs.Counts.{bounded}
use Rattle.ob_code.specs.declared.image.Image.{Image}
use Rattle.ob_code.specs.Machine.{after, runs as runs_from}
use Rattle.ob_code.specs.Rules.{IsVerified}
use Rattle.ob_code.specs.Start as start
use Rattle.ob_code.specs.Start.{flat_final, laid_out, most_instructions, started}
use Rattle.ob_model.specs.Limits.{stack_bytes}
use Rattle.ob_code.specs.State.{Final, State}
use Rattle.ob_machine.specs.declared.execution.Execution.{Execution}
use Rattle.ob_machine.specs.declared.ports.Ports.{Ports}
use Rattle.ob_base.specs.Devices.{Reading, Writing}
use Rattle.ob_machine.specs.Devices.{IsInput}
use Rattle.ob_machine.specs.Executions.{SameRows, setup, state_of}
use Rattle.ob_machine.specs.Finished.{Comes, ComesOut, IsToldUntil, at_start, ended, broken as broken_before, starved as starved_before}
use Rattle.ob_machine.specs.Machines.{ComesTo, Hearing, IsFlushedBeforeReads, IsPartlyTold, MachineState, Runs, done, broken, starved}
use Rattle.ob_machine.specs.Wiring.{IsUnused}
use Rattle.ob_machine.proofs.Reached.{first_next, no_calls}
use Rattle.ob_machine.proofs.Tells.{CanEnd}
use Rattle.ob_machine.proofs.WholeRuns.{run_follows}

pub unused_calls : (image : Image) (e : Execution) (p : Ports) → IsUnused image e p → e.space.space.calls ≡ []
unused_calls image e p u = ap (λ s. s.space.calls) u.space ∙ no_calls image.statics image.pointers e.space.settings

pub unused_numbered : (image : Image) (e : Execution) (p : Ports) (steps : ℕ) → IsVerified image → IsUnused image e p → steps ≤ 1000000000 → e.space.space.next + 524288 * steps < 2 ^ 62
unused_numbered image e p steps v u few =
    let next : e.space.space.next ≡ length image.statics + 1 = ap (λ s. s.space.next) u.space ∙ first_next image.statics image.pointers e.space.settings in
    omega (arith, v.statics.most)

-- the execution, for so many steps
abbrev pub given : Execution → ℕ → Execution
given e steps = record e { steps = steps }

starts_so : (image : Image) (e : Execution) (p : Ports) (steps place : ℕ) (input : List ℕ) → IsUnused image e p → state_of (given e steps) (at_start input place) ≡ start.fresh (laid_out stack_bytes image.statics image.pointers e.space.settings) place input steps
starts_so image e p steps place input u =
    λ i. record { space = (u.space i).space; counter = u.counter i; steps = steps; input = input; output = []; events = []; cycle_place = place; instructions = u.instructions i }

-- the run of an execution
abbrev pub run_of : Image → RunSettings → List ℕ → ℕ → InputEnd → State → Final
run_of image settings cycle limit input_end s = after (started image s) (runs_from (setup image settings cycle input_end) limit)

final_is : (image : Image) (e : Execution) (p : Ports) (steps limit place : ℕ) (cycle input : List ℕ) (input_end : InputEnd) → IsUnused image e p → limit ≡ most_instructions image steps → run_of image e.space.settings cycle limit input_end (state_of (given e steps) (at_start input place)) ≡ flat_final image e.space.settings cycle place input input_end steps
final_is image e p steps limit place cycle input input_end u is =
    λ i. after (started image (starts_so image e p steps place input u i)) (runs_from (setup image e.space.settings cycle input_end) (is i))

-- the machine with an execution
abbrev pub machine_of : Image → Execution → Bool → MachineState
machine_of image e fresh = record { image = image; settings = e.space.settings; space = e.space.space; is_fresh = fresh; instructions = e.instructions }

abbrev pub machine_after : Image → Execution → MachineState
machine_after image f = record { image = image; settings = f.space.settings; space = f.space.space; is_fresh = false; instructions = f.instructions }

partly : (events : List StrayEvent) (h : Hearing) → h.place_now < length h.cycle → IsToldUntil events h → IsPartlyTold events h
partly events h place t = record { told = t.told; begins = t.begins; seen = t.seen; place = place }

came_to : (run : InputEnd → State → Final) (image : Image) (e0 e f : Execution) (fresh : Bool) (final : Final) (r : Reading) (w : Writing) (h : Hearing) (answer : Ending) → e.space.settings ≡ e0.space.settings → f.space.settings ≡ e0.space.settings → h.place_now < length h.cycle → Comes run e f r w h answer final → ComesTo final (machine_of image e0 fresh) (machine_after image f) answer w h
came_to run image e0 e f fresh final r w h answer before same place (ended is) =
    done (record {
      ending = is.ending;
      output = is.output;
      place = is.place;
      events = is.events;
      machine = λ i. record { image = image; settings = same i; space = is.space i; is_fresh = false; instructions = is.instructions i };
    })
came_to run image e0 e f fresh final r w h answer before same place (broken_before is flushed) =
    broken (record {
      ending = is.ending;
      output = is.output;
      told = partly final.state.events h place is.told;
      machine = λ i. record { image = image; settings = same i; space = f.space.space; is_fresh = false; instructions = f.instructions };
      instructions = is.instructions;
    })
came_to run image e0 e f fresh final r w h answer before same place (starved_before is) =
    starved (record {
      ending = is.ending;
      boundless = ap (λ s. s.mode) (sym before) ∙ is.boundless;
      store = is.store;
      output = is.output;
      told = partly final.state.events h place is.told;
      machine = λ i. record { image = image; settings = same i; space = f.space.space; is_fresh = false; instructions = f.instructions };
      instructions = is.instructions;
    })

pub runs : (image : Image) (e f : Execution) (p : Ports) (fresh : Bool) (steps limit : ℕ) (answer : Ending) (r : Reading) (w : Writing) (h : Hearing) → IsUnused image e p → limit ≡ most_instructions image steps → SameRows e.space f.space → h.place_now < length h.cycle → ComesOut (run_of image e.space.settings h.cycle limit) (given e steps) f r w h answer → Runs (machine_of image e fresh) (machine_after image f) steps answer r w h
runs image e f p fresh steps limit answer r w h u is rows place out =
    let same = final_is image e p steps limit h.place_before h.cycle out.input out.input_end u is in
    record {
      input = out.input;
      input_end = out.input_end;
      is_input = out.is_input;
      comes_to = came_to (run_of image e.space.settings h.cycle limit) image e (given e steps) f fresh (flat_final image e.space.settings h.cycle h.place_before out.input out.input_end steps) r w h answer refl rows.settings place
          (subst (λ final. Comes (run_of image e.space.settings h.cycle limit) (given e steps) f r w h answer final) same out.comes);
    }

-- where a write failed, output had been sent before each read
pub flushes : (image : Image) (e f : Execution) (p : Ports) (steps limit : ℕ) (answer : Ending) (r : Reading) (w : Writing) (h : Hearing) → IsUnused image e p → limit ≡ most_instructions image steps → ComesOut (run_of image e.space.settings h.cycle limit) (given e steps) f r w h answer → answer ≡ WriteFault → IsFlushedBeforeReads (λ input input_end. flat_final image e.space.settings h.cycle h.place_before input input_end steps) r w
flushes image e f p steps limit answer r w h u is out written =
    by_coming (subst (λ final. Comes (run_of image e.space.settings h.cycle limit) (given e steps) f r w h answer final) (final_is image e p steps limit h.place_before h.cycle out.input out.input_end u is) out.comes) can_end
  where
    final : Final
    final = flat_final image e.space.settings h.cycle h.place_before out.input out.input_end steps

    can_end : (final.ending ≡ Spent) ⊎ CanEnd out.input_end final.ending
    can_end = (run_follows (record { image = image; settings = e.space.settings; cycle = h.cycle; input_end = out.input_end }) (laid_out stack_bytes image.statics image.pointers e.space.settings) h.place_before out.input steps).ending

    by_coming : Comes (run_of image e.space.settings h.cycle limit) (given e steps) f r w h answer final → (final.ending ≡ Spent) ⊎ CanEnd out.input_end final.ending → IsFlushedBeforeReads (λ input input_end. flat_final image e.space.settings h.cycle h.place_before input input_end steps) r w
    by_coming (ended d) (inl spent) = absurd (let same : WriteFault ≡ Spent = sym written ∙ d.ending ∙ spent in cc)
    by_coming (ended d) (inr can) = absurd (subst (CanEnd out.input_end) (sym d.ending ∙ written) can)
    by_coming (broken_before b cut) c = subst (λ final. IsFlushedBeforeReads final r w) (λ i input input_end. final_is image e p steps limit h.place_before h.cycle input input_end u is i) cut
    by_coming (starved_before b) c = absurd (let same : WriteFault ≡ NoMemory = sym written ∙ b.ending in cc)

module _ (m after' : MachineState) (steps : ℕ) (answer : Ending) (r : Reading) (w : Writing) (heard : Hearing) (h : Runs m after' steps answer r w heard) where
  abbrev final : Final
  final = flat_final m.image m.settings heard.cycle heard.place_before h.input h.input_end steps

  can_end : (final.ending ≡ Spent) ⊎ CanEnd h.input_end final.ending
  can_end = (run_follows (record { image = m.image; settings = m.settings; cycle = heard.cycle; input_end = h.input_end }) (laid_out stack_bytes m.image.statics m.image.pointers m.settings) heard.place_before h.input steps).ending

  cut_short : (input_end : InputEnd) → input_end ≡ failed → IsInput r h.input input_end → Rose r.faults_before r.faults_now
  cut_short closed is input = cc
  cut_short failed is input = input.cause

  pub read_cause : answer ≡ ReadFault → Rose r.faults_before r.faults_now
  read_cause is = by_coming h.comes_to can_end
    where
      by_coming : ComesTo final m after' answer w heard → (final.ending ≡ Spent) ⊎ CanEnd h.input_end final.ending → Rose r.faults_before r.faults_now
      by_coming (done d) (inl spent) = cc
      by_coming (done d) (inr can) = cut_short h.input_end (subst (CanEnd h.input_end) (sym d.ending ∙ is) can) h.is_input
      by_coming (broken b) c = cc
      by_coming (starved b) c = cc

  pub write_cause : answer ≡ WriteFault → Rose w.faults_before w.faults_now
  write_cause is = by_coming h.comes_to can_end
    where
      by_coming : ComesTo final m after' answer w heard → (final.ending ≡ Spent) ⊎ CanEnd h.input_end final.ending → Rose w.faults_before w.faults_now
      by_coming (done d) (inl spent) = cc
      by_coming (done d) (inr can) = absurd (subst (CanEnd h.input_end) (sym d.ending ∙ is) can)
      by_coming (broken b) c = b.output.cause
      by_coming (starved b) c = cc

  pub lacked : answer ≡ NoMemory → m.settings.mode ≡ Boundless
  lacked is = by_coming h.comes_to can_end
    where
      by_coming : ComesTo final m after' answer w heard → (final.ending ≡ Spent) ⊎ CanEnd h.input_end final.ending → m.settings.mode ≡ Boundless
      by_coming (done d) (inl spent) = cc
      by_coming (done d) (inr can) = absurd (subst (CanEnd h.input_end) (sym d.ending ∙ is) can)
      by_coming (broken b) c = cc
      by_coming (starved b) c = b.boundless

  pub within_bound : after'.instructions ≤ most_instructions m.image steps
  within_bound = by_coming h.comes_to (bounded (record { image = m.image; settings = m.settings; cycle = heard.cycle; input_end = h.input_end }) (laid_out stack_bytes m.image.statics m.image.pointers m.settings) heard.place_before h.input steps)
    where
      by_coming : ComesTo final m after' answer w heard → final.state.instructions ≤ most_instructions m.image steps → after'.instructions ≤ most_instructions m.image steps
      by_coming (done d) le = let same = ap (λ x. x.instructions) d.machine in omega (arith, same, le)
      by_coming (broken b) le = omega (arith, b.instructions, le)
      by_coming (starved b) le = omega (arith, b.instructions, le)
