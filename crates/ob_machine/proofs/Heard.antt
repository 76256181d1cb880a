-- Checked accesses and `free`, and what they tell and take.
use Rattle.std.proofs.Common.{◌≡◌, ℕ, ◌+◌, ◌-◌, ℤ, [], ◌++◌, Option, Some, None, refl, sym, ap, ◌∙◌}
use Rattle.std.specs.Option.{option_map}
use Rattle.std.proofs.lemmas.List.{append-nil}
use Rattle.ob_words.specs.Words.{number}
use Rattle.ob_words.specs.declared.types.IntType.TheVariants.{Long}
use Rattle.ob_model.specs.declared.endings.Ending.TheVariants.{Far}
use Rattle.ob_model.specs.declared.strays.Act.TheVariants as act
use Rattle.ob_model.specs.declared.strays.StrayEvent.{StrayEvent}
use Rattle.ob_model.specs.declared.values.LoadKind.{LoadKind}
use Rattle.ob_model.specs.Accesses.{bytes_of_kind, stray_event}
use Rattle.ob_code.specs.Accesses.{Access, too_far, direct, own, outside, vanishing, event_of, found_word, space_after_load, space_after_store}
use Rattle.ob_code.specs.Allocation.{free_event, freeing, place_word, space_after_free}
use Rattle.ob_code.specs.Frames.{frame_word, top_function}
use Rattle.ob_code.specs.Machine.{free, load, on, set_or_made, set_word, store, told}
use Rattle.ob_code.specs.Pointers.{resolve}
use Rattle.ob_code.specs.State.{Setup, Space, State, goes, stops}
use Rattle.ob_telling.specs.Telling.{watches_after}
use Rattle.ob_space.specs.Accesses.{NeedsMemory, access_of, after_load, after_store, found, given_place, given_word, load_event, store_event, IsUnlisted}
use Rattle.ob_space.specs.Loaded.{Loaded, address_in_heap, after_free, freeing_of, top_words}
use Rattle.ob_machine.specs.declared.execution.Execution.{Execution}
use Rattle.ob_machine.specs.Executions.{Beside, setup, state_of}
use Rattle.ob_machine.specs.Hearing.{Audience, Heard, Lacks, events_of, having_told, heard_by}
use Rattle.ob_machine.proofs.Handed.{ticked_once}
use Rattle.ob_machine.proofs.Placed.{load_keeps}
use Rattle.ob_machine.proofs.Stepped.{frees, loads, stores}
use Rattle.ob_machine.proofs.Told.{events_one, told_none}

-- an event that is told stands behind the others
told_is : (e : Option StrayEvent) (s : State) (space : Space) → record (told e s) { space = space } ≡ record s { space = space; events = s.events ++ events_of e }
told_is None s space = ap (λ events. record s { space = space; events = events }) (sym (append-nil s.events))
told_is (Some e) s space = refl

loaded_is : (found : Option ℕ) (e : Option StrayEvent) (space : Space) (u : Setup) (kind : LoadKind) (a : ℕ) (s : State) → set_or_made found u kind a (record (told e s) { space = space }) ≡ set_word (record s { space = space; events = s.events ++ events_of e; cycle_place = given_place found u.cycle s.cycle_place }) a (given_word found kind u.cycle s.cycle_place)
loaded_is None None space u kind a s = ap (λ t. set_or_made None u kind a t) (told_is None s space)
loaded_is None (Some e) space u kind a s = refl
loaded_is (Some w) None space u kind a s = ap (λ t. set_word t a w) (told_is None s space)
loaded_is (Some w) (Some e) space u kind a s = refl

load_is : (x : Access) (u : Setup) (kind : LoadKind) (line a : ℕ) (s : State) → ¬ (x ≡ too_far) → load x u kind line a s ≡ set_word (record s { space = space_after_load x s.space; events = s.events ++ events_of (event_of x line act.Load (bytes_of_kind kind)); cycle_place = given_place (found_word x kind s.space) u.cycle s.cycle_place }) a (given_word (found_word x kind s.space) kind u.cycle s.cycle_place)
load_is too_far u kind line a s near = absurd (near refl)
load_is (direct address) u kind line a s near =
    let x = direct address in loaded_is (found_word x kind s.space) (event_of x line act.Load (bytes_of_kind kind)) (space_after_load x s.space) u kind a s
load_is (own object offset address) u kind line a s near =
    let x = own object offset address in loaded_is (found_word x kind s.space) (event_of x line act.Load (bytes_of_kind kind)) (space_after_load x s.space) u kind a s
load_is (outside object offset) u kind line a s near =
    let x = outside object offset in loaded_is (found_word x kind s.space) (event_of x line act.Load (bytes_of_kind kind)) (space_after_load x s.space) u kind a s
load_is (vanishing object offset) u kind line a s near =
    let x = vanishing object offset in loaded_is (found_word x kind s.space) (event_of x line act.Load (bytes_of_kind kind)) (space_after_load x s.space) u kind a s

store_is : (x : Access) (u : Setup) (kind : LoadKind) (line w : ℕ) (s : State) → ¬ (x ≡ too_far) → store x u kind line w s ≡ goes (on (record s { space = space_after_store x u.settings.store kind w s.space; events = s.events ++ events_of (event_of x line act.Store (bytes_of_kind kind)) }))
store_is too_far u kind line w s near = absurd (near refl)
store_is (direct address) u kind line w s near = ap (λ t. goes (on t)) (told_is None s (space_after_store (direct address) u.settings.store kind w s.space))
store_is (own object offset address) u kind line w s near = refl
store_is (outside object offset) u kind line w s near = refl
store_is (vanishing object offset) u kind line w s near = refl

-- ---- the words that name the place of an access

module _ (e : Execution) (h h' : Audience) (kind : LoadKind) (line b c w : ℕ) (d : ℤ) (w_is : w ≡ frame_word e.space.space b) (d_is : d ≡ number Long (frame_word e.space.space c)) where
  abbrev x : Access
  x = access_of e.space w d kind

  same_access : access_of e.space (frame_word e.space.space b) (number Long (frame_word e.space.space c)) kind ≡ x
  same_access = λ i. access_of e.space (sym w_is i) (sym d_is i) kind

  pub load_heard : (f : Execution) (new : Loaded) (a value : ℕ) → ¬ (x ≡ too_far) → value ≡ given_word (found e.space w d kind) kind h.cycle h.place → h'.place ≡ given_place (found e.space w d kind) h.cycle h.place → h'.cycle ≡ h.cycle → h'.seen ≡ watches_after (load_event e.space w d kind line) h.seen → new ≡ after_load e.space w d kind → ((r : Beside) → set_word (state_of (record e { space = new }) r) a value ≡ goes (state_of f r)) → Heard (loads kind line a b c) None e f h h'
  load_heard f new a value near value_is place cycle seen space set =
      let told = events_of (load_event e.space w d kind line) in
      record {
        told = told;
        hears = record { cycle = cycle; seen = seen ∙ events_one (load_event e.space w d kind line) h.seen };
        same = λ image input_end r.
            let u = setup image e.space.settings h.cycle input_end in
            let s = heard_by e h r in
            ap (λ y. load y u kind line a s) same_access
            ∙ load_is x u kind line a s near
            ∙ (λ i. set_word (record s { space = (sym space i).space; events = r.events ++ told; cycle_place = sym place i }) a (sym value_is i))
            ∙ set (having_told told h'.place r);
      }

  pub load_far : (new : Loaded) (a : ℕ) → x ≡ too_far → h'.place ≡ h.place → h'.cycle ≡ h.cycle → h'.seen ≡ watches_after (load_event e.space w d kind line) h.seen → new ≡ after_load e.space w d kind → Heard (loads kind line a b c) (Some Far) e (record e { space = new }) h h'
  load_far new a far place cycle seen space =
      let none : load_event e.space w d kind line ≡ None = ap (λ y. event_of y line act.Load (bytes_of_kind kind)) far in
      let kept : new.space ≡ e.space.space = ap (λ s. s.space) space ∙ ap (λ y. space_after_load y e.space.space) far in
      record {
        told = [];
        hears = record { cycle = cycle; seen = seen ∙ ap (λ o. watches_after o h.seen) none ∙ told_none h.seen };
        same = λ image input_end r.
            let u = setup image e.space.settings h.cycle input_end in
            let s = heard_by e h r in
            ap (λ y. load y u kind line a s) (same_access ∙ far)
            ∙ (λ i. stops Far (record s { space = sym kept i; events = sym (append-nil r.events) i; cycle_place = sym place i }));
      }

  pub store_heard : (new : Loaded) (a value : ℕ) → value ≡ frame_word e.space.space a → ¬ (x ≡ too_far) → h'.place ≡ h.place → h'.cycle ≡ h.cycle → h'.seen ≡ watches_after (store_event e.space w d kind line) h.seen → new ≡ after_store e.space w d kind value → Heard (stores kind line a b c) None e (record e { space = new; counter = e.counter + 1 }) h h'
  store_heard new a value value_is near place cycle seen space =
      let told = events_of (store_event e.space w d kind line) in
      record {
        told = told;
        hears = record { cycle = cycle; seen = seen ∙ events_one (store_event e.space w d kind line) h.seen };
        same = λ image input_end r.
            let u = setup image e.space.settings h.cycle input_end in
            let s = heard_by e h r in
            (λ i. store (same_access i) u kind line (sym value_is i) s)
            ∙ store_is x u kind line value s near
            ∙ (λ i. goes (on (record s { space = (sym space i).space; events = r.events ++ told; cycle_place = sym place i })));
      }

  pub store_far : (new : Loaded) (a : ℕ) → x ≡ too_far → h'.place ≡ h.place → h'.cycle ≡ h.cycle → h'.seen ≡ watches_after (store_event e.space w d kind line) h.seen → new ≡ e.space → Heard (stores kind line a b c) (Some Far) e (record e { space = new }) h h'
  store_far new a far place cycle seen space =
      let none : store_event e.space w d kind line ≡ None = ap (λ y. event_of y line act.Store (bytes_of_kind kind)) far in
      record {
        told = [];
        hears = record { cycle = cycle; seen = seen ∙ ap (λ o. watches_after o h.seen) none ∙ told_none h.seen };
        same = λ image input_end r.
            let u = setup image e.space.settings h.cycle input_end in
            let s = heard_by e h r in
            ap (λ y. store y u kind line (frame_word e.space.space a) s) (same_access ∙ far)
            ∙ (λ i. stops Far (record s { space = (sym space i).space; events = sym (append-nil r.events) i; cycle_place = sym place i }));
      }

  -- a store outside of its object is told, and goes on in the definition
  record IsTold (y : Access) : Type 0 where
    event : StrayEvent
    is_event : event_of y line act.Store (bytes_of_kind kind) ≡ Some event
    is_store : event.act ≡ act.Store
    near : ¬ (y ≡ too_far)

  unlisted_told : (y : Access) → IsUnlisted y e.space → IsTold y
  unlisted_told too_far unlisted = absurd unlisted
  unlisted_told (direct address) unlisted = absurd unlisted
  unlisted_told (own object offset address) unlisted = absurd unlisted
  unlisted_told (outside object offset) unlisted =
      record { event = stray_event line act.Store object offset (bytes_of_kind kind); is_event = refl; is_store = refl; near = λ far. cc }
  unlisted_told (vanishing object offset) unlisted = absurd unlisted

  pub store_lacks : (f : Execution) (a value : ℕ) → value ≡ frame_word e.space.space a → NeedsMemory e.space w d kind → h'.cycle ≡ h.cycle → h'.seen ≡ watches_after (store_event e.space w d kind line) h.seen → f.instructions ≡ e.instructions → Lacks (stores kind line a b c) e f h h'
  store_lacks f a value value_is needs cycle seen instructions =
      let t = unlisted_told x needs.unlisted in
      record {
        event = t.event;
        is_store = t.is_store;
        boundless = needs.boundless;
        hears = record { cycle = cycle; seen = seen ∙ ap (λ o. watches_after o h.seen) t.is_event };
        instructions = instructions;
        goes_on = λ image input_end r.
            let u = setup image e.space.settings h.cycle input_end in
            let s = heard_by e h r in
            record {
              next = on (record s { space = space_after_store x u.settings.store kind value s.space; events = r.events ++ events_of (store_event e.space w d kind line) });
              goes_on = (λ i. store (same_access i) u kind line (sym value_is i) s) ∙ store_is x u kind line value s t.near;
              output = refl;
              events = ap (λ o. r.events ++ events_of o) t.is_event;
              instructions = refl;
            };
      }

-- ---- free

module _ (e : Execution) (h h' : Audience) (line b w : ℕ) (w_is : w ≡ frame_word e.space.space b) where
  pub free_heard : (new : Loaded) → ¬ (e.steps ≡ 0) → h'.place ≡ h.place → h'.cycle ≡ h.cycle → h'.seen ≡ watches_after (free_event (freeing_of e.space w) line) h.seen → new ≡ after_free e.space w → Heard (frees line b) None e (record e { space = new; counter = e.counter + 1; steps = e.steps - 1 }) h h'
  free_heard new some place cycle seen space =
      let event = free_event (freeing_of e.space w) line in
      record {
        told = events_of event;
        hears = record { cycle = cycle; seen = seen ∙ events_one event h.seen };
        same = λ image input_end r.
            let profile = e.space.settings.profile in
            let s = heard_by e h r in
            let t : State = record s { steps = e.steps - 1 } in
            ticked_once e.steps s (λ t. free profile (freeing (resolve t.space (frame_word t.space b))) line t) some
            ∙ (λ i. free profile (freeing_of e.space (sym w_is i)) line t)
            ∙ ap (λ y. goes (on y)) (told_is event t (space_after_free profile (freeing_of e.space w) e.space.space))
            ∙ (λ i. goes (on (record t { space = (sym space i).space; events = r.events ++ events_of event; cycle_place = sym place i })));
      }

-- ---- a load keeps the words of the frame

pub load_words : (old new : Loaded) (w : ℕ) (d : ℤ) (kind : LoadKind) → new ≡ after_load old w d kind → top_words new ≡ top_words old
load_words old new w d kind is =
    ap top_words is ∙ ap (λ calls. (top_function old.functions calls).words) (load_keeps (access_of old w d kind) old.space).0

-- ---- the address of a new object

pub address_some : (place : Option ℕ) (address : ℕ) → Some address ≡ option_map address_in_heap place → address ≡ place_word place
address_some None address is = cc
address_some (Some place) address is = cc

pub address_none : (place : Option ℕ) → None ≡ option_map address_in_heap place → 0 ≡ place_word place
address_none None is = refl
address_none (Some place) is = cc
