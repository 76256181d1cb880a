-- One instruction of an image, with its devices.
use Rattle.std.proofs.Common.{◌≡◌, ℕ, ◌%◌, List, Option, Some, Result, slice_get, sym, ap, subst}
use Rattle.ob_model.specs.declared.endings.Ending.{Ending}
use Rattle.ob_model.specs.declared.settings.RunSettings.{RunSettings}
use Rattle.ob_model.specs.Endings.{InputEnd}
use Rattle.ob_code.specs.declared.image.Image.{Image}
use Rattle.ob_code.specs.declared.instructions.Instr.TheVariants.{Free, GetChar, Load, PutChar, Store}
use Rattle.ob_code.specs.Machine.{act_on, free, get, get_char, get_number, load, put_char, store, target, ticked}
use Rattle.ob_code.specs.Accesses.{access}
use Rattle.ob_code.specs.Allocation.{freeing}
use Rattle.ob_model.specs.Accesses.{bytes_of_kind}
use Rattle.ob_model.specs.declared.values.LoadKind.{LoadKind}
use Rattle.ob_words.specs.declared.types.IntType.TheVariants.{Long}
use Rattle.ob_code.specs.declared.instructions.Instr.{Instr}
use Rattle.ob_code.specs.State.{Next, Setup, State}
use Rattle.ob_machine.specs.declared.execution.Execution.{Execution}
use Rattle.ob_machine.specs.declared.ports.Fault.{Fault}
use Rattle.ob_machine.specs.Exchanges.{Advances, Answers, Devices, KnowsEnd, Puts, reading}
use Rattle.ob_machine.specs.Executions.{Beside, does, setup, state_of}
use Rattle.ob_machine.specs.Hearing.{Audience, Heard, HeardOrLacks}
use Rattle.ob_machine.proofs.Exchanged.{answers_as, heard_advances, put_advances, stores_answer}

pub reads_answer : (image : Image) (settings : RunSettings) (cycle : List ℕ) (e e' f : Execution) (d d' : Devices) (a : ℕ) (answer : Result (Option Ending) Fault) → e' ≡ e → slice_get image.code e.counter ≡ Some (GetChar a) → Answers (λ input_end s. ticked s.steps s (λ t. get_char input_end t.input a t)) e' f d d' answer → Answers (does image settings cycle) e f d d' answer
reads_answer image settings cycle e e' f d d' a answer same is given =
    answers_as (λ input_end s. ticked s.steps s (λ t. get_char input_end t.input a t)) (does image settings cycle) e f d d' answer
    (λ input_end input b. ap (λ o. act_on (setup image settings cycle input_end) o (reading e d.hears.place input b)) is)
    (subst (λ x. Answers (λ input_end s. ticked s.steps s (λ t. get_char input_end t.input a t)) x f d d' answer) same given)

pub writes_answer : (image : Image) (settings : RunSettings) (cycle : List ℕ) (e e' f : Execution) (d : Devices) (pending : List ℕ) (a b : ℕ) (answer : Option Ending) → e' ≡ e → slice_get image.code e.counter ≡ Some (PutChar a b) → KnowsEnd d.unread d.left → ((r : Beside) → Puts answer d.pending pending (ticked e'.steps (state_of e' r) (λ t. put_char (get t b % 256) a t)) f r) → Advances (does image settings cycle) e f d (record d { pending = pending }) answer
writes_answer image settings cycle e e' f d pending a b answer same is knows given =
    put_advances (does image settings cycle) e f d pending answer knows
    (λ input_end r. subst (λ x. Puts answer d.pending pending x f r) (sym (ap (λ o. act_on (setup image settings cycle input_end) o (state_of e r)) is))
    (subst (λ x. Puts answer d.pending pending (ticked x.steps (state_of x r) (λ t. put_char (get t b % 256) a t)) f r) same (given r)))

-- what a load, a store and `free` do
abbrev pub loads : LoadKind → ℕ → ℕ → ℕ → ℕ → Setup → State → Next
loads kind line a b c u s = load (access u.settings.mode s.space (get s b) (get_number Long s c) (bytes_of_kind kind)) u kind line a s

abbrev pub stores : LoadKind → ℕ → ℕ → ℕ → ℕ → Setup → State → Next
stores kind line a b c u s = store (access u.settings.mode s.space (get s b) (get_number Long s c) (bytes_of_kind kind)) u kind line (get s a) s

abbrev pub frees : ℕ → ℕ → Setup → State → Next
frees line b u s = ticked s.steps s (λ t. free u.settings.profile (freeing (target t b)) line t)

module _ (image : Image) (e e' f : Execution) (d : Devices) (h : Audience) (same : e' ≡ e) (knows : KnowsEnd d.unread d.left) where
  abbrev acted : Instr → Type 0
  acted i = (input_end : InputEnd) (b : Beside) → does image e.space.settings d.hears.cycle input_end (state_of e b) ≡ act_on (setup image e.space.settings d.hears.cycle input_end) (Some i) (state_of e b)

  is_acted : (i : Instr) → slice_get image.code e.counter ≡ Some i → acted i
  is_acted i is = λ input_end b. ap (λ o. act_on (setup image e.space.settings d.hears.cycle input_end) o (state_of e b)) is

  pub load_advances : (kind : LoadKind) (line a b c : ℕ) (answer : Option Ending) → slice_get image.code e.counter ≡ Some (Load kind line a b c) → Heard (loads kind line a b c) answer e' f d.hears h → Advances (does image e.space.settings d.hears.cycle) e f d (record d { hears = h }) answer
  load_advances kind line a b c answer is heard =
      heard_advances (loads kind line a b c) (does image e.space.settings d.hears.cycle) image e f d h knows (is_acted (Load kind line a b c) is) answer (subst (λ x. Heard (loads kind line a b c) answer x f d.hears h) same heard)

  pub store_answers : (kind : LoadKind) (line a b c : ℕ) (answer : Result (Option Ending) Fault) → slice_get image.code e.counter ≡ Some (Store kind line a b c) → HeardOrLacks (stores kind line a b c) answer e' f d.hears h → Answers (does image e.space.settings d.hears.cycle) e f d (record d { hears = h }) answer
  store_answers kind line a b c answer is heard =
      stores_answer (stores kind line a b c) (does image e.space.settings d.hears.cycle) image e f d h knows (is_acted (Store kind line a b c) is) answer (subst (λ x. HeardOrLacks (stores kind line a b c) answer x f d.hears h) same heard)

  pub free_advances : (line b : ℕ) (answer : Option Ending) → slice_get image.code e.counter ≡ Some (Free line b) → Heard (frees line b) answer e' f d.hears h → Advances (does image e.space.settings d.hears.cycle) e f d (record d { hears = h }) answer
  free_advances line b answer is heard =
      heard_advances (frees line b) (does image e.space.settings d.hears.cycle) image e f d h knows (is_acted (Free line b) is) answer (subst (λ x. Heard (frees line b) answer x f d.hears h) same heard)
