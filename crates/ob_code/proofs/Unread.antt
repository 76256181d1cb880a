-- No instruction reads the profile or the names of an image.
use Rattle.std.proofs.Common.{◌≡◌, ℕ, zero, suc, List, Option, Some, None, slice_get, refl, ap, ◌∙◌}
use Rattle.ob_words.specs.declared.types.IntType.TheVariants.{Long}
use Rattle.ob_model.specs.declared.settings.Profile.{Profile}
use Rattle.ob_model.specs.declared.strays.Act.TheVariants as act
use Rattle.ob_model.specs.declared.values.LoadKind.{LoadKind}
use Rattle.ob_model.specs.Accesses.{bytes_of_kind}
use Rattle.ob_code.specs.declared.image.NameRow.{NameRow}
use Rattle.ob_code.specs.declared.instructions.Instr.{Instr}
use Rattle.ob_code.specs.declared.instructions.Instr.TheVariants as instr
use Rattle.ob_code.specs.Accesses.{Access, too_far, direct, own, outside, vanishing, access, event_of, found_word, space_after_load}
use Rattle.ob_code.specs.Machine as machine
use Rattle.ob_code.specs.Start.{run_from, most_instructions, started, fresh}
use Rattle.ob_code.specs.State.{Setup, Space, State, Next, goes, stops, Final}

abbrev pub with_names : Profile → List NameRow → Setup → Setup
with_names p names u = record u { image = record u.image { profile = p; names = names } }

made_alike : (p : Profile) (names : List NameRow) (u : Setup) (found : Option ℕ) (kind : LoadKind) (a : ℕ) (s : State) → machine.set_or_made found (with_names p names u) kind a s ≡ machine.set_or_made found u kind a s
made_alike p names u None kind a s = refl
made_alike p names u (Some w) kind a s = refl

loaded_alike : (p : Profile) (names : List NameRow) (u : Setup) (x : Access) (kind : LoadKind) (line a : ℕ) (s : State) → machine.loaded x (with_names p names u) kind line a s ≡ machine.loaded x u kind line a s
loaded_alike p names u x kind line a s =
    made_alike p names u (found_word x kind s.space) kind a
    (record (machine.told (event_of x line act.Load (bytes_of_kind kind)) s) { space = space_after_load x s.space })

load_alike : (p : Profile) (names : List NameRow) (u : Setup) (x : Access) (kind : LoadKind) (line a : ℕ) (s : State) → machine.load x (with_names p names u) kind line a s ≡ machine.load x u kind line a s
load_alike p names u too_far kind line a s = refl
load_alike p names u (direct address) kind line a s = loaded_alike p names u (direct address) kind line a s
load_alike p names u (own object offset address) kind line a s = loaded_alike p names u (own object offset address) kind line a s
load_alike p names u (outside object offset) kind line a s = loaded_alike p names u (outside object offset) kind line a s
load_alike p names u (vanishing object offset) kind line a s = loaded_alike p names u (vanishing object offset) kind line a s

store_alike : (p : Profile) (names : List NameRow) (u : Setup) (x : Access) (kind : LoadKind) (line w : ℕ) (s : State) → machine.store x (with_names p names u) kind line w s ≡ machine.store x u kind line w s
store_alike p names u too_far kind line w s = refl
store_alike p names u (direct address) kind line w s = refl
store_alike p names u (own object offset address) kind line w s = refl
store_alike p names u (outside object offset) kind line w s = refl
store_alike p names u (vanishing object offset) kind line w s = refl

acts_alike : (p : Profile) (names : List NameRow) (u : Setup) (i : Option Instr) (s : State) → machine.act_on (with_names p names u) i s ≡ machine.act_on u i s
acts_alike p names u None s = refl
acts_alike p names u (Some instr.Tick) s = refl
acts_alike p names u (Some (instr.Set a imm)) s = refl
acts_alike p names u (Some (instr.Move a b)) s = refl
acts_alike p names u (Some (instr.Convert kind a b)) s = refl
acts_alike p names u (Some (instr.Binary kind operator a b c)) s = refl
acts_alike p names u (Some (instr.Compare kind relation a b c)) s = refl
acts_alike p names u (Some (instr.Jump imm)) s = refl
acts_alike p names u (Some (instr.JumpZero b imm)) s = refl
acts_alike p names u (Some (instr.JumpNonzero b imm)) s = refl
acts_alike p names u (Some (instr.Call a b imm)) s = refl
acts_alike p names u (Some (instr.Return b)) s = refl
acts_alike p names u (Some (instr.Static a imm)) s = refl
acts_alike p names u (Some (instr.Local a imm)) s = refl
acts_alike p names u (Some (instr.Wipe imm)) s = refl
acts_alike p names u (Some (instr.Load kind line a b c)) s = load_alike p names u (access u.settings.mode s.space (machine.get s b) (machine.get_number Long s c) (bytes_of_kind kind)) kind line a s
acts_alike p names u (Some (instr.Store kind line a b c)) s = store_alike p names u (access u.settings.mode s.space (machine.get s b) (machine.get_number Long s c) (bytes_of_kind kind)) kind line (machine.get s a) s
acts_alike p names u (Some (instr.Slide a b c imm)) s = refl
acts_alike p names u (Some (instr.SlideBy a b imm)) s = refl
acts_alike p names u (Some (instr.Shift a b c)) s = refl
acts_alike p names u (Some (instr.Same a b c)) s = refl
acts_alike p names u (Some (instr.Order relation a b c)) s = refl
acts_alike p names u (Some (instr.Difference a b c imm)) s = refl
acts_alike p names u (Some (instr.GetChar a)) s = refl
acts_alike p names u (Some (instr.PutChar a b)) s = refl
acts_alike p names u (Some (instr.Malloc a b)) s = refl
acts_alike p names u (Some (instr.Calloc a b c)) s = refl
acts_alike p names u (Some (instr.Free line b)) s = refl
acts_alike p names u (Some (instr.Exit b)) s = refl

after_alike : (x : Next) (k l : State → Final) → ((s : State) → k s ≡ l s) → machine.after x k ≡ machine.after x l
after_alike (goes s) k l same = same s
after_alike (stops e s) k l same = refl

runs_alike : (p : Profile) (names : List NameRow) (u : Setup) (n : ℕ) (s : State) → machine.runs (with_names p names u) n s ≡ machine.runs u n s
runs_alike p names u zero s = refl
runs_alike p names u (suc n) s =
    ap (λ (x : Next). machine.after x (machine.runs (with_names p names u) n)) (acts_alike p names u (slice_get u.image.code s.counter) (machine.counted s))
    ∙ after_alike (machine.step u s) (machine.runs (with_names p names u) n) (machine.runs u n) (runs_alike p names u n)

pub alike : (p : Profile) (names : List NameRow) (u : Setup) (space : Space) (place : ℕ) (input : List ℕ) (steps : ℕ) → run_from (with_names p names u) space place input steps ≡ run_from u space place input steps
alike p names u space place input steps =
    after_alike (started u.image (fresh space place input steps)) (machine.runs (with_names p names u) (most_instructions u.image steps)) (machine.runs u (most_instructions u.image steps)) (runs_alike p names u (most_instructions u.image steps))
