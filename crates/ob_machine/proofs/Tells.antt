-- What holds of each instruction on any image: the output so far stays, the count of instructions too, and only some endings come.
use Rattle.std.proofs.Common.{◌≡◌, ℕ, zero, suc, ◌+◌, ◌*◌, ◌%◌, Bool, true, false, cond, ℤ, ◌+ℤ◌, ◌*ℤ◌, unsigned_abs, List, [], ◌∷◌, ◌++◌, Option, Some, None, Result, Ok, Err, refl, sym, ap, ◌∙◌, append_assoc}
use Rattle.std.proofs.lemmas.List.{append-nil}
use Rattle.ob_words.specs.declared.types.DivideByZero.{DivideByZero}
use Rattle.ob_words.specs.declared.types.IntType.TheVariants.{Int, Long}
use Rattle.ob_words.specs.Operators.{binary}
use Rattle.ob_words.specs.Words.{word, number}
use Rattle.ob_model.specs.declared.endings.Ending.{Ending}
use Rattle.ob_model.specs.declared.endings.Ending.TheVariants as ending
use Rattle.ob_model.specs.declared.strays.Act.TheVariants as act
use Rattle.ob_model.specs.declared.values.LoadKind.{LoadKind}
use Rattle.ob_model.specs.Accesses.{bytes_of_kind, is_far}
use Rattle.ob_model.specs.Heap.{place_for}
use Rattle.ob_model.specs.declared.strays.StrayEvent.{StrayEvent}
use Rattle.ob_model.specs.Endings.{Begins, InputEnd, closed, failed}
use Rattle.ob_code.specs.declared.image.Image.{Image}
use Rattle.ob_code.specs.declared.instructions.Instr.{Instr}
use Rattle.ob_code.specs.declared.instructions.Instr.TheVariants as instr
use Rattle.ob_code.specs.Accesses.{Access, too_far, access, event_of, found_word, space_after_load}
use Rattle.ob_model.specs.declared.settings.Profile.{Profile}
use Rattle.ob_code.specs.Allocation.{Freeing, free_event, freeing}
use Rattle.ob_code.specs.Frames.{entered, function_at, is_full, left_call, with_words, words_from}
use Rattle.ob_code.specs.Machine as machine
use Rattle.ob_code.specs.Pointers as pointers
use Rattle.ob_code.specs.State.{Call, Setup, State, Next, goes, stops}

-- the endings that an instruction gives, on an input that ends so
abbrev pub CanEnd : InputEnd → Ending → Type 0
CanEnd end (ending.Ended n) = Unit {0}
CanEnd end ending.Steps = Unit {0}
CanEnd end ending.Divide = Unit {0}
CanEnd end ending.Stack = Unit {0}
CanEnd end ending.Descriptors = Unit {0}
CanEnd end ending.Far = Unit {0}
CanEnd end ending.Spent = ⊥
CanEnd end ending.ReadFault = end ≡ failed
CanEnd end ending.WriteFault = ⊥
CanEnd end ending.NoMemory = ⊥

-- the next state has the output and the events so far, and the count
pub record IsAfter (s t : State) : Type 0 where
  pub output : Begins s.output t.output
  pub events : Begins s.events t.events
  pub instructions : t.instructions ≡ s.instructions

abbrev pub Tells : InputEnd → State → Next → Type 0
Tells end s (goes t) = IsAfter s t
Tells end s (stops e t) = CanEnd end e × IsAfter s t

-- nothing was written and told
pub quiet : (s t : State) → t.output ≡ s.output → t.events ≡ s.events → t.instructions ≡ s.instructions → IsAfter s t
quiet s t e told n = record { output = ([], e ∙ sym (append-nil s.output)); events = ([], told ∙ sym (append-nil s.events)); instructions = n }

pub either : (end : InputEnd) (s : State) (b : Bool) (x y : Next) → Tells end s x → Tells end s y → Tells end s (cond b x y)
either end s true x y p q = p
either end s false x y p q = q

pub ticked : (end : InputEnd) (left : ℕ) (s : State) (k : State → Next) → ((n : ℕ) → Tells end s (k (record s { steps = n }))) → Tells end s (machine.ticked left s k)
ticked end zero s k f = (tt, quiet s s refl refl refl)
ticked end (suc left) s k f = f left

set_result : (end : InputEnd) (r : Result ℤ DivideByZero) (a : ℕ) (s : State) → Tells end s (machine.set_result r a s)
set_result end (Ok n) a s = quiet s _ refl refl refl
set_result end (Err e) a s = (tt, quiet s s refl refl refl)

at_zero : (end : InputEnd) (s : State) (w : ℕ) (x y : Next) → Tells end s x → Tells end s y → Tells end s (machine.at_zero w x y)
at_zero end s zero x y p q = p
at_zero end s (suc w) x y p q = q

pub entering : (end : InputEnd) (s : State) (image : Image) (f link : ℕ) (arguments : List ℕ) (t : State) → IsAfter s t → Tells end s (machine.entering image f link arguments t)
entering end s image f link arguments t h =
    either end s (is_full image.functions f t.space.calls) (stops ending.Stack t)
    (goes (record t { counter = (function_at image.functions f).entry; space = with_words (entered image.functions f link t.space) 2 arguments })) (tt, h)
    (record { output = h.output; events = h.events; instructions = h.instructions })

landed : (end : InputEnd) (s : State) (code : List Instr) (link w : ℕ) (cs : List Call) (t : State) → IsAfter s t → Tells end s (machine.landed code link w cs t)
landed end s code link w [] t h = (tt, h)
landed end s code link w (c ∷ cs) t h = record { output = h.output; events = h.events; instructions = h.instructions }

returned : (end : InputEnd) (image : Image) (cs : List Call) (w : ℕ) (s : State) → Tells end s (machine.returned image cs w s)
returned end image [] w s = (tt, quiet s s refl refl refl)
returned end image (c ∷ cs) w s =
    landed end s image.code c.link w cs (record s { space = left_call image.functions c cs s.space }) (quiet s _ refl refl refl)

set_or_made : (end : InputEnd) (s : State) (r : Option ℕ) (u : Setup) (kind : LoadKind) (a : ℕ) (t : State) → IsAfter s t → Tells end s (machine.set_or_made r u kind a t)
set_or_made end s None u kind a t h = record { output = h.output; events = h.events; instructions = h.instructions }
set_or_made end s (Some w) u kind a t h = record { output = h.output; events = h.events; instructions = h.instructions }

told : (s : State) (e : Option StrayEvent) (t : State) → IsAfter s t → IsAfter s (machine.told e t)
told s None t h = h
told s (Some e) t h = record { output = h.output; events = (h.events.0 ++ e ∷ [], ap (λ es. es ++ e ∷ []) h.events.1 ∙ append_assoc s.events h.events.0 (e ∷ [])); instructions = h.instructions }

loaded : (end : InputEnd) (x : Access) (u : Setup) (kind : LoadKind) (line a : ℕ) (s : State) → Tells end s (machine.loaded x u kind line a s)
loaded end x u kind line a s =
    let h = told s (event_of x line act.Load (bytes_of_kind kind)) s (quiet s s refl refl refl) in
    set_or_made end s (found_word x kind s.space) u kind a (record (machine.told (event_of x line act.Load (bytes_of_kind kind)) s) { space = space_after_load x s.space })
    (record { output = h.output; events = h.events; instructions = h.instructions })

load : (end : InputEnd) (x : Access) (u : Setup) (kind : LoadKind) (line a : ℕ) (s : State) → Tells end s (machine.load x u kind line a s)
load end too_far u kind line a s = (tt, quiet s s refl refl refl)
load end x u kind line a s = loaded end x u kind line a s

store : (end : InputEnd) (x : Access) (u : Setup) (kind : LoadKind) (line w : ℕ) (s : State) → Tells end s (machine.store x u kind line w s)
store end too_far u kind line w s = (tt, quiet s s refl refl refl)
store end x u kind line w s =
    let h = told s (event_of x line act.Store (bytes_of_kind kind)) s (quiet s s refl refl refl) in record { output = h.output; events = h.events; instructions = h.instructions }

slide : (end : InputEnd) (d : ℤ) (a : ℕ) (s : State) → Tells end s (machine.slide d a s)
slide end d a s = either end s (is_far d) (stops ending.Far s) (machine.set_word s a (word d)) (tt, quiet s s refl refl refl) (quiet s _ refl refl refl)

set_shifted : (end : InputEnd) (x : pointers.Shifted) (a : ℕ) (s : State) → Tells end s (machine.set_shifted x a s)
set_shifted end (pointers.shifted w space) a s = quiet s _ refl refl refl
set_shifted end pointers.too_far a s = (tt, quiet s s refl refl refl)
set_shifted end pointers.no_slot a s = (tt, quiet s s refl refl refl)

get_char : (s : State) (end : InputEnd) (input : List ℕ) (a : ℕ) (t : State) → IsAfter s t → Tells end s (machine.get_char end input a t)
get_char s closed [] a t h = record { output = h.output; events = h.events; instructions = h.instructions }
get_char s failed [] a t h = (refl, h)
get_char s closed (byte ∷ rest) a t h = record { output = h.output; events = h.events; instructions = h.instructions }
get_char s failed (byte ∷ rest) a t h = record { output = h.output; events = h.events; instructions = h.instructions }

free : (end : InputEnd) (s : State) (profile : Profile) (x : Freeing) (line : ℕ) (t : State) → IsAfter s t → Tells end s (machine.free profile x line t)
free end s profile x line t h = let after = told s (free_event x line) t h in record { output = after.output; events = after.events; instructions = after.instructions }

pub act_on : (u : Setup) (i : Option Instr) (s : State) → Tells u.input_end s (machine.act_on u i s)
act_on u None s = (tt, quiet s s refl refl refl)
act_on u (Some instr.Tick) s = ticked u.input_end s.steps s (λ t. goes (machine.on t)) (λ n. quiet s _ refl refl refl)
act_on u (Some (instr.Set a imm)) s = quiet s _ refl refl refl
act_on u (Some (instr.Move a b)) s = quiet s _ refl refl refl
act_on u (Some (instr.Convert kind a b)) s = quiet s _ refl refl refl
act_on u (Some (instr.Binary kind operator a b c)) s = set_result u.input_end (binary operator kind (machine.get_number kind s b) (machine.right_number operator kind (machine.get s c))) a s
act_on u (Some (instr.Compare kind relation a b c)) s = quiet s _ refl refl refl
act_on u (Some (instr.Jump imm)) s = quiet s _ refl refl refl
act_on u (Some (instr.JumpZero b imm)) s =
    at_zero u.input_end s (machine.get s b) (goes (machine.jump (unsigned_abs imm) s)) (goes (machine.on s)) (quiet s _ refl refl refl) (quiet s _ refl refl refl)
act_on u (Some (instr.JumpNonzero b imm)) s =
    at_zero u.input_end s (machine.get s b) (goes (machine.on s)) (goes (machine.jump (unsigned_abs imm) s)) (quiet s _ refl refl refl) (quiet s _ refl refl refl)
act_on u (Some (instr.Call a b imm)) s =
    ticked u.input_end s.steps s (machine.calling u.image (unsigned_abs imm) b)
    (λ n. let t : State = record s { steps = n } in
    entering u.input_end s u.image (unsigned_abs imm) (t.counter + 1) (words_from t.space b (function_at u.image.functions (unsigned_abs imm)).params) t (quiet s _ refl refl refl))
act_on u (Some (instr.Return b)) s = returned u.input_end u.image s.space.calls (machine.get s b) s
act_on u (Some (instr.Static a imm)) s = quiet s _ refl refl refl
act_on u (Some (instr.Local a imm)) s = quiet s _ refl refl refl
act_on u (Some (instr.Wipe imm)) s = quiet s _ refl refl refl
act_on u (Some (instr.Load kind line a b c)) s =
    load u.input_end (access u.settings.mode s.space (machine.get s b) (machine.get_number Long s c) (bytes_of_kind kind)) u kind line a s
act_on u (Some (instr.Store kind line a b c)) s =
    store u.input_end (access u.settings.mode s.space (machine.get s b) (machine.get_number Long s c) (bytes_of_kind kind)) u kind line (machine.get s a) s
act_on u (Some (instr.Slide a b c imm)) s = slide u.input_end (machine.get_number Long s b +ℤ imm *ℤ machine.get_number Long s c) a s
act_on u (Some (instr.SlideBy a b imm)) s = slide u.input_end (machine.get_number Long s b +ℤ imm) a s
act_on u (Some (instr.Shift a b c)) s = set_shifted u.input_end (pointers.shift u.settings.away s.space (machine.get s b) (machine.get_number Long s c)) a s
act_on u (Some (instr.Same a b c)) s = quiet s _ refl refl refl
act_on u (Some (instr.Order relation a b c)) s = quiet s _ refl refl refl
act_on u (Some (instr.Difference a b c imm)) s = quiet s _ refl refl refl
act_on u (Some (instr.GetChar a)) s =
    ticked u.input_end s.steps s (λ t. machine.get_char u.input_end t.input a t)
    (λ n. get_char s u.input_end s.input a (record s { steps = n }) (quiet s _ refl refl refl))
act_on u (Some (instr.PutChar a b)) s =
    ticked u.input_end s.steps s (λ t. machine.put_char (machine.get t b % 256) a t)
    (λ n. record { output = (machine.get s b % 256 ∷ [], refl); events = ([], sym (append-nil s.events)); instructions = refl })
act_on u (Some (instr.Malloc a b)) s =
    ticked u.input_end s.steps s (λ t. machine.allocate (place_for t.space.blocks u.settings.heap (machine.get t b)) (machine.get t b) a t) (λ n. quiet s _ refl refl refl)
act_on u (Some (instr.Calloc a b c)) s =
    ticked u.input_end s.steps s (λ t. machine.allocate (place_for t.space.blocks u.settings.heap (machine.get t b * machine.get t c)) (machine.get t b * machine.get t c) a t) (λ n. quiet s _ refl refl refl)
act_on u (Some (instr.Free line b)) s =
    ticked u.input_end s.steps s (λ t. machine.free u.settings.profile (freeing (machine.target t b)) line t)
    (λ n. let t : State = record s { steps = n } in free u.input_end s u.settings.profile (freeing (machine.target t b)) line t (quiet s _ refl refl refl))
act_on u (Some (instr.Exit b)) s =
    ticked u.input_end s.steps s (λ t. stops (ending.Ended (number Int (machine.get t b))) t) (λ n. (tt, quiet s _ refl refl refl))
