-- No instruction changes the count of instructions, and none ends a run for having done too many, by a write's fault or for want
-- of memory. So a run of at most n of them counts n more at most, and exactly n where it ends with Spent.
use Rattle.std.proofs.Common.{◌≡◌, ◌≢◌, ℕ, zero, suc, ◌+◌, ◌*◌, ◌%◌, ◌≤◌, Bool, true, false, cond, ℤ, ◌+ℤ◌, ◌*ℤ◌, unsigned_abs, slice_get, List, [], ◌∷◌, length, Option, Some, None, Result, Ok, Err, arith, refl, ◌∙◌}
use Rattle.ob_words.specs.declared.types.DivideByZero.{DivideByZero}
use Rattle.ob_words.specs.declared.types.IntType.TheVariants.{Int, Long}
use Rattle.ob_words.specs.Operators.{binary}
use Rattle.ob_words.specs.Words.{word, number}
use Rattle.ob_model.specs.declared.endings.Ending.TheVariants.{Ended, Stack, Far, Spent}
use Rattle.ob_model.specs.declared.settings.Profile.{Profile}
use Rattle.ob_model.specs.declared.strays.Act.TheVariants as act
use Rattle.ob_model.specs.declared.strays.StrayEvent.{StrayEvent}
use Rattle.ob_model.specs.declared.values.LoadKind.{LoadKind}
use Rattle.ob_model.specs.Accesses.{bytes_of_kind, is_far}
use Rattle.ob_model.specs.Heap.{place_for}
use Rattle.ob_model.specs.Endings.{InputEnd, closed, failed}
use Rattle.ob_code.specs.declared.image.Image.{Image}
use Rattle.ob_code.specs.declared.instructions.Instr.{Instr}
use Rattle.ob_code.specs.declared.instructions.Instr.TheVariants as instr
use Rattle.ob_code.specs.Allocation.{Freeing, freeing, free_event}
use Rattle.ob_code.specs.Accesses.{Access, too_far, access, event_of, found_word, space_after_load}
use Rattle.ob_code.specs.Frames.{entered, function_at, is_full, left_call, with_words, words_from}
use Rattle.ob_code.specs.Machine as machine
use Rattle.ob_code.specs.Laws.{MayEnd}
use Rattle.ob_code.specs.Pointers as pointers
use Rattle.ob_code.specs.Start.{run_from, most_instructions, started, fresh}
use Rattle.ob_code.specs.State.{Call, Setup, Space, State, Next, goes, stops, Final}

-- the state that follows counts n instructions; where the run ends there, it ends as one may and isn't spent
Counts : InputEnd → ℕ → Next → Type 0
Counts i n (goes t) = t.instructions ≡ n
Counts i n (stops e t) = (t.instructions ≡ n) × MayEnd i e × (e ≢ Spent)

either : (i : InputEnd) (n : ℕ) (b : Bool) (x y : Next) → Counts i n x → Counts i n y → Counts i n (cond b x y)
either i n true x y p q = p
either i n false x y p q = q

ticked : (i : InputEnd) (n left : ℕ) (s : State) (k : State → Next) → s.instructions ≡ n → ((t : State) → t.instructions ≡ n → Counts i n (k t)) → Counts i n (machine.ticked left s k)
unfolding Counts
ticked i n zero s k e f = (e, tt, λ h. absurd (cc))
ticked i n (suc left) s k e f = f (record s { steps = left }) e

set_result : (i : InputEnd) (r : Result ℤ DivideByZero) (a : ℕ) (s : State) → Counts i s.instructions (machine.set_result r a s)
unfolding Counts
set_result i (Ok n) a s = refl
set_result i (Err e) a s = (refl, tt, λ h. absurd (cc))

at_zero : (i : InputEnd) (n w : ℕ) (x y : Next) → Counts i n x → Counts i n y → Counts i n (machine.at_zero w x y)
at_zero i n zero x y p q = p
at_zero i n (suc w) x y p q = q

entering : (i : InputEnd) (n : ℕ) (image : Image) (f link : ℕ) (arguments : List ℕ) (s : State) → s.instructions ≡ n → Counts i n (machine.entering image f link arguments s)
unfolding Counts either
entering i n image f link arguments s e =
    either i n (is_full image.functions f s.space.calls) (stops Stack s)
    (goes (record s { counter = (function_at image.functions f).entry; space = with_words (entered image.functions f link s.space) 2 arguments })) (e, tt, λ h. absurd (cc)) e

landed : (i : InputEnd) (n : ℕ) (code : List Instr) (link w : ℕ) (cs : List Call) (s : State) → s.instructions ≡ n → Counts i n (machine.landed code link w cs s)
unfolding Counts
landed i n code link w [] s e = (e, tt, λ h. absurd (cc))
landed i n code link w (c ∷ cs) s e = e

returned : (i : InputEnd) (image : Image) (cs : List Call) (w : ℕ) (s : State) → Counts i s.instructions (machine.returned image cs w s)
unfolding Counts landed
returned i image [] w s = (refl, tt, λ h. absurd (cc))
returned i image (c ∷ cs) w s = landed i s.instructions image.code c.link w cs (record s { space = left_call image.functions c cs s.space }) refl

set_or_made : (i : InputEnd) (n : ℕ) (r : Option ℕ) (u : Setup) (kind : LoadKind) (a : ℕ) (s : State) → s.instructions ≡ n → Counts i n (machine.set_or_made r u kind a s)
unfolding Counts
set_or_made i n None u kind a s e = e
set_or_made i n (Some w) u kind a s e = e

told : (e : Option StrayEvent) (s : State) → (machine.told e s).instructions ≡ s.instructions
told None s = refl
told (Some e) s = refl

loaded : (i : InputEnd) (x : Access) (u : Setup) (kind : LoadKind) (line a : ℕ) (s : State) → Counts i s.instructions (machine.loaded x u kind line a s)
loaded i x u kind line a s =
    let e = event_of x line act.Load (bytes_of_kind kind) in
    set_or_made i s.instructions (found_word x kind s.space) u kind a (record (machine.told e s) { space = space_after_load x s.space }) (told e s)

load : (i : InputEnd) (x : Access) (u : Setup) (kind : LoadKind) (line a : ℕ) (s : State) → Counts i s.instructions (machine.load x u kind line a s)
unfolding Counts loaded
load i too_far u kind line a s = (refl, tt, λ h. absurd (cc))
load i x u kind line a s = loaded i x u kind line a s

store : (i : InputEnd) (x : Access) (u : Setup) (kind : LoadKind) (line w : ℕ) (s : State) → Counts i s.instructions (machine.store x u kind line w s)
unfolding Counts
store i too_far u kind line w s = (refl, tt, λ h. absurd (cc))
store i x u kind line w s = told (event_of x line act.Store (bytes_of_kind kind)) s

slide : (i : InputEnd) (d : ℤ) (a : ℕ) (s : State) → Counts i s.instructions (machine.slide d a s)
unfolding Counts either
slide i d a s = either i s.instructions (is_far d) (stops Far s) (machine.set_word s a (word d)) (refl, tt, λ h. absurd (cc)) refl

set_shifted : (i : InputEnd) (x : pointers.Shifted) (a : ℕ) (s : State) → Counts i s.instructions (machine.set_shifted x a s)
unfolding Counts
set_shifted i (pointers.shifted w space) a s = refl
set_shifted i pointers.too_far a s = (refl, tt, λ h. absurd (cc))
set_shifted i pointers.no_slot a s = (refl, tt, λ h. absurd (cc))

get_char : (n : ℕ) (end : InputEnd) (input : List ℕ) (a : ℕ) (s : State) → s.instructions ≡ n → Counts end n (machine.get_char end input a s)
unfolding Counts
get_char n closed [] a s e = e
get_char n failed [] a s e = (e, refl, λ h. absurd (cc))
get_char n closed (byte ∷ rest) a s e = e
get_char n failed (byte ∷ rest) a s e = e

free : (i : InputEnd) (n : ℕ) (p : Profile) (x : Freeing) (line : ℕ) (s : State) → s.instructions ≡ n → Counts i n (machine.free p x line s)
unfolding Counts
free i n p x line s e = told (free_event x line) s ∙ e

act_on : (u : Setup) (i : Option Instr) (s : State) → Counts u.input_end s.instructions (machine.act_on u i s)
unfolding Counts
act_on u None s = (refl, tt, λ h. absurd (cc))
act_on u (Some instr.Tick) s = ticked u.input_end s.instructions s.steps s (λ t. goes (machine.on t)) refl (λ t e. e)
act_on u (Some (instr.Set a imm)) s = refl
act_on u (Some (instr.Move a b)) s = refl
act_on u (Some (instr.Convert kind a b)) s = refl
act_on u (Some (instr.Binary kind operator a b c)) s = set_result u.input_end (binary operator kind (machine.get_number kind s b) (machine.right_number operator kind (machine.get s c))) a s
act_on u (Some (instr.Compare kind relation a b c)) s = refl
act_on u (Some (instr.Jump imm)) s = refl
act_on u (Some (instr.JumpZero b imm)) s = at_zero u.input_end s.instructions (machine.get s b) (goes (machine.jump (unsigned_abs imm) s)) (goes (machine.on s)) refl refl
act_on u (Some (instr.JumpNonzero b imm)) s =
    at_zero u.input_end s.instructions (machine.get s b) (goes (machine.on s)) (goes (machine.jump (unsigned_abs imm) s)) refl refl
act_on u (Some (instr.Call a b imm)) s = ticked u.input_end s.instructions s.steps s (machine.calling u.image (unsigned_abs imm) b) refl
    (λ t e. entering u.input_end s.instructions u.image (unsigned_abs imm) (t.counter + 1) (words_from t.space b (function_at u.image.functions (unsigned_abs imm)).params) t e)
act_on u (Some (instr.Return b)) s = returned u.input_end u.image s.space.calls (machine.get s b) s
act_on u (Some (instr.Static a imm)) s = refl
act_on u (Some (instr.Local a imm)) s = refl
act_on u (Some (instr.Wipe imm)) s = refl
act_on u (Some (instr.Load kind line a b c)) s = load u.input_end (access u.settings.mode s.space (machine.get s b) (machine.get_number Long s c) (bytes_of_kind kind)) u kind line a s
act_on u (Some (instr.Store kind line a b c)) s = store u.input_end (access u.settings.mode s.space (machine.get s b) (machine.get_number Long s c) (bytes_of_kind kind)) u kind line (machine.get s a) s
act_on u (Some (instr.Slide a b c imm)) s = slide u.input_end (machine.get_number Long s b +ℤ imm *ℤ machine.get_number Long s c) a s
act_on u (Some (instr.SlideBy a b imm)) s = slide u.input_end (machine.get_number Long s b +ℤ imm) a s
act_on u (Some (instr.Shift a b c)) s = set_shifted u.input_end (pointers.shift u.settings.away s.space (machine.get s b) (machine.get_number Long s c)) a s
act_on u (Some (instr.Same a b c)) s = refl
act_on u (Some (instr.Order relation a b c)) s = refl
act_on u (Some (instr.Difference a b c imm)) s = refl
act_on u (Some (instr.GetChar a)) s = ticked u.input_end s.instructions s.steps s (λ t. machine.get_char u.input_end t.input a t) refl (λ t e. get_char s.instructions u.input_end t.input a t e)
act_on u (Some (instr.PutChar a b)) s = ticked u.input_end s.instructions s.steps s (λ t. machine.put_char (machine.get t b % 256) a t) refl (λ t e. e)
act_on u (Some (instr.Malloc a b)) s =
    ticked u.input_end s.instructions s.steps s (λ t. machine.allocate (place_for t.space.blocks u.settings.heap (machine.get t b)) (machine.get t b) a t) refl (λ t e. e)
act_on u (Some (instr.Calloc a b c)) s =
    ticked u.input_end s.instructions s.steps s (λ t. machine.allocate (place_for t.space.blocks u.settings.heap (machine.get t b * machine.get t c)) (machine.get t b * machine.get t c) a t) refl (λ t e. e)
act_on u (Some (instr.Free line b)) s = ticked u.input_end s.instructions s.steps s (λ t. machine.free u.settings.profile (freeing (machine.target t b)) line t) refl
    (λ t e. free u.input_end s.instructions u.settings.profile (freeing (machine.target t b)) line t e)
act_on u (Some (instr.Exit b)) s = ticked u.input_end s.instructions s.steps s (λ t. stops (Ended (number Int (machine.get t b))) t) refl (λ t e. (e, tt, λ h. absurd (cc)))

-- a run of at most n instructions, and a run after something that counts none
after : (i : InputEnd) (m n : ℕ) (x : Next) (k : State → Final) → Counts i m x → ((t : State) → (k t).state.instructions ≤ t.instructions + n) → (machine.after x k).state.instructions ≤ m + n
unfolding Counts
after i m n (goes t) k e f = omega (arith, e, f t)
after i m n (stops e t) k h f = omega (arith, h.0)

runs : (u : Setup) (n : ℕ) (s : State) → (machine.runs u n s).state.instructions ≤ s.instructions + n
runs u zero s = omega arith
runs u (suc n) s =
    omega (arith, after u.input_end (s.instructions + 1) n (machine.step u s) (machine.runs u n) (act_on u (slice_get u.image.code s.counter) (machine.counted s)) (runs u n))

-- the same where the run is spent
IsFull : ℕ → Final → Type 0
IsFull n f = f.ending ≡ Spent → f.state.instructions ≡ n

after_spent : (i : InputEnd) (m n : ℕ) (x : Next) (k : State → Final) → Counts i m x → ((t : State) → IsFull (t.instructions + n) (k t)) → IsFull (m + n) (machine.after x k)
unfolding Counts IsFull
after_spent i m n (goes t) k e f = λ spent. omega (arith, e, f t spent)
after_spent i m n (stops e t) k h f = λ spent. absurd (h.2 spent)

runs_spent : (u : Setup) (n : ℕ) (s : State) → IsFull (s.instructions + n) (machine.runs u n s)
unfolding IsFull
runs_spent u zero s = λ spent. omega arith
runs_spent u (suc n) s =
    λ spent. omega (arith, after_spent u.input_end (s.instructions + 1) n (machine.step u s) (machine.runs u n) (act_on u (slice_get u.image.code s.counter) (machine.counted s)) (runs_spent u n) spent)

starts : (u : Setup) (space : Space) (place : ℕ) (input : List ℕ) (steps : ℕ) → Counts u.input_end 0 (started u.image (fresh space place input steps))
starts u space place input steps =
    ticked u.input_end 0 steps (fresh space place input steps) (λ t. machine.entering u.image u.image.main (length u.image.code) [] t) refl
    (λ t e. entering u.input_end 0 u.image u.image.main (length u.image.code) [] t e)

pub bounded : (u : Setup) (space : Space) (place : ℕ) (input : List ℕ) (steps : ℕ) → (run_from u space place input steps).state.instructions ≤ most_instructions u.image steps
bounded u space place input steps =
    omega (arith, after u.input_end 0 (most_instructions u.image steps) (started u.image (fresh space place input steps)) (machine.runs u (most_instructions u.image steps)) (starts u space place input steps) (runs u (most_instructions u.image steps)))

pub spent_is_exact : (u : Setup) (space : Space) (place : ℕ) (input : List ℕ) (steps : ℕ) → (run_from u space place input steps).ending ≡ Spent → (run_from u space place input steps).state.instructions ≡ most_instructions u.image steps
unfolding IsFull
spent_is_exact u space place input steps =
    λ spent. omega (arith, after_spent u.input_end 0 (most_instructions u.image steps) (started u.image (fresh space place input steps)) (machine.runs u (most_instructions u.image steps)) (starts u space place input steps) (runs_spent u (most_instructions u.image steps)) spent)

-- a run ends as it may
after_ends : (i : InputEnd) (m : ℕ) (x : Next) (k : State → Final) → Counts i m x → ((t : State) → MayEnd i (k t).ending) → MayEnd i (machine.after x k).ending
unfolding Counts
after_ends i m (goes t) k e f = f t
after_ends i m (stops e t) k h f = h.1

runs_end : (u : Setup) (n : ℕ) (s : State) → MayEnd u.input_end (machine.runs u n s).ending
runs_end u zero s = tt
runs_end u (suc n) s =
    after_ends u.input_end (s.instructions + 1) (machine.step u s) (machine.runs u n) (act_on u (slice_get u.image.code s.counter) (machine.counted s)) (runs_end u n)

pub may_end : (u : Setup) (space : Space) (place : ℕ) (input : List ℕ) (steps : ℕ) → MayEnd u.input_end (run_from u space place input steps).ending
may_end u space place input steps =
    after_ends u.input_end 0 (started u.image (fresh space place input steps)) (machine.runs u (most_instructions u.image steps)) (starts u space place input steps) (runs_end u (most_instructions u.image steps))
