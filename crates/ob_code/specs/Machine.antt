-- What each instruction does, and a run of instructions. `a` is the word that is written; `b` and `c` are words that are read.
-- Where an instruction may end the run for want of a step and in another way, the step is tested first.
use Rattle.std.specs.Prelude.{ℕ, zero, suc, ◌+◌, ◌-◌, ◌*◌, ◌%◌, ◌^◌, Bool, true, false, ◌==◌, ℤ, pos, ◌+ℤ◌, ◌*ℤ◌, unsigned_abs, List, [], ◌∷◌, ◌++◌, Option, Some, None, Result, Ok, Err, slice_get, if◌then◌else◌}
use Rattle.ob_words.specs.declared.types.BinOp.{BinOp}
use Rattle.ob_words.specs.declared.types.BinOp.TheVariants.{Shl, Shr}
use Rattle.ob_words.specs.declared.types.DivideByZero.{DivideByZero}
use Rattle.ob_words.specs.declared.types.IntType.{IntType}
use Rattle.ob_words.specs.declared.types.IntType.TheVariants.{Int, Long}
use Rattle.ob_words.specs.Operators.{binary, compare}
use Rattle.ob_words.specs.Words.{word, number}
use Rattle.ob_model.specs.declared.settings.Profile.{Profile}
use Rattle.ob_model.specs.declared.endings.Ending.TheVariants.{Ended, Steps, Divide, Stack, Descriptors, Far, Spent, ReadFault}
use Rattle.ob_model.specs.declared.strays.StrayEvent.{StrayEvent}
use Rattle.ob_model.specs.declared.strays.Act.TheVariants as act
use Rattle.ob_model.specs.declared.values.LoadKind.{LoadKind}
use Rattle.ob_model.specs.Accesses.{bytes_of_kind, is_far}
use Rattle.ob_model.specs.Endings.{InputEnd, closed, failed}
use Rattle.ob_model.specs.Heap.{place_for}
use Rattle.ob_model.specs.Manufactured.{place_after}
use Rattle.ob_model.specs.Pointers.{pointers_compare, difference}
use Rattle.ob_model.specs.declared.values.Value.{Value}
use Rattle.ob_code.specs.declared.image.Image.{Image}
use Rattle.ob_code.specs.declared.instructions.Instr.{Instr}
use Rattle.ob_code.specs.declared.instructions.Instr.TheVariants.{Tick, Set, Move, Convert, Binary, Compare, Jump, JumpZero, JumpNonzero, Call, Return, Static, Local, Wipe, Load, Store, Slide, SlideBy, Shift, Same, Order, Difference, GetChar, PutChar, Malloc, Calloc, Free, Exit}
use Rattle.ob_code.specs.Allocation.{Freeing, allocated_at, place_word, freeing, free_event, space_after_free}
use Rattle.ob_code.specs.Accesses.{Access, too_far, access, event_of, found_word, space_after_load, space_after_store, made_word}
use Rattle.ob_code.specs.Frames.{function_at, frame_word, with_word, words_from, with_words, is_full, entered, left_call}
use Rattle.ob_code.specs.Layout.{static_base, local_base, wiped}
use Rattle.ob_code.specs.Pointers as pointers
use Rattle.ob_code.specs.State as states
use Rattle.ob_code.specs.State.{Setup, Space, State, Next, goes, stops, Final}

-- ---- steps and places

-- on to the next instruction, and to another place
abbrev pub on : State → State
on s = record s { counter = s.counter + 1 }

abbrev pub jump : ℕ → State → State
jump to s = record s { counter = to }

-- a step is taken, where one is left
abbrev pub ticked : ℕ → State → (State → Next) → Next
ticked zero s k = stops Steps s
ticked (suc n) s k = k (record s { steps = n })

-- ---- words of the frame

abbrev pub get : State → ℕ → ℕ
get s i = frame_word s.space i

abbrev pub set_word : State → ℕ → ℕ → Next
set_word s a w = goes (on (record s { space = with_word s.space a w }))

abbrev pub flag : Bool → ℕ
flag true = 1
flag false = 0

-- a word as a number of a type
abbrev pub get_number : IntType → State → ℕ → ℤ
get_number t s i = number t (get s i)

-- ---- numbers

-- a shift counts its whole right word, modulo the width
abbrev pub right_number : BinOp → IntType → ℕ → ℤ
right_number Shl t w = pos w
right_number Shr t w = pos w
right_number _ t w = number t w

abbrev pub set_result : Result ℤ DivideByZero → ℕ → State → Next
set_result (Ok n) a s = set_word s a (word n)
set_result (Err e) a s = stops Divide s

-- ---- jumps

abbrev pub at_zero : ℕ → Next → Next → Next
at_zero zero here there = here
at_zero (suc n) here there = there

-- ---- calls

-- main has no arguments; another call's are the words from one on
abbrev pub entering : Image → ℕ → ℕ → List ℕ → State → Next
entering image f link arguments s =
    if is_full image.functions f s.space.calls then stops Stack s
    else goes (record s { counter = (function_at image.functions f).entry; space = with_words (entered image.functions f link s.space) 2 arguments })

abbrev pub calling : Image → ℕ → ℕ → State → Next
calling image f b s = entering image f (s.counter + 1) (words_from s.space b (function_at image.functions f).params) s

-- the result goes to the word that the call before the return place names; when `main` returns, the run ends
abbrev pub result_word : Option Instr → ℕ
result_word (Some (Call a b imm)) = a
result_word _ = 0

abbrev pub landed : List Instr → ℕ → ℕ → List states.Call → State → Next
landed code link w [] s = stops (Ended (number Int w)) s
landed code link w (c ∷ cs) s = set_word (jump (link - 1) s) (result_word (slice_get code (link - 1))) w

abbrev pub returned : Image → List states.Call → ℕ → State → Next
returned image [] w s = stops (Ended (number Int w)) s
returned image (c ∷ cs) w s = landed image.code c.link w cs (record s { space = left_call image.functions c cs s.space })

-- ---- accesses

abbrev pub told : Option StrayEvent → State → State
told None s = s
told (Some e) s = record s { events = s.events ++ e ∷ [] }

-- a load takes the next manufactured value
abbrev pub set_made : Setup → LoadKind → ℕ → State → Next
set_made u kind a s =
    set_word (record s { cycle_place = place_after u.cycle s.cycle_place }) a (made_word kind u.cycle s.cycle_place)

abbrev pub set_or_made : Option ℕ → Setup → LoadKind → ℕ → State → Next
set_or_made None u kind a s = set_made u kind a s
set_or_made (Some w) u kind a s = set_word s a w

abbrev pub loaded : Access → Setup → LoadKind → ℕ → ℕ → State → Next
loaded x u kind line a s =
    set_or_made (found_word x kind s.space) u kind a
    (record (told (event_of x line act.Load (bytes_of_kind kind)) s) { space = space_after_load x s.space })

abbrev pub load : Access → Setup → LoadKind → ℕ → ℕ → State → Next
load too_far u kind line a s = stops Far s
load x u kind line a s = loaded x u kind line a s

abbrev pub stored : Access → Setup → LoadKind → ℕ → ℕ → State → State
stored x u kind line w s =
    record (told (event_of x line act.Store (bytes_of_kind kind)) s) { space = space_after_store x u.settings.store kind w s.space }

abbrev pub store : Access → Setup → LoadKind → ℕ → ℕ → State → Next
store too_far u kind line w s = stops Far s
store x u kind line w s = goes (on (stored x u kind line w s))

-- ---- pointers

-- a displacement is an exact number, and ends the run where it is too far
abbrev pub slide : ℤ → ℕ → State → Next
slide d a s = if is_far d then stops Far s else set_word s a (word d)

abbrev pub set_shifted : pointers.Shifted → ℕ → State → Next
set_shifted (pointers.shifted w space) a s = set_word (record s { space = space }) a w
set_shifted pointers.too_far a s = stops Far s
set_shifted pointers.no_slot a s = stops Descriptors s

abbrev pub target : State → ℕ → pointers.Target
target s i = pointers.resolve s.space (get s i)

abbrev pub pointer_in : State → ℕ → Value
pointer_in s i = pointers.pointer_of (target s i)

-- ---- input and output

-- a source gives bytes alone, but the list may be any: each of its numbers counts modulo 256
abbrev pub get_char : InputEnd → List ℕ → ℕ → State → Next
get_char closed [] a s = set_word s a (2 ^ 64 - 1)
get_char failed [] a s = stops ReadFault s
get_char end (byte ∷ rest) a s = set_word (record s { input = rest }) a (byte % 256)

abbrev pub put_char : ℕ → ℕ → State → Next
put_char byte a s = set_word (record s { output = s.output ++ byte ∷ [] }) a byte

-- ---- the heap

abbrev pub allocate : Option ℕ → ℕ → ℕ → State → Next
allocate place n a s = set_word (record s { space = allocated_at place n s.space }) a (place_word place)

abbrev pub free : Profile → Freeing → ℕ → State → Next
free profile x line s = goes (on (record (told (free_event x line) s) { space = space_after_free profile x s.space }))

-- ---- the instructions; outside the code a run ends

abbrev pub act_on : Setup → Option Instr → State → Next
act_on u None s = stops (Ended (pos 0)) s
-- takes one step
act_on u (Some Tick) s = ticked s.steps s (λ t. goes (on t))
-- a becomes a number
act_on u (Some (Set a imm)) s = set_word s a (word imm)
-- a becomes b
act_on u (Some (Move a b)) s = set_word s a (get s b)
-- a becomes b as a number of the type
act_on u (Some (Convert kind a b)) s = set_word s a (word (get_number kind s b))
-- a becomes `b operator c` in the type; a division by zero ends the run
act_on u (Some (Binary kind operator a b c)) s =
    set_result (binary operator kind (get_number kind s b) (right_number operator kind (get s c))) a s
-- a becomes 1 where the numbers b and c stand in the relation, else 0
act_on u (Some (Compare kind relation a b c)) s =
    set_word s a (flag (compare relation (get_number kind s b) (get_number kind s c)))
-- goes to a place: always, where b is 0, where b is not 0
act_on u (Some (Jump imm)) s = goes (jump (unsigned_abs imm) s)
act_on u (Some (JumpZero b imm)) s = at_zero (get s b) (goes (jump (unsigned_abs imm) s)) (goes (on s))
act_on u (Some (JumpNonzero b imm)) s = at_zero (get s b) (goes (on s)) (goes (jump (unsigned_abs imm) s))
-- takes a step, and calls a function with the words from b on; its result goes to a
act_on u (Some (Call a b imm)) s = ticked s.steps s (λ t. calling u.image (unsigned_abs imm) b t)
-- gives b to the caller; from `main` the run ends with it
act_on u (Some (Return b)) s = returned u.image s.space.calls (get s b) s
-- a becomes the base of a static object, and of a local one
act_on u (Some (Static a imm)) s = set_word s a (static_base u.image.statics (unsigned_abs imm))
act_on u (Some (Local a imm)) s = set_word s a (local_base u.image.functions s.space (unsigned_abs imm))
-- the granules of a local object become zero bytes
act_on u (Some (Wipe imm)) s = goes (on (record s { space = wiped u.image.functions (unsigned_abs imm) s.space }))
-- a becomes what a checked load gives through b, displaced by the `long` c; a checked store writes a there
act_on u (Some (Load kind line a b c)) s =
    load (access u.settings.mode s.space (get s b) (get_number Long s c) (bytes_of_kind kind)) u kind line a s
act_on u (Some (Store kind line a b c)) s =
    store (access u.settings.mode s.space (get s b) (get_number Long s c) (bytes_of_kind kind)) u kind line (get s a) s
-- a becomes the displacement b plus a size times c, or plus a member's offset
act_on u (Some (Slide a b c imm)) s = slide (get_number Long s b +ℤ imm *ℤ get_number Long s c) a s
act_on u (Some (SlideBy a b imm)) s = slide (get_number Long s b +ℤ imm) a s
-- a becomes the pointer b moved by c
act_on u (Some (Shift a b c)) s =
    set_shifted (pointers.shift u.settings.away s.space (get s b) (get_number Long s c)) a s
-- a becomes 1 where the words b and c are equal, else 0
act_on u (Some (Same a b c)) s = set_word s a (flag (get s b == get s c))
-- a becomes 1 where the pointers b and c stand in the relation, else 0; or how many elements lie between them
act_on u (Some (Order relation a b c)) s = set_word s a (flag (pointers_compare relation (pointer_in s b) (pointer_in s c)))
act_on u (Some (Difference a b c imm)) s = set_word s a (word (difference (unsigned_abs imm) (pointer_in s b) (pointer_in s c)))
-- takes a step; a becomes the next byte of the input, or -1 at its end
act_on u (Some (GetChar a)) s = ticked s.steps s (λ t. get_char u.input_end t.input a t)
-- takes a step, writes the low byte of b, and puts it into a
act_on u (Some (PutChar a b)) s = ticked s.steps s (λ t. put_char (get t b % 256) a t)
-- takes a step; a becomes the address of a new object of b bytes, or of b times c bytes, or 0
act_on u (Some (Malloc a b)) s =
    ticked s.steps s (λ t. allocate (place_for t.space.blocks u.settings.heap (get t b)) (get t b) a t)
act_on u (Some (Calloc a b c)) s =
    ticked s.steps s (λ t. allocate (place_for t.space.blocks u.settings.heap (get t b * get t c)) (get t b * get t c) a t)
-- takes a step, and frees what b points to
act_on u (Some (Free line b)) s = ticked s.steps s (λ t. free u.settings.profile (freeing (target t b)) line t)
-- takes a step, and ends the run with the `int` of b
act_on u (Some (Exit b)) s = ticked s.steps s (λ t. stops (Ended (number Int (get t b))) t)

-- ---- runs

-- one instruction, which counts once it is begun
abbrev pub counted : State → State
counted s = record s { instructions = s.instructions + 1 }

abbrev pub step : Setup → State → Next
step u s = act_on u (slice_get u.image.code s.counter) (counted s)

abbrev pub after : Next → (State → Final) → Final
after (goes s) k = k s
after (stops e s) k = record { ending = e; state = s }

-- at most n instructions
abbrev pub runs : Setup → ℕ → State → Final
runs u zero s = record { ending = Spent; state = s }
runs u (suc n) s = after (step u s) (runs u n)
