-- On a verified image the next instruction stays one of the innermost call's function, and calls return into their callers.
use Rattle.std.proofs.Common.{◌≡◌, ℕ, zero, suc, ◌+◌, ◌-◌, ◌*◌, ◌%◌, ◌≤◌, ◌<◌, Bool, true, false, cond, ℤ, pos, negsuc, ◌+ℤ◌, ◌*ℤ◌, unsigned_abs, slice_get, List, [], ◌∷◌, length, Option, Some, None, Result, Ok, Err, arith, refl, sym, subst, ap, inl, inr, ◌∙◌}
use Rattle.std.specs.Prelude.{nat_lt}
use Rattle.std.proofs.lemmas.Bool.{cases_lt}
use Rattle.std.proofs.lemmas.Option.{slice_get_within, get_or_from_slice_get}
use Rattle.ob_words.specs.declared.types.DivideByZero.{DivideByZero}
use Rattle.ob_words.specs.declared.types.IntType.TheVariants.{Int, Long}
use Rattle.ob_words.specs.Operators.{binary}
use Rattle.ob_words.specs.Words.{word, number}
use Rattle.ob_model.specs.declared.endings.Ending.TheVariants as ending
use Rattle.ob_model.specs.declared.strays.Act.TheVariants as act
use Rattle.ob_model.specs.declared.values.LoadKind.{LoadKind}
use Rattle.ob_model.specs.declared.settings.Profile.{Profile}
use Rattle.ob_model.specs.declared.settings.Profile.TheVariants as profiles
use Rattle.ob_model.specs.Accesses.{bytes_of_kind, is_far}
use Rattle.ob_model.specs.Pointers as moves
use Rattle.ob_model.specs.Descriptors.{Pair, pair_count, slot_of}
use Rattle.ob_model.specs.Heap.{place_for}
use Rattle.ob_model.specs.declared.strays.StrayEvent.{StrayEvent}
use Rattle.ob_model.specs.Endings.{InputEnd, closed, failed}
use Rattle.ob_code.specs.declared.image.Image.{Image}
use Rattle.ob_code.specs.declared.instructions.Instr.{Instr}
use Rattle.ob_code.specs.declared.instructions.Instr.TheVariants as instr
use Rattle.ob_code.proofs.CodeRanges.{code_end_cases, entry_before_end}
use Rattle.ob_code.specs.Accesses.{Access, too_far, direct, own, outside, vanishing, access, event_of, found_word, space_after_load, space_after_store}
use Rattle.ob_code.specs.Allocation.{Freeing, no_effect, own as freed, stray, free_event, freeing, allocated_at, once_freed, space_after_free}
use Rattle.ob_code.specs.Frames.{entered, function_at, is_full, left_call, with_word, with_words, words_from}
use Rattle.ob_code.specs.Machine as machine
use Rattle.ob_code.specs.Pointers as pointers
use Rattle.ob_code.specs.Rules.{AreOperandsSound, IsBelow, IsCodeOf, IsInstructionSound, IsLast, IsPlaceOf, code_end, IsVerified, instruction_at, words_of, IsWritten}
use Rattle.ob_code.specs.State.{Call, Setup, Space, State, Next, goes, stops}
use Rattle.ob_machine.specs.Progress.{AreLinked, IsInnermost, IsLink, IsPlaced}

-- the instruction at a place of a function is sound there
sound_there : (image : Image) (f at : ℕ) (i : Instr) → IsVerified image → IsCodeOf image f at → slice_get image.code at ≡ Some i → AreOperandsSound image f i × (at + 1 ≡ code_end image f → IsLast i)
sound_there image f at i v here is =
    let s : IsInstructionSound image f at = v.code.each at (slice_get_within image.code at i is) f here in
    let same : instruction_at image at ≡ i = get_or_from_slice_get image.code at i instr.Tick is in
    (subst (AreOperandsSound image f) same s.operands, λ e. subst IsLast same (s.last e))

-- what the innermost call's function asks of an instruction
abbrev pub Sound : Image → List Call → Instr → Type 0
Sound image [] i = Unit {0}
Sound image (c ∷ cs) i = AreOperandsSound image c.function i

pub sound : (image : Image) (calls : List Call) (at : ℕ) (i : Instr) → IsVerified image → IsInnermost image calls at → slice_get image.code at ≡ Some i → Sound image calls i
sound image [] at i v here is = tt
sound image (c ∷ cs) at i v here is = (sound_there image c.function at i v here is).0

next_place : (image : Image) (f at : ℕ) (i : Instr) → IsVerified image → IsCodeOf image f at → slice_get image.code at ≡ Some i → ¬ IsLast i → IsCodeOf image f (at + 1)
next_place image f at i v here is on =
    let last = (sound_there image f at i v here is).1 in
    record { is_function = here.is_function; after_entry = omega (arith, here.after_entry); before_end = by_end (omega (arith, here.before_end)) }
  where
    by_end : at + 1 ≤ code_end image f → at + 1 < code_end image f
    by_end le = elim (cases_lt (at + 1) (code_end image f)) [ inl lt ↦ lt | inr ge ↦ absurd (on ((sound_there image f at i v here is).1 (omega arith))) ]

on_place : (image : Image) (calls : List Call) (at : ℕ) (i : Instr) → IsVerified image → IsInnermost image calls at → slice_get image.code at ≡ Some i → ¬ IsLast i → IsInnermost image calls (at + 1)
on_place image [] at i v here is on = here
on_place image (c ∷ cs) at i v here is on = next_place image c.function at i v here is on

jump_place : (image : Image) (f : ℕ) (imm : ℤ) → f < length image.functions → IsPlaceOf image f imm → IsCodeOf image f (unsigned_abs imm)
jump_place image f (pos n) is place = record { is_function = is; after_entry = place.0; before_end = place.1 }
jump_place image f (negsuc n) is place = absurd place

-- the numbers of objects stay small while steps are left, since a call makes 524,288 at most
abbrev pub numbers : State → ℕ
numbers s = s.space.next + 524288 * s.steps

-- the next state is placed too
pub record Stays (image : Image) (s t : State) : Type 0 where
  pub placed : IsPlaced image t.space.calls t.counter
  pub numbered : numbers t ≤ numbers s

abbrev pub Goes : Image → State → Next → Type 0
Goes image s (goes t) = Stays image s t
Goes image s (stops e t) = Unit {0}

pub either : (image : Image) (s : State) (b : Bool) (x y : Next) → Goes image s x → Goes image s y → Goes image s (cond b x y)
either image s true x y p q = p
either image s false x y p q = q

pub ticked : (image : Image) (left : ℕ) (s : State) (k : State → Next) → s.steps ≡ left → ((n : ℕ) → s.steps ≡ suc n → Goes image s (k (record s { steps = n }))) → Goes image s (machine.ticked left s k)
ticked image zero s k e f = tt
ticked image (suc left) s k e f = f left e

set_result : (image : Image) (r : Result ℤ DivideByZero) (a : ℕ) (s : State) → ((w : ℕ) → Goes image s (machine.set_word s a w)) → Goes image s (machine.set_result r a s)
set_result image (Ok n) a s f = f (word n)
set_result image (Err e) a s f = tt

at_zero : (image : Image) (s : State) (w : ℕ) (x y : Next) → Goes image s x → Goes image s y → Goes image s (machine.at_zero w x y)
at_zero image s zero x y p q = p
at_zero image s (suc w) x y p q = q

-- writing words changes neither the calls nor the next number
with_words_calls : (s : Space) (i : ℕ) (ws : List ℕ) → (with_words s i ws).calls ≡ s.calls
with_words_calls s i [] = refl
with_words_calls s i (w ∷ ws) = with_words_calls (with_word s i w) (i + 1) ws

with_words_next : (s : Space) (i : ℕ) (ws : List ℕ) → (with_words s i ws).next ≡ s.next
with_words_next s i [] = refl
with_words_next s i (w ∷ ws) = with_words_next (with_word s i w) (i + 1) ws

-- a function's first place
entry_place : (image : Image) (f : ℕ) → IsVerified image → f < length image.functions → IsCodeOf image f (function_at image.functions f).entry
entry_place image f v is = record { is_function = is; after_entry = omega arith; before_end = entry_before_end image f v.functions is }

-- a call that is entered
pub entering : (image : Image) (s : State) (f link : ℕ) (arguments : List ℕ) (t : State) → IsVerified image → f < length image.functions → AreLinked image t.space.calls → IsLink image t.space.calls link → t.space.next + 524288 * t.steps + 524288 ≤ numbers s → Goes image s (machine.entering image f link arguments t)
entering image s f link arguments t v is linked returns room =
    either image s (is_full image.functions f t.space.calls) (stops ending.Stack t) (goes u) tt
    (record { placed = subst (λ cs. IsPlaced image cs u.counter) (sym (with_words_calls inner 2 arguments)) there; numbered = omega (arith, with_words_next inner 2 arguments, (v.functions.rows.each f is).frame.vars) })
  where
    inner : Space
    inner = entered image.functions f link t.space

    u : State
    u = record t { counter = (function_at image.functions f).entry; space = with_words inner 2 arguments }

    there : IsPlaced image inner.calls (function_at image.functions f).entry
    there = record { innermost = entry_place image f v is; linked = (returns, linked) }

landed : (image : Image) (s : State) (link w : ℕ) (cs : List Call) (t : State) → AreLinked image cs → IsLink image cs link → t.space.calls ≡ cs → numbers t ≤ numbers s → Goes image s (machine.landed image.code link w cs t)
landed image s link w [] t linked returns same room = tt
landed image s link w (d ∷ ds) t linked returns same room =
    let there : link - 1 + 1 ≡ link = omega (arith, returns.positive) in
    record {
      placed = subst (λ cs. IsPlaced image cs (link - 1 + 1)) (sym same) (record { innermost = subst (IsCodeOf image d.function) (sym there) returns.in_code; linked = linked });
      numbered = room;
    }

returned : (image : Image) (cs : List Call) (w : ℕ) (s : State) → AreLinked image cs → Goes image s (machine.returned image cs w s)
returned image [] w s linked = tt
returned image (c ∷ cs) w s linked =
    landed image s c.link w cs (record s { space = left_call image.functions c cs s.space }) linked.1 linked.0 refl (omega arith)

set_or_made : (image : Image) (s : State) (r : Option ℕ) (u : Setup) (kind : LoadKind) (a : ℕ) (t : State) → ((p w : ℕ) → Goes image s (machine.set_word (record t { cycle_place = p }) a w)) → Goes image s (machine.set_or_made r u kind a t)
set_or_made image s None u kind a t f = f _ _
set_or_made image s (Some w) u kind a t f = f t.cycle_place w

pub allocated_calls : (place : Option ℕ) (n : ℕ) (s : Space) → (allocated_at place n s).calls ≡ s.calls
allocated_calls None n s = refl
allocated_calls (Some place) n s = refl

allocated_next : (place : Option ℕ) (n : ℕ) (s : Space) → (allocated_at place n s).next ≤ s.next + 1
allocated_next None n s = omega arith
allocated_next (Some place) n s = omega arith

pub below : (count : ℕ) (imm : ℤ) → IsBelow count imm → unsigned_abs imm < count
below count (pos n) h = h
below count (negsuc n) h = absurd h

-- a function's places are places of the code
pub in_code : (image : Image) (f at : ℕ) → IsVerified image → IsCodeOf image f at → at < length image.code
in_code image f at v here =
    elim (code_end_cases image f) [
      | inl w ↦ omega (arith, w.1, here.before_end, (v.functions.rows.each (f + 1) w.0).entry.in_code)
      | inr w ↦ omega (arith, w.1, here.before_end)
    ]

-- a call's function, and its return place
call_link : (image : Image) (calls : List Call) (at a b : ℕ) (imm : ℤ) → IsVerified image → IsInnermost image calls at → slice_get image.code at ≡ Some (instr.Call a b imm) → (unsigned_abs imm < length image.functions) × IsLink image calls (at + 1)
call_link image [] at a b imm v here is = absurd here
call_link image (c ∷ cs) at a b imm v here is =
    let operands = (sound_there image c.function at (instr.Call a b imm) v here is).0 in
    let back : at + 1 - 1 ≡ at = omega arith in
    let named : machine.result_word (slice_get image.code (at + 1 - 1)) ≡ a = ap (λ k. machine.result_word (slice_get image.code k)) back ∙ ap machine.result_word is in
    let next = next_place image c.function at (instr.Call a b imm) v here is (λ x. x) in (
      below (length image.functions) imm operands.2,
      record { positive = omega arith; within = in_code image c.function (at + 1) v next; in_code = next; result = subst (IsWritten (words_of image c.function)) (sym named) operands.0 },
    )

target_place : (image : Image) (calls : List Call) (at : ℕ) (imm : ℤ) → IsInnermost image calls at → ((f : ℕ) → IsCodeOf image f at → IsPlaceOf image f imm) → IsInnermost image calls (unsigned_abs imm)
target_place image [] at imm here place = here
target_place image (c ∷ cs) at imm here place = jump_place image c.function imm here.is_function (place c.function here)

-- moving a pointer changes neither the calls nor the next number
abbrev pub KeepsCalls : Space → pointers.Shifted → Type 0
KeepsCalls s (pointers.shifted w t) = (t.calls ≡ s.calls) × (t.next ≡ s.next)
KeepsCalls s pointers.too_far = Unit {0}
KeepsCalls s pointers.no_slot = Unit {0}

either_shifted : (s : Space) (b : Bool) (x y : pointers.Shifted) → KeepsCalls s x → KeepsCalls s y → KeepsCalls s (cond b x y)
either_shifted s true x y p q = p
either_shifted s false x y p q = q

slot_keeps : (slot : Option ℕ) (away : ℕ) (p : Pair) (s : Space) → KeepsCalls s (pointers.slot_for slot away p s)
slot_keeps (Some k) away p s = (refl, refl)
slot_keeps None away p s = either_shifted s (nat_lt (pair_count s.slots) away) _ pointers.no_slot (refl, refl) tt

placed_keeps : (away base : ℕ) (m : moves.Moved) (s : Space) → KeepsCalls s (pointers.placed away base m s)
placed_keeps away base moves.stays_null s = (refl, refl)
placed_keeps away base moves.too_far s = tt
placed_keeps away base (moves.in_bounds object offset) s = (refl, refl)
placed_keeps away base (moves.out_of_bounds object offset) s = slot_keeps (slot_of s.slots (object, offset)) away (object, offset) s

pub shift_keeps : (away : ℕ) (s : Space) (w : ℕ) (d : ℤ) → KeepsCalls s (pointers.shift away s w d)
shift_keeps away s w d =
    let t = pointers.resolve s w in
    either_shifted s (is_far d) pointers.too_far _ tt (placed_keeps away (pointers.base_of t) (moves.moved_by (pointers.size_of t) (pointers.pointer_of t) d) s)

-- checked accesses and frees change neither, and telling an event moves nothing
told_counter : (e : Option StrayEvent) (s : State) → (machine.told e s).counter ≡ s.counter
told_counter None s = refl
told_counter (Some e) s = refl

told_steps : (e : Option StrayEvent) (s : State) → (machine.told e s).steps ≡ s.steps
told_steps None s = refl
told_steps (Some e) s = refl

abbrev pub SameCalls : Space → Space → Type 0
SameCalls s t = (t.calls ≡ s.calls) × (t.next ≡ s.next)

pub load_keeps : (x : Access) (s : Space) → SameCalls s (space_after_load x s)
load_keeps too_far s = (refl, refl)
load_keeps (direct address) s = (refl, refl)
load_keeps (own object offset address) s = (refl, refl)
load_keeps (outside object offset) s = (refl, refl)
load_keeps (vanishing object offset) s = (refl, refl)

pub store_keeps : (x : Access) (cap : ℕ) (kind : LoadKind) (w : ℕ) (s : Space) → SameCalls s (space_after_store x cap kind w s)
store_keeps too_far cap kind w s = (refl, refl)
store_keeps (direct address) cap kind w s = (refl, refl)
store_keeps (own object offset address) cap kind w s = (refl, refl)
store_keeps (outside object offset) cap kind w s = (refl, refl)
store_keeps (vanishing object offset) cap kind w s = (refl, refl)

once_freed_keeps : (profile : Profile) (object : ℕ) (s : Space) → SameCalls s (once_freed profile object s)
once_freed_keeps profiles.One object s = (refl, refl)
once_freed_keeps profiles.Two object s = (refl, refl)

pub free_keeps : (profile : Profile) (x : Freeing) (s : Space) → SameCalls s (space_after_free profile x s)
free_keeps profile no_effect s = (refl, refl)
free_keeps profile (freed object) s = once_freed_keeps profile object s
free_keeps profile (stray object offset) s = (refl, refl)

module _ (u : Setup) (v : IsVerified u.image) (s : State) (placed : IsPlaced u.image s.space.calls s.counter) where
  -- on to the next place
  goes_on : (i : Instr) → slice_get u.image.code s.counter ≡ Some i → ¬ IsLast i → (t : State) → t.space.calls ≡ s.space.calls → t.counter ≡ s.counter + 1 → numbers t ≤ numbers s → Stays u.image s t
  goes_on i is on t calls at room =
      let there : IsPlaced u.image s.space.calls (s.counter + 1) = record { innermost = on_place u.image s.space.calls s.counter i v placed.innermost is on; linked = placed.linked } in
      record { placed = subst (λ cs. IsPlaced u.image cs t.counter) (sym calls) (subst (λ p. IsPlaced u.image s.space.calls p) (sym at) there); numbered = room }

  goes_to : (imm : ℤ) → ((f : ℕ) → IsCodeOf u.image f s.counter → IsPlaceOf u.image f imm) → Stays u.image s (machine.jump (unsigned_abs imm) s)
  goes_to imm place =
      record { placed = record { innermost = target_place u.image s.space.calls s.counter imm placed.innermost place; linked = placed.linked }; numbered = omega arith }

  loaded : (i : Instr) → slice_get u.image.code s.counter ≡ Some i → ¬ IsLast i → (x : Access) (kind : LoadKind) (line a : ℕ) → Goes u.image s (machine.loaded x u kind line a s)
  loaded i is on x kind line a =
      let e = event_of x line act.Load (bytes_of_kind kind) in
      let keeps = load_keeps x s.space in
      set_or_made u.image s (found_word x kind s.space) u kind a (record (machine.told e s) { space = space_after_load x s.space })
      (λ p w. goes_on i is on _ keeps.0 (ap (λ k. k + 1) (told_counter e s)) (omega (arith, keeps.1, told_steps e s)))

  load : (i : Instr) → slice_get u.image.code s.counter ≡ Some i → ¬ IsLast i → (x : Access) (kind : LoadKind) (line a : ℕ) → Goes u.image s (machine.load x u kind line a s)
  load i is on too_far kind line a = tt
  load i is on x kind line a = loaded i is on x kind line a

  store : (i : Instr) → slice_get u.image.code s.counter ≡ Some i → ¬ IsLast i → (x : Access) (kind : LoadKind) (line w : ℕ) → Goes u.image s (machine.store x u kind line w s)
  store i is on too_far kind line w = tt
  store i is on x kind line w =
      let e = event_of x line act.Store (bytes_of_kind kind) in
      let keeps = store_keeps x u.settings.store kind w s.space in
      goes_on i is on _ keeps.0 (ap (λ k. k + 1) (told_counter e s)) (omega (arith, keeps.1, told_steps e s))

  set_shifted : (i : Instr) → slice_get u.image.code s.counter ≡ Some i → ¬ IsLast i → (away : ℕ) (w : ℕ) (d : ℤ) (a : ℕ) → Goes u.image s (machine.set_shifted (pointers.shift away s.space w d) a s)
  set_shifted i is on away w d a = by_answer (pointers.shift away s.space w d) (shift_keeps away s.space w d)
    where
      by_answer : (x : pointers.Shifted) → KeepsCalls s.space x → Goes u.image s (machine.set_shifted x a s)
      by_answer (pointers.shifted word space) keeps = goes_on i is on _ keeps.0 refl (omega (arith, keeps.1))
      by_answer pointers.too_far keeps = tt
      by_answer pointers.no_slot keeps = tt

  get_char : (i : Instr) → slice_get u.image.code s.counter ≡ Some i → ¬ IsLast i → (n : ℕ) → s.steps ≡ suc n → (end : InputEnd) (input : List ℕ) (a : ℕ) → Goes u.image s (machine.get_char end input a (record s { steps = n }))
  get_char i is on n e closed [] a = goes_on i is on _ refl refl (omega arith)
  get_char i is on n e failed [] a = tt
  get_char i is on n e closed (byte ∷ rest) a = goes_on i is on _ refl refl (omega arith)
  get_char i is on n e failed (byte ∷ rest) a = goes_on i is on _ refl refl (omega arith)

  allocate : (i : Instr) → slice_get u.image.code s.counter ≡ Some i → ¬ IsLast i → (n : ℕ) → s.steps ≡ suc n → (place : Option ℕ) (size a : ℕ) → Goes u.image s (machine.allocate place size a (record s { steps = n }))
  allocate i is on n e place size a =
      goes_on i is on _ (allocated_calls place size s.space) refl (omega (arith, allocated_next place size s.space))

  free : (i : Instr) → slice_get u.image.code s.counter ≡ Some i → ¬ IsLast i → (n : ℕ) → s.steps ≡ suc n → (x : Freeing) (line : ℕ) → Goes u.image s (machine.free u.settings.profile x line (record s { steps = n }))
  free i is on n e x line =
      let keeps = free_keeps u.settings.profile x s.space in
      let event = free_event x line in
      let t : State = record s { steps = n } in
      goes_on i is on _ keeps.0 (ap (λ k. k + 1) (told_counter event t)) (omega (arith, keeps.1, told_steps event t))

  slide : (i : Instr) → slice_get u.image.code s.counter ≡ Some i → ¬ IsLast i → (d : ℤ) (a : ℕ) → Goes u.image s (machine.slide d a s)
  slide i is on d a = either u.image s (is_far d) (stops ending.Far s) (machine.set_word s a (word d)) tt (goes_on i is on _ refl refl (omega arith))

  jump_zero : (imm : ℤ) (w : ℕ) → ((f : ℕ) → IsCodeOf u.image f s.counter → IsPlaceOf u.image f imm) → Stays u.image s (machine.on s) → Goes u.image s (machine.at_zero w (goes (machine.jump (unsigned_abs imm) s)) (goes (machine.on s)))
  jump_zero imm w place on = at_zero u.image s w _ _ (goes_to imm place) on

  jump_nonzero : (imm : ℤ) (w : ℕ) → ((f : ℕ) → IsCodeOf u.image f s.counter → IsPlaceOf u.image f imm) → Stays u.image s (machine.on s) → Goes u.image s (machine.at_zero w (goes (machine.on s)) (goes (machine.jump (unsigned_abs imm) s)))
  jump_nonzero imm w place on = at_zero u.image s w _ _ on (goes_to imm place)

  call : (a b : ℕ) (imm : ℤ) → slice_get u.image.code s.counter ≡ Some (instr.Call a b imm) → (n : ℕ) → s.steps ≡ suc n → Goes u.image s (machine.calling u.image (unsigned_abs imm) b (record s { steps = n }))
  call a b imm is n e =
      let t : State = record s { steps = n } in
      let l = call_link u.image s.space.calls s.counter a b imm v placed.innermost is in
      entering u.image s (unsigned_abs imm) (t.counter + 1) (words_from t.space b (function_at u.image.functions (unsigned_abs imm)).params) t v l.0 placed.linked l.1 (omega arith)

  pub act_on : (i : Instr) → slice_get u.image.code s.counter ≡ Some i → Goes u.image s (machine.act_on u (Some i) s)
  act_on instr.Tick is = ticked u.image s.steps s (λ t. goes (machine.on t)) refl (λ n e. goes_on instr.Tick is (λ x. x) _ refl refl (omega arith))
  act_on (instr.Set a imm) is = goes_on (instr.Set a imm) is (λ x. x) _ refl refl (omega arith)
  act_on (instr.Move a b) is = goes_on (instr.Move a b) is (λ x. x) _ refl refl (omega arith)
  act_on (instr.Convert kind a b) is = goes_on (instr.Convert kind a b) is (λ x. x) _ refl refl (omega arith)
  act_on (instr.Binary kind operator a b c) is =
      set_result u.image (binary operator kind (machine.get_number kind s b) (machine.right_number operator kind (machine.get s c))) a s
      (λ w. goes_on (instr.Binary kind operator a b c) is (λ x. x) _ refl refl (omega arith))
  act_on (instr.Compare kind relation a b c) is = goes_on (instr.Compare kind relation a b c) is (λ x. x) _ refl refl (omega arith)
  act_on (instr.Jump imm) is = goes_to imm (λ f here. (sound_there u.image f s.counter (instr.Jump imm) v here is).0)
  act_on (instr.JumpZero b imm) is =
      jump_zero imm (machine.get s b) (λ f here. (sound_there u.image f s.counter (instr.JumpZero b imm) v here is).0.1)
      (goes_on (instr.JumpZero b imm) is (λ x. x) _ refl refl (omega arith))
  act_on (instr.JumpNonzero b imm) is =
      jump_nonzero imm (machine.get s b) (λ f here. (sound_there u.image f s.counter (instr.JumpNonzero b imm) v here is).0.1)
      (goes_on (instr.JumpNonzero b imm) is (λ x. x) _ refl refl (omega arith))
  act_on (instr.Call a b imm) is = ticked u.image s.steps s (machine.calling u.image (unsigned_abs imm) b) refl (call a b imm is)
  act_on (instr.Return b) is = returned u.image s.space.calls (machine.get s b) s placed.linked
  act_on (instr.Static a imm) is = goes_on (instr.Static a imm) is (λ x. x) _ refl refl (omega arith)
  act_on (instr.Local a imm) is = goes_on (instr.Local a imm) is (λ x. x) _ refl refl (omega arith)
  act_on (instr.Wipe imm) is = goes_on (instr.Wipe imm) is (λ x. x) _ refl refl (omega arith)
  act_on (instr.Load kind line a b c) is =
      load (instr.Load kind line a b c) is (λ x. x) (access u.settings.mode s.space (machine.get s b) (machine.get_number Long s c) (bytes_of_kind kind)) kind line a
  act_on (instr.Store kind line a b c) is =
      store (instr.Store kind line a b c) is (λ x. x) (access u.settings.mode s.space (machine.get s b) (machine.get_number Long s c) (bytes_of_kind kind)) kind line (machine.get s a)
  act_on (instr.Slide a b c imm) is =
      slide (instr.Slide a b c imm) is (λ x. x) (machine.get_number Long s b +ℤ imm *ℤ machine.get_number Long s c) a
  act_on (instr.SlideBy a b imm) is = slide (instr.SlideBy a b imm) is (λ x. x) (machine.get_number Long s b +ℤ imm) a
  act_on (instr.Shift a b c) is = set_shifted (instr.Shift a b c) is (λ x. x) u.settings.away (machine.get s b) (machine.get_number Long s c) a
  act_on (instr.Same a b c) is = goes_on (instr.Same a b c) is (λ x. x) _ refl refl (omega arith)
  act_on (instr.Order relation a b c) is = goes_on (instr.Order relation a b c) is (λ x. x) _ refl refl (omega arith)
  act_on (instr.Difference a b c imm) is = goes_on (instr.Difference a b c imm) is (λ x. x) _ refl refl (omega arith)
  act_on (instr.GetChar a) is =
      ticked u.image s.steps s (λ t. machine.get_char u.input_end t.input a t) refl (λ n e. get_char (instr.GetChar a) is (λ x. x) n e u.input_end s.input a)
  act_on (instr.PutChar a b) is =
      ticked u.image s.steps s (λ t. machine.put_char (machine.get t b % 256) a t) refl (λ n e. goes_on (instr.PutChar a b) is (λ x. x) _ refl refl (omega arith))
  act_on (instr.Malloc a b) is =
      ticked u.image s.steps s (λ t. machine.allocate (place_for t.space.blocks u.settings.heap (machine.get t b)) (machine.get t b) a t) refl
      (λ n e. allocate (instr.Malloc a b) is (λ x. x) n e (place_for s.space.blocks u.settings.heap (machine.get s b)) (machine.get s b) a)
  act_on (instr.Calloc a b c) is =
      ticked u.image s.steps s (λ t. machine.allocate (place_for t.space.blocks u.settings.heap (machine.get t b * machine.get t c)) (machine.get t b * machine.get t c) a t) refl
      (λ n e. allocate (instr.Calloc a b c) is (λ x. x) n e (place_for s.space.blocks u.settings.heap (machine.get s b * machine.get s c)) (machine.get s b * machine.get s c) a)
  act_on (instr.Free line b) is =
      ticked u.image s.steps s (λ t. machine.free u.settings.profile (freeing (machine.target t b)) line t) refl
      (λ n e. free (instr.Free line b) is (λ x. x) n e (freeing (machine.target (record s { steps = n }) b)) line)
  act_on (instr.Exit b) is = ticked u.image s.steps s (λ t. stops (ending.Ended (number Int (machine.get t b))) t) refl (λ n e. tt)
