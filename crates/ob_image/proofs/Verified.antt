-- A verified image keeps what the format asks beyond the types of its fields. So it has a spelling in version 2.
use Rattle.std.proofs.Common.{◌≡◌, ℕ, zero, suc, ◌+◌, ◌-◌, ◌<◌, ◌≤◌, List, [], ◌∷◌, ◌++◌, length, take, get_or, refl, sym, ap, subst, arith, inl, inr}
use Rattle.std.specs.Prelude.{◌⊎◌, slice_index_or}
use Rattle.std.proofs.lemmas.Option.{slice_get_cases, slice_get-get_or}
use Rattle.std.specs.List.{AllByRecursion}
use Rattle.std.proofs.lemmas.Bool.{cases_lt}
use Rattle.std.proofs.Math.Seq.{take-suc}
use Rattle.ob_code.specs.declared.image.FunctionRow.{FunctionRow}
use Rattle.ob_code.specs.declared.image.Image.{Image}
use Rattle.ob_code.specs.declared.instructions.Instr.{Instr}
use Rattle.ob_code.specs.declared.instructions.Instr.TheVariants.{Tick, Set, Move, Convert, Binary, Compare, Jump, JumpZero, JumpNonzero, Call, Return, Static, Local, Wipe, Load, Store, Slide, SlideBy, Shift, Same, Order, Difference, GetChar, PutChar, Malloc, Calloc, Free, Exit}
use Rattle.ob_code.specs.Frames.{no_function}
use Rattle.ob_code.specs.Rules.{IsVerified, AreFunctionsSound, IsFrameSound, IsCodeOf, AreOperandsSound, IsNameRowSound, code_end, entry_or, instruction_at, local_at, no_static, no_name}
use Rattle.ob_image.specs.Layout.{any_word, IsInstruction}
use Rattle.ob_image.specs.declared.layout.Version.TheVariants.{Two}
use Rattle.ob_image.specs.Rules.{StaticRule, FunctionRule, InstructionRule, NameRule, NoRule, IsTyped}
use Rattle.ob_image.specs.Spelling.{IsStatic, IsPointer, IsFunction, IsNameRow, IsImage}

-- ---- rows

all_rows : {A : Type 0} (P : A → Type 0) (d : A) (xs : List A) → ((i : ℕ) → i < length xs → P (slice_index_or xs i d)) → AllByRecursion P xs
all_rows P d [] h = tt
all_rows P d (x ∷ xs) h = (h 0 (omega arith), all_rows P d xs (λ i lt. h (suc i) (omega arith)))

by_rule : {A : Type 0} (Rule Row : A → Type 0) (xs : List A) → AllByRecursion (IsTyped Rule Row) xs → AllByRecursion Rule xs → AllByRecursion Row xs
by_rule Rule Row [] typed rule = tt
by_rule Rule Row (x ∷ xs) typed rule = (typed.0 rule.0, by_rule Rule Row xs typed.1 rule.1)

pub by_no_rule : {A : Type 0} (Row : A → Type 0) (xs : List A) → AllByRecursion (IsTyped NoRule Row) xs → AllByRecursion Row xs
by_no_rule Row [] typed = tt
by_no_rule Row (x ∷ xs) typed = (typed.0 tt, by_no_rule Row xs typed.1)

all_append : {A : Type 0} (P : A → Type 0) (xs ys : List A) → AllByRecursion P xs → AllByRecursion P ys → AllByRecursion P (xs ++ ys)
all_append P [] ys h k = k
all_append P (x ∷ xs) ys h k = (h.0, all_append P xs ys h.1 k)

pub one_more : {A : Type 0} (P : A → Type 0) (xs : List A) (i : ℕ) (d : A) → i < length xs → AllByRecursion P (take i xs) → P (get_or xs i d) → AllByRecursion P (take (i + 1) xs)
one_more P xs i d lt h last =
    let next : suc i ≡ i + 1 = omega arith in
    subst (λ (n : ℕ). AllByRecursion P (take n xs)) next (subst (AllByRecursion P) (sym (take-suc xs i d lt)) (all_append P (take i xs) (get_or xs i d ∷ []) h (last, tt)))

-- ---- static objects and functions

abbrev row_at : Image → ℕ → FunctionRow
row_at image f = slice_index_or image.functions f no_function

static_rules : (image : Image) → IsVerified image → AllByRecursion StaticRule image.statics
static_rules image v = all_rows StaticRule no_static image.statics (λ i lt. let s = v.statics.each i lt in (omega (arith, s.given, s.size), s.last))

-- ordinals increase, so that there are no more local objects than variables
ordinal_least : (f : FunctionRow) → IsFrameSound f → (j : ℕ) → j < length f.locals → j ≤ (local_at f j).ordinal
ordinal_least f sound zero lt = omega arith
ordinal_least f sound (suc j) lt =
    let before : j ≤ (local_at f j).ordinal = ordinal_least f sound j (omega arith) in
    let same : suc j - 1 ≡ j = omega arith in
    let rises : (local_at f j).ordinal < (local_at f (suc j)).ordinal = subst (λ (k : ℕ). (local_at f k).ordinal < (local_at f (suc j)).ordinal) same ((sound.locals (suc j) lt).ordinals (omega arith)) in
    omega (arith, before, rises)

locals_most : (f : FunctionRow) → IsFrameSound f → FunctionRule f
locals_most f sound =
    elim (cases_lt 0 (length f.locals)) [
      | inl some ↦
          let last : length f.locals - 1 < length f.locals = omega arith in
          omega (arith, ordinal_least f sound (length f.locals - 1) last, (sound.locals (length f.locals - 1) last).ordinal, sound.vars)
      | inr none ↦ omega arith
    ]

function_rules : (image : Image) → IsVerified image → AllByRecursion FunctionRule image.functions
function_rules image v = all_rows FunctionRule no_function image.functions (λ i lt. locals_most (row_at image i) (v.functions.rows.each i lt).frame)

-- ---- code

-- the code of a function ends at the next entry, or with the code
code_end_cases : (image : Image) (f : ℕ) → ((f + 1 < length image.functions) × (code_end image f ≡ (row_at image (f + 1)).entry)) ⊎ ((length image.functions ≤ f + 1) × (code_end image f ≡ length image.code))
code_end_cases image f =
    elim (slice_get_cases image.functions (f + 1)).1 [
      | inl w ↦ inl (w.1, ap (λ o. entry_or o (length image.code)) (slice_get-get_or image.functions (f + 1) no_function w.1))
      | inr w ↦ inr (w.0, ap (λ o. entry_or o (length image.code)) w.1)
    ]

-- each place of the code is one of some function
record Holder (image : Image) (i : ℕ) : Type 0 where
  function : ℕ
  holds : IsCodeOf image function i

holder_from : (image : Image) (i : ℕ) → i < length image.code → (more f : ℕ) → f + suc more ≡ length image.functions → (row_at image f).entry ≤ i → Holder image i
holder_from image i lt zero f e after =
    elim (code_end_cases image f) [
      | inl w ↦ absurd (omega (arith, w.0))
      | inr w ↦ record { function = f; holds = record { is_function = omega arith; after_entry = after; before_end = omega (arith, w.1) } }
    ]
holder_from image i lt (suc more) f e after =
    elim (code_end_cases image f) [
      | inl w ↦
          elim (cases_lt i (row_at image (f + 1)).entry) [
            | inl before ↦ record { function = f; holds = record { is_function = omega arith; after_entry = after; before_end = omega (arith, w.1) } }
            | inr behind ↦ holder_from image i lt more (f + 1) (omega arith) behind
          ]
      | inr w ↦ absurd (omega (arith, w.0))
    ]

holder : (image : Image) → AreFunctionsSound image → (i : ℕ) → i < length image.code → Holder image i
holder image sound i lt =
    let first : (row_at image 0).entry ≡ 0 = (sound.rows.each 0 sound.some).entry.first refl in
    holder_from image i lt (length image.functions - 1) 0 (omega (arith, sound.some)) (omega (arith, first))

ordering : (image : Image) (f : ℕ) (i : Instr) → AreOperandsSound image f i → InstructionRule i
ordering image f (Order relation a b c) sound = sound.3
ordering image f Tick sound = tt
ordering image f (Set a imm) sound = tt
ordering image f (Move a b) sound = tt
ordering image f (Convert kind a b) sound = tt
ordering image f (Binary kind operator a b c) sound = tt
ordering image f (Compare kind relation a b c) sound = tt
ordering image f (Jump imm) sound = tt
ordering image f (JumpZero b imm) sound = tt
ordering image f (JumpNonzero b imm) sound = tt
ordering image f (Call a b imm) sound = tt
ordering image f (Return b) sound = tt
ordering image f (Static a imm) sound = tt
ordering image f (Local a imm) sound = tt
ordering image f (Wipe imm) sound = tt
ordering image f (Load kind line a b c) sound = tt
ordering image f (Store kind line a b c) sound = tt
ordering image f (Slide a b c imm) sound = tt
ordering image f (SlideBy a b imm) sound = tt
ordering image f (Shift a b c) sound = tt
ordering image f (Same a b c) sound = tt
ordering image f (Difference a b c imm) sound = tt
ordering image f (GetChar a) sound = tt
ordering image f (PutChar a b) sound = tt
ordering image f (Malloc a b) sound = tt
ordering image f (Calloc a b c) sound = tt
ordering image f (Free line b) sound = tt
ordering image f (Exit b) sound = tt

code_rules : (image : Image) → IsVerified image → AllByRecursion InstructionRule image.code
code_rules image v =
    all_rows InstructionRule Tick image.code (λ i lt.
    let h = holder image v.functions i lt in ordering image h.function (instruction_at image i) (v.code.each i lt h.function h.holds).operands)

-- ---- names

-- a name is at most as long as `verify` says, and so its length is a number of four bytes
name_rule : (image : Image) (i : ℕ) → IsNameRowSound image i → NameRule (slice_index_or image.names i no_name)
name_rule image i s = (s.kind, omega (arith, s.text.short), s.text.name)

name_rules : (image : Image) → IsVerified image → AllByRecursion NameRule image.names
name_rules image v = all_rows NameRule no_name image.names (λ i lt. name_rule image i (v.names.each i lt))

-- ---- the whole image

pub has_spelling : (image : Image) → AllByRecursion (IsTyped StaticRule IsStatic) image.statics → AllByRecursion (IsTyped NoRule IsPointer) image.pointers
    → AllByRecursion (IsTyped FunctionRule IsFunction) image.functions → image.main ≤ any_word → AllByRecursion (IsTyped InstructionRule IsInstruction) image.code
    → AllByRecursion (IsTyped NameRule IsNameRow) image.names → IsVerified image → IsImage Two image
has_spelling image statics pointers functions main code names v = record {
  profile = tt;
  statics = record { most = v.statics.most; each = by_rule StaticRule IsStatic image.statics statics (static_rules image v) };
  pointers = record { most = v.pointers.most; each = by_no_rule IsPointer image.pointers pointers };
  functions = record { most = v.functions.rows.most; each = by_rule FunctionRule IsFunction image.functions functions (function_rules image v) };
  main = main;
  code = record { most = v.code.most; each = by_rule InstructionRule IsInstruction image.code code (code_rules image v) };
  names = record { most = v.names.most; each = by_rule NameRule IsNameRow image.names names (name_rules image v) };
}
