-- What a store writes, over the laws of memory.
use Rattle.std.proofs.Common.{◌≡◌, ◌≢◌, ℕ, ◌+◌, ◌-◌, ◌/◌, ◌%◌, ◌<◌, ◌≤◌, Bool, true, false, cond, arith, sym, subst, ◌∙◌, refl, ⊎_elim, ◌⊎◌, inl, inr}
use Rattle.std.proofs.lemmas.Bool.{cases_Bool, cases_lt, cond-false, cond-true}
use Rattle.ob_words.specs.declared.types.IntType.{IntType}
use Rattle.ob_words.specs.declared.types.IntType.TheVariants.{Char, SChar, UChar, Short, UShort, Int, UInt, Long, ULong, LLong, ULLong}
use Rattle.ob_words.specs.Types.{width}
use Rattle.ob_model.specs.declared.values.LoadKind.{LoadKind}
use Rattle.ob_model.specs.declared.values.LoadKind.TheVariants.{Num, Ptr}
use Rattle.ob_model.specs.Accesses.{bytes_of_kind}
use Rattle.ob_flat.specs.Laws.{FieldIsRead, LayoutIsKept, MarkIsRead, OtherFieldsAreKept, OtherMarksAreKept, OtherMarksAreKeptByZeros, OthersAreKeptByZeros, ZerosAreRead, ZerosHaveNoMark}
use Rattle.ob_flat.specs.Memory.{IsIn, IsLaidOut, IsWithin, Memory, field, has_mark, with_field, with_mark, with_zeros}
use Rattle.ob_code.specs.Accesses.{without_pointer, write_memory}
use Rattle.ob_space.specs.Granules.{Beside, WritesGranule, granule_start}

-- ---- the bytes of a kind

-- one, two, four or eight
pub record IsShort (n : ℕ) : Type 0 where
  pub some : 0 < n
  pub fits : (a : ℕ) → a % n ≡ 0 → a % 8 + n ≤ 8
  pub sums : (base a : ℕ) → base % 16 ≡ 0 → a % n ≡ 0 → (base + a) % n ≡ 0

short_1 : IsShort 1
short_1 = record { some = omega arith; fits = λ a h. omega arith; sums = λ base a multiple h. omega arith }

short_2 : IsShort 2
short_2 = record { some = omega arith; fits = λ a h. omega arith; sums = λ base a multiple h. omega arith }

short_4 : IsShort 4
short_4 = record { some = omega arith; fits = λ a h. omega arith; sums = λ base a multiple h. omega arith }

short_8 : IsShort 8
short_8 = record { some = omega arith; fits = λ a h. omega arith; sums = λ base a multiple h. omega arith }

short_number : (t : IntType) → IsShort (width t / 8)
short_number Char = short_1
short_number SChar = short_1
short_number UChar = short_1
short_number Short = short_2
short_number UShort = short_2
short_number Int = short_4
short_number UInt = short_4
short_number Long = short_8
short_number ULong = short_8
short_number LLong = short_8
short_number ULLong = short_8

pub short_kind : (kind : LoadKind) → IsShort (bytes_of_kind kind)
short_kind (Num t) = short_number t
short_kind Ptr = short_8

-- ---- parts of bytes that lie in memory

within_part : (start count address n other k : ℕ) → address ≤ other → other + k ≤ address + n → IsWithin start count address n → IsWithin start count other k
within_part start count address n other k least most within =
    record { begins = omega (arith, within.begins); ends = omega (arith, within.ends) }

pub part_is_in : (m : Memory) (address n other k : ℕ) → address ≤ other → other + k ≤ address + n → IsIn m address n → IsIn m other k
part_is_in m address n other k least most is =
    ⊎_elim
    (λ (h : IsWithin 4096 m.statics address n). inl (within_part 4096 m.statics address n other k least most h))
    (λ (h : IsWithin 16777216 m.stack address n ⊎ IsWithin 33554432 m.heap address n).
    inr
    (⊎_elim
    (λ (h : IsWithin 16777216 m.stack address n). inl (within_part 16777216 m.stack address n other k least most h))
    (λ (h : IsWithin 33554432 m.heap address n). inr (within_part 33554432 m.heap address n other k least most h))
    h))
    is

-- ---- the laws

pub record MemoryLaws : Type 0 where
  pub field_read : FieldIsRead
  pub field_others : OtherFieldsAreKept
  pub mark_read : MarkIsRead
  pub mark_others : OtherMarksAreKept
  pub zeros_read : ZerosAreRead
  pub zeros_unmarked : ZerosHaveNoMark
  pub zeros_others : OthersAreKeptByZeros
  pub zeros_marks : OtherMarksAreKeptByZeros
  pub layout : LayoutIsKept

-- ---- a granule without its pointer

pub record IsEmptied (m n : Memory) (a : ℕ) : Type 0 where
  pub laid_out : IsLaidOut n
  pub inside : (x k : ℕ) → IsIn m x k → IsIn n x k
  pub mark : has_mark n a ≡ false
  pub marks : (other : ℕ) → IsIn m other 1 → a / 8 ≢ other / 8 → has_mark n other ≡ has_mark m other
  pub zeros : has_mark m a ≡ true → (i : ℕ) → granule_start a ≤ i → i + 1 ≤ granule_start a + 8 → field n i 1 ≡ 0
  pub same : has_mark m a ≡ false → (i : ℕ) → field n i 1 ≡ field m i 1
  pub others : (other k : ℕ) → IsIn m other k → Beside (granule_start a) 8 other k → field n other k ≡ field m other k

beside_granule : (a other : ℕ) → a / 8 ≢ other / 8 → Beside (granule_start a) 8 other 1
beside_granule a other apart =
    ⊎_elim (λ (less : a / 8 < other / 8). inl (omega arith)) (λ (more : other / 8 ≤ a / 8). inr (omega arith)) (cases_lt (a / 8) (other / 8))

emptied_marked : (laws : MemoryLaws) (m : Memory) (a : ℕ) → IsLaidOut m → IsIn m (granule_start a) 8 → has_mark m a ≡ true → IsEmptied m (with_zeros m (granule_start a) 8) a
emptied_marked laws m a laid granule marked = record {
  laid_out = (laws.layout m (granule_start a) 8 0 false laid granule).2;
  inside = λ x k h. h;
  mark = laws.zeros_unmarked m (granule_start a) 8 a laid granule (omega arith) refl (omega arith) (omega arith);
  marks = λ other h apart. laws.zeros_marks m (granule_start a) 8 other laid granule h (omega arith) refl (beside_granule a other apart);
  zeros = λ is i least most. laws.zeros_read m (granule_start a) 8 i 1 laid granule least most;
  same = λ is i. absurd (cc);
  others = λ other k h beside. laws.zeros_others m (granule_start a) 8 other k laid granule h beside;
}

emptied_unmarked : (m : Memory) (a : ℕ) → IsLaidOut m → has_mark m a ≡ false → IsEmptied m m a
emptied_unmarked m a laid unmarked = record {
  laid_out = laid;
  inside = λ x k h. h;
  mark = unmarked;
  marks = λ other h apart. refl;
  zeros = λ is i least most. absurd (cc);
  same = λ is i. refl;
  others = λ other k h beside. refl;
}

emptied : (laws : MemoryLaws) (m : Memory) (a : ℕ) → IsLaidOut m → IsIn m (granule_start a) 8 → IsEmptied m (without_pointer m a) a
emptied laws m a laid granule =
    ⊎_elim
    (λ (marked : has_mark m a ≡ true).
    subst (λ (n : Memory). IsEmptied m n a) (sym (cond-true (has_mark m a) (with_zeros m (granule_start a) 8) m marked)) (emptied_marked laws m a laid granule marked))
    (λ (unmarked : has_mark m a ≡ false).
    subst (λ (n : Memory). IsEmptied m n a) (sym (cond-false (has_mark m a) (with_zeros m (granule_start a) 8) m unmarked)) (emptied_unmarked m a laid unmarked))
    (cases_Bool (has_mark m a))

-- ---- a store

beside_bytes : (a n other k : ℕ) → IsShort n → a % n ≡ 0 → Beside (granule_start a) 8 other k → (a + n ≤ other) ⊎ (other + k ≤ a)
beside_bytes a n other k short aligned beside =
    ⊎_elim (λ (h : granule_start a + 8 ≤ other). inl (omega (arith, short.fits a aligned))) (λ (h : other + k ≤ granule_start a). inr (omega arith)) beside

number_written : (laws : MemoryLaws) (m e : Memory) (t : IntType) (a w : ℕ) → IsEmptied m e a → IsIn m (granule_start a) 8 → a % (width t / 8) ≡ 0 → WritesGranule (Num t) a w m (with_field e a (width t / 8) w)
number_written laws m e t a w empty granule aligned =
    let n : ℕ = width t / 8 in
    let short : IsShort (width t / 8) = short_number t in
    let here : IsIn e a (width t / 8) = empty.inside a (width t / 8) (part_is_in m (granule_start a) 8 a (width t / 8) (omega arith) (omega (arith, short.fits a aligned)) granule) in
    record {
      written = laws.field_read e a (width t / 8) w empty.laid_out here;
      mark = empty.mark;
      cleared = λ i least most beside marked.
          laws.field_others e a (width t / 8) w i 1 empty.laid_out here (empty.inside i 1 (part_is_in m (granule_start a) 8 i 1 least most granule)) beside
          ∙ empty.zeros marked i least most;
      kept = λ i least most beside unmarked.
          laws.field_others e a (width t / 8) w i 1 empty.laid_out here (empty.inside i 1 (part_is_in m (granule_start a) 8 i 1 least most granule)) beside
          ∙ empty.same unmarked i;
      others = λ other k h beside.
          laws.field_others e a (width t / 8) w other k empty.laid_out here (empty.inside other k h) (beside_bytes a (width t / 8) other k short aligned beside)
          ∙ empty.others other k h beside;
      marks = λ other h apart. empty.marks other h apart;
    }

not_beside : (a i : ℕ) → a % 8 ≡ 0 → granule_start a ≤ i → i + 1 ≤ granule_start a + 8 → Beside a 8 i 1 → ⊥
not_beside a i aligned least most beside = omega arith

pointer_written : (laws : MemoryLaws) (m : Memory) (a w : ℕ) → IsLaidOut m → IsIn m (granule_start a) 8 → a % 8 ≡ 0 → WritesGranule Ptr a w m (with_mark (with_field m a 8 w) a true)
pointer_written laws m a w laid granule aligned =
    let here : IsIn m a 8 = part_is_in m (granule_start a) 8 a 8 (omega arith) (omega arith) granule in
    let byte : IsIn m a 1 = part_is_in m (granule_start a) 8 a 1 (omega arith) (omega arith) granule in
    let after : IsLaidOut (with_field m a 8 w) = (laws.layout m a 8 w true laid here).0 in
    record {
      written = laws.field_read m a 8 w laid here;
      mark = laws.mark_read (with_field m a 8 w) a true after byte;
      cleared = λ i least most beside marked. absurd (not_beside a i aligned least most beside);
      kept = λ i least most beside unmarked. absurd (not_beside a i aligned least most beside);
      others = λ other k h beside. laws.field_others m a 8 w other k laid here h (beside_bytes a 8 other k short_8 aligned beside);
      marks = λ other h apart. laws.mark_others (with_field m a 8 w) a other true after byte h apart;
    }

pub written_granule : (laws : MemoryLaws) (kind : LoadKind) (m : Memory) (a w : ℕ) → IsLaidOut m → IsIn m (granule_start a) 8 → a % bytes_of_kind kind ≡ 0 → WritesGranule kind a w m (write_memory kind m a w)
written_granule laws (Num t) m a w laid granule aligned =
    number_written laws m (without_pointer m a) t a w (emptied laws m a laid granule) granule aligned
written_granule laws Ptr m a w laid granule aligned = pointer_written laws m a w laid granule aligned

-- ---- the ranges stay

ranges_either : (b : Bool) (m n : Memory) → n.statics ≡ m.statics → n.heap ≡ m.heap → ((cond b n m).statics ≡ m.statics) × ((cond b n m).heap ≡ m.heap)
ranges_either true m n statics heap = (statics, heap)
ranges_either false m n statics heap = (refl, refl)

pub ranges_stay : (kind : LoadKind) (m : Memory) (a w : ℕ) → ((write_memory kind m a w).statics ≡ m.statics) × ((write_memory kind m a w).heap ≡ m.heap)
ranges_stay (Num t) m a w = ranges_either (has_mark m a) m (with_zeros m (granule_start a) 8) refl refl
ranges_stay Ptr m a w = (refl, refl)
