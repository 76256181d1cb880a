-- What loads and stores by kind, and zero bytes, leave as it was. The laws of memory come in as premises.
use Rattle.std.proofs.Common.{◌≡◌, ℕ, ◌+◌, ◌-◌, ◌/◌, ◌%◌, ◌≤◌, ◌⊎◌, Bool, true, false, if◌then◌else◌, arith, inl, inr, refl, ◌∙◌}
use Rattle.ob_words.specs.declared.types.IntType.{IntType}
use Rattle.ob_words.specs.declared.types.IntType.TheVariants.{Char, SChar, UChar, Short, UShort, Int, UInt, Long, ULong, LLong, ULLong}
use Rattle.ob_words.specs.Types.{width}
use Rattle.ob_model.specs.declared.values.LoadKind.{LoadKind}
use Rattle.ob_model.specs.declared.values.LoadKind.TheVariants.{Num, Ptr}
use Rattle.ob_model.specs.Accesses.{bytes_of_kind}
use Rattle.ob_flat.specs.Laws.{OtherFieldsAreKept, OthersAreKeptByZeros, LayoutIsKept}
use Rattle.ob_flat.specs.Memory.{Memory, IsIn, IsLaidOut, has_mark, with_field, with_mark, with_zeros}
use Rattle.ob_code.specs.Accesses.{without_pointer, write_memory}
use Rattle.ob_statics.specs.Held.{KeepsRanges}
use Rattle.ob_frames.specs.Writes.{KeepsOthers}

pub record Changes (old new : Memory) (address n : ℕ) : Type 0 where
  pub ranges : KeepsRanges old new
  pub others : KeepsOthers old new address n

-- ---- ranges of addresses

in_same : (a b : Memory) (address n : ℕ) → KeepsRanges a b → IsIn a address n → IsIn b address n
in_same a b address n kept (inl h) = inl (record { begins = h.begins; ends = omega (arith, h.ends, kept.statics) })
in_same a b address n kept (inr (inl h)) = inr (inl (record { begins = h.begins; ends = omega (arith, h.ends, kept.stack) }))
in_same a b address n kept (inr (inr h)) = inr (inr (record { begins = h.begins; ends = omega (arith, h.ends, kept.heap) }))

in_part : (m : Memory) (address n inner k : ℕ) → IsIn m address n → address ≤ inner → inner + k ≤ address + n → IsIn m inner k
in_part m address n inner k (inl h) low high = inl (record { begins = omega (arith, h.begins); ends = omega (arith, h.ends) })
in_part m address n inner k (inr (inl h)) low high = inr (inl (record { begins = omega (arith, h.begins); ends = omega (arith, h.ends) }))
in_part m address n inner k (inr (inr h)) low high = inr (inr (record { begins = omega (arith, h.begins); ends = omega (arith, h.ends) }))

apart_part : (address n inner k other j : ℕ) → address ≤ inner → inner + k ≤ address + n → (address + n ≤ other) ⊎ (other + j ≤ address) → (inner + k ≤ other) ⊎ (other + j ≤ inner)
apart_part address n inner k other j low high (inl h) = inl (omega arith)
apart_part address n inner k other j low high (inr h) = inr (omega arith)

-- ---- one change and the next

pub zeros_change : (m : Memory) (address n : ℕ) → OthersAreKeptByZeros → LayoutIsKept → IsLaidOut m → IsIn m address n → Changes m (with_zeros m address n) address n
zeros_change m address n zeros layout laid_out inside = record {
  ranges = record { statics = refl; stack = refl; heap = refl; laid_out = (layout m address n 0 true laid_out inside).2 };
  others = λ other k within apart. zeros m address n other k laid_out inside within apart;
}

field_change : (m : Memory) (address n w : ℕ) → OtherFieldsAreKept → LayoutIsKept → IsLaidOut m → IsIn m address n → Changes m (with_field m address n w) address n
field_change m address n w fields layout laid_out inside = record {
  ranges = record { statics = refl; stack = refl; heap = refl; laid_out = (layout m address n w true laid_out inside).0 };
  others = λ other k within apart. fields m address n w other k laid_out inside within apart;
}

mark_change : (m : Memory) (address n : ℕ) → LayoutIsKept → IsLaidOut m → IsIn m address n → Changes m (with_mark m address true) address n
mark_change m address n layout laid_out inside = record {
  ranges = record { statics = refl; stack = refl; heap = refl; laid_out = (layout m address n 0 true laid_out inside).1 };
  others = λ other k within apart. refl;
}

no_change : (m : Memory) (address n : ℕ) → IsLaidOut m → Changes m m address n
no_change m address n laid_out = record {
  ranges = record { statics = refl; stack = refl; heap = refl; laid_out = laid_out };
  others = λ other k within apart. refl;
}

widened : (old new : Memory) (address n inner k : ℕ) → address ≤ inner → inner + k ≤ address + n → Changes old new inner k → Changes old new address n
widened old new address n inner k low high change = record {
  ranges = change.ranges;
  others = λ other j within apart. change.others other j within (apart_part address n inner k other j low high apart);
}

after_change : (a b c : Memory) (address n : ℕ) → Changes a b address n → Changes b c address n → Changes a c address n
after_change a b c address n first second = record {
  ranges = record {
    statics = second.ranges.statics ∙ first.ranges.statics;
    stack = second.ranges.stack ∙ first.ranges.stack;
    heap = second.ranges.heap ∙ first.ranges.heap;
    laid_out = second.ranges.laid_out;
  };
  others = λ other k within apart. second.others other k (in_same a b other k first.ranges within) apart ∙ first.others other k within apart;
}

-- ---- a store by its kind

-- the bytes of a number lie in one granule
in_granule : (t : IntType) (address : ℕ) → address % (width t / 8) ≡ 0 → address % 8 + width t / 8 ≤ 8
in_granule Char address h = omega arith
in_granule SChar address h = omega arith
in_granule UChar address h = omega arith
in_granule Short address h = omega arith
in_granule UShort address h = omega arith
in_granule Int address h = omega arith
in_granule UInt address h = omega arith
in_granule Long address h = omega arith
in_granule ULong address h = omega arith
in_granule LLong address h = omega arith
in_granule ULLong address h = omega arith

removes_pointer : (m : Memory) (granule : ℕ) (marked : Bool) → OthersAreKeptByZeros → LayoutIsKept → IsLaidOut m → IsIn m granule 8 → Changes m (if marked then with_zeros m granule 8 else m) granule 8
removes_pointer m granule true zeros layout laid_out inside = zeros_change m granule 8 zeros layout laid_out inside
removes_pointer m granule false zeros layout laid_out inside = no_change m granule 8 laid_out

pub store_changes : (kind : LoadKind) (m : Memory) (address w : ℕ) → OtherFieldsAreKept → OthersAreKeptByZeros → LayoutIsKept → IsLaidOut m → IsIn m (address - address % 8) 8 → address % bytes_of_kind kind ≡ 0 → Changes m (write_memory kind m address w) (address - address % 8) 8
store_changes (Num t) m address w fields zeros layout laid_out inside aligned =
    let granule : ℕ = address - address % 8 in
    let small : address % 8 + width t / 8 ≤ 8 = in_granule t address aligned in
    let low : granule ≤ address = omega arith in
    let high : address + width t / 8 ≤ granule + 8 = omega (arith, small) in
    let first : Changes m (without_pointer m address) granule 8 = removes_pointer m granule (has_mark m address) zeros layout laid_out inside in
    let within : IsIn (without_pointer m address) address (width t / 8) =
    in_part (without_pointer m address) granule 8 address (width t / 8) (in_same m (without_pointer m address) granule 8 first.ranges inside) low high in
    after_change m (without_pointer m address) (with_field (without_pointer m address) address (width t / 8) w) granule 8 first
    (widened (without_pointer m address) (with_field (without_pointer m address) address (width t / 8) w) granule 8 address (width t / 8) low high
    (field_change (without_pointer m address) address (width t / 8) w fields layout first.ranges.laid_out within))
store_changes Ptr m address w fields zeros layout laid_out inside aligned =
    let granule : ℕ = address - address % 8 in
    let low : granule ≤ address = omega arith in
    let high : address + 8 ≤ granule + 8 = omega (arith, aligned) in
    let within : IsIn m address 8 = in_part m granule 8 address 8 inside low high in
    let first : Changes m (with_field m address 8 w) address 8 = field_change m address 8 w fields layout laid_out within in
    widened m (with_mark (with_field m address 8 w) address true) granule 8 address 8 low high
    (after_change m (with_field m address 8 w) (with_mark (with_field m address 8 w) address true) address 8 first
    (mark_change (with_field m address 8 w) address 8 layout first.ranges.laid_out (in_same m (with_field m address 8 w) address 8 first.ranges within)))
