-- Each place of the code belongs to one function.
use Rattle.std.proofs.Common.{◌≡◌, ℕ, zero, suc, ◌+◌, ◌-◌, ◌<◌, ◌≤◌, ◌⊎◌, length, arith, ap, subst, inl, inr}
use Rattle.std.proofs.lemmas.Option.{slice_get_cases, slice_get-get_or}
use Rattle.ob_code.specs.declared.image.Image.{Image}
use Rattle.ob_code.specs.Frames.{function_at, no_function}
use Rattle.ob_code.specs.Rules.{AreFunctionsSound, IsCodeOf, IsCodeSound, IsInstructionSound, code_end, entry_or}

-- the code of a function ends at the next entry, or with the code
pub code_end_cases : (image : Image) (f : ℕ) → ((f + 1 < length image.functions) × (code_end image f ≡ (function_at image.functions (f + 1)).entry)) ⊎ ((length image.functions ≤ f + 1) × (code_end image f ≡ length image.code))
code_end_cases image f =
    elim (slice_get_cases image.functions (f + 1)).1 [
      | inl w ↦ inl (w.1, ap (λ o. entry_or o (length image.code)) (slice_get-get_or image.functions (f + 1) no_function w.1))
      | inr w ↦ inr (w.0, ap (λ o. entry_or o (length image.code)) w.1)
    ]

next_entry : (image : Image) (f : ℕ) → AreFunctionsSound image → f + 1 < length image.functions → (function_at image.functions f).entry < (function_at image.functions (f + 1)).entry
next_entry image f sound h =
    let e : f + 1 - 1 ≡ f = omega arith in
    subst (λ k. (function_at image.functions k).entry < (function_at image.functions (f + 1)).entry) e ((sound.rows.each (f + 1) h).entry.order (omega arith))

pub entry_before_end : (image : Image) (f : ℕ) → AreFunctionsSound image → f < length image.functions → (function_at image.functions f).entry < code_end image f
entry_before_end image f sound h =
    elim (code_end_cases image f) [
      | inl w ↦ rw w.1 (next_entry image f sound w.0)
      | inr w ↦ rw w.1 ((sound.rows.each f h).entry.in_code)
    ]

entries_rise : (image : Image) (f d : ℕ) → AreFunctionsSound image → f + suc d < length image.functions → (function_at image.functions f).entry < (function_at image.functions (f + suc d)).entry
entries_rise image f zero sound h =
    let e : f + suc 0 ≡ f + 1 = omega arith in
    rw e (next_entry image f sound (omega arith))
entries_rise image f (suc d) sound h =
    let e : f + suc (suc d) ≡ f + suc d + 1 = omega arith in
    rw e (omega (arith, entries_rise image f d sound (omega arith), next_entry image (f + suc d) sound (omega arith)))

-- the code of an earlier function ends before a later one's begins
earlier_ends : (image : Image) (f g : ℕ) → AreFunctionsSound image → f < g → g < length image.functions → code_end image f ≤ (function_at image.functions g).entry
earlier_ends image f g sound less h =
    elim (code_end_cases image f) [
      | inl w ↦ rw w.1 (by_gap (g - (f + 1)) (omega arith))
      | inr w ↦ absurd (omega arith)
    ]
  where
    by_gap : (d : ℕ) → g ≡ f + 1 + d → (function_at image.functions (f + 1)).entry ≤ (function_at image.functions g).entry
    by_gap zero e = let s : g ≡ f + 1 = omega arith in rw s (omega arith)
    by_gap (suc d) e = rw e (omega (arith, entries_rise image (f + 1) d sound (omega arith)))

pub one_function : (image : Image) (f g i : ℕ) → AreFunctionsSound image → IsCodeOf image f i → IsCodeOf image g i → f ≡ g
one_function image f g i sound p q =
    grind (arith, earlier_ends image f g sound, earlier_ends image g f sound, p.is_function, p.after_entry, p.before_end, q.is_function, q.after_entry, q.before_end)

-- an instruction that is sound in one function is sound in the one that has it
pub sound_at : (image : Image) (f i : ℕ) → AreFunctionsSound image → IsCodeOf image f i → IsInstructionSound image f i → IsCodeSound image i
sound_at image f i sound p good = λ g q. subst (λ k. IsInstructionSound image k i) (one_function image f g i sound p q) good

-- the place after the end of a function's code is the next one's first
pub next_holds : (image : Image) (f i : ℕ) → AreFunctionsSound image → i < length image.code → i ≡ code_end image f → IsCodeOf image (f + 1) i
next_holds image f i sound h e =
    elim (code_end_cases image f) [
      | inl w ↦ record { is_function = w.0; after_entry = omega (arith, w.1); before_end = omega (arith, w.1, entry_before_end image (f + 1) sound w.0) }
      | inr w ↦ absurd (omega (arith, w.1))
    ]
