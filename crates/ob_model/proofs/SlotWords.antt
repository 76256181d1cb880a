-- The words of slots.
use Rattle.std.proofs.Common.{◌≡◌, ◌≢◌, ℕ, ◌-◌, ◌/◌, ◌%◌, ◌^◌, ◌≤◌, ◌==◌, Bool, true, false, nat_le, None, if◌then◌else◌, arith, refl, ◌∙◌, ap}
use Rattle.std.proofs.lemmas.Bool.{cond-true}
use Rattle.std.proofs.lemmas.Bool.Decides.{nat_tests}
use Rattle.ob_model.proofs.Conjunctions.{and_true}
use Rattle.ob_model.specs.Descriptors.{Slots, pair_in, word_of, is_slot_word, named_pair}

pub words_name : (slots : Slots) (k : ℕ) → named_pair slots (word_of k) ≡ pair_in slots k
words_name slots k =
    let low : nat_le (2 ^ 40) (word_of k) ≡ true = grind (arith, nat_tests) in
    let multiple : ((word_of k - 2 ^ 40) % 16 == 0) ≡ true = grind (arith, nat_tests) in
    let slot : (word_of k - 2 ^ 40) / 16 ≡ k = omega arith in
    cond-true (is_slot_word (word_of k)) (pair_in slots ((word_of k - 2 ^ 40) / 16)) None (rw (low, multiple) refl) ∙ ap (pair_in slots) slot

pub others_name_nothing : (slots : Slots) (w : ℕ) → ((k : ℕ) → w ≢ word_of k) → named_pair slots w ≡ None
others_name_nothing slots w other = by_test (is_slot_word w) refl
  where
    by_test : (b : Bool) → is_slot_word w ≡ b → (if b then pair_in slots ((w - 2 ^ 40) / 16) else None) ≡ None
    by_test false h = refl
    by_test true h =
        let parts = and_true (nat_le (2 ^ 40) w) ((w - 2 ^ 40) % 16 == 0) h in
        let low : 2 ^ 40 ≤ w = grind (arith, nat_tests, parts.0) in
        let multiple : (w - 2 ^ 40) % 16 ≡ 0 = grind (arith, nat_tests, parts.1) in
        absurd (other ((w - 2 ^ 40) / 16) (omega (arith, low, multiple)))
