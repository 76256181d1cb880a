-- Numbers as words: digits up to a place can be worth too much already.
use Rattle.std.proofs.Common.{◌≡◌, ℕ, ◌+◌, ◌-◌, ◌*◌, ◌<◌, ◌≤◌, Bool, true, false, cond, List, [], ◌∷◌, length, get_or, drop, Option, None, refl, sym, ap, ◌∙◌, arith, add-one, drop-cons}
use Rattle.std.proofs.lemmas.Bool.Decides.{nat_tests}
use Rattle.ob_settings.specs.Numbers.{is_number, number_between, value_from, within}

grows : (v : ℕ) (word : List ℕ) → v ≤ value_from v word
grows v [] = omega arith
grows v (byte ∷ word) = omega (arith, grows (10 * v + (byte - 48)) word)

past_most : (least most v : ℕ) → most < v → None ≡ within least most v
past_most least most v large = grind (arith, nat_tests)

none_if : (b : Bool) (o : Option ℕ) → None ≡ o → None ≡ cond b o None
none_if true o e = e
none_if false o e = refl

-- the digits up to this one are worth too much
pub too_large : (least most : ℕ) (word : List ℕ) (i v : ℕ) → i < length word → value_from v (drop i word) ≡ value_from 0 word → most < 10 * v + (get_or word i 0 - 48) → None ≡ number_between least most word
too_large least most word i v inside value large =
    let byte : ℕ = get_or word i 0 in
    let next : drop i word ≡ byte ∷ drop (i + 1) word = drop-cons word i 0 inside ∙ ap (λ k. byte ∷ drop k word) (sym (add-one i)) in
    let same : value_from 0 word ≡ value_from (10 * v + (byte - 48)) (drop (i + 1) word) = sym value ∙ ap (value_from v) next in
    none_if (is_number word) (within least most (value_from 0 word)) (past_most least most (value_from 0 word) (omega (arith, grows (10 * v + (byte - 48)) (drop (i + 1) word), same, large)))
