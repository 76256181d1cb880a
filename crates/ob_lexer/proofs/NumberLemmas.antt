-- Numbers that digits spell, and the types of integer constants.
use Rattle.std.proofs.Common.{◌≡◌, ℕ, ◌+◌, ◌*◌, ◌^◌, ◌≤◌, ◌<◌, List, [], ◌∷◌, length, get_or, drop, None, arith, ◌∙◌, ap, sym}
use Rattle.std.proofs.Math.Nat.{mul-le-mul_left}
use Rattle.std.proofs.lemmas.List.{drop_more, drop_all}
use Rattle.std.proofs.lemmas.Bool.Decides.{nat_tests}
use Rattle.ob_tree.specs.Constants.{number, number_from, digit_value, base_number, type_of}
use Rattle.ob_tree.specs.declared.constants.Base.{Base}
use Rattle.ob_tree.specs.declared.constants.Suffix.{Suffix}

pub base_number-positive : (b : Base) → 1 ≤ base_number b
base_number-positive Base.Decimal = omega arith
base_number-positive Base.Octal = omega arith
base_number-positive Base.Hexadecimal = omega arith

-- more digits make no smaller number
pub number_from-grows : (base n : ℕ) (ds : List ℕ) → 1 ≤ base → n ≤ number_from base n ds
number_from-grows base n [] h = omega arith
number_from-grows base n (d ∷ ds) h =
    let more = number_from-grows base (n * base + digit_value d) ds h in
    let wide : n * 1 ≤ n * base = mul-le-mul_left n h in
    omega (arith, more, wide)

-- the digits so far with the next one make no greater number than all of them
pub number-over : (b : Base) (base v d : ℕ) (xs : List ℕ) (i : ℕ) → base ≡ base_number b → d ≡ digit_value (get_or xs i 0) → i < length xs → number_from base v (drop i xs) ≡ number_from base 0 xs → v * base + d ≤ number (base_number b) xs
number-over b base v d xs i eb ed l e =
    let step : number_from base (v * base + digit_value (get_or xs i 0)) (drop (i + 1) xs) ≡ number_from base 0 xs = sym (ap (number_from base v) (drop_more xs i 0 l)) ∙ e in
    let more = number_from-grows base (v * base + digit_value (get_or xs i 0)) (drop (i + 1) xs) (let p = base_number-positive b in omega (arith, p, eb)) in
    let whole : number_from base 0 xs ≡ number (base_number b) xs = ap (λ n. number_from n 0 xs) eb in
    omega (arith, step, more, whole, ed)

pub number-end : (b : Base) (base v : ℕ) (xs : List ℕ) (i : ℕ) → base ≡ base_number b → length xs ≤ i → number_from base v (drop i xs) ≡ number_from base 0 xs → v ≡ number (base_number b) xs
number-end b base v xs i eb l e = sym (ap (number_from base v) (drop_all i xs l)) ∙ e ∙ ap (λ n. number_from n 0 xs) eb

-- no type has numbers of 2^64 and over
pub type_of-none : (b : Base) (s : Suffix) (v : ℕ) → (v < 2 ^ 64 → ⊥) → type_of b s v ≡ None
type_of-none Base.Decimal Suffix.Plain v h = grind (arith, nat_tests)
type_of-none Base.Decimal Suffix.U v h = grind (arith, nat_tests)
type_of-none Base.Decimal Suffix.L v h = grind (arith, nat_tests)
type_of-none Base.Decimal Suffix.UL v h = grind (arith, nat_tests)
type_of-none Base.Decimal Suffix.LL v h = grind (arith, nat_tests)
type_of-none Base.Decimal Suffix.ULL v h = grind (arith, nat_tests)
type_of-none Base.Octal Suffix.Plain v h = grind (arith, nat_tests)
type_of-none Base.Octal Suffix.U v h = grind (arith, nat_tests)
type_of-none Base.Octal Suffix.L v h = grind (arith, nat_tests)
type_of-none Base.Octal Suffix.UL v h = grind (arith, nat_tests)
type_of-none Base.Octal Suffix.LL v h = grind (arith, nat_tests)
type_of-none Base.Octal Suffix.ULL v h = grind (arith, nat_tests)
type_of-none Base.Hexadecimal Suffix.Plain v h = grind (arith, nat_tests)
type_of-none Base.Hexadecimal Suffix.U v h = grind (arith, nat_tests)
type_of-none Base.Hexadecimal Suffix.L v h = grind (arith, nat_tests)
type_of-none Base.Hexadecimal Suffix.UL v h = grind (arith, nat_tests)
type_of-none Base.Hexadecimal Suffix.LL v h = grind (arith, nat_tests)
type_of-none Base.Hexadecimal Suffix.ULL v h = grind (arith, nat_tests)
