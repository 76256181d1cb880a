-- A number and the padding behind it are the least multiple that isn't below.
use Rattle.std.proofs.Common.{◌≡◌, ℕ, zero, suc, ◌+◌, ◌-◌, ◌*◌, ◌/◌, ◌%◌, ◌<◌, ◌≤◌, ap, arith, ⊎_elim, ◌∙◌, mod-lt, div-add-mod'}
use Rattle.std.proofs.lemmas.Bool.{cases_eq, cases_lt}
use Rattle.std.proofs.Math.Nat.{mul-le-mul_left, mod-eq_of_lt, mod_self}
use Rattle.ob_tree.specs.Sizes.{IsRoundUp, padding, round_up}

-- with no remainder there is no padding
no_padding : (n a : ℕ) → n % suc a ≡ 0 → padding n (suc a) ≡ 0
no_padding n a none =
    ap (λ r. (suc a - r) % suc a) none ∙ ap (λ m. m % suc a) (omega arith) ∙ mod_self (suc a)

some_padding : (n a : ℕ) → 0 < n % suc a → padding n (suc a) ≡ suc a - n % suc a
some_padding n a some = mod-eq_of_lt {n = suc a - n % suc a} {m = suc a} (omega arith)

not_before : (a q k x : ℕ) → a * q < x → x ≤ a * k → q < k
not_before a q k x below within = ⊎_elim
    (λ (h : q < k). h)
    (λ (h : k ≤ q). let more = mul-le-mul_left a h in absurd (omega arith))
    (cases_lt q k)

pub round_up_is : (n align : ℕ) → 1 ≤ align → IsRoundUp n align (round_up n align)
round_up_is n zero some = absurd (omega arith)
round_up_is n (suc a) some =
    let whole = div-add-mod' n (suc a) in
    let rest = mod-lt n {m = suc a} (omega arith) in
    ⊎_elim
    (λ (none : n % suc a ≡ 0).
    let h = no_padding n a none in
    record { multiple = (n / suc a, omega arith); holds = omega arith; no_less = λ k within. omega arith })
    (λ (other : n % suc a ≡ 0 → ⊥).
    let some : 0 < n % suc a = omega arith in
    let h = some_padding n a some in
    record {
      multiple = (n / suc a + 1, omega arith);
      holds = omega arith;
      no_less = λ k within.
          let less = not_before (suc a) (n / suc a) k n (omega arith) within in
          let more = mul-le-mul_left (suc a) less in
          omega arith;
    })
    (cases_eq (n % suc a) 0)
