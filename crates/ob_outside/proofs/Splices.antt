-- A number in which some binary digits are replaced.
use Rattle.std.proofs.Common.{◌≡◌, ℕ, ◌+◌, ◌*◌, ◌/◌, ◌%◌, ◌^◌, ◌<◌, ◌≤◌, arith, ap, sym, ◌∙◌}
use Rattle.std.proofs.Math.Nat.{add-mul, add-mul-div_left, add-mul-mod_self_left, div-eq_of_lt, mod-eq_of_lt, mod-lt, mod-mod, mul-add, mul-le-mul_right, mul_assoc, mul_comm}
use Rattle.std.proofs.lemmas.Nat.{pow-add}
use Rattle.ob_outside.specs.Digits.{digits_at, IsSpliced}
use Rattle.ob_outside.proofs.Powers.{power_most, power_least}

zero_and : (n : ℕ) → 0 + n ≡ n
zero_and n = omega arith

module _ (low count high old digits : ℕ) (parts : high ≡ low * count) (some : 1 ≤ low) (few : digits + 1 ≤ count) where
  abbrev value : ℕ
  value = old % low + digits * low + old / high * high

  -- the digits from the lowest of those that are replaced on
  above_low : value ≡ old % low + low * (digits + count * (old / high))
  above_low =
      let top : old / high * high ≡ low * (count * (old / high)) =
      ap (λ (h : ℕ). old / high * h) parts ∙ mul_comm (old / high) (low * count) ∙ mul_assoc low count (old / high) in
      let whole = mul-add low digits (count * (old / high)) in
      let turned = mul_comm digits low in
      omega (arith, top, whole, turned)

  pub below_is : value % low ≡ old % low
  below_is = ap (λ (n : ℕ). n % low) above_low ∙ add-mul-mod_self_left (old % low) low (digits + count * (old / high)) ∙ mod-mod old low

  shifted : value / low ≡ digits + count * (old / high)
  shifted =
      ap (λ (n : ℕ). n / low) above_low
      ∙ add-mul-div_left (old % low) (digits + count * (old / high)) some
      ∙ ap (λ (n : ℕ). n + (digits + count * (old / high))) (div-eq_of_lt (mod-lt old some))
      ∙ zero_and (digits + count * (old / high))

  pub between_is : value / low % count ≡ digits
  between_is =
      let less : digits < count = omega (arith, few) in
      ap (λ (n : ℕ). n % count) shifted ∙ add-mul-mod_self_left digits count (old / high) ∙ mod-eq_of_lt less

  lower_part : old % low + digits * low < high
  lower_part =
      let rest = mod-lt old some in
      let rows = mul-le-mul_right low few in
      let next = add-mul digits 1 low in
      let one : 1 * low ≡ low = omega arith in
      let turned = mul_comm count low in
      omega (arith, rest, rows, next, one, turned, parts)

  pub above_is : value / high ≡ old / high
  above_is =
      let turned = mul_comm (old / high) high in
      ap (λ (n : ℕ). (old % low + digits * low + n) / high) turned
      ∙ add-mul-div_left (old % low + digits * low) (old / high) (omega (arith, lower_part))
      ∙ ap (λ (n : ℕ). n + old / high) (div-eq_of_lt lower_part)
      ∙ zero_and (old / high)

pub spliced : (from count old digits : ℕ) → digits < 2 ^ count → IsSpliced from count old digits (old % 2 ^ from + digits * 2 ^ from + old / 2 ^ (from + count) * 2 ^ (from + count))
spliced from count old digits few = record {
  below = below_is (2 ^ from) (2 ^ count) (2 ^ (from + count)) old digits (pow-add 2 from count) (power_least from) (omega arith);
  between = between_is (2 ^ from) (2 ^ count) (2 ^ (from + count)) old digits (pow-add 2 from count) (power_least from) (omega arith);
  above = above_is (2 ^ from) (2 ^ count) (2 ^ (from + count)) old digits (pow-add 2 from count) (power_least from) (omega arith);
}

-- a power as a shift computes it
pub shifted_one : (e : ℕ) → e ≤ 64 → 1 * 2 ^ e % 340282366920938463463374607431768211456 ≡ 2 ^ e
shifted_one e within = omega (arith, mod-eq_of_lt {n = 2 ^ e} {m = 340282366920938463463374607431768211456} (omega (arith, power_most e within)), power_most e within)
