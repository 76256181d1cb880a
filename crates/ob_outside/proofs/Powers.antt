-- Powers of two and of 256, and remainders and quotients by them.
use Rattle.std.proofs.Common.{◌≡◌, ℕ, zero, suc, ◌+◌, ◌-◌, ◌*◌, ◌/◌, ◌%◌, ◌^◌, ◌<◌, ◌≤◌, arith, ap, sym, ◌∙◌, refl}
use Rattle.std.proofs.Math.Nat.{pow-suc, pow-le-pow_right, div-div-eq-div-mul}
use Rattle.std.proofs.lemmas.Nat.{mod-pow-add, pow-add, pow_pos}

pub two_suc : (k : ℕ) → 2 ^ suc k ≡ 2 * 2 ^ k
two_suc k = omega (arith, pow-suc 2 k)

-- one digit off the end of a remainder
pub mod_two : (n k : ℕ) → n % 2 ^ suc k ≡ (n / 2 % 2 ^ k) * 2 + n % 2
mod_two n k = ap (λ (e : ℕ). n % 2 ^ e) (suc_is k) ∙ mod-pow-add n k 1
  where
    suc_is : (k : ℕ) → suc k ≡ k + 1
    suc_is k = omega arith

pub div_two : (n k : ℕ) → n / 2 / 2 ^ k ≡ n / 2 ^ suc k
div_two n k = div-div-eq-div-mul n 2 (2 ^ k) ∙ ap (λ (m : ℕ). n / m) (sym (two_suc k))

-- a byte is eight digits
pub byte_suc : (k : ℕ) → 2 ^ (8 * suc k) ≡ 256 * 2 ^ (8 * k)
byte_suc k = ap (λ (e : ℕ). 2 ^ e) (eight k) ∙ pow-add 2 8 (8 * k)
  where
    eight : (k : ℕ) → 8 * suc k ≡ 8 + 8 * k
    eight k = omega arith

pub mod_byte : (n k : ℕ) → n % 2 ^ (8 * suc k) ≡ (n / 256 % 2 ^ (8 * k)) * 256 + n % 256
mod_byte n k = ap (λ (e : ℕ). n % 2 ^ e) (eight k) ∙ mod-pow-add n (8 * k) 8
  where
    eight : (k : ℕ) → 8 * suc k ≡ 8 * k + 8
    eight k = omega arith

pub div_byte : (n k : ℕ) → n / 256 / 2 ^ (8 * k) ≡ n / 2 ^ (8 * suc k)
div_byte n k = div-div-eq-div-mul n 256 (2 ^ (8 * k)) ∙ ap (λ (m : ℕ). n / m) (sym (byte_suc k))

pub power_most : (e : ℕ) → e ≤ 64 → 2 ^ e ≤ 2 ^ 64
power_most e h = pow-le-pow_right (omega arith) h

pub power_least : (e : ℕ) → 1 ≤ 2 ^ e
power_least e = pow_pos e
