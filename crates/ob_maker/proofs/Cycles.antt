-- The numbers of a cycle by their places, and how many there are.
use Rattle.std.proofs.Common.{◌≡◌, ℕ, zero, suc, ◌+◌, ◌*◌, ◌/◌, ◌%◌, ◌<◌, get_or, arith}
use Rattle.std.specs.Prelude.{slice_index}
use Rattle.ob_maker.specs.Cycles.{threes, rising, small_cycle, count_cycle}

first_of_threes : (n third p : ℕ) → p < 3 * n → p % 3 ≡ 0 → get_or (threes n third) p 0 ≡ 0
unfolding threes
first_of_threes zero third p within is = absurd (omega arith)
first_of_threes (suc n) third zero within is = omega arith
first_of_threes (suc n) third (suc zero) within is = absurd (omega arith)
first_of_threes (suc n) third (suc (suc zero)) within is = absurd (omega arith)
first_of_threes (suc n) third (suc (suc (suc p))) within is = first_of_threes n (suc third) p (omega arith) (omega arith)

second_of_threes : (n third p : ℕ) → p < 3 * n → p % 3 ≡ 1 → get_or (threes n third) p 0 ≡ 1
unfolding threes
second_of_threes zero third p within is = absurd (omega arith)
second_of_threes (suc n) third zero within is = absurd (omega arith)
second_of_threes (suc n) third (suc zero) within is = omega arith
second_of_threes (suc n) third (suc (suc zero)) within is = absurd (omega arith)
second_of_threes (suc n) third (suc (suc (suc p))) within is = second_of_threes n (suc third) p (omega arith) (omega arith)

third_of_threes : (n third p : ℕ) → p < 3 * n → p % 3 ≡ 2 → get_or (threes n third) p 0 ≡ third + p / 3
unfolding threes
third_of_threes zero third p within is = absurd (omega arith)
third_of_threes (suc n) third zero within is = absurd (omega arith)
third_of_threes (suc n) third (suc zero) within is = absurd (omega arith)
third_of_threes (suc n) third (suc (suc zero)) within is = omega arith
third_of_threes (suc n) third (suc (suc (suc p))) within is =
    let e : get_or (threes n (suc third)) p 0 ≡ suc third + p / 3 = third_of_threes n (suc third) p (omega arith) (omega arith) in
    omega arith

in_rising : (n from p : ℕ) → p < n → get_or (rising n from) p 0 ≡ from + p
unfolding rising
in_rising zero from p within = absurd (omega arith)
in_rising (suc n) from zero within = omega arith
in_rising (suc n) from (suc p) within = let e : get_or (rising n (suc from)) p 0 ≡ suc from + p = in_rising n (suc from) p (omega arith) in omega arith

pub small_first : (p : ℕ) → p < 762 → p % 3 ≡ 0 → slice_index small_cycle p ≡ 0
unfolding small_cycle
small_first p within is = first_of_threes 254 2 p (omega arith) is

pub small_second : (p : ℕ) → p < 762 → p % 3 ≡ 1 → slice_index small_cycle p ≡ 1
unfolding small_cycle
small_second p within is = second_of_threes 254 2 p (omega arith) is

pub small_third : (p : ℕ) → p < 762 → p % 3 ≡ 2 → slice_index small_cycle p ≡ 2 + p / 3
unfolding small_cycle
small_third p within is = third_of_threes 254 2 p (omega arith) is

pub count_at : (p : ℕ) → p < 256 → slice_index count_cycle p ≡ p
unfolding count_cycle
count_at p within = let e : get_or (rising 256 0) p 0 ≡ 0 + p = in_rising 256 0 p within in omega arith
