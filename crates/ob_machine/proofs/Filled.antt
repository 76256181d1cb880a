-- What a read leaves in the buffer.
use Rattle.std.proofs.Common.{◌≡◌, ◌≢◌, ℕ, zero, suc, ◌<◌, ◌≤◌, ◌-◌, Bool, true, false, List, [], ◌++◌, length, take, drop, Option, nat_eq, refl, ap, sym, subst, arith}
use Rattle.std.specs.Io.KnownBytes.{IsAtEnd}
use Rattle.std.proofs.lemmas.Bool.{eqb-true}
use Rattle.std.proofs.Math.Seq.{length-take-le, take-append_seam}
use Rattle.ob_machine.specs.Buffers.{IsFilled}

some_taken : (n : ℕ) (xs : List ℕ) → 0 < n → n ≤ length xs → take n xs ≢ []
some_taken n xs positive within e = absurd (omega (arith, ap length e, length-take-le n xs within))

-- n bytes were read
filled_by : (n : ℕ) (b : Bool) (xs : List ℕ) (left : Option (List ℕ)) → nat_eq n 0 ≡ b → n ≤ length xs → (n ≡ 0 → IsAtEnd left) → IsFilled (record { bytes = take n xs; at_end = b }) left
filled_by n true xs left e within end = let none : n ≡ 0 = eqb-true n 0 e in (rw none refl, end none)
filled_by n false xs left e within end = some_taken n xs (positive n e) within
  where
    positive : (m : ℕ) → nat_eq m 0 ≡ false → 0 < m
    positive zero f = cc
    positive (suc m) f = omega arith

-- the bytes of the buffer are those that the read left in it
pub filled_is : (n size : ℕ) (xs behind : List ℕ) (left : Option (List ℕ)) → size ≡ length xs → n ≤ length xs → (n ≡ 0 → IsAtEnd left) → IsFilled (record { bytes = take (n - 0) (drop 0 (take size (xs ++ behind))); at_end = nat_eq n 0 }) left
filled_is n size xs behind left whole within end =
    let cut : n ≡ n - 0 = omega arith in
    let same : take size (xs ++ behind) ≡ xs = subst (λ k. take k (xs ++ behind) ≡ xs) (sym whole) (take-append_seam xs behind) in
    subst (λ ys. IsFilled (record { bytes = take (n - 0) (drop 0 ys); at_end = nat_eq n 0 }) left) (sym same)
    (subst (λ k. IsFilled (record { bytes = take k xs; at_end = nat_eq n 0 }) left) cut (filled_by n (nat_eq n 0) xs left refl within end))
