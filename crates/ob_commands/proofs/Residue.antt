-- The remainder of a variable is its residue.
use Rattle.std.proofs.Common.{◌≡◌, ℕ, w64, to_z, of_z, ap, ◌∙◌}
use Rattle.std.specs.Prelude.{ℤ, pos, unsigned_abs, FitsSigned}
use Rattle.std.specs.Int.{int_rem_euclid}
use Rattle.std.proofs.lemmas.Int.{to_z-of_z}
use Rattle.ob_words.specs.Conversion.{residue}

pub remainder_is : (m : ℕ) (n r : ℤ) → FitsSigned w64 n → FitsSigned w64 r → r ≡ int_rem_euclid (to_z w64 (of_z w64 n)) (pos m) → unsigned_abs (to_z w64 (of_z w64 r)) ≡ residue m n
unfolding residue
remainder_is m n r fits small is =
    ap unsigned_abs (to_z-of_z w64 r small) ∙ ap unsigned_abs is ∙ ap (λ z. unsigned_abs (int_rem_euclid z (pos m))) (to_z-of_z w64 n fits)
