-- Pieces that a sink took one after another.
use Rattle.std.proofs.Common.{◌≡◌, ℕ, ◌+◌, ◌-◌, ◌%◌, ◌^◌, min, List, [], ◌∷◌, ◌++◌, length, take, drop, Option, Some, None, refl, sym, ap, ◌∙◌, arith, add_assoc, append_assoc, length-append}
use Rattle.std.specs.Prelude.{sum}
use Rattle.std.specs.Io.KnownBytes.{append_known}
use Rattle.std.proofs.lemmas.List.{append-nil}
use Rattle.std.proofs.lemmas.List.Sums.{sum_by-append}
use Rattle.std.proofs.Math.Seq.{take-add}
use Rattle.std.proofs.Math.Nat.{mod-add-mod}
use Rattle.ob_base.specs.Sink.{Tally, tally_after, tally_known}

-- nothing more was taken
pub append_known-nil : (known : Option (List ℕ)) → append_known known [] ≡ known
append_known-nil None = refl
append_known-nil (Some xs) = ap Some (append-nil xs)

-- two pieces are one
pub append_known-then : (known : Option (List ℕ)) (xs ys : List ℕ) → append_known (append_known known xs) ys ≡ append_known known (xs ++ ys)
append_known-then None xs ys = refl
append_known-then (Some zs) xs ys = ap Some (append_assoc zs xs ys)

-- a prefix of a piece, and then a prefix of what is left of it
pub append_known-more : (known : Option (List ℕ)) (piece : List ℕ) (done more : ℕ) → append_known (append_known known (take done piece)) (take more (drop done piece)) ≡ append_known known (take (done + more) piece)
append_known-more known piece done more = append_known-then known _ _ ∙ ap (append_known known) (sym (take-add done more piece))

same_tally : {a b c d : ℕ} → a ≡ b → c ≡ d → ◌≡◌ {A = Tally} (record { count = a; total = c }) (record { count = b; total = d })
same_tally p q = λ i. record { count = p i; total = q i }

counts : (n : ℕ) (xs ys : List ℕ) → min (min (n + length xs) (2 ^ 64 - 1) + length ys) (2 ^ 64 - 1) ≡ min (n + length (xs ++ ys)) (2 ^ 64 - 1)
counts n xs ys = omega (arith, length-append xs ys)

totals : (n : ℕ) (xs ys : List ℕ) → ((n + sum xs) % 65536 + sum ys) % 65536 ≡ (n + sum (xs ++ ys)) % 65536
totals n xs ys = mod-add-mod (n + sum xs) 65536 (sum ys) ∙ ap (λ s. s % 65536) (add_assoc n (sum xs) (sum ys) ∙ ap (λ s. n + s) (sym (sum_by-append (λ x. x) xs ys)))

-- the tally moves over two pieces as over one
pub tally_after-append : (t : Tally) (xs ys : List ℕ) → tally_after (tally_after t xs) ys ≡ tally_after t (xs ++ ys)
tally_after-append t [] ys = refl
tally_after-append t (x ∷ xs) [] = ap (λ zs. tally_after t (x ∷ zs)) (sym (append-nil xs))
tally_after-append t (x ∷ xs) (y ∷ ys) = same_tally (counts t.count (x ∷ xs) (y ∷ ys)) (totals t.total (x ∷ xs) (y ∷ ys))

pub tally_known-nil : (tally : Option Tally) → tally_known tally [] ≡ tally
tally_known-nil None = refl
tally_known-nil (Some t) = refl

pub tally_known-then : (tally : Option Tally) (xs ys : List ℕ) → tally_known (tally_known tally xs) ys ≡ tally_known tally (xs ++ ys)
tally_known-then None xs ys = refl
tally_known-then (Some t) xs ys = ap Some (tally_after-append t xs ys)

pub tally_known-more : (tally : Option Tally) (piece : List ℕ) (done more : ℕ) → tally_known (tally_known tally (take done piece)) (take more (drop done piece)) ≡ tally_known tally (take (done + more) piece)
tally_known-more tally piece done more = tally_known-then tally _ _ ∙ ap (tally_known tally) (sym (take-add done more piece))
