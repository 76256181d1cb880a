-- Reading rows one after the other, as a loop does.
use Rattle.std.proofs.Common.{◌≡◌, ℕ, suc, ◌-◌, ◌+◌, ◌≤◌, ◌<◌, List, [], ◌∷◌, ◌++◌, Result, Ok, Err, refl, sym, ap, ◌∙◌, append_assoc, arith}
use Rattle.std.proofs.lemmas.List.{append-nil}
use Rattle.ob_image.specs.declared.faults.Stop.{Stop}
use Rattle.ob_image.specs.declared.faults.Stop.TheVariants as stops
use Rattle.ob_image.specs.Reading.{Reader, chained, gives, rows, Fails, ◌>>=◌}
use Rattle.ob_image.proofs.Readers.{done}

-- what was read before, and what is still read
abbrev pub with_front : {A : Type 0} → List A → Result (List A × List ℕ) ℕ → Result (List A × List ℕ) ℕ
with_front front (Ok x) = Ok (front ++ x.0, x.1)
with_front front (Err left) = Err left

regroup : {A : Type 0} (front : List A) (x : A) (read : Result (List A × List ℕ) ℕ)
    → with_front front (chained (λ others. gives (x ∷ others)) read) ≡ with_front (front ++ x ∷ []) read
unfolding gives
regroup front x (Ok y) = ap (λ (xs : List _). done (xs, y.1)) (sym (append_assoc front (x ∷ []) y.0))
regroup front x (Err left) = refl

one_more : {A : Type 0} (read : Reader A) (n : ℕ) (bytes : List ℕ) (x : A) (after : List ℕ) → read bytes ≡ Ok (x, after)
    → rows read (suc n) bytes ≡ chained (λ others. gives (x ∷ others)) (rows read n after)
unfolding rows
one_more read n bytes x after e = ap (chained (λ first. rows read n >>= λ others. gives (first ∷ others))) e

one_less : {A : Type 0} (read : Reader A) (n : ℕ) (bytes : List ℕ) (left : ℕ) → read bytes ≡ Err left → rows read (suc n) bytes ≡ Err left
unfolding rows
one_less read n bytes left e = ap (chained (λ first. rows read n >>= λ others. gives (first ∷ others))) e

pub goes_on : {A : Type 0} (read : Reader A) (front : List A) (count i : ℕ) (bytes : List ℕ) (x : A) (after : List ℕ) (total : Result (List A × List ℕ) ℕ)
    → i < count → read bytes ≡ Ok (x, after) → with_front front (rows read (count - i) bytes) ≡ total
    → with_front (front ++ x ∷ []) (rows read (count - (i + 1)) after) ≡ total
goes_on read front count i bytes x after total lt h so_far =
    let k : count - i ≡ suc (count - (i + 1)) = omega arith in
    sym (regroup front x (rows read (count - (i + 1)) after))
    ∙ ap (with_front front) (sym (one_more read (count - (i + 1)) bytes x after h))
    ∙ ap (λ (n : ℕ). with_front front (rows read n bytes)) (sym k) ∙ so_far

pub ends : {A : Type 0} (read : Reader A) (e : Stop) (front : List A) (count i : ℕ) (bytes : List ℕ) (total : Result (List A × List ℕ) ℕ)
    → i < count → Fails e (read bytes) → with_front front (rows read (count - i) bytes) ≡ total → Fails e total
ends read stops.Memory front count i bytes total lt h so_far = tt
ends read (stops.Left left) front count i bytes total lt h so_far =
    let k : count - i ≡ suc (count - (i + 1)) = omega arith in
    sym so_far ∙ ap (λ (n : ℕ). with_front front (rows read n bytes)) k ∙ ap (with_front front) (one_less read (count - (i + 1)) bytes left h)

pub is_done : {A : Type 0} (read : Reader A) (front : List A) (count i : ℕ) (bytes : List ℕ) (total : Result (List A × List ℕ) ℕ)
    → count ≤ i → with_front front (rows read (count - i) bytes) ≡ total → total ≡ Ok (front, bytes)
unfolding rows gives
is_done read front count i bytes total le so_far =
    let k : count - i ≡ 0 = omega arith in
    sym so_far ∙ ap (λ (n : ℕ). with_front front (rows read n bytes)) k ∙ ap (λ (xs : List _). done (xs, bytes)) (append-nil front)
