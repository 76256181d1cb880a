-- Lists of entries in order.
use Rattle.std.proofs.Common.{ℕ, suc, ◌+◌, ◌≤◌, List, [], ◌∷◌, ◌++◌, arith}
use Rattle.std.specs.List.{AllByRecursion}
use Rattle.std.proofs.lemmas.List.Elements.{All-from_recursion, recursion_from_All}
use Rattle.std.proofs.lemmas.List.Kept.{AllPairs-cons}
use Rattle.ob_model.specs.declared.objects.Entry.{Entry}
use Rattle.ob_objects.specs.Objects.{Precedes, IsInOrder}
use Rattle.ob_objects.specs.Trees.{IsRising, IsPast, IsAhead}

-- what holds of each
module _ (P : Entry → Type 0) where
  pub all_append : (xs ys : List Entry) → AllByRecursion P xs → AllByRecursion P ys → AllByRecursion P (xs ++ ys)
  all_append [] ys p q = q
  all_append (x ∷ xs) ys p q = (p.0, all_append xs ys p.1 q)

  pub all_left : (xs ys : List Entry) → AllByRecursion P (xs ++ ys) → AllByRecursion P xs
  all_left [] ys p = tt
  all_left (x ∷ xs) ys p = (p.0, all_left xs ys p.1)

  pub all_right : (xs ys : List Entry) → AllByRecursion P (xs ++ ys) → AllByRecursion P ys
  all_right [] ys p = p
  all_right (x ∷ xs) ys p = all_right xs ys p.1

pub all_weaker : (P Q : Entry → Type 0) → ((e : Entry) → P e → Q e) → (xs : List Entry) → AllByRecursion P xs → AllByRecursion Q xs
all_weaker P Q weaker [] p = tt
all_weaker P Q weaker (x ∷ xs) p = (weaker x p.0, all_weaker P Q weaker xs p.1)

-- the order by recursion and by index
pub rising_in_order : (es : List Entry) → IsRising es → IsInOrder es
rising_in_order [] r = λ i j d less below. absurd (omega arith)
rising_in_order (e ∷ es) r = AllPairs-cons Precedes e es (All-from_recursion (Precedes e) es r.0) (rising_in_order es r.1)

pub in_order_rising : (es : List Entry) → IsInOrder es → IsRising es
in_order_rising [] r = tt
in_order_rising (e ∷ es) r = (
  recursion_from_All (Precedes e) es (λ k d below. r 0 (suc k) d (omega arith) (omega arith)),
  in_order_rising es (λ i j d less below. r (suc i) (suc j) d (omega arith) (omega arith)),
)

-- parts of what is in order
pub rising_left : (xs ys : List Entry) → IsRising (xs ++ ys) → IsRising xs
rising_left [] ys r = tt
rising_left (x ∷ xs) ys r = (all_left (Precedes x) xs ys r.0, rising_left xs ys r.1)

pub rising_right : (xs ys : List Entry) → IsRising (xs ++ ys) → IsRising ys
rising_right [] ys r = r
rising_right (x ∷ xs) ys r = rising_right xs ys r.1

pub rising_before : (xs : List Entry) (e : Entry) (ys : List Entry) → IsRising (xs ++ e ∷ ys) → AllByRecursion (λ f. Precedes f e) xs
rising_before [] e ys r = tt
rising_before (x ∷ xs) e ys r = ((all_right (Precedes x) xs (e ∷ ys) r.0).0, rising_before xs e ys r.1)

pub rising_behind : (xs : List Entry) (e : Entry) (ys : List Entry) → IsRising (xs ++ e ∷ ys) → AllByRecursion (Precedes e) ys
rising_behind xs e ys r = (rising_right xs (e ∷ ys) r).0

-- lists put together
pub rising_append : (xs ys : List Entry) → IsRising xs → IsRising ys → AllByRecursion (λ e. AllByRecursion (Precedes e) ys) xs → IsRising (xs ++ ys)
rising_append [] ys r q p = q
rising_append (x ∷ xs) ys r q p = (all_append (Precedes x) xs ys r.0 p.0, rising_append xs ys r.1 q p.1)

-- what lies before an entry that ends before an address, and behind one that begins behind it
pub past_before : (address : ℕ) (xs : List Entry) (e : Entry) (ys : List Entry) → IsRising (xs ++ e ∷ ys) → e.base ≤ address → AllByRecursion (IsPast address) xs
past_before address xs e ys r at = all_weaker (λ f. Precedes f e) (IsPast address) (λ f p. omega arith) xs (rising_before xs e ys r)

pub ahead_behind : (address : ℕ) (xs : List Entry) (e : Entry) (ys : List Entry) → IsRising (xs ++ e ∷ ys) → address ≤ e.base + e.size → AllByRecursion (IsAhead address) ys
ahead_behind address xs e ys r at = all_weaker (Precedes e) (IsAhead address) (λ f p. omega arith) ys (rising_behind xs e ys r)
