-- Lists in which a stretch was filled: what stands in it, and what is kept.
use Rattle.std.proofs.Common.{◌≡◌, ℕ, zero, suc, ◌+◌, ◌-◌, ◌/◌, ◌%◌, ◌<◌, ◌≤◌, ◌⊎◌, false, List, ◌++◌, length, take, drop, replicate, get_or, arith, refl, sym, ◌∙◌, ap, subst, inl, inr}
use Rattle.std.specs.Prelude.{slice_range}
use Rattle.std.proofs.lemmas.List.{length-take-le, length-take, length-drop, length-append, length-replicate, get_or-replicate, get_or-drop, get_or-take, get_or_append_left, get_or-append-add, ext_get_or}
use Rattle.ob_words.specs.Fields.{from_bytes}
use Rattle.ob_flat.specs.Memory.{Memory, IsIn, IsLaidOut, index, filled, field, has_mark, with_zeros}
use Rattle.ob_flat.proofs.Indexes.{index_from, index_end, index_multiple, index_order}

get_at : {A : Type 0} (xs ys : List A) (n k : ℕ) (d : A) → length xs ≡ n → get_or (xs ++ ys) (n + k) d ≡ get_or ys k d
get_at xs ys n k d e = subst (λ i. get_or (xs ++ ys) (i + k) d ≡ get_or ys k d) e (get_or-append-add xs ys k d)

pub get_in : {A : Type 0} (xs : List A) (i n k : ℕ) (x d : A) → i + n ≤ length xs → k < n → get_or (filled xs i n x) (i + k) d ≡ x
get_in xs i n k x d fits h =
    get_at (take i xs) (replicate n x ++ drop (i + n) xs) i k d (length-take-le i xs (omega arith))
    ∙ get_or_append_left (replicate n x) (drop (i + n) xs) d k (omega (arith, length-replicate n x))
    ∙ get_or-replicate n k x d h

pub get_before : {A : Type 0} (xs : List A) (i n k : ℕ) (x d : A) → i + n ≤ length xs → k < i → get_or (filled xs i n x) k d ≡ get_or xs k d
get_before xs i n k x d fits h =
    get_or_append_left (take i xs) (replicate n x ++ drop (i + n) xs) d k (omega (arith, length-take-le i xs))
    ∙ get_or-take i xs k d h

pub get_after : {A : Type 0} (xs : List A) (i n k : ℕ) (x d : A) → i + n ≤ length xs → get_or (filled xs i n x) (i + (n + k)) d ≡ get_or xs (i + n + k) d
get_after xs i n k x d fits =
    get_at (take i xs) (replicate n x ++ drop (i + n) xs) i (n + k) d (length-take-le i xs (omega arith))
    ∙ get_at (replicate n x) (drop (i + n) xs) n k d (length-replicate n x)
    ∙ get_or-drop (i + n) xs k d

pub length-filled : {A : Type 0} (xs : List A) (i n : ℕ) (x : A) → i + n ≤ length xs → length (filled xs i n x) ≡ length xs
length-filled xs i n x fits =
    omega (arith, length-append (take i xs) (replicate n x ++ drop (i + n) xs), length-append (replicate n x) (drop (i + n) xs), length-take i xs, length-drop (i + n) xs, length-replicate n x)

from_zeros : (n : ℕ) → from_bytes (replicate n 0) ≡ 0
unfolding from_bytes
from_zeros zero = refl
from_zeros (suc n) = omega (arith, from_zeros n)

-- ---- ranges of bytes

get_range : {A : Type 0} (xs : List A) (t k i : ℕ) (d : A) → i < k → get_or (slice_range xs t (t + k)) i d ≡ get_or xs (t + i) d
get_range xs t k i d h = get_or-take (t + k - t) (drop t xs) i d (omega arith) ∙ get_or-drop t xs i d

length-range : {A : Type 0} (xs : List A) (t k : ℕ) → t + k ≤ length xs → length (slice_range xs t (t + k)) ≡ k
length-range xs t k h = omega (arith, length-take (t + k - t) (drop t xs), length-drop t xs)

range_same : (xs ys : List ℕ) (t k : ℕ) → t + k ≤ length xs → t + k ≤ length ys → ((i : ℕ) → i < k → get_or xs (t + i) 0 ≡ get_or ys (t + i) 0) → slice_range xs t (t + k) ≡ slice_range ys t (t + k)
range_same xs ys t k h g each =
    ext_get_or 0 (slice_range xs t (t + k)) (slice_range ys t (t + k)) (length-range xs t k h ∙ sym (length-range ys t k g))
    (λ i b. let less : i < k = omega (arith, length-range xs t k h) in get_range xs t k i 0 less ∙ each i less ∙ sym (get_range ys t k i 0 less))

range_zeros : (xs : List ℕ) (t k : ℕ) → t + k ≤ length xs → ((i : ℕ) → i < k → get_or xs (t + i) 0 ≡ 0) → slice_range xs t (t + k) ≡ replicate k 0
range_zeros xs t k h each =
    ext_get_or 0 (slice_range xs t (t + k)) (replicate k 0) (length-range xs t k h ∙ sym (length-replicate k 0))
    (λ i b. let less : i < k = omega (arith, length-range xs t k h) in get_range xs t k i 0 less ∙ each i less ∙ sym (get_or-replicate k i 0 0 less))

-- ---- zeros in memory

at_place : {A : Type 0} (xs : List A) (i j : ℕ) (d v : A) → i ≡ j → get_or xs i d ≡ v → get_or xs j d ≡ v
at_place xs i j d v e = subst (λ k. get_or xs k d ≡ v) e

outside_same : {A : Type 0} (xs : List A) (s n i : ℕ) (x d : A) → s + n ≤ length xs → (s + n ≤ i) ⊎ (i < s) → get_or (filled xs s n x) i d ≡ get_or xs i d
outside_same xs s n i x d fits (inl h) =
    let e : s + (n + (i - (s + n))) ≡ i = omega arith in
    let f : s + n + (i - (s + n)) ≡ i = omega arith in
    at_place (filled xs s n x) (s + (n + (i - (s + n)))) i d (get_or xs i d) e
    (get_after xs s n (i - (s + n)) x d fits ∙ ap (λ k. get_or xs k d) f)
outside_same xs s n i x d fits (inr h) = get_before xs s n i x d fits h

inside_filled : {A : Type 0} (xs : List A) (s n i : ℕ) (x d : A) → s + n ≤ length xs → s ≤ i → i < s + n → get_or (filled xs s n x) i d ≡ x
inside_filled xs s n i x d fits low high =
    let e : s + (i - s) ≡ i = omega arith in
    at_place (filled xs s n x) (s + (i - s)) i d x e (get_in xs s n (i - s) x d fits (omega arith))

pub zeros_are_read : (m : Memory) (address n other size : ℕ) → IsLaidOut m → IsIn m address n → address ≤ other → other + size ≤ address + n → field (with_zeros m address n) other size ≡ 0
zeros_are_read m address n other size l h low high =
    let end = index_end m address n l h in
    let start : index m other ≡ index m address + (other - address) = index_from m address n other l h low (omega arith) in
    let long = length-filled m.bytes (index m address) n 0 end in
    ap from_bytes (range_zeros (filled m.bytes (index m address) n 0) (index m other) size (omega (arith, end, start, long))
    (λ i b. inside_filled m.bytes (index m address) n (index m other + i) 0 0 end (omega (arith, start)) (omega (arith, start))))
    ∙ from_zeros size

between : (m : Memory) (address n other size : ℕ) → IsLaidOut m → IsIn m address n → IsIn m other size → (address + n ≤ other) ⊎ (other + size ≤ address) → (index m address + n ≤ index m other) ⊎ (index m other + size ≤ index m address)
between m address n other size l h g (inl e) = inl (index_order m address n other size l h g e)
between m address n other size l h g (inr e) = inr (index_order m other size address n l g h e)

beyond : (s n t size i : ℕ) → i < size → (s + n ≤ t) ⊎ (t + size ≤ s) → (s + n ≤ t + i) ⊎ (t + i < s)
beyond s n t size i b (inl e) = inl (omega arith)
beyond s n t size i b (inr e) = inr (omega arith)

pub others_are_kept : (m : Memory) (address n other size : ℕ) → IsLaidOut m → IsIn m address n → IsIn m other size → (address + n ≤ other) ⊎ (other + size ≤ address) → field (with_zeros m address n) other size ≡ field m other size
others_are_kept m address n other size l h g apart =
    let end = index_end m address n l h in
    let end_other = index_end m other size l g in
    let long = length-filled m.bytes (index m address) n 0 end in
    ap from_bytes (range_same (filled m.bytes (index m address) n 0) m.bytes (index m other) size (omega (arith, end_other, long)) end_other
    (λ i b. outside_same m.bytes (index m address) n (index m other + i) 0 0 end (beyond (index m address) n (index m other) size i b (between m address n other size l h g apart))))

-- ---- marks of granules

marks_end : (m : Memory) (address n : ℕ) → IsLaidOut m → IsIn m address n → address % 8 ≡ 0 → n % 8 ≡ 0 → index m address / 8 + n / 8 ≤ length m.marks
marks_end m address n l h e f = omega (arith, index_end m address n l h, index_multiple m address n l h e, l.bytes, l.marks)

pub zeros_have_no_mark : (m : Memory) (address n other : ℕ) → IsLaidOut m → IsIn m address n → address % 8 ≡ 0 → n % 8 ≡ 0 → address ≤ other → other + 1 ≤ address + n → has_mark (with_zeros m address n) other ≡ false
zeros_have_no_mark m address n other l h e f low high =
    let start : index m other ≡ index m address + (other - address) = index_from m address n other l h low (omega arith) in
    let even = index_multiple m address n l h e in
    inside_filled m.marks (index m address / 8) (n / 8) (index m other / 8) false false (marks_end m address n l h e f)
    (omega (arith, start, even)) (omega (arith, start, even))

granules_apart : (s n t : ℕ) → s % 8 ≡ 0 → n % 8 ≡ 0 → (s + n ≤ t) ⊎ (t + 1 ≤ s) → (s / 8 + n / 8 ≤ t / 8) ⊎ (t / 8 < s / 8)
granules_apart s n t e f (inl h) = inl (omega arith)
granules_apart s n t e f (inr h) = inr (omega arith)

pub other_marks_are_kept : (m : Memory) (address n other : ℕ) → IsLaidOut m → IsIn m address n → IsIn m other 1 → address % 8 ≡ 0 → n % 8 ≡ 0 → (address + n ≤ other) ⊎ (other + 1 ≤ address) → has_mark (with_zeros m address n) other ≡ has_mark m other
other_marks_are_kept m address n other l h g e f apart =
    outside_same m.marks (index m address / 8) (n / 8) (index m other / 8) false false (marks_end m address n l h e f)
    (granules_apart (index m address) n (index m other) (index_multiple m address n l h e) f (between m address n other 1 l h g apart))
