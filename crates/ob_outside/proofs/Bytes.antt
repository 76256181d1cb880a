-- The bytes of a granule's word, each with its bit that says whether it was stored.
use Rattle.std.proofs.Common.{◌≡◌, ℕ, zero, suc, ◌+◌, ◌-◌, ◌*◌, ◌/◌, ◌%◌, ◌^◌, ◌<◌, ◌≤◌, ◌==◌, ◌&&◌, Bool, true, false, List, [], ◌∷◌, ◌++◌, length, map, take, drop, Option, Some, None, if◌then◌else◌, arith, ap, sym, ◌∙◌, refl, ⊎_elim}
use Rattle.std.specs.Option.{option_map}
use Rattle.std.proofs.lemmas.Bool.{cases_eq, cond-false, cond-true, eq-eqb, eqb-true, ne_eqb}
use Rattle.std.proofs.Math.Nat.{mod-lt}
use Rattle.ob_words.specs.Fields.{from_bytes, low_bytes}
use Rattle.ob_model.specs.Cells.{entries_of, set_bytes, with_byte}
use Rattle.ob_outside.proofs.Powers.{byte_suc, div_byte, div_two, mod_byte, mod_two, power_least, two_suc}

-- ---- only the lowest digits count

pub entries_mod : (k s w : ℕ) → entries_of k (s % 2 ^ k) (w % 2 ^ (8 * k)) ≡ entries_of k s w
entries_mod zero s w = refl
entries_mod (suc k) s w =
    let s0 : s % 2 ^ suc k % 2 ≡ s % 2 = omega (arith, mod_two s k) in
    let s1 : s % 2 ^ suc k / 2 ≡ s / 2 % 2 ^ k = omega (arith, mod_two s k) in
    let w0 : w % 2 ^ (8 * suc k) % 256 ≡ w % 256 = omega (arith, mod_byte w k) in
    let w1 : w % 2 ^ (8 * suc k) / 256 ≡ w / 256 % 2 ^ (8 * k) = omega (arith, mod_byte w k) in
    let rest : entries_of k (s / 2 % 2 ^ k) (w / 256 % 2 ^ (8 * k)) ≡ entries_of k (s / 2) (w / 256) = entries_mod k (s / 2) (w / 256) in
    cc

pub entries_same : (k s t w v : ℕ) → s % 2 ^ k ≡ t % 2 ^ k → w % 2 ^ (8 * k) ≡ v % 2 ^ (8 * k) → entries_of k s w ≡ entries_of k t v
entries_same k s t w v bits bytes =
    sym (entries_mod k s w) ∙ ap (λ (n : ℕ). entries_of k n (w % 2 ^ (8 * k))) bits ∙ ap (λ (n : ℕ). entries_of k (t % 2 ^ k) n) bytes ∙ entries_mod k t v

pub low_mod : (k w : ℕ) → low_bytes k (w % 2 ^ (8 * k)) ≡ low_bytes k w
unfolding low_bytes
low_mod zero w = refl
low_mod (suc k) w =
    let w0 : w % 2 ^ (8 * suc k) % 256 ≡ w % 256 = omega (arith, mod_byte w k) in
    let w1 : w % 2 ^ (8 * suc k) / 256 ≡ w / 256 % 2 ^ (8 * k) = omega (arith, mod_byte w k) in
    let rest : low_bytes k (w / 256 % 2 ^ (8 * k)) ≡ low_bytes k (w / 256) = low_mod k (w / 256) in
    cc

pub low_same : (k w v : ℕ) → w % 2 ^ (8 * k) ≡ v % 2 ^ (8 * k) → low_bytes k w ≡ low_bytes k v
low_same k w v bytes = sym (low_mod k w) ∙ ap (low_bytes k) bytes ∙ low_mod k v

pub length-low : (k w : ℕ) → length (low_bytes k w) ≡ k
unfolding low_bytes
length-low zero w = refl
length-low (suc k) w = ap suc (length-low k (w / 256))

pub from_low : (k w : ℕ) → from_bytes (low_bytes k w) ≡ w % 2 ^ (8 * k)
unfolding from_bytes low_bytes
from_low zero w = omega arith
from_low (suc k) w = omega (arith, from_low k (w / 256), mod_byte w k)

-- ---- the first bytes, and those behind them

pub take_entries : (n k s w : ℕ) → k ≤ n → take k (entries_of n s w) ≡ entries_of k s w
take_entries n zero s w h = refl
take_entries zero (suc k) s w h = absurd (omega arith)
take_entries (suc n) (suc k) s w h =
    ap (λ (rest : List (Option ℕ)). (if s % 2 == 1 then Some (w % 256) else None) ∷ rest) (take_entries n k (s / 2) (w / 256) (omega arith))

pub drop_entries : (n k s w : ℕ) → k ≤ n → drop k (entries_of n s w) ≡ entries_of (n - k) (s / 2 ^ k) (w / 2 ^ (8 * k))
drop_entries n zero s w h =
    let all : n ≡ n - 0 = omega arith in
    let bits : s ≡ s / 1 = omega arith in
    let bytes : w ≡ w / 1 = omega arith in
    ap (λ (m : ℕ). entries_of m s w) all ∙ ap (λ (m : ℕ). entries_of (n - 0) m w) bits ∙ ap (λ (m : ℕ). entries_of (n - 0) (s / 1) m) bytes
drop_entries zero (suc k) s w h = absurd (omega arith)
drop_entries (suc n) (suc k) s w h =
    let fewer : n - k ≡ suc n - suc k = omega arith in
    drop_entries n k (s / 2) (w / 256) (omega arith)
    ∙ ap (λ (m : ℕ). entries_of m (s / 2 / 2 ^ k) (w / 256 / 2 ^ (8 * k))) fewer
    ∙ ap (λ (m : ℕ). entries_of (suc n - suc k) m (w / 256 / 2 ^ (8 * k))) (div_two s k)
    ∙ ap (λ (m : ℕ). entries_of (suc n - suc k) (s / 2 ^ suc k) m) (div_byte w k)

-- ---- bytes that are all stored

abbrev pub all_set : ℕ → ℕ → Bool
all_set k s = s % 2 ^ k == 2 ^ k - 1

same_tests : (a b c d : ℕ) → (a ≡ b → c ≡ d) → (c ≡ d → a ≡ b) → (a == b) ≡ (c == d)
same_tests a b c d there back =
    ⊎_elim
    (λ is. eq-eqb a b is ∙ sym (eq-eqb c d (there is)))
    (λ apart. ne_eqb a b apart ∙ sym (ne_eqb c d (λ is. apart (back is))))
    (cases_eq a b)

both : (b c : Bool) (v : ℕ) (bs : List ℕ) → with_byte (if b then Some v else None) (if c then Some bs else None) ≡ (if b && c then Some (v ∷ bs) else None)
both true true v bs = refl
both true false v bs = refl
both false true v bs = refl
both false false v bs = refl

one_more : (k s : ℕ) → all_set (suc k) s ≡ ((s % 2 == 1) && all_set k (s / 2))
one_more k s =
    ⊎_elim
    (λ is.
    let first : (s % 2 == 1) ≡ true = eq-eqb (s % 2) 1 is in
    same_tests (s % 2 ^ suc k) (2 ^ suc k - 1) (s / 2 % 2 ^ k) (2 ^ k - 1)
    (λ h. omega (arith, mod_two s k, two_suc k, power_least k))
    (λ h. omega (arith, mod_two s k, two_suc k, power_least k))
    ∙ sym (ap (λ (b : Bool). b && all_set k (s / 2)) first))
    (λ apart.
    let first : (s % 2 == 1) ≡ false = ne_eqb (s % 2) 1 apart in
    ne_eqb (s % 2 ^ suc k) (2 ^ suc k - 1) (λ h. omega (arith, mod_two s k, two_suc k, power_least k, apart))
    ∙ sym (ap (λ (b : Bool). b && all_set k (s / 2)) first))
    (cases_eq (s % 2) 1)

pub set_is : (k s w : ℕ) → set_bytes (entries_of k s w) ≡ (if all_set k s then Some (low_bytes k w) else None)
unfolding low_bytes
set_is zero s w =
    let test : all_set 0 s ≡ true = eq-eqb (s % 2 ^ 0) (2 ^ 0 - 1) (omega arith) in
    sym (cond-true (all_set 0 s) (Some []) None test)
set_is (suc k) s w =
    ap (with_byte (if s % 2 == 1 then Some (w % 256) else None)) (set_is k (s / 2) (w / 256))
    ∙ both (s % 2 == 1) (all_set k (s / 2)) (w % 256) (low_bytes k (w / 256))
    ∙ sym (ap (λ (b : Bool). if b then Some (w % 256 ∷ low_bytes k (w / 256)) else None) (one_more k s))

pub entries_set : (k s w : ℕ) → s % 2 ^ k ≡ 2 ^ k - 1 → entries_of k s w ≡ map Some (low_bytes k w)
unfolding low_bytes
entries_set zero s w h = refl
entries_set (suc k) s w h =
    let first : s % 2 ≡ 1 = omega (arith, mod_two s k, two_suc k, power_least k, mod-lt (s / 2) (power_least k)) in
    let others : s / 2 % 2 ^ k ≡ 2 ^ k - 1 = omega (arith, mod_two s k, two_suc k, power_least k, first) in
    ap (λ (o : Option ℕ). o ∷ entries_of k (s / 2) (w / 256)) (cond-true (s % 2 == 1) (Some (w % 256)) None (eq-eqb (s % 2) 1 first))
    ∙ ap (λ (rest : List (Option ℕ)). Some (w % 256) ∷ rest) (entries_set k (s / 2) (w / 256) others)
