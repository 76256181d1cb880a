-- Numbers of some bytes, as the code reads and writes them.
use Rattle.std.proofs.Common.{◌≡◌, ℕ, zero, suc, ◌+◌, ◌-◌, ◌*◌, ◌/◌, ◌%◌, ◌^◌, ◌<◌, ◌≤◌, List, [], ◌∷◌, length, Result, Ok, Err, refl, ap, ◌∙◌, arith, get_or, drop, eq-eqb, Bor}
use Rattle.std.specs.Int.{w32, w64, to_le_bytes}
use Rattle.std.proofs.lemmas.Bool.{le-leb, lt-leb, ne_eqb}
use Rattle.ob_words.specs.Fields.{low_bytes}
use Rattle.ob_image.specs.Reading.{chained, one, gives, number, exactly, Fails, Gives}
use Rattle.ob_image.specs.declared.faults.Stop.{Stop}
use Rattle.ob_image.specs.declared.faults.Stop.TheVariants as stops
use Rattle.ob_image.proofs.Readers.{done}

pub byte_is : (n : ℕ) → n < 256 → n ∷ [] ≡ low_bytes 1 n
unfolding low_bytes
byte_is n h = let e : n ≡ n % 256 = omega arith in ap (λ (m : ℕ). m ∷ []) e

pub word_is : (w : ℕ) → to_le_bytes w32 w ≡ low_bytes 4 w
unfolding low_bytes
word_is w =
    let c : w / 256 ^ 2 % 256 ≡ w / 256 / 256 % 256 = omega arith in
    let d : w / 256 ^ 3 % 256 ≡ w / 256 / 256 / 256 % 256 = omega arith in
    λ i. w % 256 ∷ w / 256 % 256 ∷ c i ∷ d i ∷ []

pub long_is : (w : ℕ) → to_le_bytes w64 w ≡ low_bytes 8 w
unfolding low_bytes
long_is w =
    let c : w / 256 ^ 2 % 256 ≡ w / 256 / 256 % 256 = omega arith in
    let d : w / 256 ^ 3 % 256 ≡ w / 256 / 256 / 256 % 256 = omega arith in
    let e : w / 256 ^ 4 % 256 ≡ w / 256 / 256 / 256 / 256 % 256 = omega arith in
    let f : w / 256 ^ 5 % 256 ≡ w / 256 / 256 / 256 / 256 / 256 % 256 = omega arith in
    let g : w / 256 ^ 6 % 256 ≡ w / 256 / 256 / 256 / 256 / 256 / 256 % 256 = omega arith in
    let h : w / 256 ^ 7 % 256 ≡ w / 256 / 256 / 256 / 256 / 256 / 256 / 256 % 256 = omega arith in
    λ i. w % 256 ∷ w / 256 % 256 ∷ c i ∷ d i ∷ e i ∷ f i ∷ g i ∷ h i ∷ []

-- ---- how a number is read, byte by byte

abbrev with_low : ℕ → Result (ℕ × List ℕ) ℕ → Result (ℕ × List ℕ) ℕ
with_low low (Ok x) = Ok (low + 256 * x.0, x.1)
with_low low (Err left) = Err left

chained_low : (low : ℕ) (read : Result (ℕ × List ℕ) ℕ) → chained (λ high. gives (low + 256 * high)) read ≡ with_low low read
unfolding gives
chained_low low (Ok x) = refl
chained_low low (Err left) = refl

pub number_none : (size limit : ℕ) (bytes : List ℕ) → (size ≡ 0 → ⊥) → length bytes < 1 → number size limit bytes ≡ Err 0
unfolding number one
number_none zero limit bytes h short = absurd (h refl)
number_none (suc size) limit [] h short = refl
number_none (suc size) limit (b ∷ bytes) h short = absurd (omega arith)

pub number_past : (size limit : ℕ) (bytes : List ℕ) → (size ≡ 0 → ⊥) → 1 ≤ length bytes → limit < get_or bytes 0 0 → number size limit bytes ≡ Err (length bytes)
unfolding number one
number_past zero limit bytes h long past = absurd (h refl)
number_past (suc size) limit [] h long past = absurd (omega arith)
number_past (suc size) limit (low ∷ bytes) h long past = rw (lt-leb low limit past) refl

pub number_more : (size limit : ℕ) (bytes : List ℕ) → (size ≡ 0 → ⊥) → 1 ≤ length bytes → get_or bytes 0 0 ≤ limit
    → number size limit bytes ≡ with_low (get_or bytes 0 0) (number (size - 1) ((limit - get_or bytes 0 0) / 256) (drop 1 bytes))
unfolding number one
number_more zero limit bytes h long fits = absurd (h refl)
number_more (suc size) limit [] h long fits = absurd (omega arith)
number_more (suc size) limit (low ∷ bytes) h long fits =
    let less : suc size - 1 ≡ size = omega arith in
    rw (le-leb low limit fits, less) (chained_low low (number size ((limit - low) / 256) bytes))

pub number_fails : (e : Stop) (size limit : ℕ) (bytes : List ℕ) → (size ≡ 0 → ⊥) → 1 ≤ length bytes → get_or bytes 0 0 ≤ limit
    → Fails e (number (size - 1) ((limit - get_or bytes 0 0) / 256) (drop 1 bytes)) → Fails e (number size limit bytes)
number_fails stops.Memory size limit bytes h long fits fails = tt
number_fails (stops.Left left) size limit bytes h long fits fails = number_more size limit bytes h long fits ∙ ap (with_low (get_or bytes 0 0)) fails

-- ---- a text

abbrev pub with_first : ℕ → Result (List ℕ × List ℕ) ℕ → Result (List ℕ × List ℕ) ℕ
with_first first (Ok x) = Ok (first ∷ x.0, x.1)
with_first first (Err left) = Err left

pub chained_first : (first : ℕ) (read : Result (List ℕ × List ℕ) ℕ) → chained (λ others. gives (first ∷ others)) read ≡ with_first first read
unfolding gives
chained_first first (Ok x) = refl
chained_first first (Err left) = refl

pub exactly_none : (text bytes : List ℕ) → 1 ≤ length text → length bytes < 1 → exactly text bytes ≡ Err 0
unfolding exactly one
exactly_none [] bytes long short = absurd (omega arith)
exactly_none (t ∷ text) [] long short = refl
exactly_none (t ∷ text) (b ∷ bytes) long short = absurd (omega arith)

pub exactly_wrong : (text bytes : List ℕ) → 1 ≤ length text → 1 ≤ length bytes → (get_or bytes 0 0 ≡ get_or text 0 0 → ⊥) → exactly text bytes ≡ Err (length bytes)
unfolding exactly one
exactly_wrong [] bytes long some other = absurd (omega arith)
exactly_wrong (t ∷ text) [] long some other = absurd (omega arith)
exactly_wrong (t ∷ text) (b ∷ bytes) long some other = rw (ne_eqb b t other) refl

exactly_more : (text bytes : List ℕ) → 1 ≤ length text → 1 ≤ length bytes → get_or bytes 0 0 ≡ get_or text 0 0
    → exactly text bytes ≡ with_first (get_or bytes 0 0) (exactly (drop 1 text) (drop 1 bytes))
unfolding exactly one
exactly_more [] bytes long some same = absurd (omega arith)
exactly_more (t ∷ text) [] long some same = absurd (omega arith)
exactly_more (t ∷ text) (b ∷ bytes) long some same = rw (eq-eqb b t same) (chained_first b (exactly text bytes))

first_is : (text : List ℕ) → 1 ≤ length text → get_or text 0 0 ∷ drop 1 text ≡ text
first_is [] long = absurd (omega arith)
first_is (t ∷ text) long = refl

pub exactly_gives : (text bytes : List ℕ) (r : Result (Bor (List ℕ)) Stop) → 1 ≤ length text → 1 ≤ length bytes → get_or bytes 0 0 ≡ get_or text 0 0
    → Gives (λ x. (drop 1 text, x.now)) r (exactly (drop 1 text) (drop 1 bytes)) → Gives (λ x. (text, x.now)) r (exactly text bytes)
exactly_gives text bytes (Ok x) long some same given =
    exactly_more text bytes long some same ∙ ap (with_first (get_or bytes 0 0)) given
    ∙ ap (λ (b : ℕ). done (b ∷ drop 1 text, x.now)) same ∙ ap (λ (t : List ℕ). done (t, x.now)) (first_is text long)
exactly_gives text bytes (Err stops.Memory) long some same given = tt
exactly_gives text bytes (Err (stops.Left left)) long some same given = exactly_more text bytes long some same ∙ ap (with_first (get_or bytes 0 0)) given

-- the low bytes of a number are those of its remainder
pub count_is : (n : ℕ) → low_bytes 4 (n % 4294967296) ≡ low_bytes 4 n
unfolding low_bytes
count_is n =
    let a : n % 4294967296 % 256 ≡ n % 256 = omega arith in
    let b : n % 4294967296 / 256 % 256 ≡ n / 256 % 256 = omega arith in
    let c : n % 4294967296 / 256 / 256 % 256 ≡ n / 256 / 256 % 256 = omega arith in
    let d : n % 4294967296 / 256 / 256 / 256 % 256 ≡ n / 256 / 256 / 256 % 256 = omega arith in
    λ i. a i ∷ b i ∷ c i ∷ d i ∷ []
