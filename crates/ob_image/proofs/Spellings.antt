-- What a reader reads is spelled so, and what is spelled so is read.
use Rattle.std.proofs.Common.{◌≡◌, ℕ, zero, suc, ◌+◌, ◌-◌, ◌*◌, ◌/◌, ◌%◌, ◌^◌, ◌<◌, ◌≤◌, Bool, true, List, [], ◌∷◌, ◌++◌, length, Ok, refl, sym, ap, subst, ◌∙◌, append_assoc, arith}
use Rattle.std.specs.Prelude.{nat_le}
use Rattle.std.specs.List.{AllByRecursion, flat_map}
use Rattle.std.proofs.lemmas.Bool.{le-leb, leb-true}
use Rattle.ob_words.specs.Fields.{low_bytes}
use Rattle.ob_image.specs.Reading.{Reader, chained, one, gives, number, rows, counted, ◌>>=◌}
use Rattle.ob_image.specs.Spelling.{AreRows, spell_rows}
use Rattle.ob_image.proofs.Readers.{IsBytes, IsBytes-behind, found, stuck, answered, chained_ok, chained_err, done, ok_is, yes, no, tested, one_passes, one_refuses}

pub record IsSpelled {A : Type 0} (read : Reader A) (Is : A → Type 0) (spell : A → List ℕ) : Type 0 where
  pub sound : (bytes : List ℕ) (x : A) (rest : List ℕ) → IsBytes bytes → read bytes ≡ Ok (x, rest) → Is x × (bytes ≡ spell x ++ rest)
  pub again : (x : A) (rest : List ℕ) → Is x → read (spell x ++ rest) ≡ Ok (x, rest)

-- what the first of two readers read, and the second one goes on from
pub record Next {A B : Type 0} (Is : A → Type 0) (spell : A → List ℕ) (next : A → Reader B) (bytes : List ℕ) (y : B) (rest : List ℕ) : Type 0 where
  pub value : A
  pub middle : List ℕ
  pub is : Is value
  pub parts : bytes ≡ spell value ++ middle
  pub are_bytes : IsBytes middle
  pub goes : next value middle ≡ Ok (y, rest)

pub then_sound : {A B : Type 0} {read : Reader A} {Is : A → Type 0} {spell : A → List ℕ} {next : A → Reader B} → IsSpelled read Is spell
    → (bytes : List ℕ) (y : B) (rest : List ℕ) → IsBytes bytes → (read >>= next) bytes ≡ Ok (y, rest) → Next Is spell next bytes y rest
then_sound {read = read} {spell = spell} {next = next} spelled bytes y rest fits e =
    elim (answered (read bytes)) [
      | found x middle f ↦
          let s = spelled.sound bytes x middle fits f in
          record {
            value = x;
            middle = middle;
            is = s.0;
            parts = s.1;
            are_bytes = IsBytes-behind (spell x) middle (subst IsBytes s.1 fits);
            goes = sym (chained_ok read next bytes x middle f) ∙ e;
          }
      | stuck left f ↦ let g = sym (chained_err read next bytes left f) ∙ e in absurd cc
    ]

pub then_again : {A B : Type 0} {read : Reader A} {Is : A → Type 0} {spell : A → List ℕ} (next : A → Reader B) → IsSpelled read Is spell
    → (x : A) (rest : List ℕ) → Is x → (read >>= next) (spell x ++ rest) ≡ next x rest
then_again {read = read} {spell = spell} next spelled x rest is = chained_ok read next (spell x ++ rest) x rest (spelled.again x rest is)

pub along : (xs ys zs : List ℕ) → ys ≡ zs → xs ++ ys ≡ xs ++ zs
along xs ys zs e = ap (λ (r : List ℕ). xs ++ r) e

-- ---- one byte

pub one_sound : (test : ℕ → Bool) (bytes : List ℕ) (x : ℕ) (rest : List ℕ) → IsBytes bytes → one test bytes ≡ Ok (x, rest) → ((test x ≡ true) × (x < 256)) × (bytes ≡ x ∷ rest)
unfolding one
one_sound test [] x rest fits e = absurd cc
one_sound test (b ∷ bytes) x rest fits e =
    elim (tested (test b)) [
      | yes t ↦
          subst (λ (p : ℕ × List ℕ). ((test p.0 ≡ true) × (p.0 < 256)) × (b ∷ bytes ≡ p.0 ∷ p.1)) (ok_is (b, bytes) (x, rest) (sym (one_passes test b bytes t) ∙ e)) ((t, fits.0), refl)
      | no t ↦ let g = sym (one_refuses test b bytes t) ∙ e in absurd cc
    ]

pub one_spelled : (test : ℕ → Bool) → IsSpelled (one test) (λ b. (test b ≡ true) × (b < 256)) (λ b. b ∷ [])
one_spelled test = record { sound = one_sound test; again = λ b rest is. one_passes test b rest is.0 }

-- ---- numbers

power : (size : ℕ) → 256 ^ suc size ≡ 256 * 256 ^ size
power size = omega arith

no_number : (size limit x : ℕ) (rest : List ℕ) → number (suc size) limit [] ≡ Ok (x, rest) → ⊥
unfolding number one
no_number size limit x rest e = cc

number_sound : (size limit : ℕ) (bytes : List ℕ) (x : ℕ) (rest : List ℕ) → IsBytes bytes → number size limit bytes ≡ Ok (x, rest)
    → (x ≤ limit) × (bytes ≡ low_bytes size x ++ rest)
unfolding number gives low_bytes
number_sound zero limit bytes x rest fits e =
    subst (λ (p : ℕ × List ℕ). (p.0 ≤ limit) × (bytes ≡ p.1)) (ok_is (0, bytes) (x, rest) e) (omega arith, refl)
number_sound (suc size) limit [] x rest fits e = absurd (no_number size limit x rest e)
number_sound (suc size) limit (b ∷ bytes) x rest fits e =
    elim (tested (nat_le b limit)) [
      | yes t ↦
          let first = chained_ok (one (λ c. nat_le c limit)) (λ low. number size ((limit - low) / 256) >>= λ high. gives (low + 256 * high)) (b ∷ bytes) b bytes (one_passes (λ c. nat_le c limit) b bytes t) in
          let second : chained (λ high. gives (b + 256 * high)) (number size ((limit - b) / 256) bytes) ≡ Ok (x, rest) = sym first ∙ e in
          elim (answered (number size ((limit - b) / 256) bytes)) [
            | found high middle f ↦
                let s = number_sound size ((limit - b) / 256) bytes high middle fits.1 f in
                let made : done (b + 256 * high, middle) ≡ done (x, rest) = sym (ap (chained (λ high. gives (b + 256 * high))) f) ∙ second in
                let low_is : b ≡ (b + 256 * high) % 256 = omega (arith, fits.0) in
                let high_is : high ≡ (b + 256 * high) / 256 = omega (arith, fits.0) in
                let in_limit : b ≤ limit = leb-true b limit t in
                subst (λ (p : ℕ × List ℕ). (p.0 ≤ limit) × (b ∷ bytes ≡ low_bytes (suc size) p.0 ++ p.1)) (ok_is (b + 256 * high, middle) (x, rest) made)
                (omega (arith, s.0, in_limit), ap (λ (r : List ℕ). b ∷ r) s.1 ∙ (λ i. low_is i ∷ (low_bytes size (high_is i) ++ middle)))
            | stuck left f ↦ let g = sym (ap (chained (λ high. gives (b + 256 * high))) f) ∙ second in absurd cc
          ]
      | no t ↦
          let first = chained_err (one (λ c. nat_le c limit)) (λ low. number size ((limit - low) / 256) >>= λ high. gives (low + 256 * high)) (b ∷ bytes) (suc (length bytes)) (one_refuses (λ c. nat_le c limit) b bytes t) in
          let g = sym first ∙ e in absurd cc
    ]

number_again : (size limit : ℕ) → limit < 256 ^ size → (n : ℕ) (rest : List ℕ) → n ≤ limit → number size limit (low_bytes size n ++ rest) ≡ Ok (n, rest)
unfolding number gives low_bytes
number_again zero limit wide n rest le = let none : 0 ≡ n = omega arith in ap (λ (m : ℕ). done (m, rest)) none
number_again (suc size) limit wide n rest le =
    let low_le : n % 256 ≤ limit = omega arith in
    let passes : nat_le (n % 256) limit ≡ true = le-leb (n % 256) limit low_le in
    let high_le : n / 256 ≤ (limit - n % 256) / 256 = omega arith in
    let less : (limit - n % 256) / 256 < 256 ^ size = omega (arith, power size) in
    let whole : n % 256 + 256 * (n / 256) ≡ n = omega arith in
    chained_ok (one (λ c. nat_le c limit)) (λ low. number size ((limit - low) / 256) >>= λ high. gives (low + 256 * high)) (low_bytes (suc size) n ++ rest) (n % 256) (low_bytes size (n / 256) ++ rest)
    (one_passes (λ c. nat_le c limit) (n % 256) (low_bytes size (n / 256) ++ rest) passes)
    ∙ ap (chained (λ high. gives (n % 256 + 256 * high))) (number_again size ((limit - n % 256) / 256) less (n / 256) rest high_le)
    ∙ ap (λ (m : ℕ). done (m, rest)) whole

pub number_spelled : (size limit : ℕ) → limit < 256 ^ size → IsSpelled (number size limit) (λ n. n ≤ limit) (low_bytes size)
number_spelled size limit wide = record { sound = number_sound size limit; again = number_again size limit wide }

-- ---- rows

pub rows_sound : {A : Type 0} (read : Reader A) (Is : A → Type 0) (spell : A → List ℕ) → IsSpelled read Is spell → (n : ℕ) (bytes : List ℕ) (xs : List A) (rest : List ℕ)
    → IsBytes bytes → rows read n bytes ≡ Ok (xs, rest) → (length xs ≡ n) × AllByRecursion Is xs × (bytes ≡ flat_map spell xs ++ rest)
unfolding rows gives
rows_sound read Is spell spelled zero bytes xs rest fits e =
    subst (λ (p : List _ × List ℕ). (length p.0 ≡ 0) × AllByRecursion Is p.0 × (bytes ≡ flat_map spell p.0 ++ p.1)) (ok_is ([], bytes) (xs, rest) e) (refl, tt, refl)
rows_sound read Is spell spelled (suc n) bytes xs rest fits e =
    let a = then_sound {next = λ first. rows read n >>= λ others. gives (first ∷ others)} spelled bytes xs rest fits e in
    elim (answered (rows read n a.middle)) [
      | found others last f ↦
          let s = rows_sound read Is spell spelled n a.middle others last a.are_bytes f in
          let made : done (a.value ∷ others, last) ≡ done (xs, rest) = sym (ap (chained (λ others. gives (a.value ∷ others))) f) ∙ a.goes in
          subst (λ (p : List _ × List ℕ). (length p.0 ≡ suc n) × AllByRecursion Is p.0 × (bytes ≡ flat_map spell p.0 ++ p.1)) (ok_is (a.value ∷ others, last) (xs, rest) made)
          (ap suc s.0, (a.is, s.1), a.parts ∙ along (spell a.value) a.middle (flat_map spell others ++ last) s.2 ∙ sym (append_assoc (spell a.value) (flat_map spell others) last))
      | stuck left f ↦ let g = sym (ap (chained (λ others. gives (a.value ∷ others))) f) ∙ a.goes in absurd cc
    ]

pub rows_again : {A : Type 0} (read : Reader A) (Is : A → Type 0) (spell : A → List ℕ) → IsSpelled read Is spell → (xs : List A) (rest : List ℕ)
    → AllByRecursion Is xs → rows read (length xs) (flat_map spell xs ++ rest) ≡ Ok (xs, rest)
unfolding rows gives
rows_again read Is spell spelled [] rest all = refl
rows_again read Is spell spelled (x ∷ xs) rest all =
    ap (rows read (suc (length xs))) (append_assoc (spell x) (flat_map spell xs) rest)
    ∙ then_again (λ first. rows read (length xs) >>= λ others. gives (first ∷ others)) spelled x (flat_map spell xs ++ rest) all.0
    ∙ ap (chained (λ others. gives (x ∷ others))) (rows_again read Is spell spelled xs rest all.1)

counted_sound : {A : Type 0} (limit : ℕ) (read : Reader A) (Is : A → Type 0) (spell : A → List ℕ) → limit < 256 ^ 4 → IsSpelled read Is spell
    → (bytes : List ℕ) (xs : List A) (rest : List ℕ) → IsBytes bytes → counted limit read bytes ≡ Ok (xs, rest) → AreRows limit Is xs × (bytes ≡ spell_rows spell xs ++ rest)
unfolding counted spell_rows
counted_sound limit read Is spell wide spelled bytes xs rest fits e =
    let a = then_sound {next = λ count. rows read count} (number_spelled 4 limit wide) bytes xs rest fits e in
    let s = rows_sound read Is spell spelled a.value a.middle xs rest a.are_bytes a.goes in (
      record { most = omega (arith, s.0, a.is); each = s.1 },
      a.parts ∙ along (low_bytes 4 a.value) a.middle (flat_map spell xs ++ rest) s.2
          ∙ ap (λ (n : ℕ). low_bytes 4 n ++ (flat_map spell xs ++ rest)) (sym s.0) ∙ sym (append_assoc (low_bytes 4 (length xs)) (flat_map spell xs) rest),
    )

counted_again : {A : Type 0} (limit : ℕ) (read : Reader A) (Is : A → Type 0) (spell : A → List ℕ) → limit < 256 ^ 4 → IsSpelled read Is spell
    → (xs : List A) (rest : List ℕ) → AreRows limit Is xs → counted limit read (spell_rows spell xs ++ rest) ≡ Ok (xs, rest)
unfolding counted spell_rows
counted_again limit read Is spell wide spelled xs rest are =
    ap (λ (m : List ℕ). (number 4 limit >>= rows read) m) (append_assoc (low_bytes 4 (length xs)) (flat_map spell xs) rest)
    ∙ then_again (rows read) (number_spelled 4 limit wide) (length xs) (flat_map spell xs ++ rest) are.most
    ∙ rows_again read Is spell spelled xs rest are.each

pub counted_spelled : {A : Type 0} (limit : ℕ) (read : Reader A) (Is : A → Type 0) (spell : A → List ℕ) → limit < 256 ^ 4 → IsSpelled read Is spell
    → IsSpelled (counted limit read) (AreRows limit Is) (spell_rows spell)
counted_spelled limit read Is spell wide spelled = record { sound = counted_sound limit read Is spell wide spelled; again = counted_again limit read Is spell wide spelled }
