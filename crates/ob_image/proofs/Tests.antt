-- Readers of values that have to pass a test: where the value doesn't, the last byte is the wrong one, so each front of a text that is
-- read must be one of a text whose value passes.
use Rattle.std.proofs.Common.{◌≡◌, ℕ, zero, suc, ◌+◌, ◌-◌, ◌*◌, ◌/◌, ◌%◌, ◌^◌, ◌<◌, ◌≤◌, Bool, true, false, List, [], ◌∷◌, ◌++◌, length, Ok, Err, refl, sym, ap, subst, ◌∙◌, append_assoc, arith}
use Rattle.std.specs.Prelude.{◌==◌, ◌&&◌, not}
use Rattle.std.proofs.lemmas.Bool.{ne_eqb}
use Rattle.std.proofs.lemmas.List.{append-nil, length-append}
use Rattle.ob_words.specs.Fields.{low_bytes}
use Rattle.ob_image.specs.Layout.{any_word}
use Rattle.ob_image.specs.Reading.{Reader, passing, read_if, nonzero, number}
use Rattle.ob_image.proofs.Readers.{IsBytes, IsBytes-append, IsBytes-front, IsBytes-behind, IsReader, Takes, Completes, Stops, done, ok_is, err_is, found, stuck, answered, yes, no, tested, number_reader}
use Rattle.ob_image.proofs.Spellings.{IsSpelled, number_spelled}

pub both : (s t : Bool) → (s && t) ≡ true → (s ≡ true) × (t ≡ true)
both true true e = (refl, refl)
both true false e = absurd cc
both false t e = absurd cc

pub both_are : (s t : Bool) → s ≡ true → t ≡ true → (s && t) ≡ true
both_are true true d e = refl
both_are true false d e = absurd cc
both_are false t d e = absurd cc

-- a text that begins with these bytes, then has at least one more, and is read to its end as a value that passes
pub record Passes {A : Type 0} (read : Reader A) (test : A → Bool) (seen : List ℕ) : Type 0 where
  pub next : ℕ
  pub more : List ℕ
  pub value : A
  pub are_bytes : IsBytes (next ∷ more)
  pub whole : read (seen ++ next ∷ more) ≡ Ok (value, [])
  pub passes : test value ≡ true

-- each front of a text that is read is one of a text that passes, and so is a value that is read from nothing
pub record IsFillable {A : Type 0} (read : Reader A) (test : A → Bool) : Type 0 where
  pub fill : (seen : List ℕ) (next : ℕ) (more : List ℕ) (x : A) → IsBytes (seen ++ next ∷ more) → read (seen ++ next ∷ more) ≡ Ok (x, []) → Passes read test seen
  pub none : (x : A) (rest : List ℕ) → IsBytes rest → read rest ≡ Ok (x, rest) → test x ≡ true

-- the last one of a list
pub data LastOf (xs : List ℕ) : Type 0 where
  empty : (is : xs ≡ []) → LastOf xs
  ends : (front : List ℕ) (last : ℕ) (is : xs ≡ front ++ last ∷ []) → LastOf xs

pub last_of : (xs : List ℕ) → LastOf xs
last_of [] = empty refl
last_of (x ∷ xs) =
    elim (last_of xs) [
      | empty is ↦ ends [] x (ap (λ (l : List ℕ). x ∷ l) is)
      | ends front last is ↦ ends (x ∷ front) last (ap (λ (l : List ℕ). x ∷ l) is)
    ]

-- ---- what such a reader answers

pub passed : {A : Type 0} (test : A → Bool) (read : Reader A) (bytes : List ℕ) (x : A) (rest : List ℕ) → read bytes ≡ Ok (x, rest) → test x ≡ true → read_if test read bytes ≡ Ok (x, rest)
unfolding read_if
passed test read bytes x rest e t = ap (passing test) e ∙ rw t refl

pub refused : {A : Type 0} (test : A → Bool) (read : Reader A) (bytes : List ℕ) (x : A) (rest : List ℕ) → read bytes ≡ Ok (x, rest) → test x ≡ false → read_if test read bytes ≡ Err (suc (length rest))
unfolding read_if
refused test read bytes x rest e t = ap (passing test) e ∙ rw t refl

pub stopped : {A : Type 0} (test : A → Bool) (read : Reader A) (bytes : List ℕ) (left : ℕ) → read bytes ≡ Err left → read_if test read bytes ≡ Err left
unfolding read_if
stopped test read bytes left e = ap (passing test) e

if_takes : {A : Type 0} (test : A → Bool) (read : Reader A) → IsReader read → (bytes : List ℕ) (x : A) (rest : List ℕ) → read_if test read bytes ≡ Ok (x, rest) → Takes (read_if test read) bytes x rest
if_takes test read is bytes x rest e =
    elim (answered (read bytes)) [
      | found y r f ↦
          elim (tested (test y)) [
            | yes t ↦
                let s = is.takes bytes y r f in
                let same = ok_is (y, r) (x, rest) (sym (passed test read bytes y r f t) ∙ e) in
                let value : y ≡ x = ap (λ (p : _ × List ℕ). p.0) same in
                let behind : r ≡ rest = ap (λ (p : _ × List ℕ). p.1) same in
                record {
                  taken = s.taken;
                  parts = s.parts ∙ ap (λ (l : List ℕ). s.taken ++ l) behind;
                  again = λ more. passed test read (s.taken ++ more) y more (s.again more) t ∙ ap (λ (z : _). done (z, more)) value;
                }
            | no t ↦ let g = sym (refused test read bytes y r f t) ∙ e in absurd cc
          ]
      | stuck left f ↦ let g = sym (stopped test read bytes left f) ∙ e in absurd cc
    ]

completes : {A : Type 0} (test : A → Bool) (read : Reader A) (seen : List ℕ) → Passes read test seen → Completes (read_if test read) seen
completes test read seen p = record {
  next = p.next;
  more = p.more;
  value = p.value;
  are_bytes = p.are_bytes;
  whole = passed test read (seen ++ p.next ∷ p.more) p.value [] p.whole p.passes;
}

-- the value doesn't pass
fails_last : {A : Type 0} (test : A → Bool) (read : Reader A) → IsFillable read test → (bytes : List ℕ) → IsBytes bytes → (x : A) (rest : List ℕ) → Takes read bytes x rest → read bytes ≡ Ok (x, rest)
    → test x ≡ false → Stops (read_if test read) bytes (suc (length rest))
fails_last test read fills bytes fits x rest s e t =
    elim (last_of s.taken) [
      | empty is ↦
          let same : bytes ≡ rest = s.parts ∙ ap (λ (l : List ℕ). l ++ rest) is in
          let h = fills.none x rest (subst IsBytes same fits) (ap read (sym same) ∙ e) in
          let g = sym h ∙ t in absurd cc
      | ends front last is ↦
          let split : bytes ≡ front ++ last ∷ rest = s.parts ∙ ap (λ (l : List ℕ). l ++ rest) is ∙ append_assoc front (last ∷ []) rest in
          let along : (more : List ℕ) → read (front ++ last ∷ more) ≡ Ok (x, more) = λ more.
          ap read (sym (append_assoc front (last ∷ []) more)) ∙ ap (λ (l : List ℕ). read (l ++ more)) (sym is) ∙ s.again more in
          let small : IsBytes (front ++ last ∷ []) = subst IsBytes is (IsBytes-front s.taken rest (subst IsBytes s.parts fits)) in
          record {
            seen = front;
            rest = last ∷ rest;
            parts = split;
            count = refl;
            open_ = completes test read front (fills.fill front last [] x small (along []));
            shut = λ wrong after f other.
                let same : last ≡ wrong = cc in
                subst (λ (w : ℕ). read_if test read (front ++ w ∷ other) ≡ Err (suc (length other))) same (refused test read (front ++ last ∷ other) x other (along other) t);
          }
    ]

if_stops : {A : Type 0} (test : A → Bool) (read : Reader A) → IsReader read → IsFillable read test → (bytes : List ℕ) (left : ℕ) → IsBytes bytes → read_if test read bytes ≡ Err left → Stops (read_if test read) bytes left
if_stops test read is fills bytes left fits e =
    elim (answered (read bytes)) [
      | found x rest f ↦
          elim (tested (test x)) [
            | yes t ↦ let g = sym (passed test read bytes x rest f t) ∙ e in absurd cc
            | no t ↦
                subst (Stops (read_if test read) bytes) (err_is _ (suc (length rest)) left (sym (refused test read bytes x rest f t) ∙ e))
                (fails_last test read fills bytes fits x rest (is.takes bytes x rest f) f t)
          ]
      | stuck here f ↦
          let s = is.stops bytes here fits f in
          let o = s.open_ in
          let small : IsBytes (s.seen ++ o.next ∷ o.more) = IsBytes-append s.seen (o.next ∷ o.more) (IsBytes-front s.seen s.rest (subst IsBytes s.parts fits)) o.are_bytes in
          subst (Stops (read_if test read) bytes) (err_is _ here left (sym (stopped test read bytes here f) ∙ e)) (record {
            seen = s.seen;
            rest = s.rest;
            parts = s.parts;
            count = s.count;
            open_ = completes test read s.seen (fills.fill s.seen o.next o.more o.value small o.whole);
            shut = λ wrong after g other. stopped test read (s.seen ++ wrong ∷ other) (suc (length other)) (s.shut wrong after g other);
          })
    ]

pub if_reader : {A : Type 0} {test : A → Bool} {read : Reader A} → IsReader read → IsFillable read test → IsReader (read_if test read)
if_reader {test = test} {read = read} is fills = record { takes = if_takes test read is; stops = if_stops test read is fills }

-- a value that is spelled, and passes
pub if_spelled : {A : Type 0} {read : Reader A} {Is : A → Type 0} {spell : A → List ℕ} (test : A → Bool) → IsSpelled read Is spell → IsSpelled (read_if test read) (λ x. Is x × (test x ≡ true)) spell
if_spelled {A = A} {read = read} {Is = Is} {spell = spell} test spelled = record {
  sound = λ bytes x rest fits e.
      elim (answered (read bytes)) [
        | found y r f ↦
            elim (tested (test y)) [
              | yes t ↦
                  let s = spelled.sound bytes y r fits f in
                  subst (λ (p : A × List ℕ). (Is p.0 × (test p.0 ≡ true)) × (bytes ≡ spell p.0 ++ p.1)) (ok_is (y, r) (x, rest) (sym (passed test read bytes y r f t) ∙ e)) ((s.0, t), s.1)
              | no t ↦ let g = sym (refused test read bytes y r f t) ∙ e in absurd cc
            ]
        | stuck left f ↦ let g = sym (stopped test read bytes left f) ∙ e in absurd cc
      ];
  again = λ x rest is. passed test read (spell x ++ rest) x rest (spelled.again x rest is.0) is.1;
}

-- ---- numbers but 0

abbrev pub is_some : ℕ → Bool
is_some n = not (n == 0)

pub low_fits : (size n : ℕ) → IsBytes (low_bytes size n)
unfolding low_bytes
low_fits zero n = tt
low_fits (suc size) n = (omega arith, low_fits size (n / 256))

pub length-low : (size n : ℕ) → length (low_bytes size n) ≡ size
unfolding low_bytes
length-low zero n = refl
length-low (suc size) n = ap suc (length-low size (n / 256))

pub some_passes : (n : ℕ) → (n ≡ 0 → ⊥) → is_some n ≡ true
some_passes n h = rw (ne_eqb n 0 h) refl

pub some_is : (n : ℕ) → is_some n ≡ true → n ≡ 0 → ⊥
some_is n e z = let g : is_some 0 ≡ true = subst (λ (m : ℕ). is_some m ≡ true) z e in absurd cc

power : (size : ℕ) → 256 ^ suc size ≡ 256 * 256 ^ size
power size = omega arith

-- a number of some bytes can be read, so that it isn't 0, from each front of it
record Filled (size limit : ℕ) (seen : List ℕ) : Type 0 where
  number : ℕ
  next : ℕ
  more : List ℕ
  text : low_bytes size number ≡ seen ++ next ∷ more
  most : number ≤ limit
  some : number ≡ 0 → ⊥

one_low : (size : ℕ) → low_bytes (suc size) 1 ≡ 1 ∷ low_bytes size 0
unfolding low_bytes
one_low size = refl

more_low : (size b n : ℕ) → b < 256 → low_bytes (suc size) (b + 256 * n) ≡ b ∷ low_bytes size n
unfolding low_bytes
more_low size b n h =
    let low : (b + 256 * n) % 256 ≡ b = omega arith in
    let high : (b + 256 * n) / 256 ≡ n = omega arith in
    λ i. low i ∷ low_bytes size (high i)

filled : (size limit : ℕ) (seen : List ℕ) → limit + 1 ≡ 256 ^ size → length seen < size → IsBytes seen → Filled size limit seen
filled zero limit seen wide short fits = absurd (omega arith)
filled (suc size) limit [] wide short fits =
    record { number = 1; next = 1; more = low_bytes size 0; text = one_low size; most = omega (arith, power size, positive size); some = λ e. absurd (omega arith) } where
      positive : (n : ℕ) → 1 ≤ 256 ^ n
      positive zero = omega arith
      positive (suc n) = omega (arith, power n, positive n)
filled (suc size) limit (b ∷ seen) wide short fits =
    let f = filled size ((limit - b) / 256) seen (omega (arith, power size, fits.0)) (omega arith) fits.1 in
    record {
      number = b + 256 * f.number;
      next = f.next;
      more = f.more;
      text = more_low size b f.number fits.0 ∙ ap (λ (l : List ℕ). b ∷ l) f.text;
      most = omega (arith, f.most, power size, fits.0);
      some = λ e. f.some (omega (arith, e));
    }

some_fillable : IsFillable (number 4 any_word) is_some
some_fillable = record {
  fill = λ seen next more x fits e.
      let s = spelled.sound (seen ++ next ∷ more) x [] fits e in
      let long : length (seen ++ next ∷ more) ≡ 4 = ap length (s.1 ∙ append-nil (low_bytes 4 x)) ∙ length-low 4 x in
      let f = filled 4 any_word seen (omega arith) (omega (arith, long, length-append seen (next ∷ more))) (IsBytes-front seen (next ∷ more) fits) in
      let small : IsBytes (seen ++ f.next ∷ f.more) = subst IsBytes f.text (low_fits 4 f.number) in
      record {
        next = f.next;
        more = f.more;
        value = f.number;
        are_bytes = IsBytes-behind seen (f.next ∷ f.more) small;
        whole = ap (number 4 any_word) (sym f.text ∙ sym (append-nil (low_bytes 4 f.number))) ∙ spelled.again f.number [] f.most;
        passes = some_passes f.number f.some;
      };
  none = λ x rest fits e.
      let s = spelled.sound rest x rest fits e in
      absurd (omega (arith, ap length s.1, length-append (low_bytes 4 x) rest, length-low 4 x));
} where
  spelled : IsSpelled (number 4 any_word) (λ n. n ≤ any_word) (low_bytes 4)
  spelled = number_spelled 4 any_word (omega arith)

pub nonzero_reader : IsReader nonzero
unfolding nonzero
nonzero_reader = if_reader (number_reader 4 any_word) some_fillable

pub nonzero_spelled : IsSpelled nonzero (λ n. (n ≤ any_word) × (is_some n ≡ true)) (low_bytes 4)
unfolding nonzero
nonzero_spelled = if_spelled is_some (number_spelled 4 any_word (omega arith))
