-- What each reader keeps, and that readers put together from such readers keep it.
use Rattle.std.proofs.Common.{◌≡◌, ℕ, zero, suc, ◌+◌, ◌-◌, ◌*◌, ◌/◌, ◌<◌, Bool, true, false, List, [], ◌∷◌, ◌++◌, length, Result, Ok, Err, refl, sym, ap, subst, ◌∙◌, append_assoc, arith, eq-eqb, get_or}
use Rattle.std.specs.List.{AllByRecursion}
use Rattle.std.proofs.lemmas.Bool.{le-leb}
use Rattle.std.proofs.lemmas.List.{append-nil}
use Rattle.ob_image.specs.Reading.{Reader, chained, one, one_if, gives, rows, counted, number, exactly, ◌>>=◌}

abbrev pub IsBytes : List ℕ → Type 0
IsBytes bytes = AllByRecursion (λ b. b < 256) bytes

pub IsBytes-append : (xs ys : List ℕ) → IsBytes xs → IsBytes ys → IsBytes (xs ++ ys)
IsBytes-append [] ys h k = k
IsBytes-append (x ∷ xs) ys h k = (h.0, IsBytes-append xs ys h.1 k)

pub IsBytes-behind : (xs ys : List ℕ) → IsBytes (xs ++ ys) → IsBytes ys
IsBytes-behind [] ys h = h
IsBytes-behind (x ∷ xs) ys h = IsBytes-behind xs ys h.1

pub IsBytes-front : (xs ys : List ℕ) → IsBytes (xs ++ ys) → IsBytes xs
IsBytes-front [] ys h = tt
IsBytes-front (x ∷ xs) ys h = (h.0, IsBytes-front xs ys h.1)

-- the bytes of a slice
pub are_bytes : (bytes : List ℕ) → ((i : ℕ) → get_or bytes i 0 < 256) → IsBytes bytes
are_bytes [] h = tt
are_bytes (b ∷ bytes) h = (h 0, are_bytes bytes (λ i. h (suc i)))

-- what was read stands in the bytes that were taken, whatever follows them
pub record Takes {A : Type 0} (read : Reader A) (bytes : List ℕ) (x : A) (rest : List ℕ) : Type 0 where
  pub taken : List ℕ
  pub parts : bytes ≡ taken ++ rest
  pub again : (more : List ℕ) → read (taken ++ more) ≡ Ok (x, more)

-- a text that begins with these bytes, then has at least one more, and is read to its end
pub record Completes {A : Type 0} (read : Reader A) (seen : List ℕ) : Type 0 where
  pub next : ℕ
  pub more : List ℕ
  pub value : A
  pub are_bytes : IsBytes (next ∷ more)
  pub whole : read (seen ++ next ∷ more) ≡ Ok (value, [])

-- where a reader stops, the bytes before can be completed, and with the wrong byte it stops there whatever follows
pub record Stops {A : Type 0} (read : Reader A) (bytes : List ℕ) (left : ℕ) : Type 0 where
  pub seen : List ℕ
  pub rest : List ℕ
  pub parts : bytes ≡ seen ++ rest
  pub count : length rest ≡ left
  pub open_ : Completes read seen
  pub shut : (wrong : ℕ) (after : List ℕ) → rest ≡ wrong ∷ after → (other : List ℕ) → read (seen ++ wrong ∷ other) ≡ Err (suc (length other))

pub record IsReader {A : Type 0} (read : Reader A) : Type 0 where
  pub takes : (bytes : List ℕ) (x : A) (rest : List ℕ) → read bytes ≡ Ok (x, rest) → Takes read bytes x rest
  pub stops : (bytes : List ℕ) (left : ℕ) → IsBytes bytes → read bytes ≡ Err left → Stops read bytes left

-- ---- results

abbrev pub done : {A : Type 0} → A × List ℕ → Result (A × List ℕ) ℕ
done x = Ok x

abbrev failed : (A : Type 0) → ℕ → Result (A × List ℕ) ℕ
failed A left = Err left

pub ok_is : {A : Type 0} (x y : A × List ℕ) → done x ≡ done y → x ≡ y
ok_is x y e = cc

pub err_is : (A : Type 0) (m n : ℕ) → failed A m ≡ failed A n → m ≡ n
err_is A m n e = cc

-- either of both
pub data Answered {A : Type 0} (read : Result (A × List ℕ) ℕ) : Type 0 where
  found : (x : A) (rest : List ℕ) (is : read ≡ Ok (x, rest)) → Answered read
  stuck : (left : ℕ) (is : read ≡ Err left) → Answered read

pub answered : {A : Type 0} (read : Result (A × List ℕ) ℕ) → Answered read
answered (Ok x) = found x.0 x.1 refl
answered (Err left) = stuck left refl

no_append : (xs ys : List ℕ) → [] ≡ xs ++ ys → (xs ≡ []) × (ys ≡ [])
no_append [] ys e = (refl, sym e)
no_append (x ∷ xs) ys e = absurd cc

-- a reader reads some text to its end
pub record Whole {A : Type 0} (read : Reader A) : Type 0 where
  pub text : List ℕ
  pub value : A
  pub are_bytes : IsBytes text
  pub whole : read text ≡ Ok (value, [])

pub whole : {A : Type 0} (read : Reader A) → IsReader read → Whole read
whole read is =
    elim (answered (read [])) [
      | found x rest e ↦
          let t = is.takes [] x rest e in
          let none = no_append t.taken rest t.parts in
          record { text = []; value = x; are_bytes = tt; whole = e ∙ ap (λ (r : List ℕ). done (x, r)) none.1 }
      | stuck left e ↦
          let s = is.stops [] left tt e in
          let none = no_append s.seen s.rest s.parts in
          record {
            text = s.open_.next ∷ s.open_.more;
            value = s.open_.value;
            are_bytes = s.open_.are_bytes;
            whole = subst (λ (seen : List ℕ). read (seen ++ s.open_.next ∷ s.open_.more) ≡ Ok (s.open_.value, [])) none.0 s.open_.whole;
          }
    ]

-- what was read to its end is read too where more follows
pub goes_on : {A : Type 0} (read : Reader A) → IsReader read → (text : List ℕ) (x : A) → read text ≡ Ok (x, []) → (more : List ℕ) → read (text ++ more) ≡ Ok (x, more)
goes_on read is text x e more =
    let t = is.takes text x [] e in
    let same : text ≡ t.taken = t.parts ∙ append-nil t.taken in
    subst (λ (s : List ℕ). read (s ++ more) ≡ Ok (x, more)) (sym same) (t.again more)

-- ---- readers from readers

pub gives_reader : {A : Type 0} (x : A) → IsReader (gives x)
unfolding gives
gives_reader x = record {
  takes = λ bytes y rest e.
      let same = ok_is (x, bytes) (y, rest) e in
      record {
        taken = [];
        parts = ap (λ (p : _ × List ℕ). p.1) same;
        again = λ more. ap (λ (p : _ × List ℕ). done (p.0, more)) same;
      };
  stops = λ bytes left fits e. absurd cc;
}

pub chained_ok : {A B : Type 0} (read : Reader A) (next : A → Reader B) (bytes : List ℕ) (x : A) (rest : List ℕ) → read bytes ≡ Ok (x, rest) → (read >>= next) bytes ≡ next x rest
chained_ok read next bytes x rest e = ap (chained next) e

pub chained_err : {A B : Type 0} (read : Reader A) (next : A → Reader B) (bytes : List ℕ) (left : ℕ) → read bytes ≡ Err left → (read >>= next) bytes ≡ Err left
chained_err read next bytes left e = ap (chained next) e

then_takes : {A B : Type 0} (read : Reader A) (next : A → Reader B) (bytes : List ℕ) (x : A) (middle : List ℕ) (y : B) (rest : List ℕ)
    → Takes read bytes x middle → Takes (next x) middle y rest → Takes (read >>= next) bytes y rest
then_takes read next bytes x middle y rest s t = record {
  taken = s.taken ++ t.taken;
  parts = s.parts ∙ ap (λ (m : List ℕ). s.taken ++ m) t.parts ∙ sym (append_assoc s.taken t.taken rest);
  again = λ more.
      ap (λ (m : List ℕ). (read >>= next) m) (append_assoc s.taken t.taken more)
      ∙ chained_ok read next (s.taken ++ (t.taken ++ more)) x (t.taken ++ more) (s.again (t.taken ++ more)) ∙ t.again more;
}

-- the first reader stops
then_stops : {A B : Type 0} (read : Reader A) (next : A → Reader B) (bytes : List ℕ) (left : ℕ)
    → IsReader read → ((x : A) → IsReader (next x)) → Stops read bytes left → Stops (read >>= next) bytes left
then_stops read next bytes left is are s =
    let o = s.open_ in
    let w = whole (next o.value) (are o.value) in
    record {
      seen = s.seen;
      rest = s.rest;
      parts = s.parts;
      count = s.count;
      open_ = record {
        next = o.next;
        more = o.more ++ w.text;
        value = w.value;
        are_bytes = IsBytes-append (o.next ∷ o.more) w.text o.are_bytes w.are_bytes;
        whole =
            ap (λ (m : List ℕ). (read >>= next) m) (sym (append_assoc s.seen (o.next ∷ o.more) w.text))
            ∙ chained_ok read next ((s.seen ++ o.next ∷ o.more) ++ w.text) o.value w.text (goes_on read is (s.seen ++ o.next ∷ o.more) o.value o.whole w.text)
            ∙ w.whole;
      };
      shut = λ wrong after e other. chained_err read next (s.seen ++ wrong ∷ other) (suc (length other)) (s.shut wrong after e other);
    }

-- the second one stops
behind_stops : {A B : Type 0} (read : Reader A) (next : A → Reader B) (bytes : List ℕ) (x : A) (middle : List ℕ) (left : ℕ)
    → Takes read bytes x middle → Stops (next x) middle left → Stops (read >>= next) bytes left
behind_stops read next bytes x middle left t s =
    let along : (more : List ℕ) → (read >>= next) ((t.taken ++ s.seen) ++ more) ≡ next x (s.seen ++ more) = λ more.
    ap (λ (m : List ℕ). (read >>= next) m) (append_assoc t.taken s.seen more)
    ∙ chained_ok read next (t.taken ++ (s.seen ++ more)) x (s.seen ++ more) (t.again (s.seen ++ more)) in
    record {
      seen = t.taken ++ s.seen;
      rest = s.rest;
      parts = t.parts ∙ ap (λ (m : List ℕ). t.taken ++ m) s.parts ∙ sym (append_assoc t.taken s.seen s.rest);
      count = s.count;
      open_ = record {
        next = s.open_.next;
        more = s.open_.more;
        value = s.open_.value;
        are_bytes = s.open_.are_bytes;
        whole = along (s.open_.next ∷ s.open_.more) ∙ s.open_.whole;
      };
      shut = λ wrong after e other. along (wrong ∷ other) ∙ s.shut wrong after e other;
    }

pub then_reader : {A B : Type 0} {read : Reader A} {next : A → Reader B} → IsReader read → ((x : A) → IsReader (next x)) → IsReader (read >>= next)
then_reader {read = read} {next = next} is are = record {
  takes = λ bytes y rest e.
      elim (answered (read bytes)) [
        | found x middle f ↦ then_takes read next bytes x middle y rest (is.takes bytes x middle f) ((are x).takes middle y rest (sym (chained_ok read next bytes x middle f) ∙ e))
        | stuck left f ↦ let g = sym (chained_err read next bytes left f) ∙ e in absurd cc
      ];
  stops = λ bytes left fits e.
      elim (answered (read bytes)) [
        | found x middle f ↦
            let t = is.takes bytes x middle f in
            let small : IsBytes middle = IsBytes-behind t.taken middle (subst IsBytes t.parts fits) in
            behind_stops read next bytes x middle left t ((are x).stops middle left small (sym (chained_ok read next bytes x middle f) ∙ e))
        | stuck here f ↦
            let same = err_is _ here left (sym (chained_err read next bytes here f) ∙ e) in
            subst (Stops (read >>= next) bytes) same (then_stops read next bytes here is are (is.stops bytes here fits f))
      ];
}

-- ---- one byte

pub record HasByte (test : ℕ → Bool) : Type 0 where
  pub byte : ℕ
  pub fits : byte < 256
  pub passes : test byte ≡ true

pub one_passes : (test : ℕ → Bool) (b : ℕ) (bytes : List ℕ) → test b ≡ true → one test (b ∷ bytes) ≡ Ok (b, bytes)
unfolding one
one_passes test b bytes e = ap (λ (p : Bool). one_if p b bytes) e

pub one_refuses : (test : ℕ → Bool) (b : ℕ) (bytes : List ℕ) → test b ≡ false → one test (b ∷ bytes) ≡ Err (suc (length bytes))
unfolding one
one_refuses test b bytes e = ap (λ (p : Bool). one_if p b bytes) e

pub data Tested (b : Bool) : Type 0 where
  yes : (is : b ≡ true) → Tested b
  no : (is : b ≡ false) → Tested b

pub tested : (b : Bool) → Tested b
tested true = yes refl
tested false = no refl

one_completes : (test : ℕ → Bool) → HasByte test → Completes (one test) []
one_completes test h = record { next = h.byte; more = []; value = h.byte; are_bytes = (h.fits, tt); whole = one_passes test h.byte [] h.passes }

one_takes : (test : ℕ → Bool) (bytes : List ℕ) (x : ℕ) (rest : List ℕ) → one test bytes ≡ Ok (x, rest) → Takes (one test) bytes x rest
unfolding one
one_takes test [] x rest e = absurd cc
one_takes test (b ∷ bytes) x rest e =
    elim (tested (test b)) [
      | yes t ↦
          let same = ok_is (b, bytes) (x, rest) (sym (one_passes test b bytes t) ∙ e) in
          let b-is : b ≡ x = ap (λ (p : ℕ × List ℕ). p.0) same in
          let rest-is : bytes ≡ rest = ap (λ (p : ℕ × List ℕ). p.1) same in
          record { taken = b ∷ []; parts = ap (λ (r : List ℕ). b ∷ r) rest-is; again = λ more. one_passes test b more t ∙ ap (λ (y : ℕ). done (y, more)) b-is }
      | no t ↦ let g = sym (one_refuses test b bytes t) ∙ e in absurd cc
    ]

one_stops : (test : ℕ → Bool) → HasByte test → (bytes : List ℕ) (left : ℕ) → IsBytes bytes → one test bytes ≡ Err left → Stops (one test) bytes left
unfolding one
one_stops test h [] left fits e =
    record { seen = []; rest = []; parts = refl; count = err_is ℕ 0 left e; open_ = one_completes test h; shut = λ wrong after f other. absurd cc }
one_stops test h (b ∷ bytes) left fits e =
    elim (tested (test b)) [
      | yes t ↦ let g = sym (one_passes test b bytes t) ∙ e in absurd cc
      | no t ↦
          record {
            seen = [];
            rest = b ∷ bytes;
            parts = refl;
            count = err_is ℕ (suc (length bytes)) left (sym (one_refuses test b bytes t) ∙ e);
            open_ = one_completes test h;
            shut = λ wrong after f other.
                let same : b ≡ wrong = cc in
                one_refuses test wrong other (subst (λ (w : ℕ). test w ≡ false) same t);
          }
    ]

pub one_reader : {test : ℕ → Bool} → HasByte test → IsReader (one test)
one_reader {test = test} h = record { takes = one_takes test; stops = one_stops test h }

-- ---- numbers, texts, rows

pub number_reader : (size limit : ℕ) → IsReader (number size limit)
unfolding number
number_reader zero limit = gives_reader 0
number_reader (suc size) limit =
    then_reader (one_reader (record { byte = 0; fits = omega arith; passes = le-leb 0 limit (omega arith) })) (λ low.
    then_reader (number_reader size ((limit - low) / 256)) (λ high. gives_reader (low + 256 * high)))

pub exactly_reader : (text : List ℕ) → IsBytes text → IsReader (exactly text)
unfolding exactly
exactly_reader [] h = gives_reader []
exactly_reader (b ∷ text) h =
    then_reader (one_reader (record { byte = b; fits = h.0; passes = eq-eqb b b refl })) (λ first.
    then_reader (exactly_reader text h.1) (λ others. gives_reader (first ∷ others)))

pub rows_reader : {A : Type 0} (read : Reader A) → IsReader read → (count : ℕ) → IsReader (rows read count)
unfolding rows
rows_reader read is zero = gives_reader []
rows_reader read is (suc count) = then_reader is (λ first. then_reader (rows_reader read is count) (λ others. gives_reader (first ∷ others)))

pub counted_reader : {A : Type 0} (limit : ℕ) (read : Reader A) → IsReader read → IsReader (counted limit read)
unfolding counted
counted_reader limit read is = then_reader (number_reader 4 limit) (λ count. rows_reader read is count)
