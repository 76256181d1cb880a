-- How the code reads a name: it counts the bytes that can stand in one.
use Rattle.std.proofs.Common.{◌≡◌, ℕ, zero, suc, ◌+◌, ◌-◌, ◌<◌, ◌≤◌, true, false, List, [], ◌∷◌, length, take, drop, Result, Ok, Err, refl, sym, ap, ◌∙◌, arith}
use Rattle.std.specs.Prelude.{not}
use Rattle.std.specs.List.{list_all, prefix_len}
use Rattle.std.proofs.lemmas.List.{length-take-le}
use Rattle.ob_base.specs.Names.{is_letter, is_name_byte, is_reserved, is_name}
use Rattle.ob_image.specs.Reading.{chained, one, gives, rows, leading, name_bytes, name, ◌>>=◌}
use Rattle.ob_image.proofs.Digits.{with_first, chained_first}
use Rattle.ob_image.proofs.Readers.{chained_ok, chained_err, yes, no, tested, one_passes, one_refuses}
use Rattle.ob_image.proofs.NameLaws.{letter_is}
use Rattle.ob_image.proofs.Tests.{passed, refused, stopped}

abbrev stuck_at : ℕ → Result (List ℕ × List ℕ) ℕ
stuck_at left = Err left

abbrev goes_with : ℕ → ℕ → List ℕ → Result (List ℕ × List ℕ) ℕ
goes_with count first bytes = chained (λ others. gives (first ∷ others)) (rows (one is_name_byte) count bytes)

rows_more : (count b : ℕ) (bytes : List ℕ) → is_name_byte b ≡ true → rows (one is_name_byte) (suc count) (b ∷ bytes) ≡ with_first b (rows (one is_name_byte) count bytes)
unfolding rows
rows_more count b bytes t =
    chained_ok (one is_name_byte) (λ first. rows (one is_name_byte) count >>= λ others. gives (first ∷ others)) (b ∷ bytes) b bytes (one_passes is_name_byte b bytes t)
    ∙ chained_first b (rows (one is_name_byte) count bytes)

rows_none : (count : ℕ) → rows (one is_name_byte) (suc count) [] ≡ Err 0
unfolding rows one
rows_none count = refl

rows_wrong : (count b : ℕ) (bytes : List ℕ) → is_name_byte b ≡ false → rows (one is_name_byte) (suc count) (b ∷ bytes) ≡ Err (suc (length bytes))
unfolding rows
rows_wrong count b bytes t =
    chained_err (one is_name_byte) (λ first. rows (one is_name_byte) count >>= λ others. gives (first ∷ others)) (b ∷ bytes) (suc (length bytes)) (one_refuses is_name_byte b bytes t)

run_more : (b : ℕ) (text : List ℕ) → is_name_byte b ≡ true → prefix_len is_name_byte (b ∷ text) ≡ 1 + prefix_len is_name_byte text
run_more b text t = rw t refl

run_none : (b : ℕ) (text : List ℕ) → is_name_byte b ≡ false → prefix_len is_name_byte (b ∷ text) ≡ 0
run_none b text t = rw t refl

-- the bytes end, or one can't stand there, before so many were read
run_short : (count k : ℕ) (bytes : List ℕ) → prefix_len is_name_byte (take count bytes) ≡ k → k < count → rows (one is_name_byte) count bytes ≡ Err (length bytes - k)
run_short zero k bytes e short = absurd (omega (arith, short))
run_short (suc count) k [] e short = let none : 0 ≡ 0 - k = omega arith in rows_none count ∙ ap stuck_at none
run_short (suc count) k (b ∷ bytes) e short =
    elim (tested (is_name_byte b)) [
      | yes t ↦
          let r = prefix_len is_name_byte (take count bytes) in
          let more : 1 + r ≡ k = sym (run_more b (take count bytes) t) ∙ e in
          let left : length bytes - r ≡ suc (length bytes) - k = omega (arith, more) in
          rows_more count b bytes t ∙ ap (with_first b) (run_short count r bytes refl (omega (arith, more, short))) ∙ ap stuck_at left
      | no t ↦
          let none : 0 ≡ k = sym (run_none b (take count bytes) t) ∙ e in
          let left : suc (length bytes) ≡ suc (length bytes) - k = omega (arith, none) in
          rows_wrong count b bytes t ∙ ap stuck_at left
    ]

run_whole : (count : ℕ) (bytes : List ℕ) → count ≤ prefix_len is_name_byte (take count bytes) → rows (one is_name_byte) count bytes ≡ Ok (take count bytes, drop count bytes)
unfolding rows gives
run_whole zero bytes long = refl
run_whole (suc count) [] long = absurd (omega (arith, long))
run_whole (suc count) (b ∷ bytes) long =
    elim (tested (is_name_byte b)) [
      | yes t ↦ rows_more count b bytes t ∙ ap (with_first b) (run_whole count bytes (omega (arith, long, run_more b (take count bytes) t)))
      | no t ↦ absurd (omega (arith, long, run_none b (take count bytes) t))
    ]

-- ---- with a first byte that is no digit

lead_more : (b : ℕ) (text : List ℕ) → is_letter b ≡ true → leading (b ∷ text) ≡ 1 + prefix_len is_name_byte text
lead_more b text t = rw t (run_more b text (letter_is b t))

lead_none : (b : ℕ) (text : List ℕ) → is_letter b ≡ false → leading (b ∷ text) ≡ 0
lead_none b text t = rw t refl

bytes_more : (count b : ℕ) (bytes : List ℕ) → is_letter b ≡ true → name_bytes (suc count) (b ∷ bytes) ≡ with_first b (rows (one is_name_byte) count bytes)
unfolding name_bytes
bytes_more count b bytes t =
    chained_ok (one is_letter) (λ first. rows (one is_name_byte) count >>= λ others. gives (first ∷ others)) (b ∷ bytes) b bytes (one_passes is_letter b bytes t)
    ∙ chained_first b (rows (one is_name_byte) count bytes)

bytes_none : (count : ℕ) → name_bytes (suc count) [] ≡ Err 0
unfolding name_bytes one
bytes_none count = refl

bytes_wrong : (count b : ℕ) (bytes : List ℕ) → is_letter b ≡ false → name_bytes (suc count) (b ∷ bytes) ≡ Err (suc (length bytes))
unfolding name_bytes
bytes_wrong count b bytes t =
    chained_err (one is_letter) (λ first. rows (one is_name_byte) count >>= λ others. gives (first ∷ others)) (b ∷ bytes) (suc (length bytes)) (one_refuses is_letter b bytes t)

bytes_short : (count k : ℕ) (bytes : List ℕ) → leading (take count bytes) ≡ k → k < count → name_bytes count bytes ≡ Err (length bytes - k)
bytes_short zero k bytes e short = absurd (omega (arith, short))
bytes_short (suc count) k [] e short = let none : 0 ≡ 0 - k = omega arith in bytes_none count ∙ ap stuck_at none
bytes_short (suc count) k (b ∷ bytes) e short =
    elim (tested (is_letter b)) [
      | yes t ↦
          let r = prefix_len is_name_byte (take count bytes) in
          let more : 1 + r ≡ k = sym (lead_more b (take count bytes) t) ∙ e in
          let left : length bytes - r ≡ suc (length bytes) - k = omega (arith, more) in
          bytes_more count b bytes t ∙ ap (with_first b) (run_short count r bytes refl (omega (arith, more, short))) ∙ ap stuck_at left
      | no t ↦
          let none : 0 ≡ k = sym (lead_none b (take count bytes) t) ∙ e in
          let left : suc (length bytes) ≡ suc (length bytes) - k = omega (arith, none) in
          bytes_wrong count b bytes t ∙ ap stuck_at left
    ]

bytes_whole : (count : ℕ) (bytes : List ℕ) → 0 < count → count ≤ leading (take count bytes) → name_bytes count bytes ≡ Ok (take count bytes, drop count bytes)
bytes_whole zero bytes some long = absurd (omega (arith, some))
bytes_whole (suc count) [] some long = absurd (omega (arith, long))
bytes_whole (suc count) (b ∷ bytes) some long =
    elim (tested (is_letter b)) [
      | yes t ↦ bytes_more count b bytes t ∙ ap (with_first b) (run_whole count bytes (omega (arith, long, lead_more b (take count bytes) t)))
      | no t ↦ absurd (omega (arith, long, lead_none b (take count bytes) t))
    ]

-- ---- what is left to be tested is whether it is reserved

run_all : (text : List ℕ) → length text ≤ prefix_len is_name_byte text → list_all is_name_byte text ≡ true
run_all [] long = refl
run_all (b ∷ text) long =
    elim (tested (is_name_byte b)) [
      | yes t ↦ rw t (run_all text (omega (arith, long, run_more b text t)))
      | no t ↦ absurd (omega (arith, long, run_none b text t))
    ]

name_as_tested : (text : List ℕ) → 0 < length text → length text ≤ leading text → is_name text ≡ not (is_reserved text)
name_as_tested [] some long = absurd (omega (arith, some))
name_as_tested (b ∷ text) some long =
    elim (tested (is_letter b)) [
      | yes t ↦
          let all : list_all is_name_byte (b ∷ text) ≡ true = run_all (b ∷ text) (omega (arith, long, lead_more b text t, run_more b text (letter_is b t))) in
          rw (t, all) refl
      | no t ↦ absurd (omega (arith, long, lead_none b text t))
    ]

-- ---- what the code answers

pub name_short : (count : ℕ) (bytes text : List ℕ) → text ≡ take count bytes → leading text < count → name count bytes ≡ Err (length bytes - leading text)
unfolding name
name_short count bytes text front short =
    stopped (λ text. not (is_reserved text)) (name_bytes count) bytes (length bytes - leading text) (bytes_short count (leading text) bytes (ap leading (sym front)) short)

read_so : (count : ℕ) (bytes text rest : List ℕ) → 0 < count → text ≡ take count bytes → rest ≡ drop count bytes → count ≤ leading text → name_bytes count bytes ≡ Ok (text, rest)
read_so count bytes text rest some front back long = rw (front, back) (bytes_whole count bytes some (rw front at long))

tested_so : (count : ℕ) (bytes text : List ℕ) → 0 < count → count ≤ length bytes → text ≡ take count bytes → count ≤ leading text → is_name text ≡ not (is_reserved text)
tested_so count bytes text some enough front long =
    let len : length text ≡ count = ap length front ∙ length-take-le count bytes enough in
    name_as_tested text (omega (arith, len, some)) (omega (arith, len, long))

pub name_reserved : (count : ℕ) (bytes text rest : List ℕ) → 0 < count → count ≤ length bytes → text ≡ take count bytes → rest ≡ drop count bytes → count ≤ leading text
    → is_name text ≡ false → name count bytes ≡ Err (length rest + 1)
unfolding name
name_reserved count bytes text rest some enough front back long e =
    let plus : suc (length rest) ≡ length rest + 1 = omega arith in
    refused (λ text. not (is_reserved text)) (name_bytes count) bytes text rest (read_so count bytes text rest some front back long)
    (sym (tested_so count bytes text some enough front long) ∙ e) ∙ ap stuck_at plus

pub name_whole : (count : ℕ) (bytes text rest : List ℕ) → 0 < count → count ≤ length bytes → text ≡ take count bytes → rest ≡ drop count bytes → count ≤ leading text
    → is_name text ≡ true → name count bytes ≡ Ok (text, rest)
unfolding name
name_whole count bytes text rest some enough front back long e =
    passed (λ text. not (is_reserved text)) (name_bytes count) bytes text rest (read_so count bytes text rest some front back long)
    (sym (tested_so count bytes text some enough front long) ∙ e)
