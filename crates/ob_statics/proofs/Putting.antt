-- Bytes that are put one after another.
use Rattle.std.proofs.Common.{◌≡◌, ℕ, suc, true, ◌+◌, ◌%◌, ◌<◌, ◌≤◌, List, [], ◌∷◌, ◌++◌, length, take, drop, get_or, arith, refl, sym, ap, subst, ◌∙◌, inl}
use Rattle.std.proofs.lemmas.List.{append_assoc, drop-drop, length-take-le, length-append, take-append-drop}
use Rattle.std.proofs.Math.Seq.{drop-append-add, drop-cons, take-append_seam, take-suc}
use Rattle.std.proofs.lemmas.Bool.Decides.{nat_tests}
use Rattle.ob_words.specs.Fields.{low_bytes}
use Rattle.ob_words.specs.Words.{block}
use Rattle.ob_flat.specs.Laws.{LayoutIsKept}
use Rattle.ob_flat.specs.Memory.{Memory, IsLaidOut, IsWithin, index, with_field}
use Rattle.ob_code.specs.declared.image.PointerRow.{PointerRow}
use Rattle.ob_code.specs.declared.image.StaticRow.{StaticRow}
use Rattle.ob_code.specs.Layout.{static_blocks}
use Rattle.ob_code.specs.Limits.{most_statics}
use Rattle.ob_code.specs.Rules.{AreSound, IsStaticSound, no_pointer, no_static, pointer_at, static_at}
use Rattle.ob_code.specs.Start.{with_bytes, with_pointer, with_pointers}
use Rattle.ob_statics.specs.Contents.{with_given}
use Rattle.ob_statics.specs.Held.{KeepsRanges}
use Rattle.ob_statics.proofs.Rows.{blocks_most, blocks_step}

-- ---- one byte

pub put_keeps : (m : Memory) (address w : ℕ) → LayoutIsKept → IsLaidOut m → IsWithin 4096 m.statics address 1 → KeepsRanges m (with_field m address 1 w)
put_keeps m address w law laid_out inside = record {
  statics = refl;
  stack = refl;
  heap = refl;
  laid_out = (law m address 1 w true laid_out (inl inside)).0;
}

pub ranges_none : (m : Memory) → IsLaidOut m → KeepsRanges m m
ranges_none m laid_out = record { statics = refl; stack = refl; heap = refl; laid_out = laid_out }

pub ranges_after : (a b c : Memory) → KeepsRanges a b → KeepsRanges b c → KeepsRanges a c
ranges_after a b c first second = record {
  statics = second.statics ∙ first.statics;
  stack = second.stack ∙ first.stack;
  heap = second.heap ∙ first.heap;
  laid_out = second.laid_out;
}

-- ---- bytes one after another

index_step : (m : Memory) (address n i : ℕ) → IsLaidOut m → IsWithin 4096 m.statics address n → i < n → index m (address + i) ≡ index m address + i
index_step m address n i l h b = grind (arith, nat_tests, h.begins, h.ends, l.statics)

index_fits : (m : Memory) (address n : ℕ) → IsLaidOut m → IsWithin 4096 m.statics address n → 0 < n → index m address + n ≤ length m.bytes
index_fits m address n l h b = grind (arith, nat_tests, h.begins, h.ends, l.statics, l.bytes)

one_more : (xs ys : List ℕ) (at b : ℕ) → at + length ys < length xs →
    take (at + length ys) (take at xs ++ (ys ++ drop (at + length ys) xs)) ++ (b ∷ drop (at + length ys + 1) (take at xs ++ (ys ++ drop (at + length ys) xs)))
    ≡ take at xs ++ ((ys ++ b ∷ []) ++ drop (at + length (ys ++ b ∷ [])) xs)
one_more xs ys at b h =
    let front : List ℕ = take at xs ++ ys in
    let tail : List ℕ = drop (at + length ys) xs in
    let long : length front ≡ at + length ys = length-append (take at xs) ys ∙ ap (λ (k : ℕ). k + length ys) (length-take-le at xs (omega arith)) in
    let whole : take at xs ++ (ys ++ tail) ≡ front ++ tail = sym (append_assoc (take at xs) ys tail) in
    let before : take (at + length ys) (front ++ tail) ≡ front = subst (λ (k : ℕ). take k (front ++ tail) ≡ front) long (take-append_seam front tail) in
    let behind : drop (at + length ys + 1) (front ++ tail) ≡ drop 1 tail = subst (λ (k : ℕ). drop (k + 1) (front ++ tail) ≡ drop 1 tail) long (drop-append-add front tail 1) in
    let less : drop 1 tail ≡ drop (at + length ys + 1) xs = drop-drop 1 (at + length ys) xs in
    let more : at + length (ys ++ b ∷ []) ≡ at + length ys + 1 = omega (arith, length-append ys (b ∷ [])) in
    let inner : (ys ++ b ∷ []) ++ drop (at + length ys + 1) xs ≡ ys ++ (b ∷ drop (at + length ys + 1) xs) = append_assoc ys (b ∷ []) (drop (at + length ys + 1) xs) in
    let outer : front ++ (b ∷ drop (at + length ys + 1) xs) ≡ take at xs ++ (ys ++ (b ∷ drop (at + length ys + 1) xs)) = append_assoc (take at xs) ys (b ∷ drop (at + length ys + 1) xs) in
    rw (whole, before, behind, less, more, inner, outer) refl

next_bytes : (xs ys us low : List ℕ) (at q b : ℕ) → q ≡ at + length ys → low ≡ b ∷ [] → us ≡ ys ++ b ∷ [] → at + length ys < length xs →
    take q (take at xs ++ (ys ++ drop (at + length ys) xs)) ++ (low ++ drop (q + 1) (take at xs ++ (ys ++ drop (at + length ys) xs)))
    ≡ take at xs ++ (us ++ drop (at + length us) xs)
next_bytes xs ys us low at q b place one all h = rw (place, one, all) (one_more xs ys at b h)

low_one : (b : ℕ) → b < 256 → low_bytes 1 b ≡ b ∷ []
unfolding low_bytes
low_one b h = let e : b % 256 ≡ b = omega arith in rw e refl

pub bytes_next : (m : Memory) (address i b : ℕ) (bs : List ℕ) → IsLaidOut m → IsWithin 4096 m.statics address (length bs) → i < length bs → b ≡ get_or bs i 0 → b < 256 →
    with_field (with_bytes m address (take i bs)) (address + i) 1 b ≡ with_bytes m address (take (i + 1) bs)
bytes_next m address i b bs laid_out inside h is small =
    let long : length (take i bs) ≡ i = length-take-le i bs (omega arith) in
    let place : index m (address + i) ≡ index m address + length (take i bs) = index_step m address (length bs) i laid_out inside h ∙ ap (λ (k : ℕ). index m address + k) (sym long) in
    let e : i + 1 ≡ suc i = omega arith in
    let all : take (i + 1) bs ≡ take i bs ++ b ∷ [] = ap (λ (k : ℕ). take k bs) e ∙ take-suc bs i 0 h ∙ ap (λ (x : ℕ). take i bs ++ x ∷ []) (sym is) in
    ap (λ (bytes : List ℕ). let n : Memory = record m { bytes = bytes } in n)
    (next_bytes m.bytes (take i bs) (take (i + 1) bs) (low_bytes 1 b) (index m address) (index m (address + i)) b place (low_one b small) all
    (omega (arith, long, index_fits m address (length bs) laid_out inside (omega arith))))

pub bytes_none : (m : Memory) (address : ℕ) → with_bytes m address [] ≡ m
bytes_none m address =
    let e : index m address + 0 ≡ index m address = omega arith in
    ap (λ (bytes : List ℕ). let n : Memory = record m { bytes = bytes } in n)
    (ap (λ (k : ℕ). take (index m address) m.bytes ++ drop k m.bytes) e ∙ take-append-drop (index m address) m.bytes)

pub byte_inside : (m n : Memory) (address i k : ℕ) → KeepsRanges m n → IsWithin 4096 m.statics address k → i < k → IsWithin 4096 n.statics (address + i) 1
byte_inside m n address i k kept inside h = record { begins = omega (arith, inside.begins); ends = omega (arith, inside.ends, kept.statics) }

-- ---- objects and pointers one after another

same_given : (b c : ℕ) (xs ys : List StaticRow) (m n : Memory) → b ≡ c → xs ≡ ys → m ≡ n → with_given b xs m ≡ with_given c ys n
same_given b c xs ys m n e f g = cc

pub given_next : (rows : List StaticRow) (i : ℕ) (m n : Memory) → i < length rows → n ≡ with_bytes m (4096 + static_blocks (take i rows)) (static_at rows i).given →
    with_given (4096 + static_blocks (take i rows)) (drop i rows) m ≡ with_given (4096 + static_blocks (take (i + 1) rows)) (drop (i + 1) rows) n
given_next rows i m n h is =
    let base : ℕ = 4096 + static_blocks (take i rows) in
    let here : drop i rows ≡ static_at rows i ∷ drop (suc i) rows = drop-cons rows i no_static h in
    let e : suc i ≡ i + 1 = omega arith in
    let next : base + block (static_at rows i).size ≡ 4096 + static_blocks (take (i + 1) rows) = omega (arith, blocks_step rows i h) in
    ap (λ (rs : List StaticRow). with_given base rs m) here
    ∙ same_given (base + block (static_at rows i).size) (4096 + static_blocks (take (i + 1) rows)) (drop (suc i) rows) (drop (i + 1) rows) (with_bytes m base (static_at rows i).given) n next (ap (λ (k : ℕ). drop k rows) e) (sym is)

same_pointers : (statics : List StaticRow) (xs ys : List PointerRow) (m n : Memory) → xs ≡ ys → m ≡ n → with_pointers statics xs m ≡ with_pointers statics ys n
same_pointers statics xs ys m n f g = cc

pub pointers_next : (statics : List StaticRow) (rows : List PointerRow) (i : ℕ) (m n : Memory) → i < length rows → n ≡ with_pointer statics (pointer_at rows i) m →
    with_pointers statics (drop i rows) m ≡ with_pointers statics (drop (i + 1) rows) n
pointers_next statics rows i m n h is =
    let here : drop i rows ≡ pointer_at rows i ∷ drop (suc i) rows = drop-cons rows i no_pointer h in
    let e : suc i ≡ i + 1 = omega arith in
    ap (λ (rs : List PointerRow). with_pointers statics rs m) here
    ∙ same_pointers statics (drop (suc i) rows) (drop (i + 1) rows) (with_pointer statics (pointer_at rows i) m) n (ap (λ (k : ℕ). drop k rows) e) (sym is)

-- the given bytes of an object lie among all blocks
pub given_inside : (rows : List StaticRow) (m : Memory) (i base : ℕ) → AreSound most_statics (length rows) (IsStaticSound rows) → m.statics ≡ static_blocks rows → i < length rows → base ≡ 4096 + static_blocks (take i rows) →
    IsWithin 4096 m.statics base (length (static_at rows i).given)
given_inside rows m i base sound all h is = record {
  begins = omega (arith, is);
  ends = omega (arith, is, all, (sound.each i h).given, blocks_step rows i h, blocks_most rows (i + 1));
}
