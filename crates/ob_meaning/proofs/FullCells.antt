-- Granules with no unset byte stay so when they are written.
use Rattle.std.proofs.Common.{◌≡◌, ℕ, suc, ◌+◌, ◌/◌, ◌≤◌, ◌==◌, ◌&&◌, Bool, true, false, ℤ, List, [], ◌∷◌, ◌++◌, length, map, take, drop, replicate, Option, Some, None, is_some, arith, refl, sym, ◌∙◌, ap, length-append}
use Rattle.std.proofs.lemmas.Bool.Decides.{nat_tests}
use Rattle.std.proofs.lemmas.List.{length-take-le, length-drop, take-map, drop-map, map-append}
use Rattle.ob_model.specs.declared.values.LoadKind.{LoadKind}
use Rattle.ob_model.specs.declared.values.LoadKind.TheVariants.{Num, Ptr}
use Rattle.ob_model.specs.declared.values.Value.{Value}
use Rattle.ob_model.specs.Accesses.{bytes_of_kind, place_in_granule}
use Rattle.ob_model.specs.Cells.{bytes, has_eight, pointer, put_bytes, set_bytes, with_byte, written}
use Rattle.ob_words.specs.Fields.{low_bytes}
use Rattle.ob_words.specs.Types.{width}
use Rattle.ob_words.specs.Words.{word}
use Rattle.ob_words.proofs.Writes.{length-low_bytes}
use Rattle.ob_meaning.specs.MemoryLaws.{is_full}
use Rattle.ob_meaning.specs.Values.{Cell, number_of, write_cell}

-- bytes that are all set
pub all_set : (zs : List ℕ) → set_bytes (map Some zs) ≡ Some zs
all_set [] = refl
all_set (z ∷ zs) = ap (with_byte (Some z)) (all_set zs)

with_byte_is : (e : Option ℕ) (r : Option (List ℕ)) → is_some (with_byte e r) ≡ true → (z : ℕ) × (zs : List ℕ) × (e ≡ Some z) × (r ≡ Some zs)
with_byte_is (Some z) (Some zs) h = (z, zs, refl, refl)
with_byte_is (Some z) None h = absurd (cc)
with_byte_is None r h = absurd (cc)

pub set_are : (es : List (Option ℕ)) → is_some (set_bytes es) ≡ true → (zs : List ℕ) × (es ≡ map Some zs)
set_are [] h = ([], refl)
set_are (e ∷ es) h =
    let parts = with_byte_is e (set_bytes es) h in
    let some : is_some (set_bytes es) ≡ true = ap is_some parts.3 in
    let rest = set_are es some in
    (parts.0 ∷ rest.0, ap (λ x. x ∷ es) parts.2 ∙ ap (λ l. Some parts.0 ∷ l) rest.1)

length_some : (zs : List ℕ) → length (map Some zs) ≡ length zs
length_some [] = refl
length_some (z ∷ zs) = ap suc (length_some zs)

and_parts : (a b : Bool) → (a && b) ≡ true → (a ≡ true) × (b ≡ true)
and_parts true b h = (refl, h)
and_parts false b h = absurd (cc)

pub all_full : (zs : List ℕ) → length zs ≡ 8 → is_full (bytes (map Some zs)) ≡ true
all_full zs h =
    let eight : (length (map Some zs) == 8) ≡ true = grind (arith, nat_tests, length_some zs) in
    rw (eight, all_set zs) refl

put_among : (place : ℕ) (bs zs : List ℕ) → put_bytes place bs (map Some zs) ≡ map Some (take place zs ++ (bs ++ drop (place + length bs) zs))
put_among place bs zs = simp (map-append, take-map, drop-map)

put_length : (place : ℕ) (bs zs : List ℕ) → length zs ≡ 8 → place + length bs ≤ 8 → length (take place zs ++ (bs ++ drop (place + length bs) zs)) ≡ 8
put_length place bs zs h fits =
    let front : length (take place zs) ≡ place = length-take-le place zs (omega arith) in
    simp (length-append, length-drop, front) (omega arith)

put_full : (place : ℕ) (bs : List ℕ) (es : List (Option ℕ)) → length es ≡ 8 → is_some (set_bytes es) ≡ true → place + length bs ≤ 8 → is_full (bytes (put_bytes place bs es)) ≡ true
put_full place bs es h set fits =
    let is = set_are es set in
    let eight : length is.0 ≡ 8 = sym (length_some is.0) ∙ ap length (sym is.1) ∙ h in
    ap (λ (l : List (Option ℕ)). is_full (bytes (put_bytes place bs l))) is.1
    ∙ ap (λ (l : List (Option ℕ)). is_full (bytes l)) (put_among place bs is.0)
    ∙ all_full (take place is.0 ++ (bs ++ drop (place + length bs) is.0)) (put_length place bs is.0 eight fits)

pub full_eight : (c : Cell) → is_full c ≡ true → has_eight c ≡ true
full_eight (pointer p) h = refl
full_eight (bytes es) h = (and_parts (length es == 8) (is_some (set_bytes es)) h).0

pub full_set : (es : List (Option ℕ)) → is_full (bytes es) ≡ true → is_some (set_bytes es) ≡ true
full_set es h = (and_parts (length es == 8) (is_some (set_bytes es)) h).1

written_full : (place : ℕ) (bs : List ℕ) (c : Cell) → is_full c ≡ true → place + length bs ≤ 8 → is_full (written place bs c) ≡ true
written_full place bs (pointer p) h fits = put_full place bs (replicate 8 (Some 0)) refl refl fits
written_full place bs (bytes es) h fits =
    let parts = and_parts (length es == 8) (is_some (set_bytes es)) h in
    let eight : (length es == 8) ≡ true = parts.0 in
    put_full place bs es (grind (arith, nat_tests)) parts.1 fits

pub write_full : (kind : LoadKind) (o : ℤ) (v : Value) (c : Cell) → is_full c ≡ true → place_in_granule o + bytes_of_kind kind ≤ 8 → is_full (write_cell kind o v c) ≡ true
write_full (Num t) o v c h fits =
    written_full (place_in_granule o) (low_bytes (width t / 8) (word (number_of v))) c h (omega (arith, length-low_bytes (width t / 8) (word (number_of v))))
write_full Ptr o v c h fits = refl
