-- Bytes that were written to a granule are read back.
use Rattle.std.proofs.Common.{◌≡◌, ◌==◌, ℕ, suc, ◌+◌, ◌≤◌, true, List, [], ◌∷◌, ◌++◌, length, map, take, drop, replicate, Option, Some, arith, refl, ◌∙◌, ap, subst}
use Rattle.std.specs.Option.{option_map}
use Rattle.std.proofs.lemmas.Bool.Decides.{nat_tests}
use Rattle.std.proofs.lemmas.List.{length-take-le, take-map, drop-map, map-append}
use Rattle.std.proofs.Math.Seq.{take-append_seam, drop-append_seam}
use Rattle.ob_words.specs.Fields.{from_bytes}
use Rattle.ob_model.specs.Cells.{Content, set_bytes, put_bytes, has_eight, with_byte, read_number, read_pointer, written, pointer, bytes}

set_bytes-map : (bs : List ℕ) → set_bytes (map Some bs) ≡ Some bs
set_bytes-map [] = refl
set_bytes-map (b ∷ bs) = ap (with_byte (Some b)) (set_bytes-map bs)

take_front : {A : Type 0} (n : ℕ) (xs ys : List A) → length xs ≡ n → take n (xs ++ ys) ≡ xs
take_front n xs ys e = subst (λ k. take k (xs ++ ys) ≡ xs) e (take-append_seam xs ys)

drop_front : {A : Type 0} (n : ℕ) (xs ys : List A) → length xs ≡ n → drop n (xs ++ ys) ≡ ys
drop_front n xs ys e = subst (λ k. drop k (xs ++ ys) ≡ ys) e (drop-append_seam xs ys)

length_some : (bs : List ℕ) → length (map Some bs) ≡ length bs
length_some [] = refl
length_some (b ∷ bs) = ap suc (length_some bs)

put_is_read : (place : ℕ) (bs : List ℕ) (es : List (Option ℕ)) → place + length bs ≤ length es → set_bytes (take (length bs) (drop place (put_bytes place bs es))) ≡ Some bs
put_is_read place bs es fits =
    ap (λ l. set_bytes (take (length bs) l)) (drop_front place (take place es) (map Some bs ++ drop (place + length bs) es) (length-take-le place es (omega arith)))
    ∙ (ap set_bytes (take_front (length bs) (map Some bs) (drop (place + length bs) es) (length_some bs)) ∙ set_bytes-map bs)

eight : (es : List (Option ℕ)) → (length es == 8) ≡ true → length es ≡ 8
eight es h = grind (arith, nat_tests)

pub written_is_read : (place : ℕ) (bs : List ℕ) (c : Content ℕ) → has_eight c ≡ true → place + length bs ≤ 8 → read_number (length bs) place (written place bs c) ≡ Some (from_bytes bs)
written_is_read place bs (pointer p) h fits = ap (option_map from_bytes) (put_is_read place bs (replicate 8 (Some 0)) fits)
written_is_read place bs (bytes es) h fits =
    let n : length es ≡ 8 = eight es h in
    ap (option_map from_bytes) (put_is_read place bs es (omega arith))

-- all bytes are set where bytes are put among set ones
put_among : (place : ℕ) (bs zs : List ℕ) → put_bytes place bs (map Some zs) ≡ map Some (take place zs ++ (bs ++ drop (place + length bs) zs))
put_among place bs zs = simp (map-append, take-map, drop-map)

pub pointer_is_gone : (place p null : ℕ) (bs : List ℕ) → read_pointer null (written place bs (pointer p)) ≡ Some null
pointer_is_gone place p null bs = ap (λ l. option_map (λ (_ : List ℕ). null) (set_bytes l)) (put_among place bs (replicate 8 0)) ∙ ap (option_map (λ (_ : List ℕ). null)) (set_bytes-map (take place (replicate 8 0) ++ (bs ++ drop (place + length bs) (replicate 8 0))))
