-- Offsets that are counted with capped layouts are those of the definition.
use Rattle.std.proofs.Common.{◌≡◌, ℕ, suc, ◌+◌, ◌<◌, ◌≤◌, Option, Some, None, List, [], ◌∷◌, ◌++◌, length, drop, map, refl, sym, ap, arith, ◌∙◌, add-one, slice_get, slice_index_or, append_assoc}
use Rattle.std.specs.Prelude.{min}
use Rattle.std.proofs.Math.Seq.{drop-cons}
use Rattle.std.proofs.lemmas.List.{map-append}
use Rattle.ob_tree.specs.declared.types.MemberRow.{MemberRow}
use Rattle.ob_tree.specs.Types.{PlainType, PlainMember, PlainStruct, PlainStructs}
use Rattle.ob_tree.specs.TypeView.{plain_type, plain_member}
use Rattle.ob_tree.specs.Sizes.{IsComplete, Layout, laid, layout, appended, next_offset, no_layout, type_layout, members_layout, struct_layout, most_bytes}
use Rattle.ob_layout.specs.Capped.{capped, cap, cut}
use Rattle.ob_layout.specs.Offsets.{offsets, offsets_from, row_offsets}
use Rattle.ob_layout.proofs.Caps.{capped_appended, capped_appended_before}
use Rattle.ob_layout.proofs.Depths.{complete_members, grows, then_some}
use Rattle.ob_layout.proofs.Found.{min_offset}
use Rattle.ob_layout.proofs.Layouts.{fits_known, fits_within}

pair : (x y : ℕ) (xs ys : List ℕ) → x ≡ y → xs ≡ ys → x ∷ xs ≡ y ∷ ys
pair x y xs ys h k = ap (λ n. n ∷ xs) h ∙ ap (λ ns. y ∷ ns) k

offsets_capped : (known : ℕ → Option Layout) (l : Layout) (ms : List PlainMember) → map cut (offsets_from known (capped l) ms) ≡ map cut (offsets_from known l ms)
offsets_capped known l [] = refl
offsets_capped known l (m ∷ ms) =
    let p = laid (type_layout known m.ty) in
    pair (cut (next_offset (capped l) p)) (cut (next_offset l p)) (map cut (offsets_from known (appended (capped l) p) ms)) (map cut (offsets_from known (appended l p) ms))
    (min_offset l p)
    (sym (offsets_capped known (appended (capped l) p) ms)
    ∙ ap (λ x. map cut (offsets_from known x ms)) (capped_appended_before l p)
    ∙ offsets_capped known (appended l p) ms)

-- one member
step : (known : ℕ → Option Layout) (l p r : Layout) (offset : ℕ) (m : PlainMember) (ms : List PlainMember) →
    p ≡ capped (laid (type_layout known m.ty)) → offset ≡ next_offset l p → r ≡ capped (appended l p) →
    map cut (offsets_from known l (m ∷ ms)) ≡ cut offset ∷ map cut (offsets_from known r ms)
step known l p r offset m ms is at grown =
    let q = laid (type_layout known m.ty) in
    pair (cut (next_offset l q)) (cut offset) (map cut (offsets_from known (appended l q) ms)) (map cut (offsets_from known r ms))
    (ap cut (ap (λ x. next_offset l x) (sym is) ∙ sym at))
    (sym (offsets_capped known (appended l q) ms)
    ∙ ap (λ x. map cut (offsets_from known x ms)) (sym (capped_appended l q) ∙ ap (λ x. capped (appended l x)) (sym is) ∙ sym grown))

dropped : (known : ℕ → Option Layout) (l : Layout) (xs : List MemberRow) (i : ℕ) (m : MemberRow) → i < length xs → m ≡ slice_index_or xs i m →
    offsets_from known l (map plain_member (drop i xs)) ≡ offsets_from known l (plain_member m ∷ map plain_member (drop (i + 1) xs))
dropped known l xs i m within is =
    ap (λ ys. offsets_from known l (map plain_member ys)) (drop-cons xs i m within)
    ∙ ap (λ (x : MemberRow). offsets_from known l (plain_member x ∷ map plain_member (drop (suc i) xs))) (sym is)
    ∙ ap (λ n. offsets_from known l (plain_member m ∷ map plain_member (drop n xs))) (sym (add-one i))

-- one turn over the members of a row
pub turn : (known : ℕ → Option Layout) (all : List ℕ) (before after : List ℕ) (l p r : Layout) (offset : ℕ) (xs : List MemberRow) (i : ℕ) (m : MemberRow) → i < length xs → m ≡ slice_index_or xs i m →
    all ≡ map cut before ++ map cut (offsets_from known l (map plain_member (drop i xs))) → after ≡ before ++ offset ∷ [] →
    p ≡ capped (laid (type_layout known (plain_type m.ty))) → offset ≡ next_offset l p → r ≡ capped (appended l p) →
    all ≡ map cut after ++ map cut (offsets_from known r (map plain_member (drop (i + 1) xs)))
turn known all before after l p r offset xs i m within is so more h at k =
    let rest = map cut (offsets_from known r (map plain_member (drop (i + 1) xs))) in
    so
    ∙ ap (λ ys. map cut before ++ map cut ys) (dropped known l xs i m within is)
    ∙ ap (λ ys. map cut before ++ ys) (step known l p r offset (plain_member m) (map plain_member (drop (i + 1) xs)) h at k)
    ∙ sym (append_assoc (map cut before) (cut offset ∷ []) rest)
    ∙ ap (λ ys. ys ++ rest) (sym (ap (map cut) more ∙ map-append cut before (offset ∷ [])))

-- the offsets of a structure's members aren't past its end
abbrev Within : List ℕ → (most : ℕ) → Type 0
Within [] n = Unit {0}
Within (x ∷ xs) n = (x ≤ n) × Within xs n

in_size : (known : ℕ → Option Layout) (l : Layout) (ms : List PlainMember) (r : Layout) → members_layout known l ms ≡ Some r → Within (offsets_from known l ms) r.size
in_size known l [] r is = tt
in_size known l (m ∷ ms) r is =
    let p = laid (type_layout known m.ty) in
    let h = then_some (λ p. members_layout known (appended l p) ms) (type_layout known m.ty) r is in
    let k = grows known (appended l p) ms r h in
    (omega arith, in_size known (appended l p) ms r h)

abbrev head_or : List ℕ → ℕ
head_or [] = 0
head_or (x ∷ xs) = x

abbrev tail_of : List ℕ → List ℕ
tail_of [] = []
tail_of (x ∷ xs) = xs

exact : (xs ys : List ℕ) (n : ℕ) → Within ys n → n ≤ most_bytes → map cut xs ≡ map cut ys → xs ≡ ys
exact [] [] n h few is = refl
exact [] (y ∷ ys) n h few is = absurd cc
exact (x ∷ xs) [] n h few is = absurd cc
exact (x ∷ xs) (y ∷ ys) n h few is =
    let first : min x cap ≡ min y cap = ap head_or is in
    let same : x ≡ y = omega (arith, h.0) in
    pair x y xs ys same (exact xs ys n h.1 few (ap tail_of is))

-- the offsets of a complete structure, from the capped ones of its row
pub complete_offsets : (s : PlainStructs) (n : ℕ) (row : PlainStruct) (all : List ℕ) → slice_get s n ≡ Some row → IsComplete s (PlainType.Struct n) →
    map cut all ≡ map cut (offsets_from (struct_layout (length s) s) no_layout row.members) →
    all ≡ offsets s n
complete_offsets s n row all at complete is =
    let o = layout s (PlainType.Struct n) in
    let l = laid o in
    let known = struct_layout (length s) s in
    let whole = complete_members s n row l at (fits_known o complete) in
    let inside = in_size known no_layout row.members l whole in
    exact all (offsets_from known no_layout row.members) l.size inside (fits_within o complete) is ∙ ap (row_offsets known) (sym at)

pub no_offsets : (s : PlainStructs) (n : ℕ) → slice_get s n ≡ None → [] ≡ offsets s n
no_offsets s n at = ap (row_offsets (struct_layout (length s) s)) (sym at)
