-- The members of a structure, one after another, by where the one before ends.
use Rattle.std.proofs.Common.{◌≡◌, ℕ, zero, suc, ◌+◌, ◌*◌, Option, Some, None, List, [], ◌∷◌, drop, slice_get, option_map, map, refl, sym, ap, ◌∙◌, arith}
use Rattle.ob_tree.specs.Types.{PlainType, PlainMember, PlainStruct, PlainStructs}
use Rattle.ob_tree.specs.Sizes.{Layout, appended, laid, layout, next_offset, no_layout}
use Rattle.ob_tree.specs.Parts.{Part, element_part, member_part, row_part}
use Rattle.std.specs.Prelude.{if◌then◌else◌}
use Rattle.ob_tree.specs.Sizes.{size}
use Rattle.ob_consts.specs.Placing.{is_element, members_of, next_end, next_part, sized}

-- only the bytes before members count for their places
size-only : (s : PlainStructs) (l k : Layout) (ms : List PlainMember) (j : ℕ) → l.size ≡ k.size → member_part s l ms j ≡ member_part s k ms j
size-only s l k [] j h = refl
size-only s l k (m ∷ ms) zero h = ap (λ n. Some (record { offset = next_offset (sized n) (laid (layout s m.ty)); ty = m.ty })) h
size-only s l k (m ∷ ms) (suc j) h =
    size-only s (appended l (laid (layout s m.ty))) (appended k (laid (layout s m.ty))) ms j
    (ap (λ n. next_offset (sized n) (laid (layout s m.ty)) + (laid (layout s m.ty)).size) h)

first-part : (s : PlainStructs) (n : ℕ) (ms : List PlainMember) (i : ℕ) → member_part s (sized n) (drop i ms) 0 ≡ next_part s n (slice_get ms i)
first-part s n [] zero = refl
first-part s n [] (suc i) = refl
first-part s n (m ∷ ms) zero = refl
first-part s n (m ∷ ms) (suc i) = first-part s n ms i

later-part : (s : PlainStructs) (n : ℕ) (ms : List PlainMember) (i j : ℕ) → member_part s (sized n) (drop i ms) (suc j) ≡ member_part s (sized (next_end s n (slice_get ms i))) (drop (suc i) ms) j
later-part s n [] zero j = refl
later-part s n [] (suc i) j = refl
later-part s n (m ∷ ms) zero j = size-only s (appended (sized n) (laid (layout s m.ty))) (sized (next_end s n (Some m))) ms j refl
later-part s n (m ∷ ms) (suc i) j = later-part s n ms i j

-- the members from number i on, behind so many bytes, are those of the row
abbrev pub Follow : PlainStructs → Option PlainStruct → (i n : ℕ) → Type 0
Follow s r i n = (j : ℕ) → row_part s r (i + j) ≡ member_part s (sized n) (drop i (members_of r)) j

pub follow-start : (s : PlainStructs) (r : Option PlainStruct) → Follow s r 0 0
follow-start s None j = refl
follow-start s (Some r) j =
    let e : 0 + j ≡ j = omega arith in
    ap (row_part s (Some r)) e ∙ size-only s no_layout (sized 0) r.members j refl

pub follow-part : (s : PlainStructs) (r : Option PlainStruct) (i n : ℕ) (o : Option PlainMember) → o ≡ slice_get (members_of r) i → Follow s r i n → next_part s n o ≡ row_part s r i
follow-part s r i n o is h =
    let e : i + 0 ≡ i = omega arith in
    ap (next_part s n) is ∙ sym (first-part s n (members_of r) i) ∙ sym (h 0) ∙ ap (row_part s r) e

pub follow-turn : (s : PlainStructs) (r : Option PlainStruct) (i n m : ℕ) (o : Option PlainMember) → o ≡ slice_get (members_of r) i → m ≡ next_end s n o → Follow s r i n → Follow s r (i + 1) m
follow-turn s r i n m o is end h j =
    let e : i + 1 + j ≡ i + suc j = omega arith in
    let d : suc i ≡ i + 1 = omega arith in
    ap (row_part s r) e ∙ h (suc j) ∙ later-part s n (members_of r) i j
    ∙ ap (λ k. member_part s (sized k) (drop (suc i) (members_of r)) j) (ap (next_end s n) (sym is) ∙ sym end)
    ∙ ap (λ k. member_part s (sized m) (drop k (members_of r)) j) d

pub element-is : (s : PlainStructs) (t : PlainType) (count i : ℕ) → element_part s t count i ≡ (if is_element count i then Some (record { offset = i * size s t; ty = t }) else None)
element-is s t zero i = refl
element-is s t (suc n) i = refl
