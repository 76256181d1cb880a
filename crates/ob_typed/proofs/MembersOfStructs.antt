-- Members of complete structures lie in them and have types with a size (C99 6.7.2.1).
use Rattle.std.proofs.Common.{◌≡◌, ◌≤◌, ℕ, ◌+◌, Bool, true, false, Option, Some, None, List, [], ◌∷◌, length, slice_get, refl, sym, ap, arith, ◌∙◌, ⊎_elim, subst}
use Rattle.std.specs.Prelude.{if◌then◌else◌, option_and_then}
use Rattle.std.specs.Option.{is_some}
use Rattle.std.specs.Str.{bytes_eq}
use Rattle.std.proofs.lemmas.Option.{none-some}
use Rattle.ob_tree.proofs.KeptLayouts.{depth_below, where_some}
use Rattle.ob_tree.specs.Sizes.{IsComplete, Layout, MemberPlace, appended, has_size, laid, layout, member, member_from, members_layout, most_bytes, next_offset, no_layout, round_up, row_layout, row_member, struct_layout, type_layout}
use Rattle.ob_tree.specs.Types.{PlainMember, PlainStruct, PlainStructs, PlainType, unknown_struct}
use Rattle.ob_tree.specs.Types.{PlainType as type}
use Rattle.ob_typed.specs.Completeness.{is_object_type}
use Rattle.ob_typed.proofs.ConvertedValues.{IsPlaceType}
use Rattle.ob_typed.proofs.GrowingStructs.{AreSound, IsSoundRow, fits_few, has_layout, object_sized}

-- ---- types with a size

sized_place : (known : ℕ → Option Layout) (t : PlainType) → is_some (type_layout known t) ≡ true → IsPlaceType t
sized_place known type.Void h = absurd (cc)
sized_place known (type.Int k) h = tt
sized_place known (type.Pointer t) h = tt
sized_place known (type.Array t n) h = tt
sized_place known (type.Struct n) h = tt

pub place_of_sized : (s : PlainStructs) (t : PlainType) → has_size s t ≡ true → IsPlaceType t
place_of_sized s t h = sized_place (struct_layout (length s) s) t h

pub place_of_object : (s : PlainStructs) (t : PlainType) → is_object_type s t ≡ true → IsPlaceType t
place_of_object s t h = place_of_sized s t (object_sized s t h)

-- ---- members

-- members that follow make a structure no smaller, and each has a layout
pub then_laid : (f : Layout → Option Layout) (o : Option Layout) (r : Layout) → option_and_then f o ≡ Some r → (is_some o ≡ true) × (f (laid o) ≡ Some r)
then_laid f None r is = absurd (none-some r is)
then_laid f (Some x) r is = (refl, is)

no_smaller : (known : ℕ → Option Layout) (l : Layout) (ms : List PlainMember) (r : Layout) → members_layout known l ms ≡ Some r → l.size ≤ r.size
no_smaller known l [] r is = let h : round_up l.size l.align ≡ r.size = ap (λ (o : Option Layout). (laid o).size) is in omega arith
no_smaller known l (m ∷ ms) r is =
    let first = then_laid (λ p. members_layout known (appended l p) ms) (type_layout known m.ty) r is in
    let rest = no_smaller known (appended l (laid (type_layout known m.ty))) ms r first.1 in
    omega arith

abbrev pub IsMember : ℕ → Option MemberPlace → Type 0
IsMember most None = Unit {0}
IsMember most (Some p) = IsPlaceType p.ty × (p.offset ≤ most)

either_member : (b : Bool) (most : ℕ) (p : MemberPlace) (after : Option MemberPlace) → IsMember most (Some p) → IsMember most after → IsMember most (if b then Some p else after)
either_member true most p after h i = h
either_member false most p after h i = i

from_typed : (known : ℕ → Option Layout) (l : Layout) (i : ℕ) (ms : List PlainMember) (name : List ℕ) (r : Layout) → members_layout known l ms ≡ Some r → IsMember r.size (member_from known l i ms name)
from_typed known l i [] name r is = tt
from_typed known l i (m ∷ ms) name r is =
    let p = laid (type_layout known m.ty) in
    let first = then_laid (λ p. members_layout known (appended l p) ms) (type_layout known m.ty) r is in
    let rest = no_smaller known (appended l p) ms r first.1 in
    either_member (bytes_eq m.name name) r.size (record { offset = next_offset l p; index = i; ty = m.ty }) (member_from known (appended l p) (i + 1) ms name)
    (sized_place known m.ty first.0, omega arith)
    (from_typed known (appended l p) (i + 1) ms name r first.1)

-- the members of a complete structure have their layouts at the full depth
pub whole_members : (s : PlainStructs) (n : ℕ) (r : PlainStruct) (l : Layout) → slice_get s n ≡ Some r → layout s (type.Struct n) ≡ Some l → members_layout (struct_layout (length s) s) no_layout r.members ≡ Some l
whole_members s n r l at is =
    let deeper : row_layout (struct_layout (length s) s) (slice_get s n) ≡ Some l = depth_below (length s) s n l is in
    where_some r.complete (members_layout (struct_layout (length s) s) no_layout r.members) l (ap (row_layout (struct_layout (length s) s)) (sym at) ∙ deeper)

more_member : (few most : ℕ) (o : Option MemberPlace) → few ≤ most → IsMember few o → IsMember most o
more_member few most None h i = tt
more_member few most (Some p) h i = let within = i.1 in (i.0, omega arith)

-- a member that is found lies within the greatest object, and isn't of type `void`
pub member_typed : (s : PlainStructs) (n : ℕ) (name : List ℕ) → AreSound s → IsMember most_bytes (member s n name)
member_typed s n name sound = of_row (slice_get s n) refl (sound.each n)
  where
    of_row : (o : Option PlainStruct) → slice_get s n ≡ o → IsSoundRow s n o → IsMember most_bytes (row_member (struct_layout (length s) s) o name)
    of_row None is h = tt
    of_row (Some r) is h =
        ⊎_elim
        (λ (bare : r ≡ unknown_struct). subst (λ (x : PlainStruct). IsMember most_bytes (row_member (struct_layout (length s) s) (Some x) name)) (sym bare) tt)
        (λ (whole : (r.complete ≡ true) × IsComplete s (type.Struct n)).
        let l = laid (layout s (type.Struct n)) in
        let all = whole_members s n r l is (has_layout s (type.Struct n) whole.1) in
        more_member l.size most_bytes (member_from (struct_layout (length s) s) no_layout 0 r.members name) (fits_few (layout s (type.Struct n)) whole.1)
        (from_typed (struct_layout (length s) s) no_layout 0 r.members name l all))
        h
