-- The list of a type's scalars is as long as its layout says.
use Rattle.std.proofs.Common.{◌≡◌, ℕ, zero, suc, ◌+◌, ◌*◌, Bool, true, false, List, [], ◌∷◌, ◌++◌, length, Option, Some, None, if◌then◌else◌, IsTrue, arith, refl, sym, ◌∙◌, ap, length-append, slice_get}
use Rattle.std.specs.Option.{option_map, option_and_then}
use Rattle.ob_tree.specs.Sizes.{Layout, appended, fits_object, laid, layout, members_layout, next_offset, no_layout, padded, repeated, row_layout, size, struct_layout, type_layout}
use Rattle.ob_tree.specs.Types.{PlainType, PlainMember, PlainStruct, PlainStructs}
use Rattle.ob_tree.specs.Types.PlainType.{Void, Int, Pointer, Array, Struct}
use Rattle.ob_meaning.specs.Scalars.{Scalar, elements_scalars, member_layout, members_scalars, row_scalars, scalars_of, struct_scalars, type_scalars}
use Rattle.ob_meaning.specs.TypeLaws.{ScalarsAreCounted}

-- the scalars of a structure are as many as its layout says, where it has one
abbrev AreCounted : (ℕ → Option Layout) → (ℕ → ℕ → List Scalar) → Type 0
AreCounted known each = (number offset : ℕ) (l : Layout) → known number ≡ Some l → length (each number offset) ≡ l.scalars

counted_elements : (each : ℕ → List Scalar) (bytes k n offset : ℕ) → ((o : ℕ) → length (each o) ≡ k) → length (elements_scalars each bytes n offset) ≡ k * n
counted_elements each bytes k zero offset same = omega arith
counted_elements each bytes k (suc n) offset same =
    let rest = counted_elements each bytes k n (offset + bytes) same in
    let first = same offset in
    let both : length (elements_scalars each bytes (suc n) offset) ≡ length (each offset) + length (elements_scalars each bytes n (offset + bytes)) = length-append (each offset) (elements_scalars each bytes n (offset + bytes)) in
    omega (arith, both, first, rest)

some_layout : (l m : Layout) → Some l ≡ Some m → l.scalars ≡ m.scalars
some_layout l m e = ap (λ (x : Option Layout). (laid x).scalars) e

counted_type : (known : ℕ → Option Layout) (each : ℕ → ℕ → List Scalar) (structs : PlainStructs) → AreCounted known each → (t : PlainType) (offset : ℕ) (l : Layout) → type_layout known t ≡ Some l → length (type_scalars each structs t offset) ≡ l.scalars
counted_type known each structs counted Void offset l e = absurd (cc)
counted_type known each structs counted (Int t) offset l e = some_layout _ l e
counted_type known each structs counted (Pointer t) offset l e = some_layout _ l e
counted_type known each structs counted (Struct number) offset l e = counted number offset l e
counted_type known each structs counted (Array t n) offset l e =
    of_element (type_layout known t) e (λ m h o. counted_type known each structs counted t o m h) refl
  where
    of_element : (inner : Option Layout) → option_map (λ x. repeated x n) inner ≡ Some l → ((m : Layout) → type_layout known t ≡ Some m → (o : ℕ) → length (type_scalars each structs t o) ≡ m.scalars) → type_layout known t ≡ inner → length (elements_scalars (type_scalars each structs t) (size structs t) n offset) ≡ l.scalars
    of_element None h ih is = absurd (cc)
    of_element (Some m) h ih is =
        counted_elements (type_scalars each structs t) (size structs t) m.scalars n offset (ih m is) ∙ some_layout (repeated m n) l h

counted_members : (known : ℕ → Option Layout) (each : ℕ → ℕ → List Scalar) (structs : PlainStructs) → AreCounted known each → (ms : List PlainMember) (before at : Layout) (offset : ℕ) (l : Layout) → members_layout known before ms ≡ Some l → before.scalars + length (members_scalars each structs at ms offset) ≡ l.scalars
counted_members known each structs counted [] before at offset l e =
    let same : before.scalars ≡ l.scalars = some_layout (padded before) l e in
    omega arith
counted_members known each structs counted (m ∷ ms) before at offset l e =
    of_member (type_layout known m.ty) e refl (λ p. counted_members known each structs counted ms (appended before p) (appended at (member_layout structs m)) offset l)
  where
    of_member : (inner : Option Layout) → option_and_then (λ p. members_layout known (appended before p) ms) inner ≡ Some l → type_layout known m.ty ≡ inner → ((p : Layout) → members_layout known (appended before p) ms ≡ Some l → (before.scalars + p.scalars) + length (members_scalars each structs (appended at (member_layout structs m)) ms offset) ≡ l.scalars) → before.scalars + length (members_scalars each structs at (m ∷ ms) offset) ≡ l.scalars
    of_member None h is ih = absurd (cc)
    of_member (Some p) h is ih =
        let first : List Scalar = type_scalars each structs m.ty (offset + next_offset at (member_layout structs m)) in
        let rest : List Scalar = members_scalars each structs (appended at (member_layout structs m)) ms offset in
        let one : length first ≡ p.scalars = counted_type known each structs counted m.ty (offset + next_offset at (member_layout structs m)) p is in
        let both : length (first ++ rest) ≡ length first + length rest = length-append first rest in
        let more = ih p h in
        omega (arith, one, both, more)

counted_structs : (depth : ℕ) (structs : PlainStructs) → AreCounted (struct_layout depth structs) (struct_scalars depth structs)
counted_structs zero structs number offset l e = absurd (cc)
counted_structs (suc depth) structs number offset l e =
    of_row (slice_get structs number) e (counted_structs depth structs)
  where
    of_complete : (complete : Bool) (r : PlainStruct) → (if complete then members_layout (struct_layout depth structs) no_layout r.members else None) ≡ Some l → AreCounted (struct_layout depth structs) (struct_scalars depth structs) → length (members_scalars (struct_scalars depth structs) structs no_layout r.members offset) ≡ l.scalars
    of_complete true r h ih =
        let sum = counted_members (struct_layout depth structs) (struct_scalars depth structs) structs ih r.members no_layout no_layout offset l h in
        omega (arith, sum)
    of_complete false r h ih = absurd (cc)

    of_row : (row : Option PlainStruct) → row_layout (struct_layout depth structs) row ≡ Some l → AreCounted (struct_layout depth structs) (struct_scalars depth structs) → length (row_scalars (struct_scalars depth structs) structs row offset) ≡ l.scalars
    of_row None h ih = absurd (cc)
    of_row (Some r) h ih = of_complete r.complete r h ih

pub scalars_are_counted : ScalarsAreCounted
scalars_are_counted structs t complete = of_layout (layout structs t) complete refl
  where
    of_layout : (o : Option Layout) → IsTrue (fits_object o) → layout structs t ≡ o → length (scalars_of structs t) ≡ (laid (layout structs t)).scalars
    of_layout None c is = absurd (cc)
    of_layout (Some l) c is =
        counted_type (struct_layout (length structs) structs) (struct_scalars (length structs) structs) structs (counted_structs (length structs) structs) t 0 l is
        ∙ ap (λ (x : Option Layout). (laid x).scalars) (sym is)
