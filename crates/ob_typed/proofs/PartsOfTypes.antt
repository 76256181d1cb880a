-- The elements and members of a type with a size (C99 6.5.2.1, 6.7.2.1) have sizes, and stay as structures are added.
use Rattle.std.proofs.Common.{◌≡◌, ℕ, zero, suc, ◌*◌, Bool, true, false, Option, Some, None, option_map, List, [], ◌∷◌, length, slice_get, refl, sym, ap, ◌∙◌, subst}
use Rattle.std.specs.Prelude.{if◌then◌else◌, nat_lt}
use Rattle.std.specs.Option.{is_some}
use Rattle.ob_tree.specs.Parts.{Part, element_part, member_part, part, row_part}
use Rattle.ob_tree.specs.Sizes.{Layout, appended, has_size, laid, layout, members_layout, next_offset, no_layout, repeated, row_layout, size, struct_layout, type_layout}
use Rattle.ob_tree.specs.Types.{PlainMember, PlainStruct, PlainStructs, PlainType}
use Rattle.ob_tree.specs.Types.{PlainType as type}
use Rattle.ob_typed.specs.Initialisers.{part_type, type_of}
use Rattle.ob_typed.proofs.GrowingStructs.{Grows, layout_stays}
use Rattle.ob_typed.proofs.MembersOfStructs.{then_laid, whole_members}

-- the type of an element or member has a size
abbrev pub HasSize : PlainStructs → Option PlainType → Type 0
HasSize s None = Unit {0}
HasSize s (Some t) = has_size s t ≡ true

some_is : (o : Option Layout) → is_some o ≡ true → o ≡ Some (laid o)
some_is None h = absurd (cc)
some_is (Some l) h = refl

mapped_some : (f : Layout → Layout) (o : Option Layout) → is_some (option_map f o) ≡ true → is_some o ≡ true
mapped_some f None h = absurd (cc)
mapped_some f (Some l) h = refl

pub element_sized : (s : PlainStructs) (t : PlainType) (n : ℕ) → has_size s (type.Array t n) ≡ true → has_size s t ≡ true
element_sized s t n h = mapped_some (λ l. repeated l n) (layout s t) h

laid_stays : (s t : PlainStructs) → Grows s t → (u : PlainType) → has_size s u ≡ true → laid (layout t u) ≡ laid (layout s u)
laid_stays s t g u h = ap laid (layout_stays s t g u (laid (layout s u)) (some_is (layout s u) h))

-- ---- members

abbrev AreSizedMembers : PlainStructs → List PlainMember → Type 0
AreSizedMembers s [] = Unit {0}
AreSizedMembers s (m ∷ ms) = (has_size s m.ty ≡ true) × AreSizedMembers s ms

sized_members : (s : PlainStructs) (l : Layout) (ms : List PlainMember) (r : Layout) → members_layout (struct_layout (length s) s) l ms ≡ Some r → AreSizedMembers s ms
sized_members s l [] r is = tt
sized_members s l (m ∷ ms) r is =
    let known = struct_layout (length s) s in
    let first = then_laid (λ p. members_layout known (appended l p) ms) (type_layout known m.ty) r is in
    (first.0, sized_members s (appended l (laid (type_layout known m.ty))) ms r first.1)

row_complete : (known : ℕ → Option Layout) (o : Option PlainStruct) → is_some (row_layout known o) ≡ true → (r : PlainStruct) × (o ≡ Some r) × (r.complete ≡ true)
row_complete known None h = absurd (cc)
row_complete known (Some r) h = (r, refl, of_complete r.complete (members_layout known no_layout r.members) h)
  where
    of_complete : (b : Bool) (o : Option Layout) → is_some (if b then o else None) ≡ true → b ≡ true
    of_complete true o i = refl
    of_complete false o i = absurd (cc)

-- a structure of a size has a row with its members
pub row_of_sized : (s : PlainStructs) (n : ℕ) → has_size s (type.Struct n) ≡ true → (r : PlainStruct) × (slice_get s n ≡ Some r) × (r.complete ≡ true)
row_of_sized s n h = of_depth (length s) h
  where
    of_depth : (depth : ℕ) → is_some (struct_layout depth s n) ≡ true → (r : PlainStruct) × (slice_get s n ≡ Some r) × (r.complete ≡ true)
    of_depth zero i = absurd (cc)
    of_depth (suc depth) i = row_complete (struct_layout depth s) (slice_get s n) i

members_of_sized : (s : PlainStructs) (n : ℕ) (r : PlainStruct) → slice_get s n ≡ Some r → has_size s (type.Struct n) ≡ true → AreSizedMembers s r.members
members_of_sized s n r is h =
    let l = laid (layout s (type.Struct n)) in
    sized_members s no_layout r.members l (whole_members s n r l is (some_is (layout s (type.Struct n)) h))

-- ---- parts have sizes

member_sized : (s : PlainStructs) (l : Layout) (ms : List PlainMember) (i : ℕ) → AreSizedMembers s ms → HasSize s (type_of (member_part s l ms i))
member_sized s l [] i h = tt
member_sized s l (m ∷ ms) zero h = h.0
member_sized s l (m ∷ ms) (suc i) h = member_sized s (appended l (laid (layout s m.ty))) ms i h.1

chosen_sized : (s : PlainStructs) (b : Bool) (p : Part) → has_size s p.ty ≡ true → HasSize s (type_of (if b then Some p else None))
chosen_sized s true p h = h
chosen_sized s false p h = tt

element_part_sized : (s : PlainStructs) (t : PlainType) (n i : ℕ) → has_size s t ≡ true → HasSize s (type_of (element_part s t n i))
element_part_sized s t zero i h = h
element_part_sized s t (suc n) i h = chosen_sized s (nat_lt i (suc n)) (record { offset = i * size s t; ty = t }) h

pub part_sized : (s : PlainStructs) (t : PlainType) (i : ℕ) → has_size s t ≡ true → HasSize s (type_of (part s t i))
part_sized s (type.Array t n) i h = element_part_sized s t n i (element_sized s t n h)
part_sized s (type.Struct n) i h =
    let row = row_of_sized s n h in
    subst (λ o. HasSize s (type_of (row_part s o i))) (sym row.1) (member_sized s no_layout row.0.members i (members_of_sized s n row.0 row.1 h))
part_sized s type.Void i h = tt
part_sized s (type.Int k) i h = tt
part_sized s (type.Pointer t) i h = tt

pub part_type_sized : (s : PlainStructs) (o : Option PlainType) (i : ℕ) → HasSize s o → HasSize s (part_type s o i)
part_type_sized s None i h = tt
part_type_sized s (Some t) i h = part_sized s t i h

-- ---- parts stay

member_stays : (s t : PlainStructs) → Grows s t → (l : Layout) (ms : List PlainMember) (i : ℕ) → AreSizedMembers s ms → member_part t l ms i ≡ member_part s l ms i
member_stays s t g l [] i h = refl
member_stays s t g l (m ∷ ms) zero h =
    ap (λ (p : Layout). Some (record { offset = next_offset l p; ty = m.ty })) (laid_stays s t g m.ty h.0)
member_stays s t g l (m ∷ ms) (suc i) h =
    ap (λ (p : Layout). member_part t (appended l p) ms i) (laid_stays s t g m.ty h.0)
    ∙ member_stays s t g (appended l (laid (layout s m.ty))) ms i h.1

element_stays : (s t : PlainStructs) (u : PlainType) (n i : ℕ) → size t u ≡ size s u → element_part t u n i ≡ element_part s u n i
element_stays s t u zero i h = ap (λ (m : ℕ). Some (record { offset = i * m; ty = u })) h
element_stays s t u (suc n) i h =
    ap (λ (m : ℕ). if nat_lt i (suc n) then Some (record { offset = i * m; ty = u }) else None) h

pub part_stays : (s t : PlainStructs) → Grows s t → (u : PlainType) (i : ℕ) → has_size s u ≡ true → part t u i ≡ part s u i
part_stays s t g (type.Array u n) i h =
    element_stays s t u n i (ap (λ (l : Layout). l.size) (laid_stays s t g u (element_sized s u n h)))
part_stays s t g (type.Struct n) i h =
    let row = row_of_sized s n h in
    ap (λ o. row_part t o i) (g.rows n row.0 row.1 row.2)
    ∙ member_stays s t g no_layout row.0.members i (members_of_sized s n row.0 row.1 h)
    ∙ sym (ap (λ o. row_part s o i) row.1)
part_stays s t g type.Void i h = refl
part_stays s t g (type.Int k) i h = refl
part_stays s t g (type.Pointer u) i h = refl

pub part_type_stays : (s t : PlainStructs) → Grows s t → (o : Option PlainType) (i : ℕ) → HasSize s o → part_type t o i ≡ part_type s o i
part_type_stays s t g None i h = refl
part_type_stays s t g (Some u) i h = ap type_of (part_stays s t g u i h)
