-- A member that is found stands at its index.
use Rattle.std.proofs.Common.{◌≡◌, ℕ, suc, ◌+◌, Bool, true, false, Option, Some, None, option_map, List, [], ◌∷◌, length, refl, sym, ap, ◌∙◌, arith}
use Rattle.std.specs.Prelude.{if◌then◌else◌, slice_get}
use Rattle.std.specs.Str.{bytes_eq}
use Rattle.ob_tree.specs.Types.{PlainType, PlainMember, PlainStruct, PlainStructs}
use Rattle.ob_tree.specs.Sizes.{Layout, MemberPlace, appended, laid, member, member_from, next_offset, no_layout, row_member, struct_layout, type_layout}
use Rattle.ob_layout.specs.Capped.{placed}
use Rattle.ob_uses.specs.MemberTypes.{placed_member, type_at}

-- of members that are counted from i on, the found one stands at its index
record IsAt (ms : List PlainMember) (i : ℕ) (p : MemberPlace) : Type 0 where
  pub past : ℕ
  pub index : p.index ≡ i + past
  pub ty : type_at ms past ≡ Some p.ty

chosen_at : (b : Bool) (offset i : ℕ) (m : PlainMember) (ms : List PlainMember) (after : Option MemberPlace) (p : MemberPlace) →
    (if b then Some (record { offset = offset; index = i; ty = m.ty }) else after) ≡ Some p → (after ≡ Some p → IsAt ms (i + 1) p) → IsAt (m ∷ ms) i p
chosen_at true offset i m ms after p is others =
    let e : record { offset = offset; index = i; ty = m.ty } ≡ p = cc in
    record { past = 0; index = ap (λ (q : MemberPlace). q.index) (sym e) ∙ omega arith; ty = ap (λ (q : MemberPlace). Some q.ty) e }
chosen_at false offset i m ms after p is others =
    let r = others is in
    record { past = suc r.past; index = r.index ∙ omega arith; ty = r.ty }

found_at : (known : ℕ → Option Layout) (l : Layout) (i : ℕ) (ms : List PlainMember) (name : List ℕ) (p : MemberPlace) → member_from known l i ms name ≡ Some p → IsAt ms i p
found_at known l i [] name p is = absurd (cc)
found_at known l i (m ∷ ms) name p is =
    let q = laid (type_layout known m.ty) in
    chosen_at (bytes_eq m.name name) (next_offset l q) i m ms (member_from known (appended l q) (i + 1) ms name) p is (found_at known (appended l q) (i + 1) ms name p)

at_first : (ms : List PlainMember) (o : Option MemberPlace) → ((p : MemberPlace) → o ≡ Some p → IsAt ms 0 p) → placed_member ms (option_map placed o) ≡ o
at_first ms None at = refl
at_first ms (Some p) at =
    let r = at p refl in
    let same : p.index ≡ r.past = r.index ∙ omega arith in
    ap (λ i. option_map (λ (t : PlainType). record { offset = p.offset; index = p.index; ty = t }) (type_at ms i)) same
    ∙ ap (option_map (λ (t : PlainType). record { offset = p.offset; index = p.index; ty = t })) r.ty

-- the member that a structure has of a name, from its offset and its index
pub same_member : (structs : PlainStructs) (n : ℕ) (name : List ℕ) (row : PlainStruct) (found : Option (ℕ × ℕ)) →
    slice_get structs n ≡ Some row → found ≡ option_map placed (member structs n name) → placed_member row.members found ≡ member structs n name
same_member structs n name row found at is =
    let known = struct_layout (length structs) structs in
    let of_row : member structs n name ≡ member_from known no_layout 0 row.members name = ap (λ r. row_member known r name) at in
    ap (placed_member row.members) (is ∙ ap (option_map placed) of_row)
    ∙ at_first row.members (member_from known no_layout 0 row.members name) (found_at known no_layout 0 row.members name)
    ∙ sym of_row
