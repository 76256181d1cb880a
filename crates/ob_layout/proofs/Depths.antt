-- A member that is found lies in its structure.
use Rattle.std.proofs.Common.{◌≡◌, ℕ, ◌+◌, ◌≤◌, Bool, true, false, Option, Some, None, option_map, List, [], ◌∷◌, length, refl, sym, ap, arith, ◌∙◌, slice_get}
use Rattle.std.specs.Prelude.{min, if◌then◌else◌, option_and_then}
use Rattle.std.specs.Str.{bytes_eq}
use Rattle.std.proofs.lemmas.Option.{none-some}
use Rattle.ob_tree.specs.Types.{PlainType, PlainMember, PlainStruct, PlainStructs}
use Rattle.ob_tree.proofs.KeptLayouts.{depth_below, where_some}
use Rattle.ob_tree.specs.Sizes.{IsComplete, Layout, MemberPlace, laid, layout, appended, next_offset, no_layout, round_up, type_layout, members_layout, row_layout, row_member, struct_layout, member, member_from, most_bytes}
use Rattle.ob_layout.proofs.Layouts.{fits_known, fits_within}
use Rattle.ob_layout.specs.Capped.{capped_place, capped_pair, placed, cap}

-- members that follow make a structure no smaller
pub then_some : (f : Layout → Option Layout) (o : Option Layout) (r : Layout) → option_and_then f o ≡ Some r → f (laid o) ≡ Some r
then_some f None r is = absurd (none-some r is)
then_some f (Some x) r is = is

pub grows : (known : ℕ → Option Layout) (l : Layout) (ms : List PlainMember) (r : Layout) → members_layout known l ms ≡ Some r → l.size ≤ r.size
grows known l [] r is = let h : round_up l.size l.align ≡ r.size = ap (λ o. (laid o).size) is in omega arith
grows known l (m ∷ ms) r is =
    let h = then_some (λ p. members_layout known (appended l p) ms) (type_layout known m.ty) r is in
    let k = grows known (appended l (laid (type_layout known m.ty))) ms r h in
    omega arith

-- a member that is found lies in its structure
abbrev InSize : Option MemberPlace → ℕ → Type 0
InSize None n = Unit {0}
InSize (Some m) n = m.offset ≤ n

chosen_in : (b : Bool) (offset i : ℕ) (t : PlainType) (after : Option MemberPlace) (n : ℕ) → offset ≤ n → InSize after n → InSize (if b then Some (record { offset = offset; index = i; ty = t }) else after) n
chosen_in true offset i t after n h k = h
chosen_in false offset i t after n h k = k

in_size : (known : ℕ → Option Layout) (l : Layout) (i : ℕ) (ms : List PlainMember) (name : List ℕ) (r : Layout) → members_layout known l ms ≡ Some r → InSize (member_from known l i ms name) r.size
in_size known l i [] name r is = tt
in_size known l i (m ∷ ms) name r is =
    let p = laid (type_layout known m.ty) in
    let h = then_some (λ p. members_layout known (appended l p) ms) (type_layout known m.ty) r is in
    let k = grows known (appended l p) ms r h in
    chosen_in (bytes_eq m.name name) (next_offset l p) i m.ty (member_from known (appended l p) (i + 1) ms name) r.size (omega arith) (in_size known (appended l p) (i + 1) ms name r h)

abbrev pair_of : Option (ℕ × ℕ) → ℕ × ℕ
pair_of None = (0, 0)
pair_of (Some p) = p

exact_pair : (o : Option MemberPlace) (r : Option (ℕ × ℕ)) (n : ℕ) → InSize o n → n ≤ most_bytes → option_map capped_pair r ≡ option_map capped_place o → r ≡ option_map placed o
exact_pair None None n h few is = refl
exact_pair None (Some q) n h few is = absurd (none-some (capped_pair q) (sym is))
exact_pair (Some m) None n h few is = absurd (none-some (capped_place m) is)
exact_pair (Some m) (Some q) n h few is =
    let first : min q.0 cap ≡ min m.offset cap = ap (λ o. (pair_of o).0) is in
    let second : q.1 ≡ m.index = ap (λ o. (pair_of o).1) is in
    let offset : q.0 ≡ m.offset = omega arith in
    ap (λ k. Some (k, q.1)) offset ∙ ap (λ k. Some (m.offset, k)) second

-- in a complete structure each member has its layout at the full depth
pub complete_members : (s : PlainStructs) (n : ℕ) (r : PlainStruct) (l : Layout) → slice_get s n ≡ Some r → layout s (PlainType.Struct n) ≡ Some l → members_layout (struct_layout (length s) s) no_layout r.members ≡ Some l
complete_members s n r l at is =
    let deeper : row_layout (struct_layout (length s) s) (slice_get s n) ≡ Some l = depth_below (length s) s n l is in
    where_some r.complete (members_layout (struct_layout (length s) s) no_layout r.members) l (ap (row_layout (struct_layout (length s) s)) (sym at) ∙ deeper)

-- the member of a complete structure, from the capped one of its row
pub complete_member : (s : PlainStructs) (n : ℕ) (row : PlainStruct) (name : List ℕ) (r : Option (ℕ × ℕ)) → slice_get s n ≡ Some row → IsComplete s (PlainType.Struct n) →
    option_map capped_pair r ≡ option_map capped_place (member_from (struct_layout (length s) s) no_layout 0 row.members name) →
    r ≡ option_map placed (member s n name)
complete_member s n row name r at complete is =
    let o = layout s (PlainType.Struct n) in
    let l = laid o in
    let known_is = fits_known o complete in
    let known = struct_layout (length s) s in
    let whole = complete_members s n row l at known_is in
    let m = member_from known no_layout 0 row.members name in
    let inside = in_size known no_layout 0 row.members name l whole in
    exact_pair m r l.size inside (fits_within o complete) is ∙ ap (λ o. option_map placed (row_member known o name)) (sym at)

pub no_member : (s : PlainStructs) (n : ℕ) (name : List ℕ) → slice_get s n ≡ None → None ≡ option_map placed (member s n name)
no_member s n name at = ap (λ o. option_map placed (row_member (struct_layout (length s) s) o name)) (sym at)
