-- The members of a structure by name: from their offsets, and as structures are added.
use Rattle.std.proofs.Common.{◌≡◌, ℕ, suc, ◌+◌, ◌<◌, ◌≤◌, Bool, true, false, Option, Some, None, option_map, List, [], ◌∷◌, length, drop, map, slice_get, slice_index_or, refl, sym, ap, ◌∙◌, add-one}
use Rattle.std.specs.Prelude.{if◌then◌else◌, option_and_then}
use Rattle.std.specs.Str.{bytes_eq}
use Rattle.std.proofs.lemmas.Option.{none-some}
use Rattle.std.proofs.Math.Seq.{drop-cons, drop-length}
use Rattle.ob_tree.specs.declared.types.MemberRow.{MemberRow}
use Rattle.ob_tree.specs.Types.{PlainType, PlainMember, PlainStruct, PlainStructs}
use Rattle.ob_tree.specs.TypeView.{plain_member}
use Rattle.ob_tree.specs.Sizes.{IsComplete, Layout, MemberPlace, appended, fits_object, laid, layout, member_from, members_layout, next_offset, no_layout, row_layout, row_member, struct_layout, type_layout}
use Rattle.ob_tree.proofs.KeptLayouts.{Below, Extends, deeper_below, depth_below, extends_below, type_below}
use Rattle.ob_layout.specs.Capped.{placed}
use Rattle.ob_layout.specs.Offsets.{offsets, offsets_from, row_offsets}
use Rattle.ob_layout.proofs.Depths.{complete_members, then_some}
use Rattle.ob_layout.proofs.Layouts.{fits_known}
use Rattle.ob_members.specs.Indexes.{AreNamed, Bindings, IsIndex, IsNamed, place_from}

-- ---- from offsets

pub length-offsets : (known : ℕ → Option Layout) (l : Layout) (ms : List PlainMember) → length (offsets_from known l ms) ≡ length ms
length-offsets known l [] = refl
length-offsets known l (m ∷ ms) = ap suc (length-offsets known (appended l (laid (type_layout known m.ty))) ms)

same_chosen : (b : Bool) (offset i : ℕ) (ty : PlainType) (o : Option (ℕ × ℕ)) (p : Option MemberPlace) → o ≡ option_map placed p →
    (if b then Some (offset, i) else o) ≡ option_map placed (if b then Some (record { offset = offset; index = i; ty = ty }) else p)
same_chosen true offset i ty o p h = refl
same_chosen false offset i ty o p h = h

place_is : (known : ℕ → Option Layout) (l : Layout) (i : ℕ) (ms : List PlainMember) (name : List ℕ) → place_from i (offsets_from known l ms) ms name ≡ option_map placed (member_from known l i ms name)
place_is known l i [] name = refl
place_is known l i (m ∷ ms) name =
    let p = laid (type_layout known m.ty) in
    same_chosen (bytes_eq m.name name) (next_offset l p) i m.ty (place_from (i + 1) (offsets_from known (appended l p) ms) ms name) (member_from known (appended l p) (i + 1) ms name)
    (place_is known (appended l p) (i + 1) ms name)

pub row_length : (s : PlainStructs) (n : ℕ) (row : PlainStruct) (os : List ℕ) → slice_get s n ≡ Some row → os ≡ offsets s n → length os ≡ length row.members
row_length s n row os at is =
    ap length (is ∙ ap (row_offsets (struct_layout (length s) s)) at) ∙ length-offsets (struct_layout (length s) s) no_layout row.members

-- members that are named with the offsets of a structure's are its index
pub row_index : (s : PlainStructs) (n : ℕ) (row : PlainStruct) (os : List ℕ) (bs : Bindings) → slice_get s n ≡ Some row → os ≡ offsets s n → IsComplete s (PlainType.Struct n) →
    IsNamed os row.members bs → IsIndex s n bs
row_index s n row os bs at is complete named =
    let known = struct_layout (length s) s in
    record {
      complete = complete;
      places = λ name.
          named name
          ∙ ap (λ xs. place_from 0 xs row.members name) (is ∙ ap (row_offsets known) at)
          ∙ place_is known no_layout 0 row.members name
          ∙ ap (λ o. option_map placed (row_member known o name)) (sym at);
    }

pub no_row_index : (s : PlainStructs) (n : ℕ) (bs : Bindings) → slice_get s n ≡ None → IsComplete s (PlainType.Struct n) → IsNamed [] [] bs → IsIndex s n bs
no_row_index s n bs at complete named =
    record {
      complete = complete;
      places = λ name. named name ∙ ap (λ o. option_map placed (row_member (struct_layout (length s) s) o name)) (sym at);
    }

-- ---- one more name

pub none_named : (os : List ℕ) (ms : List MemberRow) → length os ≡ length ms → AreNamed (length ms) (drop (length ms) os) (map plain_member (drop (length ms) ms)) []
none_named os ms same name = ap (λ xs. place_from (length ms) (drop (length ms) os) (map plain_member xs) name) (sym (drop-length ms))

pub one_named : (os : List ℕ) (ms : List MemberRow) (i : ℕ) (o : ℕ) (m : MemberRow) (bs : Bindings) → i < length os → i < length ms → o ≡ slice_index_or os i o → m ≡ slice_index_or ms i m →
    AreNamed (i + 1) (drop (i + 1) os) (map plain_member (drop (i + 1) ms)) bs →
    AreNamed i (drop i os) (map plain_member (drop i ms)) ((m.name, (o, i)) ∷ bs)
one_named os ms i o m bs short within at is named name =
    ap (λ r. if bytes_eq m.name name then Some (o, i) else r) (named name)
    ∙ ap (λ k. if bytes_eq m.name name then Some (o, i) else place_from (i + 1) (drop k os) (map plain_member (drop k ms)) name) (add-one i)
    ∙ ap (λ (x : MemberRow). place_from i (o ∷ drop (suc i) os) (plain_member x ∷ map plain_member (drop (suc i) ms)) name) is
    ∙ ap (λ y. place_from i (y ∷ drop (suc i) os) (plain_member (slice_index_or ms i m) ∷ map plain_member (drop (suc i) ms)) name) at
    ∙ ap (λ xs. place_from i xs (plain_member (slice_index_or ms i m) ∷ map plain_member (drop (suc i) ms)) name) (sym (drop-cons os i o short))
    ∙ ap (λ xs. place_from i (drop i os) (map plain_member xs) name) (sym (drop-cons ms i m within))

-- ---- as structures are added

some_laid : (f : Layout → Option Layout) (o : Option Layout) (r : Layout) → option_and_then f o ≡ Some r → o ≡ Some (laid o)
some_laid f None r is = absurd (none-some r is)
some_laid f (Some x) r is = refl

-- members whose layouts are known lie where they lay
member_kept : (f g : ℕ → Option Layout) → ((n : ℕ) → Below (f n) (g n)) → (l : Layout) (i : ℕ) (ms : List PlainMember) (r : Layout) → members_layout f l ms ≡ Some r → (name : List ℕ) → member_from g l i ms name ≡ member_from f l i ms name
member_kept f g h l i [] r is name = refl
member_kept f g h l i (m ∷ ms) r is name =
    let p = laid (type_layout f m.ty) in
    let q = laid (type_layout g m.ty) in
    let some = some_laid (λ p. members_layout f (appended l p) ms) (type_layout f m.ty) r is in
    let more = then_some (λ p. members_layout f (appended l p) ms) (type_layout f m.ty) r is in
    let same : q ≡ p = ap laid (type_below f g h m.ty p some) in
    ap (λ x. if bytes_eq m.name name then Some (record { offset = next_offset l x; index = i; ty = m.ty }) else member_from g (appended l x) (i + 1) ms name) same
    ∙ ap (λ o. if bytes_eq m.name name then Some (record { offset = next_offset l p; index = i; ty = m.ty }) else o) (member_kept f g h (appended l p) (i + 1) ms r more name)

where_true : (b : Bool) (o : Option Layout) (l : Layout) → (if b then o else None) ≡ Some l → b ≡ true
where_true true o l is = refl
where_true false o l is = absurd (none-some l is)

row_there : (known : ℕ → Option Layout) (o : Option PlainStruct) (l : Layout) → row_layout known o ≡ Some l → (r : PlainStruct) × (o ≡ Some r) × (r.complete ≡ true)
row_there known None l is = absurd (none-some l is)
row_there known (Some r) l is = (r, refl, where_true r.complete (members_layout known no_layout r.members) l is)

-- what is known of a structure stays
known_below : (s t : PlainStructs) → Extends s t → length s ≤ length t → (n : ℕ) → Below (struct_layout (length s) s n) (struct_layout (length t) t n)
known_below s t e less n l is = deeper_below (length s) (length t) t n less l (extends_below s t e (length s) n l is)

pub index_kept : (s t : PlainStructs) (n : ℕ) (bs : Bindings) → Extends s t → length s ≤ length t → IsIndex s n bs → IsIndex t n bs
index_kept s t n bs e less h =
    let l = laid (layout s (PlainType.Struct n)) in
    let is = fits_known (layout s (PlainType.Struct n)) h.complete in
    let there = row_there (struct_layout (length s) s) (slice_get s n) l (depth_below (length s) s n l is) in
    let row = there.0 in
    let after = e n row there.1 there.2 in
    let whole = complete_members s n row l there.1 is in
    let f = struct_layout (length s) s in
    let g = struct_layout (length t) t in
    record {
      complete = ap fits_object (known_below s t e less n l is ∙ sym is) ∙ h.complete;
      places = λ name.
          h.places name
          ∙ ap (λ o. option_map placed (row_member f o name)) there.1
          ∙ ap (option_map placed) (sym (member_kept f g (known_below s t e less) no_layout 0 row.members l whole name))
          ∙ ap (λ o. option_map placed (row_member g o name)) (sym after);
    }
