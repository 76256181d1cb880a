-- Members that are looked for with capped layouts are those of the definition.
use Rattle.std.proofs.Common.{◌≡◌, ℕ, suc, ◌+◌, ◌<◌, Bool, true, false, Option, Some, option_map, List, [], ◌∷◌, length, drop, map, refl, sym, ap, arith, ◌∙◌, add-one, slice_index_or}
use Rattle.std.specs.Prelude.{min, if◌then◌else◌}
use Rattle.std.specs.Str.{bytes_eq}
use Rattle.std.proofs.Math.Seq.{drop-cons}
use Rattle.ob_tree.specs.declared.types.MemberRow.{MemberRow}
use Rattle.ob_tree.specs.Types.{PlainType, PlainMember}
use Rattle.ob_tree.specs.TypeView.{plain_type, plain_member}
use Rattle.ob_tree.specs.Sizes.{Layout, MemberPlace, laid, appended, next_offset, type_layout, member_from}
use Rattle.ob_layout.specs.Capped.{capped, capped_place, cap}
use Rattle.ob_layout.proofs.Caps.{capped_appended, capped_appended_before, min_round_up}

-- what is found of a member, or after it
abbrev chosen : (b : Bool) → (offset index : ℕ) → (ty : PlainType) → Option MemberPlace → Option MemberPlace
chosen b offset index ty after = if b then Some (record { offset = offset; index = index; ty = ty }) else after

same_chosen : (b : Bool) (x y i : ℕ) (ty : PlainType) (o p : Option MemberPlace) → min x cap ≡ min y cap → option_map capped_place o ≡ option_map capped_place p → option_map capped_place (chosen b x i ty o) ≡ option_map capped_place (chosen b y i ty p)
same_chosen true x y i ty o p h k = ap (λ n. Some (n, i)) h
same_chosen false x y i ty o p h k = k

pub min_offset : (l p : Layout) → min (next_offset (capped l) p) cap ≡ min (next_offset l p) cap
min_offset l p = let h = min_round_up l.size p.align 0 in omega arith

member_capped : (known : ℕ → Option Layout) (l : Layout) (i : ℕ) (ms : List PlainMember) (name : List ℕ) → option_map capped_place (member_from known (capped l) i ms name) ≡ option_map capped_place (member_from known l i ms name)
member_capped known l i [] name = refl
member_capped known l i (m ∷ ms) name =
    let p = laid (type_layout known m.ty) in
    same_chosen (bytes_eq m.name name) (next_offset (capped l) p) (next_offset l p) i m.ty (member_from known (appended (capped l) p) (i + 1) ms name) (member_from known (appended l p) (i + 1) ms name)
    (min_offset l p)
    (sym (member_capped known (appended (capped l) p) (i + 1) ms name)
    ∙ ap (λ x. option_map capped_place (member_from known x (i + 1) ms name)) (capped_appended_before l p)
    ∙ member_capped known (appended l p) (i + 1) ms name)

-- a member that is past, and one that is found
past : (known : ℕ → Option Layout) (l p r : Layout) (i : ℕ) (m : PlainMember) (ms : List PlainMember) (name : List ℕ) → bytes_eq m.name name ≡ false →
    p ≡ capped (laid (type_layout known m.ty)) → r ≡ capped (appended l p) →
    option_map capped_place (member_from known l i (m ∷ ms) name) ≡ option_map capped_place (member_from known r (i + 1) ms name)
past known l p r i m ms name other is grown =
    let q = laid (type_layout known m.ty) in
    ap (λ b. option_map capped_place (chosen b (next_offset l q) i m.ty (member_from known (appended l q) (i + 1) ms name))) other
    ∙ sym (member_capped known (appended l q) (i + 1) ms name)
    ∙ ap (λ x. option_map capped_place (member_from known x (i + 1) ms name)) (sym (capped_appended l q) ∙ ap (λ x. capped (appended l x)) (sym is) ∙ sym grown)

here : (known : ℕ → Option Layout) (l p : Layout) (offset i : ℕ) (m : PlainMember) (ms : List PlainMember) (name : List ℕ) → bytes_eq m.name name ≡ true →
    p ≡ capped (laid (type_layout known m.ty)) → offset ≡ next_offset l p →
    option_map capped_place (member_from known l i (m ∷ ms) name) ≡ Some (min offset cap, i)
here known l p offset i m ms name same is at =
    let q = laid (type_layout known m.ty) in
    ap (λ b. option_map capped_place (chosen b (next_offset l q) i m.ty (member_from known (appended l q) (i + 1) ms name))) same
    ∙ ap (λ n. Some (min n cap, i)) (ap (λ x. next_offset l x) (sym is) ∙ sym at)

dropped : (known : ℕ → Option Layout) (l : Layout) (xs : List MemberRow) (i : ℕ) (m : MemberRow) (name : List ℕ) → i < length xs → m ≡ slice_index_or xs i m →
    member_from known l i (map plain_member (drop i xs)) name ≡ member_from known l i (plain_member m ∷ map plain_member (drop (i + 1) xs)) name
dropped known l xs i m name within is =
    ap (λ ys. member_from known l i (map plain_member ys) name) (drop-cons xs i m within)
    ∙ ap (λ (x : MemberRow). member_from known l i (plain_member x ∷ map plain_member (drop (suc i) xs)) name) (sym is)
    ∙ ap (λ n. member_from known l i (plain_member m ∷ map plain_member (drop n xs)) name) (sym (add-one i))

-- one turn over the members of a row
pub turn : (known : ℕ → Option Layout) (all : Option (ℕ × ℕ)) (l p r : Layout) (xs : List MemberRow) (i : ℕ) (m : MemberRow) (name : List ℕ) → i < length xs → m ≡ slice_index_or xs i m →
    all ≡ option_map capped_place (member_from known l i (map plain_member (drop i xs)) name) → bytes_eq m.name name ≡ false →
    p ≡ capped (laid (type_layout known (plain_type m.ty))) → r ≡ capped (appended l p) →
    all ≡ option_map capped_place (member_from known r (i + 1) (map plain_member (drop (i + 1) xs)) name)
turn known all l p r xs i m name within is before other h k =
    before ∙ ap (option_map capped_place) (dropped known l xs i m name within is)
    ∙ past known l p r i (plain_member m) (map plain_member (drop (i + 1) xs)) name other h k

pub found : (known : ℕ → Option Layout) (all : Option (ℕ × ℕ)) (l p : Layout) (offset : ℕ) (xs : List MemberRow) (i : ℕ) (m : MemberRow) (name : List ℕ) → i < length xs → m ≡ slice_index_or xs i m →
    all ≡ option_map capped_place (member_from known l i (map plain_member (drop i xs)) name) → bytes_eq m.name name ≡ true →
    p ≡ capped (laid (type_layout known (plain_type m.ty))) → offset ≡ next_offset l p →
    Some (min offset cap, i) ≡ all
found known all l p offset xs i m name within is before same h k =
    sym (before ∙ ap (option_map capped_place) (dropped known l xs i m name within is)
    ∙ here known l p offset i (plain_member m) (map plain_member (drop (i + 1) xs)) name same h k)
