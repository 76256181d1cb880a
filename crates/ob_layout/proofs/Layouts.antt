-- Layouts that are counted up to a cap, step by step, are those of the definition up to the cap.
use Rattle.std.proofs.Common.{◌≡◌, false, ⊎_elim, true, ℕ, suc, ◌+◌, ◌<◌, ◌≤◌, Option, Some, None, option_map, List, [], ◌∷◌, length, drop, map, refl, sym, ap, arith, ◌∙◌, slice_index_or, get_or}
use Rattle.std.specs.Option.{is_some}
use Rattle.std.specs.Prelude.{nat_le, option_and_then, min, if◌then◌else◌}
use Rattle.std.proofs.lemmas.Option.{none-some}
use Rattle.std.proofs.Math.Seq.{drop-cons}
use Rattle.std.proofs.Common.{add-one}
use Rattle.std.proofs.lemmas.Bool.{leb-true, cases_lt, false_from_ne_true}
use Rattle.std.specs.List.{All}
use Rattle.std.proofs.Common.{subst}
use Rattle.std.proofs.lemmas.List.{length-map, get_or-map}
use Rattle.ob_tree.specs.declared.types.CType.{CType}
use Rattle.ob_tree.specs.declared.types.MemberRow.{MemberRow}
use Rattle.ob_tree.specs.Types.{PlainType, PlainMember, PlainStructs}
use Rattle.ob_tree.specs.TypeView.{plain_type, plain_member}
use Rattle.ob_tree.specs.Sizes.{IsComplete, fits_object, Layout, no_layout, most_bytes, laid, appended, repeated, type_layout, members_layout}
use Rattle.ob_layout.specs.Capped.{capped, cap}
use Rattle.ob_layout.specs.Spread.{innermost, spread}
use Rattle.ob_layout.proofs.Caps.{capped_repeated, capped_twice, capped_appended, capped_appended_before, capped_padded, same_layout}

spread_capped : (t : PlainType) (l : Layout) → capped (spread t (capped l)) ≡ capped (spread t l)
spread_capped (PlainType.Array t n) l =
    sym (capped_repeated (spread t (capped l)) n)
    ∙ ap (λ m. capped (repeated m n)) (spread_capped t l)
    ∙ capped_repeated (spread t l) n
spread_capped PlainType.Void l = capped_twice l
spread_capped (PlainType.Int k) l = capped_twice l
spread_capped (PlainType.Pointer t) l = capped_twice l
spread_capped (PlainType.Struct n) l = capped_twice l

repeated_option : (f : Layout → Layout) (n : ℕ) (o : Option Layout) → option_map (λ l. repeated l n) (option_map f o) ≡ option_map (λ l. repeated (f l) n) o
repeated_option f n None = refl
repeated_option f n (Some l) = refl

same_option : (o : Option Layout) → o ≡ option_map (λ l. l) o
same_option None = refl
same_option (Some l) = refl

spread_type : (known : ℕ → Option Layout) (t : PlainType) → type_layout known t ≡ option_map (spread t) (type_layout known (innermost t))
spread_type known (PlainType.Array t n) =
    ap (option_map (λ l. repeated l n)) (spread_type known t) ∙ repeated_option (spread t) n (type_layout known (innermost t))
spread_type known PlainType.Void = refl
spread_type known (PlainType.Int k) = refl
spread_type known (PlainType.Pointer t) = refl
spread_type known (PlainType.Struct n) = same_option (known n)

-- the layout of an array, from the capped one of its elements
pub spread_array : (t : PlainType) (n : ℕ) (l p r : Layout) → p ≡ capped (spread t l) → r ≡ capped (repeated p n) → r ≡ capped (spread (PlainType.Array t n) l)
spread_array t n l p r h k = k ∙ ap (λ m. capped (repeated m n)) h ∙ capped_repeated (spread t l) n

capped_spread : (t : PlainType) (l : Layout) (o : Option Layout) → Some l ≡ option_map capped o → Some (capped (spread t l)) ≡ option_map capped (option_map (spread t) o)
capped_spread t l None h = absurd (none-some l (sym h))
capped_spread t l (Some m) h = ap Some (ap (λ x. capped (spread t x)) (ap laid h) ∙ spread_capped t m)

none_spread : (t : PlainType) (o : Option Layout) → None ≡ option_map capped o → None ≡ option_map capped (option_map (spread t) o)
none_spread t None h = refl
none_spread t (Some m) h = absurd (none-some (capped m) h)

-- the layout of a type, from that of its innermost elements
pub spread_some : (known : ℕ → Option Layout) (t : PlainType) (l r : Layout) → Some l ≡ option_map capped (type_layout known (innermost t)) → r ≡ capped (spread t l) → Some r ≡ option_map capped (type_layout known t)
spread_some known t l r h k =
    ap Some k ∙ capped_spread t l (type_layout known (innermost t)) h ∙ ap (option_map capped) (sym (spread_type known t))

pub spread_none : (known : ℕ → Option Layout) (t : PlainType) → None ≡ option_map capped (type_layout known (innermost t)) → None ≡ option_map capped (type_layout known t)
spread_none known t h = none_spread t (type_layout known (innermost t)) h ∙ ap (option_map capped) (sym (spread_type known t))

members_after : (known : ℕ → Option Layout) (l : Layout) (ms : List PlainMember) (o : Option Layout) → ((m : Layout) → option_map capped (members_layout known (capped m) ms) ≡ option_map capped (members_layout known m ms)) →
    option_map capped (option_and_then (λ p. members_layout known (appended (capped l) p) ms) o) ≡ option_map capped (option_and_then (λ p. members_layout known (appended l p) ms) o)
members_after known l ms None h = refl
members_after known l ms (Some p) h =
    sym (h (appended (capped l) p))
    ∙ ap (λ x. option_map capped (members_layout known x ms)) (capped_appended_before l p)
    ∙ h (appended l p)

members_capped : (known : ℕ → Option Layout) (l : Layout) (ms : List PlainMember) → option_map capped (members_layout known (capped l) ms) ≡ option_map capped (members_layout known l ms)
members_capped known l [] = ap Some (capped_padded l)
members_capped known l (m ∷ ms) = members_after known l ms (type_layout known m.ty) (λ k. members_capped known k ms)

member_turn : (known : ℕ → Option Layout) (l p : Layout) (ms : List PlainMember) (o : Option Layout) → Some p ≡ option_map capped o → option_map capped (option_and_then (λ q. members_layout known (appended l q) ms) o) ≡ option_map capped (members_layout known (capped (appended l p)) ms)
member_turn known l p ms None h = absurd (none-some p (sym h))
member_turn known l p ms (Some q) h =
    sym (members_capped known (appended l q) ms)
    ∙ ap (λ x. option_map capped (members_layout known x ms)) (sym (capped_appended l q) ∙ ap (λ x. capped (appended l x)) (sym (ap laid h)))

member_stop : (known : ℕ → Option Layout) (l : Layout) (ms : List PlainMember) (o : Option Layout) → None ≡ option_map capped o → None ≡ option_map capped (option_and_then (λ q. members_layout known (appended l q) ms) o)
member_stop known l ms None h = refl
member_stop known l ms (Some q) h = absurd (none-some (capped q) h)

pub dropped : (known : ℕ → Option Layout) (l : Layout) (xs : List MemberRow) (i : ℕ) (m : MemberRow) → i < length xs → m ≡ slice_index_or xs i m →
    members_layout known l (map plain_member (drop i xs)) ≡ option_and_then (λ q. members_layout known (appended l q) (map plain_member (drop (i + 1) xs))) (type_layout known (plain_type m.ty))
dropped known l xs i m within is =
    ap (λ ys. members_layout known l (map plain_member ys)) (drop-cons xs i m within)
    ∙ ap (λ (x : MemberRow). option_and_then (λ q. members_layout known (appended l q) (map plain_member (drop (suc i) xs))) (type_layout known (plain_type x.ty))) (sym is)
    ∙ ap (λ n. option_and_then (λ q. members_layout known (appended l q) (map plain_member (drop n xs))) (type_layout known (plain_type m.ty))) (sym (add-one i))

-- one turn over the members of a row
pub turn : (known : ℕ → Option Layout) (all : Option Layout) (l p r : Layout) (xs : List MemberRow) (i : ℕ) (m : MemberRow) → i < length xs → m ≡ slice_index_or xs i m →
    all ≡ option_map capped (members_layout known l (map plain_member (drop i xs))) →
    Some p ≡ option_map capped (type_layout known (plain_type m.ty)) → r ≡ capped (appended l p) →
    all ≡ option_map capped (members_layout known r (map plain_member (drop (i + 1) xs)))
turn known all l p r xs i m within is before h k =
    before ∙ ap (option_map capped) (dropped known l xs i m within is)
    ∙ member_turn known l p (map plain_member (drop (i + 1) xs)) (type_layout known (plain_type m.ty)) h
    ∙ ap (λ x. option_map capped (members_layout known x (map plain_member (drop (i + 1) xs)))) (sym k)

pub stop : (known : ℕ → Option Layout) (all : Option Layout) (l : Layout) (xs : List MemberRow) (i : ℕ) (m : MemberRow) → i < length xs → m ≡ slice_index_or xs i m →
    all ≡ option_map capped (members_layout known l (map plain_member (drop i xs))) →
    None ≡ option_map capped (type_layout known (plain_type m.ty)) → None ≡ all
stop known all l xs i m within is before h =
    member_stop known l (map plain_member (drop (i + 1) xs)) (type_layout known (plain_type m.ty)) h
    ∙ sym (before ∙ ap (option_map capped) (dropped known l xs i m within is))

pub laid_some : (l : Layout) (o : Option Layout) → Some l ≡ option_map capped o → l ≡ capped (laid o)
laid_some l None h = absurd (none-some l (sym h))
laid_some l (Some m) h = ap laid h

pub laid_none : (o : Option Layout) → None ≡ option_map capped o → no_layout ≡ capped (laid o)
laid_none None h = same_layout (omega arith) refl (omega arith)
laid_none (Some m) h = absurd (none-some (capped m) h)

-- where a type is complete, its capped layout is its layout
pub uncapped : (o : Option Layout) (r : Layout) → (laid o).size ≤ most_bytes → r ≡ capped (laid o) → r.scalars ≤ r.size → r ≡ laid o
uncapped o r within is few =
    let size : r.size ≡ min (laid o).size cap = ap (λ (x : Layout). x.size) is in
    let scalars : r.scalars ≡ min (laid o).scalars cap = ap (λ (x : Layout). x.scalars) is in
    is ∙ same_layout (omega arith) refl (omega arith)

-- one type of a list of complete ones
pub complete_at : (s : PlainStructs) (ts : List CType) (i : ℕ) (t : CType) → All (IsComplete s) (map plain_type ts) → i < length ts → t ≡ get_or ts i t → IsComplete s (plain_type t)
complete_at s ts i t all within is =
    let long : length (map plain_type ts) ≡ length ts = length-map ts plain_type in
    subst (IsComplete s) (get_or-map plain_type ts i t (plain_type t) within ∙ ap plain_type (sym is)) (all i (plain_type t) (omega arith))

pub fits_known : (o : Option Layout) → fits_object o ≡ true → o ≡ Some (laid o)
fits_known None h = ap (λ b. if b then Some no_layout else None) h
fits_known (Some l) h = refl

pub fits_within : (o : Option Layout) → fits_object o ≡ true → (laid o).size ≤ most_bytes
fits_within None h = omega arith
fits_within (Some l) h = leb-true l.size most_bytes h

not_below : (n : ℕ) → cap ≤ n → nat_le n most_bytes ≡ false
not_below n more = false_from_ne_true (nat_le n most_bytes) (λ h. let k = leb-true n most_bytes h in omega arith)

same_fit : (n : ℕ) → nat_le (min n cap) most_bytes ≡ nat_le n most_bytes
same_fit n = ⊎_elim
    (λ (less : n < cap). let own : min n cap ≡ n = omega arith in ap (λ m. nat_le m most_bytes) own)
    (λ (more : cap ≤ n). let capped_is : min n cap ≡ cap = omega arith in ap (λ m. nat_le m most_bytes) capped_is ∙ sym (not_below n more))
    (cases_lt n cap)

-- what a capped layout tells of a type
map_is_some : {A B : Type 0} (f : A → B) (o : Option A) → is_some (option_map f o) ≡ is_some o
map_is_some f None = refl
map_is_some f (Some x) = refl

pub same_some : {A : Type 0} (f : A → Layout) (r : Option A) (o : Option Layout) → option_map f r ≡ option_map capped o → is_some r ≡ is_some o
same_some f r o h = sym (map_is_some f r) ∙ ap is_some h ∙ map_is_some capped o

pub fits_some : (o : Option Layout) (l : Layout) → Some l ≡ option_map capped o → nat_le l.size most_bytes ≡ fits_object o
fits_some None l h = absurd (none-some l (sym h))
fits_some (Some m) l h = ap (λ (x : Layout). nat_le x.size most_bytes) (ap laid h) ∙ same_fit m.size

pub fits_none : (o : Option Layout) → None ≡ option_map capped o → fits_object o ≡ false
fits_none None h = refl
fits_none (Some m) h = absurd (none-some (capped m) h)
