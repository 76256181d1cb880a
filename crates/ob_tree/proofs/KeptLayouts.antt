-- The layouts that are kept beside the rows of structure types stay right: as a structure is declared, and as one
-- gets its members. And a structure whose members have no layout together has none.
use Rattle.std.proofs.Common.{◌≡◌, ◌≢◌, ℕ, zero, suc, ◌+◌, ◌-◌, ◌≤◌, Bool, true, false, Option, Some, None, option_map, List, [], ◌∷◌, ◌++◌, length, slice_get, slice_set, refl, sym, ap, arith, ◌∙◌, ⊎_elim, subst}
use Rattle.std.specs.Prelude.{if◌then◌else◌, option_and_then}
use Rattle.std.specs.Option.{is_some}
use Rattle.std.proofs.lemmas.Option.{none-some}
use Rattle.std.proofs.lemmas.Bool.{cases_eq, true≢false}
use Rattle.ob_tree.specs.Types.{PlainType, PlainMember, PlainStruct, PlainStructs, is_complete_row, unknown_struct, with_members}
use Rattle.ob_tree.specs.Sizes.{Layout, appended, layout, no_layout, repeated, type_layout, members_layout, row_layout, struct_layout}
use Rattle.ob_tree.specs.StructLayouts.{AreKept, completed}

-- what is known on the left is known on the right
abbrev pub Below : Option Layout → Option Layout → Type 0
Below o p = (l : Layout) → o ≡ Some l → p ≡ Some l

abbrev Known : Type 0
Known = ℕ → Option Layout

map_below : (f : Layout → Layout) (o p : Option Layout) → Below o p → Below (option_map f o) (option_map f p)
map_below f None p h l is = absurd (none-some l is)
map_below f (Some x) p h l is = ap (option_map f) (h x refl) ∙ is

then_below : (f g : Layout → Option Layout) (o p : Option Layout) → Below o p → ((x : Layout) → Below (f x) (g x)) → Below (option_and_then f o) (option_and_then g p)
then_below f g None p h k l is = absurd (none-some l is)
then_below f g (Some x) p h k l is = ap (option_and_then g) (h x refl) ∙ k x l is

pub type_below : (f g : Known) → ((n : ℕ) → Below (f n) (g n)) → (t : PlainType) → Below (type_layout f t) (type_layout g t)
type_below f g h PlainType.Void l is = is
type_below f g h (PlainType.Int k) l is = is
type_below f g h (PlainType.Pointer t) l is = is
type_below f g h (PlainType.Array t n) l is = map_below (λ l. repeated l n) (type_layout f t) (type_layout g t) (type_below f g h t) l is
type_below f g h (PlainType.Struct n) l is = h n l is

pub members_below : (f g : Known) → ((n : ℕ) → Below (f n) (g n)) → (l : Layout) (ms : List PlainMember) → Below (members_layout f l ms) (members_layout g l ms)
members_below f g h l [] r is = is
members_below f g h l (m ∷ ms) r is =
    then_below (λ p. members_layout f (appended l p) ms) (λ p. members_layout g (appended l p) ms) (type_layout f m.ty) (type_layout g m.ty)
    (type_below f g h m.ty) (λ p. members_below f g h (appended l p) ms) r is

where_below : (b : Bool) (o p : Option Layout) → Below o p → Below (if b then o else None) (if b then p else None)
where_below true o p h l is = h l is
where_below false o p h l is = is

pub row_below : (f g : Known) → ((n : ℕ) → Below (f n) (g n)) → (o : Option PlainStruct) → Below (row_layout f o) (row_layout g o)
row_below f g h None l is = is
row_below f g h (Some r) l is = where_below r.complete (members_layout f no_layout r.members) (members_layout g no_layout r.members) (members_below f g h no_layout r.members) l is

where_true : (b : Bool) (o : Option Layout) (l : Layout) → (if b then o else None) ≡ Some l → b ≡ true
where_true true o l is = refl
where_true false o l is = absurd (none-some l is)

pub where_some : (b : Bool) (o : Option Layout) (l : Layout) → (if b then o else None) ≡ Some l → o ≡ Some l
where_some true o l is = is
where_some false o l is = absurd (none-some l is)

-- ---- structures that nest deeper, and more of them

-- a complete row of the first is one of the second
abbrev pub Extends : PlainStructs → PlainStructs → Type 0
Extends s t = (n : ℕ) (r : PlainStruct) → slice_get s n ≡ Some r → r.complete ≡ true → slice_get t n ≡ Some r

row_extends : (f g : Known) → ((n : ℕ) → Below (f n) (g n)) → (o p : Option PlainStruct) → ((r : PlainStruct) → o ≡ Some r → r.complete ≡ true → p ≡ Some r) → Below (row_layout f o) (row_layout g p)
row_extends f g h None p e l is = absurd (none-some l is)
row_extends f g h (Some r) p e l is =
    ap (row_layout g) (e r refl (where_true r.complete (members_layout f no_layout r.members) l is)) ∙ row_below f g h (Some r) l is

pub extends_below : (s t : PlainStructs) → Extends s t → (depth n : ℕ) → Below (struct_layout depth s n) (struct_layout depth t n)
extends_below s t e zero n l is = absurd (none-some l is)
extends_below s t e (suc depth) n l is =
    row_extends (struct_layout depth s) (struct_layout depth t) (λ m. extends_below s t e depth m) (slice_get s n) (slice_get t n) (e n) l is

pub depth_below : (depth : ℕ) (s : PlainStructs) (n : ℕ) → Below (struct_layout depth s n) (struct_layout (suc depth) s n)
depth_below zero s n l is = absurd (none-some l is)
depth_below (suc depth) s n l is = row_below (struct_layout depth s) (struct_layout (suc depth) s) (λ m. depth_below depth s m) (slice_get s n) l is

more_below : (more depth : ℕ) (s : PlainStructs) (n : ℕ) → Below (struct_layout depth s n) (struct_layout (more + depth) s n)
more_below zero depth s n l is = let own : depth ≡ 0 + depth = omega arith in subst (λ k. struct_layout k s n ≡ Some l) own is
more_below (suc more) depth s n l is =
    let next : suc (more + depth) ≡ suc more + depth = omega arith in
    subst (λ k. struct_layout k s n ≡ Some l) next (depth_below (more + depth) s n l (more_below more depth s n l is))

pub deeper_below : (depth d : ℕ) (s : PlainStructs) (n : ℕ) → depth ≤ d → Below (struct_layout depth s n) (struct_layout d s n)
deeper_below depth d s n more l is =
    let whole : (d - depth) + depth ≡ d = omega arith in
    subst (λ k. struct_layout k s n ≡ Some l) whole (more_below (d - depth) depth s n l is)

where_none : (b : Bool) (o : Option Layout) → b ≡ false → (if b then o else None) ≡ None
where_none true o h = ap (λ b. if b then o else None) h
where_none false o h = refl

row_none : (f : Known) (o : Option PlainStruct) → is_complete_row o ≡ false → row_layout f o ≡ None
row_none f None h = refl
row_none f (Some r) h = where_none r.complete (members_layout f no_layout r.members) h

-- a structure without its members has no layout
struct_none : (depth : ℕ) (s : PlainStructs) (n : ℕ) → is_complete_row (slice_get s n) ≡ false → struct_layout depth s n ≡ None
struct_none zero s n h = refl
struct_none (suc depth) s n h = row_none (struct_layout depth s) (slice_get s n) h

-- ---- what is kept, at any depth that is enough

some_at : (s t : PlainStructs) (c d n : ℕ) → Extends s t → c ≤ d → is_complete_row (slice_get t n) ≡ is_complete_row (slice_get s n) → (o : Option Layout) → o ≡ struct_layout c s n → is_complete_row (slice_get s n) ≡ is_some o → o ≡ struct_layout d t n
some_at s t c d n e less same None is known = sym (struct_none d t n (same ∙ known))
some_at s t c d n e less same (Some l) is known = sym (deeper_below c d t n less l (extends_below s t e c n l (sym is)))

few_case : (b : Bool) (c n : ℕ) → c ≤ n → (if b then suc c else c) ≤ suc n
few_case true c n h = omega arith
few_case false c n h = omega arith

completed-few : (s : PlainStructs) → completed s ≤ length s
completed-few [] = omega arith
completed-few (r ∷ rs) = few_case r.complete (completed rs) (length rs) (completed-few rs)

-- the layout that is kept is the structure's
pub kept_is : (s : PlainStructs) (f : Known) → AreKept s f → (n : ℕ) → f n ≡ struct_layout (length s) s n
kept_is s f k n = some_at s s (completed s) (length s) n (λ m r is c. is) (completed-few s) refl (f n) (k.right n) (k.known n)

-- ---- a step

-- what is kept of a number afterwards is what was kept, or it is right
abbrev Follows : (s t : PlainStructs) (f g : Known) (n : ℕ) → Type 0
Follows s t f g n = (g n ≡ f n) × (is_complete_row (slice_get t n) ≡ is_complete_row (slice_get s n))

right_after : (s t : PlainStructs) (f g : Known) → AreKept s f → Extends s t → completed s ≤ completed t → (n : ℕ) → Follows s t f g n → g n ≡ struct_layout (completed t) t n
right_after s t f g k e less n same = same.0 ∙ some_at s t (completed s) (completed t) n e less same.1 (f n) (k.right n) (k.known n)

known_after : (s t : PlainStructs) (f g : Known) → AreKept s f → (n : ℕ) → Follows s t f g n → is_complete_row (slice_get t n) ≡ is_some (g n)
known_after s t f g k n same = same.1 ∙ k.known n ∙ ap is_some (sym same.0)

-- ---- one more structure

declared_row : (s : PlainStructs) (n : ℕ) → is_complete_row (slice_get (s ++ unknown_struct ∷ []) n) ≡ is_complete_row (slice_get s n)
declared_row [] zero = refl
declared_row [] (suc n) = refl
declared_row (r ∷ rs) zero = refl
declared_row (r ∷ rs) (suc n) = declared_row rs n

get_before : (s : PlainStructs) (x r : PlainStruct) (n : ℕ) → slice_get s n ≡ Some r → slice_get (s ++ x ∷ []) n ≡ Some r
get_before [] x r n is = absurd (none-some r is)
get_before (y ∷ ys) x r zero is = is
get_before (y ∷ ys) x r (suc n) is = get_before ys x r n is

declared_count : (s : PlainStructs) → completed (s ++ unknown_struct ∷ []) ≡ completed s
declared_count [] = refl
declared_count (r ∷ rs) = ap (λ c. if r.complete then suc c else c) (declared_count rs)

pub kept_declared : (s : PlainStructs) (f g : Known) → AreKept s f → ((n : ℕ) → g n ≡ f n) → AreKept (s ++ unknown_struct ∷ []) g
kept_declared s f g k same =
    let t = s ++ unknown_struct ∷ [] in
    let count = declared_count s in
    record {
      right = λ n. right_after s t f g k (λ m r is c. get_before s unknown_struct r m is) (omega arith) n (same n, declared_row s n);
      known = λ n. known_after s t f g k n (same n, declared_row s n);
    }

-- ---- members

pub get_set_same : {A : Type 0} (xs : List A) (x y : A) (n : ℕ) → slice_get xs n ≡ Some x → slice_get (slice_set xs n y) n ≡ Some y
get_set_same [] x y n is = absurd (none-some x is)
get_set_same (z ∷ zs) x y zero is = refl
get_set_same (z ∷ zs) x y (suc n) is = get_set_same zs x y n is

pub get_set_other : {A : Type 0} (xs : List A) (y : A) (n m : ℕ) → m ≢ n → slice_get (slice_set xs n y) m ≡ slice_get xs m
get_set_other [] y n m other = refl
get_set_other (z ∷ zs) y zero zero other = absurd (other refl)
get_set_other (z ∷ zs) y zero (suc m) other = refl
get_set_other (z ∷ zs) y (suc n) zero other = refl
get_set_other (z ∷ zs) y (suc n) (suc m) other = get_set_other zs y n m (λ is. other (ap suc is))

abbrev some_row : Option PlainStruct → PlainStruct
some_row None = unknown_struct
some_row (Some r) = r

count_head : (ys : PlainStructs) (y : PlainStruct) → Some y ≡ Some unknown_struct → suc (completed ys) ≡ suc (completed (y ∷ ys))
count_head ys y is = ap (λ r. suc (completed (some_row r ∷ ys))) (sym is)

turn_suc : (b : Bool) (c : ℕ) → (if b then suc (suc c) else suc c) ≡ suc (if b then suc c else c)
turn_suc true c = refl
turn_suc false c = refl

count_set : (s : PlainStructs) (ms : List PlainMember) (n : ℕ) → slice_get s n ≡ Some unknown_struct → completed (with_members s n ms) ≡ suc (completed s)
count_set [] ms n is = absurd (none-some unknown_struct is)
count_set (y ∷ ys) ms zero is = count_head ys y is
count_set (y ∷ ys) ms (suc n) is = ap (λ c. if y.complete then suc c else c) (count_set ys ms n is) ∙ turn_suc y.complete (completed ys)

-- another structure that is complete isn't the one without members
other_number : (s : PlainStructs) (n m : ℕ) (r : PlainStruct) → slice_get s n ≡ Some unknown_struct → slice_get s m ≡ Some r → r.complete ≡ true → m ≢ n
other_number s n m r bare is whole same =
    let row : Some r ≡ Some unknown_struct = sym is ∙ ap (slice_get s) same ∙ bare in
    let no : true ≡ false = sym whole ∙ ap (λ o. is_complete_row o) row in
    true≢false no

pub extends_members : (s : PlainStructs) (n : ℕ) (ms : List PlainMember) → slice_get s n ≡ Some unknown_struct → Extends s (with_members s n ms)
extends_members s n ms bare m r is whole =
    get_set_other s (record { complete = true; members = ms }) n m (other_number s n m r bare is whole) ∙ is

-- the layout of the structure that gets its members
members_right : (s : PlainStructs) (f : Known) (n : ℕ) (ms : List PlainMember) (l : Layout) → AreKept s f → slice_get s n ≡ Some unknown_struct → members_layout (struct_layout (length s) s) no_layout ms ≡ Some l →
    struct_layout (completed (with_members s n ms)) (with_members s n ms) n ≡ Some l
members_right s f n ms l k bare is =
    let t = with_members s n ms in
    let known = struct_layout (completed s) t in
    let row : slice_get t n ≡ Some (record { complete = true; members = ms }) = get_set_same s unknown_struct (record { complete = true; members = ms }) n bare in
    ap (λ c. struct_layout c t n) (count_set s ms n bare) ∙ ap (row_layout known) row
    ∙ members_below (struct_layout (length s) s) known
    (λ m x h. extends_below s t (extends_members s n ms bare) (completed s) m x (sym (k.right m) ∙ kept_is s f k m ∙ h)) no_layout ms l is

pub kept_members : (s : PlainStructs) (f g : Known) (n : ℕ) (ms : List PlainMember) (l : Layout) → AreKept s f → slice_get s n ≡ Some unknown_struct → members_layout (struct_layout (length s) s) no_layout ms ≡ Some l →
    g n ≡ Some l → ((m : ℕ) → m ≢ n → g m ≡ f m) → AreKept (with_members s n ms) g
kept_members s f g n ms l k bare is here others =
    let t = with_members s n ms in
    let r : PlainStruct = record { complete = true; members = ms } in
    let count = count_set s ms n bare in
    record {
      right = λ m. ⊎_elim
          (λ (same : m ≡ n). ap g same ∙ here ∙ sym (ap (struct_layout (completed t) t) same ∙ members_right s f n ms l k bare is))
          (λ (other : m ≢ n). right_after s t f g k (extends_members s n ms bare) (omega arith) m (others m other, ap is_complete_row (get_set_other s r n m other)))
          (cases_eq m n);
      known = λ m. ⊎_elim
          (λ (same : m ≡ n). ap (λ i. is_complete_row (slice_get t i)) same ∙ ap is_complete_row (get_set_same s unknown_struct r n bare) ∙ sym (ap is_some (ap g same ∙ here)))
          (λ (other : m ≢ n). known_after s t f g k m (others m other, ap is_complete_row (get_set_other s r n m other)))
          (cases_eq m n);
    }

-- ---- what the members of a structure make together is its layout once it has them

-- at any depth, a layout is the one that is kept
known_depth : (s : PlainStructs) (d n : ℕ) (l : Layout) → struct_layout d s n ≡ Some l → (o : Option Layout) → is_complete_row (slice_get s n) ≡ is_some o → o ≡ struct_layout (length s) s n → struct_layout (length s) s n ≡ Some l
known_depth s d n l is None none whole = absurd (none-some l (sym (struct_none d s n none) ∙ is))
known_depth s d n l is (Some m) some whole =
    let one = deeper_below d (d + length s) s n (omega arith) l is in
    let two = deeper_below (length s) (d + length s) s n (omega arith) m (sym whole) in
    sym whole ∙ sym two ∙ one

any_depth : (s : PlainStructs) (f : Known) → AreKept s f → (d n : ℕ) → Below (struct_layout d s n) (struct_layout (length s) s n)
any_depth s f k d n l is =
    known_depth s d n l is (f n) (k.known n) (kept_is s f k n)

-- where the members have no layout together, they add none to the structures
back_below : (s : PlainStructs) (f : Known) → AreKept s f → (n : ℕ) (ms : List PlainMember) → slice_get s n ≡ Some unknown_struct → members_layout (struct_layout (length s) s) no_layout ms ≡ None →
    (depth m : ℕ) → Below (struct_layout depth (with_members s n ms) m) (struct_layout depth s m)
back_below s f k n ms bare none zero m l is = absurd (none-some l is)
back_below s f k n ms bare none (suc depth) m l is =
    let r : PlainStruct = record { complete = true; members = ms } in
    let before = struct_layout depth s in
    let after = struct_layout depth (with_members s n ms) in
    let back = back_below s f k n ms bare none depth in
    ⊎_elim
    (λ (same : m ≡ n).
    let row : slice_get (with_members s n ms) m ≡ Some r = ap (slice_get (with_members s n ms)) same ∙ get_set_same s unknown_struct r n bare in
    let made : members_layout after no_layout ms ≡ Some l = sym (ap (row_layout after) row) ∙ is in
    let whole : members_layout (struct_layout (length s) s) no_layout ms ≡ Some l =
    members_below after (struct_layout (length s) s) (λ i x h. any_depth s f k depth i x (back i x h)) no_layout ms l made in
    absurd (none-some l (sym none ∙ whole)))
    (λ (other : m ≢ n).
    let row = get_set_other s r n m other in
    ap (row_layout before) (sym row) ∙ row_below after before back (slice_get (with_members s n ms) m) l is)
    (cases_eq m n)

whole_layout : (s : PlainStructs) (f : Known) → AreKept s f → (n : ℕ) (ms : List PlainMember) → slice_get s n ≡ Some unknown_struct →
    (o : Option Layout) → members_layout (struct_layout (length s) s) no_layout ms ≡ o → (p : Option Layout) → layout (with_members s n ms) (PlainType.Struct n) ≡ p → p ≡ o
whole_layout s f k n ms bare (Some l) is p whole =
    let t = with_members s n ms in
    sym whole ∙ deeper_below (completed t) (length t) t n (completed-few t) l (members_right s f n ms l k bare is)
whole_layout s f k n ms bare None is None whole = refl
whole_layout s f k n ms bare None is (Some l) whole =
    let back = back_below s f k n ms bare is (length (with_members s n ms)) n l whole in
    absurd (none-some l (sym (struct_none (length (with_members s n ms)) s n (ap is_complete_row bare)) ∙ back))

pub layout_of_members : (s : PlainStructs) (f : Known) → AreKept s f → (n : ℕ) (ms : List PlainMember) → slice_get s n ≡ Some unknown_struct →
    layout (with_members s n ms) (PlainType.Struct n) ≡ members_layout (struct_layout (length s) s) no_layout ms
layout_of_members s f k n ms bare =
    whole_layout s f k n ms bare (members_layout (struct_layout (length s) s) no_layout ms) refl (layout (with_members s n ms) (PlainType.Struct n)) refl
