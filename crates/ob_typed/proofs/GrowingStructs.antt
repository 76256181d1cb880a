-- Structures are only added and completed, so what is known of a type stays (C99 6.7.2.3).
use Rattle.std.proofs.Common.{◌≡◌, ◌≢◌, ◌⊎◌, inl, inr, ◌≤◌, ℕ, zero, suc, ◌+◌, ◌-◌, Bool, true, false, Option, Some, None, option_map, List, [], ◌∷◌, ◌++◌, length, slice_get, slice_set, refl, sym, ap, arith, ◌∙◌, ⊎_elim, subst, length-append}
use Rattle.std.specs.Prelude.{◌&&◌}
use Rattle.std.specs.Option.{is_some}
use Rattle.std.proofs.lemmas.Option.{none-some}
use Rattle.std.proofs.lemmas.Bool.{cases_eq, leb-true, true≢false}
use Rattle.std.proofs.lemmas.List.{length-set}
use Rattle.ob_tree.proofs.KeptLayouts.{Below, Extends, depth_below, extends_below, get_set_other}
use Rattle.ob_tree.specs.Types.{PlainMember, PlainStruct, PlainStructs, PlainType, is_complete_row, unknown_struct, with_members}
use Rattle.ob_tree.specs.Types.{PlainType as type}
use Rattle.ob_tree.specs.Sizes.{IsComplete, Layout, fits_object, has_size, is_complete, laid, layout, most_bytes, repeated, size, struct_layout, type_layout}
use Rattle.ob_typed.specs.Completeness.{has_length, is_object_type}
use Rattle.ob_typed.specs.WellTyped.{IsSizeOf}
use Rattle.ob_typed.proofs.SameTypes.{both}

-- ---- more structures

-- complete rows of the first are rows of the second, which has no fewer
pub record Grows (s t : PlainStructs) : Type 0 where
  pub rows : Extends s t
  pub count : length s ≤ length t

pub grows_same : (s : PlainStructs) → Grows s s
grows_same s = record { rows = λ n r is whole. is; count = omega arith }

pub grows_more : (s t u : PlainStructs) → Grows s t → Grows t u → Grows s u
grows_more s t u g h =
    let first = g.count in
    let second = h.count in
    record { rows = λ n r is whole. h.rows n r (g.rows n r is whole) whole; count = omega arith }

-- ---- layouts stay

map_same : (f : Layout → Layout) (o p : Option Layout) → Below o p → Below (option_map f o) (option_map f p)
map_same f None p h l is = absurd (none-some l is)
map_same f (Some x) p h l is = ap (option_map f) (h x refl) ∙ is

types_below : (f g : ℕ → Option Layout) → ((n : ℕ) → Below (f n) (g n)) → (t : PlainType) → Below (type_layout f t) (type_layout g t)
types_below f g h type.Void l is = is
types_below f g h (type.Int k) l is = is
types_below f g h (type.Pointer t) l is = is
types_below f g h (type.Array t n) l is =
    map_same (λ x. repeated x n) (type_layout f t) (type_layout g t) (types_below f g h t) l is
types_below f g h (type.Struct n) l is = h n l is

deeper_by : (more depth : ℕ) (s : PlainStructs) (n : ℕ) → Below (struct_layout depth s n) (struct_layout (more + depth) s n)
deeper_by zero depth s n l is =
    let own : depth ≡ 0 + depth = omega arith in subst (λ k. struct_layout k s n ≡ Some l) own is
deeper_by (suc more) depth s n l is =
    let next : suc (more + depth) ≡ suc more + depth = omega arith in
    subst (λ k. struct_layout k s n ≡ Some l) next (depth_below (more + depth) s n l (deeper_by more depth s n l is))

structs_below : (s t : PlainStructs) → Grows s t → (n : ℕ) → Below (struct_layout (length s) s n) (struct_layout (length t) t n)
structs_below s t g n l is =
    let count = g.count in
    let whole : (length t - length s) + length s ≡ length t = omega arith in
    subst (λ k. struct_layout k t n ≡ Some l) whole
    (deeper_by (length t - length s) (length s) t n l (extends_below s t g.rows (length s) n l is))

pub layout_stays : (s t : PlainStructs) → Grows s t → (u : PlainType) → Below (layout s u) (layout t u)
layout_stays s t g u =
    types_below (struct_layout (length s) s) (struct_layout (length t) t) (structs_below s t g) u

fits_some : (o : Option Layout) → fits_object o ≡ true → o ≡ Some (laid o)
fits_some None h = absurd (cc)
fits_some (Some l) h = refl

pub has_layout : (s : PlainStructs) (t : PlainType) → IsComplete s t → layout s t ≡ Some (laid (layout s t))
has_layout s t h = fits_some (layout s t) h

pub size_stays : (s t : PlainStructs) → Grows s t → (u : PlainType) → IsComplete s u → size t u ≡ size s u
size_stays s t g u h =
    ap (λ (o : Option Layout). (laid o).size) (layout_stays s t g u (laid (layout s u)) (has_layout s u h))

pub complete_stays : (s t : PlainStructs) → Grows s t → (u : PlainType) → IsComplete s u → IsComplete t u
complete_stays s t g u h =
    ap fits_object (layout_stays s t g u (laid (layout s u)) (has_layout s u h)) ∙ sym (ap fits_object (has_layout s u h)) ∙ h

pub sized_stays : (s t : PlainStructs) → Grows s t → (u : PlainType) → has_size s u ≡ true → has_size t u ≡ true
sized_stays s t g u h = of_layout (layout s u) refl h
  where
    of_layout : (o : Option Layout) → layout s u ≡ o → is_some o ≡ true → has_size t u ≡ true
    of_layout None is known = absurd (cc)
    of_layout (Some l) is known = ap is_some (layout_stays s t g u l is)

both_true : (a b : Bool) → a ≡ true → b ≡ true → (a && b) ≡ true
both_true true b h i = i
both_true false b h i = absurd (cc)

pub object_stays : (s t : PlainStructs) → Grows s t → (u : PlainType) → is_object_type s u ≡ true → is_object_type t u ≡ true
object_stays s t g u h =
    let parts = both (has_length u) (is_complete s u) h in
    both_true (has_length u) (is_complete t u) parts.0 (complete_stays s t g u parts.1)

-- the size of a type that an object can have is its size at the end
pub size_of : (s t : PlainStructs) → Grows s t → (u : PlainType) → is_object_type s u ≡ true → IsSizeOf t u (size s u)
size_of s t g u h =
    let parts = both (has_length u) (is_complete s u) h in
    (object_stays s t g u h, sym (size_stays s t g u parts.1))

pub fits_few : (o : Option Layout) → fits_object o ≡ true → (laid o).size ≤ most_bytes
fits_few None h = absurd (cc)
fits_few (Some l) h = leb-true l.size most_bytes h

pub size_few : (s : PlainStructs) (u : PlainType) → is_object_type s u ≡ true → size s u ≤ most_bytes
size_few s u h = fits_few (layout s u) (both (has_length u) (is_complete s u) h).1

complete_sized : (o : Option Layout) → fits_object o ≡ true → is_some o ≡ true
complete_sized None h = absurd (cc)
complete_sized (Some l) h = refl

pub object_sized : (s : PlainStructs) (u : PlainType) → is_object_type s u ≡ true → has_size s u ≡ true
object_sized s u h = complete_sized (layout s u) (both (has_length u) (is_complete s u) h).1

-- ---- rows are without members, or complete

abbrev pub IsSoundRow : PlainStructs → ℕ → Option PlainStruct → Type 0
IsSoundRow s n None = Unit {0}
IsSoundRow s n (Some r) = (r ≡ unknown_struct) ⊎ ((r.complete ≡ true) × IsComplete s (type.Struct n))

pub record AreSound (s : PlainStructs) : Type 0 where
  pub each : (n : ℕ) → IsSoundRow s n (slice_get s n)

pub sound_none : AreSound []
sound_none = record { each = λ n. tt }

row_stays : (s t : PlainStructs) → Grows s t → (n : ℕ) (o : Option PlainStruct) → IsSoundRow s n o → IsSoundRow t n o
row_stays s t g n None h = tt
row_stays s t g n (Some r) h =
    ⊎_elim (λ (bare : r ≡ unknown_struct). inl bare)
    (λ (whole : (r.complete ≡ true) × IsComplete s (type.Struct n)). inr (whole.0, complete_stays s t g (type.Struct n) whole.1))
    h

-- ---- one more

get_appended : (s : PlainStructs) (x r : PlainStruct) (n : ℕ) → slice_get s n ≡ Some r → slice_get (s ++ x ∷ []) n ≡ Some r
get_appended [] x r n is = absurd (none-some r is)
get_appended (y ∷ ys) x r zero is = is
get_appended (y ∷ ys) x r (suc n) is = get_appended ys x r n is

pub grows_new : (s : PlainStructs) → Grows s (s ++ unknown_struct ∷ [])
grows_new s =
    let count = length-append s (unknown_struct ∷ []) in
    record { rows = λ n r is whole. get_appended s unknown_struct r n is; count = omega (arith, count) }

new_row : (all s : PlainStructs) (n : ℕ) → ((o : Option PlainStruct) → slice_get s n ≡ o → IsSoundRow all n o) → IsSoundRow all n (slice_get (s ++ unknown_struct ∷ []) n)
new_row all [] zero h = inl refl
new_row all [] (suc n) h = tt
new_row all (r ∷ rs) zero h = h (Some r) refl
new_row all (r ∷ rs) (suc n) h = below rs n h
  where
    below : (xs : PlainStructs) (m : ℕ) → ((o : Option PlainStruct) → slice_get xs m ≡ o → IsSoundRow all (suc n) o) → IsSoundRow all (suc n) (slice_get (xs ++ unknown_struct ∷ []) m)
    below [] zero k = inl refl
    below [] (suc m) k = tt
    below (x ∷ xs) zero k = k (Some x) refl
    below (x ∷ xs) (suc m) k = below xs m k

pub sound_new : (s : PlainStructs) → AreSound s → AreSound (s ++ unknown_struct ∷ [])
sound_new s h =
    let t = s ++ unknown_struct ∷ [] in
    record {
      each = λ n. new_row t s n (λ o is. row_stays s t (grows_new s) n o (subst (IsSoundRow s n) is (h.each n)));
    }

-- ---- a structure gets its members

complete_some : (o : Option PlainStruct) (r : PlainStruct) → o ≡ Some r → r.complete ≡ true → is_complete_row o ≡ true
complete_some o r is whole = ap is_complete_row is ∙ whole

pub grows_members : (s : PlainStructs) (n : ℕ) (ms : List PlainMember) → is_complete_row (slice_get s n) ≡ false → Grows s (with_members s n ms)
grows_members s n ms bare =
    let count = length-set s n (record { complete = true; members = ms }) in
    record {
      rows = λ m r is whole. get_set_other s (record { complete = true; members = ms }) n m
          (λ same. true≢false (sym (complete_some (slice_get s m) r is whole) ∙ ap (λ i. is_complete_row (slice_get s i)) same ∙ bare))
          ∙ is;
      count = omega (arith, count);
    }

set_row : (s : PlainStructs) (n : ℕ) (r : PlainStruct) → (slice_get (slice_set s n r) n ≡ Some r) ⊎ (slice_get (slice_set s n r) n ≡ None)
set_row [] n r = inr refl
set_row (x ∷ xs) zero r = inl refl
set_row (x ∷ xs) (suc n) r = set_row xs n r

pub sound_members : (s : PlainStructs) (n : ℕ) (ms : List PlainMember) → is_complete_row (slice_get s n) ≡ false → IsComplete (with_members s n ms) (type.Struct n) → AreSound s → AreSound (with_members s n ms)
sound_members s n ms bare whole h =
    let row : PlainStruct = record { complete = true; members = ms } in
    let t = with_members s n ms in
    record {
      each = λ m. ⊎_elim
          (λ (same : m ≡ n). subst (λ i. IsSoundRow t i (slice_get t i)) (sym same)
          (⊎_elim
          (λ (is : slice_get t n ≡ Some row). subst (IsSoundRow t n) (sym is) (inr (refl, whole)))
          (λ (is : slice_get t n ≡ None). subst (IsSoundRow t n) (sym is) tt)
          (set_row s n row)))
          (λ (other : m ≢ n). subst (IsSoundRow t m) (sym (get_set_other s row n m other)) (row_stays s t (grows_members s n ms bare) m (slice_get s m) (h.each m)))
          (cases_eq m n);
    }
