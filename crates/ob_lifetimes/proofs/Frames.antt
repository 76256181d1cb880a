-- The objects of a function's rows: that they lie apart in its frame, and that they are those that a call's numbers name.
use Rattle.std.proofs.Common.{◌≡◌, ℕ, zero, suc, ◌+◌, ◌-◌, ◌<◌, ◌≤◌, ◌==◌, Bool, true, false, ◌||◌, List, [], ◌∷◌, ◌++◌, length, take, map, arith, refl, sym, ap, ◌∙◌, subst, inl, inr, ⊎_elim}
use Rattle.std.specs.List.{All, Contains, slice_get}
use Rattle.std.proofs.lemmas.Bool.{and_from, cases_Bool, cases_eq, eq-eqb, eqb-true, false_from_ne_true, le-leb, lt-ltb, or_cases, or_left, or_right}
use Rattle.std.proofs.lemmas.List.{get_or-take, get_or_default, length-take-le}
use Rattle.std.proofs.lemmas.List.Elements.{All-contains}
use Rattle.std.proofs.lemmas.Option.{slice_get-get_or}
use Rattle.ob_model.specs.declared.objects.Entry.{Entry}
use Rattle.ob_model.specs.Entries.{Known, with_live}
use Rattle.ob_model.specs.Objects.{is_among}
use Rattle.ob_code.specs.declared.image.FunctionRow.{FunctionRow}
use Rattle.ob_code.specs.declared.image.LocalRow.{LocalRow}
use Rattle.ob_code.specs.Frames.{end_of, frame_length, local_end, local_entry, locals_end, with_locals}
use Rattle.ob_code.specs.Layout.{no_local}
use Rattle.ob_code.specs.Rules.{IsFrameSound, local_at}
use Rattle.ob_standing.specs.Laws.{IsGivenOut}
use Rattle.ob_lifetimes.specs.Living.{AreOfRows, LiesOutside}
use Rattle.ob_lifetimes.specs.Kept.{HasNumber, IsBeside}
use Rattle.ob_lifetimes.proofs.Members.{Contains-nil, Contains_cases, All-from_members, from_map, here, there}

module _ (f : FunctionRow) (sound : IsFrameSound f) where
  -- one row and the next
  step_up : (j : ℕ) → suc j < length f.locals → ((local_at f j).ordinal < (local_at f (suc j)).ordinal) × (local_end (local_at f j) ≤ (local_at f (suc j)).place)
  step_up j below =
      let back : suc j - 1 ≡ j = omega arith in
      let one = sound.locals (suc j) below in (
        subst (λ n. (local_at f n).ordinal < (local_at f (suc j)).ordinal) back (one.ordinals (omega arith)),
        subst (λ n. local_end (local_at f n) ≤ (local_at f (suc j)).place) back (one.places (omega arith)),
      )

  -- numbers and places rise
  pub rows_rise : (i j : ℕ) → i < j → j < length f.locals → ((local_at f i).ordinal < (local_at f j).ordinal) × (local_end (local_at f i) ≤ (local_at f j).place)
  rows_rise i zero less below = absurd (omega arith)
  rows_rise i (suc j) less below =
      let last = step_up j below in
      ⊎_elim
      (λ same. subst (λ n. ((local_at f n).ordinal < (local_at f (suc j)).ordinal) × (local_end (local_at f n) ≤ (local_at f (suc j)).place)) (sym same) last)
      (λ apart.
      let rest = rows_rise i j (omega arith) (omega arith) in
      (omega (arith, last.0, rest.0), omega (arith, last.1, rest.1)))
      (cases_eq i j)

  end_is : (j : ℕ) → suc j ≡ length f.locals → locals_end f.locals ≡ local_end (local_at f j)
  end_is j last =
      let back : length f.locals - 1 ≡ j = omega arith in
      ap (λ n. end_of (slice_get f.locals n)) back ∙ ap end_of (slice_get-get_or f.locals j no_local (omega arith))

  -- each ends within the frame
  pub rows_within : (j : ℕ) → j < length f.locals → local_end (local_at f j) ≤ frame_length f
  rows_within j below =
      let last : ℕ = length f.locals - 1 in
      let end : locals_end f.locals ≡ local_end (local_at f last) = end_is last (omega arith) in
      let up : local_end (local_at f j) ≤ local_end (local_at f last) =
      ⊎_elim
      (λ same. let is : local_end (local_at f j) ≡ local_end (local_at f last) = ap (λ n. local_end (local_at f n)) same in omega (arith, is))
      (λ apart. let rise = rows_rise j last (omega arith) (omega arith) in omega (arith, rise.1))
      (cases_eq j last) in
      omega (arith, end, up)

  -- ---- a call

  -- as it begins, a row's object may be made beside each other object
  pub beside_all : (base j : ℕ) (ks : List Known) (first : ℕ) → j < length f.locals → All (LiesOutside base (base + frame_length f)) ks → All (IsGivenOut first) ks → All (IsBeside base first (local_at f j)) ks
  beside_all base j ks first below outside given =
      All-from_members (IsBeside base first (local_at f j)) ks (λ k among.
      let lies : LiesOutside base (base + frame_length f) k = All-contains (LiesOutside base (base + frame_length f)) ks k outside among in
      let out : IsGivenOut first k = All-contains (IsGivenOut first) ks k given among in
      let within : local_end (local_at f j) ≤ frame_length f = rows_within j below in (
        ⊎_elim (λ before. inr (omega (arith, before))) (λ behind. inl (omega (arith, behind, within))) lies,
        (λ same. omega (arith, same, out.2)),
      ))

  -- and beside those of the rows before it
  pub beside_row : (base first i j : ℕ) → i < j → j < length f.locals → IsBeside base first (local_at f j) (record { entry = local_entry base first (local_at f i); freed = false })
  beside_row base first i j less below =
      let rise = rows_rise i j less below in
      (inr (omega (arith, rise.1)), (λ same. omega (arith, same, rise.0)))

-- one row more
pub with_locals-push : (base first : ℕ) (r : LocalRow) (rows : List LocalRow) (ks : List Known) → with_locals base first (rows ++ r ∷ []) ks ≡ with_live (local_entry base first r) (with_locals base first rows ks)
with_locals-push base first r [] ks = refl
with_locals-push base first r (s ∷ rows) ks = with_locals-push base first r rows (with_live (local_entry base first s) ks)

-- ---- the numbers of rows

abbrev pub is_row : ℕ → List LocalRow → ℕ → Bool
is_row first [] object = false
is_row first (r ∷ rs) object = (object == first + r.ordinal) || is_row first rs object

or-false : (b : Bool) → (b || false) ≡ b
or-false true = refl
or-false false = refl

or_assoc : (a b c : Bool) → (a || (b || c)) ≡ ((a || b) || c)
or_assoc true b c = refl
or_assoc false b c = refl

pub is_row-push : (first : ℕ) (r : LocalRow) (rows : List LocalRow) (object : ℕ) → is_row first (rows ++ r ∷ []) object ≡ (is_row first rows object || (object == first + r.ordinal))
is_row-push first r [] object = or-false (object == first + r.ordinal)
is_row-push first r (s ∷ rows) object =
    ap (λ b. (object == first + s.ordinal) || b) (is_row-push first r rows object)
    ∙ or_assoc (object == first + s.ordinal) (is_row first rows object) (object == first + r.ordinal)

is_row_some : (first : ℕ) (r : LocalRow) (rows : List LocalRow) (object : ℕ) → Contains rows r → object ≡ first + r.ordinal → is_row first rows object ≡ true
is_row_some first r [] object among is = Contains-nil r among
is_row_some first r (s ∷ rows) object among is =
    ⊎_elim
    (λ same. or_left (object == first + s.ordinal) (is_row first rows object) (eq-eqb object (first + s.ordinal) (is ∙ ap (λ (x : LocalRow). first + x.ordinal) (sym same))))
    (λ later. or_right (object == first + s.ordinal) (is_row first rows object) (is_row_some first r rows object later is))
    (Contains_cases s r rows among)

row_of : (first : ℕ) (rows : List LocalRow) (object : ℕ) → is_row first rows object ≡ true → (r : LocalRow) × Contains rows r × (object ≡ first + r.ordinal)
row_of first [] object is = absurd (cc)
row_of first (s ∷ rows) object is =
    ⊎_elim
    (λ same. (s, here s rows, eqb-true object (first + s.ordinal) same))
    (λ later. let one = row_of first rows object later in (one.0, there s one.0 rows one.1, one.2))
    (or_cases (object == first + s.ordinal) (is_row first rows object) is)

-- the rows before one have other numbers
pub is_row_before : (f : FunctionRow) → IsFrameSound f → (first i : ℕ) → i < length f.locals → is_row first (take i f.locals) (first + (local_at f i).ordinal) ≡ false
is_row_before f sound first i below =
    false_from_ne_true (is_row first (take i f.locals) (first + (local_at f i).ordinal)) (λ is.
    let one = row_of first (take i f.locals) (first + (local_at f i).ordinal) is in
    let k : ℕ = one.1.0 in
    let long : length (take i f.locals) ≡ i = length-take-le i f.locals (omega arith) in
    let within : k < length (take i f.locals) = one.1.1 in
    let less : k < i = omega (arith, within, long) in
    let row : local_at f k ≡ one.0 = sym (get_or-take i f.locals k no_local less) ∙ get_or_default (take i f.locals) k no_local one.0 within ∙ one.1.2 in
    let rise = rows_rise f sound k i less below in
    let ordinal : (local_at f k).ordinal ≡ one.0.ordinal = ap (λ (r : LocalRow). r.ordinal) row in
    omega (arith, rise.0, ordinal, one.2))

-- of the objects that are known, those of the rows are those that the call's numbers name
module _ (f : FunctionRow) (sound : IsFrameSound f) (base first : ℕ) (ks : List Known) (own : AreOfRows (is_among first f.vars) base first f.locals ks) where
  among_row : (object : ℕ) → is_row first f.locals object ≡ true → is_among first f.vars object ≡ true
  among_row object is =
      let one = row_of first f.locals object is in
      let row : local_at f one.1.0 ≡ one.0 = get_or_default f.locals one.1.0 no_local one.0 one.1.1 ∙ one.1.2 in
      let few : one.0.ordinal < f.vars = subst (λ (r : LocalRow). r.ordinal < f.vars) row (sound.locals one.1.0 one.1.1).ordinal in
      and_from _ _ (le-leb first object (omega (arith, one.2))) (lt-ltb object (first + f.vars) (omega (arith, one.2, few)))

  row_among : (object : ℕ) → HasNumber ks object → is_among first f.vars object ≡ true → is_row first f.locals object ≡ true
  row_among object has is =
      let P : Known → Type 0 = λ k. is_among first f.vars k.entry.object ≡ true → Contains (map (local_entry base first) f.locals) k.entry in
      let entry : Contains (map (local_entry base first) f.locals) has.k.entry = All-contains P ks has.k own has.known (ap (is_among first f.vars) has.number ∙ is) in
      let one = from_map (local_entry base first) has.k.entry f.locals entry in
      is_row_some first one.0 f.locals object one.1 (sym has.number ∙ sym (ap (λ (e : Entry). e.object) one.2))

  pub numbers_agree : (object : ℕ) → HasNumber ks object → is_row first f.locals object ≡ is_among first f.vars object
  numbers_agree object has =
      ⊎_elim
      (λ is. is ∙ sym (among_row object is))
      (λ not_row. not_row ∙ sym (false_from_ne_true (is_among first f.vars object) (λ is. let both : is_row first f.locals object ≡ true = row_among object has is in absurd (cc))))
      (cases_Bool (is_row first f.locals object))
