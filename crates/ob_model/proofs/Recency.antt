-- How loads and stores order the bounded list.
use Rattle.std.proofs.Common.{◌≡◌, ℕ, suc, ◌+◌, ◌<◌, Bool, true, false, not, cond, ℤ, List, [], ◌∷◌, ◌++◌, length, take, Option, Some, None, arith, refl, ◌∙◌, ap, slice_get}
use Rattle.std.specs.List.{find}
use Rattle.std.specs.Option.{option_map}
use Rattle.std.proofs.lemmas.Bool.{cond-true, cond-false}
use Rattle.std.proofs.lemmas.Bool.Decides.{nat_tests, Decides-int_eq}
use Rattle.std.proofs.lemmas.List.{take_all}
use Rattle.std.proofs.lemmas.Option.{slice_get_past}
use Rattle.std.proofs.lemmas.List.Elements.{All-head, All-tail}
use Rattle.std.proofs.Math.Seq.{take-append_seam}
use Rattle.ob_model.specs.Bounded.{Listed, is_of, without_granule, moved_to_front, after_load, after_store, dropped}
use Rattle.ob_model.specs.Laws.{AreOthers, entry_of}

abbrev IsOther : ℕ → ℤ → Listed ℕ → Type 0
IsOther object granule e = is_of object granule e ≡ false

first_other : (object : ℕ) (granule : ℤ) (e : Listed ℕ) (es : List (Listed ℕ)) → AreOthers object granule (e ∷ es) → is_of object granule e ≡ false
first_other object granule e es others = All-head (IsOther object granule) e es others

more_others : (object : ℕ) (granule : ℤ) (e : Listed ℕ) (es : List (Listed ℕ)) → AreOthers object granule (e ∷ es) → AreOthers object granule es
more_others object granule e es others = All-tail (IsOther object granule) e es others

is_its_own : (object : ℕ) (granule : ℤ) (cell : ℕ) → is_of object granule (entry_of object granule cell) ≡ true
is_its_own object granule cell = grind (arith, nat_tests, Decides-int_eq)

-- the one entry of a granule, among others
find-others : (object : ℕ) (granule : ℤ) (es : List (Listed ℕ)) → AreOthers object granule es → find (is_of object granule) es ≡ None
find-others object granule [] others = refl
find-others object granule (e ∷ es) others = cond-false (is_of object granule e) (Some e) (find (is_of object granule) es) (first_other object granule e es others) ∙ find-others object granule es (more_others object granule e es others)

find-among : (object : ℕ) (granule : ℤ) (cell : ℕ) (before behind : List (Listed ℕ)) → AreOthers object granule (before ++ behind) → find (is_of object granule) (before ++ entry_of object granule cell ∷ behind) ≡ Some (entry_of object granule cell)
find-among object granule cell [] behind others = cond-true (is_of object granule (entry_of object granule cell)) (Some (entry_of object granule cell)) (find (is_of object granule) behind) (is_its_own object granule cell)
find-among object granule cell (e ∷ es) behind others = cond-false (is_of object granule e) (Some e) (find (is_of object granule) (es ++ entry_of object granule cell ∷ behind)) (first_other object granule e (es ++ behind) others) ∙ find-among object granule cell es behind (more_others object granule e (es ++ behind) others)

without-others : (object : ℕ) (granule : ℤ) (es : List (Listed ℕ)) → AreOthers object granule es → without_granule object granule es ≡ es
without-others object granule [] others = refl
without-others object granule (e ∷ es) others =
    ap (λ (same : Bool). cond (not same) (e ∷ without_granule object granule es) (without_granule object granule es)) (first_other object granule e es others)
    ∙ ap (λ (l : List (Listed ℕ)). e ∷ l) (without-others object granule es (more_others object granule e es others))

without-among : (object : ℕ) (granule : ℤ) (cell : ℕ) (before behind : List (Listed ℕ)) → AreOthers object granule (before ++ behind) → without_granule object granule (before ++ entry_of object granule cell ∷ behind) ≡ before ++ behind
without-among object granule cell [] behind others =
    ap (λ (same : Bool). cond (not same) (entry_of object granule cell ∷ without_granule object granule behind) (without_granule object granule behind)) (is_its_own object granule cell)
    ∙ without-others object granule behind others
without-among object granule cell (e ∷ es) behind others =
    ap (λ (same : Bool). cond (not same) (e ∷ without_granule object granule (es ++ entry_of object granule cell ∷ behind)) (without_granule object granule (es ++ entry_of object granule cell ∷ behind))) (first_other object granule e (es ++ behind) others)
    ∙ ap (λ (l : List (Listed ℕ)). e ∷ l) (without-among object granule cell es behind (more_others object granule e (es ++ behind) others))

pub load_moves : (object : ℕ) (granule : ℤ) (cell : ℕ) (before behind : List (Listed ℕ)) → AreOthers object granule (before ++ behind) → after_load object granule (before ++ entry_of object granule cell ∷ behind) ≡ entry_of object granule cell ∷ (before ++ behind)
load_moves object granule cell before behind others =
    ap (λ (found : Option (Listed ℕ)). moved_to_front (option_map (λ (e : Listed ℕ). e.cell) found) object granule (before ++ entry_of object granule cell ∷ behind)) (find-among object granule cell before behind others)
    ∙ ap (λ (l : List (Listed ℕ)). entry_of object granule cell ∷ l) (without-among object granule cell before behind others)

pub other_load : (object : ℕ) (granule : ℤ) (es : List (Listed ℕ)) → AreOthers object granule es → after_load object granule es ≡ es
other_load object granule es others = ap (λ (found : Option (Listed ℕ)). moved_to_front (option_map (λ (e : Listed ℕ). e.cell) found) object granule es) (find-others object granule es others)

-- a list with one more, which fits its bound
within : (cap : ℕ) (e : Listed ℕ) (es : List (Listed ℕ)) → length es < cap → (take cap (e ∷ es) ≡ e ∷ es) × (slice_get (e ∷ es) cap ≡ None)
within cap e es h = (take_all cap (e ∷ es) (omega arith), slice_get_past (e ∷ es) cap (omega arith))

pub store_moves : (cap object : ℕ) (granule : ℤ) (old cell : ℕ) (before behind : List (Listed ℕ)) → AreOthers object granule (before ++ behind) → length (before ++ behind) < cap → (after_store cap object granule cell (before ++ entry_of object granule old ∷ behind) ≡ entry_of object granule cell ∷ (before ++ behind)) × (dropped cap object granule cell (before ++ entry_of object granule old ∷ behind) ≡ None)
store_moves cap object granule old cell before behind others h =
    let rest = without-among object granule old before behind others in
    let fit = within cap (entry_of object granule cell) (before ++ behind) h in (
      ap (λ (l : List (Listed ℕ)). take cap (entry_of object granule cell ∷ l)) rest ∙ fit.0,
      ap (λ (l : List (Listed ℕ)). slice_get (entry_of object granule cell ∷ l) cap) rest ∙ fit.1,
    )

last_is : (others : List (Listed ℕ)) (last : Listed ℕ) → slice_get (others ++ last ∷ []) (length others) ≡ Some last
last_is [] last = refl
last_is (e ∷ es) last = last_is es last

full : (e last : Listed ℕ) (others : List (Listed ℕ)) → (take (suc (length others)) (e ∷ (others ++ last ∷ [])) ≡ e ∷ others) × (slice_get (e ∷ (others ++ last ∷ [])) (suc (length others)) ≡ Some last)
full e last others = (ap (λ (l : List (Listed ℕ)). e ∷ l) (take-append_seam others (last ∷ [])), last_is others last)

pub full_drops : (cap object : ℕ) (granule : ℤ) (cell : ℕ) (others : List (Listed ℕ)) (last : Listed ℕ) → AreOthers object granule (others ++ last ∷ []) → cap ≡ length others + 1 → (after_store cap object granule cell (others ++ last ∷ []) ≡ entry_of object granule cell ∷ others) × (dropped cap object granule cell (others ++ last ∷ []) ≡ Some last)
full_drops cap object granule cell others last none e =
    let rest = without-others object granule (others ++ last ∷ []) none in
    let is : cap ≡ suc (length others) = omega (arith, e) in
    let ends = full (entry_of object granule cell) last others in (
      ap (λ (n : ℕ). take n (entry_of object granule cell ∷ without_granule object granule (others ++ last ∷ []))) is
          ∙ ap (λ (l : List (Listed ℕ)). take (suc (length others)) (entry_of object granule cell ∷ l)) rest ∙ ends.0,
      ap (λ (n : ℕ). slice_get (entry_of object granule cell ∷ without_granule object granule (others ++ last ∷ [])) n) is
          ∙ ap (λ (l : List (Listed ℕ)). slice_get (entry_of object granule cell ∷ l) (suc (length others))) rest ∙ ends.1,
    )
