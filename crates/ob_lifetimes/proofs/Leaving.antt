-- The objects of a call, gone row by row.
use Rattle.std.proofs.Common.{◌≡◌, ℕ, ◌+◌, ◌-◌, ◌<◌, ◌≤◌, ◌==◌, Bool, true, false, not, ◌||◌, cond, Option, Some, None, List, [], ◌∷◌, length, get_or, take, map, arith, refl, sym, ap, ◌∙◌, subst}
use Rattle.std.specs.List.{All, Contains, filter}
use Rattle.std.proofs.lemmas.Bool.{cond-true}
use Rattle.std.proofs.lemmas.List.{take_all, take_more}
use Rattle.std.proofs.lemmas.List.Elements.{All-contains, All-head, All-tail}
use Rattle.ob_model.specs.declared.objects.Entry.{Entry}
use Rattle.ob_model.specs.Bounded.{Listed, surviving_cells}
use Rattle.ob_model.specs.Cells.{Content}
use Rattle.ob_model.specs.Descriptors.{Pair, Slots, is_dying, surviving_pairs}
use Rattle.ob_model.specs.Entries.{Known, surviving_known}
use Rattle.ob_model.specs.Heap.{Allocated, surviving_blocks}
use Rattle.ob_model.specs.Objects.{is_among}
use Rattle.ob_code.specs.declared.image.FunctionRow.{FunctionRow}
use Rattle.ob_code.specs.declared.image.LocalRow.{LocalRow}
use Rattle.ob_code.specs.Frames.{local_entry}
use Rattle.ob_code.specs.Layout.{no_local}
use Rattle.ob_code.specs.Rules.{IsFrameSound}
use Rattle.ob_code.specs.State.{after_death}
use Rattle.ob_lifetimes.specs.Living.{AreOfRows, Dies, Living, with_living}
use Rattle.ob_lifetimes.specs.Kept.{CellHasNumber, HasNumber, PairHasNumber, heap_blocks, one_elsewhere}
use Rattle.ob_lifetimes.proofs.Frames.{is_row, is_row-push, numbers_agree}
use Rattle.ob_lifetimes.proofs.Heaps.{blocks-stay, blocks-survive}
use Rattle.ob_lifetimes.proofs.Members.{All-from_members, filter-filter, filter_agrees, from_map}

-- ---- those that no test, two tests, or one of two that agree name

filter_true : {X : Type 0} (p : X → Bool) (xs : List X) → ((x : X) → p x ≡ true) → filter p xs ≡ xs
filter_true p [] each = refl
filter_true p (x ∷ xs) each = cond-true (p x) (x ∷ filter p xs) (filter p xs) (each x) ∙ ap (λ l. x ∷ l) (filter_true p xs each)

abbrev slot_left : (ℕ → Bool) → Option Pair → Option Pair
slot_left dies o = cond (is_dying dies o) None o

slot_stays : (dies : ℕ → Bool) → ((object : ℕ) → dies object ≡ false) → (o : Option Pair) → slot_left dies o ≡ o
slot_stays dies none None = refl
slot_stays dies none (Some pair) = ap (λ b. cond b None (Some pair)) (none pair.0)

pairs_stay : (dies : ℕ → Bool) (slots : Slots) → ((object : ℕ) → dies object ≡ false) → surviving_pairs dies slots ≡ slots
pairs_stay dies [] none = refl
pairs_stay dies (o ∷ slots) none =
    ap (λ (s : Option Pair). s ∷ surviving_pairs dies slots) (slot_stays dies none o) ∙ ap (λ (l : Slots). o ∷ l) (pairs_stay dies slots none)

slot_if : (a b : Bool) (pair : Pair) (dies : ℕ → Bool) → dies pair.0 ≡ b → slot_left dies (cond a None (Some pair)) ≡ cond (a || b) None (Some pair)
slot_if true b pair dies is = refl
slot_if false b pair dies is = ap (λ t. cond t None (Some pair)) is

slot_twice : (p q r : ℕ → Bool) → ((object : ℕ) → r object ≡ (p object || q object)) → (o : Option Pair) → slot_left q (slot_left p o) ≡ slot_left r o
slot_twice p q r both None = refl
slot_twice p q r both (Some pair) = slot_if (p pair.0) (q pair.0) pair q refl ∙ sym (ap (λ t. cond t None (Some pair)) (both pair.0))

pairs_twice : (p q r : ℕ → Bool) (slots : Slots) → ((object : ℕ) → r object ≡ (p object || q object)) → surviving_pairs q (surviving_pairs p slots) ≡ surviving_pairs r slots
pairs_twice p q r [] both = refl
pairs_twice p q r (o ∷ slots) both =
    ap (λ (s : Option Pair). s ∷ surviving_pairs q (surviving_pairs p slots)) (slot_twice p q r both o)
    ∙ ap (λ (l : Slots). slot_left r o ∷ l) (pairs_twice p q r slots both)

not_or : (a b c : Bool) → c ≡ (a || b) → cond (not a) (not b) false ≡ not c
not_or true b c is = sym (ap not is)
not_or false b c is = sym (ap not is)

slot_agrees : (p q : ℕ → Bool) (ks : List Known) → ((object : ℕ) → HasNumber ks object → p object ≡ q object) → (o : Option Pair) → PairHasNumber ks o → slot_left p o ≡ slot_left q o
slot_agrees p q ks agree None has = refl
slot_agrees p q ks agree (Some pair) has = ap (λ b. cond b None (Some pair)) (agree pair.0 has)

pairs_agree : (p q : ℕ → Bool) (ks : List Known) (slots : Slots) → ((object : ℕ) → HasNumber ks object → p object ≡ q object) → All (PairHasNumber ks) slots → surviving_pairs p slots ≡ surviving_pairs q slots
pairs_agree p q ks [] agree each = refl
pairs_agree p q ks (o ∷ slots) agree each =
    ap (λ (s : Option Pair). s ∷ surviving_pairs p slots) (slot_agrees p q ks agree o (All-head (PairHasNumber ks) o slots each))
    ∙ ap (λ (l : Slots). slot_left q o ∷ l) (pairs_agree p q ks slots agree (All-tail (PairHasNumber ks) o slots each))

cells_agree : (p q : ℕ → Bool) (ks : List Known) (cells : List (Listed (Content ℕ))) → ((object : ℕ) → HasNumber ks object → p object ≡ q object) → All (CellHasNumber ks) cells → surviving_cells p cells ≡ surviving_cells q cells
cells_agree p q ks cells agree each =
    filter_agrees (λ l. not (p l.object)) (λ l. not (q l.object)) cells (λ i d below. ap not (agree _ (each i d below)))

known_agree : (p q : ℕ → Bool) (ks : List Known) → ((object : ℕ) → HasNumber ks object → p object ≡ q object) → surviving_known p ks ≡ surviving_known q ks
known_agree p q ks agree =
    filter_agrees (λ k. not (p k.entry.object)) (λ k. not (q k.entry.object)) ks
    (All-from_members (λ k. not (p k.entry.object) ≡ not (q k.entry.object)) ks (λ k among.
    ap not (agree k.entry.object (record { k = k; known = among; number = refl }))))

-- ---- some objects gone

abbrev pub without : (ℕ → Bool) → ℕ → Living → Living
without dies count old =
    record old { locals = old.locals - count; entries = surviving_known dies old.entries; slots = surviving_pairs dies old.slots; outside = surviving_cells dies old.outside }

without_none : (dies : ℕ → Bool) (old : Living) → ((object : ℕ) → dies object ≡ false) → old ≡ without dies 0 old
without_none dies old none =
    let all : old.locals ≡ old.locals - 0 = omega arith in
    ap (λ n. record old { locals = n }) all
    ∙ ap (λ (ks : List Known). record old { locals = old.locals - 0; entries = ks }) (sym (filter_true (λ (k : Known). not (dies k.entry.object)) old.entries (λ k. ap not (none k.entry.object))))
    ∙ ap (λ (ps : Slots). record old { locals = old.locals - 0; entries = surviving_known dies old.entries; slots = ps }) (sym (pairs_stay dies old.slots none))
    ∙ ap (λ (cs : List (Listed (Content ℕ))). record old { locals = old.locals - 0; entries = surviving_known dies old.entries; slots = surviving_pairs dies old.slots; outside = cs })
    (sym (filter_true (λ (l : Listed (Content ℕ)). not (dies l.object)) old.outside (λ l. ap not (none l.object))))

without_twice : (p q r : ℕ → Bool) (count : ℕ) (old : Living) → ((object : ℕ) → r object ≡ (p object || q object)) → without q 1 (without p count old) ≡ without r (count + 1) old
without_twice p q r count old both =
    let less : old.locals - count - 1 ≡ old.locals - (count + 1) = omega arith in
    let twice : without q 1 (without p count old) ≡ record (without q 1 (without p count old)) { locals = old.locals - (count + 1) } =
    ap (λ n. record (without q 1 (without p count old)) { locals = n }) less in
    twice
    ∙ ap (λ (ks : List Known). record old { locals = old.locals - (count + 1); entries = ks; slots = surviving_pairs q (surviving_pairs p old.slots); outside = surviving_cells q (surviving_cells p old.outside) })
    (filter-filter (λ (k : Known). not (p k.entry.object)) (λ (k : Known). not (q k.entry.object)) (λ (k : Known). not (r k.entry.object)) old.entries (λ k. not_or (p k.entry.object) (q k.entry.object) (r k.entry.object) (both k.entry.object)))
    ∙ ap (λ (ps : Slots). record old { locals = old.locals - (count + 1); entries = surviving_known r old.entries; slots = ps; outside = surviving_cells q (surviving_cells p old.outside) }) (pairs_twice p q r old.slots both)
    ∙ ap (λ (cs : List (Listed (Content ℕ))). record old { locals = old.locals - (count + 1); entries = surviving_known r old.entries; slots = surviving_pairs r old.slots; outside = cs })
    (filter-filter (λ (l : Listed (Content ℕ)). not (p l.object)) (λ (l : Listed (Content ℕ)). not (q l.object)) (λ (l : Listed (Content ℕ)). not (r l.object)) old.outside (λ l. not_or (p l.object) (q l.object) (r l.object) (both l.object)))

without_agree : (p q : ℕ → Bool) (count : ℕ) (old : Living) → ((object : ℕ) → HasNumber old.entries object → p object ≡ q object) → All (PairHasNumber old.entries) old.slots → All (CellHasNumber old.entries) old.outside → without p count old ≡ without q count old
without_agree p q count old agree slots cells =
    ap (λ (ks : List Known). record old { locals = old.locals - count; entries = ks; slots = surviving_pairs p old.slots; outside = surviving_cells p old.outside }) (known_agree p q old.entries agree)
    ∙ ap (λ (ps : Slots). record old { locals = old.locals - count; entries = surviving_known q old.entries; slots = ps; outside = surviving_cells p old.outside }) (pairs_agree p q old.entries old.slots agree slots)
    ∙ ap (λ (cs : List (Listed (Content ℕ))). record old { locals = old.locals - count; entries = surviving_known q old.entries; slots = surviving_pairs q old.slots; outside = cs }) (cells_agree p q old.entries old.outside agree cells)

-- ---- row by row

abbrev pub without_rows : ℕ → List LocalRow → ℕ → Living → Living
without_rows first rows i old = without (is_row first (take i rows)) i old

pub rows-none : (first : ℕ) (rows : List LocalRow) (old : Living) → old ≡ without_rows first rows 0 old
rows-none first rows old = without_none (is_row first (take 0 rows)) old (λ object. refl)

pub rows-more : (first : ℕ) (rows : List LocalRow) (i : ℕ) (old : Living) → i < length rows → without (λ other. other == first + (get_or rows i no_local).ordinal) 1 (without_rows first rows i old) ≡ without_rows first rows (i + 1) old
rows-more first rows i old below =
    without_twice (is_row first (take i rows)) (λ other. other == first + (get_or rows i no_local).ordinal) (is_row first (take (i + 1) rows)) i old
    (λ object. ap (λ (rs : List LocalRow). is_row first rs object) (take_more rows i no_local below) ∙ is_row-push first (get_or rows i no_local) (take i rows) object)

pub rows-all : (first : ℕ) (rows : List LocalRow) (i : ℕ) (old : Living) → length rows ≤ i → i ≤ length rows → without_rows first rows i old ≡ without (is_row first rows) (length rows) old
rows-all first rows i old past within =
    let all : i ≡ length rows = omega arith in
    ap (λ (rs : List LocalRow). without (is_row first rs) i old) (take_all i rows past) ∙ ap (λ n. without (is_row first rows) n old) all

-- ---- the end

module _ (f : FunctionRow) (sound : IsFrameSound f) (base first : ℕ) (old : Living) (own : AreOfRows (is_among first f.vars) base first f.locals old.entries)
    (slots : All (PairHasNumber old.entries) old.slots) (cells : All (CellHasNumber old.entries) old.outside) (blocks : old.blocks ≡ heap_blocks old.entries) where
  abbrev dies : ℕ → Bool
  dies = is_among first f.vars

  none_of_heap : All (λ k. dies k.entry.object ≡ true → one_elsewhere k.entry.sort ≡ 1) old.entries
  none_of_heap =
      All-from_members (λ k. dies k.entry.object ≡ true → one_elsewhere k.entry.sort ≡ 1) old.entries (λ k among is.
      let entry : Contains (map (local_entry base first) f.locals) k.entry = All-contains (λ (l : Known). dies l.entry.object ≡ true → Contains (map (local_entry base first) f.locals) l.entry) old.entries k own among is in
      let one = from_map (local_entry base first) k.entry f.locals entry in
      sym (ap (λ (e : Entry). one_elsewhere e.sort) one.2))

  blocks_left : surviving_blocks dies old.blocks ≡ old.blocks
  blocks_left =
      ap (surviving_blocks dies) blocks ∙ sym (blocks-survive dies old.entries) ∙ blocks-stay dies old.entries none_of_heap ∙ sym blocks

  pub all_dead : (new : Living) → new ≡ without (is_row first f.locals) (length f.locals) old → Dies dies (length f.locals) old new
  all_dead new is =
      let done : new ≡ without dies (length f.locals) old =
      is ∙ without_agree (is_row first f.locals) dies (length f.locals) old (numbers_agree f sound base first old.entries own) slots cells in
      record {
        gone = λ s.
            ap (λ (l : Living). with_living l s) done
            ∙ sym (ap (λ (bs : List Allocated). record (after_death dies (with_living old s)) { blocks = bs }) blocks_left);
        rest = let R : Living → Type 0 = λ l. l ≡ record old { locals = old.locals - length f.locals; entries = l.entries; slots = l.slots; outside = l.outside } in subst R (sym done) refl;
      }
