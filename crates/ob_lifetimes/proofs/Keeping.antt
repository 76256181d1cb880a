-- What the program keeps, once an object is made, dies or is freed.
use Rattle.std.proofs.Common.{◌≡◌, ℕ, ◌+◌, ◌-◌, ◌<◌, ◌≤◌, ◌==◌, ◌%◌, Bool, true, false, not, List, arith, refl, sym, ap, ◌∙◌, subst}
use Rattle.std.specs.List.{All}
use Rattle.std.proofs.lemmas.Bool.{eqb-true}
use Rattle.std.proofs.lemmas.List.Elements.{All-filter, All-map, All-weaker}
use Rattle.ob_words.specs.Words.{block}
use Rattle.ob_model.specs.declared.objects.Entry.{Entry}
use Rattle.ob_model.specs.declared.objects.Sort.TheVariants.{Heap}
use Rattle.ob_model.specs.Bounded.{Listed, surviving_cells}
use Rattle.ob_model.specs.Cells.{Content}
use Rattle.ob_model.specs.Descriptors.{Slots, surviving_pairs}
use Rattle.ob_model.specs.Entries.{Known, freed_if, surviving_known, with_freed, with_known, with_live}
use Rattle.ob_model.specs.Heap.{Block, blocks_of, with_block}
use Rattle.ob_model.specs.Laws.{BlocksAreInserted}
use Rattle.ob_model.specs.Limits.{heap_start}
use Rattle.ob_outside.specs.Granules.{Granules}
use Rattle.ob_pointers.specs.Pointing.{Pointing}
use Rattle.ob_shelf.specs.Places.{Places}
use Rattle.ob_standing.specs.Laws.{IsGivenOut}
use Rattle.ob_lifetimes.specs.Kept.{CellHasNumber, IsKept, IsPlaced, IsPlacedKnown, PairHasNumber, PlacedBySort, elsewhere, heap_blocks, one_elsewhere}
use Rattle.ob_lifetimes.proofs.Tables.{All-with_known, cells-kept, cells-survive, elsewhere-freed, elsewhere-with_known, number-freed, number-more, pairs-kept, pairs-survive}
use Rattle.ob_lifetimes.proofs.Heaps.{allocated, blocks-allocated, blocks-elsewhere, blocks-freed, in_heap}

later_given : (next later : ℕ) → next ≤ later → (k : Known) → IsGivenOut next k → IsGivenOut later k
later_given next later up k given = (given.0, given.1, let below : k.entry.object < next = given.2 in omega arith)

-- ---- a new object

module _ (p : Pointing) (shelf : Places) (o : Granules) (most statics locals next : ℕ) (kept : IsKept p shelf o most statics locals next) where
  pub kept_numbers : (later : ℕ) → next ≤ later → IsKept p shelf o most statics locals later
  kept_numbers later up =
      record {
        one_heap = kept.one_heap;
        most_heap = kept.most_heap;
        most = kept.most;
        fit_statics = kept.fit_statics;
        few_statics = kept.few_statics;
        few_locals = kept.few_locals;
        count = kept.count;
        first = let one : 1 ≤ next = kept.first in omega arith;
        given_out = All-weaker (IsGivenOut next) (IsGivenOut later) (later_given next later up) p.entries kept.given_out;
        places = kept.places;
        blocks = kept.blocks;
        slots = kept.slots;
        cells = kept.cells;
      }

  pub kept_elsewhere : (e : Entry) (more_statics more_locals later : ℕ) → IsPlacedKnown shelf.heap (record { entry = e; freed = false }) → one_elsewhere e.sort ≡ 1 → IsGivenOut later (record { entry = e; freed = false }) → more_statics ≤ most → more_locals ≤ 65536 → more_statics + more_locals ≡ statics + locals + 1 → next ≤ later →
      IsKept (record p { entries = with_live e p.entries }) shelf o most more_statics more_locals later
  kept_elsewhere e more_statics more_locals later lies one given few_statics few_locals counted up =
      let n : Known = record { entry = e; freed = false } in
      let old : elsewhere p.entries ≤ statics + locals = kept.count in
      let new : elsewhere (with_known n p.entries) ≡ one_elsewhere e.sort + elsewhere p.entries = elsewhere-with_known n p.entries in
      let least : 1 ≤ next = kept.first in
      record {
        one_heap = kept.one_heap;
        most_heap = kept.most_heap;
        most = kept.most;
        fit_statics = kept.fit_statics;
        few_statics = few_statics;
        few_locals = few_locals;
        count = omega (arith, old, new, one, counted);
        first = omega (arith, least, up);
        given_out = All-with_known (IsGivenOut later) n p.entries given (All-weaker (IsGivenOut next) (IsGivenOut later) (later_given next later up) p.entries kept.given_out);
        places = All-with_known (IsPlacedKnown shelf.heap) n p.entries lies kept.places;
        blocks = kept.blocks ∙ ap blocks_of (sym (blocks-elsewhere n p.entries one));
        slots = pairs-kept p.entries (with_known n p.entries) p.slots (number-more n p.entries) kept.slots;
        cells = cells-kept p.entries (with_known n p.entries) o.listed (number-more n p.entries) kept.cells;
      }

  pub kept_allocated : (place n : ℕ) → BlocksAreInserted → place % 16 ≡ 0 → place + block n ≤ shelf.heap →
      IsKept (record p { entries = with_live (in_heap (heap_start + place) n next) p.entries }) (record shelf { blocks = with_block (record { place = place; length = block n }) shelf.blocks }) o most statics locals (next + 1)
  kept_allocated place n inserted multiple within =
      let k : Known = record { entry = in_heap (heap_start + place) n next; freed = false } in
      let back : place ≡ heap_start + place - heap_start = omega arith in
      let old : elsewhere p.entries ≤ statics + locals = kept.count in
      let new : elsewhere (with_known k p.entries) ≡ 0 + elsewhere p.entries = elsewhere-with_known k p.entries in
      let least : 1 ≤ next = kept.first in
      record {
        one_heap = kept.one_heap;
        most_heap = kept.most_heap;
        most = kept.most;
        fit_statics = kept.fit_statics;
        few_statics = kept.few_statics;
        few_locals = kept.few_locals;
        count = omega (arith, old, new);
        first = omega (arith, least);
        given_out = All-with_known (IsGivenOut (next + 1)) k p.entries (omega arith, least, omega arith) (All-weaker (IsGivenOut next) (IsGivenOut (next + 1)) (later_given next (next + 1) (omega arith)) p.entries kept.given_out);
        places = All-with_known (IsPlacedKnown shelf.heap) k p.entries (record { start = omega arith; multiple = subst (λ q. q % 16 ≡ 0) back multiple; within = subst (λ q. q + block n ≤ shelf.heap) back within }) kept.places;
        blocks =
            ap (with_block (record { place = place; length = block n })) kept.blocks
            ∙ ap (λ q. with_block (record { place = q; length = block n }) (blocks_of (heap_blocks p.entries))) back
            ∙ sym (inserted (allocated k.entry) (heap_blocks p.entries))
            ∙ ap blocks_of (sym (blocks-allocated shelf.heap (heap_start + place) n next (omega arith) p.entries kept.places));
        slots = pairs-kept p.entries (with_known k p.entries) p.slots (number-more k p.entries) kept.slots;
        cells = cells-kept p.entries (with_known k p.entries) o.listed (number-more k p.entries) kept.cells;
      }

  -- ---- death

  pub kept_dead : (dies : ℕ → Bool) (blocks : List Block) (fewer : ℕ) → fewer ≤ locals → elsewhere (surviving_known dies p.entries) ≤ statics + fewer → blocks ≡ blocks_of (heap_blocks (surviving_known dies p.entries)) →
      IsKept (record p { entries = surviving_known dies p.entries; slots = surviving_pairs dies p.slots }) (record shelf { blocks = blocks }) (record o { listed = surviving_cells dies o.listed }) most statics fewer next
  kept_dead dies blocks fewer down count same =
      let lives : Known → Bool = λ k. not (dies k.entry.object) in
      let few : locals ≤ 65536 = kept.few_locals in
      record {
        one_heap = kept.one_heap;
        most_heap = kept.most_heap;
        most = kept.most;
        fit_statics = kept.fit_statics;
        few_statics = kept.few_statics;
        few_locals = omega (arith, down, few);
        count = count;
        first = kept.first;
        given_out = All-filter lives (IsGivenOut next) p.entries kept.given_out;
        places = All-filter lives (IsPlacedKnown shelf.heap) p.entries kept.places;
        blocks = same;
        slots = pairs-survive dies p.entries p.slots kept.slots;
        cells = cells-survive dies p.entries o.listed kept.cells;
      }

  -- ---- freeing

  freed_placed : (b : Bool) (k : Known) → (b ≡ true → k.entry.sort ≡ Heap) → IsPlacedKnown shelf.heap k → IsPlacedKnown shelf.heap (freed_if b k)
  freed_placed true k is lies =
      let placed : IsPlaced shelf.heap k.entry = subst (λ s. PlacedBySort s shelf.heap k) (is refl) lies in
      subst (λ s. PlacedBySort s shelf.heap (record k { freed = true })) (sym (is refl)) placed
  freed_placed false k is lies = lies

  freed_given : (b : Bool) (k : Known) → IsGivenOut next k → IsGivenOut next (freed_if b k)
  freed_given true k given = given
  freed_given false k given = given

  pub kept_freed : (object : ℕ) → All (λ k. k.entry.object ≡ object → k.entry.sort ≡ Heap) p.entries →
      IsKept (record p { entries = with_freed object p.entries }) shelf (record o { listed = surviving_cells (λ other. other == object) o.listed }) most statics locals next
  kept_freed object in_heap =
      let mark : Known → Known = λ k. freed_if (k.entry.object == object) k in
      let Here : Known → Type 0 = λ k. k.entry.object ≡ object → k.entry.sort ≡ Heap in
      let lies : All (λ k. IsPlacedKnown shelf.heap (mark k)) p.entries =
      λ i d below. freed_placed _ _ (λ same. in_heap i d below (eqb-true _ object same)) (kept.places i d below) in
      let count : elsewhere p.entries ≤ statics + locals = kept.count in
      record {
        one_heap = kept.one_heap;
        most_heap = kept.most_heap;
        most = kept.most;
        fit_statics = kept.fit_statics;
        few_statics = kept.few_statics;
        few_locals = kept.few_locals;
        count = omega (arith, count, elsewhere-freed object p.entries);
        first = kept.first;
        given_out = All-map (IsGivenOut next) mark p.entries (All-weaker (IsGivenOut next) (λ k. IsGivenOut next (mark k)) (λ k. freed_given (k.entry.object == object) k) p.entries kept.given_out);
        places = All-map (IsPlacedKnown shelf.heap) mark p.entries lies;
        blocks = kept.blocks ∙ ap blocks_of (sym (blocks-freed object p.entries));
        slots = pairs-kept p.entries (with_freed object p.entries) p.slots (number-freed object p.entries) kept.slots;
        cells =
            cells-kept p.entries (with_freed object p.entries) (surviving_cells (λ other. other == object) o.listed) (number-freed object p.entries)
            (All-filter (λ (l : Listed (Content ℕ)). not (l.object == object)) (CellHasNumber p.entries) o.listed kept.cells);
      }

  -- ---- slots and granules

  pub kept_slots : (slots : Slots) → All (PairHasNumber p.entries) slots → IsKept (record p { slots = slots }) shelf o most statics locals next
  kept_slots slots has =
      record {
        one_heap = kept.one_heap;
        most_heap = kept.most_heap;
        most = kept.most;
        fit_statics = kept.fit_statics;
        few_statics = kept.few_statics;
        few_locals = kept.few_locals;
        count = kept.count;
        first = kept.first;
        given_out = kept.given_out;
        places = kept.places;
        blocks = kept.blocks;
        slots = has;
        cells = kept.cells;
      }

  pub kept_cells : (cells : List (Listed (Content ℕ))) → All (CellHasNumber p.entries) cells → IsKept p shelf (record o { listed = cells }) most statics locals next
  kept_cells cells has =
      record {
        one_heap = kept.one_heap;
        most_heap = kept.most_heap;
        most = kept.most;
        fit_statics = kept.fit_statics;
        few_statics = kept.few_statics;
        few_locals = kept.few_locals;
        count = kept.count;
        first = kept.first;
        given_out = kept.given_out;
        places = kept.places;
        blocks = kept.blocks;
        slots = kept.slots;
        cells = has;
      }
