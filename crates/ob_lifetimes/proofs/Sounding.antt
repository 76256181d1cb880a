-- What is kept says what holds of the objects, and which of them a number or a base is.
use Rattle.std.proofs.Common.{◌≡◌, ℕ, ◌-◌, ◌%◌, ◌≤◌, ◌==◌, List, arith, refl, sym, ap, ◌∙◌, subst, ⊎_elim}
use Rattle.std.specs.List.{All, Contains}
use Rattle.std.proofs.lemmas.Bool.{cases_eq, eq-eqb, eqb-true, ne_eqb}
use Rattle.std.proofs.lemmas.List.Elements.{All-contains}
use Rattle.ob_words.specs.Words.{block}
use Rattle.ob_model.specs.declared.objects.Sort.{Sort}
use Rattle.ob_model.specs.declared.objects.Sort.TheVariants.{Static, Automatic, Heap}
use Rattle.ob_model.specs.declared.settings.Profile.{Profile}
use Rattle.ob_model.specs.Entries.{Known, surviving_known}
use Rattle.ob_model.specs.Heap.{Allocated}
use Rattle.ob_model.specs.Limits.{heap_start}
use Rattle.ob_outside.specs.Granules.{Granules}
use Rattle.ob_pointers.specs.Pointing.{EndsBefore, HaveTwoNumbers, Pointing}
use Rattle.ob_pointers.specs.Pointing as pointing
use Rattle.ob_shelf.specs.Places.{Places}
use Rattle.ob_lifetimes.specs.Living.{IsSound, LiesBySort}
use Rattle.ob_lifetimes.specs.Kept.{IsKept, IsPlaced, IsPlacedKnown, PlacedBySort, heap_blocks, living_in, one_elsewhere}
use Rattle.ob_lifetimes.proofs.Members.{All-from_members}
use Rattle.ob_lifetimes.proofs.Tables.{one_of}
use Rattle.ob_lifetimes.proofs.Heaps.{All-blocks, allocated, block-among, blocks-stay}

whole_block : (n : ℕ) → block n % 16 ≡ 0
whole_block n = omega arith

lies_by_sort : (s : Sort) (heap : ℕ) (blocks : List Allocated) (k : Known) → PlacedBySort s heap k → (s ≡ Heap → Contains blocks (allocated k.entry)) → LiesBySort s heap blocks k
lies_by_sort Static heap blocks k lies among = (lies.before, lies.live)
lies_by_sort Automatic heap blocks k lies among = (lies.before, lies.live)
lies_by_sort Heap heap blocks k lies among =
    let start : heap_start ≤ k.entry.base = lies.start in (
      allocated k.entry,
      among refl,
      record {
        object = refl;
        base = omega arith;
        longer = omega arith;
        within = lies.within;
        multiple = lies.multiple;
        whole = whole_block k.entry.size;
      },
    )

module _ (p : Pointing) (shelf : Places) (o : Granules) (most statics locals next : ℕ) (kept : IsKept p shelf o most statics locals next) (sound : pointing.IsSound p) where
  pub sound_objects : (profile : Profile) → IsSound (living_in p shelf o profile most statics locals next)
  sound_objects profile =
      record {
        in_order = sound.in_order;
        numbers = sound.numbers;
        given_out = kept.given_out;
        places =
            All-from_members (λ k. LiesBySort k.entry.sort shelf.heap (heap_blocks p.entries) k) p.entries (λ k among.
            lies_by_sort k.entry.sort shelf.heap (heap_blocks p.entries) k (All-contains (IsPlacedKnown shelf.heap) p.entries k kept.places among) (λ is. block-among k p.entries is among));
      }

  pub one_number : (k l : Known) → Contains p.entries k → Contains p.entries l → k.entry.object ≡ l.entry.object → k ≡ l
  one_number k l first second same =
      one_of HaveTwoNumbers p.entries k l sound.numbers first second (λ two. two same) (λ two. two (sym same))

  pub one_base : (k l : Known) → Contains p.entries k → Contains p.entries l → k.entry.base ≡ l.entry.base → k ≡ l
  one_base k l first second same =
      one_of EndsBefore p.entries k l sound.in_order first second (λ less. omega arith) (λ more. omega arith)

  -- all with the number of an object are that one
  pub all_same : (P : Known → Type 0) (k : Known) → Contains p.entries k → P k → All (λ l. l.entry.object ≡ k.entry.object → P l) p.entries
  all_same P k among has =
      All-from_members (λ l. l.entry.object ≡ k.entry.object → P l) p.entries (λ l there same. subst P (sym (one_number l k there among same)) has)

  pub is_placed : (k : Known) → Contains p.entries k → k.entry.sort ≡ Heap → IsPlaced shelf.heap k.entry
  is_placed k among is = subst (λ s. PlacedBySort s shelf.heap k) is (All-contains (IsPlacedKnown shelf.heap) p.entries k kept.places among)

  -- the block at an object's place is that of its number
  pub blocks_agree : (k : Known) → Contains p.entries k → k.entry.sort ≡ Heap → All (λ (a : Allocated). (a.object == k.entry.object) ≡ (a.place == k.entry.base - heap_start)) (heap_blocks p.entries)
  blocks_agree k among is =
      let Agree : Allocated → Type 0 = λ a. (a.object == k.entry.object) ≡ (a.place == k.entry.base - heap_start) in
      let here : heap_start ≤ k.entry.base = (is_placed k among is).start in
      All-blocks Agree p.entries
      (All-from_members (λ l. l.entry.sort ≡ Heap → Agree (allocated l.entry)) p.entries (λ l there heap_too.
      let start : heap_start ≤ l.entry.base = (is_placed l there heap_too).start in
      ⊎_elim
      (λ same.
      let one : l ≡ k = one_number l k there among same in
      eq-eqb l.entry.object k.entry.object same ∙ sym (eq-eqb (l.entry.base - heap_start) (k.entry.base - heap_start) (ap (λ (z : Known). z.entry.base - heap_start) one)))
      (λ two.
      ne_eqb l.entry.object k.entry.object two
      ∙ sym (ne_eqb (l.entry.base - heap_start) (k.entry.base - heap_start) (λ place.
      two (ap (λ (z : Known). z.entry.object) (one_base l k there among (omega (arith, place, here, start)))))))
      (cases_eq l.entry.object k.entry.object)))

  -- where an object that isn't the heap's dies, the heap's list stays
  pub blocks_stay : (k : Known) → Contains p.entries k → one_elsewhere k.entry.sort ≡ 1 → heap_blocks (surviving_known (λ other. other == k.entry.object) p.entries) ≡ heap_blocks p.entries
  blocks_stay k among one =
      blocks-stay (λ other. other == k.entry.object) p.entries
      (λ i d below same. all_same (λ l. one_elsewhere l.entry.sort ≡ 1) k among one i d below (eqb-true _ k.entry.object same))
