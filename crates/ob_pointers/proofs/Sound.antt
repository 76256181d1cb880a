-- What is kept says that the objects are sound, and which objects callers name.
use Rattle.std.proofs.Common.{ℕ, ◌+◌, ◌<◌, ◌^◌, Bool, List, ap, subst}
use Rattle.std.specs.List.{Contains}
use Rattle.std.proofs.lemmas.List.Elements.{All-map}
use Rattle.ob_model.specs.declared.objects.Entry.{Entry}
use Rattle.ob_model.specs.Entries.{Known}
use Rattle.ob_access.specs.declared.pointee.Pointee.{Pointee}
use Rattle.ob_away.specs.Slots.{Descriptors}
use Rattle.ob_objects.specs.Objects.{Objects}
use Rattle.ob_pointers.specs.Pointing.{IsSound, EndsBefore, HaveTwoNumbers, IsHeapPlace, IsKnownPointee}
use Rattle.ob_pointers.specs.Kept.{IsKept, known, known_in, pointing_in}
use Rattle.ob_pointers.proofs.Lists.{all_pairs_mapped, mapped_from}

pub sound_from : (objects : Objects) (marks : List Bool) (away : Descriptors) (heap : ℕ) → IsKept objects.entries marks away.slots heap → IsSound (pointing_in objects marks away heap)
sound_from objects marks away heap kept = record {
  in_order = all_pairs_mapped EndsBefore (known marks) objects.entries kept.in_order;
  numbers = all_pairs_mapped HaveTwoNumbers (known marks) objects.entries kept.numbers;
  near = All-map (λ (k : Known). k.entry.base + k.entry.size < 2 ^ 63) (known marks) objects.entries kept.near;
  heap = All-map (λ (k : Known). IsHeapPlace heap k.entry) (known marks) objects.entries kept.places;
}

-- what a pointer points into is the entry of an object
pub entry_among : (entries : List Entry) (marks : List Bool) (p : Pointee) → IsKnownPointee (known_in marks entries) p → Contains entries p.entry
entry_among entries marks p is =
    let from = mapped_from (known marks) entries (record { entry = p.entry; freed = p.freed }) is in
    subst (λ (e : Entry). Contains entries e) (ap (λ (k : Known). k.entry) from.2) from.1
