-- The marks of objects: those of two objects of the heap stand apart.
use Rattle.std.proofs.Common.{◌≡◌, ℕ, ◌+◌, ◌*◌, ◌%◌, ◌<◌, ◌≤◌, Bool, false, ltb, List, length, get_or, set, arith, ap, ⊎_elim, sym, ◌∙◌, get_or-set_same, get_or-set_other}
use Rattle.std.specs.List.{Contains}
use Rattle.std.proofs.lemmas.Bool.{cases_lt, cases_Bool, cond-true, cond-false, lt-ltb, le-ltb}
use Rattle.std.proofs.lemmas.List.{length-set}
use Rattle.std.proofs.lemmas.List.Elements.{All-contains}
use Rattle.ob_model.specs.declared.objects.Entry.{Entry}
use Rattle.ob_model.specs.Descriptors.{Slots}
use Rattle.ob_model.specs.Limits.{heap_start}
use Rattle.ob_pointers.specs.Pointing.{IsHeapPlace}
use Rattle.ob_pointers.specs.Kept.{IsKept, Begins, mark_index, is_marked, with_mark}

pub mark_below : (marks : List Bool) (base : ℕ) → base < heap_start → is_marked marks base ≡ false
mark_below marks base below = cond-true (ltb base heap_start) false (get_or marks (mark_index base) false) (lt-ltb base heap_start below)

pub mark_above : (marks : List Bool) (base : ℕ) → heap_start ≤ base → is_marked marks base ≡ get_or marks (mark_index base) false
mark_above marks base above = cond-false (ltb base heap_start) false (get_or marks (mark_index base) false) (le-ltb base heap_start above)

pub with_below : (marks : List Bool) (base : ℕ) (freed : Bool) → base < heap_start → with_mark marks base freed ≡ marks
with_below marks base freed below = cond-true (ltb base heap_start) marks (set marks (mark_index base) freed) (lt-ltb base heap_start below)

pub with_above : (marks : List Bool) (base : ℕ) (freed : Bool) → heap_start ≤ base → with_mark marks base freed ≡ set marks (mark_index base) freed
with_above marks base freed above = cond-false (ltb base heap_start) marks (set marks (mark_index base) freed) (le-ltb base heap_start above)

pub length_with : (marks : List Bool) (base : ℕ) (freed : Bool) → length (with_mark marks base freed) ≡ length marks
length_with marks base freed =
    ⊎_elim
    (λ below. ap length (with_below marks base freed below))
    (λ above. ap length (with_above marks base freed above) ∙ length-set marks (mark_index base) freed)
    (cases_lt base heap_start)

abbrev pub IsEven : ℕ → Type 0
IsEven base = heap_start ≤ base → base % 16 ≡ 0

pub index_there : (base : ℕ) → heap_start ≤ base → IsEven base → base ≡ heap_start + 16 * mark_index base
index_there base above even = let e = even above in omega arith

-- another object's mark
pub mark_elsewhere : (marks : List Bool) (base other : ℕ) (freed : Bool) → IsEven base → IsEven other → (other ≡ base → ⊥) → is_marked (with_mark marks base freed) other ≡ is_marked marks other
mark_elsewhere marks base other freed even even_other apart =
    ⊎_elim
    (λ below. ap (λ (m : List Bool). is_marked m other) (with_below marks base freed below))
    (λ above. ⊎_elim
    (λ below_other. mark_below (with_mark marks base freed) other below_other ∙ sym (mark_below marks other below_other))
    (λ above_other.
    let e = index_there base above even in
    let f = index_there other above_other even_other in
    mark_above (with_mark marks base freed) other above_other
    ∙ ap (λ (m : List Bool). get_or m (mark_index other) false) (with_above marks base freed above)
    ∙ get_or-set_other marks (mark_index base) (mark_index other) freed false (λ same. apart (omega arith))
    ∙ sym (mark_above marks other above_other))
    (cases_lt other heap_start))
    (cases_lt base heap_start)

pub is_set : (marks : List Bool) (base : ℕ) (freed : Bool) → heap_start ≤ base → mark_index base < length marks → is_marked (with_mark marks base freed) base ≡ freed
is_set marks base freed above within =
    mark_above (with_mark marks base freed) base above
    ∙ ap (λ (m : List Bool). get_or m (mark_index base) false) (with_above marks base freed above)
    ∙ get_or-set_same marks (mark_index base) freed false within

-- what is set at an index afterwards was set before, or is the new mark
pub at_index : (marks : List Bool) (base i : ℕ) (freed : Bool) → (heap_start ≤ base → i ≡ mark_index base → ⊥) → get_or (with_mark marks base freed) i false ≡ get_or marks i false
at_index marks base i freed apart =
    ⊎_elim
    (λ below. ap (λ (m : List Bool). get_or m i false) (with_below marks base freed below))
    (λ above. ap (λ (m : List Bool). get_or m i false) (with_above marks base freed above) ∙ get_or-set_other marks (mark_index base) i freed false (apart above))
    (cases_lt base heap_start)

module _ (entries : List Entry) (marks : List Bool) (slots : Slots) (heap : ℕ) (kept : IsKept entries marks slots heap) where
  pub even_of : (e : Entry) → Contains entries e → IsEven e.base
  even_of e among above = (All-contains (IsHeapPlace heap) entries e kept.places among above).0

  pub index_within : (e : Entry) → Contains entries e → heap_start ≤ e.base → mark_index e.base < length marks
  index_within e among above =
      let place = All-contains (IsHeapPlace heap) entries e kept.places among above in
      let even = place.0 in
      let below = place.1 in
      let room = kept.room in
      omega arith

  -- where no object begins, none is marked
  pub unmarked : (base : ℕ) → IsEven base → (Begins entries base → ⊥) → is_marked marks base ≡ false
  unmarked base even none =
      ⊎_elim
      (λ below. mark_below marks base below)
      (λ above. mark_above marks base above ∙
      ⊎_elim
      (λ set. absurd (let begins = kept.marked (mark_index base) set in
      none (record { entry = begins.entry; among = begins.among; there = begins.there ∙ sym (index_there base above even) })))
      (λ clear. clear)
      (cases_Bool (get_or marks (mark_index base) false)))
      (cases_lt base heap_start)
