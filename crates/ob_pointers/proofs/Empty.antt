-- What is kept where there is no object: no mark, and no slot.
use Rattle.std.proofs.Common.{◌≡◌, ℕ, ◌+◌, ◌/◌, ◌<◌, ◌≤◌, ◌^◌, Bool, true, false, List, [], length, replicate, get_or, ⊎_elim, sym, ◌∙◌, subst, arith}
use Rattle.std.specs.List.{Contains}
use Rattle.std.proofs.lemmas.Bool.{cases_lt, true≢false}
use Rattle.std.proofs.lemmas.List.{get_or-replicate, length-replicate, get_or_past}
use Rattle.std.proofs.lemmas.List.Elements.{All-nil}
use Rattle.ob_model.specs.declared.objects.Entry.{Entry}
use Rattle.ob_model.specs.Limits.{heap_start}
use Rattle.ob_model.specs.Descriptors.{Slots}
use Rattle.ob_pointers.specs.Pointing.{IsHeapPlace}
use Rattle.ob_pointers.specs.Kept.{IsKept, Begins}

no_mark : (n i : ℕ) → get_or (replicate n false) i false ≡ false
no_mark n i =
    ⊎_elim
    (λ (below : i < n). get_or-replicate n i false false below)
    (λ (above : n ≤ i). get_or_past (replicate n false) i false (let e = length-replicate n false in omega arith))
    (cases_lt i n)

kept_none : (heap : ℕ) → IsKept [] (replicate (heap / 16 + 1) false) [] heap
kept_none heap =
    record {
      in_order = λ i j d before within. absurd (omega arith);
      numbers = λ i j d before within. absurd (omega arith);
      near = All-nil (λ (e : Entry). e.base + e.size < 2 ^ 63);
      places = All-nil (IsHeapPlace heap);
      bases = λ pair among. absurd (let below : among.0 < 0 = among.1 in omega arith);
      marked = λ i is. absurd (true≢false (sym is ∙ no_mark (heap / 16 + 1) i));
      room = length-replicate (heap / 16 + 1) false;
    }

pub kept_empty : (heap : ℕ) (entries : List Entry) (marks : List Bool) (slots : Slots) → entries ≡ [] → marks ≡ replicate (heap / 16 + 1) false → slots ≡ [] → IsKept entries marks slots heap
kept_empty heap entries marks slots no_entries no_marks no_slots =
    subst (λ (es : List Entry). IsKept es marks slots heap) (sym no_entries)
    (subst (λ (ms : List Bool). IsKept [] ms slots heap) (sym no_marks)
    (subst (λ (ss : Slots). IsKept [] (replicate (heap / 16 + 1) false) ss heap) (sym no_slots) (kept_none heap)))
