-- What laying out makes of memory and of the list of objects, apart.
use Rattle.std.proofs.Common.{◌≡◌, ℕ, ◌+◌, ◌/◌, false, List, [], ◌∷◌, length, refl, ap, ◌∙◌}
use Rattle.std.proofs.lemmas.List.{length-replicate}
use Rattle.ob_words.specs.Words.{block}
use Rattle.ob_model.specs.declared.objects.Sort.TheVariants.{Static}
use Rattle.ob_model.specs.Entries.{with_live}
use Rattle.ob_flat.specs.Memory.{Memory, capacity, zeroed}
use Rattle.ob_code.specs.declared.image.PointerRow.{PointerRow}
use Rattle.ob_code.specs.declared.image.StaticRow.{StaticRow}
use Rattle.ob_code.specs.Layout.{static_blocks}
use Rattle.ob_code.specs.Start.{empty_space, with_bytes, with_pointer, with_pointers, with_static_pointers, with_statics}
use Rattle.ob_code.specs.State.{Space}
use Rattle.ob_statics.specs.Contents.{entries_from, with_given}
use Rattle.ob_statics.specs.Laws.{LaidOutIsStatic, RangesAreKept, ZeroedIsLaidOut}

apart : (base object : ℕ) (rows : List StaticRow) (s : Space) → with_statics base object rows s ≡ record s { memory = with_given base rows s.memory; entries = entries_from base object rows s.entries }
apart base object [] s = refl
apart base object (r ∷ rs) s =
    apart (base + block r.size) (object + 1) rs
    (record s {
      memory = with_bytes s.memory base r.given;
      entries = with_live (record { base = base; size = r.size; object = object; sort = Static }) s.entries;
    })

pub laid_out_is_static : LaidOutIsStatic
laid_out_is_static stack statics pointers settings =
    ap (with_static_pointers statics pointers)
    (apart 4096 1 statics (empty_space (zeroed (static_blocks statics) stack settings.heap) (length statics + 1)))

pub zeroed_is_laid_out : ZeroedIsLaidOut
zeroed_is_laid_out statics stack heap few_statics few_stack few_heap = record {
  statics = few_statics;
  stack = few_stack;
  heap = few_heap;
  bytes = length-replicate (capacity statics stack heap) 0;
  marks = length-replicate (capacity statics stack heap / 8) false;
}

given_statics : (base : ℕ) (rows : List StaticRow) (m : Memory) → (with_given base rows m).statics ≡ m.statics
given_statics base [] m = refl
given_statics base (r ∷ rs) m = given_statics (base + block r.size) rs (with_bytes m base r.given)

given_stack : (base : ℕ) (rows : List StaticRow) (m : Memory) → (with_given base rows m).stack ≡ m.stack
given_stack base [] m = refl
given_stack base (r ∷ rs) m = given_stack (base + block r.size) rs (with_bytes m base r.given)

given_heap : (base : ℕ) (rows : List StaticRow) (m : Memory) → (with_given base rows m).heap ≡ m.heap
given_heap base [] m = refl
given_heap base (r ∷ rs) m = given_heap (base + block r.size) rs (with_bytes m base r.given)

pointers_statics : (statics : List StaticRow) (ps : List PointerRow) (m : Memory) → (with_pointers statics ps m).statics ≡ m.statics
pointers_statics statics [] m = refl
pointers_statics statics (p ∷ ps) m = pointers_statics statics ps (with_pointer statics p m)

pointers_stack : (statics : List StaticRow) (ps : List PointerRow) (m : Memory) → (with_pointers statics ps m).stack ≡ m.stack
pointers_stack statics [] m = refl
pointers_stack statics (p ∷ ps) m = pointers_stack statics ps (with_pointer statics p m)

pointers_heap : (statics : List StaticRow) (ps : List PointerRow) (m : Memory) → (with_pointers statics ps m).heap ≡ m.heap
pointers_heap statics [] m = refl
pointers_heap statics (p ∷ ps) m = pointers_heap statics ps (with_pointer statics p m)

pub ranges_are_kept : RangesAreKept
ranges_are_kept statics pointers m =
    let given : Memory = with_given 4096 statics m in (
      pointers_statics statics pointers given ∙ given_statics 4096 statics m,
      pointers_stack statics pointers given ∙ given_stack 4096 statics m,
      pointers_heap statics pointers given ∙ given_heap 4096 statics m,
    )
