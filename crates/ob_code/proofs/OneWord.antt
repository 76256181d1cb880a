-- A value has one word, unless it is a dead object's pointer.
use Rattle.std.proofs.Common.{◌≡◌, ℕ, ◌⊎◌, Bool, true, false, ℤ, Option, Some, None, ◌∙◌, ap, sym, inl, inr}
use Rattle.ob_model.specs.declared.values.Value.{Value}
use Rattle.ob_model.specs.declared.values.Value.TheVariants as value
use Rattle.ob_model.specs.Accesses.{is_inside}
use Rattle.ob_model.specs.Descriptors.{IsInterned, word_of}
use Rattle.ob_model.specs.Entries.{Known, known_of}
use Rattle.ob_code.specs.Laws.{IsDeadPointer}
use Rattle.ob_code.specs.Standing.{IsDead, Stands, StandsForKnown, StandsForPointer}
use Rattle.ob_code.specs.State.{Space}

known_word : (inside : Bool) (s : Space) (w x : ℕ) (k : Known) (offset : ℤ) → IsInterned s.slots → StandsForKnown inside s w k offset → StandsForKnown inside s x k offset → w ≡ x
known_word true s w x k offset interned p q = p ∙ sym q
known_word false s w x k offset interned p q = p.2 ∙ (ap word_of (interned p.0 q.0 (k.entry.object, offset) p.1 q.1) ∙ sym q.2)

pointer_word : (known : Option Known) (s : Space) (w x object : ℕ) (offset : ℤ) → IsInterned s.slots → StandsForPointer known s w object offset → StandsForPointer known s x object offset → (w ≡ x) ⊎ IsDead s object
pointer_word (Some k) s w x object offset interned p q = inl (known_word (is_inside k.entry.size offset 0) s w x k offset interned p q)
pointer_word None s w x object offset interned p q = inr p.0

pub one_word : (s : Space) (w x : ℕ) (v : Value) → IsInterned s.slots → Stands s w v → Stands s x v → (w ≡ x) ⊎ IsDeadPointer s v
one_word s w x (value.Num n) interned p q = inl (p ∙ sym q)
one_word s w x value.Null interned p q = inl (p ∙ sym q)
one_word s w x (value.Ptr object offset) interned p q = pointer_word (known_of object s.entries) s w x object offset interned p q
