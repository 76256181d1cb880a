-- What it is for a word of the machine to stand for a value of the language. No value has an address: this alone ties the two.
use Rattle.std.specs.Prelude.{◌≡◌, ◌≢◌, ℕ, ◌+◌, ◌≤◌, ◌<◌, Bool, true, false, ℤ, unsigned_abs, Option, Some, None}
use Rattle.ob_words.specs.Words.{word}
use Rattle.ob_model.specs.declared.values.Value.{Value}
use Rattle.ob_model.specs.declared.values.Value.TheVariants as value
use Rattle.ob_model.specs.Accesses.{is_inside}
use Rattle.ob_model.specs.Descriptors.{Slots, pair_in, word_of}
use Rattle.ob_model.specs.Entries.{Known, known_of}
use Rattle.ob_code.specs.State.{Space}

-- dead are the objects made so far that are neither live nor freed
abbrev pub IsDead : Space → ℕ → Type 0
IsDead s object = (1 ≤ object) × (object < s.next) × (known_of object s.entries ≡ None)

-- the word of a slot that holds the pair
abbrev pub IsSlotWord : Slots → ℕ → ℤ → ℕ → Type 0
IsSlotWord slots object offset w = (slot : ℕ) × (pair_in slots slot ≡ Some (object, offset)) × (w ≡ word_of slot)

-- a pointer to an offset of a live or freed object, which is in bounds from 0 to the size
abbrev pub StandsForKnown : Bool → Space → ℕ → Known → ℤ → Type 0
StandsForKnown true s w k offset = w ≡ k.entry.base + unsigned_abs offset
StandsForKnown false s w k offset = IsSlotWord s.slots k.entry.object offset w

-- a dead object's pointer may be any word but 0, and a pointer to an object that was never made has no word
abbrev pub StandsForPointer : Option Known → Space → ℕ → ℕ → ℤ → Type 0
StandsForPointer (Some k) s w object offset = StandsForKnown (is_inside k.entry.size offset 0) s w k offset
StandsForPointer None s w object offset = IsDead s object × (w ≢ 0)

abbrev pub Stands : Space → ℕ → Value → Type 0
Stands s w (value.Num n) = w ≡ word n
Stands s w value.Null = w ≡ 0
Stands s w (value.Ptr object offset) = StandsForPointer (known_of object s.entries) s w object offset
