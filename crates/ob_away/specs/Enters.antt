-- A pair that takes a slot.
use Rattle.std.specs.Prelude.{◌≡◌, ℕ, Result, Ok}
use Rattle.ob_away.specs.declared.table.Full.{Full}
use Rattle.ob_model.specs.Descriptors.{Pair, free_slot, with_pair, word_of}
use Rattle.ob_away.specs.Slots.{Descriptors}

-- the pair takes the least free slot, and the answer is that slot's word
pub record Enters (old new : Descriptors) (answer : Result ℕ Full) (pair : Pair) : Type 0 where
  pub word : answer ≡ Ok (word_of (free_slot old.slots))
  pub slots : new ≡ record old { slots = with_pair pair old.slots }
