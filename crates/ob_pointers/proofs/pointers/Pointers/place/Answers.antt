use Rattle.std.proofs.Common.{SFits, w64, to_z, of_z, rules}
use Rattle.std.proofs.lemmas.Int.{to_z-of_z}
use Rattle.ob_pointers.proofs.Slotting.{placed_out}
use Rattle.ob_pointers.proofs.pointers.Pointers.place.Goals as goal

pub returns-in-OutOfBounds-clause-placed : goal.returns-in-OutOfBounds-clause-placed
returns-in-OutOfBounds-clause-placed c =
    let offset = c.in-OutOfBounds.offset in
    let fits : SFits w64 offset = search rules in
    placed_out c.args.pointer c.args.to c.in-OutOfBounds.object (to_z w64 (of_z w64 offset)) offset c.args.self.now c.slot_word.new.self c.slot_word.result c.in-OutOfBounds.is (to_z-of_z w64 offset fits) c.requires.goes c.slot_word.ensures.slotted
