use Rattle.std.proofs.Common.{◌≡◌, ℤ, Some, None, ap, ◌∙◌, w64}
use Rattle.std.proofs.lemmas.Int.{to_z-of_z}
use Rattle.std.proofs.lemmas.Bool.{false≢true}
use Rattle.ob_model.specs.Descriptors.{slot_of}
use Rattle.ob_away.proofs.table.AwayTable.word_for.Goals as goal

pub returns-in-Some-clause-entered : goal.returns-in-Some-clause-entered
returns-in-Some-clause-entered c = λ absent.
    let found : Some c.in-Some.slot ≡ slot_of c.args.self.now.slots (c.args.object, c.args.offset) =
    c.in-Some.ensures.slot ∙ ap (λ (z : ℤ). slot_of c.args.self.now.slots (c.args.object, z)) (to_z-of_z w64 c.args.offset c.ranges.offset) in
    absurd (let e : Some c.in-Some.slot ≡ None = found ∙ absent in cc)

pub returns-in-Some-clause-full : goal.returns-in-Some-clause-full
returns-in-Some-clause-full c =
    let found : Some c.in-Some.slot ≡ slot_of c.args.self.now.slots (c.args.object, c.args.offset) =
    c.in-Some.ensures.slot ∙ ap (λ (z : ℤ). slot_of c.args.self.now.slots (c.args.object, z)) (to_z-of_z w64 c.args.offset c.ranges.offset) in
    (λ error. absurd (false≢true error), λ both. absurd (let e : Some c.in-Some.slot ≡ None = found ∙ both.0 in cc))
