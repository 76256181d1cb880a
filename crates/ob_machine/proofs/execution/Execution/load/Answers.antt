use Rattle.std.proofs.Common.{of_z, to_z, w64, refl, sym, ap, ◌∙◌, subst}
use Rattle.std.proofs.lemmas.Int.{to_z-of_z}
use Rattle.ob_words.specs.Words.{number}
use Rattle.ob_words.specs.declared.types.IntType.TheVariants.{Long}
use Rattle.ob_code.specs.Rules.{IsWritten}
use Rattle.ob_machine.proofs.Heard.{load_far, load_heard, load_words}
use Rattle.ob_machine.proofs.execution.Execution.load.Goals as goal

pub returns-in_default-clause-heard : goal.returns-in_default-clause-heard
returns-in_default-clause-heard g c =
    let e = c.args.self.now in
    let kept = to_z-of_z w64 c.signed-displacement.result (record { sfits = c.signed-displacement.type_inv }) in
    load_far e _ _ c.args.kind c.args.line c.args.b c.args.c c.word-w.result (to_z w64 (of_z w64 c.signed-displacement.result)) c.word-w.ensures
    (kept ∙ c.signed-displacement.ensures ∙ ap (number Long) c.word.ensures)
    c.load.new.self c.args.a (c.in_default.ensures.far.0 refl) c.in_default.ensures.unmoved c.load.ensures.cycle c.load.ensures.told c.load.ensures.space

pub set_word-requires-clause-written : goal.set_word-requires-clause-written
set_word-requires-clause-written g c =
    let same = load_words c.args.self.now.space c.load.new.self c.word-w.result (to_z w64 (of_z w64 c.signed-displacement.result)) c.args.kind c.load.ensures.space in
    subst (λ n. IsWritten n c.args.a) (sym same) c.requires.written

pub returns-clause-heard : goal.returns-clause-heard
returns-clause-heard g c =
    let e = c.args.self.now in
    let kept = to_z-of_z w64 c.signed-displacement.result (record { sfits = c.signed-displacement.type_inv }) in
    load_heard e _ _ c.args.kind c.args.line c.args.b c.args.c c.word-w.result (to_z w64 (of_z w64 c.signed-displacement.result)) c.word-w.ensures
    (kept ∙ c.signed-displacement.ensures ∙ ap (number Long) c.word.ensures)
    c.set_word.new.self c.load.new.self c.args.a c.in-Ok.value (λ far. let no = c.in-Ok.ensures.far.1 far in cc) c.in-Ok.ensures.word c.in-Ok.ensures.place c.load.ensures.cycle c.load.ensures.told c.load.ensures.space c.set_word.ensures.state
