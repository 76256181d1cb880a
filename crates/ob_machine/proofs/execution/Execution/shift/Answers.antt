use Rattle.std.proofs.Common.{w64, sym, ap, ◌∙◌}
use Rattle.std.proofs.lemmas.Int.{to_z-of_z}
use Rattle.ob_words.specs.Words.{number}
use Rattle.ob_words.specs.declared.types.IntType.TheVariants.{Long}
use Rattle.ob_code.specs.Machine.{set_shifted}
use Rattle.ob_code.specs.Pointers.{shift}
use Rattle.ob_machine.specs.Executions.{state_of}
use Rattle.ob_machine.proofs.execution.Execution.shift.Goals as goal

pub returns-in-Ok-clause-state : goal.returns-in-Ok-clause-state
returns-in-Ok-clause-state c =
    let e = c.args.self.now in
    let kept = to_z-of_z w64 c.signed-displacement.result (record { sfits = c.signed-displacement.type_inv }) in
    let d = kept ∙ c.signed-displacement.ensures ∙ ap (number Long) c.word.ensures in
    λ r. (λ i. set_shifted (shift e.space.settings.away e.space.space (sym c.word-w.ensures i) (sym d i)) c.args.a (state_of e r))
    ∙ ap (λ x. set_shifted x c.args.a (state_of e r)) c.in-Ok.ensures.moved.moved
    ∙ c.set_word.ensures.state r
