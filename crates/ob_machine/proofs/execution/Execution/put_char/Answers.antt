use Rattle.std.proofs.Common.{◌%◌, ◌-◌, [], ◌∷◌, ◌++◌, sym, ap, ◌∙◌}
use Rattle.ob_code.specs.Frames.{frame_word}
use Rattle.ob_code.specs.Machine.{get, put_char, set_word}
use Rattle.ob_machine.specs.Executions.{state_of}
use Rattle.ob_machine.proofs.Handed.{ticked_once}
use Rattle.ob_machine.proofs.execution.Execution.put_char.Goals as goal

pub returns-clause-state : goal.returns-clause-state
returns-clause-state c =
    let e = c.args.self.now in
    let byte = frame_word e.space.space c.args.b % 256 in
    let read = c.from.ensures ∙ ap (λ w. w % 256) c.word.ensures in
    λ r. (
      byte,
      c.push.ensures ∙ ap (λ w. c.args.output.now ++ w % 256 ∷ []) c.word.ensures,
      ticked_once e.steps (state_of e r) (λ t. put_char (get t c.args.b % 256) c.args.a t) c.if-self-eq0.false
          ∙ ap (set_word (state_of (record e { steps = e.steps - 1 }) (record r { output = r.output ++ byte ∷ [] })) c.args.a) (sym read)
          ∙ c.set_word.ensures.state (record r { output = r.output ++ byte ∷ [] }),
    )
