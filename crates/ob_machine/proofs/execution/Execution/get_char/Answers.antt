use Rattle.std.proofs.Common.{refl, rules}
use Rattle.ob_code.specs.Machine.{get_char, ticked}
use Rattle.ob_machine.specs.Buffers.{IsUsedUp}
use Rattle.ob_machine.specs.Exchanges.{devices}
use Rattle.ob_machine.proofs.Exchanged.{HasNext, got_char, no_step, refill_fails, refilled_next, still_next}
use Rattle.ob_machine.proofs.execution.Execution.get_char.Goals as goal
use Rattle.ob_machine.proofs.execution.Execution.get_char.Goals.{then-must_read+in_default, else-must_read}

pub returns-then-self-eq0-clause-answer : goal.returns-then-self-eq0-clause-answer
returns-then-self-eq0-clause-answer g c =
    λ hears. no_step _ (λ input_end t. get_char input_end t.input c.args.a t) c.args.self.now _ (λ input_end s. refl) c.if-self-eq0.true c.requires.end

pub returns-in-Err-clause-answer : goal.returns-in-Err-clause-answer
returns-in-Err-clause-answer g c =
    let used : IsUsedUp c.args.ports.now.input = c.must_read.ensures.0 (search rules) in
    λ hears. refill_fails _ c.args.self.now _ _ c.args.a c.in-Err.fault (λ input_end s. refl) c.if-self-eq0.false used (c.in-Err.ensures.answer hears)

pub returns-clause-answer : goal.returns-clause-answer
returns-clause-answer g c =
    λ hears. let before = devices c.args.ports.now (g.S.Source.left c.args.source.now) (g.S.Source.faults c.args.source.now) (g.K.Sink.taken c.args.sink.now) (g.K.Sink.tally c.args.sink.now) (g.K.Sink.faults c.args.sink.now) hears in
    let between = devices c.if-must_read.ports (g.S.Source.left c.if-must_read.source) (g.S.Source.faults c.if-must_read.source) (g.K.Sink.taken c.if-must_read.sink) (g.K.Sink.tally c.if-must_read.sink) (g.K.Sink.faults c.if-must_read.sink) hears in
    let next : HasNext before between = elim c.if-must_read.branch [
      | then-must_read+in_default w ↦
          let used : IsUsedUp c.args.ports.now.input = c.must_read.ensures.0 (search rules) in
          rw (w.ports-is, w.source-is, w.sink-is) (refilled_next _ _ used (w.in_default.ensures.answer hears))
      | else-must_read w ↦
          let more : ¬ IsUsedUp c.args.ports.now.input = λ used. let yes = c.must_read.ensures.1 used in let no = w.if-must_read.false in grind (rules, yes, no) in
          rw (w.ports-is, w.source-is, w.sink-is) (still_next before c.requires.end more)
    ] in
    got_char (λ input_end s. ticked s.steps s (λ t. get_char input_end t.input c.args.a t)) c.args.self.now c.set_word.new.self before between c.next.new.self c.next.result c.args.a c.byte_word-w.result
    (λ input_end s. refl) c.if-self-eq0.false next (c.next.ensures.end, c.next.ensures.byte) c.byte_word-w.ensures c.set_word.ensures.state
