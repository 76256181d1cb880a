use Rattle.std.proofs.Common.{◌+ℤ◌, ◌*ℤ◌, w64, sym, ap, ◌∙◌}
use Rattle.std.proofs.lemmas.Int.{to_z-of_z}
use Rattle.ob_words.specs.Words.{number}
use Rattle.ob_words.specs.declared.types.IntType.TheVariants.{Long}
use Rattle.ob_code.specs.Frames.{frame_word}
use Rattle.ob_machine.proofs.Words.{slide_some}
use Rattle.ob_machine.specs.Executions.{near_word, state_of}
use Rattle.ob_machine.proofs.execution.Execution.slide_by_size.Goals as goal

pub returns-clause-state : goal.returns-clause-state
returns-clause-state c =
    let same = sym (λ i. near_word (number Long (c.word.ensures i) +ℤ c.args.imm *ℤ number Long (c.word-2.ensures i))) in
    let kept = ap (λ z. near_word (number Long c.word.result +ℤ z *ℤ number Long c.word-2.result)) (sym (to_z-of_z w64 c.args.imm c.ranges.imm)) in
    λ r. slide_some (number Long (frame_word c.args.self.now.space.space c.args.b) +ℤ c.args.imm *ℤ number Long (frame_word c.args.self.now.space.space c.args.c)) c.args.a c.in-Some.w (state_of c.args.self.now r) (same ∙ kept ∙ sym c.slid_by_size.ensures ∙ c.in-Some.is)
    ∙ c.set_word.ensures.state r
