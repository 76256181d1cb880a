use Rattle.std.proofs.Common.{◌≤◌, ◌^◌, unsigned_abs, w64, sym, ap, ◌∙◌, arith}
use Rattle.std.specs.Prelude.{FitsSigned}
use Rattle.std.proofs.lemmas.Int.{ints}
use borrow.Author.Differences.{abs_is}
use Rattle.ob_words.specs.Words.{word}
use Rattle.ob_model.specs.Pointers.{difference}
use Rattle.ob_code.specs.Machine.{set_word}
use Rattle.ob_space.specs.Loaded.{pointer_at}
use Rattle.ob_machine.specs.Executions.{state_of}
use Rattle.ob_machine.proofs.Words.{wide_is, word_of_long}
use Rattle.ob_machine.proofs.execution.Execution.difference.Goals as goal

pub returns-clause-state : goal.returns-clause-state
returns-clause-state c =
    let s = c.args.self.now.space in
    let n = difference c.from.result (pointer_at s c.word-left.result) (pointer_at s c.word-right.result) in
    let count = c.difference-count.result in
    let fits : FitsSigned w64 count = record { sfits = c.difference-count.type_inv } in
    let small : unsigned_abs count ≤ 2 ^ 63 = omega (arith, ints, abs_is count, fits.sfits) in
    let same =
    c.word.ensures ∙ ap word (wide_is count fits small) ∙ word_of_long n count c.difference-count.ensures.answer
    ∙ (λ i. word (difference (c.from.ensures i) (pointer_at s (c.word-left.ensures i)) (pointer_at s (c.word-right.ensures i)))) in
    λ r. ap (set_word (state_of c.args.self.now r) c.args.a) (sym same)
    ∙ (λ i. set_word (state_of (record c.args.self.now { space = sym c.difference-count.ensures.kept i }) r) c.args.a c.word.result)
    ∙ c.set_word.ensures.state r
