use Rattle.std.proofs.Common.{sym, ◌∙◌}
use Rattle.ob_tree.specs.Fronts.{lines}
use Rattle.ob_tree.proofs.OneProgram.{one-program}
use Rattle.ob_tree.proofs.one_program.law_spell.Goals as goal

pub returns : goal.returns
returns c tokens p q a b = one-program (lines tokens) p q a.valid b.valid a.placed b.placed (a.spelled ∙ sym b.spelled)
