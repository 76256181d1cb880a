use Rattle.std.proofs.Common.{◌∙◌}
use Rattle.ob_code.proofs.CodeRanges.{next_holds}
use Rattle.ob_code.proofs.rules.code.holder.Goals as goal

pub returns-then-i-code_end : goal.returns-then-i-code_end
returns-then-i-code_end c =
    next_holds c.args.image.now c.args.f c.args.i c.requires.sound c.requires.place (c.if-i-code_end.true ∙ c.code_end.ensures)
