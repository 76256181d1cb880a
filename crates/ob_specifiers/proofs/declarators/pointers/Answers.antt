use Rattle.std.proofs.Common.{ap, ◌∙◌}
use Rattle.ob_tree.specs.Types.{PlainType}
use Rattle.ob_tree.specs.TypeView.{plain_type}
use Rattle.ob_specifiers.proofs.Declared.{pointers_more}
use Rattle.ob_specifiers.proofs.declarators.pointers.Goals as goal

pub loop-star-preserved : goal.loop-star-preserved
loop-star-preserved c =
    c.in_ok-t.ensures ∙ ap PlainType.Pointer c.loop-star.invariant ∙ pointers_more c.loop-star.star (plain_type c.args.t)
