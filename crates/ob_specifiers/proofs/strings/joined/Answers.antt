use Rattle.std.proofs.Common.{◌++◌, get_or, ap, ◌∙◌}
use Rattle.ob_specifiers.proofs.Pieces.{joined_more}
use Rattle.ob_specifiers.proofs.strings.joined.Goals as goal

pub loop-string-preserved : goal.loop-string-preserved
loop-string-preserved c =
    let ss = c.args.strings.now in
    let i = c.loop-string.string-index in
    let s = c.string-item.result in
    c.in_ok-add.ensures.ok ∙ ap (λ b. c.loop-string.joined ++ b) (c.bytes.ensures ∙ c.string-item.is)
    ∙ ap (λ j. j ++ get_or ss i s) c.loop-string.invariant ∙ joined_more ss i s c.loop-string-test.true
