use Rattle.std.proofs.Common.{rules, w64, sym, ap, ◌∙◌}
use Rattle.std.specs.Prelude.{FitsSigned}
use Rattle.std.proofs.lemmas.Int.{to_z-of_z}
use Rattle.ob_words.specs.Conversion.{residue}
use Rattle.ob_model.specs.Endings as models
use Rattle.ob_commands.proofs.answer.ending_status.Goals as goal

pub returns-in-Ended : goal.returns-in-Ended
unfolding residue
returns-in-Ended c =
    let fits : FitsSigned w64 c.in-Ended.number = search rules in
    c.own_status.ensures ∙ ap (residue 128) (to_z-of_z w64 c.in-Ended.number fits) ∙ ap models.status_of (sym c.in-Ended.is)
