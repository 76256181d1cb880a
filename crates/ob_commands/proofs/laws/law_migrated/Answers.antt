use Rattle.std.proofs.Common.{[], sym, ap, ◌∙◌, subst}
use Rattle.std.proofs.lemmas.List.{append-nil}
use Rattle.ob_image.specs.Faults.{Spells}
use Rattle.ob_image.specs.declared.layout.Version.TheVariants.{Two}
use Rattle.ob_commands.specs.Answers.{Outcome}
use Rattle.ob_commands.proofs.laws.law_migrated.Goals as goal

pub returns : goal.returns
returns c =
    λ image other input o it spelled.
    let out_is = ap (λ (x : Outcome). x.out) it.is in
    sym (c.law_no_prefix.ensures it.bytes [] image other (Two, it.spelled) (subst (λ b. Spells b other) (out_is ∙ sym (append-nil it.bytes)) spelled)).0
