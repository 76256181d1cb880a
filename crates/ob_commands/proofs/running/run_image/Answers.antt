use Rattle.std.proofs.Common.{refl, ap, ◌∙◌}
use Rattle.ob_code.specs.declared.image.Image.{Image}
use Rattle.ob_commands.specs.Parts.{settings_for}
use Rattle.ob_commands.proofs.Coming.{not_read, ran_as, unwritten}
use Rattle.ob_commands.proofs.running.run_image.Goals as goal

pub returns-in_default : goal.returns-in_default
returns-in_default g c = (not_read _ _, unwritten _ _ _)

pub returns : goal.returns
returns g c =
    ran_as _ c.args.image _ _ _ c.run-ending.new.self c.run-ending.result c.instructions.result c.of_run.result c.settings_for-settings.result c.in-Ok.machine
    c.of_run.ensures (c.settings_for-settings.ensures ∙ ap (λ (i : Image). settings_for c.args.job.now i.profile) c.image.ensures.value) c.in-Ok.ensures c.law_endings.ensures
    (record { cycle = refl; place = refl; seen = refl }) c.instructions.ensures c.run-ending.ensures.run
