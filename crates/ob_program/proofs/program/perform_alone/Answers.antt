use Rattle.std.proofs.Common.{refl}
use Rattle.ob_settings.specs.declared.verb.Verb.TheVariants as verb
use Rattle.ob_commands.specs.Delivery.{ask_for}
use Rattle.ob_commands.proofs.Coming.{unwritten}
use Rattle.ob_program.proofs.Answering.{as_verb, later}
use Rattle.ob_program.proofs.program.perform_alone.Goals as goal

pub returns-in-Migrate : goal.returns-in-Migrate
returns-in-Migrate g c =
    λ input quiet supply watchers seen.
    as_verb c.args.job.now.verb verb.Migrate (ask_for c.args.job.now supply watchers) seen _ input c.migrate.result _ c.in-Migrate.is (c.migrate.ensures input quiet supply watchers seen)

pub returns-in-Check : goal.returns-in-Check
returns-in-Check g c =
    λ input quiet supply watchers seen.
    as_verb c.args.job.now.verb verb.Check (ask_for c.args.job.now supply watchers) seen _ input c.check.result _ c.in-Check.is (c.check.ensures input quiet supply watchers seen)

pub returns-in_default : goal.returns-in_default
returns-in_default g c =
    λ input quiet supply watchers seen.
    later (ask_for c.args.job.now supply watchers) seen _ input _ c.args.job.now.verb c.requires.alone c.in_default.not-Check c.in_default.not-Migrate (record { sound = refl; unread = quiet }) (unwritten _ _ _)
