use Rattle.ob_settings.specs.declared.verb.Verb.TheVariants as verb
use Rattle.ob_commands.proofs.Coming.{not_read}
use Rattle.ob_program.proofs.Answering.{alone, as_verb}
use Rattle.ob_program.proofs.program.perform.Goals as goal

pub perform_alone-requires-clause-alone : goal.perform_alone-requires-clause-alone
perform_alone-requires-clause-alone g c = alone c.args.job.now.verb c.in_default.not-Run c.in_default.not-Exec

pub returns-in-Run : goal.returns-in-Run
returns-in-Run g c = as_verb c.args.job.now.verb verb.Run _ _ _ _ c.run.result _ c.in-Run.is (c.run.ensures _ (not_read _ _))

pub returns-in-Exec : goal.returns-in-Exec
returns-in-Exec g c = as_verb c.args.job.now.verb verb.Exec _ _ _ _ c.exec.result _ c.in-Exec.is c.exec.ensures

pub returns-in_default : goal.returns-in_default
returns-in_default g c = c.perform_alone.ensures _ (not_read _ _) _ _ _
