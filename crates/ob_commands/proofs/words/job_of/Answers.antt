use Rattle.std.proofs.Common.{sym, ◌∙◌}
use Rattle.ob_commands.proofs.Texts.{no_maker}
use Rattle.ob_commands.proofs.words.job_of.Goals as goal

pub returns-in-Ok-2-clause-usage : goal.returns-in-Ok-2-clause-usage
returns-in-Ok-2-clause-usage c = λ e job asks. no_maker c.law_one_job.ensures.one _ c.args.makers c.in-Ok.job c.in-Ok.ensures.job (sym c.has_maker.ensures ∙ c.if-has_maker.false) job asks

pub returns-in-Err-clause-usage : goal.returns-in-Err-clause-usage
returns-in-Err-clause-usage c = λ e job asks. c.read_words.ensures.usage (c.in-Err.is ∙ e) job asks.asked
