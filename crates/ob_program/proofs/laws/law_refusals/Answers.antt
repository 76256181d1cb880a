use Rattle.ob_commands.proofs.Rows.{bad_only, file_fault_only, file_long_only, usage_only, usage_takes_no_memory, usage_when}
use Rattle.ob_commands.proofs.Determined.{failed_when, file_long_when, missing_when}
use Rattle.ob_program.specs.Language.{language}
use Rattle.ob_program.proofs.Exact.{exact, whole}
use Rattle.ob_program.proofs.laws.law_refusals.Goals as goal

pub returns-clause-usage_only : goal.returns-clause-usage_only
returns-clause-usage_only c = usage_only language c.law_status.ensures.own c.law_endings.ensures

pub returns-clause-usage_when : goal.returns-clause-usage_when
returns-clause-usage_when c = usage_when language c.law_status.ensures.own c.law_endings.ensures

pub returns-clause-usage_memory : goal.returns-clause-usage_memory
returns-clause-usage_memory c = usage_takes_no_memory language c.law_status.ensures.own c.law_endings.ensures

pub returns-clause-file_fault : goal.returns-clause-file_fault
returns-clause-file_fault c = file_fault_only language c.law_status.ensures.own c.law_endings.ensures

pub returns-clause-file_long_only : goal.returns-clause-file_long_only
returns-clause-file_long_only c = file_long_only language c.law_status.ensures.own c.law_endings.ensures

pub returns-clause-bad_only : goal.returns-clause-bad_only
returns-clause-bad_only c = bad_only language c.law_status.ensures.own c.law_endings.ensures

pub returns-clause-file_long_when : goal.returns-clause-file_long_when
returns-clause-file_long_when c = file_long_when language c.law_one_job.ensures.one (exact c.law_one_outcome.ensures) (whole c.law_one_outcome-2.ensures.outcome c.law_one_outcome-2.ensures.memory)

pub returns-clause-missing_when : goal.returns-clause-missing_when
returns-clause-missing_when c = missing_when language c.law_one_job.ensures.one (exact c.law_one_outcome.ensures) (whole c.law_one_outcome-2.ensures.outcome c.law_one_outcome-2.ensures.memory)

pub returns-clause-failed_when : goal.returns-clause-failed_when
returns-clause-failed_when c = failed_when language
