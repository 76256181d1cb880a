use Rattle.ob_commands.proofs.Rows.{fault_only}
use Rattle.ob_commands.proofs.Determined.{check_when, fault_when, later_when, run_when}
use Rattle.ob_commands.proofs.Checked.{check_only}
use Rattle.ob_program.specs.Language.{language}
use Rattle.ob_program.proofs.Exact.{exact, whole, written}
use Rattle.ob_program.proofs.laws.law_sources.Goals as goal

pub returns-clause-fault_only : goal.returns-clause-fault_only
returns-clause-fault_only c = fault_only language c.law_status.ensures.own c.law_endings.ensures

pub returns-clause-fault_when : goal.returns-clause-fault_when
returns-clause-fault_when c = fault_when language c.law_one_job.ensures.one (exact c.law_one_outcome.ensures) (whole c.law_one_outcome-2.ensures.outcome c.law_one_outcome-2.ensures.memory)

pub returns-clause-later_when : goal.returns-clause-later_when
returns-clause-later_when c = later_when language c.law_one_job.ensures.one (exact c.law_one_outcome.ensures) (whole c.law_one_outcome-2.ensures.outcome c.law_one_outcome-2.ensures.memory)

pub returns-clause-run_when : goal.returns-clause-run_when
returns-clause-run_when c = run_when language c.law_one_job.ensures.one (exact c.law_one_outcome.ensures) (whole c.law_one_outcome-2.ensures.outcome c.law_one_outcome-2.ensures.memory)

pub returns-clause-check_when : goal.returns-clause-check_when
returns-clause-check_when c = check_when language c.law_one_job.ensures.one (exact c.law_one_outcome.ensures) (whole c.law_one_outcome-2.ensures.outcome c.law_one_outcome-2.ensures.memory)

pub returns-clause-check_only : goal.returns-clause-check_only
returns-clause-check_only c = check_only language c.law_one_job.ensures.one (exact c.law_one_outcome.ensures) (whole c.law_one_outcome-2.ensures.outcome c.law_one_outcome-2.ensures.memory)

pub returns-clause-written : goal.returns-clause-written
returns-clause-written c =
    written c.law_one_job.ensures.one c.law_jobs.ensures.fit c.law_one_outcome.ensures c.law_one_outcome-2.ensures.outcome c.law_one_outcome-2.ensures.memory c.law_first_runs.ensures.runs c.law_first_runs.ensures.few
