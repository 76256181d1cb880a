use Rattle.ob_commands.proofs.Rows.{ending_only, faults_are_told, input_is_left, read_fault_only, write_fault_only}
use Rattle.ob_program.specs.Language.{language}
use Rattle.ob_program.proofs.laws.law_faults.Goals as goal

pub returns-clause-endings : goal.returns-clause-endings
returns-clause-endings c = ending_only language c.law_status.ensures.own c.law_endings.ensures

pub returns-clause-read : goal.returns-clause-read
returns-clause-read c = read_fault_only language c.law_status.ensures.own c.law_endings.ensures

pub returns-clause-write : goal.returns-clause-write
returns-clause-write c = write_fault_only language c.law_status.ensures.own c.law_endings.ensures

pub returns-clause-told : goal.returns-clause-told
returns-clause-told c = faults_are_told language c.law_status.ensures.own c.law_endings.ensures

pub returns-clause-input : goal.returns-clause-input
returns-clause-input c = input_is_left language c.law_status.ensures.own c.law_endings.ensures
