use Rattle.ob_meaning.proofs.TypedCalls.{calls_have_types, runs_begin_typed, values_have_types}
use Rattle.ob_meaning.proofs.TypedPrograms.{rules_give_values, typed_programs_give_values}
use Rattle.ob_meaning.proofs.laws.law_values.Goals as goal

pub returns-clause-rules : goal.returns-clause-rules
returns-clause-rules c = rules_give_values

pub returns-clause-programs : goal.returns-clause-programs
returns-clause-programs c = typed_programs_give_values

pub returns-clause-expressions : goal.returns-clause-expressions
returns-clause-expressions c = values_have_types

pub returns-clause-calls : goal.returns-clause-calls
returns-clause-calls c = calls_have_types

pub returns-clause-runs : goal.returns-clause-runs
returns-clause-runs c = runs_begin_typed
