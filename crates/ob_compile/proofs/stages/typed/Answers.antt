use Rattle.std.proofs.Common.{sym, subst}
use Rattle.ob_tree.specs.ProgramValid.{ValidProgram}
use Rattle.ob_tree.specs.ProgramView.{program_tree}
use Rattle.ob_compile.proofs.Faults.{checked_answer}
use Rattle.ob_compile.proofs.stages.typed.Goals as goal

pub checked-requires-clause-valid : goal.checked-requires-clause-valid
checked-requires-clause-valid c =
    subst ValidProgram (sym c.in-Ok.ensures) (c.law_completion.ensures.valid (program_tree c.args.source.program) c.requires.program.0.valid)

pub returns-in-Ok : goal.returns-in-Ok
returns-in-Ok c =
    checked_answer c.args.bytes.now c.args.source.tokens.items c.deref.result.now (program_tree c.args.source.program) (program_tree c.in-Ok.whole) c.checked.result c.deref.ensures.value c.in-Ok.ensures c.requires.tokens c.requires.program c.checked.ensures
