-- The program's answer to a program of the grammar: its typed tree, or its first fault; want of memory says nothing.
use Rattle.std.specs.Prelude.{Result, Ok, Err}
use Rattle.ob_tree.specs.declared.faults.TypeFault.{TypeFault}
use Rattle.ob_tree.specs.declared.faults.TypeFault.TheVariants.{Fault, NoMemory}
use Rattle.ob_tree.specs.Programs.{ProgramTree}
use Rattle.ob_typed.specs.declared.program.Typed.{Typed}
use Rattle.ob_typed.specs.ProgramView.{typed_program}
use Rattle.ob_typed.specs.Typing.{FirstTypeFault, Types}

abbrev pub Answered : ProgramTree → Result Typed TypeFault → Type 0
Answered p (Ok t) = Types p (typed_program t)
Answered p (Err (Fault kind place)) = FirstTypeFault p (record { kind = kind; place = place })
Answered p (Err NoMemory) = Unit {0}
