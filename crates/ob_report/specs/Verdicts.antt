-- The line of a verdict: how a run by the definition of the language ended. It ends with a line feed.
use Rattle.std.specs.Prelude.{ℕ, List, [], ◌++◌, codes, decimal, ⊤}
use Rattle.std.specs.Fmt.{signed_decimal}
use Rattle.ob_model.specs.declared.endings.Ending.TheVariants.{Ended, Steps, Divide, Stack, Descriptors, Far, Spent, ReadFault, WriteFault, NoMemory}
use Rattle.ob_report.specs.declared.verdicts.VerdictLine.{VerdictLine}
use Rattle.ob_report.specs.declared.verdicts.VerdictLine.TheVariants.{Plain, Dead, Dropped}

-- a failed device and want of memory are no verdicts
abbrev pub IsVerdict : VerdictLine → Type 0
IsVerdict (Plain ReadFault) = ⊥
IsVerdict (Plain WriteFault) = ⊥
IsVerdict (Plain NoMemory) = ⊥
IsVerdict v = ⊤

abbrev pub verdict_line : VerdictLine → List ℕ
verdict_line (Plain (Ended n)) = codes "Ended " ++ signed_decimal n ++ codes "\n"
verdict_line (Plain Steps) = codes "Steps\n"
verdict_line (Plain Divide) = codes "Divide\n"
verdict_line (Plain Stack) = codes "Stack\n"
verdict_line (Plain Descriptors) = codes "Descriptors\n"
verdict_line (Plain Far) = codes "Far\n"
verdict_line (Plain Spent) = codes "Spent\n"
verdict_line (Plain ReadFault) = []
verdict_line (Plain WriteFault) = []
verdict_line (Plain NoMemory) = []
verdict_line (Dead line) = codes "Dead " ++ decimal line ++ codes "\n"
verdict_line (Dropped line) = codes "Dropped " ++ decimal line ++ codes "\n"
