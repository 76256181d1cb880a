-- The program's answer against that of a rule: what it gives is what the rule says, its fault is the rule's
-- with the place of the same token, and want of memory says nothing.
use Rattle.std.specs.Prelude.{◌≡◌, Result, Ok, Err}
use Rattle.ob_tree.specs.declared.faults.TypeFault.{TypeFault}
use Rattle.ob_tree.specs.declared.faults.TypeFault.TheVariants.{Fault, NoMemory}
use Rattle.ob_typed.specs.Faults.{Answer, fault}

abbrev pub Gives : {A B : Type 0} → (A → B) → Result A TypeFault → Answer B → Type 0
Gives view (Ok x) answer = answer ≡ Ok (view x)
Gives view (Err (Fault kind place)) answer = answer ≡ fault kind place
Gives view (Err NoMemory) answer = Unit {0}
