-- The program's answer against that of a walk: what it gives and what is known then is what the walk says, its fault is
-- the walk's, and want of memory says nothing.
use Rattle.std.specs.Prelude.{◌≡◌, Result, Ok, Err}
use Rattle.ob_tree.specs.declared.faults.TypeFault.{TypeFault}
use Rattle.ob_tree.specs.declared.faults.TypeFault.TheVariants.{Fault, NoMemory}
use Rattle.ob_typed.specs.Faults.{Walk, fault}

abbrev pub Walks : {S A B : Type 0} → (A → B) → Result A TypeFault → (after : S) → Walk S B → Type 0
Walks view (Ok x) after w = w ≡ Ok (view x, after)
Walks view (Err (Fault kind place)) after w = w ≡ fault kind place
Walks view (Err NoMemory) after w = Unit {0}
