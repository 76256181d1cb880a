use Rattle.std.proofs.Common.{◌≡◌, Some, take}
use Rattle.ob_first.specs.FirstReading.{read_all}
use Rattle.ob_first.proofs.first_form.read_code.Given as goal

abbrev pub invariant-loop-kind : goal.invariant-loop-kind
invariant-loop-kind l = read_all (take l.kind-index l.kinds) ≡ Some (record { place = l.place; code = l.code.items })
