use Rattle.std.proofs.Common.{◌≡◌, drop, map}
use Rattle.ob_typed.specs.Typing.{least, missing_call}
use Rattle.ob_context.specs.KnownView.{called_as}
use Rattle.ob_types.proofs.missing.missing_call.Given as goal

abbrev pub invariant-loop-c : goal.invariant-loop-c
invariant-loop-c l =
    missing_call l.bodies (map called_as l.calls.items) ≡ least l.place (missing_call l.bodies (map called_as (drop l.c-index l.calls.items)))
