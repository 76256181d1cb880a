-- The meaning of calls and of loop turns is given with a bound on how many of them stand one in another. With more than the
-- steps left the bound makes no difference.
use Rattle.std.specs.Prelude.{◌≡◌, ℕ, ◌<◌, List}
use Rattle.ob_model.specs.declared.values.Value.{Value}
use Rattle.ob_meaning.specs.Calls.{below}
use Rattle.ob_meaning.specs.Setup.{Loop, Setup}
use Rattle.ob_meaning.specs.World.{World}

abbrev pub BoundOnCallsIsFree : Type 0
BoundOnCallsIsFree =
    (u : Setup) (m n f : ℕ) (arguments : List Value) (w : World) →
    w.left < m →
    w.left < n →
    (below u m).call f arguments w ≡ (below u n).call f arguments w

abbrev pub BoundOnTurnsIsFree : Type 0
BoundOnTurnsIsFree =
    (u : Setup) (m n : ℕ) (loop : Loop) (w : World) →
    w.left < m →
    w.left < n →
    (below u m).turns loop w ≡ (below u n).turns loop w
