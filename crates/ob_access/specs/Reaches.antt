-- How far an access reaches and where a moved pointer goes, as the program answers it.
use Rattle.std.specs.Prelude.{ℕ, ℤ, ◌+◌, Option, Some, None, unsigned_abs, if◌then◌else◌}
use Rattle.ob_model.specs.Accesses as reaches
use Rattle.ob_model.specs.Accesses.{is_far}
use Rattle.ob_model.specs.Accesses.{reach}
use Rattle.ob_model.specs.declared.settings.Mode.{Mode}
use Rattle.ob_model.specs.Entries.{Known}
use Rattle.ob_model.specs.Settings.{keeps_strays}
use Rattle.ob_code.specs.Accesses as accesses
use Rattle.ob_access.specs.declared.reach.Reach.{Reach}
use Rattle.ob_access.specs.declared.reach.Reach.TheVariants.{Inside, Own, Outside, Vanishing}
use Rattle.ob_access.specs.declared.access.Access as answers
use Rattle.ob_access.specs.declared.access.Access.TheVariants as answer

abbrev pub as_reach : Reach → reaches.Reach
as_reach Inside = reaches.inside
as_reach Own = reaches.own
as_reach Outside = reaches.outside
as_reach Vanishing = reaches.vanishing

-- an offset that isn't too far
abbrev pub near : ℤ → Option ℤ
near offset = if is_far offset then None else Some offset

abbrev pub as_access : answers.Access → accesses.Access
as_access answer.TooFar = accesses.too_far
as_access (answer.Direct address) = accesses.direct address
as_access (answer.Own object offset address) = accesses.own object offset address
as_access (answer.Outside object offset) = accesses.outside object offset
as_access (answer.Vanishing object offset) = accesses.vanishing object offset

-- an access at an offset of an object, or at none where the offset is too far
abbrev pub access_at : Mode → Known → Option ℤ → ℕ → accesses.Access
access_at mode known None k = accesses.too_far
access_at mode known (Some offset) k =
    accesses.access_by (reach (keeps_strays mode) known.freed known.entry.size offset k) known.entry offset
