-- What an access that reaches a granule rests on. Serves the proof.
use Rattle.std.specs.Prelude.{◌≡◌, ℕ, ◌%◌, true}
use Rattle.ob_model.specs.declared.settings.Mode.TheVariants.{Boundless}
use Rattle.ob_model.specs.declared.values.LoadKind.{LoadKind}
use Rattle.ob_model.specs.Accesses.{bytes_of_kind, is_aligned}
use Rattle.ob_flat.specs.Memory.{IsIn}
use Rattle.ob_code.specs.Accesses as accesses
use Rattle.ob_code.specs.Accesses.{Access}
use Rattle.ob_frames.specs.Links.{MeetsNoLink}
use Rattle.ob_lifetimes.specs.Living.{IsLive}
use Rattle.ob_space.specs.Accesses.{IsInLiveObject}
use Rattle.ob_space.specs.Granules.{granule_start}
use Rattle.ob_space.specs.Loaded.{Loaded}

-- the granule of an address is a live object's own: it lies in memory, and meets no link word
pub record IsReached (s : Loaded) (kind : LoadKind) (address : ℕ) : Type 0 where
  pub own : IsInLiveObject s address (bytes_of_kind kind)
  pub granule : IsIn s.space.memory (granule_start address) 8
  pub bytes : IsIn s.space.memory address (bytes_of_kind kind)
  pub aligned : address % bytes_of_kind kind ≡ 0
  pub apart : MeetsNoLink s.space.calls (granule_start address) 8

-- an access at an address reaches such a granule; one outside of its object is aligned, and the object
-- lives; the settings keep strays
abbrev pub Reaches : Access → LoadKind → Loaded → Type 0
Reaches accesses.too_far kind s = Unit {0}
Reaches (accesses.direct address) kind s = IsReached s kind address
Reaches (accesses.own object offset address) kind s = IsReached s kind address
Reaches (accesses.outside object offset) kind s =
    (is_aligned offset (bytes_of_kind kind) ≡ true) × IsLive object s.space.entries × (s.settings.mode ≡ Boundless)
Reaches (accesses.vanishing object offset) kind s = Unit {0}
