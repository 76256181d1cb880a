-- Which settings a run may have.
use Rattle.std.specs.Prelude.{◌≤◌, Bool, true, false}
use Rattle.ob_model.specs.declared.settings.Mode.{Mode}
use Rattle.ob_model.specs.declared.settings.Mode.TheVariants.{Oblivious, Boundless}
use Rattle.ob_model.specs.declared.settings.RunSettings.{RunSettings}
use Rattle.ob_model.specs.Limits.{most_outside_granules, most_away_pointers, most_heap_bytes}

pub record IsFit (s : RunSettings) : Type 0 where
  pub least_store : 1 ≤ s.store
  pub most_store : s.store ≤ most_outside_granules
  pub away : s.away ≤ most_away_pointers
  pub heap : s.heap ≤ most_heap_bytes

-- whether stray accesses are kept in granules outside of their objects
abbrev pub keeps_strays : Mode → Bool
keeps_strays Oblivious = false
keeps_strays Boundless = true
