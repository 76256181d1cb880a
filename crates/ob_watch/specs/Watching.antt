-- What a watcher keeps of the stray accesses that it is told.
use Rattle.std.specs.Prelude.{ℕ, ◌+◌, ◌-◌, ◌^◌, min, nat_lt, List, [], ◌∷◌, ◌++◌, length, if◌then◌else◌}
use Rattle.ob_model.specs.declared.strays.StrayEvent.{StrayEvent}

-- a watcher: how many events it keeps at most, the first ones that it was told, and how many it was told in all
pub record Watch : Type 0 where
  pub capacity : ℕ
  pub kept : List StrayEvent
  pub total : ℕ

-- one more event: it is kept where there is room
abbrev pub kept_after : ℕ → List StrayEvent → StrayEvent → List StrayEvent
kept_after capacity kept e = if nat_lt (length kept) capacity then kept ++ e ∷ [] else kept

-- the count stays at the greatest number of 64 bits
abbrev pub total_after : ℕ → ℕ
total_after total = min (total + 1) (2 ^ 64 - 1)

-- a watcher that is told an event, and several one after another
abbrev pub after_event : Watch → StrayEvent → Watch
after_event w e = record w { kept = kept_after w.capacity w.kept e; total = total_after w.total }

abbrev pub after_events : List StrayEvent → Watch → Watch
after_events [] w = w
after_events (e ∷ es) w = after_events es (after_event w e)
