-- What watchers have seen once an event was told, which may be none.
use Rattle.std.specs.Prelude.{List, map, Option, Some, None}
use Rattle.ob_model.specs.declared.strays.StrayEvent.{StrayEvent}
use Rattle.ob_watch.specs.Watching.{Watch, after_event}

abbrev pub watches_after : Option StrayEvent → List Watch → List Watch
watches_after None ws = ws
watches_after (Some e) ws = map (λ w. after_event w e) ws
