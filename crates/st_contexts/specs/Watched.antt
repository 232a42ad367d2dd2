-- What a watcher has seen.
use Rattle.std.specs.Prelude.{List, [], ◌∷◌, ◌++◌, Option}
use Rattle.std.specs.Option.{option_map}
use Rattle.st_contexts.specs.declared.watch.Event.{Event}

-- one more event, where the events are told
abbrev pub event_seen : Event → Option (List Event) → Option (List Event)
event_seen event seen = option_map (λ events. events ++ event ∷ []) seen
