-- Each event comes to something.
use Rattle.std.specs.Prelude.{◌⊎◌}
use Rattle.mqtt_sessions.specs.Reaction.{Reaction}
use Rattle.mqtt_sessions.specs.State.{State}
use Rattle.law_sessions.specs.Runs.{Event, Reacts, MayCome, ends_of}

-- a reaction answers an event
abbrev pub HasOutcome : State → Event → Type 0
HasOutcome old e = (r : Reaction) × (new : State) × Reacts old e r new

-- an event that may come has an outcome, or it needs a number that is at its end
abbrev pub KeepsOutcome : Type 0
KeepsOutcome = (old : State) (e : Event) → MayCome e old → HasOutcome old e ⊎ ends_of e old
