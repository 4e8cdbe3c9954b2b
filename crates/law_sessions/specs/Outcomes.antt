-- Each event has one outcome.
use Rattle.std.specs.Prelude.{◌≡◌}
use Rattle.mqtt_sessions.specs.Reaction.{Reaction}
use Rattle.mqtt_sessions.specs.State.{State}
use Rattle.law_sessions.specs.Runs.{Event, Reacts, ends_of}

-- an event and what a session holds determine the reaction and what is left
abbrev pub OneOutcome : Type 0
OneOutcome = (e : Event) (old : State) (r r' : Reaction) (new new' : State) → Reacts old e r new → Reacts old e r' new' → (r ≡ r') × (new ≡ new')

-- where a number is at its end there is none
abbrev pub EndsOrReacts : Type 0
EndsOrReacts = (e : Event) (old new : State) (r : Reaction) → ends_of e old → Reacts old e r new → ⊥
