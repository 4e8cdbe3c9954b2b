-- A session that is opened from its rows.
use Rattle.mqtt_sessions.specs.Reaction.{nothing}
use Rattle.mqtt_sessions.specs.Saved.{durable_of, state_in}
use Rattle.mqtt_sessions.specs.State.{State}
use Rattle.law_sessions.specs.Runs.{LostStep}

-- it is what a crash leaves of the session
abbrev pub ReopensAsLost : Type 0
ReopensAsLost = (s : State) → LostStep s nothing (state_in (durable_of s))
