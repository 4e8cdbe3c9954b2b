-- When a session ends, as events tell it (MQTT 5.0, 3.1.2.5 and 3.1.2.11.2).
use Rattle.std.specs.Prelude.{◌≡◌, ℕ, ◌≤◌, Bool, true, false, List, [], ◌∷◌, Some, None}
use Rattle.mqtt_message.specs.Expiry.{session_end}
use Rattle.mqtt_sessions.specs.declared.kept.Phase.TheVariants.{Closed}
use Rattle.mqtt_sessions.specs.Reaction.{Reaction}
use Rattle.mqtt_sessions.specs.State.{Kept, State, new_session}
use Rattle.law_sessions.specs.Runs.{Event, ticks, finishes, Step, Run, connected_after}
use Rattle.law_deliveries.specs.Wills.{kept_after}

-- its connection is closed, its Session Expiry Interval has passed since, and no will of it is still to be published
pub record IsOver (k : Kept) (now : ℕ) : Type 0 where
  pub closed : ℕ
  pub ends : ℕ
  pub since : k.phase ≡ Closed closed
  pub is : session_end closed k.expiry ≡ Some ends
  pub due : ends ≤ now
  pub will : k.will ≡ None

-- by what is due, or where the server ends it
abbrev pub OverBy : Kept → Event → Reaction → Type 0
OverBy k (ticks now) r = r.over ≡ true → IsOver k now
OverBy k (finishes now) r = r.over ≡ true
OverBy k e r = r.over ≡ false

abbrev pub AllOvers : Bool → Kept → List Step → Type 0
AllOvers on k [] = Unit {0}
AllOvers on k (s ∷ ss) = OverBy k s.event s.reaction × AllOvers (connected_after on s.event s.reaction) (kept_after on k s.event s.reaction) ss

-- a session ends at its time alone, with no will left, or where the server ends it
abbrev pub KeepsOvers : Type 0
KeepsOvers = (client : List ℕ) (steps : List Step) (end : State) → Run (new_session client) steps end → AllOvers false (new_session client).kept steps
