-- What the handler inside is told behind one that translates for clients of versions before 5.
use Rattle.std.specs.Prelude.{◌≡◌, ◌∷◌, [], ℕ, List, map, Option, Some, None}
use Rattle.broker_sockets.specs.declared.bridge.Given.{Given}
use Rattle.broker_sockets.specs.declared.bridge.PeerEvent.{PeerEvent}
use Rattle.broker_sockets.specs.declared.events.Event.{Event}
use Rattle.broker_sockets.specs.declared.events.Output.{Output}
use Rattle.broker_turns.specs.Handling.Told.{Of_client, Of_peer}
use Rattle.door_mqtt3.specs.Calls as levels
use Rattle.door_mqtt3.specs.Laws.{IsFollowed}
use Rattle.door_mqtt3.specs.Stages.{stage_of}
use Rattle.door_mqtt3.specs.Telling.{IsAnsweredIf, IsHeardIf}
use Rattle.door_mqtt3.specs.Views.{clients_of, inside_of}
use Rattle.door_mqtt3.specs.declared.clients.Clients.{Clients}
use Rattle.door_mqtt3.specs.declared.handler.Mqtt3.{Mqtt3}
use Rattle.law_doors.specs.Calls.{AreCalled, ArePassed, Call, Settles, Tells, notes, notes_peer}

-- what one call is to it: what a handler that notes all is told behind the same translation
abbrev pub Levels_pass : Option Clients → Call → List Call → Option Clients → Type 0
Levels_pass k (Tells (Of_client e outputs)) first k' = IsAnsweredIf notes k k' e [] first outputs
Levels_pass k (Tells (Of_peer e given)) first k' = IsHeardIf notes notes_peer k k' e [] first given
Levels_pass k Settles first k' = (first ≡ Settles ∷ []) × (k' ≡ k)

-- in the words of the handler that translates
abbrev pub as_level_call : Call → levels.Call
as_level_call (Tells (Of_client e outputs)) = levels.Handled e outputs
as_level_call (Tells (Of_peer e given)) = levels.Heard e given
as_level_call Settles = levels.Settled

-- Where it translates, from where no connection is open: of each connection the handler inside is told what came on it, translated, and what goes out is what
-- the handler inside gave, translated.
abbrev pub LevelsFollow : Type 0
LevelsFollow =
    (k : Clients) (k' : Option Clients) (calls inside : List Call) → ((q : ℕ) → stage_of k q ≡ None) → ArePassed Levels_pass (Some k) calls inside k'
    → (q : ℕ) → IsFollowed q (map as_level_call calls) (map as_level_call inside)

-- where it doesn't translate the other is told just what it is
abbrev pub LevelsOff : Type 0
LevelsOff = (k : Option Clients) (calls inside : List Call) → ArePassed Levels_pass None calls inside k → inside ≡ calls

module _ {H : Type 0} (handles : H → Event → List Output → H → Type 0) (hears : H → PeerEvent → Given → H → Type 0) (settles : H → H → Type 0)
    (handles' : Mqtt3 H → Event → List Output → Mqtt3 H → Type 0) (hears' : Mqtt3 H → PeerEvent → Given → Mqtt3 H → Type 0) (settles' : Mqtt3 H → Mqtt3 H → Type 0) where
  -- whatever calls are made of a handler that translates, or doesn't, they are these of the handler inside
  abbrev pub LevelsTell : Type 0
  LevelsTell =
      (calls : List Call) (d d' : Mqtt3 H) → AreCalled handles' hears' settles' calls d d'
      → (inside : List Call) × AreCalled handles hears settles inside (inside_of d) (inside_of d') × ArePassed Levels_pass (clients_of d) calls inside (clients_of d')
