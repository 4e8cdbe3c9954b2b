-- A client of MQTT 5.0 goes through byte for byte.
use Rattle.std.specs.Prelude.{◌≡◌, ◌++◌, ℕ, Bool, true, false, List, [], ◌∷◌, map, Some, None}
use Rattle.std.specs.List.{concat, list_all}
use Rattle.broker_sockets.specs.declared.bridge.Given.{Given}
use Rattle.broker_sockets.specs.declared.bridge.PeerEvent.{PeerEvent}
use Rattle.broker_sockets.specs.declared.events.Event.{Event}
use Rattle.broker_sockets.specs.declared.events.Output.{Output}
use Rattle.mqtt_fields.specs.Field.{IsBytes}
use Rattle.mqtt3_packets.specs.Version.{version_of}
use Rattle.mqtt3_packets.specs.declared.version.Version.TheVariants.{Five}
use Rattle.door_mqtt3.specs.Calls.{AreMade, Call, bytes_of, dealt_of, given_of, met_of}
use Rattle.door_mqtt3.specs.Client.{limit}
use Rattle.door_mqtt3.specs.Stages.{Dealing, Happening, Outgoing, on, stage_of}
use Rattle.door_mqtt3.specs.Stages.Dealing.{Tells, Gives}
use Rattle.door_mqtt3.specs.Stages.Happening.{Opens, Comes, GoesOn}
use Rattle.door_mqtt3.specs.Views.{clients_of, inside_of}
use Rattle.door_mqtt3.specs.declared.clients.Clients.{Clients}
use Rattle.door_mqtt3.specs.declared.handler.Mqtt3.{Mqtt3}

-- it isn't opened anew
abbrev pub is_later : Happening → Bool
is_later Opens = false
is_later _ = true

-- what comes from outside: beside it what was held back goes on
abbrev pub from_outside : List Happening → List Happening
from_outside [] = []
from_outside (GoesOn ∷ hs) = from_outside hs
from_outside (h ∷ hs) = h ∷ from_outside hs

-- what is given for a connection before anything is told of it
abbrev pub given_untold : List Dealing → List Outgoing
given_untold [] = []
given_untold (Tells bytes ∷ more) = []
given_untold (Gives out ∷ more) = out ∷ given_untold more

-- A connection is opened in these calls, and these bytes come on it, which tell MQTT 5.0; then whatever comes. The handler inside gives nothing for it, and doesn't
-- close it, before it is told of it.
pub record IsOfFive (q : ℕ) (calls inside : List Call) : Type 0 where
  pub pieces : List (List ℕ)
  pub later : List Happening
  pub met : from_outside (met_of q calls) ≡ Opens ∷ (map Comes pieces ++ later)
  pub once : list_all is_later later ≡ true
  pub bytes : IsBytes (concat pieces)
  pub version : version_of limit (concat pieces) ≡ Some Five
  pub silent : given_untold (dealt_of q inside) ≡ []

pub record GoesThrough (q : ℕ) (calls inside : List Call) : Type 0 where
  -- the handler inside is told each byte that came, in order, and no other
  pub told : bytes_of q inside ≡ bytes_of q calls
  -- what goes out is what it gave, in order, and nothing else
  pub sent : on q (given_of calls) ≡ on q (given_of inside)

module _ {H : Type 0} (handles : H → Event → List Output → H → Type 0) (hears : H → PeerEvent → Given → H → Type 0) (settles : H → H → Type 0)
    (handles' : Mqtt3 H → Event → List Output → Mqtt3 H → Type 0) (hears' : Mqtt3 H → PeerEvent → Given → Mqtt3 H → Type 0) (settles' : Mqtt3 H → Mqtt3 H → Type 0) where
  -- whatever calls are made, from where no connection is open
  abbrev pub FivesGoThrough : Type 0
  FivesGoThrough =
      (calls : List Call) (d d' : Mqtt3 H) (k : Clients) → clients_of d ≡ Some k → ((q : ℕ) → stage_of k q ≡ None) → AreMade handles' hears' settles' calls d d'
      → (inside : List Call) × AreMade handles hears settles inside (inside_of d) (inside_of d') × ((q : ℕ) → IsOfFive q calls inside → GoesThrough q calls inside)
