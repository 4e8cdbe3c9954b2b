-- To whom a node sends something as clients go (MQTT 5.0, 3.14.2.1 and 4.11).
use Rattle.std.specs.Prelude.{◌≡◌, ◌≢◌, ℕ, List, ◌++◌, Some}
use Rattle.std.specs.FinMap as map
use Rattle.std.specs.List.{AllByRecursion}
use Rattle.home_table.specs.Homes.{IsHome}
use Rattle.mqtt_packets.specs.Written.{written}
use Rattle.session_table.specs.Seats.{IsElsewhere}
use Rattle.node_work.specs.declared.outcome.Output.TheVariants.{Send, Close}
use Rattle.node_work.specs.Acts.{Act, Connection, Bridge, Out, Runs}
use Rattle.node_work.specs.Held.Bridge.{Gave}
use Rattle.node_work.specs.Held.Connections.{Closed}
use Rattle.node_work.specs.Held.Sessions.{connection_at}
use Rattle.node_work.specs.Packets.{moved_packet}
use Rattle.node_work.specs.View.{Place, HeldView}
use Rattle.node_clients.specs.Connecting.{address_of}
use Rattle.law_steps.specs.Going.{IsSentOn}
use Rattle.law_steps.specs.Tables.{ClientsGo}

-- the client of this session is on this connection, and its home is elsewhere
pub record HasHomeElsewhere (p : Place) (h : HeldView) (c : ℕ) (client : List ℕ) : Type 0 where
  pub on : connection_at client h ≡ Some c
  pub elsewhere : IsElsewhere h.homes p.id client

-- among these acts it is told where to, and directly after that its connection is closed
pub record IsSentOnAmong (p : Place) (h : HeldView) (acts : List Act) (c : ℕ) (client : List ℕ) : Type 0 where
  pub before : List Act
  pub own : List Act
  pub after : List Act
  pub is : acts ≡ before ++ (own ++ after)
  pub mid : HeldView
  pub runs : Runs p h before mid
  pub sent : IsSentOn p client c mid own

-- DISCONNECT with Server moved and the address that the table has of the client's home, which is another node
pub record TellsHome (p : Place) (h : HeldView) (client bytes : List ℕ) : Type 0 where
  pub home : ℕ
  pub is_home : IsHome h.homes client home
  pub other : home ≢ p.id
  pub address : List ℕ
  pub at : address_of h home ≡ Some address
  pub is : bytes ≡ written (moved_packet address)

-- a packet of the node's own tells such a client, on its connection; only such a connection is closed; and no frame goes out
abbrev pub IsForThem : Place → HeldView → Act → Type 0
IsForThem p h (Out (Send c bytes)) = (client : List ℕ) × HasHomeElsewhere p h c client × TellsHome p h client bytes
IsForThem p h (Out (Close c)) = (client : List ℕ) × HasHomeElsewhere p h c client
IsForThem p h (Out o) = ⊥
IsForThem p h (Connection (Closed c)) = (client : List ℕ) × HasHomeElsewhere p h c client
IsForThem p h (Connection a) = ⊥
IsForThem p h (Bridge (Gave f)) = ⊥
IsForThem p h a = Unit {0}

-- wherever clients go: each that is on a connection is sent on; nothing of the node's own goes to anyone else, and no other connection changes
pub record SendsThemOn (p : Place) (h : HeldView) (acts : List Act) (last : HeldView) : Type 0 where
  pub each : (client : List ℕ) (c : ℕ) → HasHomeElsewhere p h c client → IsSentOnAmong p h acts c client
  pub alone : AllByRecursion (IsForThem p h) acts
  pub others : (c : ℕ) → ((client : List ℕ) → ¬ (HasHomeElsewhere p h c client)) → map.get last.connections c ≡ map.get h.connections c

abbrev pub ClientsAreSentOn : Type 0
ClientsAreSentOn = (p : Place) (h last : HeldView) (acts : List Act) → ClientsGo p h acts last → SendsThemOn p h acts last
