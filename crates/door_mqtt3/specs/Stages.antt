-- What is known of a connection of a client, and what comes of that which happens on it.
use Rattle.std.specs.Prelude.{◌≡◌, ◌==◌, ℕ, List, [], ◌∷◌, ◌++◌, Bool, true, false, Option, Some, None, flat_map, length, map, if◌then◌else◌}
use Rattle.std.specs.BTreeMap.{get}
use Rattle.std.specs.Ordering.{nat_cmp}
use Rattle.broker_sockets.specs.declared.events.EventKind.{EventKind}
use Rattle.broker_sockets.specs.declared.events.EventKind.TheVariants.{Started, Opened, Piece, Room, Closed, Tick}
use Rattle.broker_sockets.specs.declared.events.Output.{Output}
use Rattle.broker_sockets.specs.declared.events.Output.TheVariants.{Send, Close}
use Rattle.mqtt_packets.specs.declared.fault.PacketFault.TheVariants.{Malformed}
use Rattle.mqtt3_packets.specs.Version.{version_of}
use Rattle.mqtt3_packets.specs.declared.level.Level.TheVariants.{Four}
use Rattle.mqtt3_packets.specs.declared.version.Version.{Version}
use Rattle.mqtt3_packets.specs.declared.version.Version.TheVariants.{Five, Before, Unserved}
use Rattle.door_mqtt3.specs.Client.{AreSpelled, Notice, Outcome, come, fresh, limit, went_on}
use Rattle.door_mqtt3.specs.Client.Notice.{Faults, Same}
use Rattle.door_mqtt3.specs.Sending.{gotten}
use Rattle.door_mqtt3.specs.declared.clients.Clients.{Clients}
use Rattle.door_mqtt3.specs.declared.clients.Stage.{Stage}
use Rattle.door_mqtt3.specs.declared.clients.Stage.TheVariants as stages

-- none: its client is of MQTT 5.0
abbrev pub stage_of : Clients → ℕ → Option Stage
stage_of k q = get nat_cmp k.stages q

-- its client's packets aren't looked at any more
abbrev pub has_ended : Option Stage → Bool
has_ended (Some (stages.Known client)) = client.ended
has_ended _ = false

-- this one is so, and all others are as they were
pub record IsBut (c : ℕ) (stage : Option Stage) (k k' : Clients) : Type 0 where
  pub at : stage_of k' c ≡ stage
  pub others : (q : ℕ) → (c == q) ≡ false → stage_of k' q ≡ stage_of k q

-- ---- what happens on a connection

pub data Happening : Type 0 where
  -- it is opened
  Opens : Happening
  -- it is gone
  Goes : Happening
  -- these bytes come
  Comes : (bytes : List ℕ) → Happening
  -- what was held back is handed on, as far as there is room
  GoesOn : Happening
  -- the handler inside gives these bytes for it
  Gets : (bytes : List ℕ) → Happening
  -- the handler inside closes it
  Closes : Happening
  -- the handler inside is told that it has to end, where its client's packets aren't looked at any more
  Ends : Happening

-- what goes out on a connection: bytes, or its end
pub data Outgoing : Type 0 where
  Bytes : (bytes : List ℕ) → Outgoing
  End : Outgoing

-- how far it has come then, what the handler inside is told, and what goes out
pub record Effect : Type 0 where
  pub stage : Option Stage
  pub told : List Notice
  pub out : List Outgoing

abbrev pub sent_if : List ℕ → List Outgoing
sent_if bytes = if length bytes == 0 then [] else Bytes bytes ∷ []

-- what comes of bytes: how far it has come then, what the handler inside is told, and what is sent first
pub record Come : Type 0 where
  pub stage : Option Stage
  pub told : List Notice
  pub first : List ℕ

abbrev pub of_outcome : Outcome → Come
of_outcome o = record { stage = Some (stages.Known o.client); told = o.told; first = o.first }

-- by the version that the first bytes tell
abbrev pub begun : List ℕ → Option Version → Come
begun bytes None = record { stage = Some (stages.Coming bytes); told = []; first = [] }
begun bytes (Some Five) = record { stage = None; told = Same bytes ∷ []; first = [] }
begun bytes (Some (Before level bridge)) = of_outcome (come (fresh level bridge true) bytes)
begun bytes (Some Unserved) = of_outcome (come (fresh Four false false) bytes)

abbrev pub comes : Option Stage → List ℕ → Come
comes None bytes = record { stage = None; told = Same bytes ∷ []; first = [] }
comes (Some (stages.Coming held)) bytes = begun (held ++ bytes) (version_of limit (held ++ bytes))
comes (Some (stages.Known client)) bytes = of_outcome (come client bytes)

-- what is handed on of that which was held back
pub record Onward : Type 0 where
  pub stage : Option Stage
  pub told : List Notice

abbrev pub goes_on : Option Stage → Onward
goes_on (Some (stages.Known client)) = record { stage = Some (stages.Known (went_on client).client); told = (went_on client).told }
goes_on s = record { stage = s; told = [] }

-- what is sent of that which the handler inside gives
pub record Got : Type 0 where
  pub stage : Stage
  pub sent : List ℕ

abbrev pub got : Stage → List ℕ → Got
got (stages.Coming held) bytes = record { stage = stages.Coming held; sent = [] }
got (stages.Known client) bytes = record { stage = stages.Known (gotten client bytes).client; sent = (gotten client bytes).sent }

abbrev pub gets : Option Stage → List ℕ → Effect
gets None bytes = record { stage = None; told = []; out = Bytes bytes ∷ [] }
gets (Some s) bytes = record { stage = Some (got s bytes).stage; told = []; out = sent_if (got s bytes).sent }

abbrev pub effect : Option Stage → Happening → Effect
effect s Opens = record { stage = Some (stages.Coming []); told = []; out = [] }
effect s Goes = record { stage = None; told = []; out = [] }
effect s (Comes bytes) = record { stage = (comes s bytes).stage; told = (comes s bytes).told; out = sent_if (comes s bytes).first }
effect s GoesOn = record { stage = (goes_on s).stage; told = (goes_on s).told; out = [] }
effect s (Gets bytes) = gets s bytes
effect s Closes = record { stage = None; told = []; out = End ∷ [] }
effect s Ends = record { stage = s; told = if has_ended s then Faults Malformed ∷ [] else []; out = [] }

-- ---- one after another

abbrev pub stage_after : Option Stage → List Happening → Option Stage
stage_after s [] = s
stage_after s (h ∷ hs) = stage_after (effect s h).stage hs

abbrev pub told_in : Option Stage → List Happening → List Notice
told_in s [] = []
told_in s (h ∷ hs) = (effect s h).told ++ told_in (effect s h).stage hs

abbrev pub out_in : Option Stage → List Happening → List Outgoing
out_in s [] = []
out_in s (h ∷ hs) = (effect s h).out ++ out_in (effect s h).stage hs

-- what an event brings: what comes from outside, and that what was held back goes on
abbrev pub met_one : Happening → List Happening
met_one Opens = Opens ∷ []
met_one Goes = Goes ∷ []
met_one (Comes bytes) = Comes bytes ∷ []
met_one GoesOn = GoesOn ∷ []
met_one _ = []

abbrev pub met_in : List Happening → List Happening
met_in hs = flat_map met_one hs

-- what the handler inside gives
abbrev pub given_one : Happening → List Outgoing
given_one (Gets bytes) = Bytes bytes ∷ []
given_one Closes = End ∷ []
given_one _ = []

abbrev pub given_in : List Happening → List Outgoing
given_in hs = flat_map given_one hs

-- ---- what is for one connection, of events and of what goes out

abbrev pub of_output : ℕ → Output → List Outgoing
of_output q (Send connection bytes) = if connection == q then Bytes bytes.items ∷ [] else []
of_output q (Close connection) = if connection == q then End ∷ [] else []

abbrev pub on : ℕ → List Output → List Outgoing
on q outputs = flat_map (of_output q) outputs

abbrev pub met_by : ℕ → EventKind → List Happening
met_by q Started = []
met_by q (Opened connection) = if connection == q then Opens ∷ [] else []
met_by q (Piece connection bytes) = if connection == q then Comes bytes.items ∷ GoesOn ∷ [] else []
met_by q (Room connection bytes) = []
met_by q (Closed connection) = if connection == q then Goes ∷ [] else []
met_by q Tick = []

-- the bytes of a piece
abbrev pub piece_of : ℕ → EventKind → List ℕ
piece_of q (Piece connection bytes) = if connection == q then bytes.items else []
piece_of q _ = []

-- ---- what the handler inside is told of a connection and gives for it, in order

pub data Dealing : Type 0 where
  Tells : (bytes : List ℕ) → Dealing
  Gives : (out : Outgoing) → Dealing

abbrev pub told_if : List ℕ → List Dealing
told_if bytes = if length bytes == 0 then [] else Tells bytes ∷ []

abbrev pub gave : List Outgoing → List Dealing
gave out = map Gives out

-- what is told where this happens is told in one piece, if there is any
abbrev pub IsDealt : Option Stage → Happening → List Dealing → Type 0
IsDealt s h dealt = (bytes : List ℕ) × AreSpelled (effect s h).told bytes × (dealt ≡ told_if bytes ++ gave (given_one h))

abbrev pub AreDealt : Option Stage → List Happening → List Dealing → Type 0
AreDealt s [] dealt = dealt ≡ []
AreDealt s (h ∷ hs) dealt = (front : List Dealing) × (back : List Dealing) × (dealt ≡ front ++ back) × IsDealt s h front × AreDealt (effect s h).stage hs back

-- ---- what happens on a connection while the handler inside is called

-- from one stage to another: what came from outside, what the handler inside was told and gave, and what goes out beyond this
pub record IsPath (q : ℕ) (s s' : Option Stage) (met : List Happening) (dealt : List Dealing) (outputs outputs' : List Output) : Type 0 where
  pub happenings : List Happening
  pub stage : s' ≡ stage_after s happenings
  pub comes : met_in happenings ≡ met
  pub deals : AreDealt s happenings dealt
  pub sends : on q outputs' ≡ on q outputs ++ out_in s happenings
