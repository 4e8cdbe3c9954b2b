-- The beginning of a connection (MQTT 5.0, 3.1, 3.2 and 4.4).
use Rattle.std.specs.Prelude.{◌≡◌, ℕ, Bool, true, false, List, [], ◌∷◌, ◌++◌, ◌⊎◌, Option, Some, None, IsSome, unwrap_or}
use Rattle.mqtt_fields.specs.Properties.{first_two, first_four}
use Rattle.mqtt_packets.specs.declared.connect.Connect.{Connect}
use Rattle.mqtt_packets.specs.declared.packet.Packet.{Packet}
use Rattle.qos_handshakes.specs.Incoming.{of_before}
use Rattle.qos_handshakes.specs.Outbox.{Outbox, Sent, ReleasesStep, away, empty_outbox}
use Rattle.mqtt_sessions.specs.declared.kept.Phase.TheVariants.{Connected}
use Rattle.mqtt_sessions.specs.declared.reaction.Output.TheVariants.{Answer}
use Rattle.mqtt_sessions.specs.Answers.{connack, fits}
use Rattle.mqtt_sessions.specs.Reaction.{Reaction, nothing, says, publishes_of, pubrels_of}
use Rattle.mqtt_sessions.specs.Sending.{Flushes}
use Rattle.mqtt_sessions.specs.State.{Kept, Link, State, cut, limit_in, sent_from}

abbrev pub kept_by : Kept → Connect → Kept
kept_by k c = record { client = k.client; expiry = unwrap_or (first_four 17 c.properties) 0; phase = Connected; will = c.will }

-- no alias is set on a new connection (3.3.2.3.4)
abbrev pub link_by : Connect → ℕ → Link
link_by c now = record { limit = limit_in c.properties; keep_alive = c.keep_alive; last = now; asked = None; aliases = [] }

-- each exchange without PUBREC is owed a resend, and the quota is the client's Receive Maximum
abbrev pub resumed_by : Outbox → Connect → Outbox
resumed_by o c = record o { copies = away o.copies; maximum = unwrap_or (first_two 33 c.properties) 65535 }

abbrev pub begun : State → Connect → Option ℕ → ℕ → State
begun s c room now = record { kept = kept_by s.kept c; outbox = resumed_by s.outbox c; incoming = of_before s.incoming; link = Some (link_by c now); room = room }

-- CONNACK, the PUBRELs, the resends and the queue
pub record Opens (old : State) (c : Connect) (answer : Packet) (room : Option ℕ) (now : ℕ) (r : Reaction) (new : State) : Type 0 where
  pub after : Outbox
  pub ids : List ℕ
  pub sents : List Sent
  pub lists : ReleasesStep (resumed_by old.outbox c) ids (resumed_by old.outbox c)
  pub flushes : Flushes now (limit_in c.properties) room (resumed_by old.outbox c) sents after
  pub reacts : r ≡ says (Answer answer ∷ pubrels_of ids ++ publishes_of sents)
  pub left : new ≡ sent_from (begun old c room now) after now sents

-- the CONNACK doesn't fit: the session is continued, and the connection closes
abbrev pub OpensIf : Bool → State → Connect → Packet → Option ℕ → ℕ → Reaction → State → Type 0
OpensIf true old c answer room now r new = Opens old c answer room now r new
OpensIf false old c answer room now r new = (r ≡ record nothing { end = Some 0 }) × (new ≡ cut (begun old c room now))

-- `room` is how many bytes of PUBLISHes the connection takes, where that is counted
abbrev pub ConnectStep : Connect → Bool → Option ℕ → ℕ → State → Reaction → State → Type 0
ConnectStep c continued room now old r new =
    let answer = connack continued c.client old.kept.client in
    OpensIf (fits (limit_in c.properties) answer) old c answer room now r new

-- memory is wanted for a CONNACK that is sent, and for a will
abbrev pub ConnectWants : Connect → Bool → State → Type 0
ConnectWants c continued s = (fits (limit_in c.properties) (connack continued c.client s.kept.client) ≡ true) ⊎ IsSome c.will

-- a session that isn't continued is new
abbrev pub MayConnect : Bool → State → Type 0
MayConnect continued s = (continued ≡ true) ⊎ ((s.outbox ≡ empty_outbox) × (s.incoming ≡ []))

abbrev pub MayConnectIf : Bool → Option State → Type 0
MayConnectIf continued None = Unit {0}
MayConnectIf continued (Some s) = MayConnect continued s
