-- What a call of a session answers.
use Rattle.std.specs.Prelude.{◌≡◌, ◌||◌, ℕ, Bool, true, false, cond, List, [], ◌∷◌, Option, Some, None}
use Rattle.std.specs.List.{AllByRecursion}
use Rattle.mqtt_packets.specs.declared.packet.Packet.{Packet}
use Rattle.mqtt_packets.specs.declared.packet.Packet.TheVariants as packets
use Rattle.mqtt_packets.specs.Written.{HasSpelling}
use Rattle.mqtt_message.specs.Sent.{sent}
use Rattle.qos_handshakes.specs.Outbox.{Sent}
use Rattle.mqtt_sessions.specs.declared.reaction.Ask.{Ask}
use Rattle.mqtt_sessions.specs.declared.reaction.Ask.TheVariants as asks
use Rattle.mqtt_sessions.specs.declared.reaction.Output.{Output}
use Rattle.mqtt_sessions.specs.declared.reaction.Output.TheVariants.{Publish, Answer}
use Rattle.mqtt_sessions.specs.Answers.{fits, pubrel, disconnect}
use Rattle.mqtt_sessions.specs.State.{State, cut}

pub record Reaction : Type 0 where
  pub packets : List Output
  pub ask : Option Ask
  pub end : Option ℕ
  pub over : Bool
  pub full : Bool

abbrev pub nothing : Reaction
nothing = record { packets = []; ask = None; end = None; over = false; full = false }

abbrev pub says : List Output → Reaction
says packets = record nothing { packets = packets }

-- the connection closes, after a DISCONNECT with the code where that fits
abbrev pub closing : ℕ → ℕ → Reaction
closing limit code = record nothing { end = Some (cond (fits limit (disconnect code)) code 0) }

-- the packet that is sent
abbrev pub packet_of : ℕ → Output → Packet
packet_of now (Publish p) = packets.Publish (sent p.delivery now p.dup p.id)
packet_of now (Answer p) = p

-- each packet has a spelling, where it is sent at this moment
abbrev pub AreSpelled : ℕ → List Output → Type 0
AreSpelled now os = AllByRecursion (λ o. HasSpelling (packet_of now o)) os

-- ---- what goes out: a packet, or a message that is passed on
abbrev pub sends : List Output → Bool
sends [] = false
sends (o ∷ os) = true

abbrev pub passes : Option Ask → Bool
passes None = false
passes (Some (asks.Pass m)) = true
passes (Some asks.Subscribe) = false
passes (Some asks.Unsubscribe) = false

abbrev pub gives_out : Reaction → Bool
gives_out r = sends r.packets || passes r.ask

-- ---- PUBLISHes at QoS 1 and 2, and PUBRELs
abbrev pub publish_of : Sent → Output
publish_of s = Publish (record { id = s.id; dup = s.dup; delivery = s.copy })

abbrev pub publishes_of : List Sent → List Output
publishes_of [] = []
publishes_of (s ∷ ss) = publish_of s ∷ publishes_of ss

abbrev pub pubrels_of : List ℕ → List Output
pubrels_of [] = []
pubrels_of (id ∷ ids) = Answer (pubrel id 0) ∷ pubrels_of ids

-- ---- a reaction, and what is left
pub record Outcome : Type 0 where
  pub reaction : Reaction
  pub left : State

abbrev pub Comes : Outcome → Reaction → State → Type 0
Comes o r new = (r ≡ o.reaction) × (new ≡ o.left)

-- an answer that is too large isn't sent, and the connection closes
abbrev pub answered : ℕ → Packet → Option Ask → State → Outcome
answered limit p ask s =
    cond (fits limit p) (record { reaction = record nothing { packets = Answer p ∷ []; ask = ask }; left = s })
    (record { reaction = record nothing { ask = ask; end = Some 0 }; left = cut s })

-- a client that breaks a rule
abbrev pub refused : ℕ → ℕ → State → Outcome
refused limit code s = record { reaction = closing limit code; left = cut s }
