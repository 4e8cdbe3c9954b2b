-- PUBRELs at the beginning of a connection (MQTT 5.0, 4.4).
use Rattle.std.specs.Prelude.{◌≡◌, ℕ, ◌&&◌, Bool, false, cond, nat_lt, List, [], ◌∷◌, ◌++◌, Option, Some, None, is_some}
use Rattle.std.specs.Map.{values_of}
use Rattle.mqtt_packets.specs.declared.connect.Connect.{Connect}
use Rattle.mqtt_packets.specs.declared.packet.Packet.TheVariants as packets
use Rattle.qos_handshakes.specs.declared.copies.Entry.{Entry}
use Rattle.qos_handshakes.specs.Entries.{find_id}
use Rattle.qos_handshakes.specs.Outbox.{Sent, by_release, takes_pubrec, is_completed}
use Rattle.law_handshakes.specs.Lists.{without}
use Rattle.mqtt_sessions.specs.declared.reaction.Output.TheVariants.{Answer}
use Rattle.mqtt_sessions.specs.Answers.{connack}
use Rattle.mqtt_sessions.specs.Reaction.{Reaction, publishes_of, pubrels_of}
use Rattle.mqtt_sessions.specs.State.{State, new_session}
use Rattle.law_sessions.specs.Runs.{Event, connects, takes, Step, Reacts, Run}

-- the exchanges that are released
abbrev pub released_ids : State → List ℕ
released_ids s = values_of (by_release s.outbox.copies)

-- a PUBREC is due for the exchange
abbrev pub is_unreleased : Option Entry → Bool
is_unreleased None = false
is_unreleased (Some x) = takes_pubrec x.delivery.qos x.stage

-- each is there from its first PUBREC below 0x80 to its PUBCOMP, in the order of these PUBRECs, over all connections
abbrev pub released_after : State → Event → List ℕ
released_after s (takes (packets.Pubrec a) now room) =
    cond (is_some s.link && (is_unreleased (find_id a.identifier s.outbox.copies) && nat_lt a.reason 128)) (released_ids s ++ a.identifier ∷ []) (released_ids s)
released_after s (takes (packets.Pubcomp a) now room) = cond (is_some s.link && is_completed (find_id a.identifier s.outbox.copies)) (without a.identifier (released_ids s)) (released_ids s)
released_after s e = released_ids s

abbrev pub KeepsReleased : Type 0
KeepsReleased = (client : List ℕ) (before : List Step) (s : Step) (mid end : State) → Run (new_session client) before mid → Reacts mid s.event s.reaction end → released_ids end ≡ released_after mid s.event

-- a connection begins with CONNACK, then one PUBREL for each of them in that order, then PUBLISHes
abbrev pub KeepsReleasesFirst : Type 0
KeepsReleasesFirst = (old new : State) (c : Connect) (continued : Bool) (room : Option ℕ) (now : ℕ) (r : Reaction) → Reacts old (connects c continued room now) r new → r.end ≡ None
    → (sents : List Sent) × (r.packets ≡ Answer (connack continued c.client old.kept.client) ∷ pubrels_of (released_ids old) ++ publishes_of sents)
