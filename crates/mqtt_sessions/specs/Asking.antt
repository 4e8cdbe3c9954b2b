-- SUBSCRIBE and UNSUBSCRIBE, and their answers (MQTT 5.0, 3.8 to 3.11).
use Rattle.std.specs.Prelude.{◌≡◌, ℕ, true, cond, List, [], ◌∷◌, ◌⊎◌, length, replicate, Option, Some, None, is_some}
use Rattle.mqtt_fields.specs.Options.{no_local_of}
use Rattle.mqtt_packets.specs.declared.packet.Packet.{Packet}
use Rattle.mqtt_packets.specs.declared.subscribe.Subscribe.{Subscribe}
use Rattle.mqtt_packets.specs.declared.subscribe.SubscribeFilter.{SubscribeFilter}
use Rattle.mqtt_packets.specs.declared.unsubscribe.Unsubscribe.{Unsubscribe}
use Rattle.mqtt_topics.specs.Topics.{IsFilter, IsShared}
use Rattle.qos_handshakes.specs.Incoming.{opened}
use Rattle.mqtt_sessions.specs.declared.link.Asked.{Asked}
use Rattle.mqtt_sessions.specs.declared.link.Asked.TheVariants.{Subscribing, Unsubscribing}
use Rattle.mqtt_sessions.specs.declared.reaction.Ask.{Ask}
use Rattle.mqtt_sessions.specs.declared.reaction.Ask.TheVariants as asks
use Rattle.mqtt_sessions.specs.Answers.{suback, unsuback}
use Rattle.mqtt_sessions.specs.Reaction.{Reaction, Outcome, Comes, nothing, answered, refused, gives_out}
use Rattle.mqtt_sessions.specs.State.{Link, State}

-- a shared filter is asked for with No Local (3.8.3.1)
abbrev pub IsNoLocalShare : SubscribeFilter → Type 0
IsNoLocalShare f = (no_local_of f.options ≡ true) × IsFilter f.filter × IsShared f.filter

abbrev pub AsksNoLocalShare : List SubscribeFilter → Type 0
AsksNoLocalShare [] = ⊥
AsksNoLocalShare (f ∷ fs) = IsNoLocalShare f ⊎ AsksNoLocalShare fs

-- the connection waits for the codes of one packet
abbrev pub waiting_by : Option Link → Option Asked → Option Link
waiting_by None asked = None
waiting_by (Some l) asked = Some (record l { asked = asked })

abbrev pub asked_of : Option Link → Option Asked
asked_of None = None
asked_of (Some l) = l.asked

abbrev pub waiting_for : Option Asked → State → State
waiting_for asked s = record s { link = waiting_by s.link asked }

abbrev pub asking : Ask → Asked → State → Outcome
asking ask asked s = record { reaction = record nothing { ask = Some ask }; left = waiting_for (Some asked) s }

-- Packet Identifier in use, for each filter, or the codes are asked for
abbrev pub subscribed : Subscribe → ℕ → State → Outcome
subscribed p limit s =
    cond (is_some (opened p.identifier s.incoming)) (answered limit (suback p.identifier (replicate (length p.filters) 145)) None s)
    (asking asks.Subscribe Subscribing s)

abbrev pub unsubscribed : Unsubscribe → ℕ → State → Outcome
unsubscribed p limit s =
    cond (is_some (opened p.identifier s.incoming)) (answered limit (unsuback p.identifier (replicate (length p.filters) 145)) None s)
    (asking asks.Unsubscribe Unsubscribing s)

-- Protocol Error where a shared filter is asked for with No Local
abbrev pub SubscribeStep : Subscribe → ℕ → State → Reaction → State → Type 0
SubscribeStep p limit s r new =
    (AsksNoLocalShare p.filters × Comes (refused limit 130 s) r new)
    ⊎ ((AsksNoLocalShare p.filters → ⊥) × Comes (subscribed p limit s) r new)

-- ---- the codes, one for each filter in order
abbrev pub answer_of : Asked → ℕ → List ℕ → Packet
answer_of Subscribing id codes = suback id codes
answer_of Unsubscribing id codes = unsuback id codes

abbrev pub answer_by : Option Asked → ℕ → ℕ → List ℕ → State → Outcome
answer_by None limit id codes s = record { reaction = nothing; left = s }
answer_by (Some asked) limit id codes s = answered limit (answer_of asked id codes) None (waiting_for None s)

abbrev pub answer_on : Option Link → ℕ → List ℕ → State → Outcome
answer_on None id codes s = record { reaction = nothing; left = s }
answer_on (Some l) id codes s = answer_by l.asked l.limit id codes s

abbrev pub AnswerStep : ℕ → List ℕ → State → Reaction → State → Type 0
AnswerStep id codes s r new = Comes (answer_on s.link id codes s) r new

-- memory is wanted for an answer that is sent
abbrev pub AnswerWants : ℕ → List ℕ → State → Type 0
AnswerWants id codes s = gives_out (answer_on s.link id codes s).reaction ≡ true
