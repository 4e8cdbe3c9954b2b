-- Packet Identifiers that are in use, and SUBSCRIBEs and UNSUBSCRIBEs under them (MQTT 5.0, 2.2.1, 3.9.3, 3.11.3 and 4.3.3).
use Rattle.std.specs.Prelude.{◌≡◌, ◌⊎◌, ℕ, Bool, true, false, cond, List, [], ◌∷◌, ◌++◌, Some, None, replicate}
use Rattle.mqtt_packets.specs.declared.packet.Packet.{Packet}
use Rattle.mqtt_packets.specs.declared.packet.Packet.TheVariants as packets
use Rattle.mqtt_sessions.specs.declared.link.Asked.{Asked}
use Rattle.mqtt_sessions.specs.declared.link.Asked.TheVariants.{Subscribing, Unsubscribing}
use Rattle.mqtt_sessions.specs.declared.reaction.Ask.{Ask}
use Rattle.mqtt_sessions.specs.declared.reaction.Ask.TheVariants as asks
use Rattle.mqtt_sessions.specs.declared.reaction.Output.TheVariants.{Answer}
use Rattle.mqtt_sessions.specs.Asking.{AsksNoLocalShare, answer_of}
use Rattle.mqtt_sessions.specs.Reaction.{Reaction}
use Rattle.law_sessions.specs.Arrivals.{is_open_after}
use Rattle.law_sessions.specs.Runs.{Step, connected_after, takes}
use Rattle.law_deliveries.specs.Codes.{Question, question_in}
use Rattle.node_work.specs.Acts.{Act}
use Rattle.node_work.specs.Held.Sessions.{SessionStep}
use Rattle.law_runs.specs.StepPublishing.{AnswersWith}
use Rattle.law_runs.specs.StepSending.{IsIn}
use Rattle.cluster_play.specs.Worlds.{World}
use Rattle.cluster_play.specs.Runs.{Played}
use Rattle.cluster_play.specs.Histories.{Reached}
use Rattle.law_runs.specs.Publishing.{connected_over, events_before}
use Rattle.law_runs.specs.Staying.{CallsSession}

-- an exchange of the client is open under an identifier from the PUBLISH at QoS 2 whose message is passed on to its PUBREL
abbrev pub open_over : Bool → ℕ → Bool → List Step → Bool
open_over on id is [] = is
open_over on id is (s ∷ ss) = open_over (connected_after on s.event s.reaction) id (is_open_after on id is s.event s.reaction) ss

-- whether one is after these events of its session
abbrev pub is_in_use : ℕ → List Step → Bool
is_in_use id steps = open_over false id false steps

-- a call takes a SUBSCRIBE or an UNSUBSCRIBE
pub record TakesRequest (s : SessionStep) (q : Question) : Type 0 where
  pub packet : Packet
  pub now : ℕ
  pub room : Bool
  pub event : s.event ≡ takes packet now room
  pub question : question_in packet ≡ Some q

-- a shared subscription isn't asked for with No Local, which is a Protocol Error (3.8.3.1)
abbrev pub KeepsRules : Packet → Type 0
KeepsRules (packets.Subscribe p) = ¬ AsksNoLocalShare p.filters
KeepsRules p = Unit {0}

-- what a node is asked for by one
abbrev pub ask_for : Asked → Ask
ask_for Subscribing = asks.Subscribe
ask_for Unsubscribing = asks.Unsubscribe

-- nothing is asked for, and each filter is answered by Packet Identifier in use; where that is longer than the client takes, its
-- connection ends instead
abbrev pub IsRefusedInUse : Question → Reaction → Type 0
IsRefusedInUse q r =
    (r.ask ≡ None)
    × ((r.packets ≡ Answer (answer_of q.kind q.identifier (replicate q.count 145)) ∷ []) ⊎ ((r.packets ≡ []) × (r.end ≡ Some 0)))

-- nothing is told yet, and the node is asked to do it
abbrev pub IsAsked : Question → Reaction → Type 0
IsAsked q r = (r.packets ≡ []) × (r.ask ≡ Some (ask_for q.kind))

-- of each SUBSCRIBE and UNSUBSCRIBE on an open connection, by the events of its session before it
abbrev pub InUseIsRefused : Type 0
InUseIsRefused =
    (run later : List Played) (m : Played) (w : World) → Reached (run ++ m ∷ later) w
    → (before : List Act) (c : CallsSession m before) (q : Question) (t : TakesRequest c.step q) → connected_over false (events_before run m before c) ≡ true → KeepsRules t.packet
    → cond (is_in_use q.identifier (events_before run m before c)) (IsRefusedInUse q c.step.reaction) (IsAsked q c.step.reaction)

-- the call takes the packet that is answered, an exchange is open under its identifier, and each of its filters has that code
pub record IsOfUse (run : List Played) (m : Played) (before : List Act) (c : CallsSession m before) (kind : Asked) (id : ℕ) (codes : List ℕ) : Type 0 where
  pub question : Question
  pub takes : TakesRequest c.step question
  pub kind_is : question.kind ≡ kind
  pub identifier : question.identifier ≡ id
  pub used : is_in_use id (events_before run m before c) ≡ true
  pub all : codes ≡ replicate question.count 145

-- of each SUBACK and UNSUBACK with Packet Identifier in use among its codes
abbrev pub InUseIsTold : Type 0
InUseIsTold =
    (run later : List Played) (m : Played) (w : World) → Reached (run ++ m ∷ later) w
    → (before : List Act) (c : CallsSession m before) (kind : Asked) (id : ℕ) (codes : List ℕ) → AnswersWith (answer_of kind id codes) c.step.reaction.packets → IsIn 145 codes
    → IsOfUse run m before c kind id codes
