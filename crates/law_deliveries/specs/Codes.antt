-- SUBACK and UNSUBACK, as events tell them (MQTT 5.0, 3.8 to 3.11).
use Rattle.std.specs.Prelude.{◌≡◌, ℕ, ◌&&◌, ◌⊎◌, Bool, false, cond, List, [], ◌∷◌, Option, Some, None, is_some, length}
use Rattle.std.specs.List.{AllByRecursion}
use Rattle.mqtt_packets.specs.declared.packet.Packet.{Packet}
use Rattle.mqtt_packets.specs.declared.packet.Packet.TheVariants as packets
use Rattle.mqtt_sessions.specs.declared.link.Asked.{Asked}
use Rattle.mqtt_sessions.specs.declared.link.Asked.TheVariants.{Subscribing, Unsubscribing}
use Rattle.mqtt_sessions.specs.declared.reaction.Output.{Output}
use Rattle.mqtt_sessions.specs.declared.reaction.Output.TheVariants.{Answer}
use Rattle.mqtt_sessions.specs.Asking.{answer_of}
use Rattle.mqtt_sessions.specs.Reaction.{Reaction, nothing}
use Rattle.mqtt_sessions.specs.State.{State, new_session}
use Rattle.law_sessions.specs.Runs.{Event, connects, takes, answers, closes, finishes, loses, Step, Run, connected_after}

-- a SUBSCRIBE or UNSUBSCRIBE that waits for its codes: its Packet Identifier, and how many filters it has
pub record Question : Type 0 where
  pub kind : Asked
  pub identifier : ℕ
  pub count : ℕ

abbrev pub question_in : Packet → Option Question
question_in (packets.Subscribe p) = Some (record { kind = Subscribing; identifier = p.identifier; count = length p.filters })
question_in (packets.Unsubscribe p) = Some (record { kind = Unsubscribing; identifier = p.identifier; count = length p.filters })
question_in p = None

abbrev pub later : Option Question → Option Question → Option Question
later None q = q
later (Some x) q = Some x

-- it is forgotten where its connection ends
abbrev pub unless_ended : Reaction → Option Question → Option Question
unless_ended r q = cond (is_some r.end) None q

-- it waits from the event by which the server is asked to that which answers it
abbrev pub question_after : Bool → Option Question → Event → Reaction → Option Question
question_after on q (connects c continued room now) r = None
question_after on q (takes p now room) r = unless_ended r (cond (on && is_some r.ask) (later (question_in p) q) q)
question_after on q (answers id codes) r = None
question_after on q (closes now) r = None
question_after on q (finishes now) r = None
question_after on q loses r = None
question_after on q e r = unless_ended r q

-- the server answers with the identifier that waits, and one code for each filter
abbrev pub IsMeant : Option Question → Event → Type 0
IsMeant (Some x) (answers id codes) = (id ≡ x.identifier) × (length codes ≡ x.count)
IsMeant q e = Unit {0}

-- what waits is answered by its own packet, or its connection ends where that is too long; where nothing waits, nothing is
abbrev pub AnswersIt : Option Question → List ℕ → Reaction → Type 0
AnswersIt None codes r = r ≡ nothing
AnswersIt (Some x) codes r = (length codes ≡ x.count) × ((r.packets ≡ Answer (answer_of x.kind x.identifier codes) ∷ []) ⊎ ((r.packets ≡ []) × (r.end ≡ Some 0)))

-- any other event brings SUBACK or UNSUBACK only to a packet that asks for one, with its identifier and one code for each filter;
-- the server isn't asked then
abbrev pub IsOwn : Asked → ℕ → ℕ → Event → Reaction → Type 0
IsOwn kind id count (takes p now room) r = (question_in p ≡ Some (record { kind = kind; identifier = id; count = count })) × (r.ask ≡ None)
IsOwn kind id count e r = ⊥

abbrev pub OwnCodes : Event → Reaction → Output → Type 0
OwnCodes e r (Answer (packets.Suback a)) = IsOwn Subscribing a.identifier (length a.reasons) e r
OwnCodes e r (Answer (packets.Unsuback a)) = IsOwn Unsubscribing a.identifier (length a.reasons) e r
OwnCodes e r o = Unit {0}

abbrev pub CodesBy : Option Question → Event → Reaction → Type 0
CodesBy q (answers id codes) r = IsMeant q (answers id codes) → AnswersIt q codes r
CodesBy q e r = AllByRecursion (OwnCodes e r) r.packets

abbrev pub AllCodes : Bool → Option Question → List Step → Type 0
AllCodes on q [] = Unit {0}
AllCodes on q (s ∷ ss) = CodesBy q s.event s.reaction × AllCodes (connected_after on s.event s.reaction) (question_after on q s.event s.reaction) ss

-- A SUBSCRIBE or UNSUBSCRIBE is answered once, after it came, by its own packet, with its identifier and one code for each filter,
-- where the server answers with these.
abbrev pub KeepsAnswers : Type 0
KeepsAnswers = (client : List ℕ) (steps : List Step) (end : State) → Run (new_session client) steps end → AllCodes false None steps
