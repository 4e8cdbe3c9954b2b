-- When nothing is sent, and nothing else.
use Rattle.std.specs.Prelude.{◌≡◌, ℕ, List, [], ◌∷◌, ◌++◌, IsSome}
use Rattle.std.specs.List.{AllByRecursion}
use Rattle.mqtt_sessions.specs.declared.reaction.Output.{Output}
use Rattle.mqtt_sessions.specs.declared.reaction.Output.TheVariants.{Publish, Answer}
use Rattle.mqtt_sessions.specs.Reaction.{Reaction}
use Rattle.mqtt_sessions.specs.State.{State, new_session}
use Rattle.law_sessions.specs.Runs.{Event, connects, queues, rooms, takes, answers, closes, finishes, loses, Step, Reacts, Run}

-- an event that ends the connection, or finds that it is over
abbrev pub Closes : Event → Reaction → Type 0
Closes (closes now) r = Unit {0}
Closes (finishes now) r = Unit {0}
Closes loses r = Unit {0}
Closes e r = IsSome r.end

-- none of the connection's beginning
abbrev pub BeginsNone : Event → Type 0
BeginsNone (connects c continued room now) = ⊥
BeginsNone e = Unit {0}

abbrev pub IsSilent : Step → Type 0
IsSilent s = s.reaction.packets ≡ []

-- Nothing is sent after a close until the next connection begins, nor by the event that closes, but for the DISCONNECT that
-- it may name.
abbrev pub KeepsSilence : Type 0
KeepsSilence = (client : List ℕ) (before after : List Step) (s : Step) (end : State) → Run (new_session client) (before ++ s ∷ after) end → Closes s.event s.reaction
    → AllByRecursion (λ (t : Step). BeginsNone t.event) after → IsSilent s × AllByRecursion IsSilent after

abbrev pub IsPublish : Output → Type 0
IsPublish (Publish p) = Unit {0}
IsPublish (Answer p) = ⊥

-- A delivery that is queued and room bring PUBLISHes alone, and a close, what is due, the end of a session and a crash bring no packet.
-- What a CONNECT, another packet and codes bring is said elsewhere, packet by packet.
abbrev pub SendsOnly : Event → List Output → Type 0
SendsOnly (connects c continued room now) ps = Unit {0}
SendsOnly (takes p now room) ps = Unit {0}
SendsOnly (answers id codes) ps = Unit {0}
SendsOnly (queues d now) ps = AllByRecursion IsPublish ps
SendsOnly (rooms bytes now) ps = AllByRecursion IsPublish ps
SendsOnly e ps = ps ≡ []

abbrev pub KeepsNothingElse : Type 0
KeepsNothingElse = (old new : State) (e : Event) (r : Reaction) → Reacts old e r new → SendsOnly e r.packets
