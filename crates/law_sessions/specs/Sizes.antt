-- The client's Maximum Packet Size (MQTT 5.0, 3.1.2.11.4).
use Rattle.std.specs.Prelude.{◌≡◌, ℕ, ◌⊎◌, true, List, [], ◌∷◌, Option, Some, None}
use Rattle.std.specs.List.{AllByRecursion}
use Rattle.mqtt_sessions.specs.declared.reaction.Output.{Output}
use Rattle.mqtt_sessions.specs.Answers.{fits, disconnect}
use Rattle.mqtt_sessions.specs.Reaction.{Reaction, packet_of}
use Rattle.mqtt_sessions.specs.State.{State, new_session}
use Rattle.law_sessions.specs.Runs.{Event, connects, queues, rooms, takes, answers, closes, ticks, finishes, loses, Step, Run, limit_after}

-- the moment at which an event's packets are written; SUBACK and UNSUBACK don't depend on it
abbrev pub moment_of : Event → ℕ
moment_of (connects c continued room now) = now
moment_of (queues d now) = now
moment_of (rooms bytes now) = now
moment_of (takes p now room) = now
moment_of (answers id codes) = 0
moment_of (closes now) = now
moment_of (ticks now) = now
moment_of (finishes now) = now
moment_of loses = 0

-- a DISCONNECT that is named
abbrev pub EndFits : ℕ → Option ℕ → Type 0
EndFits limit None = Unit {0}
EndFits limit (Some code) = (code ≡ 0) ⊎ (fits limit (disconnect code) ≡ true)

pub record AllFit (limit now : ℕ) (r : Reaction) : Type 0 where
  pub packets : AllByRecursion (λ (o : Output). fits limit (packet_of now o) ≡ true) r.packets
  pub last : EndFits limit r.end

abbrev pub SizesFit : ℕ → List Step → Type 0
SizesFit limit [] = Unit {0}
SizesFit limit (s ∷ ss) = AllFit (limit_after limit s.event) (moment_of s.event) s.reaction × SizesFit (limit_after limit s.event) ss

-- no packet is longer than the client of its connection takes
abbrev pub KeepsSizes : Type 0
KeepsSizes = (client : List ℕ) (steps : List Step) (end : State) → Run (new_session client) steps end → SizesFit 0 steps
