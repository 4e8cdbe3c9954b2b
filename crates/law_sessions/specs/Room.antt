-- Room for PUBLISHes at QoS 1 and 2, as events tell it.
use Rattle.std.specs.Prelude.{◌≡◌, ℕ, ◌+◌, ◌-◌, ◌<◌, false, List, [], ◌∷◌, Option, Some, None}
use Rattle.qos_handshakes.specs.Length.{length_of}
use Rattle.qos_handshakes.specs.Outbox.{Outbox, Sent}
use Rattle.mqtt_sessions.specs.Reaction.{Reaction, says, publishes_of}
use Rattle.mqtt_sessions.specs.State.{State, has_room, new_session}
use Rattle.law_sessions.specs.Runs.{Event, connects, rooms, loses, Step, Reacts, Run}
use Rattle.law_sessions.specs.Sends.{sent_in}
use Rattle.law_sessions.specs.Sizes.{moment_of}

-- how many bytes a connection was given last, where that is counted, and how many its PUBLISHes took since
pub record Room : Type 0 where
  pub given : Option ℕ
  pub taken : ℕ

abbrev pub uncounted : Room
uncounted = record { given = None; taken = 0 }

-- a connection begins with its own room, or none is counted; what it is given later replaces it; a crash ends it
abbrev pub room_by : Room → Event → Room
room_by m (connects c continued room now) = record { given = room; taken = 0 }
room_by m (rooms bytes now) = record { given = Some bytes; taken = 0 }
room_by m loses = uncounted
room_by m e = m

-- a PUBLISH takes its own length
abbrev pub room_with : Room → ℕ → Sent → Room
room_with m now s = record m { taken = m.taken + length_of now s.copy }

abbrev pub room_with_all : Room → ℕ → List Sent → Room
room_with_all m now [] = m
room_with_all m now (s ∷ ss) = room_with_all (room_with m now s) now ss

abbrev pub room_told : Room → Step → Room
room_told m s = room_with_all (room_by m s.event) (moment_of s.event) (sent_in s.reaction.packets)

abbrev pub room_over : Room → List Step → Room
room_over m [] = m
room_over m (s ∷ ss) = room_over (room_told m s) ss

-- it isn't counted, or less was taken than was given
abbrev pub IsLeftOf : Option ℕ → ℕ → Type 0
IsLeftOf None taken = Unit {0}
IsLeftOf (Some given) taken = taken < given

abbrev pub IsLeft : Room → Type 0
IsLeft m = IsLeftOf m.given m.taken

-- each PUBLISH is sent where some is left
abbrev pub SentsFit : Room → ℕ → List Sent → Type 0
SentsFit m now [] = Unit {0}
SentsFit m now (s ∷ ss) = IsLeft m × SentsFit (room_with m now s) now ss

abbrev pub AllFitRoom : Room → List Step → Type 0
AllFitRoom m [] = Unit {0}
AllFitRoom m (s ∷ ss) = SentsFit (room_by m s.event) (moment_of s.event) (sent_in s.reaction.packets) × AllFitRoom (room_told m s) ss

-- Since room was given last, the PUBLISHes before each one take together less than was given: what is sent passes it by no more
-- than one.
abbrev pub KeepsRoom : Type 0
KeepsRoom = (client : List ℕ) (steps : List Step) (end : State) → Run (new_session client) steps end → AllFitRoom uncounted steps

-- ---- what a session holds of it
abbrev pub left_of : Option ℕ → ℕ → Option ℕ
left_of None taken = None
left_of (Some given) taken = Some (given - taken)

-- what was given last, less what was taken since
abbrev pub KeepsLeft : Type 0
KeepsLeft = (client : List ℕ) (steps : List Step) (end : State) → Run (new_session client) steps end → let m = room_over uncounted steps in end.room ≡ left_of m.given m.taken

-- it isn't counted where a connection was never told
abbrev pub KeepsUntold : Type 0
KeepsUntold = (client : List ℕ) (steps : List Step) (end : State) → Run (new_session client) steps end → (room_over uncounted steps).given ≡ None → end.room ≡ None

-- ---- one event
-- the room with which an event begins
abbrev pub room_at : Option ℕ → Event → Option ℕ
room_at room (connects c continued given now) = given
room_at room (rooms bytes now) = Some bytes
room_at room loses = None
room_at room e = room

-- where none is left an event sends no PUBLISH at QoS 1 or 2
abbrev pub KeepsWaiting : Type 0
KeepsWaiting = (old new : State) (e : Event) (r : Reaction) → Reacts old e r new → has_room (room_at old.room e) ≡ false → sent_in r.packets ≡ []

-- room changes nothing but what was sent, and what is left of it; it brings PUBLISHes of the queue alone, or none without a connection
pub record OnlySends (old : State) (r : Reaction) (new : State) : Type 0 where
  pub after : Outbox
  pub left : Option ℕ
  pub sents : List Sent
  pub is : new ≡ record old { outbox = after; room = left }
  pub reacts : r ≡ says (publishes_of sents)
  pub unconnected : old.link ≡ None → (sents ≡ []) × (after ≡ old.outbox)

abbrev pub KeepsRest : Type 0
KeepsRest = (old new : State) (bytes now : ℕ) (r : Reaction) → Reacts old (rooms bytes now) r new → OnlySends old r new
