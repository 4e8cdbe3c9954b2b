-- Packet Identifiers and Receive Maximum (MQTT 5.0, 2.2.1 and 4.9).
use Rattle.std.specs.Prelude.{◌≡◌, ℕ, ◌<◌, ◌≤◌, true, false, List, [], ◌∷◌, ◌++◌, IsSome}
use Rattle.std.specs.List.{AllByRecursion}
use Rattle.qos_handshakes.specs.Entries.{find_id}
use Rattle.qos_handshakes.specs.Outbox.{Sent, in_flight}
use Rattle.law_handshakes.specs.Numbers.{AreNumbered}
use Rattle.law_handshakes.specs.Quota.{CannotSend}
use Rattle.mqtt_sessions.specs.State.{State, has_room, new_session}
use Rattle.law_sessions.specs.Runs.{Step, Run}
use Rattle.law_sessions.specs.Sends.{sent_in}

-- unfinished identifiers are distinct, and from 1 to 65,535
abbrev pub KeepsNumbers : Type 0
KeepsNumbers = (client : List ℕ) (steps : List Step) (end : State) → Run (new_session client) steps end → AreNumbered end.outbox.copies

-- under what a step sends first every lesser identifier is unfinished after it too
abbrev pub KeepsLeast : Type 0
KeepsLeast = (client : List ℕ) (steps : List Step) (s : Step) (end : State) → Run (new_session client) (steps ++ s ∷ []) end
    → AllByRecursion (λ (x : Sent). x.dup ≡ false → (k : ℕ) → 1 ≤ k → k < x.id → IsSome (find_id k end.outbox.copies)) (sent_in s.reaction.packets)

-- the exchanges whose PUBLISH the connection sent are at most Receive Maximum
abbrev pub KeepsQuota : Type 0
KeepsQuota = (client : List ℕ) (steps : List Step) (end : State) → Run (new_session client) steps end → in_flight end.outbox.copies ≤ end.outbox.maximum

-- where the client is connected, and room is left or isn't counted, the quota is full; or no resend is owed, and no identifier is free or nothing waits
abbrev pub KeepsBusy : Type 0
KeepsBusy = (client : List ℕ) (steps : List Step) (end : State) → Run (new_session client) steps end → IsSome end.link → has_room end.room ≡ true → CannotSend end.outbox
