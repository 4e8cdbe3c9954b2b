-- Nothing is held back, as events tell it (MQTT 5.0, 4.4 and 4.9).
use Rattle.std.specs.Prelude.{◌≡◌, ℕ, ◌≤◌, ◌⊎◌, Bool, true, false, List, [], ◌∷◌, ◌++◌, length, Option}
use Rattle.std.specs.List.{AllByRecursion}
use Rattle.mqtt_packets.specs.declared.connect.Connect.{Connect}
use Rattle.mqtt_message.specs.declared.delivery.Delivery.{Delivery}
use Rattle.law_handshakes.specs.Resends.{SentCopy}
use Rattle.mqtt_sessions.specs.Reaction.{Reaction}
use Rattle.mqtt_sessions.specs.State.{State, new_session}
use Rattle.law_sessions.specs.Quota.{is_none}
use Rattle.law_sessions.specs.Resends.{StaysConnected}
use Rattle.law_sessions.specs.Room.{IsLeft, room_over, uncounted}
use Rattle.law_sessions.specs.Runs.{connects, Step, Run}
use Rattle.law_deliveries.specs.Queue.{QueueOver, Told, told_nothing, told_over}
use Rattle.law_deliveries.specs.Unanswered.{IsGoing, OwedOver}

-- the quota is full; or nothing is to be sent again, and each identifier has an exchange that goes on or nothing waits
abbrev pub IsBusy : Told → List SentCopy → List Delivery → Type 0
IsBusy t owes queue = (t.maximum ≤ length t.flying) ⊎ ((owes ≡ []) × (((k : ℕ) → 1 ≤ k → k ≤ 65535 → is_none (t.exchanges k) ≡ false) ⊎ (queue ≡ [])))

-- what is still to be sent again on the connection that began after these events, what waits, and that neither is held back
pub record HoldsNothing (before here : List Step) : Type 0 where
  pub going : List SentCopy
  pub owes : List SentCopy
  pub queue : List Delivery
  pub was : IsGoing before going
  pub is : OwedOver (told_over told_nothing before) going here owes
  pub waits : QueueOver told_nothing [] (before ++ here) queue
  pub busy : IsBusy (told_over told_nothing (before ++ here)) owes queue

-- after each event on a connection that is open, where room is left or isn't counted
abbrev pub KeepsBusyTold : Type 0
KeepsBusyTold = (client : List ℕ) (before here : List Step) (c : Connect) (continued : Bool) (room : Option ℕ) (now : ℕ) (r : Reaction) (end : State) → AllByRecursion (λ (s : Step). StaysConnected s.event) here
    → Run (new_session client) (before ++ record { event = connects c continued room now; reaction = r } ∷ here) end
    → (told_over told_nothing (before ++ record { event = connects c continued room now; reaction = r } ∷ here)).on ≡ true → IsLeft (room_over uncounted (before ++ record { event = connects c continued room now; reaction = r } ∷ here)) → HoldsNothing before (record { event = connects c continued room now; reaction = r } ∷ here)
