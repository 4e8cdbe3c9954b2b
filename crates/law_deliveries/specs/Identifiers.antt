use Rattle.qos_handshakes.specs.Touched.{is_in}
-- Packet Identifiers of first sends, packet by packet (MQTT 5.0, 2.2.1).
use Rattle.std.specs.Prelude.{◌≡◌, ◌≢◌, ℕ, ◌<◌, ◌≤◌, Bool, true, false, List, [], ◌∷◌}
use Rattle.std.specs.List.{AllByRecursion}
use Rattle.qos_handshakes.specs.Outbox.{Sent}
use Rattle.law_handshakes.specs.Resends.{SentCopy}
use Rattle.mqtt_sessions.specs.State.{State, new_session}
use Rattle.law_sessions.specs.Exchanges.{Exchange, none}
use Rattle.law_sessions.specs.Quota.{all_after, is_none}
use Rattle.law_sessions.specs.Runs.{Step, Run}
use Rattle.law_sessions.specs.Sends.{Mark, sends, all_marks}
use Rattle.law_deliveries.specs.Again.{all_sent}
use Rattle.law_deliveries.specs.Released.{released_over}
use Rattle.law_deliveries.specs.Unanswered.{IsGoing}

-- What is sent first has an identifier from 1 to 65,535: no exchange of it goes on that this connection sent; and of each lesser one an
-- exchange goes on, as the packets tell it at that moment.
pub record TakesLeast (x : ℕ → Exchange) (sent : ℕ → Bool) (s : Sent) : Type 0 where
  pub first : 1 ≤ s.id
  pub last : s.id ≤ 65535
  pub free : sent s.id ≡ true → x s.id ≡ none
  pub least : (k : ℕ) → 1 ≤ k → k < s.id → is_none (x k) ≡ false

abbrev pub LeastBy : (ℕ → Exchange) → (ℕ → Bool) → Mark → Type 0
LeastBy x sent (sends s) = s.dup ≡ false → TakesLeast x sent s
LeastBy x sent m = Unit {0}

abbrev pub AllLeast : (ℕ → Exchange) → (ℕ → Bool) → List Mark → Type 0
AllLeast x sent [] = Unit {0}
AllLeast x sent (m ∷ ms) = LeastBy x sent m × AllLeast (all_after x m) (all_sent sent m) ms

abbrev pub KeepsLeastEach : Type 0
KeepsLeastEach = (client : List ℕ) (steps : List Step) (end : State) → Run (new_session client) steps end → AllLeast (λ id. none) (λ id. false) (all_marks false steps)

-- ---- what goes on, as events tell it
-- their identifiers are distinct, and from 1 to 65,535
abbrev pub AreDistinct : List SentCopy → Type 0
AreDistinct [] = Unit {0}
AreDistinct (x ∷ xs) = ((1 ≤ x.0) × (x.0 ≤ 65535)) × AllByRecursion (λ (y : SentCopy). y.0 ≢ x.0) xs × AreDistinct xs

-- what was sent first and has not ended, of which none has the identifier of an exchange that is released
pub record GoesApart (steps : List Step) : Type 0 where
  pub going : List SentCopy
  pub is : IsGoing steps going
  pub distinct : AreDistinct going
  pub apart : AllByRecursion (λ (x : SentCopy). is_in x.0 (released_over false [] steps) ≡ false) going

abbrev pub KeepsApart : Type 0
KeepsApart = (client : List ℕ) (steps : List Step) (end : State) → Run (new_session client) steps end → GoesApart steps
