-- What a connection sends, and what it sends again, once (MQTT 5.0, 4.4).
use Rattle.std.specs.Prelude.{◌≡◌, ℕ, ◌==◌, ◌&&◌, Bool, true, false, cond, List, [], ◌∷◌}
use Rattle.mqtt_sessions.specs.State.{State, new_session}
use Rattle.law_sessions.specs.Runs.{Step, Run}
use Rattle.law_sessions.specs.Sends.{Mark, begins, crashes, sends, all_marks}

-- whether a PUBLISH was sent again under the identifier since the connection began
abbrev pub again_after : ℕ → Bool → Mark → Bool
again_after id was (begins maximum) = false
again_after id was crashes = false
again_after id was (sends s) = cond (s.dup && (s.id == id)) true was
again_after id was m = was

abbrev pub IsFirstAgain : ℕ → Bool → Mark → Type 0
IsFirstAgain id was (sends s) = s.dup ≡ true → s.id ≡ id → was ≡ false
IsFirstAgain id was m = Unit {0}

abbrev pub AllFirstAgain : ℕ → Bool → List Mark → Type 0
AllFirstAgain id was [] = Unit {0}
AllFirstAgain id was (m ∷ ms) = IsFirstAgain id was m × AllFirstAgain id (again_after id was m) ms

-- of each identifier a connection sends at most one PUBLISH again
abbrev pub KeepsResendsOnce : Type 0
KeepsResendsOnce = (client : List ℕ) (id : ℕ) (steps : List Step) (end : State) → Run (new_session client) steps end → AllFirstAgain id false (all_marks false steps)

-- ---- whether the connection sent a PUBLISH under an identifier, first or again
abbrev pub sent_after : ℕ → Bool → Mark → Bool
sent_after id sent (begins maximum) = false
sent_after id sent crashes = false
sent_after id sent (sends s) = cond (s.id == id) true sent
sent_after id sent m = sent

abbrev pub sent_over : ℕ → Bool → List Mark → Bool
sent_over id sent [] = sent
sent_over id sent (m ∷ ms) = sent_over id (sent_after id sent m) ms

-- of all identifiers
abbrev pub all_sent : (ℕ → Bool) → Mark → ℕ → Bool
all_sent sent m = λ id. sent_after id (sent id) m

abbrev pub all_sent_over : (ℕ → Bool) → List Mark → ℕ → Bool
all_sent_over sent ms = λ id. sent_over id (sent id) ms
