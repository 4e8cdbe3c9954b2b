-- Receive Maximum, as events and reactions tell it (MQTT 5.0, 4.9).
use Rattle.std.specs.Prelude.{ℕ, ◌≤◌, Bool, true, false, cond, List, [], ◌∷◌, ◌++◌, length}
use Rattle.law_handshakes.specs.Lists.{without}
use Rattle.mqtt_sessions.specs.State.{State, new_session}
use Rattle.law_sessions.specs.Runs.{Step, Run}
use Rattle.law_sessions.specs.Sends.{Mark, begins, crashes, acks, recs, comps, sends, all_marks}
use Rattle.law_sessions.specs.Exchanges.{Exchange, none, published, released, after_puback, after_pubrec, after_pubcomp, exchange_after}

abbrev pub is_none : Exchange → Bool
is_none none = true
is_none (published d) = false
is_none released = false

-- the exchanges of all identifiers
abbrev pub all_after : (ℕ → Exchange) → Mark → ℕ → Exchange
all_after x m = λ id. exchange_after id (x id) m

abbrev pub unless_over : Exchange → ℕ → List ℕ → List ℕ
unless_over x id flying = cond (is_none x) (without id flying) flying

-- the identifiers of the PUBLISHes that the connection sent, first or again, and whose exchanges are not over
abbrev pub flying_after : (ℕ → Exchange) → List ℕ → Mark → List ℕ
flying_after x flying (begins maximum) = []
flying_after x flying crashes = []
flying_after x flying (acks id) = unless_over (after_puback (x id)) id flying
flying_after x flying (recs id reason) = unless_over (after_pubrec reason (x id)) id flying
flying_after x flying (comps id) = unless_over (after_pubcomp (x id)) id flying
flying_after x flying (sends s) = flying ++ s.id ∷ []

abbrev pub maximum_after : ℕ → Mark → ℕ
maximum_after maximum (begins m) = m
maximum_after maximum crashes = 0
maximum_after maximum m = maximum

abbrev pub FliesWithin : (ℕ → Exchange) → List ℕ → ℕ → List Mark → Type 0
FliesWithin x flying maximum [] = Unit {0}
FliesWithin x flying maximum (m ∷ ms) = (length (flying_after x flying m) ≤ maximum_after maximum m) × FliesWithin (all_after x m) (flying_after x flying m) (maximum_after maximum m) ms

-- after each packet they are at most the Receive Maximum of the connection's CONNECT
abbrev pub KeepsWithin : Type 0
KeepsWithin = (client : List ℕ) (steps : List Step) (end : State) → Run (new_session client) steps end → FliesWithin (λ id. none) [] 0 (all_marks false steps)
