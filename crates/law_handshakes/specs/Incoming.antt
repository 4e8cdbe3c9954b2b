-- Messages that come once (MQTT 5.0, 4.3.3).
use Rattle.std.specs.Prelude.{◌≡◌, ℕ, ◌≤◌, ◌==◌, Bool, true, false, cond, List, [], ◌∷◌}
use Rattle.qos_handshakes.specs.declared.answers.Ack.{Ack}
use Rattle.qos_handshakes.specs.declared.answers.Ack.TheVariants.{Done, Unknown}
use Rattle.qos_handshakes.specs.declared.answers.In.{In}
use Rattle.qos_handshakes.specs.declared.answers.In.TheVariants.{New, Repeat, InUse}
use Rattle.qos_handshakes.specs.Incoming.{Received, Publish2Step, Publish1Answer, ReleaseStep, of_before, opened_here}

-- one call, with its answer; `restarted` is a new connection, also after a crash
pub data Arrival : Type 0 where
  published2 : ℕ → In → Arrival
  published1 : ℕ → In → Arrival
  released : ℕ → Ack → Arrival
  restarted : Arrival

-- what holds before such a call and after it
abbrev pub Arrives : Received → Arrival → Received → Type 0
Arrives old (published2 id answer) new = Publish2Step old id answer new
Arrives old (published1 id answer) new = Publish1Answer old id answer × (new ≡ old)
Arrives old (released id answer) new = ReleaseStep old id answer new
Arrives old restarted new = new ≡ of_before old

-- calls one after the other
abbrev pub ArriveAll : Received → List Arrival → Received → Type 0
ArriveAll old [] new = new ≡ old
ArriveAll old (a ∷ rest) new = (mid : Received) × Arrives old a mid × ArriveAll mid rest new

-- whether the exchange of an identifier is open: from the PUBLISH that is new to its PUBREL
abbrev pub is_open_after : ℕ → Bool → Arrival → Bool
is_open_after id is (published2 i New) = cond (i == id) true is
is_open_after id is (released i Done) = cond (i == id) false is
is_open_after id is a = is

-- what is answered under the identifier, where its exchange is open or not
abbrev pub AnswersBy : Bool → Arrival → Type 0
AnswersBy is (published2 i New) = is ≡ false
AnswersBy is (published2 i Repeat) = is ≡ true
AnswersBy is (published1 i New) = is ≡ false
AnswersBy is (published1 i InUse) = is ≡ true
AnswersBy is (released i Done) = is ≡ true
AnswersBy is (released i Unknown) = is ≡ false
AnswersBy is a = Unit {0}

abbrev pub identifier_in : ℕ → Arrival → ℕ
identifier_in id (published2 i answer) = i
identifier_in id (published1 i answer) = i
identifier_in id (released i answer) = i
identifier_in id restarted = id

abbrev pub IsOnce : ℕ → Bool → List Arrival → Type 0
IsOnce id is [] = Unit {0}
IsOnce id is (a ∷ rest) = (identifier_in id a ≡ id → AnswersBy is a) × IsOnce id (is_open_after id is a) rest

-- From the PUBLISH that opens an exchange to its PUBREL, over all connections, a PUBLISH under its identifier is a repeat,
-- so its message is new exactly once; and there alone is the identifier in use, and its PUBREL known.
abbrev pub KeepsOnce : Type 0
KeepsOnce = (id : ℕ) (arrivals : List Arrival) (end : Received) → ArriveAll [] arrivals end → IsOnce id false arrivals

-- at most 100 exchanges are open that this connection opened (MQTT 5.0, 3.2.2.3.3)
abbrev pub KeepsMaximum : Type 0
KeepsMaximum = (arrivals : List Arrival) (end : Received) → ArriveAll [] arrivals end → opened_here end ≤ 100
