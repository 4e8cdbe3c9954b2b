-- What is sent in place of the handler inside.
use Rattle.std.specs.Prelude.{◌≡◌, ℕ, List}
use Rattle.door_packets.specs.Answers.{connack, disconnect, puback, pubrec, suback}

-- it turns a client away, ends a connection, or answers a PUBLISH at QoS 1 or 2 or a SUBSCRIBE
pub data Answer : Type 0 where
  TurnsAway : (code : ℕ) → Answer
  Ends : Answer
  Acknowledges : (identifier : ℕ) → Answer
  Receives : (identifier : ℕ) → Answer
  Subscribes : (identifier : ℕ) (codes : List ℕ) → Answer

abbrev pub answer_bytes : Answer → List ℕ
answer_bytes (TurnsAway code) = connack code
answer_bytes Ends = disconnect
answer_bytes (Acknowledges identifier) = puback identifier
answer_bytes (Receives identifier) = pubrec identifier
answer_bytes (Subscribes identifier codes) = suback identifier codes

abbrev pub IsAnswer : List ℕ → Type 0
IsAnswer bs = (a : Answer) × (bs ≡ answer_bytes a)
