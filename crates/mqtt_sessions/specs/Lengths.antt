-- How long the packets are that a server answers with.
use Rattle.std.specs.Prelude.{◌≡◌, ℕ, ◌+◌, ◌≤◌, ◌==◌, cond, nat_le, nat_lt, List, [], ◌∷◌, length}
use Rattle.mqtt_fields.specs.Numbers.{vbi}
use Rattle.mqtt_sessions.specs.declared.answers.Measured.{Measured}
use Rattle.mqtt_sessions.specs.Answers.{fits}

-- its length tells whether a client takes it, of which none takes more than 268,435,460 bytes (MQTT 5.0, 2.1.4)
abbrev pub IsMeasured : Measured → Type 0
IsMeasured m = (limit : ℕ) → limit ≤ 268435460 → nat_le m.length limit ≡ fits limit m.packet

-- an acknowledgement leaves out a code that is 0 (3.4.2.1)
abbrev pub ack_length : ℕ → ℕ
ack_length code = cond (code == 0) 4 5

-- a list of so many codes; more than any packet has are as long as they are many
abbrev pub list_length : ℕ → ℕ
list_length count = cond (nat_lt 268435460 count) count (1 + length (vbi.bytes (3 + count)) + (3 + count))

-- what an Assigned Client Identifier adds to the properties of a CONNACK (3.2.2.3.7)
abbrev pub assigned_length : List ℕ → List ℕ → ℕ
assigned_length [] client = 3 + length client
assigned_length (b ∷ bs) client = 0
