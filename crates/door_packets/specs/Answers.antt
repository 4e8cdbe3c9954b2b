-- Packets that are sent in place of the handler inside, as bytes. None has properties, and each says Not authorized but for CONNACK.
use Rattle.std.specs.Prelude.{ℕ, ◌+◌, nat_lt, List, [], ◌∷◌, ◌++◌, length, if◌then◌else◌}
use Rattle.std.specs.Int.{w16, to_be_bytes}
use Rattle.mqtt_fields.specs.Numbers.{vbi}

-- 3.4 and 3.5: three bytes behind the Remaining Length, the Packet Identifier and the Reason Code
abbrev pub ack : ℕ → ℕ → List ℕ
ack first identifier = first ∷ 3 ∷ to_be_bytes w16 identifier ++ 135 ∷ []

abbrev pub puback : ℕ → List ℕ
puback identifier = ack 64 identifier

abbrev pub pubrec : ℕ → List ℕ
pubrec identifier = ack 80 identifier

-- 3.2: no session is present, the code, no properties
abbrev pub connack : ℕ → List ℕ
connack code = 32 ∷ 3 ∷ 0 ∷ code ∷ 0 ∷ []

-- 3.14
abbrev pub disconnect : List ℕ
disconnect = 224 ∷ 1 ∷ 135 ∷ []

-- 3.9: Packet Identifier, no properties, a code for each filter; nothing of more codes than a packet takes
abbrev pub suback : ℕ → List ℕ → List ℕ
suback identifier codes =
    if nat_lt (length codes) 268435453 then 144 ∷ vbi.bytes (3 + length codes) ++ to_be_bytes w16 identifier ++ 0 ∷ codes else []
