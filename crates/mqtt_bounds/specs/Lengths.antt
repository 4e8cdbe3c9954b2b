-- Lengths that no packet has (MQTT 5.0, 1.5.5 and 2.1.4).
use Rattle.std.specs.Prelude.{◌≡◌, ℕ, ◌≤◌, List, [], ◌∷◌, ◌++◌, length, Some}
use Rattle.std.specs.List.{AllByRecursion}
use Rattle.mqtt_packets.specs.declared.fault.PacketFault.TheVariants.{Malformed}
use Rattle.mqtt_packets.specs.Stream.{cut}

-- bytes of a length that another one follows: each has its highest bit set
abbrev pub GoOn : List ℕ → Type 0
GoOn high = AllByRecursion (λ b. 128 ≤ b) high

-- a stream is at fault at its front: it has no packet, and all of it is the rest
abbrev pub IsMalformed : ℕ → List ℕ → Type 0
IsMalformed limit stream = cut limit stream ≡ record { packets = []; rest = stream; fault = Some Malformed }

-- a first byte, and then four bytes of a length that goes on, so that it has five or more
abbrev pub LongLengthsAreRefused : Type 0
LongLengthsAreRefused = (limit first : ℕ) (high more : List ℕ) → length high ≡ 4 → GoOn high → IsMalformed limit (first ∷ high ++ more)

-- or one to three such bytes, and then a last byte 0, which stands for nothing
abbrev pub PaddedLengthsAreRefused : Type 0
PaddedLengthsAreRefused = (limit first : ℕ) (high more : List ℕ) → 1 ≤ length high → length high ≤ 3 → GoOn high → IsMalformed limit (first ∷ high ++ 0 ∷ more)
