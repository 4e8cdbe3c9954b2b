-- When a message is alive (MQTT 5.0, 3.3.2.3.3).
use Rattle.std.specs.Prelude.{ℕ, nat_lt, Bool, true, Option, Some, None}
use Rattle.mqtt_message.specs.declared.message.Message.{Message}

abbrev pub is_before : ℕ → Option ℕ → Bool
is_before now None = true
is_before now (Some deadline) = nat_lt now deadline

-- it has no deadline, or one that is still to come
abbrev pub is_alive : Message → ℕ → Bool
is_alive m now = is_before now m.deadline
