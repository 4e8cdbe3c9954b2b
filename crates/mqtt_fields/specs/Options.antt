-- QoS levels (MQTT 5.0, 4.3) and Subscription Options (MQTT 5.0, 3.8.3.1).
use Rattle.std.specs.Prelude.{ℕ, ◌/◌, ◌%◌, ◌==◌, Bool}
use Rattle.mqtt_fields.specs.declared.options.Qos.{Qos}
use Rattle.mqtt_fields.specs.declared.options.Qos.TheVariants.{AtMostOnce, AtLeastOnce, ExactlyOnce}

-- a level's number
abbrev pub qos_number : Qos → ℕ
qos_number AtMostOnce = 0
qos_number AtLeastOnce = 1
qos_number ExactlyOnce = 2

-- bits 0 and 1 of a byte of options: the greatest QoS at which messages are sent
abbrev pub qos_of : ℕ → ℕ
qos_of options = options % 4

-- bit 2: No Local
abbrev pub no_local_of : ℕ → Bool
no_local_of options = options / 4 % 2 == 1

-- bit 3: Retain As Published
abbrev pub retain_as_published_of : ℕ → Bool
retain_as_published_of options = options / 8 % 2 == 1

-- bits 4 and 5: Retain Handling
abbrev pub retain_handling_of : ℕ → ℕ
retain_handling_of options = options / 16 % 4
