-- What calls of a session can lead to.
use Rattle.std.specs.Prelude.{◌≡◌, ℕ, ◌≤◌, true, List, length}
use Rattle.std.specs.List.{AllByRecursion}
use Rattle.mqtt_fields.specs.declared.options.Qos.TheVariants.{ExactlyOnce}
use Rattle.qos_handshakes.specs.declared.copies.Entry.{Entry}
use Rattle.qos_handshakes.specs.Entries.{Entries}
use Rattle.qos_handshakes.specs.Outbox.{is_released, waiting}

-- a PUBREC, after which it is released, answers a PUBLISH at QoS 2 alone (MQTT 5.0, 4.3.3)
abbrev pub IsReleasedAtTwo : Entry → Type 0
IsReleasedAtTwo x = is_released x.stage ≡ true → x.delivery.qos ≡ ExactlyOnce

-- an identifier of an incoming exchange isn't 0 (2.2.1), and no more than 65,536 copies wait
pub record IsReachable (incoming : List ℕ) (copies : Entries) : Type 0 where
  pub identifiers : AllByRecursion (λ id. 1 ≤ id) incoming
  pub released : AllByRecursion (λ e. IsReleasedAtTwo e.1) copies
  pub waiting : length (waiting copies) ≤ 65536
