-- How a client gets a message by its subscriptions (MQTT 5.0, 3.3.1.3, 3.3.4 and 3.8.4).
use Rattle.std.specs.Prelude.{ℕ, max, ◌==◌, ◌&&◌, nat_lt, if◌then◌else◌, Bool, true, List, [], ◌∷◌}
use Rattle.std.specs.List.{flat_map, list_any}
use Rattle.mqtt_fields.specs.declared.options.Qos.{Qos}
use Rattle.mqtt_fields.specs.declared.options.Qos.TheVariants.{AtMostOnce, AtLeastOnce}
use Rattle.mqtt_fields.specs.Options.{qos_number, qos_of, retain_as_published_of}
use Rattle.mqtt_message.specs.declared.delivery.Delivery.{Delivery}
use Rattle.mqtt_message.specs.declared.message.Message.{Message}
use Rattle.mqtt_message.specs.Identifiers.{identifiers_of}
use Rattle.subscription_set.specs.Entries.{Entry}
use Rattle.bridge_routes.specs.Ascending.{ascending}

-- the message's QoS, or the granted one where that is less (3.8.4)
abbrev pub least_qos : ℕ → Qos → Qos
least_qos granted qos = if nat_lt granted (qos_number qos) then (if granted == 0 then AtMostOnce else AtLeastOnce) else qos

-- the greatest QoS that one of the subscriptions was granted (3.3.4)
abbrev pub greatest_qos : List Entry → ℕ
greatest_qos [] = 0
greatest_qos (e ∷ es) = max (qos_of e.options) (greatest_qos es)

-- one of them has Retain As Published (3.8.3.1)
abbrev pub any_as_published : List Entry → Bool
any_as_published es = list_any (λ e. retain_as_published_of e.options) es

-- the Subscription Identifiers of all of them, ascending, repeats kept (3.3.4)
abbrev pub identifiers_in : List Entry → List ℕ
identifiers_in es = ascending (flat_map (λ e. identifiers_of e.identifier) es)

-- the one copy for a client with these subscriptions
abbrev pub copy_for : Message → List Entry → Delivery
copy_for m own = record {
  message = m;
  qos = least_qos (greatest_qos own) m.qos;
  retain = m.retain && any_as_published own;
  identifiers = identifiers_in own;
}

-- a retained message for a new subscription with these options and identifiers: with RETAIN 1 (3.3.1.3); No Local doesn't
-- leave it out
abbrev pub offer_of : ℕ → List ℕ → Message → Delivery
offer_of options identifiers m = record { message = m; qos = least_qos (qos_of options) m.qos; retain = true; identifiers = identifiers }
