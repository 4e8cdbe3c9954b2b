-- What can be sent has a spelling.
use Rattle.std.proofs.Common.{◌≡◌, ℕ, ◌≤◌, false, Bool, arith, refl}
use Rattle.std.specs.Prelude.{◌≢◌}
use Rattle.mqtt_fields.specs.declared.options.Qos.{Qos}
use Rattle.mqtt_fields.specs.declared.options.Qos.TheVariants.{AtMostOnce, AtLeastOnce, ExactlyOnce}
use Rattle.mqtt_packets.specs.declared.packet.Packet.TheVariants as packets
use Rattle.mqtt_packets.specs.Written.{HasSpelling}
use Rattle.mqtt_message.specs.declared.delivery.Delivery.{Delivery}
use Rattle.mqtt_message.specs.Spellings.{delivery}
use Rattle.mqtt_message.specs.Sent.{sent, IsSentLength, IsIdentifierAt, IsDupAt}
use Rattle.mqtt_message.specs.Laws.{SentIsSpelled}
use Rattle.qos_handshakes.specs.Length.{length_of}
use Rattle.qos_handshakes.specs.Outbox.{CanBeSent}

identified : (q : Qos) (id : ℕ) → q ≢ AtMostOnce → 1 ≤ id → id ≤ 65535 → IsIdentifierAt q id
identified AtMostOnce id asked least most = absurd (asked refl)
identified AtLeastOnce id asked least most = (omega (arith, least), omega (arith, most))
identified ExactlyOnce id asked least most = (omega (arith, least), omega (arith, most))

again : (q : Qos) (dup : Bool) → q ≢ AtMostOnce → IsDupAt q dup
again AtMostOnce dup asked = absurd (asked refl)
again AtLeastOnce dup asked = tt
again ExactlyOnce dup asked = tt

length-is : (d : Delivery) (now n : ℕ) → IsSentLength d now n → n ≡ length_of now d
unfolding length_of
length-is d now n is = is false 0

pub spelled : (now limit id n : ℕ) (dup : Bool) (d : Delivery) → CanBeSent now limit id d → limit ≤ 268435460 → delivery.Fits d → IsSentLength d now n → SentIsSpelled → HasSpelling (packets.Publish (sent d now dup id))
spelled now limit id n dup d can most fits is law =
    let same = length-is d now n is in
    (law d now n dup id fits is).1 (record { identified = identified d.qos id can.asked can.least can.most; again = again d.qos dup can.asked; short = omega (arith, same, can.short, most) })
