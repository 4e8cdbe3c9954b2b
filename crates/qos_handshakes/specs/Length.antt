-- How long the PUBLISH is that sends a delivery.
use Rattle.std.specs.Prelude.{ℕ, false, length}
use Rattle.mqtt_message.specs.declared.delivery.Delivery.{Delivery}
use Rattle.mqtt_message.specs.Sent.{sent}
use Rattle.mqtt_packets.specs.declared.packet.Packet.TheVariants as packets
use Rattle.mqtt_packets.specs.Written.{written}

-- as it is written at a moment; its DUP flag and identifier change nothing of it (MQTT 5.0, 3.3)
unfoldable pub length_of : ℕ → Delivery → ℕ
length_of now d = length (written (packets.Publish (sent d now false 0)))
