-- The will of a CONNECT that came.
use Rattle.std.proofs.Common.{◌≡◌, true, Option, Some, None, option_map, is_some}
use Rattle.std.proofs.lemmas.Bool.{and_parts}
use Rattle.mqtt_fields.specs.declared.table.Place.TheVariants as places
use Rattle.mqtt_message.specs.OwnProperties.{IsAllowed}
use Rattle.mqtt_packets.specs.declared.connect.Connect.{Connect}
use Rattle.mqtt_packets.specs.declared.connect.Will.{Will}
use Rattle.mqtt_packets.specs.declared.packet.Packet.TheVariants as packets
use Rattle.mqtt_packets.specs.Connect.{connect, tail, will, will_parts, will_flags, is_valid_will}
use Rattle.mqtt_packets.specs.Optional.{maybe}
use Rattle.mqtt_packets.specs.Packet.{BodyFits}
use Rattle.mqtt_packets.specs.Values.{are_valid}
use Rattle.mqtt_packets.specs.Written.{HasSpelling}
use Rattle.mqtt_packets.proofs.WrittenLaws.{sound_of}
use Rattle.mqtt_sessions.specs.State.{IsPublishableIf}
use Rattle.node_clients.specs.Connecting.{WillIsNamed}

-- its properties may stand in a will
abbrev AreAllowed : Option Will → Type 0
AreAllowed None = Unit {0}
AreAllowed (Some w) = IsAllowed places.Will w.properties

allowed : (w : Option Will) → (maybe (is_some (option_map will_flags w)) will).Fits (option_map will_parts w) → is_valid_will w ≡ true → AreAllowed w
unfolding will
allowed None fits valid = tt
allowed (Some w) fits valid = record { fits = fits.0; valid = valid }

will_allowed : (p : Connect) → HasSpelling (packets.Connect p) → AreAllowed p.will
unfolding BodyFits connect tail
will_allowed p h =
    let s = sound_of (packets.Connect p) h in
    allowed p.will s.fits.0.0.1.1.1.1.1.1.1.0 (and_parts (are_valid p.properties) (is_valid_will p.will) s.fits.1).1

published : (w : Option Will) → AreAllowed w → WillIsNamed w → IsPublishableIf w
published None is named = tt
published (Some w) is named = record { name = named; properties = is }

named_by : (w : Option Will) → IsPublishableIf w → WillIsNamed w
named_by None is = tt
named_by (Some w) is = is.name

-- a message can be made of it where its topic is a name
pub will_publishable : (p : Connect) → HasSpelling (packets.Connect p) → WillIsNamed p.will → IsPublishableIf p.will
will_publishable p h named = published p.will (will_allowed p h) named

pub will_named : (p : Connect) → IsPublishableIf p.will → WillIsNamed p.will
will_named p is = named_by p.will is
