-- A packet is sound where it has a spelling.
use Rattle.std.proofs.Common.{◌≡◌, ℕ, ◌<◌, ◌^◌, length, Option, Some, None, Bool, true, false, refl}
use Rattle.std.specs.Prelude.{IsTrue, ◌&&◌, is_some}
use Rattle.std.proofs.lemmas.Bool.{and_parts}
use Rattle.mqtt_packets.specs.declared.packet.Packet.{Packet}
use Rattle.mqtt_packets.specs.Head.{is_head}
use Rattle.mqtt_packets.specs.Packet.{head_of, body_bytes}
use Rattle.mqtt_packets.specs.Measure.{MeasuresBody}
use Rattle.mqtt_packets.specs.Written.{HasSpelling, IsSound}
use Rattle.mqtt_packets.proofs.WrittenLaws.{sound_of, spelling_of}

pub sound_to : (p : Packet) (o : Option ℕ) → MeasuresBody p o → IsTrue (is_head (head_of p)) → is_some o ≡ true → HasSpelling p
sound_to p None m h e = absurd cc
sound_to p (Some n) m h e = spelling_of p (record { begins = h; fits = m.0.0; short = m.0.1 })

pub sound_from : (p : Packet) (o : Option ℕ) → MeasuresBody p o → HasSpelling p → IsTrue (is_head (head_of p)) × (is_some o ≡ true)
sound_from p None m h = let s = sound_of p h in absurd (m (s.fits, s.short))
sound_from p (Some n) m h = let s = sound_of p h in (s.begins, refl)

-- a sound packet has a length
pub measured : (p : Packet) (o : Option ℕ) → MeasuresBody p o → IsSound p → is_some o ≡ true
measured p None m s = absurd (m (s.fits, s.short))
measured p (Some n) m s = refl
