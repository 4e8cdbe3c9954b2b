-- What packets that have a spelling hold.
use Rattle.std.proofs.Common.{◌≡◌, ◌≢◌, ℕ, ◌<◌, ◌≤◌, ◌^◌, ◌++◌, Bool, true, false, List, [], ◌∷◌, Option, sym, ◌∙◌, arith, inl, inr}
use Rattle.std.specs.Prelude.{◌==◌, ◌||◌, IfSome, not}
use Rattle.std.proofs.lemmas.Bool.{cases_Bool, and_parts, eq-eqb, false≢true}
use Rattle.mqtt_fields.specs.declared.options.Qos.{Qos}
use Rattle.mqtt_fields.specs.declared.options.Qos.TheVariants.{AtMostOnce, AtLeastOnce, ExactlyOnce}
use Rattle.mqtt_fields.specs.declared.table.Place.{Place}
use Rattle.mqtt_fields.specs.declared.table.Place.TheVariants as places
use Rattle.mqtt_fields.specs.declared.table.ValueKind.{ValueKind}
use Rattle.mqtt_fields.specs.declared.table.ValueKind.TheVariants as kinds
use Rattle.mqtt_fields.specs.declared.value.Property.{Property}
use Rattle.mqtt_fields.specs.declared.value.Value.{Value}
use Rattle.mqtt_fields.specs.declared.value.Value.TheVariants.{Byte, Two, Four, Vbi, Text, Blob, Pair}
use Rattle.mqtt_fields.specs.Block.{properties, property, MayStand, kind_in}
use Rattle.mqtt_fields.specs.Properties.{first_four}
use Rattle.mqtt_fields.specs.Table.{entry_of}
use Rattle.mqtt_fields.specs.Value.{value, as_four}
use Rattle.mqtt_packets.specs.declared.ended.Ended.{Ended}
use Rattle.mqtt_packets.specs.declared.packet.Packet.TheVariants as packets
use Rattle.mqtt_packets.specs.declared.publish.Publish.{Publish}
use Rattle.mqtt_packets.specs.Ack.{reason}
use Rattle.mqtt_packets.specs.Ended.{ended}
use Rattle.mqtt_packets.specs.Head.{is_at_most_once}
use Rattle.mqtt_packets.specs.Packet.{BodyFits}
use Rattle.mqtt_packets.specs.Publish.{publish}
use Rattle.mqtt_packets.specs.Body.{Body, where_}
use Rattle.mqtt_packets.specs.Written.{HasSpelling}
use Rattle.mqtt_packets.proofs.WrittenLaws.{sound_of}
use Rattle.mqtt_fields.specs.Numbers.{number}
use Rattle.std.specs.Int.{w16}

-- ---- a Four Byte Integer
abbrev IsFour : Option ℕ → Type 0
IsFour o = IfSome o (λ n. n < 2 ^ 32)

four-fits : (k : ValueKind) (v : Value) → (value k).Fits v → IsFour (as_four v)
four-fits kinds.Four (Four n) f = f
four-fits kinds.Byte (Four n) f = absurd f
four-fits kinds.Two (Four n) f = absurd f
four-fits kinds.Vbi (Four n) f = absurd f
four-fits kinds.Text (Four n) f = absurd f
four-fits kinds.Blob (Four n) f = absurd f
four-fits kinds.Pair (Four n) f = absurd f
four-fits k (Byte n) f = tt
four-fits k (Two n) f = tt
four-fits k (Vbi n) f = tt
four-fits k (Text t) f = tt
four-fits k (Blob b) f = tt
four-fits k (Pair a b) f = tt

four-standing : (place : Place) (id : ℕ) (before ps : List Property) → MayStand place before ps → IsFour (first_four id ps)
unfolding property
four-standing place id before [] m = tt
four-standing place id before (p ∷ ps) m = elim (cases_Bool (p.id == id)) [
  | inl t ↦ rw t (four-fits (kind_in (entry_of p.id)) p.value m.0.1)
  | inr f ↦ rw f (four-standing place id (before ++ p ∷ []) ps m.1)
]

-- ---- DISCONNECT's Session Expiry Interval
ended-four : (e : Ended) → BodyFits (packets.Disconnect e) → IsFour (first_four 17 e.properties)
unfolding BodyFits ended reason properties
ended-four e f = four-standing places.Disconnect 17 [] e.properties f.0.0.1.1

pub disconnect-four : (e : Ended) → HasSpelling (packets.Disconnect e) → IsFour (first_four 17 e.properties)
disconnect-four e h = ended-four e (sound_of (packets.Disconnect e) h).fits

-- ---- PUBLISH's Packet Identifier
identifier-fits : (b : Bool) (id : ℕ) (rest : List Property × List ℕ) (g : Body (List Property × List ℕ)) → (where_ b 0 (number w16) g).Fits (id, rest) → id < 65536
identifier-fits true id rest g f = f.0
identifier-fits false id rest g f = (let none = f.0 in omega (arith, none))

published-small : (p : Publish) → BodyFits (packets.Publish p) → p.identifier < 65536
unfolding BodyFits publish
published-small p f = identifier-fits (not (is_at_most_once p.qos)) p.identifier (p.properties, p.payload) _ f.0.0.1

pub publish-small : (p : Publish) → HasSpelling (packets.Publish p) → p.identifier < 65536
publish-small p h = published-small p (sound_of (packets.Publish p) h).fits

counted : (id : ℕ) → not (id == 0) ≡ true → 1 ≤ id
counted id h = elim (cases_Bool (id == 0)) [
  | inl t ↦ (let bad : false ≡ true = rw t at h in absurd (false≢true bad))
  | inr f ↦ (let apart : id ≢ 0 = λ z. false≢true (sym f ∙ eq-eqb id 0 z) in omega (arith, apart))
]

counted-twice : (q : Qos) (id : ℕ) → q ≡ ExactlyOnce → (is_at_most_once q || not (id == 0)) ≡ true → 1 ≤ id
counted-twice AtMostOnce id e h = absurd (cc e)
counted-twice AtLeastOnce id e h = counted id h
counted-twice ExactlyOnce id e h = counted id h

published-counted : (p : Publish) → BodyFits (packets.Publish p) → p.qos ≡ ExactlyOnce → 1 ≤ p.identifier
unfolding BodyFits publish
published-counted p f e = counted-twice p.qos p.identifier e (and_parts (is_at_most_once p.qos || not (p.identifier == 0)) _ f.1).0

pub publish-counted : (p : Publish) → HasSpelling (packets.Publish p) → p.qos ≡ ExactlyOnce → 1 ≤ p.identifier
publish-counted p h e = published-counted p (sound_of (packets.Publish p) h).fits e
