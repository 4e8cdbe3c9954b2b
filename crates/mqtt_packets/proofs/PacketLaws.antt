-- Packets of all kinds are read as they are spelled, and written as they are read.
use Rattle.std.proofs.Common.{◌≡◌, ℕ, ◌≤◌, Bool, true, false, cond, List, [], length, Result, Ok, Err, refl, sym, ap, subst, ◌∙◌, arith}
use Rattle.std.specs.Prelude.{◌==◌}
use Rattle.std.proofs.lemmas.List.{nil_from_length}
use Rattle.std.proofs.lemmas.Bool.{eqb-true}
use Rattle.mqtt_fields.specs.declared.table.Place.TheVariants as places
use Rattle.mqtt_fields.specs.Reading.{◌>>=◌}
use Rattle.mqtt_fields.proofs.Laws.{IsBytes, bind_ok, guard_passed, ok_is}
use Rattle.mqtt_packets.specs.declared.fault.PacketFault.{PacketFault}
use Rattle.mqtt_packets.specs.declared.fault.PacketFault.TheVariants.{Malformed}
use Rattle.mqtt_packets.specs.declared.head.Head.{Head}
use Rattle.mqtt_packets.specs.declared.head.Head.TheVariants as heads
use Rattle.mqtt_packets.specs.declared.packet.Packet.{Packet}
use Rattle.mqtt_packets.specs.declared.packet.Packet.TheVariants as packets
use Rattle.mqtt_packets.specs.Body.{Body}
use Rattle.mqtt_packets.specs.Connect.{connect}
use Rattle.mqtt_packets.specs.Connack.{connack}
use Rattle.mqtt_packets.specs.Publish.{publish, flags_of}
use Rattle.mqtt_packets.specs.Ack.{ack}
use Rattle.mqtt_packets.specs.Subscribe.{subscribe}
use Rattle.mqtt_packets.specs.Reasons.{reasons}
use Rattle.mqtt_packets.specs.Unsubscribe.{unsubscribe}
use Rattle.mqtt_packets.specs.Ended.{ended}
use Rattle.mqtt_packets.specs.Packet.{head_of, SpellsBody, body_bytes, BodyFits, nothing, body_of}
use Rattle.mqtt_packets.proofs.BodyLaws.{IsBody}
use Rattle.mqtt_packets.proofs.ConnectLaws.{connect_is}
use Rattle.mqtt_packets.proofs.KindLaws.{connack_is, publish_is, ack_is, subscribe_is, reasons_is, unsubscribe_is, ended_is}

abbrev Found : Head → List ℕ → Packet → Type 0
Found h bs p = (head_of p ≡ h) × SpellsBody p bs

kind_found : {A : Type 0} (f : Body A) (F : IsBody f) (to : A → Packet) (P : Packet → Type 0) (bs : List ℕ) (p : Packet) → IsBytes bs → (f.of bs >>= λ a. Ok (to a)) ≡ Ok p
    → ((a : A) → f.Spells bs a → P (to a)) → P p
kind_found f F to P bs p fits e next =
    let a = bind_ok (f.of bs) (λ a. Ok (to a)) p e in
    subst P (ok_is (to a.0) p a.2) (next a.0 (F.found bs a.0 fits a.1))

nothing_found : (q : Packet) (P : Packet → Type 0) (bs : List ℕ) (p : Packet) → nothing q bs ≡ Ok p → (bs ≡ [] → P q) → P p
nothing_found q P bs p e next =
    let g = guard_passed (length bs == 0) Malformed q p e in
    subst P g.1 (next (nil_from_length bs (eqb-true _ _ g.0)))

publish_head : (f : _) (bs : List ℕ) (p : _) → (publish f).Spells bs p → flags_of p ≡ f
unfolding publish
publish_head f bs p s = ap flags_of s.0.1

publish_found : (f : _) (bs : List ℕ) (p : _) → (publish f).Spells bs p → Found (heads.Publish f) bs (packets.Publish p)
unfolding head_of SpellsBody
publish_found f bs p s = let same : flags_of p ≡ f = publish_head f bs p s in (ap heads.Publish same, subst (λ (g : _). (publish g).Spells bs p) (sym same) s)

-- a body that is read is one that is spelled
pub body_found : (h : Head) (bs : List ℕ) (p : Packet) → IsBytes bs → body_of h bs ≡ Ok p → (head_of p ≡ h) × SpellsBody p bs
body_found heads.Connect bs p fits e = unfold body_of head_of SpellsBody in kind_found connect connect_is packets.Connect (Found heads.Connect bs) bs p fits e (λ a s. (refl, s))
body_found heads.Connack bs p fits e = unfold body_of head_of SpellsBody in kind_found connack connack_is packets.Connack (Found heads.Connack bs) bs p fits e (λ a s. (refl, s))
body_found (heads.Publish f) bs p fits e = unfold body_of in kind_found (publish f) (publish_is f) packets.Publish (Found (heads.Publish f) bs) bs p fits e (publish_found f bs)
body_found heads.Puback bs p fits e = unfold body_of head_of SpellsBody in kind_found (ack places.Puback) (ack_is places.Puback) packets.Puback (Found heads.Puback bs) bs p fits e (λ a s. (refl, s))
body_found heads.Pubrec bs p fits e = unfold body_of head_of SpellsBody in kind_found (ack places.Pubrec) (ack_is places.Pubrec) packets.Pubrec (Found heads.Pubrec bs) bs p fits e (λ a s. (refl, s))
body_found heads.Pubrel bs p fits e = unfold body_of head_of SpellsBody in kind_found (ack places.Pubrel) (ack_is places.Pubrel) packets.Pubrel (Found heads.Pubrel bs) bs p fits e (λ a s. (refl, s))
body_found heads.Pubcomp bs p fits e = unfold body_of head_of SpellsBody in kind_found (ack places.Pubcomp) (ack_is places.Pubcomp) packets.Pubcomp (Found heads.Pubcomp bs) bs p fits e (λ a s. (refl, s))
body_found heads.Subscribe bs p fits e = unfold body_of head_of SpellsBody in kind_found subscribe subscribe_is packets.Subscribe (Found heads.Subscribe bs) bs p fits e (λ a s. (refl, s))
body_found heads.Suback bs p fits e = unfold body_of head_of SpellsBody in kind_found (reasons places.Suback) (reasons_is places.Suback) packets.Suback (Found heads.Suback bs) bs p fits e (λ a s. (refl, s))
body_found heads.Unsubscribe bs p fits e = unfold body_of head_of SpellsBody in kind_found unsubscribe unsubscribe_is packets.Unsubscribe (Found heads.Unsubscribe bs) bs p fits e (λ a s. (refl, s))
body_found heads.Unsuback bs p fits e = unfold body_of head_of SpellsBody in kind_found (reasons places.Unsuback) (reasons_is places.Unsuback) packets.Unsuback (Found heads.Unsuback bs) bs p fits e (λ a s. (refl, s))
body_found heads.Pingreq bs p fits e = unfold body_of head_of SpellsBody in nothing_found packets.Pingreq (Found heads.Pingreq bs) bs p e (λ s. (refl, s))
body_found heads.Pingresp bs p fits e = unfold body_of head_of SpellsBody in nothing_found packets.Pingresp (Found heads.Pingresp bs) bs p e (λ s. (refl, s))
body_found heads.Disconnect bs p fits e = unfold body_of head_of SpellsBody in kind_found (ended places.Disconnect) (ended_is places.Disconnect) packets.Disconnect (Found heads.Disconnect bs) bs p fits e (λ a s. (refl, s))
body_found heads.Auth bs p fits e = unfold body_of head_of SpellsBody in kind_found (ended places.Auth) (ended_is places.Auth) packets.Auth (Found heads.Auth bs) bs p fits e (λ a s. (refl, s))

kind_reads : {A : Type 0} (f : Body A) (F : IsBody f) (to : A → Packet) (bs : List ℕ) (a : A) → f.Spells bs a → (f.of bs >>= λ b. Ok (to b)) ≡ Ok (to a)
kind_reads f F to bs a s = rw (F.reads bs a s) refl

nothing_reads : (p : Packet) (bs : List ℕ) → bs ≡ [] → nothing p bs ≡ Ok p
nothing_reads p bs e = rw e refl

-- and a body that is spelled is read
pub body_reads : (p : Packet) (bs : List ℕ) → SpellsBody p bs → body_of (head_of p) bs ≡ Ok p
unfolding body_of head_of SpellsBody
body_reads (packets.Connect c) bs s = kind_reads connect connect_is packets.Connect bs c s
body_reads (packets.Connack c) bs s = kind_reads connack connack_is packets.Connack bs c s
body_reads (packets.Publish p) bs s = kind_reads (publish (flags_of p)) (publish_is (flags_of p)) packets.Publish bs p s
body_reads (packets.Puback a) bs s = kind_reads (ack places.Puback) (ack_is places.Puback) packets.Puback bs a s
body_reads (packets.Pubrec a) bs s = kind_reads (ack places.Pubrec) (ack_is places.Pubrec) packets.Pubrec bs a s
body_reads (packets.Pubrel a) bs s = kind_reads (ack places.Pubrel) (ack_is places.Pubrel) packets.Pubrel bs a s
body_reads (packets.Pubcomp a) bs s = kind_reads (ack places.Pubcomp) (ack_is places.Pubcomp) packets.Pubcomp bs a s
body_reads (packets.Subscribe a) bs s = kind_reads subscribe subscribe_is packets.Subscribe bs a s
body_reads (packets.Suback a) bs s = kind_reads (reasons places.Suback) (reasons_is places.Suback) packets.Suback bs a s
body_reads (packets.Unsubscribe a) bs s = kind_reads unsubscribe unsubscribe_is packets.Unsubscribe bs a s
body_reads (packets.Unsuback a) bs s = kind_reads (reasons places.Unsuback) (reasons_is places.Unsuback) packets.Unsuback bs a s
body_reads packets.Pingreq bs s = nothing_reads packets.Pingreq bs s
body_reads packets.Pingresp bs s = nothing_reads packets.Pingresp bs s
body_reads (packets.Disconnect a) bs s = kind_reads (ended places.Disconnect) (ended_is places.Disconnect) packets.Disconnect bs a s
body_reads (packets.Auth a) bs s = kind_reads (ended places.Auth) (ended_is places.Auth) packets.Auth bs a s

-- what a body's spelling, its writer and its soundness have to do with each other
pub record IsWritten (p : Packet) : Type 0 where
  pub fits : (bs : List ℕ) → SpellsBody p bs → BodyFits p
  pub writes : BodyFits p → SpellsBody p (body_bytes p)
  pub shortest : (bs : List ℕ) → SpellsBody p bs → length (body_bytes p) ≤ length bs

pub body_written : (p : Packet) → IsWritten p
unfolding SpellsBody body_bytes BodyFits
body_written (packets.Connect c) = record { fits = λ bs s. connect_is.fits bs c s; writes = λ h. connect_is.writes c h; shortest = λ bs s. connect_is.shortest bs c s }
body_written (packets.Connack c) = record { fits = λ bs s. connack_is.fits bs c s; writes = λ h. connack_is.writes c h; shortest = λ bs s. connack_is.shortest bs c s }
body_written (packets.Publish p) = let F = publish_is (flags_of p) in record { fits = λ bs s. F.fits bs p s; writes = λ h. F.writes p h; shortest = λ bs s. F.shortest bs p s }
body_written (packets.Puback a) = let F = ack_is places.Puback in record { fits = λ bs s. F.fits bs a s; writes = λ h. F.writes a h; shortest = λ bs s. F.shortest bs a s }
body_written (packets.Pubrec a) = let F = ack_is places.Pubrec in record { fits = λ bs s. F.fits bs a s; writes = λ h. F.writes a h; shortest = λ bs s. F.shortest bs a s }
body_written (packets.Pubrel a) = let F = ack_is places.Pubrel in record { fits = λ bs s. F.fits bs a s; writes = λ h. F.writes a h; shortest = λ bs s. F.shortest bs a s }
body_written (packets.Pubcomp a) = let F = ack_is places.Pubcomp in record { fits = λ bs s. F.fits bs a s; writes = λ h. F.writes a h; shortest = λ bs s. F.shortest bs a s }
body_written (packets.Subscribe a) = record { fits = λ bs s. subscribe_is.fits bs a s; writes = λ h. subscribe_is.writes a h; shortest = λ bs s. subscribe_is.shortest bs a s }
body_written (packets.Suback a) = let F = reasons_is places.Suback in record { fits = λ bs s. F.fits bs a s; writes = λ h. F.writes a h; shortest = λ bs s. F.shortest bs a s }
body_written (packets.Unsubscribe a) = record { fits = λ bs s. unsubscribe_is.fits bs a s; writes = λ h. unsubscribe_is.writes a h; shortest = λ bs s. unsubscribe_is.shortest bs a s }
body_written (packets.Unsuback a) = let F = reasons_is places.Unsuback in record { fits = λ bs s. F.fits bs a s; writes = λ h. F.writes a h; shortest = λ bs s. F.shortest bs a s }
body_written packets.Pingreq = record { fits = λ bs s. tt; writes = λ h. refl; shortest = λ bs s. omega arith }
body_written packets.Pingresp = record { fits = λ bs s. tt; writes = λ h. refl; shortest = λ bs s. omega arith }
body_written (packets.Disconnect a) = let F = ended_is places.Disconnect in record { fits = λ bs s. F.fits bs a s; writes = λ h. F.writes a h; shortest = λ bs s. F.shortest bs a s }
body_written (packets.Auth a) = let F = ended_is places.Auth in record { fits = λ bs s. F.fits bs a s; writes = λ h. F.writes a h; shortest = λ bs s. F.shortest bs a s }
