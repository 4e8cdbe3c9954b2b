-- A PUBLISH that is read where it lies is the one in front.
use Rattle.std.proofs.Common.{◌≡◌, ◌≤◌, ◌-◌, ℕ, arith, get_or, Bool, true, false, cond, ltb, List, [], ◌∷◌, length, take, drop, Some, None, Option, Result, Ok, Err, refl, sym, ap, subst, ◌∙◌}
use Rattle.std.proofs.lemmas.List.{length-drop, take_all}
use Rattle.std.specs.Prelude.{not}
use Rattle.std.specs.Int.{w16}
use Rattle.mqtt_fields.specs.Reading.{◌>>=◌}
use Rattle.mqtt_fields.specs.Block.{properties}
use Rattle.mqtt_fields.specs.Numbers.{number, run_of, text, vbi}
use Rattle.mqtt_fields.specs.declared.fault.FieldFault.{FieldFault}
use Rattle.mqtt_fields.specs.declared.fault.FieldFault.TheVariants as fields
use Rattle.mqtt_fields.specs.declared.options.Qos.{Qos}
use Rattle.mqtt_fields.specs.declared.options.Qos.TheVariants as levels
use Rattle.mqtt_fields.specs.declared.table.Place.TheVariants as places
use Rattle.mqtt_fields.specs.declared.value.Property.{Property}
use Rattle.mqtt_fields.proofs.Laws.{guard_ok}
use Rattle.mqtt_packets.specs.Body.{payload, then_, where_}
use Rattle.mqtt_packets.specs.Head.{head_at, is_at_most_once}
use Rattle.mqtt_packets.specs.Packet.{body_of, head_of}
use Rattle.mqtt_packets.specs.Publish.{flags_of, is_valid_publish, publish, publish_of}
use Rattle.mqtt_packets.specs.Reading.{field_at, in_packet}
use Rattle.mqtt_packets.specs.Stream.{body_at, header_after, header_at, inside_at, packet_at, with_head}
use Rattle.mqtt_packets.specs.declared.fault.PacketFault.{PacketFault}
use Rattle.mqtt_packets.specs.declared.fault.PacketFault.TheVariants.{ProtocolError}
use Rattle.mqtt_packets.specs.declared.packet.Packet.{Packet}
use Rattle.mqtt_packets.specs.declared.packet.Packet.TheVariants as packets
use Rattle.mqtt_packets.specs.declared.publish.Publish.{Publish}
use Rattle.door_packets.specs.Front.{IsIdentifier, IsPublish, IsPublishHead}

-- ---- its identifier and its properties

numbered : (qos : Qos) (bs r load : List ℕ) (n : ℕ) (ps : List Property) → IsIdentifier qos bs n r → (properties places.Publish).at r ≡ Ok (ps, load)
    → (where_ (not (is_at_most_once qos)) 0 (number w16) (then_ (properties places.Publish) (λ _. payload))).of bs ≡ Ok (n, (ps, load))
numbered levels.AtMostOnce bs r load n ps is at_block =
    let there : (properties places.Publish).at bs ≡ Ok (ps, load) = subst (λ (x : List ℕ). (properties places.Publish).at x ≡ Ok (ps, load)) is.1 at_block in
    let read : (where_ false 0 (number w16) (then_ (properties places.Publish) (λ _. payload))).of bs ≡ Ok (0, (ps, load)) =
    ap (λ (x : Result (List Property × List ℕ) FieldFault). (in_packet x >>= λ a. Ok (a.0, a.1)) >>= λ y. Ok (0, y)) there in
    read ∙ ap (λ (k : ℕ). Ok (k, (ps, load))) (sym is.0)
numbered levels.AtLeastOnce bs r load n ps is at_block =
    ap (λ (x : Result (ℕ × List ℕ) FieldFault). in_packet x >>= λ a. (field_at (properties places.Publish) a.1 >>= λ c. Ok (c.0, c.1)) >>= λ b. Ok (a.0, b)) is
    ∙ ap (λ (x : Result (List Property × List ℕ) FieldFault). (in_packet x >>= λ c. Ok (c.0, c.1)) >>= λ b. Ok (n, b)) at_block
numbered levels.ExactlyOnce bs r load n ps is at_block =
    ap (λ (x : Result (ℕ × List ℕ) FieldFault). in_packet x >>= λ a. (field_at (properties places.Publish) a.1 >>= λ c. Ok (c.0, c.1)) >>= λ b. Ok (a.0, b)) is
    ∙ ap (λ (x : Result (List Property × List ℕ) FieldFault). (in_packet x >>= λ c. Ok (c.0, c.1)) >>= λ b. Ok (n, b)) at_block

-- ---- its body

pub body_there : (p : Publish) (bs r1 r2 : List ℕ) → field_at text bs ≡ Ok (p.topic, r1) → IsIdentifier p.qos r1 p.identifier r2 → (properties places.Publish).at r2 ≡ Ok (p.properties, p.payload)
    → is_valid_publish p ≡ true → (publish (flags_of p)).of bs ≡ Ok p
unfolding publish
body_there p bs r1 r2 at_text at_identifier at_block valid =
    let tail = where_ (not (is_at_most_once p.qos)) 0 (number w16) (then_ (properties places.Publish) (λ _. payload)) in
    let rest : tail.of r1 ≡ Ok (p.identifier, (p.properties, p.payload)) = numbered p.qos r1 r2 p.payload p.identifier p.properties at_identifier at_block in
    ap (λ (x : Result (List ℕ × List ℕ) PacketFault). ((x >>= λ a. tail.of a.1 >>= λ b. Ok (a.0, b)) >>= λ a. Ok (publish_of (flags_of p) a)) >>= λ a. cond (is_valid_publish a) (Ok a) (Err ProtocolError)) at_text
    ∙ ap (λ (x : Result (ℕ × (List Property × List ℕ)) PacketFault). ((x >>= λ b. Ok (p.topic, b)) >>= λ a. Ok (publish_of (flags_of p) a)) >>= λ a. cond (is_valid_publish a) (Ok a) (Err ProtocolError)) rest
    ∙ ap (λ (b : Bool). cond b (Ok p) (Err ProtocolError)) valid

-- ---- the packet

publish_there : (b : ℕ) (bs r body behind : List ℕ) (n : ℕ) (p : Publish) → IsPublishHead b p.dup p.qos p.retain → vbi.at bs ≡ Ok (n, r) → (run_of n).at r ≡ Ok (body, behind)
    → (publish (flags_of p)).of body ≡ Ok p → IsPublish p (packet_at (b ∷ bs))
unfolding packet_at header_at head_of body_of
publish_there b bs r body behind n p head at_length at_run is =
    let g = guard_ok (ltb (length r) n) fields.Short (take n r, drop n r) (body, behind) at_run in
    let same : take n r ≡ body = ap (λ (x : List ℕ × List ℕ). x.0) g.1 in
    let inside : (publish (flags_of p)).of (take n r) ≡ Ok p = ap (publish (flags_of p)).of same ∙ is in
    rw head (rw at_length (rw g.0 (rw inside refl)))

-- all but the first
tail_all : (bs : List ℕ) → take (length bs - 1) (drop 1 bs) ≡ drop 1 bs
tail_all bs = take_all (length bs - 1) (drop 1 bs) (omega (arith, length-drop 1 bs))

pub publish_here : (bs r body behind : List ℕ) (n : ℕ) (p : Publish) → 1 ≤ length bs → IsPublishHead (get_or bs 0 0) p.dup p.qos p.retain → vbi.at (take (length bs - 1) (drop 1 bs)) ≡ Ok (n, r)
    → (run_of n).at r ≡ Ok (body, behind) → (publish (flags_of p)).of body ≡ Ok p → IsPublish p (packet_at bs)
publish_here [] r body behind n p some head at_length at_run is = absurd (omega arith)
publish_here (b ∷ bs) r body behind n p some head at_length at_run is =
    let there : vbi.at bs ≡ Ok (n, r) = sym (ap (λ (x : List ℕ). vbi.at x) (tail_all (b ∷ bs))) ∙ at_length in
    publish_there b bs r body behind n p head there at_run is
