-- What comes of a packet: it goes on, it goes on smaller, or something answers it in its place.
use Rattle.std.specs.Prelude.{ℕ, ◌==◌, ◌||◌, ◌&&◌, not, nat_lt, List, [], ◌∷◌, ◌++◌, length, Bool, true, false, Option, Some, None, is_none, is_some, map, filter, take, drop, count_by, if◌then◌else◌}
use Rattle.std.specs.List.{list_all}
use Rattle.std.specs.Prelude.{min}
use Rattle.mqtt_fields.specs.Properties.{first_four, first_two}
use Rattle.mqtt_fields.specs.declared.options.Qos.{Qos}
use Rattle.mqtt_fields.specs.declared.options.Qos.TheVariants.{AtMostOnce, AtLeastOnce, ExactlyOnce}
use Rattle.mqtt_fields.specs.declared.value.Property.{Property}
use Rattle.mqtt_fields.specs.declared.value.Value.TheVariants.{Four}
use Rattle.mqtt_packets.specs.declared.ack.Ack.{Ack}
use Rattle.mqtt_packets.specs.declared.connack.Connack.{Connack}
use Rattle.mqtt_packets.specs.declared.connect.Connect.{Connect}
use Rattle.mqtt_packets.specs.declared.ended.Ended.{Ended}
use Rattle.mqtt_packets.specs.declared.packet.Packet.{Packet}
use Rattle.mqtt_packets.specs.declared.packet.Packet.TheVariants as packets
use Rattle.mqtt_packets.specs.declared.publish.Publish.{Publish}
use Rattle.mqtt_packets.specs.declared.reasons.Reasons.{Reasons}
use Rattle.mqtt_packets.specs.declared.subscribe.Subscribe.{Subscribe}
use Rattle.mqtt_packets.specs.declared.subscribe.SubscribeFilter.{SubscribeFilter}
use Rattle.mqtt_bounds.specs.Bounds.{is_above, levels}
use Rattle.mqtt_bounds.specs.declared.bounds.Bounds.{Bounds}
use Rattle.mqtt_bounds.specs.declared.verdict.Mend.{Mend}
use Rattle.mqtt_bounds.specs.declared.verdict.Mend.TheVariants as mends
use Rattle.mqtt_bounds.specs.declared.verdict.Verdict.{Verdict}
use Rattle.mqtt_bounds.specs.declared.verdict.Verdict.TheVariants as verdicts

-- ---- PUBLISH

abbrev pub user_properties : List Property → ℕ
user_properties ps = count_by (λ p. p.id == 38) ps

-- 0x97 where there is no room, or it has too many user properties; 0x90 where its topic has too many levels
abbrev pub publish_code : Bounds → Bool → Publish → Option ℕ
publish_code b full p =
    if full || is_above b.most_properties (user_properties p.properties) then Some 151
    else if is_above b.most_levels (levels p.topic) then Some 144
    else None

abbrev pub ack_with : Publish → ℕ → Ack
ack_with p reason = record { identifier = p.identifier; reason = reason; properties = [] }

abbrev pub refusal_at : Qos → Ack → Option Packet
refusal_at AtMostOnce ack = None
refusal_at AtLeastOnce ack = Some (packets.Puback ack)
refusal_at ExactlyOnce ack = Some (packets.Pubrec ack)

-- PUBACK at QoS 1, PUBREC at QoS 2 (MQTT 5.0, 4.3)
abbrev pub refusal : Publish → ℕ → Option Packet
refusal p reason = refusal_at p.qos (ack_with p reason)

-- it comes again at QoS 2: an exchange may be open for it (MQTT 5.0, 4.3.3)
abbrev pub is_repeat_at : Qos → Bool → Bool
is_repeat_at AtMostOnce dup = false
is_repeat_at AtLeastOnce dup = false
is_repeat_at ExactlyOnce dup = dup

-- its client takes its topic to have an alias from now on (MQTT 5.0, 3.3.2.3.4)
abbrev pub sets_alias : Publish → Bool
sets_alias p = not (length p.topic == 0) && is_some (first_two 35 p.properties)

-- an answer alone would leave the client and the node apart: the connection ends in its place
abbrev pub ends_if_refused : Publish → Bool
ends_if_refused p = is_repeat_at p.qos p.dup || sets_alias p

abbrev pub publish_by : Publish → Option ℕ → Verdict
publish_by p None = verdicts.Goes mends.Nothing
publish_by p (Some reason) = if ends_if_refused p then verdicts.Ends reason else verdicts.Refused (refusal p reason)

abbrev pub publish_verdict : Bounds → Bool → Publish → Verdict
publish_verdict b full p = publish_by p (publish_code b full p)

-- ---- SUBSCRIBE

-- 0x97 where there is no room, 0x8F where it has too many levels
abbrev pub filter_code : Bounds → Bool → SubscribeFilter → Option ℕ
filter_code b full f =
    if full then Some 151
    else if is_above b.most_levels (levels f.filter) then Some 143
    else None

abbrev pub is_asked : Bounds → Bool → SubscribeFilter → Bool
is_asked b full f = is_none (filter_code b full f)

-- so many filters may be there
abbrev pub fitting : Option ℕ → ℕ → ℕ
fitting None count = count
fitting (Some most) count = min count most

-- for those beyond there is no room
abbrev pub codes_of : Bounds → Bool → List SubscribeFilter → List (Option ℕ)
codes_of b full fs =
    let n = fitting b.most_filters (length fs) in
    map (filter_code b full) (take n fs) ++ map (filter_code b true) (drop n fs)

abbrev pub smaller : Bounds → Bool → Subscribe → Subscribe
smaller b full s = record s { filters = filter (is_asked b full) (take (fitting b.most_filters (length s.filters)) s.filters) }

-- codes of those that were asked for, in the places of these
abbrev pub merged : List (Option ℕ) → List ℕ → List ℕ
merged [] asked = asked
merged (Some code ∷ codes) asked = code ∷ merged codes asked
merged (None ∷ codes) [] = merged codes []
merged (None ∷ codes) (code ∷ asked) = code ∷ merged codes asked

abbrev pub all_refused : ℕ → List (Option ℕ) → Packet
all_refused identifier codes = packets.Suback (record { identifier = identifier; properties = []; reasons = merged codes [] })

abbrev pub subscribe_verdict : Bounds → Bool → Subscribe → Verdict
subscribe_verdict b full s =
    let codes = codes_of b full s.filters in
    if not full && list_all is_none codes then verdicts.Goes mends.Nothing
    else if list_all is_some codes then verdicts.Refused (Some (all_refused s.identifier codes))
    else verdicts.Becomes (packets.Subscribe (smaller b full s)) (mends.Suback s.identifier codes)

-- ---- Session Expiry Intervals

abbrev pub shorter_of : Option ℕ → Option ℕ → Option ℕ
shorter_of None asked = None
shorter_of (Some longest) None = None
shorter_of (Some longest) (Some asked) = if nat_lt longest asked then Some longest else None

-- the longest one, where a longer one is asked for
abbrev pub shorter : Bounds → List Property → Option ℕ
shorter b ps = shorter_of b.longest_expiry (first_four 17 ps)

abbrev pub four_of : ℕ → ℕ → Property
four_of id number = record { id = id; value = Four number }

-- the only property with this identifier is this number, behind the others
abbrev pub four_put : ℕ → ℕ → List Property → List Property
four_put id number ps = filter (λ p. not (p.id == id)) ps ++ four_of id number ∷ []

-- what CONNACK tells: the longest packet, and the interval that is used where that isn't what was asked for
abbrev pub told_of : Option ℕ → Option ℕ → Mend
told_of None None = mends.Nothing
told_of longest expiry = mends.Connack longest expiry

abbrev pub told_in : Bounds → Option ℕ → Mend
told_in b expiry = told_of b.longest_packet expiry

abbrev pub connect_by : Bounds → Connect → Option ℕ → Verdict
connect_by b c None = verdicts.Goes (told_in b None)
connect_by b c (Some expiry) = verdicts.Becomes (packets.Connect (record c { properties = four_put 17 expiry c.properties })) (told_in b (Some expiry))

abbrev pub connect_verdict : Bounds → Connect → Verdict
connect_verdict b c = connect_by b c (shorter b c.properties)

abbrev pub disconnect_by : Ended → Option ℕ → Verdict
disconnect_by e None = verdicts.Goes mends.Nothing
disconnect_by e (Some expiry) = verdicts.Becomes (packets.Disconnect (record e { properties = four_put 17 expiry e.properties })) mends.Nothing

abbrev pub disconnect_verdict : Bounds → Ended → Verdict
disconnect_verdict b e = disconnect_by e (shorter b e.properties)

-- ---- a packet

abbrev pub bounded : Bounds → Bool → Packet → Verdict
bounded b full (packets.Connect c) = connect_verdict b c
bounded b full (packets.Publish p) = publish_verdict b full p
bounded b full (packets.Subscribe s) = subscribe_verdict b full s
bounded b full (packets.Disconnect e) = disconnect_verdict b e
bounded b full p = verdicts.Goes mends.Nothing

-- ---- what answers it

abbrev pub put_if : ℕ → Option ℕ → List Property → List Property
put_if id None ps = ps
put_if id (Some number) ps = four_put id number ps

abbrev pub connack_mended : Option ℕ → Option ℕ → Connack → Connack
connack_mended longest expiry c = record c { properties = put_if 17 expiry (put_if 39 longest c.properties) }

abbrev pub suback_mended : List (Option ℕ) → Reasons → Reasons
suback_mended codes s = record s { reasons = merged codes s.reasons }

abbrev pub suback_if : Bool → List (Option ℕ) → Reasons → Option Packet
suback_if true codes s = Some (packets.Suback (suback_mended codes s))
suback_if false codes s = None

-- what goes out in place of a packet
abbrev pub mended : Mend → Packet → Option Packet
mended (mends.Connack longest expiry) (packets.Connack c) = Some (packets.Connack (connack_mended longest expiry c))
mended (mends.Suback identifier codes) (packets.Suback s) = suback_if (s.identifier == identifier) codes s
mended (mends.Disconnect reason) (packets.Disconnect e) = Some (packets.Disconnect (record e { reason = reason }))
mended mend p = None
