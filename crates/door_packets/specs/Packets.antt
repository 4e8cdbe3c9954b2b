-- What a client may do, packet by packet, and what is done for what it may not.
use Rattle.std.specs.Prelude.{ℕ, ◌==◌, ◌&&◌, not, List, [], ◌∷◌, ◌++◌, length, Bool, true, false, Option, Some, None, is_none, is_some, map, filter, count_by, if◌then◌else◌}
use Rattle.std.specs.List.{list_all}
use Rattle.std.specs.FinSet as set
use Rattle.std.specs.Ordering.{nat_cmp}
use Rattle.mqtt_fields.specs.Properties.{first_two}
use Rattle.mqtt_fields.specs.declared.options.Qos.{Qos}
use Rattle.mqtt_fields.specs.declared.options.Qos.TheVariants.{AtMostOnce, AtLeastOnce, ExactlyOnce}
use Rattle.mqtt_packets.specs.declared.connect.Connect.{Connect}
use Rattle.mqtt_packets.specs.declared.connect.Will.{Will}
use Rattle.mqtt_packets.specs.declared.packet.Packet.TheVariants as packets
use Rattle.mqtt_packets.specs.declared.publish.Publish.{Publish}
use Rattle.mqtt_packets.specs.declared.subscribe.Subscribe.{Subscribe}
use Rattle.mqtt_packets.specs.declared.subscribe.SubscribeFilter.{SubscribeFilter}
use Rattle.door_packets.specs.Answers.{puback, pubrec, suback}
use Rattle.door_packets.specs.Codes.{merged, refused_in}
use Rattle.door_packets.specs.Rights.{Rights}
use Rattle.door_packets.specs.declared.access.Admission.{Admission}
use Rattle.door_packets.specs.declared.access.Admission.TheVariants.{Admitted, WrongPassword, NoName}
use Rattle.door_packets.specs.declared.access.Login.{Login}
use Rattle.door_packets.specs.declared.step.Step.{Step}
use Rattle.door_packets.specs.declared.step.Step.TheVariants.{Tells, Asks, Acks, Subacks, Drops, Ends}

-- ---- CONNECT

abbrev pub login_of : Connect → Login
login_of c = record { user = c.user_name; client = c.client }

abbrev pub is_will_allowed : Rights → Login → Option Will → Bool
is_will_allowed r l None = true
is_will_allowed r l (Some w) = r.may_write l w.topic

-- 0x86 where the password is wrong; 0x87 where a name is missing, and where it may not take the identifier or publish its will
abbrev pub code_by : Rights → Connect → Admission → Option ℕ
code_by r c WrongPassword = Some 134
code_by r c NoName = Some 135
code_by r c Admitted = if r.may_connect (login_of c) && is_will_allowed r (login_of c) c.will then None else Some 135

-- the code with which a client isn't let in
abbrev pub connect_code : Rights → Connect → Option ℕ
connect_code r c = code_by r c (r.admission c.user_name c.password)

-- the same with Clean Start
abbrev pub cleaned : Connect → Connect
cleaned c = record c { clean_start = true }

-- ---- PUBLISH

abbrev pub Aliases : Type 0
Aliases = set.FinSet nat_cmp

-- 35: Topic Alias
abbrev pub alias_of : Publish → Option ℕ
alias_of p = first_two 35 p.properties

abbrev pub has_topic : Publish → Bool
has_topic p = not (length p.topic == 0)

abbrev pub is_alias_allowed : Aliases → Option ℕ → Bool
is_alias_allowed refused None = true
is_alias_allowed refused (Some alias) = not (set.contains refused alias)

-- to its topic, or to the one to which it gave its alias last
abbrev pub is_allowed : Rights → Login → Aliases → Publish → Bool
is_allowed r l refused p = if has_topic p then r.may_write l p.topic else is_alias_allowed refused (alias_of p)

abbrev pub aliases_with : Bool → ℕ → Aliases → Aliases
aliases_with allowed alias refused = if allowed then set.remove refused alias else set.insert refused alias

abbrev pub aliases_by : Bool → Option ℕ → Aliases → Aliases
aliases_by allowed None refused = refused
aliases_by allowed (Some alias) refused = aliases_with allowed alias refused

-- an alias stands for the topic to which it was given last, also where that may not be written
abbrev pub aliases_after : Bool → Publish → Aliases → Aliases
aliases_after allowed p refused = if has_topic p then aliases_by allowed (alias_of p) refused else refused

-- by its QoS: dropped, PUBACK, PUBREC; one at QoS 2 that comes again ends the connection, since its exchange may be open
abbrev pub refusal_at : Qos → Publish → Step
refusal_at AtMostOnce p = Drops
refusal_at AtLeastOnce p = Acks (puback p.identifier)
refusal_at ExactlyOnce p = if p.dup then Ends else Acks (pubrec p.identifier)

abbrev pub refusal : Publish → Step
refusal p = refusal_at p.qos p

abbrev pub publish_step : Bool → List ℕ → Publish → Step
publish_step allowed bytes p = if allowed then Tells bytes else refusal p

-- ---- SUBSCRIBE

abbrev pub is_asked : Rights → Login → SubscribeFilter → Bool
is_asked r l f = r.may_subscribe l f.filter

abbrev pub filter_code : Rights → Login → SubscribeFilter → Option ℕ
filter_code r l f = if is_asked r l f then None else Some 135

abbrev pub codes_of : Rights → Login → List SubscribeFilter → List (Option ℕ)
codes_of r l fs = map (filter_code r l) fs

abbrev pub smaller : Rights → Login → Subscribe → Subscribe
smaller r l s = record s { filters = filter (is_asked r l) s.filters }

abbrev pub suback_step : ℕ → List (Option ℕ) → Step
suback_step identifier codes = Subacks (suback identifier (merged codes [])) (refused_in codes)

abbrev pub subscribe_step : Rights → Login → List ℕ → Subscribe → Step
subscribe_step r l bytes s =
    let codes = codes_of r l s.filters in
    if list_all is_none codes then Tells bytes
    else if list_all is_some codes then suback_step s.identifier codes
    else Asks (packets.Subscribe (smaller r l s)) (Some (record { identifier = s.identifier; codes = codes }))
