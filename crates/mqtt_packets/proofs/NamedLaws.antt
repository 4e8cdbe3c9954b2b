-- Each fault of reading is one of the bytes: it isn't want of memory, and without a limit no packet is too large.
use Rattle.std.proofs.Common.{◌≡◌, ℕ, zero, suc, ◌-◌, ◌+◌, ◌*◌, Bool, true, false, cond, ltb, eqb, List, [], ◌∷◌, ◌++◌, length, take, drop, Option, Some, None, Result, Ok, Err}
use Rattle.std.specs.Prelude.{is_some, ◌==◌, nat_lt, not}
use Rattle.std.specs.Int.{Width, byte_len, from_be_bytes, w8, w16, w32}
use Rattle.mqtt_fields.specs.declared.fault.FieldFault.{FieldFault}
use Rattle.mqtt_fields.specs.declared.fault.FieldFault.TheVariants as fields
use Rattle.mqtt_fields.specs.declared.table.Place.{Place}
use Rattle.mqtt_fields.specs.declared.table.Place.TheVariants as places
use Rattle.mqtt_fields.specs.declared.table.ValueKind.{ValueKind}
use Rattle.mqtt_fields.specs.declared.table.ValueKind.TheVariants as kinds
use Rattle.mqtt_fields.specs.declared.value.Property.{Property}
use Rattle.mqtt_fields.specs.declared.value.Value.TheVariants.{Byte, Two, Four, Vbi, Text, Blob, Pair}
use Rattle.mqtt_fields.specs.Reading.{◌>>=◌}
use Rattle.mqtt_fields.specs.Field.{Field, after, tested, seen, variant}
use Rattle.mqtt_fields.specs.Numbers.{number, group_at, vbi, run_of, blob, text, pair, is_text}
use Rattle.mqtt_fields.specs.Table.{entry_of}
use Rattle.mqtt_fields.specs.Value.{value, as_byte, as_two, as_four, as_vbi, as_text, as_blob, as_pair}
use Rattle.mqtt_fields.specs.Block.{kind_in, is_here_in, is_new, identifier, property_of, parts_of, property, in_block, properties_at, properties}
use Rattle.mqtt_packets.specs.declared.fault.PacketFault.{PacketFault}
use Rattle.mqtt_packets.specs.declared.fault.PacketFault.TheVariants as faults
use Rattle.mqtt_packets.specs.declared.connect.ConnectFlags.{ConnectFlags}
use Rattle.mqtt_packets.specs.declared.head.Head.{Head}
use Rattle.mqtt_packets.specs.declared.head.Head.TheVariants as heads
use Rattle.mqtt_packets.specs.declared.head.PublishFlags.{PublishFlags}
use Rattle.mqtt_packets.specs.declared.packet.Packet.{Packet}
use Rattle.mqtt_packets.specs.declared.packet.Packet.TheVariants as packets
use Rattle.mqtt_packets.specs.Reading.{in_packet, field_at}
use Rattle.mqtt_packets.specs.Body.{Body, payload, only, then_, given, or_none, or_none_of, where_, many_at, many, valid, as_}
use Rattle.mqtt_packets.specs.Optional.{maybe}
use Rattle.mqtt_packets.specs.Connect.{flags_at, flags_read, connect_flags, is_mqtt, will, login, tail, connect_of, connect_parts, is_valid_connect, connect}
use Rattle.mqtt_packets.specs.Connack.{session_flag, connack_of, connack_parts, is_valid_connack, connack}
use Rattle.mqtt_packets.specs.Publish.{publish_of, publish_parts, is_valid_publish, publish}
use Rattle.mqtt_packets.specs.Head.{is_at_most_once, head_at}
use Rattle.mqtt_packets.specs.Ack.{is_plain, is_success, reason, ack_of, ack_parts, is_valid_ack, ack}
use Rattle.mqtt_packets.specs.Subscribe.{options, filter_of, filter_parts, subscribe_filter, subscribe_of, subscribe_parts, is_valid_subscribe, subscribe}
use Rattle.mqtt_packets.specs.Reasons.{reasons_of, reasons_parts, is_valid_reasons, reasons}
use Rattle.mqtt_packets.specs.Unsubscribe.{unsubscribe_of, unsubscribe_parts, is_valid_unsubscribe, unsubscribe}
use Rattle.mqtt_packets.specs.Ended.{ended_of, ended_parts, is_valid_ended, ended}
use Rattle.mqtt_packets.specs.Packet.{nothing, body_of}
use Rattle.mqtt_packets.specs.Stream.{inside_at, with_head, header_after, header_at, body_at, packet_at}

-- a field's fault isn't want of memory
abbrev Named : {A : Type 0} → Result A FieldFault → Type 0
Named (Ok x) = Unit {0}
Named (Err fields.Short) = Unit {0}
Named (Err fields.Malformed) = Unit {0}
Named (Err fields.Repeated) = Unit {0}
Named (Err fields.NotHere) = Unit {0}
Named (Err fields.NoMemory) = ⊥

record IsNamed {A : Type 0} (f : Field A) : Type 0 where
  named : (bs : List ℕ) → Named (f.at bs)

named_bind : {A B : Type 0} (r : Result A FieldFault) (next : A → Result B FieldFault) → Named r → ((a : A) → Named (next a)) → Named (r >>= next)
named_bind (Ok x) next h n = n x
named_bind (Err fields.Short) next h n = tt
named_bind (Err fields.Malformed) next h n = tt
named_bind (Err fields.Repeated) next h n = tt
named_bind (Err fields.NotHere) next h n = tt
named_bind (Err fields.NoMemory) next h n = absurd h

named_else : {A : Type 0} (t : Bool) (r s : Result A FieldFault) → Named r → Named s → Named (cond t r s)
named_else true r s h k = h
named_else false r s h k = k

run_named : (n : ℕ) → IsNamed (run_of n)
run_named n = record { named = λ bs. named_else (ltb (length bs) n) (Err fields.Short) (Ok (take n bs, drop n bs)) tt tt }

number_named : (w : Width) → IsNamed (number w)
number_named w = record { named = λ bs. named_else (ltb (length bs) (byte_len w)) (Err fields.Short) (Ok (from_be_bytes w (take (byte_len w) bs), drop (byte_len w) bs)) tt tt }

groups_named : (k : ℕ) (bs : List ℕ) → Named (group_at k bs)
groups_named zero [] = tt
groups_named (suc k) [] = tt
groups_named zero (b ∷ bs) = named_else (ltb b 128) (Ok (b, bs)) (Err fields.Malformed) tt tt
groups_named (suc k) (b ∷ bs) =
    let checked : ℕ × List ℕ → Result (ℕ × List ℕ) FieldFault = λ high. cond (eqb high.0 0) (Err fields.Malformed) (Ok (b - 128 + 128 * high.0, high.1)) in
    named_else (ltb b 128) (Ok (b, bs)) (group_at k bs >>= checked) tt
    (named_bind (group_at k bs) checked (groups_named k bs) (λ high. named_else (eqb high.0 0) (Err fields.Malformed) (Ok (b - 128 + 128 * high.0, high.1)) tt tt))

vbi_named : IsNamed vbi
vbi_named = record { named = groups_named 3 }

after_named : {A B : Type 0} (f : Field A) (g : A → Field B) → IsNamed f → ((a : A) → IsNamed (g a)) → IsNamed (after f g)
after_named f g F G = record {
  named = λ bs.
      named_bind (f.at bs) (λ a. (g a.0).at a.1 >>= λ b. Ok ((a.0, b.0), b.1)) (F.named bs) (λ a. named_bind ((g a.0).at a.1) (λ b. Ok ((a.0, b.0), b.1)) ((G a.0).named a.1) (λ b. tt));
}

tested_named : {A : Type 0} (test : A → Bool) (fault : FieldFault) (f : Field A) → Named {A = A × List ℕ} (Err fault) → IsNamed f → IsNamed (tested test fault f)
tested_named test fault f h F = record { named = λ bs. named_bind (f.at bs) (λ a. cond (test a.0) (Ok a) (Err fault)) (F.named bs) (λ a. named_else (test a.0) (Ok a) (Err fault) tt h) }

seen_named : {A B : Type 0} (to : A → B) (from : B → A) (f : Field A) → IsNamed f → IsNamed (seen to from f)
seen_named to from f F = record { named = λ bs. named_bind (f.at bs) (λ a. Ok (to a.0, a.1)) (F.named bs) (λ a. tt) }

variant_named : {A B : Type 0} (to : A → B) (from : B → Option A) (f : Field A) → IsNamed f → IsNamed (variant to from f)
variant_named to from f F = record { named = λ bs. named_bind (f.at bs) (λ a. Ok (to a.0, a.1)) (F.named bs) (λ a. tt) }

maybe_named : {A : Type 0} (b : Bool) (f : Field A) → IsNamed f → IsNamed (maybe b f)
maybe_named true f F = record { named = λ bs. named_bind (f.at bs) (λ a. Ok (Some a.0, a.1)) (F.named bs) (λ a. tt) }
maybe_named false f F = record { named = λ bs. tt }

blob_named : IsNamed blob
blob_named = record { named = λ bs. named_bind ((number w16).at bs) (λ n. (run_of n.0).at n.1) ((number_named w16).named bs) (λ n. (run_named n.0).named n.1) }

text_named : IsNamed text
text_named = tested_named is_text fields.Malformed blob tt blob_named

value_named : (kind : ValueKind) → IsNamed (value kind)
value_named kinds.Byte = variant_named Byte as_byte (number w8) (number_named w8)
value_named kinds.Two = variant_named Two as_two (number w16) (number_named w16)
value_named kinds.Four = variant_named Four as_four (number w32) (number_named w32)
value_named kinds.Vbi = variant_named Vbi as_vbi vbi vbi_named
value_named kinds.Text = variant_named Text as_text text text_named
value_named kinds.Blob = variant_named Blob as_blob blob blob_named
value_named kinds.Pair = variant_named (λ x. Pair x.0 x.1) as_pair pair (after_named text (λ _. text) text_named (λ _. text_named))

identifier_named : (place : Place) (before : List Property) → IsNamed (identifier place before)
identifier_named place before =
    let known : Field ℕ = tested (λ id. is_some (entry_of id)) fields.Malformed (number w8) in
    let here : Field ℕ = tested (λ id. is_here_in place (entry_of id)) fields.NotHere known in
    tested_named (is_new place before) fields.Repeated here tt
    (tested_named (λ id. is_here_in place (entry_of id)) fields.NotHere known tt (tested_named (λ id. is_some (entry_of id)) fields.Malformed (number w8) tt (number_named w8)))

property_named : (place : Place) (before : List Property) → IsNamed (property place before)
unfolding property
property_named place before =
    seen_named property_of parts_of (after (identifier place before) (λ id. value (kind_in (entry_of id)))) (after_named (identifier place before) (λ id. value (kind_in (entry_of id))) (identifier_named place before) (λ id. value_named (kind_in (entry_of id))))

block_named : {A : Type 0} (r : Result A FieldFault) → Named r → Named (in_block r)
block_named (Ok x) h = tt
block_named (Err fields.Short) h = tt
block_named (Err fields.Malformed) h = tt
block_named (Err fields.Repeated) h = tt
block_named (Err fields.NotHere) h = tt
block_named (Err fields.NoMemory) h = absurd h

all_named : (place : Place) (k : ℕ) (before : List Property) (bs : List ℕ) → Named (properties_at place k before bs)
unfolding properties_at
all_named place zero before [] = tt
all_named place (suc k) before [] = tt
all_named place zero before (b ∷ bs) = tt
all_named place (suc k) before (b ∷ bs) =
    named_bind (in_block ((property place before).at (b ∷ bs))) (λ p. properties_at place k (before ++ p.0 ∷ []) p.1) (block_named ((property place before).at (b ∷ bs)) ((property_named place before).named (b ∷ bs))) (λ p. all_named place k (before ++ p.0 ∷ []) p.1)

properties_named : (place : Place) → IsNamed (properties place)
unfolding properties
properties_named place = record {
  named = λ bs.
      named_bind (vbi.at bs) (λ n. (run_of n.0).at n.1 >>= λ block. properties_at place (length block.0) [] block.0 >>= λ ps. Ok (ps, block.1)) (vbi_named.named bs)
      (λ n. named_bind ((run_of n.0).at n.1) (λ block. properties_at place (length block.0) [] block.0 >>= λ ps. Ok (ps, block.1)) ((run_named n.0).named n.1)
      (λ block. named_bind (properties_at place (length block.0) [] block.0) (λ ps. Ok (ps, block.1)) (all_named place (length block.0) [] block.0) (λ ps. tt)));
}

-- a fault of the grammar of packets
abbrev Grammatical : {A : Type 0} → Result A PacketFault → Type 0
Grammatical (Ok x) = Unit {0}
Grammatical (Err faults.Malformed) = Unit {0}
Grammatical (Err faults.ProtocolError) = Unit {0}
Grammatical (Err faults.WrongVersion) = Unit {0}
Grammatical (Err faults.TooLarge) = ⊥
Grammatical (Err faults.NoMemory) = ⊥

record IsGrammatical {A : Type 0} (f : Body A) : Type 0 where
  gram : (bs : List ℕ) → Grammatical (f.of bs)

lift : {A : Type 0} (r : Result A FieldFault) → Named r → Grammatical (in_packet r)
lift (Ok x) h = tt
lift (Err fields.Short) h = tt
lift (Err fields.Malformed) h = tt
lift (Err fields.Repeated) h = tt
lift (Err fields.NotHere) h = tt
lift (Err fields.NoMemory) h = absurd h

gram_bind : {A B : Type 0} (r : Result A PacketFault) (next : A → Result B PacketFault) → Grammatical r → ((a : A) → Grammatical (next a)) → Grammatical (r >>= next)
gram_bind (Ok x) next h n = n x
gram_bind (Err faults.Malformed) next h n = tt
gram_bind (Err faults.ProtocolError) next h n = tt
gram_bind (Err faults.WrongVersion) next h n = tt
gram_bind (Err faults.TooLarge) next h n = absurd h
gram_bind (Err faults.NoMemory) next h n = absurd h

gram_else : {A : Type 0} (t : Bool) (r s : Result A PacketFault) → Grammatical r → Grammatical s → Grammatical (cond t r s)
gram_else true r s h k = h
gram_else false r s h k = k

payload_gram : IsGrammatical payload
payload_gram = record { gram = λ bs. tt }

only_gram : {A : Type 0} (f : Field A) → IsNamed f → IsGrammatical (only f)
only_gram f F = record { gram = λ bs. gram_bind (field_at f bs) (λ a. cond (length a.1 == 0) (Ok a.0) (Err faults.Malformed)) (lift (f.at bs) (F.named bs)) (λ a. gram_else (length a.1 == 0) (Ok a.0) (Err faults.Malformed) tt tt) }

then_gram : {A B : Type 0} (f : Field A) (g : A → Body B) → IsNamed f → ((a : A) → IsGrammatical (g a)) → IsGrammatical (then_ f g)
then_gram f g F G = record { gram = λ bs. gram_bind (field_at f bs) (λ a. (g a.0).of a.1 >>= λ b. Ok (a.0, b)) (lift (f.at bs) (F.named bs)) (λ a. gram_bind ((g a.0).of a.1) (λ b. Ok (a.0, b)) ((G a.0).gram a.1) (λ b. tt)) }

given_gram : {A : Type 0} (b : Bool) (fault : PacketFault) (f : Body A) → Grammatical {A = A} (Err fault) → IsGrammatical f → IsGrammatical (given b fault f)
given_gram b fault f h F = record { gram = λ bs. gram_else b (f.of bs) (Err fault) (F.gram bs) h }

none_gram : {A : Type 0} (a : A) (f : Body A) → IsGrammatical f → (bs : List ℕ) → Grammatical (or_none_of a f bs)
none_gram a f F [] = tt
none_gram a f F (b ∷ bs) = F.gram (b ∷ bs)

or_none_gram : {A : Type 0} (a : A) (is_a : A → Bool) (f : Body A) → IsGrammatical f → IsGrammatical (or_none a is_a f)
or_none_gram a is_a f F = record { gram = none_gram a f F }

where_gram : {A B : Type 0} (b : Bool) (a : A) (f : Field A) (g : Body B) → IsNamed f → IsGrammatical g → IsGrammatical (where_ b a f g)
where_gram true a f g F G = then_gram f (λ _. g) F (λ _. G)
where_gram false a f g F G = record { gram = λ bs. gram_bind (g.of bs) (λ y. Ok (a, y)) (G.gram bs) (λ y. tt) }

many_at_gram : {A : Type 0} (f : Field A) → IsNamed f → (k : ℕ) (before : List A) (bs : List ℕ) → Grammatical (many_at f k before bs)
unfolding many_at
many_at_gram f F zero before [] = tt
many_at_gram f F (suc k) before [] = tt
many_at_gram f F zero before (b ∷ bs) = tt
many_at_gram f F (suc k) before (b ∷ bs) = gram_bind (field_at f (b ∷ bs)) (λ a. many_at f k (before ++ a.0 ∷ []) a.1) (lift (f.at (b ∷ bs)) (F.named (b ∷ bs))) (λ a. many_at_gram f F k (before ++ a.0 ∷ []) a.1)

many_gram : {A : Type 0} (f : Field A) → IsNamed f → IsGrammatical (many f)
many_gram f F = record { gram = λ bs. many_at_gram f F (length bs) [] bs }

-- values are tested, and seen as another type
made_gram : {A B : Type 0} (test : B → Bool) (to : A → B) (from : B → A) (f : Body A) → IsGrammatical f → IsGrammatical (valid test faults.ProtocolError (as_ to from f))
made_gram test to from f F = record {
  gram = λ bs.
      gram_bind ((as_ to from f).of bs) (λ a. cond (test a) (Ok a) (Err faults.ProtocolError)) (gram_bind (f.of bs) (λ a. Ok (to a)) (F.gram bs) (λ a. tt))
      (λ a. gram_else (test a) (Ok a) (Err faults.ProtocolError) tt tt);
}

named_flags : (x : ℕ × List ℕ) (o : Option ConnectFlags) → Named (flags_read x o)
named_flags x None = tt
named_flags x (Some f) = tt

flags_named : IsNamed connect_flags
unfolding connect_flags
flags_named = record { named = λ bs. named_bind ((number w8).at bs) (λ n. flags_read n (flags_at n.0)) ((number_named w8).named bs) (λ n. named_flags n (flags_at n.0)) }

will_named : IsNamed will
unfolding will
will_named = after_named (properties places.Will) (λ _. after text (λ _. blob)) (properties_named places.Will) (λ _. after_named text (λ _. blob) text_named (λ _. blob_named))

login_named : (f : ConnectFlags) → IsNamed (login f)
unfolding login
login_named f = after_named (maybe f.user_name text) (λ _. maybe f.password blob) (maybe_named f.user_name text text_named) (λ _. maybe_named f.password blob blob_named)

tail_named : (f : ConnectFlags) → IsNamed (tail f)
unfolding tail
tail_named f = after_named text (λ _. after (maybe (is_some f.will) will) (λ _. login f)) text_named (λ _. after_named (maybe (is_some f.will) will) (λ _. login f) (maybe_named (is_some f.will) will will_named) (λ _. login_named f))

connect_gram : IsGrammatical connect
unfolding connect
connect_gram = made_gram is_valid_connect connect_of connect_parts _
    (then_gram text _ text_named (λ name. then_gram (number w8) _ (number_named w8) (λ version. given_gram (is_mqtt name version) faults.WrongVersion _ tt
    (then_gram connect_flags _ flags_named (λ flags. then_gram (number w16) _ (number_named w16) (λ _. then_gram (properties places.Connect) _ (properties_named places.Connect) (λ _. only_gram (tail flags) (tail_named flags))))))))

session_named : IsNamed session_flag
session_named = tested_named (λ n. nat_lt n 2) fields.Malformed (number w8) tt (number_named w8)

connack_gram : IsGrammatical connack
unfolding connack
connack_gram = made_gram is_valid_connack connack_of connack_parts _ (then_gram session_flag _ session_named (λ _. then_gram (number w8) _ (number_named w8) (λ _. only_gram (properties places.Connack) (properties_named places.Connack))))

publish_gram : (f : PublishFlags) → IsGrammatical (publish f)
unfolding publish
publish_gram f = made_gram is_valid_publish (publish_of f) publish_parts _ (then_gram text _ text_named (λ _. where_gram (not (is_at_most_once f.qos)) 0 (number w16) _ (number_named w16) (then_gram (properties places.Publish) _ (properties_named places.Publish) (λ _. payload_gram))))

reason_gram : (place : Place) → IsGrammatical (reason place)
unfolding reason
reason_gram place = or_none_gram (0, []) is_success _ (then_gram (number w8) _ (number_named w8) (λ _. or_none_gram [] is_plain _ (only_gram (properties place) (properties_named place))))

ack_gram : (place : Place) → IsGrammatical (ack place)
unfolding ack
ack_gram place = made_gram is_valid_ack ack_of ack_parts _ (then_gram (number w16) _ (number_named w16) (λ _. reason_gram place))

filter_named : IsNamed subscribe_filter
filter_named = seen_named filter_of filter_parts (after text (λ _. options)) (after_named text (λ _. options) text_named (λ _. tested_named (λ n. nat_lt n 64) fields.Malformed (number w8) tt (number_named w8)))

subscribe_gram : IsGrammatical subscribe
unfolding subscribe
subscribe_gram = made_gram is_valid_subscribe subscribe_of subscribe_parts _ (then_gram (number w16) _ (number_named w16) (λ _. then_gram (properties places.Subscribe) _ (properties_named places.Subscribe) (λ _. many_gram subscribe_filter filter_named)))

reasons_gram : (place : Place) → IsGrammatical (reasons place)
unfolding reasons
reasons_gram place = made_gram is_valid_reasons reasons_of reasons_parts _ (then_gram (number w16) _ (number_named w16) (λ _. then_gram (properties place) _ (properties_named place) (λ _. payload_gram)))

unsubscribe_gram : IsGrammatical unsubscribe
unfolding unsubscribe
unsubscribe_gram = made_gram is_valid_unsubscribe unsubscribe_of unsubscribe_parts _ (then_gram (number w16) _ (number_named w16) (λ _. then_gram (properties places.Unsubscribe) _ (properties_named places.Unsubscribe) (λ _. many_gram text text_named)))

ended_gram : (place : Place) → IsGrammatical (ended place)
unfolding ended
ended_gram place = made_gram is_valid_ended ended_of ended_parts _ (reason_gram place)

kind_gram : {A : Type 0} (f : Body A) (to : A → Packet) (bs : List ℕ) → IsGrammatical f → Grammatical (f.of bs >>= λ a. Ok (to a))
kind_gram f to bs F = gram_bind (f.of bs) (λ a. Ok (to a)) (F.gram bs) (λ a. tt)

nothing_gram : (p : Packet) (bs : List ℕ) → Grammatical (nothing p bs)
nothing_gram p bs = gram_else (length bs == 0) (Ok p) (Err faults.Malformed) tt tt

body_gram : (h : Head) (bs : List ℕ) → Grammatical (body_of h bs)
unfolding body_of
body_gram heads.Connect bs = kind_gram connect packets.Connect bs connect_gram
body_gram heads.Connack bs = kind_gram connack packets.Connack bs connack_gram
body_gram (heads.Publish f) bs = kind_gram (publish f) packets.Publish bs (publish_gram f)
body_gram heads.Puback bs = kind_gram (ack places.Puback) packets.Puback bs (ack_gram places.Puback)
body_gram heads.Pubrec bs = kind_gram (ack places.Pubrec) packets.Pubrec bs (ack_gram places.Pubrec)
body_gram heads.Pubrel bs = kind_gram (ack places.Pubrel) packets.Pubrel bs (ack_gram places.Pubrel)
body_gram heads.Pubcomp bs = kind_gram (ack places.Pubcomp) packets.Pubcomp bs (ack_gram places.Pubcomp)
body_gram heads.Subscribe bs = kind_gram subscribe packets.Subscribe bs subscribe_gram
body_gram heads.Suback bs = kind_gram (reasons places.Suback) packets.Suback bs (reasons_gram places.Suback)
body_gram heads.Unsubscribe bs = kind_gram unsubscribe packets.Unsubscribe bs unsubscribe_gram
body_gram heads.Unsuback bs = kind_gram (reasons places.Unsuback) packets.Unsuback bs (reasons_gram places.Unsuback)
body_gram heads.Pingreq bs = nothing_gram packets.Pingreq bs
body_gram heads.Pingresp bs = nothing_gram packets.Pingresp bs
body_gram heads.Disconnect bs = kind_gram (ended places.Disconnect) packets.Disconnect bs (ended_gram places.Disconnect)
body_gram heads.Auth bs = kind_gram (ended places.Auth) packets.Auth bs (ended_gram places.Auth)

inside_gram : (r : Result (ℕ × List ℕ) FieldFault) → Named r → Grammatical (inside_at r)
inside_gram (Ok n) h = tt
inside_gram (Err fields.Short) h = tt
inside_gram (Err fields.Malformed) h = tt
inside_gram (Err fields.Repeated) h = tt
inside_gram (Err fields.NotHere) h = tt
inside_gram (Err fields.NoMemory) h = absurd h

after_gram : (o : Option Head) (bs : List ℕ) → Grammatical (header_after o bs)
after_gram None bs = tt
after_gram (Some h) bs = gram_bind (inside_at (vbi.at bs)) (λ o. Ok (with_head h o)) (inside_gram (vbi.at bs) (vbi_named.named bs)) (λ o. tt)

pub header_gram : (bs : List ℕ) → Grammatical (header_at bs)
unfolding header_at
header_gram [] = tt
header_gram (b ∷ bs) = after_gram (head_at b) bs

in_body_gram : (o : Option (Head × ℕ × List ℕ)) → Grammatical (body_at o)
in_body_gram None = tt
in_body_gram (Some h) =
    let read : Result (Option (Packet × List ℕ)) PacketFault = body_of h.0 (take h.1 h.2) >>= λ p. Ok (Some (p, drop h.1 h.2)) in
    gram_else (ltb (length h.2) h.1) (Ok None) read tt (gram_bind (body_of h.0 (take h.1 h.2)) (λ p. Ok (Some (p, drop h.1 h.2))) (body_gram h.0 (take h.1 h.2)) (λ p. tt))

packet_gram : (bs : List ℕ) → Grammatical (packet_at bs)
unfolding packet_at
packet_gram bs = gram_bind (header_at bs) body_at (header_gram bs) in_body_gram

-- so of no bytes the fault is want of memory, or that they are too many
pub never_out : (bs : List ℕ) → packet_at bs ≡ Err faults.NoMemory → ⊥
never_out bs e = let g = packet_gram bs in rw e at g

pub never_large : (bs : List ℕ) → packet_at bs ≡ Err faults.TooLarge → ⊥
never_large bs e = let g = packet_gram bs in rw e at g
