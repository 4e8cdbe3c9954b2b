-- Each packet of a reaction has a spelling.
use Rattle.std.proofs.Common.{◌≡◌, ℕ, zero, suc, ◌≤◌, ◌<◌, Bool, true, false, cond, List, [], ◌∷◌, length, Option, Some, None, Result, Ok, Err, refl, inl, inr, arith}
use Rattle.std.specs.Prelude.{◌≢◌, ◌==◌, not, IfOk, is_some, replicate}
use Rattle.std.specs.List.{AllByRecursion}
use Rattle.std.proofs.lemmas.Bool.{cases_Bool, false≢true, leb-true}
use Rattle.mqtt_fields.specs.declared.options.Qos.{Qos}
use Rattle.mqtt_fields.specs.declared.options.Qos.TheVariants.{AtMostOnce, AtLeastOnce, ExactlyOnce}
use Rattle.mqtt_packets.specs.declared.packet.Packet.{Packet}
use Rattle.mqtt_packets.specs.declared.packet.Packet.TheVariants as packets
use Rattle.mqtt_packets.specs.declared.publish.Publish.{Publish}
use Rattle.mqtt_packets.specs.declared.subscribe.Subscribe.{Subscribe}
use Rattle.mqtt_packets.specs.declared.unsubscribe.Unsubscribe.{Unsubscribe}
use Rattle.mqtt_packets.specs.declared.ack.Ack.{Ack}
use Rattle.mqtt_packets.specs.Written.{HasSpelling, written}
use Rattle.mqtt_message.specs.declared.delivery.Delivery.{Delivery}
use Rattle.mqtt_message.specs.declared.message.Message.{Message}
use Rattle.mqtt_message.specs.Laws.{SentIsSpelled}
use Rattle.mqtt_message.specs.Sent.{sent, IsSentLength, IsIdentifierAt, IsDupAt}
use Rattle.mqtt_message.specs.Spellings.{delivery}
use Rattle.qos_handshakes.specs.declared.answers.In.{In}
use Rattle.qos_handshakes.specs.declared.answers.In.TheVariants.{New, Repeat, InUse, OverMaximum}
use Rattle.qos_handshakes.specs.Incoming.{opened}
use Rattle.qos_handshakes.specs.Length.{length_of}
use Rattle.qos_handshakes.specs.Outbox.{fits as takes}
use Rattle.mqtt_sessions.specs.declared.link.Asked.{Asked}
use Rattle.mqtt_sessions.specs.declared.link.Asked.TheVariants.{Subscribing, Unsubscribing}
use Rattle.mqtt_sessions.specs.declared.reaction.Ask.{Ask}
use Rattle.mqtt_sessions.specs.Answers.{puback, pubrec, pubrel, pubcomp, suback, unsuback, fits}
use Rattle.mqtt_sessions.specs.Arriving.{refusal, message_in, setting, publish_by, passes_by, publish_outcome, once_by, twice_by, arrival_once, arrival_twice, after_twice, is_unwelcome, pubrel_outcome, release_code}
use Rattle.mqtt_sessions.specs.Asking.{SubscribeStep, subscribed, unsubscribed, answer_of}
use Rattle.mqtt_sessions.specs.Reaction.{Reaction, Outcome, Comes, AreSpelled, answered, pubrels_of}
use Rattle.mqtt_sessions.specs.Sending.{is_once}
use Rattle.mqtt_sessions.specs.State.{State, aliases_of}
use Rattle.mqtt_sessions.proofs.SpelledLaws.{IsShort, IsIdentifier, IsAnswered, puback_spelled, pubrec_spelled, pubrel_spelled, pubcomp_spelled, pingresp_spelled, suback_spelled, unsuback_spelled, some_codes, publish_identified, pubrel_identified, subscribe_asks, unsubscribe_asks}

-- ---- a copy at QoS 0
once_identified : (q : Qos) → is_once q ≡ true → IsIdentifierAt q 0
once_identified AtMostOnce is = refl
once_identified AtLeastOnce is = absurd (false≢true is)
once_identified ExactlyOnce is = absurd (false≢true is)

once_first : (q : Qos) → is_once q ≡ true → IsDupAt q false
once_first AtMostOnce is = refl
once_first AtLeastOnce is = tt
once_first ExactlyOnce is = tt

length-is : (d : Delivery) (now n : ℕ) → IsSentLength d now n → n ≡ length_of now d
unfolding length_of
length-is d now n is = is false 0

pub once_spelled : (now limit n : ℕ) (d : Delivery) → is_once d.qos ≡ true → takes now limit d ≡ true → limit ≤ 268435460 → delivery.Fits d → IsSentLength d now n → SentIsSpelled → HasSpelling (packets.Publish (sent d now false 0))
once_spelled now limit n d once taken most fits is law =
    let same = length-is d now n is in
    let short : length_of now d ≤ limit = leb-true (length_of now d) limit taken in
    (law d now n false 0 fits is).1 (record { identified = once_identified d.qos once; again = once_first d.qos once; short = omega (arith, same, short, most) })

-- ---- PUBRELs
pub pubrels_spelled : (now : ℕ) (ids : List ℕ) → AllByRecursion IsIdentifier ids → AreSpelled now (pubrels_of ids)
pubrels_spelled now [] all = tt
pubrels_spelled now (id ∷ ids) all = (pubrel_spelled id 0 all.0 (omega arith), pubrels_spelled now ids all.1)

-- ---- an answer that is sent where it fits
abbrev pub AreSpelledIn : ℕ → Outcome → Type 0
AreSpelledIn now o = AreSpelled now o.reaction.packets

answered_in : (now limit : ℕ) (p : Packet) (ask : Option Ask) (s : State) → limit ≤ 268435460 → (IsShort p → HasSpelling p) → AreSpelledIn now (answered limit p ask s)
answered_in now limit p ask s most can = elim (cases_Bool (fits limit p)) [
  | inl t ↦ rw t (can (let le : length (written p) ≤ limit = leb-true (length (written p)) limit t in omega (arith, le, most)), tt)
  | inr f ↦ rw f tt
]

pub answered_spelled : {E : Type 0} (limit : ℕ) (p : Packet) (ask : Option Ask) (s new : State) (result : Result Reaction E) → limit ≤ 268435460 → (IsShort p → HasSpelling p) → IfOk result (λ r. Comes (answered limit p ask s) r new)
    → IfOk result (λ r. (now : ℕ) → AreSpelled now r.packets)
answered_spelled limit p ask s new (Ok r) most can comes = λ now. rw comes.0 (answered_in now limit p ask s most can)
answered_spelled limit p ask s new (Err e) most can comes = comes

-- ---- PUBLISH
module _ (now limit id : ℕ) (most : limit ≤ 268435460) (is : IsIdentifier id) where
  once_in : (a : In) (unwelcome : Bool) (m : Message) (s : State) → AreSpelledIn now (once_by a unwelcome limit id m s)
  once_in OverMaximum unwelcome m s = tt
  once_in InUse unwelcome m s = answered_in now limit (puback id 145) _ s most (λ _. puback_spelled id 145 is (omega arith))
  once_in Repeat unwelcome m s = answered_in now limit (puback id 145) _ s most (λ _. puback_spelled id 145 is (omega arith))
  once_in New true m s = answered_in now limit (puback id 151) _ s most (λ _. puback_spelled id 151 is (omega arith))
  once_in New false m s = answered_in now limit (puback id 0) _ s most (λ _. puback_spelled id 0 is (omega arith))

  twice_in : (a : In) (unwelcome : Bool) (m : Message) (s : State) → AreSpelledIn now (twice_by a unwelcome limit id m s)
  twice_in OverMaximum unwelcome m s = tt
  twice_in InUse unwelcome m s = answered_in now limit (pubrec id 0) _ s most (λ _. pubrec_spelled id 0 is (omega arith))
  twice_in Repeat unwelcome m s = answered_in now limit (pubrec id 0) _ s most (λ _. pubrec_spelled id 0 is (omega arith))
  twice_in New true m s = answered_in now limit (pubrec id 151) _ s most (λ _. pubrec_spelled id 151 is (omega arith))
  twice_in New false m s = answered_in now limit (pubrec id 0) _ s most (λ _. pubrec_spelled id 0 is (omega arith))

passes_in : (q : Qos) (p : Publish) (unwelcome : Bool) (now limit : ℕ) (m : Message) (s : State) → limit ≤ 268435460 → IsAnswered q p.identifier → AreSpelledIn now (passes_by q p unwelcome limit m s)
passes_in AtMostOnce p unwelcome now limit m s most is = tt
passes_in AtLeastOnce p unwelcome now limit m s most is = once_in now limit p.identifier most is (arrival_once s.incoming p.identifier) unwelcome m s
passes_in ExactlyOnce p unwelcome now limit m s most is =
    let a = arrival_twice s.incoming p.identifier in
    twice_in now limit p.identifier most is a unwelcome m (record s { incoming = after_twice a unwelcome p.identifier s.incoming })

publish_in : (why : Option ℕ) (p : Publish) (now : ℕ) (room : Bool) (limit : ℕ) (s : State) → limit ≤ 268435460 → HasSpelling (packets.Publish p) → AreSpelledIn now (publish_by why p now room limit s)
publish_in (Some code) p now room limit s most h = tt
publish_in None p now room limit s most h = passes_in p.qos p (is_unwelcome p room) now limit (message_in p now (setting p s)) (setting p s) most (publish_identified p h)

pub publish_spelled : {E : Type 0} (p : Publish) (now : ℕ) (room : Bool) (limit : ℕ) (s new : State) (result : Result Reaction E) → limit ≤ 268435460 → HasSpelling (packets.Publish p) → IfOk result (λ r. Comes (publish_outcome p now room limit s) r new)
    → IfOk result (λ r. AreSpelled now r.packets)
publish_spelled p now room limit s new (Ok r) most h comes = rw comes.0 (publish_in (refusal (aliases_of s.link) p) p now room limit s most h)
publish_spelled p now room limit s new (Err e) most h comes = comes

-- ---- PUBREL
code_small : (b : Bool) → cond b 0 146 < 256
code_small true = omega arith
code_small false = omega arith

pub release_spelled : {E : Type 0} (a : Ack) (now limit : ℕ) (s new : State) (result : Result Reaction E) → limit ≤ 268435460 → HasSpelling (packets.Pubrel a) → IfOk result (λ r. Comes (pubrel_outcome a.identifier limit s) r new)
    → IfOk result (λ r. AreSpelled now r.packets)
release_spelled a now limit s new (Ok r) most h comes =
    rw comes.0 (answered_in now limit (pubcomp a.identifier (release_code s.incoming a.identifier)) _ _ most (λ _. pubcomp_spelled a.identifier (release_code s.incoming a.identifier) (pubrel_identified a h) (code_small (is_some (opened a.identifier s.incoming)))))
release_spelled a now limit s new (Err e) most h comes = comes

-- ---- PUBREC
pub pubrec_answered : {E : Type 0} (id code now limit : ℕ) (s new : State) (result : Result Reaction E) → limit ≤ 268435460 → IsIdentifier id → code < 256 → IfOk result (λ r. Comes (answered limit (pubrel id code) None s) r new)
    → IfOk result (λ r. AreSpelled now r.packets)
pubrec_answered id code now limit s new (Ok r) most is below comes = rw comes.0 (answered_in now limit (pubrel id code) _ _ most (λ _. pubrel_spelled id code is below))
pubrec_answered id code now limit s new (Err e) most is below comes = comes

-- ---- SUBSCRIBE and UNSUBSCRIBE
as_many : (n : ℕ) → not (n == 0) ≡ true → not (length {A = ℕ} (replicate n 145) == 0) ≡ true
as_many zero some = some
as_many (suc n) some = some_codes (replicate (suc n) 145) (λ e. cc)

subscribed_in : (p : Subscribe) (now limit : ℕ) (s : State) → limit ≤ 268435460 → HasSpelling (packets.Subscribe p) → AreSpelledIn now (subscribed p limit s)
subscribed_in p now limit s most h =
    let asks = subscribe_asks p h in
    elim (cases_Bool (is_some (opened p.identifier s.incoming))) [
      | inl t ↦ rw t (answered_in now limit (suback p.identifier (replicate (length p.filters) 145)) _ _ most (suback_spelled p.identifier (replicate (length p.filters) 145) asks.0 (as_many (length p.filters) asks.1)))
      | inr f ↦ rw f tt
    ]

pub subscribe_spelled : {E : Type 0} (p : Subscribe) (now limit : ℕ) (s new : State) (result : Result Reaction E) → limit ≤ 268435460 → HasSpelling (packets.Subscribe p) → IfOk result (λ r. SubscribeStep p limit s r new)
    → IfOk result (λ r. AreSpelled now r.packets)
subscribe_spelled p now limit s new (Ok r) most h (inl breaks) = rw breaks.1.0 tt
subscribe_spelled p now limit s new (Ok r) most h (inr keeps) = rw keeps.1.0 (subscribed_in p now limit s most h)
subscribe_spelled p now limit s new (Err e) most h step = step

unsubscribed_in : (p : Unsubscribe) (now limit : ℕ) (s : State) → limit ≤ 268435460 → HasSpelling (packets.Unsubscribe p) → AreSpelledIn now (unsubscribed p limit s)
unsubscribed_in p now limit s most h =
    let asks = unsubscribe_asks p h in
    elim (cases_Bool (is_some (opened p.identifier s.incoming))) [
      | inl t ↦ rw t (answered_in now limit (unsuback p.identifier (replicate (length p.filters) 145)) _ _ most (unsuback_spelled p.identifier (replicate (length p.filters) 145) asks.0 (as_many (length p.filters) asks.1)))
      | inr f ↦ rw f tt
    ]

pub unsubscribe_spelled : {E : Type 0} (p : Unsubscribe) (now limit : ℕ) (s new : State) (result : Result Reaction E) → limit ≤ 268435460 → HasSpelling (packets.Unsubscribe p) → IfOk result (λ r. Comes (unsubscribed p limit s) r new)
    → IfOk result (λ r. AreSpelled now r.packets)
unsubscribe_spelled p now limit s new (Ok r) most h comes = rw comes.0 (unsubscribed_in p now limit s most h)
unsubscribe_spelled p now limit s new (Err e) most h comes = comes

pub codes_spelled : (asked : Asked) (id : ℕ) (codes : List ℕ) → IsIdentifier id → codes ≢ [] → IsShort (answer_of asked id codes) → HasSpelling (answer_of asked id codes)
codes_spelled Subscribing id codes is some short = suback_spelled id codes is (some_codes codes some) short
codes_spelled Unsubscribing id codes is some short = unsuback_spelled id codes is (some_codes codes some) short

-- ---- PINGREQ
pub pingreq_spelled : {E : Type 0} (now limit : ℕ) (s new : State) (result : Result Reaction E) → limit ≤ 268435460 → IfOk result (λ r. Comes (answered limit packets.Pingresp None s) r new)
    → IfOk result (λ r. AreSpelled now r.packets)
pingreq_spelled now limit s new (Ok r) most comes = rw comes.0 (answered_in now limit packets.Pingresp _ _ most (λ _. pingresp_spelled))
pingreq_spelled now limit s new (Err e) most comes = comes
