-- Packets that leave what a session's own row has as it is.
use Rattle.std.proofs.Common.{◌≡◌, ℕ, Bool, true, false, cond, List, [], ◌∷◌, Option, Some, None, inl, inr, refl, sym, ap, ◌∙◌}
use Rattle.std.specs.Prelude.{is_some, length, replicate}
use Rattle.std.proofs.lemmas.Bool.{false≢true}
use Rattle.mqtt_fields.specs.declared.options.Qos.{Qos}
use Rattle.mqtt_fields.specs.declared.options.Qos.TheVariants.{AtMostOnce, AtLeastOnce, ExactlyOnce}
use Rattle.mqtt_packets.specs.declared.packet.Packet.{Packet}
use Rattle.mqtt_packets.specs.declared.packet.Packet.TheVariants as packets
use Rattle.mqtt_packets.specs.declared.publish.Publish.{Publish}
use Rattle.mqtt_packets.specs.declared.subscribe.Subscribe.{Subscribe}
use Rattle.mqtt_message.specs.declared.message.Message.{Message}
use Rattle.qos_handshakes.specs.declared.answers.Ack.{Ack}
use Rattle.qos_handshakes.specs.declared.answers.Ack.TheVariants.{Done, Unknown}
use Rattle.qos_handshakes.specs.declared.answers.Rec.{Rec}
use Rattle.qos_handshakes.specs.declared.answers.Rec.TheVariants as rec
use Rattle.qos_handshakes.specs.declared.answers.In.{In}
use Rattle.qos_handshakes.specs.declared.answers.In.TheVariants.{New, Repeat, InUse, OverMaximum}
use Rattle.qos_handshakes.specs.declared.copies.Entry.{Entry}
use Rattle.qos_handshakes.specs.Incoming.{identifiers_of, opened}
use Rattle.qos_handshakes.specs.Outbox.{EndStep, NextStep, Outbox, ReceivedIf, Sent, SendsNothing}
use Rattle.session_rows.specs.Changes.{Told}
use Rattle.session_rows.specs.Fields.{main}
use Rattle.mqtt_sessions.specs.declared.reaction.Ask.{Ask}
use Rattle.mqtt_sessions.specs.Answers.{fits, puback, pubrel, suback, unsuback}
use Rattle.mqtt_sessions.specs.Arriving.{refusal, message_in, setting, publish_by, passes_by, once_by, arrival_once, is_unwelcome}
use Rattle.mqtt_sessions.specs.Asking.{SubscribeStep}
use Rattle.mqtt_sessions.specs.Packets.{GoesOnAfter, KindStep, PacketIf, PacketStep, PubackStep, PubcompStep, PubrecBy, PubrecStep}
use Rattle.mqtt_sessions.specs.Reaction.{Reaction, Outcome, answered}
use Rattle.mqtt_sessions.specs.Saved.{IsFresh, closed_of, is_single, keeps_own_row, main_of}
use Rattle.mqtt_sessions.specs.Sending.{GoesOn, RoomStep, SendsAll, StopsIf}
use Rattle.mqtt_sessions.specs.State.{State, Tracked, aliases_of, heard, limit_of, room_less, with_outbox}

-- an outcome that leaves it
abbrev Keeps : State → Outcome → Type 0
Keeps s o = main_of o.left ≡ main_of s

either_keeps : (b : Bool) (s : State) (x y : Outcome) → Keeps s x → Keeps s y → Keeps s (cond b x y)
either_keeps true s x y p q = p
either_keeps false s x y p q = q

answered_keeps : (limit : ℕ) (p : Packet) (ask : Option Ask) (s : State) → Keeps s (answered limit p ask s)
answered_keeps limit p ask s = either_keeps (fits limit p) s _ _ refl refl

once_keeps : (a : In) (unwelcome : Bool) (limit id : ℕ) (m : Message) (s : State) → Keeps s (once_by a unwelcome limit id m s)
once_keeps OverMaximum unwelcome limit id m s = refl
once_keeps InUse unwelcome limit id m s = answered_keeps limit (puback id 145) _ s
once_keeps Repeat unwelcome limit id m s = answered_keeps limit (puback id 145) _ s
once_keeps New true limit id m s = answered_keeps limit (puback id 151) _ s
once_keeps New false limit id m s = answered_keeps limit (puback id 0) _ s

passes_keeps : (q : Qos) (p : Publish) (unwelcome : Bool) (limit : ℕ) (m : Message) (s : State) → is_single q ≡ true → Keeps s (passes_by q p unwelcome limit m s)
passes_keeps AtMostOnce p unwelcome limit m s is = refl
passes_keeps AtLeastOnce p unwelcome limit m s is = once_keeps (arrival_once s.incoming p.identifier) unwelcome limit p.identifier m s
passes_keeps ExactlyOnce p unwelcome limit m s is = absurd (false≢true is)

publish_keeps : (why : Option ℕ) (p : Publish) (now : ℕ) (room : Bool) (limit : ℕ) (s : State) → is_single p.qos ≡ true → Keeps s (publish_by why p now room limit s)
publish_keeps (Some code) p now room limit s is = refl
publish_keeps None p now room limit s is = passes_keeps p.qos p (is_unwelcome p room) limit (message_in p now (setting p s)) (setting p s) is

subscribe_keeps : (p : Subscribe) (limit : ℕ) (s : State) (r : Reaction) (new : State) → SubscribeStep p limit s r new → main_of new ≡ main_of s
subscribe_keeps p limit s r new (inl breaks) = ap main_of breaks.1.1
subscribe_keeps p limit s r new (inr keeps) =
    ap main_of keeps.1.1 ∙ either_keeps (is_some (opened p.identifier s.incoming)) s _ _ (answered_keeps limit (suback p.identifier (replicate (length p.filters) 145)) _ s) refl

-- ---- what is sent to the client leaves it too
next_keeps : (now limit : ℕ) (old new : Outbox) (s : Sent) → NextStep now limit old (Some s) new → new.next_place ≡ old.next_place
next_keeps now limit old new s (inl n) = ap (λ (o : Outbox). o.next_place) n.left
next_keeps now limit old new s (inr n) = ap (λ (o : Outbox). o.next_place) n.left

nothing_keeps : (now limit : ℕ) (old new : Outbox) → SendsNothing now limit old new → new.next_place ≡ old.next_place
nothing_keeps now limit old new n = elim n.step [
  | inl full ↦ ap (λ (o : Outbox). o.next_place) full.1
  | inr more ↦ elim more [
    | inl none_free ↦ ap (λ (o : Outbox). o.next_place) none_free.3
    | inr none_waits ↦ ap (λ (o : Outbox). o.next_place) none_waits.3
  ]
]

sends_keep : (now limit : ℕ) (room : Option ℕ) (old new : Outbox) (sents : List Sent) → SendsAll now limit room old sents new → new.next_place ≡ old.next_place
sends_keep now limit room old new [] all = ap (λ (o : Outbox). o.next_place) all
sends_keep now limit room old new (s ∷ sents) all = sends_keep now limit (room_less now room s.copy) all.1 new sents all.3 ∙ next_keeps now limit old all.1 s all.2

stops_keep : (now limit : ℕ) (has : Bool) (old new : Outbox) → StopsIf has now limit old new → new.next_place ≡ old.next_place
stops_keep now limit true old new n = nothing_keeps now limit old new n
stops_keep now limit false old new n = ap (λ (o : Outbox). o.next_place) n

goes_keep : (limit : Option ℕ) (now : ℕ) (room : Option ℕ) (old new : Outbox) (sents : List Sent) → GoesOn limit now room old sents new → new.next_place ≡ old.next_place
goes_keep None now room old new sents goes = ap (λ (o : Outbox). o.next_place) goes.1
goes_keep (Some limit) now room old new sents goes = stops_keep now limit _ goes.last new goes.stops ∙ sends_keep now limit room old goes.last sents goes.sends

outbox_keeps : (s : State) (n : ℕ) → n ≡ s.outbox.next_place → record { expiry = s.kept.expiry; closed = closed_of s.kept.phase; will = s.kept.will; incoming = identifiers_of s.incoming; next_place = n } ≡ main_of s
outbox_keeps s n same = λ i. record { expiry = s.kept.expiry; closed = closed_of s.kept.phase; will = s.kept.will; incoming = identifiers_of s.incoming; next_place = same i }

pub room_keeps : (bytes now : ℕ) (s : State) (r : Reaction) (new : State) → RoomStep bytes now s r new → main_of new ≡ main_of s
room_keeps bytes now s r new step =
    ap main_of step.left ∙ outbox_keeps s step.after.next_place (goes_keep (limit_of s.link) now (Some bytes) s.outbox step.after step.sents step.goes_on)

-- ---- and so does an acknowledgement of the client
end_keeps : (ends : Bool) (old : Outbox) (id : ℕ) (answer : Ack) (new : Outbox) → EndStep ends old id answer new → new.next_place ≡ old.next_place
end_keeps ends old id Done new step = ap (λ (o : Outbox). o.next_place) step.1
end_keeps ends old id Unknown new step = ap (λ (o : Outbox). o.next_place) step.1

after_keeps : (answer : Ack) (now limit : ℕ) (room : Option ℕ) (old : Outbox) (sents : List Sent) (new : Outbox) → GoesOnAfter answer now limit room old sents new → new.next_place ≡ old.next_place
after_keeps Done now limit room old sents new goes = goes_keep (Some limit) now room old new sents goes
after_keeps Unknown now limit room old sents new goes = ap (λ (o : Outbox). o.next_place) goes.1

puback_keeps : (id now limit : ℕ) (s : State) (r : Reaction) (new : State) → PubackStep id now limit s r new → main_of new ≡ main_of s
puback_keeps id now limit s r new step =
    ap main_of step.left
    ∙ outbox_keeps s step.after.next_place (after_keeps step.answer now limit s.room step.mid step.sents step.after step.goes_on ∙ end_keeps _ s.outbox id step.answer step.mid step.takes)

pubcomp_keeps : (id now limit : ℕ) (s : State) (r : Reaction) (new : State) → PubcompStep id now limit s r new → main_of new ≡ main_of s
pubcomp_keeps id now limit s r new step =
    ap main_of step.left
    ∙ outbox_keeps s step.after.next_place (after_keeps step.answer now limit s.room step.mid step.sents step.after step.goes_on ∙ end_keeps _ s.outbox id step.answer step.mid step.takes)

received_keeps : (found : Option Entry) (old : Outbox) (id reason : ℕ) (answer : Rec) (new : Outbox) → ReceivedIf found old id reason answer new → new.next_place ≡ old.next_place
received_keeps None old id reason answer new step = ap (λ (o : Outbox). o.next_place) step.1
received_keeps (Some x) old id reason rec.Release new step = elim step [
  | inl first ↦ ap (λ (o : Outbox). o.next_place) first.3
  | inr again ↦ ap (λ (o : Outbox). o.next_place) again.1
]
received_keeps (Some x) old id reason rec.Ended new step = ap (λ (o : Outbox). o.next_place) step.2
received_keeps (Some x) old id reason rec.Unknown new step = ap (λ (o : Outbox). o.next_place) step.2
received_keeps (Some x) old id reason rec.AtEnd new step = ap (λ (o : Outbox). o.next_place) step.3

pubrec_by : (answer : Rec) (id reason now limit : ℕ) (s : State) (mid : Outbox) (r : Reaction) (new : State) → PubrecBy answer id reason now limit s mid r new → mid.next_place ≡ s.outbox.next_place → main_of new ≡ main_of s
pubrec_by rec.Release id reason now limit s mid r new step same = ap main_of step.1 ∙ answered_keeps limit (pubrel id 0) None (with_outbox s mid) ∙ outbox_keeps s mid.next_place same
pubrec_by rec.Ended id reason now limit s mid r new step same =
    ap main_of step.left ∙ outbox_keeps s step.after.next_place (goes_keep (Some limit) now s.room mid step.after step.sents step.flushes ∙ same)
pubrec_by rec.Unknown id reason now limit s mid r new step same = elim step [
  | inl told ↦ ap main_of told.1.1 ∙ answered_keeps limit (pubrel id 146) None (with_outbox s mid) ∙ outbox_keeps s mid.next_place same
  | inr silent ↦ ap main_of silent.2 ∙ outbox_keeps s mid.next_place same
]
pubrec_by rec.AtEnd id reason now limit s mid r new step same = absurd step

pubrec_keeps : (id reason now limit : ℕ) (s : State) (r : Reaction) (new : State) → PubrecStep id reason now limit s r new → main_of new ≡ main_of s
pubrec_keeps id reason now limit s r new step =
    pubrec_by step.answer id reason now limit s step.mid r new step.goes_on (received_keeps _ s.outbox id reason step.answer step.mid step.takes)

-- ---- each kind of packet
kind_keeps : (p : Packet) (now : ℕ) (room : Bool) (limit : ℕ) (s : State) (r : Reaction) (new : State) → keeps_own_row p ≡ true → KindStep p now room limit s r new → main_of new ≡ main_of s
kind_keeps (packets.Publish p) now room limit s r new is step = ap main_of step.1 ∙ publish_keeps (refusal (aliases_of s.link) p) p now room limit s is
kind_keeps (packets.Subscribe p) now room limit s r new is step = subscribe_keeps p limit s r new step
kind_keeps (packets.Unsubscribe p) now room limit s r new is step =
    ap main_of step.1 ∙ either_keeps (is_some (opened p.identifier s.incoming)) s _ _ (answered_keeps limit (unsuback p.identifier (replicate (length p.filters) 145)) _ s) refl
kind_keeps packets.Pingreq now room limit s r new is step = ap main_of step.1 ∙ answered_keeps limit packets.Pingresp None s
kind_keeps (packets.Connect p) now room limit s r new is step = absurd (false≢true is)
kind_keeps (packets.Connack p) now room limit s r new is step = absurd (false≢true is)
kind_keeps (packets.Puback p) now room limit s r new is step = puback_keeps p.identifier now limit s r new step
kind_keeps (packets.Pubrec p) now room limit s r new is step = pubrec_keeps p.identifier p.reason now limit s r new step
kind_keeps (packets.Pubrel p) now room limit s r new is step = absurd (false≢true is)
kind_keeps (packets.Pubcomp p) now room limit s r new is step = pubcomp_keeps p.identifier now limit s r new step
kind_keeps (packets.Suback p) now room limit s r new is step = absurd (false≢true is)
kind_keeps (packets.Unsuback p) now room limit s r new is step = absurd (false≢true is)
kind_keeps packets.Pingresp now room limit s r new is step = absurd (false≢true is)
kind_keeps (packets.Disconnect p) now room limit s r new is step = absurd (false≢true is)
kind_keeps (packets.Auth p) now room limit s r new is step = absurd (false≢true is)

by_limit : (l : Option ℕ) (p : Packet) (now : ℕ) (room : Bool) (s : State) (r : Reaction) (new : State) → keeps_own_row p ≡ true → PacketIf l p now room s r new → main_of new ≡ main_of s
by_limit None p now room s r new is step = ap main_of step.1
by_limit (Some limit) p now room s r new is step = kind_keeps p now room limit (heard s now) r new is step

pub packet_keeps : (p : Packet) (now : ℕ) (room : Bool) (s : State) (r : Reaction) (new : State) → keeps_own_row p ≡ true → PacketStep p now room s r new → main_of new ≡ main_of s
packet_keeps p now room s r new is step = by_limit (limit_of s.link) p now room s r new is step

-- what is known to be as it was told stays so where nothing of it changes
pub fresh_still : (stale : Bool) (t after : Tracked) (told : Told) → (stale ≡ false → IsFresh false t told × (main_of after.state ≡ main_of t.state)) → IsFresh stale after told
fresh_still true t after told h = tt
fresh_still false t after told h = (h refl).0 ∙ ap (λ m. Some (main.bytes m)) (sym (h refl).1)
