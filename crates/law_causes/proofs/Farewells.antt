-- What a session gives out at the end of a connection.
use Rattle.std.proofs.Common.{◌≡◌, ◌≢◌, ◌⊎◌, inl, inr, ℕ, ◌<◌, arith, Bool, true, false, cond, List, [], ◌∷◌, ◌++◌, Option, Some, None, refl, sym, ap, ◌∙◌, subst}
use Rattle.std.specs.List.{AllByRecursion}
use Rattle.std.specs.Prelude.{◌==◌, ◌&&◌, ◌+◌, ◌*◌, is_some, length, not, replicate}
use Rattle.mqtt_fields.specs.declared.options.Qos.{Qos}
use Rattle.mqtt_fields.specs.declared.options.Qos.TheVariants.{AtMostOnce, AtLeastOnce, ExactlyOnce}
use Rattle.mqtt_packets.specs.declared.connect.Connect.{Connect}
use Rattle.mqtt_packets.specs.declared.ended.Ended.{Ended}
use Rattle.mqtt_packets.specs.declared.packet.Packet.{Packet}
use Rattle.mqtt_packets.specs.declared.packet.Packet.TheVariants as packets
use Rattle.mqtt_packets.specs.declared.publish.Publish.{Publish as Message_packet}
use Rattle.mqtt_packets.specs.Head.{bit, first_byte}
use Rattle.mqtt_packets.specs.Packet.{head_of}
use Rattle.mqtt_packets.specs.Publish.{flags_of}
use Rattle.mqtt_packets.specs.Written.{written}
use Rattle.mqtt_message.specs.declared.delivery.Delivery.{Delivery}
use Rattle.mqtt_message.specs.declared.message.Message.{Message}
use Rattle.qos_handshakes.specs.declared.answers.In.{In}
use Rattle.qos_handshakes.specs.declared.answers.In.TheVariants.{New, Repeat, InUse, OverMaximum}
use Rattle.qos_handshakes.specs.declared.answers.Rec.{Rec}
use Rattle.qos_handshakes.specs.declared.answers.Rec.TheVariants as rec
use Rattle.qos_handshakes.specs.Incoming.{opened}
use Rattle.qos_handshakes.specs.Outbox.{Outbox, Sent}
use Rattle.mqtt_sessions.specs.declared.link.Asked.{Asked}
use Rattle.mqtt_sessions.specs.declared.link.Asked.TheVariants.{Subscribing, Unsubscribing}
use Rattle.mqtt_sessions.specs.declared.reaction.Ask.{Ask}
use Rattle.mqtt_sessions.specs.declared.reaction.Ask.TheVariants as asks
use Rattle.mqtt_sessions.specs.declared.reaction.Output.{Output}
use Rattle.mqtt_sessions.specs.declared.reaction.Output.TheVariants.{Publish, Answer}
use Rattle.mqtt_sessions.specs.Answers.{connack, fits, puback, pubcomp, pubrec, pubrel, suback, unsuback}
use Rattle.mqtt_sessions.specs.Arriving.{is_unwelcome, message_in, once_by, passes_by, publish_by, refusal, release_code, setting, twice_by, arrival_once, arrival_twice, after_twice, after_release}
use Rattle.mqtt_sessions.specs.Asking.{answer_by, answer_of, answer_on, asking}
use Rattle.mqtt_sessions.specs.Connecting.{OpensIf}
use Rattle.mqtt_sessions.specs.Ending.{disconnected_by, end_due, has_run_out, is_due, left_by, ticked_if, timed_out, will_due}
use Rattle.mqtt_sessions.specs.Packets.{PacketIf, PubrecBy, SaysUnknown}
use Rattle.mqtt_message.specs.Sent.{sent}
use Rattle.mqtt_fields.specs.Options.{qos_number}
use Rattle.mqtt_sessions.specs.Reaction.{Reaction, Outcome, answered, closing, nothing, packet_of, publishes_of, pubrels_of, refused, says}
use Rattle.mqtt_sessions.specs.Sending.{QueueIf, is_once, once_of}
use Rattle.mqtt_sessions.specs.State.{Link, State, aliases_of, heard, limit_in, limit_of, with_outbox}
use Rattle.cluster_play.proofs.Bools.{some_is}
use Rattle.law_runs.proofs.Keeping.{none_some}
use Rattle.law_causes.specs.Disconnects.{IsFarewell}
use Rattle.law_sessions.specs.Runs.{Event, connects, queues, rooms, takes, answers, closes, ticks, finishes, loses, Reacts}

-- a packet that is no DISCONNECT
abbrev pub IsOther : Output → Type 0
IsOther (Publish p) = Unit {0}
IsOther (Answer (packets.Disconnect d)) = ⊥
IsOther (Answer p) = Unit {0}

-- a reaction gives out no such packet, and where it ends a connection with a code it asks for nothing
pub record IsFine (r : Reaction) : Type 0 where
  pub asks : (code : ℕ) → r.end ≡ Some code → (code ≡ 0) ⊎ (r.ask ≡ None)
  pub packets : AllByRecursion IsOther r.packets

-- ---- lists of packets
abbrev AreOther : List Output → Type 0
AreOther os = AllByRecursion IsOther os

both_other : (xs ys : List Output) → AreOther xs → AreOther ys → AreOther (xs ++ ys)
both_other [] ys a b = b
both_other (x ∷ xs) ys a b = (a.0, both_other xs ys a.1 b)

publishes_other : (sents : List Sent) → AreOther (publishes_of sents)
publishes_other [] = tt
publishes_other (s ∷ ss) = (tt, publishes_other ss)

pubrels_other : (ids : List ℕ) → AreOther (pubrels_of ids)
pubrels_other [] = tt
pubrels_other (id ∷ ids) = (tt, pubrels_other ids)

-- ---- reactions
fine_of : (r q : Reaction) → r ≡ q → IsFine q → IsFine r
fine_of r q is f = subst IsFine (sym is) f

fine_nothing : IsFine nothing
fine_nothing = record { asks = λ code e. none_some e; packets = tt }

fine_says : (os : List Output) → AreOther os → IsFine (says os)
fine_says os other = record { asks = λ code e. none_some e; packets = other }

fine_closing : (limit code : ℕ) → IsFine (closing limit code)
fine_closing limit code = record { asks = λ other e. inr refl; packets = tt }

either : (b : Bool) (x y : Outcome) → IsFine x.reaction → IsFine y.reaction → IsFine (cond b x y).reaction
either true x y f g = f
either false x y f g = g

fine_answered : (limit : ℕ) (q : Packet) (ask : Option Ask) (s : State) → IsOther (Answer q) → IsFine (answered limit q ask s).reaction
fine_answered limit q ask s other = either (fits limit q) _ _ (record { asks = λ code e. none_some e; packets = (other, tt) }) (record { asks = λ code e. inl (sym (some_is e)); packets = tt })

-- ---- a packet
fine_once : (answer : In) (unwelcome : Bool) (limit id : ℕ) (m : Message) (s : State) → IsFine (once_by answer unwelcome limit id m s).reaction
fine_once OverMaximum unwelcome limit id m s = fine_closing limit 147
fine_once InUse unwelcome limit id m s = fine_answered limit (puback id 145) None s tt
fine_once Repeat unwelcome limit id m s = fine_answered limit (puback id 145) None s tt
fine_once New true limit id m s = fine_answered limit (puback id 151) None s tt
fine_once New false limit id m s = fine_answered limit (puback id 0) (Some (asks.Pass m)) s tt

fine_twice : (answer : In) (unwelcome : Bool) (limit id : ℕ) (m : Message) (s : State) → IsFine (twice_by answer unwelcome limit id m s).reaction
fine_twice OverMaximum unwelcome limit id m s = fine_closing limit 147
fine_twice InUse unwelcome limit id m s = fine_answered limit (pubrec id 0) None s tt
fine_twice Repeat unwelcome limit id m s = fine_answered limit (pubrec id 0) None s tt
fine_twice New true limit id m s = fine_answered limit (pubrec id 151) None s tt
fine_twice New false limit id m s = fine_answered limit (pubrec id 0) (Some (asks.Pass m)) s tt

fine_passes : (qos : Qos) (p : Message_packet) (unwelcome : Bool) (limit : ℕ) (m : Message) (s : State) → IsFine (passes_by qos p unwelcome limit m s).reaction
fine_passes AtMostOnce p unwelcome limit m s = record { asks = λ code e. none_some e; packets = tt }
fine_passes AtLeastOnce p unwelcome limit m s = fine_once (arrival_once s.incoming p.identifier) unwelcome limit p.identifier m s
fine_passes ExactlyOnce p unwelcome limit m s =
    fine_twice (arrival_twice s.incoming p.identifier) unwelcome limit p.identifier m (record s { incoming = after_twice (arrival_twice s.incoming p.identifier) unwelcome p.identifier s.incoming })

fine_publish : (o : Option ℕ) (p : Message_packet) (now : ℕ) (room : Bool) (limit : ℕ) (s : State) → IsFine (publish_by o p now room limit s).reaction
fine_publish (Some code) p now room limit s = fine_closing limit code
fine_publish None p now room limit s = fine_passes p.qos p (is_unwelcome p room) limit (message_in p now (setting p s)) (setting p s)

fine_unknown : (id reason limit : ℕ) (s new : State) (r : Reaction) → SaysUnknown id reason limit s r new → IsFine r
fine_unknown id reason limit s new r (inl d) = fine_of r _ d.1.0 (fine_answered limit (pubrel id 146) None s tt)
fine_unknown id reason limit s new r (inr d) = fine_of r nothing d.1 fine_nothing

fine_pubrec : (answer : Rec) (id reason now limit : ℕ) (s new : State) (mid : Outbox) (r : Reaction) → PubrecBy answer id reason now limit s mid r new → IsFine r
fine_pubrec rec.Release id reason now limit s new mid r d = fine_of r _ d.0 (fine_answered limit (pubrel id 0) None (with_outbox s mid) tt)
fine_pubrec rec.Ended id reason now limit s new mid r d = fine_of r _ d.reacts (fine_says (publishes_of d.sents) (publishes_other d.sents))
fine_pubrec rec.Unknown id reason now limit s new mid r d = fine_unknown id reason limit (with_outbox s mid) new r d
fine_pubrec rec.AtEnd id reason now limit s new mid r d = absurd d

fine_request : (b : Bool) (limit : ℕ) (q : Packet) (ask : Ask) (asked : Asked) (s : State) → IsOther (Answer q) → IsFine (cond b (answered limit q None s) (asking ask asked s)).reaction
fine_request b limit q ask asked s other = either b _ _ (fine_answered limit q None s other) (record { asks = λ code e. none_some e; packets = tt })

fine_left : (o : Option ℕ) (p : Ended) (limit : ℕ) (s : State) → IsFine (disconnected_by o p limit s).reaction
fine_left None p limit s = record { asks = λ code e. inr refl; packets = tt }
fine_left (Some expiry) p limit s = either ((s.kept.expiry == 0) && not (expiry == 0)) (refused limit 130 s) (left_by p expiry s) (fine_closing limit 130) (record { asks = λ code e. inr refl; packets = tt })

fine_packet : (o : Option ℕ) (k : Packet) (now : ℕ) (room : Bool) (s new : State) (r : Reaction) → PacketIf o k now room s r new → IsFine r
fine_packet None k now room s new r d = fine_of r nothing d.0 fine_nothing
fine_packet (Some limit) (packets.Publish p) now room s new r d =
    fine_of r _ d.0 (fine_publish (refusal (aliases_of (heard s now).link) p) p now room limit (heard s now))
fine_packet (Some limit) (packets.Puback a) now room s new r d = fine_of r _ d.reacts (fine_says (publishes_of d.sents) (publishes_other d.sents))
fine_packet (Some limit) (packets.Pubrec a) now room s new r d = fine_pubrec d.answer a.identifier a.reason now limit (heard s now) new d.mid r d.goes_on
fine_packet (Some limit) (packets.Pubrel a) now room s new r d =
    fine_of r _ d.0
    (fine_answered limit (pubcomp a.identifier (release_code (heard s now).incoming a.identifier)) None (record (heard s now) { incoming = after_release (heard s now).incoming a.identifier }) tt)
fine_packet (Some limit) (packets.Pubcomp a) now room s new r d = fine_of r _ d.reacts (fine_says (publishes_of d.sents) (publishes_other d.sents))
fine_packet (Some limit) (packets.Subscribe q) now room s new r (inl d) = fine_of r _ d.1.0 (fine_closing limit 130)
fine_packet (Some limit) (packets.Subscribe q) now room s new r (inr d) =
    fine_of r _ d.1.0
    (fine_request (is_some (opened q.identifier (heard s now).incoming)) limit (suback q.identifier (replicate (length q.filters) 145)) asks.Subscribe Subscribing (heard s now) tt)
fine_packet (Some limit) (packets.Unsubscribe u) now room s new r d =
    fine_of r _ d.0
    (fine_request (is_some (opened u.identifier (heard s now).incoming)) limit (unsuback u.identifier (replicate (length u.filters) 145)) asks.Unsubscribe Unsubscribing (heard s now) tt)
fine_packet (Some limit) packets.Pingreq now room s new r d = fine_of r _ d.0 (fine_answered limit packets.Pingresp None (heard s now) tt)
fine_packet (Some limit) (packets.Disconnect p) now room s new r d = fine_of r _ d.0 (fine_left _ p limit (heard s now))
fine_packet (Some limit) (packets.Connect p) now room s new r d = fine_of r _ d.0 (fine_closing limit 130)
fine_packet (Some limit) (packets.Connack p) now room s new r d = fine_of r _ d.0 (fine_closing limit 130)
fine_packet (Some limit) (packets.Suback p) now room s new r d = fine_of r _ d.0 (fine_closing limit 130)
fine_packet (Some limit) (packets.Unsuback p) now room s new r d = fine_of r _ d.0 (fine_closing limit 130)
fine_packet (Some limit) packets.Pingresp now room s new r d = fine_of r _ d.0 (fine_closing limit 130)
fine_packet (Some limit) (packets.Auth p) now room s new r d = fine_of r _ d.0 (fine_closing limit 130)

-- ---- another event
fine_opens : (b : Bool) (old new : State) (c : Connect) (continued : Bool) (room : Option ℕ) (now : ℕ) (r : Reaction) → OpensIf b old c (connack continued c.client old.kept.client) room now r new → IsFine r
fine_opens true old new c continued room now r d =
    fine_of r _ d.reacts (fine_says _ (tt, both_other (pubrels_of d.ids) (publishes_of d.sents) (pubrels_other d.ids) (publishes_other d.sents)))
fine_opens false old new c continued room now r d = fine_of r _ d.0 (record { asks = λ code e. inr refl; packets = tt })

once_other : (o : Option ℕ) (now : ℕ) (d : Delivery) → AreOther (once_of o now d)
once_other None now d = tt
once_other (Some limit) now d = by _
  where
    by : (b : Bool) → AreOther (cond b (Publish (record { id = 0; dup = false; delivery = d }) ∷ []) [])
    by true = (tt, tt)
    by false = tt

fine_queue : (b : Bool) (old new : State) (d : Delivery) (now : ℕ) (r : Reaction) → QueueIf b old d now r new → IsFine r
fine_queue true old new d now r q = fine_of r _ q.0 (fine_says _ (once_other (limit_of old.link) now d))
fine_queue false old new d now r (inl q) = fine_of r _ q.reacts (fine_says (publishes_of q.sents) (publishes_other q.sents))
fine_queue false old new d now r (inr q) = fine_of r _ q.reacts (record { asks = λ code e. none_some e; packets = tt })

answer_other : (asked : Asked) (id : ℕ) (codes : List ℕ) → IsOther (Answer (answer_of asked id codes))
answer_other Subscribing id codes = tt
answer_other Unsubscribing id codes = tt

fine_answer_by : (a : Option Asked) (limit id : ℕ) (codes : List ℕ) (s : State) → IsFine (answer_by a limit id codes s).reaction
fine_answer_by None limit id codes s = fine_nothing
fine_answer_by (Some asked) limit id codes s = fine_answered limit (answer_of asked id codes) None _ (answer_other asked id codes)

fine_answer : (o : Option Link) (id : ℕ) (codes : List ℕ) (s : State) → IsFine (answer_on o id codes s).reaction
fine_answer None id codes s = fine_nothing
fine_answer (Some l) id codes s = fine_answer_by l.asked l.limit id codes s

fine_timed : (o : Option Link) (s : State) → IsFine (timed_out o s).reaction
fine_timed None s = fine_nothing
fine_timed (Some l) s = fine_closing l.limit 141

fine_ticked : (out will end : Bool) (now : ℕ) (s : State) → IsFine (ticked_if out will end now s).reaction
fine_ticked true will end now s = fine_timed s.link s
fine_ticked false true end now s = record { asks = λ code e. none_some e; packets = tt }
fine_ticked false false end now s = record { asks = λ code e. none_some e; packets = tt }

-- ---- each
pub fine : (old new : State) (e : Event) (r : Reaction) → Reacts old e r new → IsFine r
fine old new (connects c continued room now) r d = fine_opens (fits (limit_in c.properties) (connack continued c.client old.kept.client)) old new c continued room now r d.1
fine old new (queues d now) r q = fine_queue (is_once d.qos) old new d now r q
fine old new (rooms bytes now) r d = fine_of r _ d.reacts (fine_says (publishes_of d.sents) (publishes_other d.sents))
fine old new (takes k now room) r d = fine_packet (limit_of old.link) k now room old new r d
fine old new (answers id codes) r d = fine_of r _ d.0 (fine_answer old.link id codes old)
fine old new (closes now) r d = fine_of r nothing d.0 fine_nothing
fine old new (ticks now) r d = fine_of r _ d.0 (fine_ticked (has_run_out old.link now) (is_due (will_due old.kept) now) (is_due (end_due old.kept) now) now old)
fine old new (finishes now) r d = fine_of r _ d.0 (record { asks = λ code e. none_some e; packets = tt })
fine old new loses r d = fine_of r nothing d.quiet fine_nothing

-- ---- an end that gives out no DISCONNECT
abbrev pub IsMild : Event → Type 0
IsMild (takes k now room) = ⊥
IsMild (ticks now) = ⊥
IsMild e = Unit {0}

abbrev pub EndsMutely : Reaction → Type 0
EndsMutely r = (code : ℕ) → r.end ≡ Some code → code ≡ 0

mutely : (r q : Reaction) → r ≡ q → EndsMutely q → EndsMutely r
mutely r q is f = subst EndsMutely (sym is) f

mute_either : (b : Bool) (x y : Outcome) → EndsMutely x.reaction → EndsMutely y.reaction → EndsMutely (cond b x y).reaction
mute_either true x y f g = f
mute_either false x y f g = g

mute_answer_by : (a : Option Asked) (limit id : ℕ) (codes : List ℕ) (s : State) → EndsMutely (answer_by a limit id codes s).reaction
mute_answer_by None limit id codes s = λ code e. none_some e
mute_answer_by (Some asked) limit id codes s = mute_either (fits limit (answer_of asked id codes)) _ _ (λ code e. none_some e) (λ code e. sym (some_is e))

mute_answer : (o : Option Link) (id : ℕ) (codes : List ℕ) (s : State) → EndsMutely (answer_on o id codes s).reaction
mute_answer None id codes s = λ code e. none_some e
mute_answer (Some l) id codes s = mute_answer_by l.asked l.limit id codes s

mute_opens : (b : Bool) (old new : State) (c : Connect) (k : Packet) (room : Option ℕ) (now : ℕ) (r : Reaction) → OpensIf b old c k room now r new → EndsMutely r
mute_opens true old new c k room now r d = mutely r _ d.reacts (λ code e. none_some e)
mute_opens false old new c k room now r d = mutely r _ d.0 (λ code e. sym (some_is e))

mute_queue : (b : Bool) (old new : State) (d : Delivery) (now : ℕ) (r : Reaction) → QueueIf b old d now r new → EndsMutely r
mute_queue true old new d now r q = mutely r _ q.0 (λ code e. none_some e)
mute_queue false old new d now r (inl q) = mutely r _ q.reacts (λ code e. none_some e)
mute_queue false old new d now r (inr q) = mutely r _ q.reacts (λ code e. none_some e)

pub mild : (old new : State) (e : Event) (r : Reaction) → IsMild e → Reacts old e r new → EndsMutely r
mild old new (connects c continued room now) r m d = mute_opens (fits (limit_in c.properties) (connack continued c.client old.kept.client)) old new c _ room now r d.1
mild old new (queues d now) r m q = mute_queue (is_once d.qos) old new d now r q
mild old new (rooms bytes now) r m d = mutely r _ d.reacts (λ code e. none_some e)
mild old new (takes k now room) r m d = absurd m
mild old new (answers id codes) r m d = mutely r _ d.0 (mute_answer old.link id codes old)
mild old new (closes now) r m d = mutely r nothing d.0 (λ code e. none_some e)
mild old new (ticks now) r m d = absurd m
mild old new (finishes now) r m d = mutely r _ d.0 (λ code e. none_some e)
mild old new loses r m d = mutely r nothing d.quiet (λ code e. none_some e)

-- ---- what is due, where no Keep Alive has run out
tick_by : (out will end : Bool) (now : ℕ) (s : State) → out ≡ false → (ticked_if out will end now s).reaction.end ≡ None
tick_by true will end now s e = absurd (let z : true ≡ false = e in cc)
tick_by false true end now s e = refl
tick_by false false end now s e = refl

pub tick_ends : (old new : State) (now : ℕ) (r : Reaction) → has_run_out old.link now ≡ false → Reacts old (ticks now) r new → r.end ≡ None
tick_ends old new now r rested d =
    ap (λ (v : Reaction). v.end) d.0 ∙ tick_by (has_run_out old.link now) (is_due (will_due old.kept) now) (is_due (end_due old.kept) now) now old rested

tick_link : (out will end : Bool) (now : ℕ) (s : State) → out ≡ false → (ticked_if out will end now s).left.link ≡ s.link
tick_link true will end now s e = absurd (let z : true ≡ false = e in cc)
tick_link false true end now s e = refl
tick_link false false end now s e = refl

queue_link : (b : Bool) (old new : State) (d : Delivery) (now : ℕ) (r : Reaction) → QueueIf b old d now r new → new.link ≡ old.link
queue_link true old new d now r q = ap (λ (s : State). s.link) q.1
queue_link false old new d now r (inl q) = ap (λ (s : State). s.link) q.left
queue_link false old new d now r (inr q) = ap (λ (s : State). s.link) q.left

-- events by which no Keep Alive runs out
abbrev pub IsDueEvent : Event → Type 0
IsDueEvent (queues d now) = Unit {0}
IsDueEvent (closes now) = Unit {0}
IsDueEvent (ticks now) = Unit {0}
IsDueEvent (finishes now) = Unit {0}
IsDueEvent e = ⊥

pub stays_rested : (old new : State) (e : Event) (r : Reaction) (at : ℕ) → IsDueEvent e → ((now : ℕ) → e ≡ ticks now → now ≡ at) → has_run_out old.link at ≡ false → Reacts old e r new → has_run_out new.link at ≡ false
stays_rested old new (connects c continued room now) r at m moment rested d = absurd m
stays_rested old new (queues d now) r at m moment rested q = ap (λ (l : Option Link). has_run_out l at) (queue_link (is_once d.qos) old new d now r q) ∙ rested
stays_rested old new (rooms bytes now) r at m moment rested d = absurd m
stays_rested old new (takes k now room) r at m moment rested d = absurd m
stays_rested old new (answers id codes) r at m moment rested d = absurd m
stays_rested old new (closes now) r at m moment rested d = ap (λ (s : State). has_run_out s.link at) d.1
stays_rested old new (ticks now) r at m moment rested d =
    let same : now ≡ at = moment now refl in
    let out : has_run_out old.link now ≡ false = ap (has_run_out old.link) same ∙ rested in
    ap (λ (s : State). has_run_out s.link at) d.1
    ∙ ap (λ (l : Option Link). has_run_out l at) (tick_link (has_run_out old.link now) (is_due (will_due old.kept) now) (is_due (end_due old.kept) now) now old out) ∙ rested
stays_rested old new (finishes now) r at m moment rested d = ap (λ (s : State). has_run_out s.link at) d.1
stays_rested old new loses r at m moment rested d = absurd m

-- ---- the first byte of a packet
qos_small : (q : Qos) → qos_number q < 3
qos_small AtMostOnce = omega arith
qos_small AtLeastOnce = omega arith
qos_small ExactlyOnce = omega arith

bit_small : (b : Bool) → bit b < 2
bit_small true = omega arith
bit_small false = omega arith

publish_byte : (p : Message_packet) → first_byte (head_of (packets.Publish p)) ≢ 0xe0
unfolding head_of
publish_byte p e =
    let a = bit_small (flags_of p).dup in
    let b = qos_small (flags_of p).qos in
    let c = bit_small (flags_of p).retain in
    let z : 48 + (8 * bit (flags_of p).dup + 2 * qos_number (flags_of p).qos + bit (flags_of p).retain) ≡ 224 = e in
    omega (arith, a, b, c, z)

other_head : (k : Packet) → IsOther (Answer k) → first_byte (head_of k) ≢ 0xe0
unfolding head_of
other_head (packets.Publish p) other e = publish_byte p e
other_head (packets.Connect q) other e = omega (arith, e)
other_head (packets.Connack q) other e = omega (arith, e)
other_head (packets.Puback q) other e = omega (arith, e)
other_head (packets.Pubrec q) other e = omega (arith, e)
other_head (packets.Pubrel q) other e = omega (arith, e)
other_head (packets.Pubcomp q) other e = omega (arith, e)
other_head (packets.Subscribe q) other e = omega (arith, e)
other_head (packets.Suback q) other e = omega (arith, e)
other_head (packets.Unsubscribe q) other e = omega (arith, e)
other_head (packets.Unsuback q) other e = omega (arith, e)
other_head packets.Pingreq other e = omega (arith, e)
other_head packets.Pingresp other e = omega (arith, e)
other_head (packets.Disconnect d) other e = absurd other
other_head (packets.Auth d) other e = omega (arith, e)

pub other_byte : (at : ℕ) (o : Output) → IsOther o → first_byte (head_of (packet_of at o)) ≢ 0xe0
other_byte at (Publish p) other = other_head (packets.Publish (sent p.delivery at p.dup p.id)) tt
other_byte at (Answer k) other = other_head k other

head_of_list : {x y : ℕ} {xs ys : List ℕ} → x ∷ xs ≡ y ∷ ys → x ≡ y
head_of_list e = cc

pub other_bytes : (at : ℕ) (o : Output) → IsOther o → IsFarewell (written (packet_of at o)) → ⊥
unfolding written
other_bytes at o other f = other_byte at o other (head_of_list f.1)

pub other_packet : (k : Packet) → IsOther (Answer k) → IsFarewell (written k) → ⊥
unfolding written
other_packet k other f = other_head k other (head_of_list f.1)
