-- Which exchanges of a client are open, as the events of its session tell it.
use Rattle.std.proofs.Common.{◌≡◌, ℕ, Bool, true, false, cond, List, [], ◌∷◌, Option, Some, None, refl, sym, ◌∙◌, ap, inl, inr}
use Rattle.std.specs.Prelude.{◌==◌, ◌&&◌, is_some, not}
use Rattle.std.specs.BTreeMap.{is_at, insert_entry}
use Rattle.std.specs.Map.{remove_entry}
use Rattle.std.specs.Ordering.{nat_cmp}
use Rattle.std.proofs.lemmas.Bool.{cases_Bool, cases_eq, eq-eqb, ne_eqb, and_parts, false≢true}
use Rattle.mqtt_fields.specs.declared.options.Qos.{Qos}
use Rattle.mqtt_fields.specs.declared.options.Qos.TheVariants.{AtMostOnce, AtLeastOnce, ExactlyOnce}
use Rattle.mqtt_fields.specs.Properties.{first_four}
use Rattle.mqtt_packets.specs.declared.connect.Connect.{Connect}
use Rattle.mqtt_packets.specs.declared.ended.Ended.{Ended}
use Rattle.mqtt_packets.specs.declared.packet.Packet.{Packet}
use Rattle.mqtt_packets.specs.declared.packet.Packet.TheVariants as packets
use Rattle.mqtt_packets.specs.declared.publish.Publish.{Publish}
use Rattle.mqtt_packets.specs.declared.subscribe.Subscribe.{Subscribe}
use Rattle.mqtt_message.specs.declared.delivery.Delivery.{Delivery}
use Rattle.mqtt_message.specs.declared.message.Message.{Message}
use Rattle.qos_handshakes.specs.declared.answers.In.{In}
use Rattle.qos_handshakes.specs.declared.answers.In.TheVariants.{New, Repeat, InUse, OverMaximum}
use Rattle.qos_handshakes.specs.declared.answers.Rec.{Rec}
use Rattle.qos_handshakes.specs.declared.answers.Rec.TheVariants as rec
use Rattle.qos_handshakes.specs.Incoming.{Received, opened, of_before}
use Rattle.qos_handshakes.specs.Outbox.{Outbox}
use Rattle.law_handshakes.proofs.ArrivalLaws.{NoneTwice, opened-new, opened-other, twice-new, opened-ended, opened-stays, twice-ended, opened-before, twice-before}
use Rattle.law_handshakes.specs.Numbers.{AreNumbered}
use Rattle.mqtt_sessions.specs.declared.link.Asked.{Asked}
use Rattle.mqtt_sessions.specs.declared.reaction.Ask.{Ask}
use Rattle.mqtt_sessions.specs.declared.reaction.Ask.TheVariants.{Pass}
use Rattle.mqtt_sessions.specs.Answers.{pubrel, connack, fits}
use Rattle.mqtt_sessions.specs.Arriving.{refusal, message_in, setting, is_full, is_unwelcome, arrival_once, arrival_twice, once_by, arrives_twice, passes_by, publish_by, pubrel_outcome}
use Rattle.mqtt_sessions.specs.Asking.{SubscribeStep, answer_by, answer_on}
use Rattle.mqtt_sessions.specs.Connecting.{OpensIf}
use Rattle.mqtt_sessions.specs.Ending.{disconnected_by, timed_out, ticked_if}
use Rattle.mqtt_sessions.specs.Packets.{PubrecBy, SaysUnknown, KindStep, PacketIf}
use Rattle.mqtt_sessions.specs.Reaction.{Reaction, Comes, answered, nothing}
use Rattle.mqtt_sessions.specs.Sending.{is_once, QueueIf}
use Rattle.mqtt_sessions.specs.State.{State, Link, aliases_of, heard, limit_in, limit_of, new_session}
use Rattle.law_sessions.specs.Arrivals.{is_exactly_once, is_for, is_open_after}
use Rattle.law_sessions.specs.Runs.{Event, connects, queues, rooms, takes, answers, closes, ticks, finishes, loses, Step, Reacts, Run, connected_after, limit_after}
use Rattle.law_sessions.proofs.CallLaws.{numbered-calls}
use Rattle.law_sessions.proofs.ProjectLaws.{project}
use Rattle.law_sessions.proofs.QuietLaws.{HasLimit}
use Rattle.law_causes.specs.InUse.{open_over, is_in_use}

-- ---- one event, over what is open
record IsTold (on : Bool) (id : ℕ) (old : Received) (e : Event) (r : Reaction) (new : Received) : Type 0 where
  is : is_some (opened id new) ≡ is_open_after on id (is_some (opened id old)) e r
  twice : NoneTwice new

-- ---- the events that leave what is open
abbrev Leaves : State → State → Type 0
Leaves old new = new.incoming ≡ old.incoming

answered-leaves : (limit : ℕ) (p : Packet) (ask : Option Ask) (s : State) → (answered limit p ask s).left.incoming ≡ s.incoming
answered-leaves limit p ask s = elim (cases_Bool (fits limit p)) [ inl f ↦ rw f refl | inr f ↦ rw f refl ]

answered-asks : (limit : ℕ) (p : Packet) (ask : Option Ask) (s : State) → (answered limit p ask s).reaction.ask ≡ ask
answered-asks limit p ask s = elim (cases_Bool (fits limit p)) [ inl f ↦ rw f refl | inr f ↦ rw f refl ]

comes-leaves : (limit : ℕ) (p : Packet) (ask : Option Ask) (s : State) (r : Reaction) (new : State) → Comes (answered limit p ask s) r new → Leaves s new
comes-leaves limit p ask s r new c = rw c.1 (answered-leaves limit p ask s)

opens-leaves : (b : Bool) (old new : State) (c : Connect) (p : Packet) (room : Option ℕ) (now : ℕ) (r : Reaction) → OpensIf b old c p room now r new → new.incoming ≡ of_before old.incoming
opens-leaves true old new c p room now r h = rw h.left refl
opens-leaves false old new c p room now r h = rw h.1 refl

queue-leaves : (b : Bool) (old new : State) (d : Delivery) (now : ℕ) (r : Reaction) → QueueIf b old d now r new → Leaves old new
queue-leaves true old new d now r q = rw q.1 refl
queue-leaves false old new d now r (inl q) = rw q.left refl
queue-leaves false old new d now r (inr q) = rw q.left refl

unknown-leaves : (id reason limit : ℕ) (s new : State) (r : Reaction) → SaysUnknown id reason limit s r new → Leaves s new
unknown-leaves id reason limit s new r (inl h) = comes-leaves limit (pubrel id 146) None s r new h.1
unknown-leaves id reason limit s new r (inr h) = rw h.2 refl

pubrec-leaves : (a : Rec) (id reason now limit : ℕ) (s new : State) (mid : Outbox) (r : Reaction) → PubrecBy a id reason now limit s mid r new → Leaves s new
pubrec-leaves rec.Release id reason now limit s new mid r h = comes-leaves limit (pubrel id 0) None _ r new h
pubrec-leaves rec.Ended id reason now limit s new mid r h = rw h.left refl
pubrec-leaves rec.Unknown id reason now limit s new mid r h = unknown-leaves id reason limit _ new r h
pubrec-leaves rec.AtEnd id reason now limit s new mid r h = absurd h

asks-leaves : (b : Bool) (limit : ℕ) (p : Packet) (s t : State) (w : Reaction) → Leaves s t → (cond b (answered limit p None s) (record { reaction = w; left = t })).left.incoming ≡ s.incoming
asks-leaves true limit p s t w e = answered-leaves limit p None s
asks-leaves false limit p s t w e = e

subscribe-leaves : (p : Subscribe) (limit : ℕ) (s new : State) (r : Reaction) → SubscribeStep p limit s r new → Leaves s new
subscribe-leaves p limit s new r (inl h) = rw h.1.1 refl
subscribe-leaves p limit s new r (inr h) = rw h.1.1 (asks-leaves (is_some (opened p.identifier s.incoming)) limit _ s _ _ refl)

disconnect-leaves : (o : Option ℕ) (p : Ended) (limit : ℕ) (s : State) → (disconnected_by o p limit s).left.incoming ≡ s.incoming
disconnect-leaves None p limit s = refl
disconnect-leaves (Some new) p limit s = elim (cases_Bool ((s.kept.expiry == 0) && not (new == 0))) [ inl h ↦ rw h refl | inr h ↦ rw h refl ]

codes-leaves : (a : Option Asked) (limit id : ℕ) (codes : List ℕ) (s : State) → (answer_by a limit id codes s).left.incoming ≡ s.incoming
codes-leaves None limit id codes s = refl
codes-leaves (Some a) limit id codes s = answered-leaves limit _ None _

answer-leaves : (o : Option Link) (id : ℕ) (codes : List ℕ) (s : State) → (answer_on o id codes s).left.incoming ≡ s.incoming
answer-leaves None id codes s = refl
answer-leaves (Some l) id codes s = codes-leaves l.asked l.limit id codes s

timed-leaves : (o : Option Link) (s : State) → (timed_out o s).left.incoming ≡ s.incoming
timed-leaves None s = refl
timed-leaves (Some l) s = refl

tick-leaves : (a b c : Bool) (now : ℕ) (s : State) → (ticked_if a b c now s).left.incoming ≡ s.incoming
tick-leaves true b c now s = timed-leaves s.link s
tick-leaves false true c now s = refl
tick-leaves false false c now s = refl

-- ---- PUBLISH
-- nothing is opened, and where it is for the identifier nothing is passed on
still : (on : Bool) (id : ℕ) (old new : Received) (p : Publish) (now : ℕ) (room : Bool) (r : Reaction) → NoneTwice old → new ≡ old → (is_for id p ≡ true → r.ask ≡ None) → IsTold on id old (takes (packets.Publish p) now room) r new
still on id old new p now room r twice same none = record {
  is = rw same (elim (cases_Bool (is_for id p)) [ inl f ↦ rw (f, none f) refl | inr f ↦ rw f refl ]);
  twice = rw same twice;
}

-- a new exchange
fresh : (on : Bool) (id : ℕ) (old new : Received) (p : Publish) (now : ℕ) (room : Bool) (m : Message) (r : Reaction) → NoneTwice old → p.qos ≡ ExactlyOnce → opened p.identifier old ≡ None → new ≡ insert_entry nat_cmp old p.identifier true
    → r.ask ≡ Some (Pass m) → IsTold on id old (takes (packets.Publish p) now room) r new
fresh on id old new p now room m r twice q none left ask = record {
  is = elim (cases_eq p.identifier id) [
    | inl same ↦ rw (left, ask, q, eq-eqb p.identifier id same, ← same) (ap is_some (opened-new p.identifier old none))
    | inr ne ↦ rw (left, ask, q, ne_eqb p.identifier id ne) (ap is_some (opened-other p.identifier id old ne))
  ];
  twice = rw left (twice-new p.identifier old none twice);
}

-- at QoS 2
twice-told : (o : Option Bool) (on unwelcome : Bool) (id limit : ℕ) (p : Publish) (now : ℕ) (room : Bool) (m : Message) (s new : State) (r : Reaction) → NoneTwice s.incoming → p.qos ≡ ExactlyOnce → opened p.identifier s.incoming ≡ o
    → Comes (arrives_twice (arrival_twice s.incoming p.identifier) unwelcome limit p.identifier m s) r new → IsTold on id s.incoming (takes (packets.Publish p) now room) r new.incoming
twice-told (Some true) on unwelcome id limit p now room m s new r twice q e c =
    let d = rw e at c in still on id s.incoming new.incoming p now room r twice (rw d.1 (answered-leaves limit _ None _)) (λ f. rw d.0 (answered-asks limit _ None _))
twice-told (Some false) on unwelcome id limit p now room m s new r twice q e c = elim (cases_Bool (is_full s.incoming)) [
  | inl t ↦ let d = rw (e, t) at c in still on id s.incoming new.incoming p now room r twice (rw d.1 refl) (λ f. rw d.0 refl)
  | inr t ↦ let d = rw (e, t) at c in still on id s.incoming new.incoming p now room r twice (rw d.1 (answered-leaves limit _ None _)) (λ f. rw d.0 (answered-asks limit _ None _))
]
twice-told None on unwelcome id limit p now room m s new r twice q e c = elim (cases_Bool (is_full s.incoming)) [
  | inl t ↦ let d = rw (e, t) at c in still on id s.incoming new.incoming p now room r twice (rw d.1 refl) (λ f. rw d.0 refl)
  | inr t ↦ elim (cases_Bool unwelcome) [
    | inl u ↦ let d = rw (e, t, u) at c in still on id s.incoming new.incoming p now room r twice (rw d.1 (answered-leaves limit _ None _)) (λ f. rw d.0 (answered-asks limit _ None _))
    | inr u ↦ let d = rw (e, t, u) at c in fresh on id s.incoming new.incoming p now room m r twice q e (rw d.1 (answered-leaves limit _ _ _)) (rw d.0 (answered-asks limit _ _ _))
  ]
]

-- at QoS 0 and 1 it is for no exchange
not-for : (id : ℕ) (p : Publish) → is_exactly_once p.qos ≡ false → is_for id p ≡ true → ⊥
not-for id p q f = false≢true (sym q ∙ (and_parts (is_exactly_once p.qos) (p.identifier == id) f).0)

other : (on : Bool) (id : ℕ) (old new : Received) (p : Publish) (now : ℕ) (room : Bool) (r : Reaction) → NoneTwice old → new ≡ old → is_exactly_once p.qos ≡ false → IsTold on id old (takes (packets.Publish p) now room) r new
other on id old new p now room r twice same q = still on id old new p now room r twice same (λ f. absurd (not-for id p q f))

once-leaves : (a : In) (unwelcome : Bool) (limit id : ℕ) (m : Message) (s : State) → (once_by a unwelcome limit id m s).left.incoming ≡ s.incoming
once-leaves OverMaximum unwelcome limit id m s = refl
once-leaves InUse unwelcome limit id m s = answered-leaves limit _ None s
once-leaves Repeat unwelcome limit id m s = answered-leaves limit _ None s
once-leaves New true limit id m s = answered-leaves limit _ None s
once-leaves New false limit id m s = answered-leaves limit _ _ s

passes-told : (q : Qos) (on unwelcome : Bool) (id limit : ℕ) (p : Publish) (now : ℕ) (room : Bool) (m : Message) (s new : State) (r : Reaction) → NoneTwice s.incoming → p.qos ≡ q → Comes (passes_by q p unwelcome limit m s) r new
    → IsTold on id s.incoming (takes (packets.Publish p) now room) r new.incoming
passes-told AtMostOnce on unwelcome id limit p now room m s new r twice q c = other on id s.incoming new.incoming p now room r twice (rw c.1 refl) (rw q refl)
passes-told AtLeastOnce on unwelcome id limit p now room m s new r twice q c = other on id s.incoming new.incoming p now room r twice (rw c.1 (once-leaves (arrival_once s.incoming p.identifier) unwelcome limit p.identifier m s)) (rw q refl)
passes-told ExactlyOnce on unwelcome id limit p now room m s new r twice q c = twice-told (opened p.identifier s.incoming) on unwelcome id limit p now room m s new r twice q refl c

publish-told : (o : Option ℕ) (on : Bool) (id limit : ℕ) (p : Publish) (now : ℕ) (room : Bool) (s new : State) (r : Reaction) → NoneTwice s.incoming → Comes (publish_by o p now room limit s) r new → IsTold on id s.incoming (takes (packets.Publish p) now room) r new.incoming
publish-told (Some code) on id limit p now room s new r twice c = still on id s.incoming new.incoming p now room r twice (rw c.1 refl) (λ f. rw c.0 refl)
publish-told None on id limit p now room s new r twice c = passes-told p.qos on (is_unwelcome p room) id limit p now room (message_in p now (setting p s)) (setting p s) new r twice refl c

-- ---- PUBREL
pubrel-told : (o : Option Bool) (id i limit : ℕ) (s new : State) (r : Reaction) → opened i s.incoming ≡ o → NoneTwice s.incoming → Comes (pubrel_outcome i limit s) r new
    → (is_some (opened id new.incoming) ≡ cond (i == id) false (is_some (opened id s.incoming))) × NoneTwice new.incoming
pubrel-told None id i limit s new r e twice c =
    let same : new.incoming ≡ s.incoming = rw (c.1, e) (answered-leaves limit _ None _) in
    rw same (elim (cases_eq i id) [ inl k ↦ rw (eq-eqb i id k, ← k, e) refl | inr ne ↦ rw (ne_eqb i id ne) refl ], twice)
pubrel-told (Some b) id i limit s new r e twice c =
    let gone : new.incoming ≡ remove_entry (is_at (nat_cmp i)) s.incoming = rw (c.1, e) (answered-leaves limit _ None _) in
    rw gone (
      elim (cases_eq i id) [
        | inl k ↦ rw (eq-eqb i id k, ← k) (ap is_some (opened-ended i s.incoming twice))
        | inr ne ↦ rw (ne_eqb i id ne) (ap is_some (opened-stays i id s.incoming ne))
      ],
      twice-ended i s.incoming twice,
    )

-- ---- packets
left : (on : Bool) (id : ℕ) (old new : Received) (e : Event) (r : Reaction) → NoneTwice old → new ≡ old → is_open_after on id (is_some (opened id old)) e r ≡ is_some (opened id old) → IsTold on id old e r new
left on id old new e r twice same is = record { is = rw same (sym is); twice = rw same twice }

kind-told : (id : ℕ) (p : Packet) (now : ℕ) (room : Bool) (limit : ℕ) (s new : State) (r : Reaction) → NoneTwice s.incoming → KindStep p now room limit s r new → IsTold true id s.incoming (takes p now room) r new.incoming
kind-told id (packets.Publish p) now room limit s new r twice h = publish-told (refusal (aliases_of s.link) p) true id limit p now room s new r twice h
kind-told id (packets.Puback a) now room limit s new r twice h = left true id s.incoming new.incoming _ r twice (rw h.left refl) refl
kind-told id (packets.Pubrec a) now room limit s new r twice h = left true id s.incoming new.incoming _ r twice (pubrec-leaves h.answer a.identifier a.reason now limit s new h.mid r h.goes_on) refl
kind-told id (packets.Pubrel a) now room limit s new r twice h = let t = pubrel-told (opened a.identifier s.incoming) id a.identifier limit s new r refl twice h in record { is = t.0; twice = t.1 }
kind-told id (packets.Pubcomp a) now room limit s new r twice h = left true id s.incoming new.incoming _ r twice (rw h.left refl) refl
kind-told id (packets.Subscribe p) now room limit s new r twice h = left true id s.incoming new.incoming _ r twice (subscribe-leaves p limit s new r h) refl
kind-told id (packets.Unsubscribe p) now room limit s new r twice h = left true id s.incoming new.incoming _ r twice (rw h.1 (asks-leaves (is_some (opened p.identifier s.incoming)) limit _ s _ _ refl)) refl
kind-told id packets.Pingreq now room limit s new r twice h = left true id s.incoming new.incoming _ r twice (comes-leaves limit _ None s r new h) refl
kind-told id (packets.Disconnect p) now room limit s new r twice h = left true id s.incoming new.incoming _ r twice (rw h.1 (disconnect-leaves (first_four 17 p.properties) p limit s)) refl
kind-told id (packets.Connect p) now room limit s new r twice h = left true id s.incoming new.incoming _ r twice (rw h.1 refl) refl
kind-told id (packets.Connack p) now room limit s new r twice h = left true id s.incoming new.incoming _ r twice (rw h.1 refl) refl
kind-told id (packets.Suback p) now room limit s new r twice h = left true id s.incoming new.incoming _ r twice (rw h.1 refl) refl
kind-told id (packets.Unsuback p) now room limit s new r twice h = left true id s.incoming new.incoming _ r twice (rw h.1 refl) refl
kind-told id packets.Pingresp now room limit s new r twice h = left true id s.incoming new.incoming _ r twice (rw h.1 refl) refl
kind-told id (packets.Auth p) now room limit s new r twice h = left true id s.incoming new.incoming _ r twice (rw h.1 refl) refl

-- without a connection nothing changes
unheard : (id : ℕ) (p : Packet) (now : ℕ) (room : Bool) (old new : Received) (r : Reaction) → NoneTwice old → r ≡ nothing → new ≡ old → IsTold false id old (takes p now room) r new
unheard id (packets.Publish p) now room old new r twice none same = still false id old new p now room r twice same (λ f. rw none refl)
unheard id (packets.Puback a) now room old new r twice none same = left false id old new _ r twice same refl
unheard id (packets.Pubrec a) now room old new r twice none same = left false id old new _ r twice same refl
unheard id (packets.Pubrel a) now room old new r twice none same = left false id old new _ r twice same refl
unheard id (packets.Pubcomp a) now room old new r twice none same = left false id old new _ r twice same refl
unheard id (packets.Subscribe p) now room old new r twice none same = left false id old new _ r twice same refl
unheard id (packets.Unsubscribe p) now room old new r twice none same = left false id old new _ r twice same refl
unheard id packets.Pingreq now room old new r twice none same = left false id old new _ r twice same refl
unheard id (packets.Disconnect p) now room old new r twice none same = left false id old new _ r twice same refl
unheard id (packets.Connect p) now room old new r twice none same = left false id old new _ r twice same refl
unheard id (packets.Connack p) now room old new r twice none same = left false id old new _ r twice same refl
unheard id (packets.Suback p) now room old new r twice none same = left false id old new _ r twice same refl
unheard id (packets.Unsuback p) now room old new r twice none same = left false id old new _ r twice same refl
unheard id packets.Pingresp now room old new r twice none same = left false id old new _ r twice same refl
unheard id (packets.Auth p) now room old new r twice none same = left false id old new _ r twice same refl

packet-told : (o : Option Link) (on : Bool) (id : ℕ) (p : Packet) (now : ℕ) (room : Bool) (old new : State) (r : Reaction) → on ≡ is_some o → NoneTwice old.incoming → PacketIf (limit_of o) p now room old r new → IsTold on id old.incoming (takes p now room) r new.incoming
packet-told None on id p now room old new r opens twice h = rw opens (unheard id p now room old.incoming new.incoming r twice h.0 (rw h.1 refl))
packet-told (Some l) on id p now room old new r opens twice h = rw opens (kind-told id p now room l.limit (heard old now) new r twice h)

told : (on : Bool) (id : ℕ) (old new : State) (e : Event) (r : Reaction) → on ≡ is_some old.link → NoneTwice old.incoming → Reacts old e r new → IsTold on id old.incoming e r new.incoming
told on id old new (connects c continued room now) r opens twice h =
    let before = opens-leaves (fits (limit_in c.properties) (connack continued c.client old.kept.client)) old new c _ room now r h.1 in record { is = rw before (opened-before id old.incoming); twice = rw before (twice-before old.incoming twice) }
told on id old new (queues d now) r opens twice h = left on id old.incoming new.incoming _ r twice (queue-leaves (is_once d.qos) old new d now r h) refl
told on id old new (rooms bytes now) r opens twice h = left on id old.incoming new.incoming _ r twice (rw h.left refl) refl
told on id old new (takes p now room) r opens twice h = packet-told old.link on id p now room old new r opens twice h
told on id old new (answers i codes) r opens twice h = left on id old.incoming new.incoming _ r twice (rw h.1 (answer-leaves old.link i codes old)) refl
told on id old new (closes now) r opens twice h = left on id old.incoming new.incoming _ r twice (rw h.1 refl) refl
told on id old new (ticks now) r opens twice h = left on id old.incoming new.incoming _ r twice (rw h.1 (tick-leaves _ _ _ now old)) refl
told on id old new (finishes now) r opens twice h = left on id old.incoming new.incoming _ r twice (rw h.1 refl) refl
told on id old new loses r opens twice h = record { is = rw h.incoming (opened-before id old.incoming); twice = rw h.incoming (twice-before old.incoming twice) }

-- ---- over all events
all-told : (on : Bool) (limit id : ℕ) (old : State) (steps : List Step) (end : State) → HasLimit limit old.link → on ≡ is_some old.link → AreNumbered old.outbox.copies → NoneTwice old.incoming → Run old steps end
    → is_some (opened id end.incoming) ≡ open_over on id (is_some (opened id old.incoming)) steps
all-told on limit id old [] end is opens n twice r = ap (λ (s : State). is_some (opened id s.incoming)) r
all-told on limit id old (s ∷ ss) end is opens n twice r =
    let t = told on id old r.0 s.event s.reaction opens twice r.1 in
    let p = project on limit old r.0 s.event s.reaction is opens n r.1 in
    all-told (connected_after on s.event s.reaction) (limit_after limit s.event) id r.0 ss end p.limited p.connected (numbered-calls old.outbox p.calls r.0.outbox p.runs n) t.twice r.2
    ∙ ap (λ b. open_over (connected_after on s.event s.reaction) id b ss) t.is

-- what a session holds of its exchanges
pub open_is_told : (client : List ℕ) (id : ℕ) (steps : List Step) (end : State) → Run (new_session client) steps end → is_some (opened id end.incoming) ≡ is_in_use id steps
open_is_told client id steps end r = all-told false 0 id (new_session client) steps end tt refl tt tt r
