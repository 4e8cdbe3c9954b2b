-- The exchanges that are released are those that packets tell.
use Rattle.std.proofs.Common.{◌≡◌, ◌≢◌, ℕ, Bool, true, false, List, [], ◌∷◌, ◌++◌, Option, Some, None, refl, sym, ◌∙◌, ap, inl, inr}
use Rattle.std.specs.Prelude.{◌==◌, ◌&&◌, nat_lt, not, is_some}
use Rattle.std.specs.List.{AllByRecursion}
use Rattle.std.proofs.lemmas.Bool.{cases_Bool, both_ways, eq-eqb, false≢true}
use Rattle.mqtt_fields.specs.declared.options.Qos.{Qos}
use Rattle.mqtt_fields.specs.declared.options.Qos.TheVariants.{AtMostOnce, AtLeastOnce, ExactlyOnce}
use Rattle.mqtt_packets.specs.declared.ack.Ack as ack_packets
use Rattle.mqtt_packets.specs.declared.connect.Connect.{Connect}
use Rattle.mqtt_packets.specs.declared.packet.Packet.{Packet}
use Rattle.mqtt_packets.specs.declared.packet.Packet.TheVariants as packets
use Rattle.qos_handshakes.specs.declared.copies.Entry.{Entry}
use Rattle.qos_handshakes.specs.declared.copies.Stage.{Stage}
use Rattle.qos_handshakes.specs.declared.copies.Stage.TheVariants.{Waiting, Published, Released}
use Rattle.qos_handshakes.specs.Entries.{Entries, find_id, stage_has}
use Rattle.qos_handshakes.specs.Outbox.{Sent, by_release, is_completed, is_released, stage_pair, takes_pubrec, empty_outbox}
use Rattle.qos_handshakes.proofs.EntryLaws.{NoneHas, none-head, none-tail}
use Rattle.qos_handshakes.specs.Touched.{is_in}
use Rattle.law_handshakes.specs.Lists.{without}
use Rattle.law_handshakes.specs.Numbers.{AreNumbered}
use Rattle.law_handshakes.proofs.OpenLaws.{all-both}
use Rattle.law_handshakes.proofs.ReleaseLaws.{AreDistinct, Pair, all-sorted, has-none, has-released, not-released, pairs}
use Rattle.mqtt_sessions.specs.declared.reaction.Output.TheVariants.{Answer}
use Rattle.mqtt_sessions.specs.Answers.{connack, fits, pubrel}
use Rattle.mqtt_sessions.specs.Connecting.{OpensIf}
use Rattle.mqtt_sessions.specs.Reaction.{Reaction, publishes_of}
use Rattle.mqtt_sessions.specs.State.{State, Link, limit_in, new_session}
use Rattle.law_sessions.specs.Releases.{is_unreleased, released_after, released_ids}
use Rattle.law_sessions.specs.Replies.{Reply, reaction_of, reply_pubrec, reply_unknown}
use Rattle.law_sessions.specs.Runs.{Event, connects, queues, rooms, takes, answers, closes, ticks, finishes, loses, Step, Reacts, Run, connected_after, limit_after}
use Rattle.law_sessions.proofs.CallLaws.{numbered-calls}
use Rattle.law_sessions.proofs.LiftLaws.{whole}
use Rattle.law_sessions.proofs.ProjectLaws.{project}
use Rattle.law_sessions.proofs.QuietLaws.{HasLimit}
use Rattle.law_sessions.proofs.ReleasedLaws.{keeps_released, keeps_releases_first}
use Rattle.law_sessions.proofs.ReplyLaws.{replies_by_link, keeps_unheard}
use Rattle.law_sessions.proofs.SizeLaws.{pubrel-fits}
use Rattle.law_deliveries.specs.Released.{AllBegin, BeginsBy, KeepsReleasesTold, pubrel_in, released_over, released_told}
use Rattle.law_deliveries.proofs.ReleasingLaws.{distinct-run, released-not}

-- ---- lists
without-absent : (id : ℕ) (xs : List ℕ) → is_in id xs ≡ false → without id xs ≡ xs
without-absent id [] h = refl
without-absent id (x ∷ xs) h = elim (cases_Bool (x == id)) [
  | inl t ↦ absurd (let bad : true ≡ false = rw t at h in false≢true (sym bad))
  | inr t ↦ rw t (ap (λ (ys : List ℕ). x ∷ ys) (without-absent id xs (rw t at h)))
]

-- ---- an exchange that isn't released is none of those
none-pairs : (id : ℕ) (es : Entries) → NoneHas id es → AllByRecursion (λ (y : Pair). y.1 ≢ id) (pairs es)
none-pairs id [] h = tt
none-pairs id (e ∷ es) h = all-both (λ (y : Pair). y.1 ≢ id) (stage_pair e.1.stage) (pairs es) (none-pair id e.1.stage (none-head id e es h)) (none-pairs id es (none-tail id e es h))
  where
    none-pair : (i : ℕ) (s : Stage) → stage_has i s ≡ false → AllByRecursion (λ (y : Pair). y.1 ≢ i) (stage_pair s)
    none-pair i Waiting g = tt
    none-pair i (Published k) g = tt
    none-pair i (Released k order) g = (λ same. both_ways (k == i) g (eq-eqb k i same), tt)

no-pair : (s : Stage) → is_released s ≡ false → stage_pair s ≡ []
no-pair Waiting h = refl
no-pair (Published id) h = refl
no-pair (Released id order) h = absurd (false≢true (sym h))

pub absent : (o : Option Entry) (id : ℕ) (s : State) → AreNumbered s.outbox.copies → find_id id s.outbox.copies ≡ o → is_completed o ≡ false → is_in id (released_ids s) ≡ false
absent None id s n is h = has-none id (by_release s.outbox.copies) (all-sorted (λ (y : Pair). y.1 ≢ id) (pairs s.outbox.copies) (none-pairs id s.outbox.copies is))
absent (Some x) id s n is h = has-none id (by_release s.outbox.copies) (all-sorted (λ (y : Pair). y.1 ≢ id) (pairs s.outbox.copies) (not-released id x s.outbox.copies n is (no-pair x.stage h)))

unreleased-not : (q : Qos) (s : Stage) → takes_pubrec q s ≡ true → is_released s ≡ false
unreleased-not AtMostOnce s h = absurd (false≢true h)
unreleased-not AtLeastOnce s h = absurd (false≢true h)
unreleased-not ExactlyOnce Waiting h = refl
unreleased-not ExactlyOnce (Published id) h = refl
unreleased-not ExactlyOnce (Released id order) h = absurd (false≢true h)

-- ---- a PUBREL among packets
none-published : (id : ℕ) (ss : List Sent) → pubrel_in id (publishes_of ss) ≡ false
none-published id [] = refl
none-published id (s ∷ ss) = none-published id ss

unknown-in : (id reason limit : ℕ) (ss : List Sent) → pubrel_in id ((reaction_of limit (reply_unknown id reason)).packets ++ publishes_of ss) ≡ false
unknown-in id reason limit ss = elim (cases_Bool (nat_lt reason 128)) [
  | inl t ↦ elim (cases_Bool (fits limit (pubrel id 146))) [ inl f ↦ rw (t, f, eq-eqb id id refl) (none-published id ss) | inr f ↦ rw (t, f) (none-published id ss) ]
  | inr t ↦ rw t (none-published id ss)
]

-- what a PUBREC adds, by the packets and by what the session holds
pubrec-adds : (o : Option Entry) (id reason limit : ℕ) (s : State) (ss : List Sent) → find_id id s.outbox.copies ≡ o → AreNumbered s.outbox.copies → AreDistinct (pairs s.outbox.copies) → fits limit (pubrel id 0) ≡ true
    → (pubrel_in id ((reaction_of limit (reply_pubrec o id reason)).packets ++ publishes_of ss) && not (is_in id (released_ids s))) ≡ (is_unreleased o && nat_lt reason 128)
pubrec-adds None id reason limit s ss is n d fit = rw (unknown-in id reason limit ss) refl
pubrec-adds (Some x) id reason limit s ss is n d fit = elim (cases_Bool (is_released x.stage)) [
  | inl r ↦
      let there : is_in id (released_ids s) ≡ true = has-released id x s.outbox.copies d is r in
      rw (r, released-not x.delivery.qos x.stage r, fit, eq-eqb id id refl, there) refl
  | inr r ↦ elim (cases_Bool (takes_pubrec x.delivery.qos x.stage)) [
    | inl t ↦ elim (cases_Bool (nat_lt reason 128)) [
      | inl u ↦ rw (r, t, u, fit, eq-eqb id id refl, absent (Some x) id s n is r) refl
      | inr u ↦ rw (r, t, u, none-published id ss) refl
    ]
    | inr t ↦ rw (r, t, unknown-in id reason limit ss) refl
  ]
]

-- ---- what a connection's client takes
abbrev Fit : ℕ → Type 0
Fit limit = (id : ℕ) → fits limit (pubrel id 0) ≡ true

abbrev FitsOn : Bool → ℕ → Type 0
FitsOn on limit = on ≡ true → Fit limit

opens-fit : (b : Bool) (old new : State) (c : Connect) (continued : Bool) (room : Option ℕ) (now : ℕ) (r : Reaction) → fits (limit_in c.properties) (connack continued c.client old.kept.client) ≡ b → OpensIf b old c (connack continued c.client old.kept.client) room now r new → FitsOn (not (is_some r.end)) (limit_in c.properties)
opens-fit true old new c continued room now r is h = λ _ id. pubrel-fits continued c.client old.kept.client (limit_in c.properties) id is
opens-fit false old new c continued room now r is h = rw h.0 (λ t. absurd (false≢true t))

same-fit : (on b : Bool) (limit : ℕ) → FitsOn on limit → FitsOn (on && b) limit
same-fit true b limit h = λ _. h refl
same-fit false b limit h = λ t. absurd (false≢true t)

fits-on : (on : Bool) (limit : ℕ) (old new : State) (e : Event) (r : Reaction) → Reacts old e r new → FitsOn on limit → FitsOn (connected_after on e r) (limit_after limit e)
fits-on on limit old new (connects c continued room now) r h f = opens-fit (fits (limit_in c.properties) (connack continued c.client old.kept.client)) old new c continued room now r refl h.1
fits-on on limit old new (queues d now) r h f = same-fit on (not (is_some r.end)) limit f
fits-on on limit old new (rooms bytes now) r h f = same-fit on (not (is_some r.end)) limit f
fits-on on limit old new (takes p now room) r h f = same-fit on (not (is_some r.end)) limit f
fits-on on limit old new (answers id codes) r h f = same-fit on (not (is_some r.end)) limit f
fits-on on limit old new (closes now) r h f = λ t. absurd (false≢true t)
fits-on on limit old new (ticks now) r h f = same-fit on (not (is_some r.end)) limit f
fits-on on limit old new (finishes now) r h f = λ t. absurd (false≢true t)
fits-on on limit old new loses r h f = λ t. absurd (false≢true t)

-- ---- the packets
pubrec-told : (o : Option Link) (on : Bool) (limit : ℕ) (a : ack_packets.Ack) (now : ℕ) (room : Bool) (old new : State) (r : Reaction) → old.link ≡ o → on ≡ is_some o → HasLimit limit o → FitsOn on limit → AreNumbered old.outbox.copies → AreDistinct (pairs old.outbox.copies) → Reacts old (takes (packets.Pubrec a) now room) r new
    → released_told on (released_ids old) (takes (packets.Pubrec a) now room) r ≡ released_after old (takes (packets.Pubrec a) now room)
pubrec-told None on limit a now room old new r e is limited f n d h =
    let none : r.packets ≡ [] = rw (keeps_unheard old new (packets.Pubrec a) now room r e h).0 refl in
    rw (none, e) refl
pubrec-told (Some l) on limit a now room old new r e is limited f n d h =
    let k = replies_by_link old new l (packets.Pubrec a) now room r e h in
    let o = find_id a.identifier old.outbox.copies in
    let fit : fits l.limit (pubrel a.identifier 0) ≡ true = rw limited (f is a.identifier) in
    let these : r.packets ≡ (reaction_of l.limit (reply_pubrec o a.identifier a.reason)).packets ++ publishes_of k.sents = ap (λ (w : Reaction). w.packets) k.gives ∙ ap (λ (x : Reply). (reaction_of l.limit x).packets ++ publishes_of k.sents) k.is in
    let adds = pubrec-adds o a.identifier a.reason l.limit old k.sents refl n d fit in
    rw (these, adds, e) refl

pubcomp-told : (o : Option Link) (on : Bool) (a : ack_packets.Ack) (now : ℕ) (room : Bool) (old : State) (r : Reaction) → old.link ≡ o → on ≡ is_some o → AreNumbered old.outbox.copies
    → released_told on (released_ids old) (takes (packets.Pubcomp a) now room) r ≡ released_after old (takes (packets.Pubcomp a) now room)
pubcomp-told None on a now room old r e is n = rw (is, e) refl
pubcomp-told (Some l) on a now room old r e is n = elim (cases_Bool (is_completed (find_id a.identifier old.outbox.copies))) [
  | inl t ↦ rw (is, e, t) refl
  | inr t ↦ rw (is, e, t) (without-absent a.identifier (released_ids old) (absent (find_id a.identifier old.outbox.copies) a.identifier old n refl t))
]

packet-told : (on : Bool) (limit : ℕ) (p : Packet) (now : ℕ) (room : Bool) (old new : State) (r : Reaction) → on ≡ is_some old.link → HasLimit limit old.link → FitsOn on limit → AreNumbered old.outbox.copies → AreDistinct (pairs old.outbox.copies) → Reacts old (takes p now room) r new
    → released_told on (released_ids old) (takes p now room) r ≡ released_after old (takes p now room)
packet-told on limit (packets.Pubrec a) now room old new r is limited f n d h = pubrec-told old.link on limit a now room old new r refl is limited f n d h
packet-told on limit (packets.Pubcomp a) now room old new r is limited f n d h = pubcomp-told old.link on a now room old r refl is n
packet-told on limit (packets.Publish p) now room old new r is limited f n d h = refl
packet-told on limit (packets.Puback p) now room old new r is limited f n d h = refl
packet-told on limit (packets.Pubrel p) now room old new r is limited f n d h = refl
packet-told on limit (packets.Subscribe p) now room old new r is limited f n d h = refl
packet-told on limit (packets.Unsubscribe p) now room old new r is limited f n d h = refl
packet-told on limit packets.Pingreq now room old new r is limited f n d h = refl
packet-told on limit (packets.Disconnect p) now room old new r is limited f n d h = refl
packet-told on limit (packets.Connect p) now room old new r is limited f n d h = refl
packet-told on limit (packets.Connack p) now room old new r is limited f n d h = refl
packet-told on limit (packets.Suback p) now room old new r is limited f n d h = refl
packet-told on limit (packets.Unsuback p) now room old new r is limited f n d h = refl
packet-told on limit packets.Pingresp now room old new r is limited f n d h = refl
packet-told on limit (packets.Auth p) now room old new r is limited f n d h = refl

told : (on : Bool) (limit : ℕ) (old new : State) (e : Event) (r : Reaction) → on ≡ is_some old.link → HasLimit limit old.link → FitsOn on limit → AreNumbered old.outbox.copies → AreDistinct (pairs old.outbox.copies) → Reacts old e r new → released_told on (released_ids old) e r ≡ released_after old e
told on limit old new (connects c continued room now) r is limited f n d h = refl
told on limit old new (queues x now) r is limited f n d h = refl
told on limit old new (rooms bytes now) r is limited f n d h = refl
told on limit old new (takes p now room) r is limited f n d h = packet-told on limit p now room old new r is limited f n d h
told on limit old new (answers id codes) r is limited f n d h = refl
told on limit old new (closes now) r is limited f n d h = refl
told on limit old new (ticks now) r is limited f n d h = refl
told on limit old new (finishes now) r is limited f n d h = refl
told on limit old new loses r is limited f n d h = refl

-- ---- the law
begins : (old new : State) (e : Event) (r : Reaction) → Reacts old e r new → BeginsBy (released_ids old) e r
begins old new (connects c continued room now) r h = λ e. (let k = keeps_releases_first old new c continued room now r h e in (Answer (connack continued c.client old.kept.client), k.0, k.1))
begins old new (queues d now) r h = tt
begins old new (rooms bytes now) r h = tt
begins old new (takes p now room) r h = tt
begins old new (answers id codes) r h = tt
begins old new (closes now) r h = tt
begins old new (ticks now) r h = tt
begins old new (finishes now) r h = tt
begins old new loses r h = tt

run-more : (start old new : State) (before : List Step) (s : Step) → Run start before old → Reacts old s.event s.reaction new → Run start (before ++ s ∷ []) new
run-more start old new [] s r step = (new, rw r at step, refl)
run-more start old new (t ∷ ts) s r step = (r.0, r.1, run-more r.0 old new ts s r.2 step)

begin-run : (client : List ℕ) (before : List Step) (on : Bool) (limit : ℕ) (old : State) (steps : List Step) (end : State) → Run (new_session client) before old → HasLimit limit old.link → on ≡ is_some old.link → FitsOn on limit → AreNumbered old.outbox.copies → Run old steps end → AllBegin on (released_ids old) steps × (released_over on (released_ids old) steps ≡ released_ids end)
begin-run client before on limit old [] end run is opens f n r = (tt, rw r refl)
begin-run client before on limit old (s ∷ ss) end run is opens f n r =
    let p = project on limit old r.0 s.event s.reaction is opens n r.1 in
    let w = whole client before old run in
    let d = distinct-run [] empty_outbox w.calls old.outbox w.runs tt (record { is = refl; distinct = tt; below = tt }) in
    let next : released_told on (released_ids old) s.event s.reaction ≡ released_ids r.0 = told on limit old r.0 s.event s.reaction opens is f n d r.1 ∙ sym (keeps_released client before s old r.0 run r.1) in
    let rest = begin-run client (before ++ s ∷ []) (connected_after on s.event s.reaction) (limit_after limit s.event) r.0 ss end (run-more (new_session client) old r.0 before s run r.1) p.limited p.connected (fits-on on limit old r.0 s.event s.reaction r.1 f) (numbered-calls old.outbox p.calls r.0.outbox p.runs n) r.2 in ((begins old r.0 s.event s.reaction r.1, rw next rest.0), rw next rest.1)

pub keeps_releases_told : KeepsReleasesTold
keeps_releases_told = λ client steps end r. (begin-run client [] false 0 (new_session client) steps end refl tt refl (λ t. absurd (false≢true t)) tt r).0

-- what is told at the end is what the session holds
pub released-told : (client : List ℕ) (steps : List Step) (end : State) → Run (new_session client) steps end → released_over false [] steps ≡ released_ids end
released-told client steps end r = (begin-run client [] false 0 (new_session client) steps end refl tt refl (λ t. absurd (false≢true t)) tt r).1
