-- What is noted of a session's rows and copies goes on from what was told last.
use Rattle.std.proofs.Common.{◌≡◌, ◌≢◌, ℕ, ◌<◌, ◌≤◌, ◌^◌, Bool, true, false, List, [], ◌∷◌, Option, Some, None, refl, sym, subst, ap, ◌∙◌, arith, inl, inr}
use Rattle.std.specs.Prelude.{cond, is_some, nat_lt}
use Rattle.std.specs.BTreeMap.{is_at}
use Rattle.std.specs.List.{AllByRecursion}
use Rattle.std.specs.Ordering.{nat_cmp}
use Rattle.std.proofs.lemmas.Bool.{cases_Bool, false≢true}
use Rattle.mqtt_fields.specs.declared.options.Qos.{Qos}
use Rattle.mqtt_fields.specs.declared.options.Qos.TheVariants.{AtMostOnce}
use Rattle.mqtt_packets.specs.declared.packet.Packet.{Packet}
use Rattle.mqtt_packets.specs.declared.packet.Packet.TheVariants as packets
use Rattle.mqtt_message.specs.declared.delivery.Delivery.{Delivery}
use Rattle.qos_handshakes.specs.declared.copies.Entry.{Entry}
use Rattle.qos_handshakes.specs.declared.copies.Stage.{Stage}
use Rattle.qos_handshakes.specs.declared.copies.Stage.TheVariants.{Waiting, Published, Released}
use Rattle.qos_handshakes.specs.Entries.{Entries, AllPlacesBelow, at_place}
use Rattle.qos_handshakes.specs.Incoming.{Received}
use Rattle.qos_handshakes.specs.Outbox.{Outbox, away, stage_id}
use Rattle.qos_handshakes.specs.Touched.{durable, progress_of}
use Rattle.law_handshakes.specs.Kept.{IsAnswered}
use Rattle.law_handshakes.specs.Numbers.{AreNumbered}
use Rattle.law_handshakes.specs.Order.{all_offers}
use Rattle.law_handshakes.specs.Runs.{offered, acknowledged, completed, received, resumed, listed, asked, lost}
use Rattle.row_store.specs.declared.row.Change.{Change}
use Rattle.session_rows.specs.Changes.{Follows}
use Rattle.session_rows.specs.Durable.{Durable, IsDurable}
use Rattle.session_rows.specs.Fields.{copy, copy_of}
use Rattle.law_sessions.specs.Leading.{IsSince, told_box, FollowsOn}
use Rattle.mqtt_sessions.specs.Reaction.{Reaction}
use Rattle.mqtt_sessions.specs.Saved.{Saved, Notes, Tells, durable_of}
use Rattle.mqtt_sessions.specs.Sending.{is_once}
use Rattle.mqtt_sessions.specs.State.{State, Kept, Link, Tracked, watched}
use Rattle.law_sessions.specs.Runs.{Event, connects, queues, rooms, takes, answers, closes, ticks, finishes, loses, Reacts}
use Rattle.law_sessions.specs.Order.{queued_by}
use Rattle.law_sessions.proofs.CallLaws.{Call, numbered-calls}
use Rattle.law_sessions.proofs.ProjectLaws.{project, Projects}
use Rattle.law_sessions.proofs.QuietLaws.{HasLimit}
use Rattle.law_sessions.specs.Histories.{Point, Move, calls, tells, Moves, History, Begins, begun, opened_point}
use Rattle.law_sessions.specs.Told.{StaysSince}
use Rattle.law_handshakes.proofs.AgreeLaws.{Stands, stands-run}
use Rattle.law_sessions.proofs.AgreedLaws.{stands-restored, numbered-agreed, sound-below}
use Rattle.law_sessions.proofs.TurnLaws.{Turns, TurnsPacket, turned}

-- ---- the client stays
module _ (client : List ℕ) where
  abbrev IsOf : Kept → Received → Type 0
  IsOf k i = k.client ≡ client

  packets-stay : (p : Packet) → TurnsPacket IsOf p
  packets-stay (packets.Publish p) = λ k i h twice. h
  packets-stay (packets.Puback a) = tt
  packets-stay (packets.Pubrec a) = tt
  packets-stay (packets.Pubrel a) = λ k i h. h
  packets-stay (packets.Pubcomp a) = tt
  packets-stay (packets.Subscribe p) = tt
  packets-stay (packets.Unsubscribe p) = tt
  packets-stay packets.Pingreq = tt
  packets-stay (packets.Disconnect p) = λ k i h. h
  packets-stay (packets.Connect p) = tt
  packets-stay (packets.Connack p) = tt
  packets-stay (packets.Suback p) = tt
  packets-stay (packets.Unsuback p) = tt
  packets-stay packets.Pingresp = tt
  packets-stay (packets.Auth p) = tt

  events-stay : (e : Event) → Turns IsOf e
  events-stay (connects c continued room now) = λ k i h. h
  events-stay (queues d now) = tt
  events-stay (rooms bytes now) = tt
  events-stay (takes p now room) = packets-stay p
  events-stay (answers id codes) = tt
  events-stay (closes now) = λ k i h. h
  events-stay (ticks now) = λ k i h. h
  events-stay (finishes now) = λ k i h. h
  events-stay loses = λ k i h. h

client-stays : (e : Event) (old : State) (r : Reaction) (new : State) → Reacts old e r new → new.kept.client ≡ old.kept.client
client-stays e old r new h = turned (IsOf old.kept.client) e old r new (events-stay old.kept.client e) h refl

-- ---- the copies stand
pub link-limit : Option Link → ℕ
link-limit None = 0
link-limit (Some l) = l.limit

has-limit : (o : Option Link) → HasLimit (link-limit o) o
unfolding link-limit
has-limit None = tt
has-limit (Some l) = refl

-- the calls of an event
pub calls-of : (e : Event) (old : State) (r : Reaction) (new : State) → AreNumbered old.outbox.copies → Reacts old e r new → Projects (is_some old.link) (link-limit old.link) old.outbox e r new
calls-of e old r new n h = project (is_some old.link) (link-limit old.link) old new e r (has-limit old.link) refl n h

not-once : (q : Qos) → is_once q ≡ false → q ≢ AtMostOnce
not-once q h e = false≢true (sym h ∙ ap is_once e)

-- each offer is of a delivery that is queued
pub answered-all : (ds : List Delivery) (cs : List Call) → AllByRecursion (λ (d : Delivery). d.qos ≢ AtMostOnce) ds → all_offers cs ≡ ds → AllByRecursion IsAnswered cs
answered-all ds [] h e = tt
answered-all [] (offered c a ∷ cs) h e = absurd (cc e)
answered-all (d ∷ ds) (offered c a ∷ cs) h e = (let same : c ≡ d = cc in rw same h.0, answered-all ds cs h.1 (let rest : all_offers cs ≡ ds = cc in rest))
answered-all ds (acknowledged id a ∷ cs) h e = (tt, answered-all ds cs h e)
answered-all ds (completed id a ∷ cs) h e = (tt, answered-all ds cs h e)
answered-all ds (received id reason a ∷ cs) h e = (tt, answered-all ds cs h e)
answered-all ds (resumed maximum ∷ cs) h e = (tt, answered-all ds cs h e)
answered-all ds (listed ids ∷ cs) h e = (tt, answered-all ds cs h e)
answered-all ds (asked now limit a ∷ cs) h e = (tt, answered-all ds cs h e)
answered-all ds (lost ∷ cs) h e = (tt, answered-all ds cs h e)

queued-asked : (d : Delivery) (b : Bool) → is_once d.qos ≡ b → AllByRecursion (λ (x : Delivery). x.qos ≢ AtMostOnce) (cond b [] (d ∷ []))
queued-asked d true h = tt
queued-asked d false h = (not-once d.qos h, tt)

queued-answered : (e : Event) → AllByRecursion (λ (d : Delivery). d.qos ≢ AtMostOnce) (queued_by e)
queued-answered (connects c continued room now) = tt
queued-answered (queues d now) = queued-asked d (is_once d.qos) refl
queued-answered (rooms bytes now) = tt
queued-answered (takes p now room) = tt
queued-answered (answers id codes) = tt
queued-answered (closes now) = tt
queued-answered (ticks now) = tt
queued-answered (finishes now) = tt
queued-answered loses = tt

-- copies that calls have led to
pub record AreSound (o : Outbox) : Type 0 where
  pub stands : Stands o
  pub numbered : AreNumbered o.copies

pub sound-after : (e : Event) (old : State) (r : Reaction) (new : State) → Reacts old e r new → AreSound old.outbox → AreSound new.outbox
sound-after e old r new h s =
    let p = calls-of e old r new s.numbered h in
    record {
      stands = stands-run old.outbox p.calls new.outbox (answered-all (queued_by e) p.calls (queued-answered e) p.shows.offers) p.runs s.stands;
      numbered = numbered-calls old.outbox p.calls new.outbox p.runs s.numbered;
    }

stage-small : (s : Stage) (d : Delivery) → copy.Fits (s, d) → stage_id s < 2 ^ 16
unfolding copy
stage-small Waiting d f = omega arith
stage-small (Published id) d f = f.0.0
stage-small (Released id order) d f = f.0.0

ids-small : (es : Entries) → AllByRecursion (λ e. (e.0 < 2 ^ 64) × (e.1.here ≡ false) × copy.Fits (copy_of e.1)) es → AllByRecursion (λ e. stage_id e.1.stage < 2 ^ 16) es
ids-small [] h = tt
ids-small (e ∷ es) h = (stage-small e.1.stage e.1.delivery h.0.2, ids-small es h.1)

-- ---- at a telling what is durable is the same
at-away : (p : ℕ) (es : Entries) → at_place p (away es) ≡ durable (at_place p es)
at-away p [] = refl
at-away p (e ∷ es) = elim (cases_Bool (is_at (nat_cmp p) e.0)) [ inl t ↦ rw t refl | inr f ↦ rw f (at-away p es) ]

durable-twice : (o : Option Entry) → durable (durable o) ≡ durable o
durable-twice None = refl
durable-twice (Some x) = refl

as-far : (b : Bool) (o : Option Entry) → progress_of b (durable o) ≤ progress_of b o
as-far b None = omega arith
as-far b (Some x) = omega arith

below-away : (next : ℕ) (es : Entries) → AllPlacesBelow es next → AllPlacesBelow (away es) next
below-away next [] h = tt
below-away next (e ∷ es) h = (h.0, below-away next es h.1)

told-follows : (s : State) → Follows (told_box (Some (durable_of s))) (watched (record { state = s; touched = [] }))
told-follows s = record {
  each = λ p. inl (
    refl,
    ap durable (at-away p s.outbox.copies) ∙ durable-twice (at_place p s.outbox.copies),
    rw (at-away p s.outbox.copies) (as-far (nat_lt p s.outbox.next_place) (at_place p s.outbox.copies)),
  );
}

-- ---- over a history
pub record GoesOn (p : Point) : Type 0 where
  pub since : IsSince p.last p.session.told p.session.tracked.state.kept.client (watched p.session.tracked)
  pub sound : AreSound p.session.tracked.state.outbox

sound-small : (o : Outbox) → AreSound o → o.next_place ≤ 2 ^ 64
sound-small o s = let end = s.stands.end in omega (arith, end)

placed : (o : Outbox) → AreSound o → AllPlacesBelow o.copies o.next_place
placed o s = sound-below 0 s.stands.first o.next_place o.next_order o.copies s.stands.sound

module _ (then : FollowsOn) where
  on-call : (e : Event) (r : Reaction) (last : Option Durable) (old new : Saved) → Reacts old.tracked.state e r new.tracked.state → Notes old new → GoesOn (record { session = old; last = last }) → GoesOn (record { session = new; last = last })
  on-call e r last old new h n g =
      let s = sound-after e old.tracked.state r new.tracked.state h g.sound in
      record {
        since = record {
          value = ap (λ t. t.value) n.told ∙ g.since.value;
          next = ap (λ t. t.next_place) n.told ∙ g.since.next;
          owner = rw (client-stays e old.tracked.state r new.tracked.state h) g.since.owner;
          then_below = g.since.then_below;
          then_small = g.since.then_small;
          now_below = placed new.tracked.state.outbox s;
          now_small = sound-small new.tracked.state.outbox s;
          follows = then (told_box last) (watched old.tracked) (watched new.tracked) g.since.follows n.follows;
        };
        sound = s;
      }

  on-telling : (changes : List Change) (last : Option Durable) (old new : Saved) → Tells old changes new → GoesOn (record { session = old; last = last }) → GoesOn (record { session = new; last = Some (durable_of old.tracked.state) })
  on-telling changes last old new t g =
      let s = old.tracked.state in
      let told : GoesOn (record { session = record { tracked = record { state = s; touched = [] }; told = new.told }; last = Some (durable_of s) }) = record {
        since = record {
          value = ap (λ x. x.value) t.told;
          next = ap (λ x. x.next_place) t.told;
          owner = refl;
          then_below = below-away s.outbox.next_place s.outbox.copies (placed s.outbox g.sound);
          then_small = sound-small s.outbox g.sound;
          now_below = placed s.outbox g.sound;
          now_small = sound-small s.outbox g.sound;
          follows = told-follows s;
        };
        sound = g.sound;
      } in
      subst (λ (x : Tracked). GoesOn (record { session = record { tracked = x; told = new.told }; last = Some (durable_of s) })) (sym t.state) told

  on-move : (old : Point) (m : Move) (new : Point) → Moves old m new → GoesOn old → GoesOn new
  on-move old (calls e r) new c g =
      subst (λ (l : Option Durable). GoesOn (record { session = new.session; last = l })) (sym c.last) (on-call e r old.last old.session new.session c.reacts c.notes g)
  on-move old (tells changes) new t g =
      subst (λ (l : Option Durable). GoesOn (record { session = new.session; last = l })) (sym t.last) (on-telling changes old.last old.session new.session t.tells g)

  on-history : (old : Point) (ms : List Move) (new : Point) → History old ms new → GoesOn old → GoesOn new
  on-history old [] new h g = subst GoesOn (sym h) g
  on-history old (m ∷ ms) new h g = on-history h.0 ms new h.2 (on-move old m h.0 h.1 g)

-- ---- where it begins
pub sound-begun : (client : List ℕ) → AreSound (begun client).session.tracked.state.outbox
sound-begun client = record { stands = record { first = 1; sound = (omega arith, refl); end = omega arith; least = omega arith; most = omega arith }; numbered = tt }

pub sound-opened : (d : Durable) → IsDurable d → AreSound (opened_point d).session.tracked.state.outbox
sound-opened d i = record { stands = stands-restored d.main.next_place d.copies i.agree; numbered = numbered-agreed d.main.next_place d.copies (ids-small d.copies i.form.copies) i.agree }

on-begun : (client : List ℕ) → GoesOn (begun client)
on-begun client = record {
  since = record { value = refl; next = refl; owner = tt; then_below = tt; then_small = omega arith; now_below = tt; now_small = omega arith; follows = record { each = λ p. inl (refl, refl, omega arith) } };
  sound = sound-begun client;
}

on-opened : (d : Durable) → IsDurable d → GoesOn (opened_point d)
on-opened d i =
    let s : AreSound (opened_point d).session.tracked.state.outbox = sound-opened d i in
    let below : AllPlacesBelow d.copies d.main.next_place = placed _ s in
    let small : d.main.next_place ≤ 2 ^ 64 = sound-small _ s in
    record {
      since = record { value = refl; next = refl; owner = refl; then_below = below; then_small = small; now_below = below; now_small = small; follows = record { each = λ p. inl (refl, refl, omega arith) } };
      sound = s;
    }

on-start : (p : Point) → Begins p → GoesOn p
on-start p (inl b) = subst GoesOn (sym b.1) (on-begun b.0)
on-start p (inr b) = subst GoesOn (sym b.2) (on-opened b.0 b.1)

pub goes-on : FollowsOn → (start : Point) (moves : List Move) (end : Point) → Begins start → History start moves end → GoesOn end
goes-on then start moves end b h = on-history then start moves end h (on-start start b)

pub stays : FollowsOn → StaysSince
stays then start moves end b h = (goes-on then start moves end b h).since
