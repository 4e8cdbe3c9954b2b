-- What acts of a session's end leave: other sessions, connections and the table as they were.
use Rattle.std.proofs.Common.{◌≡◌, ◌≢◌, inl, inr, ℕ, suc, arith, length, Bool, true, false, List, [], ◌∷◌, Option, Some, None, refl, sym, ap, ◌∙◌, subst}
use Rattle.std.specs.FinMap as map
use Rattle.std.specs.List.{AllByRecursion}
use Rattle.std.specs.Option.{option_map}
use Rattle.std.specs.Ordering.{eq_by_cmp}
use Rattle.law_maps.proofs.Texts.{same_text, get_inserted, get_apart}
use Rattle.mqtt_message.specs.declared.delivery.Delivery.{Delivery}
use Rattle.mqtt_sessions.specs.Reaction.{Reaction}
use Rattle.mqtt_sessions.specs.Sending.{QueueIf, is_once}
use Rattle.mqtt_packets.specs.declared.connect.Will.{Will}
use Rattle.mqtt_sessions.specs.State.{Kept, State}
use Rattle.law_sessions.specs.Runs.{Event, connects, queues, rooms, takes, answers, closes, ticks, finishes, loses, Reacts}
use Rattle.session_table.specs.Listing.{text_cmp}
use Rattle.session_table.specs.Seats.{Seat}
use Rattle.node_work.specs.Acts.{Act, StoreAct, MomentTaken, Began, Moved, Store, Connection, Session, Bridge, Out, Named, Acknowledged, Passed, Dropped, Allowed, Runs, next}
use Rattle.node_work.specs.Held.Bridge.{BridgeAct, Put, Took, Got, Believed, Greeted, Gave, Left_out}
use Rattle.node_work.specs.Held.Sessions.{SessionAct, SessionStep, Begun, Called, Over, IsOn, IsCall, seat_at}
use Rattle.node_work.specs.View.{Place, HeldView}
use Rattle.law_steps.specs.Going.{MayEnd, IsOfEnding, SessionHasWill, seat_seen, seen_in}

-- the client has a session
abbrev pub Has : List ℕ → HeldView → Type 0
Has client h = (seat : Seat) × (seat_at client h ≡ Some seat)

-- ---- what stays
pub record Calm (client : List ℕ) (h h' : HeldView) : Type 0 where
  pub moment : h'.at ≡ h.at
  pub homes : h'.homes ≡ h.homes
  pub connections : h'.connections ≡ h.connections
  pub sessions : (q : List ℕ) → q ≢ client → seat_seen q h' ≡ seat_seen q h
  pub has : Has client h → Has client h'

pub calm_none : (client : List ℕ) (h : HeldView) → Calm client h h
calm_none client h = record { moment = refl; homes = refl; connections = refl; sessions = λ q ne. refl; has = λ x. x }

pub calm_then : (client : List ℕ) (h mid h' : HeldView) → Calm client h mid → Calm client mid h' → Calm client h h'
calm_then client h mid h' a b = record {
  moment = b.moment ∙ a.moment;
  homes = b.homes ∙ a.homes;
  connections = b.connections ∙ a.connections;
  sessions = λ q ne. b.sessions q ne ∙ a.sessions q ne;
  has = λ x. b.has (a.has x);
}

-- ---- a copy that is queued leaves what is seen of its session
queue_kept : (b : Bool) (d : Delivery) (now : ℕ) (old new : State) (r : Reaction) → QueueIf b old d now r new → new.kept ≡ old.kept
queue_kept true d now old new r q = ap (λ (s : State). s.kept) q.1
queue_kept false d now old new r (inl q) = ap (λ (s : State). s.kept) q.left
queue_kept false d now old new r (inr q) = ap (λ (s : State). s.kept) q.left

-- of a call that isn't the client's own
seat_stays : (client own : List ℕ) (e : Event) (r : Reaction) (seat : Seat) (after : State) (on : Option ℕ) → MayEnd client own e → own ≢ client → Reacts seat.session e r after → IsOn e seat.connection on
    → seen_in (record { session = after; connection = on }) ≡ seen_in seat
seat_stays client own (queues d now) r seat after on may ne reacts is = λ i. (is i, queue_kept (is_once d.qos) d now seat.session after r reacts i)
seat_stays client own (closes now) r seat after on may ne reacts is = absurd (ne may)
seat_stays client own (ticks now) r seat after on may ne reacts is = absurd (ne may)
seat_stays client own (finishes now) r seat after on may ne reacts is = absurd (ne may)
seat_stays client own (connects q continued room now) r seat after on may ne reacts is = absurd may
seat_stays client own (takes k now room) r seat after on may ne reacts is = absurd may
seat_stays client own (rooms bytes now) r seat after on may ne reacts is = absurd may
seat_stays client own (answers id codes) r seat after on may ne reacts is = absurd may
seat_stays client own loses r seat after on may ne reacts is = absurd may

-- a call leaves another client's session, and a queued copy what is seen of its own
call_seen : (client : List ℕ) (h : HeldView) (s : SessionStep) → IsCall h s → MayEnd client s.client s.event → (q : List ℕ) → q ≢ client → seat_seen q (next h (Session (Called s))) ≡ seat_seen q h
call_seen client h s c may q ne = by (eq_by_cmp text_cmp q s.client) refl
  where
    after : Seat
    after = record { session = s.after; connection = s.on }

    by : (b : Bool) → eq_by_cmp text_cmp q s.client ≡ b → seat_seen q (next h (Session (Called s))) ≡ seat_seen q h
    by true e =
        let same : q ≡ s.client = same_text q s.client e in
        ap (λ k. option_map seen_in (map.get (map.insert h.sessions s.client after) k)) same ∙ ap (option_map seen_in) (get_inserted h.sessions s.client after)
        ∙ ap Some (seat_stays client s.client s.event s.reaction c.seat s.after s.on may (λ t. ne (same ∙ t)) c.reacts c.on)
        ∙ ap (option_map seen_in) (sym c.found) ∙ ap (λ k. seat_seen k h) (sym same)
    by false e = ap (option_map seen_in) (get_apart h.sessions s.client after q e)

call_has : (client : List ℕ) (h : HeldView) (s : SessionStep) → Has client h → Has client (next h (Session (Called s)))
call_has client h s has = by (eq_by_cmp text_cmp client s.client) refl
  where
    after : Seat
    after = record { session = s.after; connection = s.on }

    by : (b : Bool) → eq_by_cmp text_cmp client s.client ≡ b → Has client (next h (Session (Called s)))
    by true e = (after, ap (map.get (map.insert h.sessions s.client after)) (same_text client s.client e) ∙ get_inserted h.sessions s.client after)
    by false e = (has.0, get_apart h.sessions s.client after client e ∙ has.1)

-- ---- one act
session_calm : (client : List ℕ) (p : Place) (h : HeldView) (a : SessionAct) → Allowed p h (Session a) → IsOfEnding client (Session a) → Calm client h (next h (Session a))
session_calm client p h (Called s) allowed kind = record { moment = refl; homes = refl; connections = refl; sessions = call_seen client h s allowed kind; has = call_has client h s }
session_calm client p h (Begun q) allowed kind = absurd kind
session_calm client p h (Over q) allowed kind = absurd kind

store_calm : (client : List ℕ) (h : HeldView) (a : StoreAct) → Calm client h (next h (Store a))
store_calm client h a = record { moment = refl; homes = refl; connections = refl; sessions = λ q ne. refl; has = λ x. x }

bridge_calm : (client : List ℕ) (h : HeldView) (a : BridgeAct) → IsOfEnding client (Bridge a) → Calm client h (next h (Bridge a))
bridge_calm client h (Put peer m) kind = record { moment = refl; homes = refl; connections = refl; sessions = λ q ne. refl; has = λ x. x }
bridge_calm client h (Left_out what) kind = record { moment = refl; homes = refl; connections = refl; sessions = λ q ne. refl; has = λ x. x }
bridge_calm client h (Took peer number m copies lost) kind = absurd kind
bridge_calm client h (Got peer number) kind = absurd kind
bridge_calm client h (Believed peer dots) kind = absurd kind
bridge_calm client h (Greeted peer g) kind = absurd kind
bridge_calm client h (Gave f) kind = absurd kind

act_calm : (client : List ℕ) (p : Place) (h : HeldView) (a : Act) → Allowed p h a → IsOfEnding client a → Calm client h (next h a)
act_calm client p h (Session a) allowed kind = session_calm client p h a allowed kind
act_calm client p h (Store a) allowed kind = store_calm client h a
act_calm client p h (Bridge a) allowed kind = bridge_calm client h a kind
act_calm client p h (Passed m copies lost routes) allowed kind = record { moment = refl; homes = refl; connections = refl; sessions = λ q ne. refl; has = λ x. x }
act_calm client p h Dropped allowed kind = record { moment = refl; homes = refl; connections = refl; sessions = λ q ne. refl; has = λ x. x }
act_calm client p h (MomentTaken at) allowed kind = absurd kind
act_calm client p h Began allowed kind = absurd kind
act_calm client p h (Moved homes) allowed kind = absurd kind
act_calm client p h (Connection a) allowed kind = absurd kind
act_calm client p h (Out o) allowed kind = absurd kind
act_calm client p h (Named number) allowed kind = absurd kind
act_calm client p h (Acknowledged c packet at grants offers) allowed kind = absurd kind

-- ---- one after the other
pub calmly : (client : List ℕ) (p : Place) (acts : List Act) (h h' : HeldView) → AllByRecursion (IsOfEnding client) acts → Runs p h acts h' → Calm client h h'
calmly client p [] h h' kind ran = subst (Calm client h) (sym ran) (calm_none client h)
calmly client p (a ∷ acts) h h' kind ran =
    calm_then client h ran.0 h' (subst (Calm client h) (sym ran.1.1) (act_calm client p h a ran.1.0 kind.0)) (calmly client p acts ran.0 h' kind.1 ran.2)

-- ---- acts that are no call of a session but what queues a copy
abbrev pub IsPassing : Act → Type 0
IsPassing a = (client : List ℕ) → IsOfEnding client a

pub passing_ends : (client : List ℕ) (acts : List Act) → AllByRecursion IsPassing acts → AllByRecursion (IsOfEnding client) acts
passing_ends client [] kind = tt
passing_ends client (a ∷ acts) kind = (kind.0 client, passing_ends client acts kind.1)

longer : (xs : List ℕ) → xs ≢ 0 ∷ xs
longer xs e = let z : length xs ≡ suc (length xs) = ap length e in omega (arith, z)

-- they leave what is seen of each session
pub passing_seen : (p : Place) (acts : List Act) (h h' : HeldView) (q : List ℕ) → AllByRecursion IsPassing acts → Runs p h acts h' → seat_seen q h' ≡ seat_seen q h
passing_seen p acts h h' q kind ran = (calmly (0 ∷ q) p acts h h' (passing_ends (0 ∷ q) acts kind) ran).sessions q (longer q)

-- a session whose will is seen has it still
will_by : (w : Will) (id : List ℕ) (seat : Seat) (o : Option Seat) (client : List ℕ) (h : HeldView) → seat_at client h ≡ o → seat.session.kept.will ≡ Some w → seat.session.kept.client ≡ id → option_map seen_in o ≡ Some (seen_in seat) → SessionHasWill client w id h
will_by w id seat None client h at will same is = absurd (let z : None ≡ Some (seen_in seat) = is in cc)
will_by w id seat (Some other) client h at will same is =
    let one : seen_in other ≡ seen_in seat = (let z : Some (seen_in other) ≡ Some (seen_in seat) = is in cc) in
    let kept : other.session.kept ≡ seat.session.kept = ap (λ (x : Option ℕ × Kept). x.1) one in
    record { seat = other; at = at; will = ap (λ (k : Kept). k.will) kept ∙ will; id_is = ap (λ (k : Kept). k.client) kept ∙ same }

pub will_stays : (client : List ℕ) (w : Will) (id : List ℕ) (h h' : HeldView) → seat_seen client h' ≡ seat_seen client h → SessionHasWill client w id h → SessionHasWill client w id h'
will_stays client w id h h' is has = will_by w id has.seat (seat_at client h') client h' refl has.will has.id_is (is ∙ ap (option_map seen_in) has.at)
