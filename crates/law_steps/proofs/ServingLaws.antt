-- A packet of a client that is served: its session takes it, and then the connection is closed or the client is served on.
use Rattle.std.proofs.Common.{◌≡◌, ◌⊎◌, inl, inr, ℕ, Bool, true, false, is_some, List, [], ◌∷◌, ◌++◌, Option, Some, None, option_and_then, refl, sym, ap, ◌∙◌, subst}
use Rattle.std.specs.FinMap as map
use Rattle.std.specs.Ordering.{eq_by_cmp}
use Rattle.law_maps.proofs.Texts.{same_text, get_inserted, get_apart}
use Rattle.bridge_deltas.specs.declared.offer.Offer.{Offer}
use Rattle.bridge_deltas.specs.declared.offer.Offer.TheVariants.{Queued, Full, AtEnd}
use Rattle.bridge_frames.specs.declared.forward.Forward.{Forward}
use Rattle.mqtt_packets.specs.declared.packet.Packet.{Packet}
use Rattle.mqtt_packets.specs.declared.packet.Packet.TheVariants as packets
use Rattle.mqtt_packets.specs.declared.subscribe.Subscribe.{Subscribe}
use Rattle.mqtt_packets.specs.declared.unsubscribe.Unsubscribe.{Unsubscribe}
use Rattle.mqtt_sessions.specs.declared.reaction.Ask.{Ask}
use Rattle.mqtt_sessions.specs.declared.reaction.Ask.TheVariants as asks
use Rattle.mqtt_sessions.specs.Reaction.{Reaction}
use Rattle.replica_store.specs.Making.{put_of, subscribe_of}
use Rattle.law_sessions.specs.Runs.{Event, connects, queues, rooms, takes, answers, closes, ticks, finishes, loses}
use Rattle.session_table.specs.Calls.{stays}
use Rattle.session_table.specs.Listing.{text_cmp}
use Rattle.session_table.specs.Seats.{Seat, Seats}
use Rattle.node_work.specs.declared.counts.Missed.TheVariants.{LaneFull}
use Rattle.node_work.specs.declared.granted.Granted.{Granted}
use Rattle.node_work.specs.declared.outcome.Output.TheVariants.{Close}
use Rattle.node_work.specs.Acts.{Act, Store, Made, Connection, Session, Bridge, Out, Acknowledged, Passed, Dropped, Allowed, Runs, next}
use Rattle.node_work.specs.Calling.{Calls, CallsAt}
use Rattle.node_work.specs.Doings.{PutsInLaneBy}
use Rattle.node_work.specs.Held.Bridge.{Put, Left_out}
use Rattle.node_work.specs.Held.Connections.{ConnectionTable, Closed as Shut, is_open}
use Rattle.node_work.specs.Held.Making.{number_at_end, put_at_end, removal}
use Rattle.node_work.specs.Held.Sessions.{SessionStep, Called, IsOn, seat_at}
use Rattle.node_work.specs.Passing.{turn_at_end}
use Rattle.node_work.specs.View.{Place, HeldView, ConnectionView}
use Rattle.node_work.specs.Working.{Doing, Returns}
use Rattle.node_clients.specs.Ending as ending
use Rattle.node_clients.specs.Passing as passing
use Rattle.node_clients.specs.Serving as serving
use Rattle.node_clients.specs.Subscribing as subscribing
use Rattle.node_clients.specs.Unsubscribing as unsubscribing
use Rattle.law_runs.proofs.Keeping.{Property, Keeps, none_some}
use Rattle.law_runs.proofs.Splits.{left_by}
use Rattle.law_steps.proofs.ClosingLaws.{second_runs}
use Rattle.law_steps.proofs.Joining.{Closed, j_returns, j_stops, j_acting, j_numbered, j_looks, j_finds, j_if, j_where, j_then, j_calls}
use Rattle.law_steps.proofs.On.{gone_here}
use Rattle.law_steps.specs.Taking.{IsServed, IsTaken}
use Rattle.law_steps.proofs.Leaving.{Leaves, Order, leaves_closed, leaves_one}
use Rattle.law_steps.proofs.Small.{IsStaying, Makes, Small, in_turn, grants, offers, passes, unsubscribed}
use Rattle.law_steps.proofs.Untaken.{parts_same, reaction_untaken}

-- ---- a client that is served is served on
abbrev pub ServedOn : HeldView → HeldView → Type 0
ServedOn h h' = (c : ℕ) (client : List ℕ) → IsServed h c client → IsServed h' c client

pub on_order : Order ServedOn
on_order = record { same = λ h c client s. s; after = λ h mid h' f g c client s. g c client (f c client s) }

abbrev On : Property
On = Leaves ServedOn on_order

abbrev on_closed : Closed On
on_closed = leaves_closed ServedOn on_order

-- a call after which its client is where it was
still_on : (e : Event) (before on : Option ℕ) → IsStaying e → IsOn e before on → on ≡ before
still_on (queues d now) before on staying is = is
still_on (takes k now room) before on staying is = is
still_on (answers id codes) before on staying is = is
still_on (connects q continued room now) before on staying is = absurd staying
still_on (rooms bytes now) before on staying is = absurd staying
still_on (closes now) before on staying is = absurd staying
still_on (ticks now) before on staying is = absurd staying
still_on (finishes now) before on staying is = absurd staying
still_on loses before on staying is = absurd staying

called_on : (p : Place) (h : HeldView) (s : SessionStep) → IsStaying s.event → Allowed p h (Session (Called s)) → ServedOn h (next h (Session (Called s)))
called_on p h s staying allowed c client was = by (eq_by_cmp text_cmp client s.client) refl
  where
    own : Seat
    own = record { session = s.after; connection = s.on }

    by : (b : Bool) → eq_by_cmp text_cmp client s.client ≡ b → IsServed (next h (Session (Called s))) c client
    by true e =
        let same : client ≡ s.client = same_text client s.client e in
        let seat : allowed.seat ≡ was.seat = (let z : Some allowed.seat ≡ Some was.seat = sym allowed.found ∙ ap (map.get h.sessions) (sym same) ∙ was.found in cc) in
        record {
          has = was.has;
          seat = own;
          found = ap (map.get (map.insert h.sessions s.client own)) same ∙ get_inserted h.sessions s.client own;
          on = still_on s.event allowed.seat.connection s.on staying allowed.on ∙ ap (λ (v : Seat). v.connection) seat ∙ was.on;
        }
    by false e = record { has = was.has; seat = was.seat; found = get_apart h.sessions s.client own client e ∙ was.found; on = was.on }

-- an act that changes neither
same_on : (h h' : HeldView) → h'.connections ≡ h.connections → h'.sessions ≡ h.sessions → ServedOn h h'
same_on h h' connections sessions c client s =
    record { has = ap (λ (m : ConnectionTable). option_and_then (λ (v : ConnectionView). v.client) (map.get m c)) connections ∙ s.has; seat = s.seat; found = ap (λ (m : Seats). map.get m client) sessions ∙ s.found; on = s.on }

one_on : (p : Place) (h : HeldView) (a : Act) → (next h a).connections ≡ h.connections → (next h a).sessions ≡ h.sessions → On p h (a ∷ [])
one_on p h a connections sessions = leaves_one ServedOn on_order p h a (λ _. same_on h (next h a) connections sessions)

abbrev K : (A : Type 0) → (Option A → Doing) → Type 0
K A P = Keeps On P

calling : (client : List ℕ) (event : ℕ → Event) → ((at : ℕ) → IsStaying (event at)) → K Reaction (Calls client event stays)
calling client event staying =
    j_calls On on_closed client event stays (λ p h s is. leaves_one ServedOn on_order p h (Session (Called s)) (called_on p h s (subst IsStaying (sym is) (staying h.at))))

puts_by : (peer : ℕ) (m : Forward) (o : Offer) → K (Unit {0}) (PutsInLaneBy peer m o)
puts_by peer m (Queued n) = j_acting On on_closed (λ p h. Bridge (Put peer m)) (λ p h. one_on p h (Bridge (Put peer m)) refl refl)
puts_by peer m Full = j_acting On on_closed (λ p h. Bridge (Left_out LaneFull)) (λ p h. one_on p h (Bridge (Left_out LaneFull)) refl refl)
puts_by peer m AtEnd = j_stops On on_closed

makes : Makes K
makes = record {
  returns = j_returns On on_closed;
  looks = j_looks On on_closed;
  by_test = j_if On on_closed;
  by_whether = j_where On on_closed;
  join = j_then On on_closed;
  subscribe = λ entry. j_numbered On on_closed (λ p h. number_at_end p.id h) (λ p h. Store (Made (subscribe_of p.id entry h.store))) (λ p h. one_on p h (Store (Made (subscribe_of p.id entry h.store))) refl refl);
  remove = λ client to. j_numbered On on_closed (λ p h. number_at_end p.id h) (λ p h. Store (Made (removal p.id client to h.store))) (λ p h. one_on p h (Store (Made (removal p.id client to h.store))) refl refl);
}

small : Small K
small = record {
  makes = makes;
  finds = j_finds On on_closed;
  calls = calling;
  put = λ content. j_numbered On on_closed (λ p h. put_at_end p.id h) (λ p h. Store (Made (put_of p.id content h.store))) (λ p h. one_on p h (Store (Made (put_of p.id content h.store))) refl refl);
  passed = λ m x. j_numbered On on_closed turn_at_end (λ p h. Passed m x.0 x.1.0 x.1.1) (λ p h. one_on p h (Passed m x.0 x.1.0 x.1.1) refl refl);
  puts = puts_by;
  missed = j_acting On on_closed (λ p h. Bridge (Left_out LaneFull)) (λ p h. one_on p h (Bridge (Left_out LaneFull)) refl refl);
  dropped = j_acting On on_closed (λ p h. Dropped) (λ p h. one_on p h Dropped refl refl);
  acknowledged = λ client packet given os. j_acting On on_closed (λ p h. Acknowledged client packet h.at given os) (λ p h. one_on p h (Acknowledged client packet h.at given os) refl refl);
}

-- ---- or its connection is closed
abbrev pub Left : ℕ → List ℕ → HeldView → Type 0
Left c client h = (is_open c h ≡ false) ⊎ IsServed h c client

nothing_left : (c : ℕ) (client : List ℕ) (p : Place) (h h' : HeldView) (acts : List Act) → IsServed h c client → acts ≡ [] → Runs p h acts h' → Left c client h'
nothing_left c client p h h' acts s none runs = inr (subst (λ v. IsServed v c client) (sym (subst (λ xs. Runs p h xs h') none runs)) s)

pub closed_left : (c : ℕ) (client : List ℕ) (x : Unit {0}) (p : Place) (h h' : HeldView) (acts : List Act) → ending.ClosesFor c client (Some x) p h acts → Runs p h acts h' → is_open c h' ≡ false
closed_left c client x p h h' acts (inl d) runs = none_some (sym d.0)
closed_left c client x p h h' acts (inr (y, own, mid, rest, (inl d), ran, more, is)) runs = none_some (sym d.0)
closed_left c client x p h h' acts (inr (y, own, mid, rest, (inr (y2, own2, mid2, rest2, two, ran2, more2, is2)), ran, more, is)) runs =
    let first : mid2 ≡ next h (Connection (Shut c)) = left_by p h mid2 (Connection (Shut c)) own2 two.1 ran2 in
    let second : mid ≡ mid2 = left_by p mid2 mid (Out (Close c)) rest2 more2.1 (second_runs p h mid2 mid own2 rest2 own is2 ran2 ran) in
    let third : h'.connections ≡ mid.connections = parts_same client x p mid h' rest more (second_runs p h mid h' own rest acts is ran runs) in
    ap (λ (m : ConnectionTable). is_some (map.get m c)) (third ∙ ap (λ (v : HeldView). v.connections) (second ∙ first)) ∙ ap is_some (gone_here h.connections c)

pub after_left : (end : Option ℕ) (c : ℕ) (client : List ℕ) (x : Unit {0}) (p : Place) (h h' : HeldView) (acts : List Act) → Left c client h → ending.ClosesAfter end c client (Some x) p h acts → Runs p h acts h' → Left c client h'
after_left None c client x p h h' acts left d runs = subst (Left c client) (sym (subst (λ xs. Runs p h xs h') d.1 runs)) left
after_left (Some code) c client x p h h' acts left d runs = inl (closed_left c client x p h h' acts d runs)

-- ---- SUBSCRIBE and UNSUBSCRIBE
offers_left : (end : Option ℕ) (c : ℕ) (client : List ℕ) (packet : ℕ) (given : List Granted) (x : Unit {0}) (p : Place) (h h' : HeldView) (acts : List Act) → IsServed h c client → subscribing.OffersAfter end c client packet given (Some x) p h acts → Runs p h acts h' → Left c client h'
offers_left None c client packet given x p h h' acts s d runs = inr ((offers K small client packet given).of x p h acts d h' runs c client s)
offers_left (Some code) c client packet given x p h h' acts s d runs = inl (closed_left c client x p h h' acts d runs)

suback_left : (c : ℕ) (client : List ℕ) (packet : ℕ) (given : List Granted) (x : Unit {0}) (p : Place) (h h' : HeldView) (acts : List Act) → IsServed h c client → subscribing.SendsSuback c client packet given (Some x) p h acts → Runs p h acts h' → Left c client h'
suback_left c client packet given x p h h' acts s (inl d) runs = none_some (sym d.0)
suback_left c client packet given x p h h' acts s (inr (r, own, mid, rest, one, ran, more, is)) runs =
    let on = (calling client (λ at. answers packet (subscribing.granted_reasons given)) (λ at. tt)).of r p h own one mid ran c client s in
    offers_left r.end c client packet given x p mid h' rest on more (second_runs p h mid h' own rest acts is ran runs)

subscribe_left : (c : ℕ) (client : List ℕ) (q : Subscribe) (x : Unit {0}) (p : Place) (h h' : HeldView) (acts : List Act) → IsServed h c client → subscribing.ServesSubscribe c client q (Some x) p h acts → Runs p h acts h' → Left c client h'
subscribe_left c client q x p h h' acts s (inl d) runs = none_some (sym d.0)
subscribe_left c client q x p h h' acts s (inr (given, own, mid, rest, one, ran, more, is)) runs =
    let on = (in_turn K makes (subscribing.Grants client (subscribing.identifier_of q)) q.filters [] (grants K makes client (subscribing.identifier_of q))).of given p h own one mid ran c client s in
    suback_left c client q.identifier given x p mid h' rest on more (second_runs p h mid h' own rest acts is ran runs)

unsuback_left : (c : ℕ) (client : List ℕ) (packet : ℕ) (codes : List ℕ) (x : Unit {0}) (p : Place) (h h' : HeldView) (acts : List Act) → IsServed h c client → unsubscribing.SendsUnsuback c client packet codes (Some x) p h acts → Runs p h acts h' → Left c client h'
unsuback_left c client packet codes x p h h' acts s (inl d) runs = none_some (sym d.0)
unsuback_left c client packet codes x p h h' acts s (inr (r, own, mid, rest, one, ran, more, is)) runs =
    let on = (calling client (λ at. answers packet codes) (λ at. tt)).of r p h own one mid ran c client s in
    after_left r.end c client x p mid h' rest (inr on) more (second_runs p h mid h' own rest acts is ran runs)

unsubscribe_left : (c : ℕ) (client : List ℕ) (u : Unsubscribe) (x : Unit {0}) (p : Place) (h h' : HeldView) (acts : List Act) → IsServed h c client → unsubscribing.ServesUnsubscribe c client u (Some x) p h acts → Runs p h acts h' → Left c client h'
unsubscribe_left c client u x p h h' acts s (inl d) runs = none_some (sym d.0)
unsubscribe_left c client u x p h h' acts s (inr (codes, own, mid, rest, one, ran, more, is)) runs =
    let on = (in_turn K makes (unsubscribing.Unsubscribed client) u.filters [] (unsubscribed K makes client)).of codes p h own one mid ran c client s in
    unsuback_left c client u.identifier codes x p mid h' rest on more (second_runs p h mid h' own rest acts is ran runs)

-- ---- what the session asks for
asked_left : (ask : Option Ask) (c : ℕ) (client : List ℕ) (k : Packet) (room : Bool) (end : Option ℕ) (x : Unit {0}) (p : Place) (h h' : HeldView) (acts : List Act) → IsServed h c client → serving.DoesAsked ask c client k room end (Some x) p h acts → Runs p h acts h' → Left c client h'
asked_left None c client k room end x p h h' acts s d runs = inr ((makes.by_test (serving.is_dropped k room end) passing.Drops (Returns tt) small.dropped (makes.returns tt)).of x p h acts d h' runs c client s)
asked_left (Some (asks.Pass m)) c client k room end x p h h' acts s d runs = inr ((passes K small m).of x p h acts d h' runs c client s)
asked_left (Some asks.Subscribe) c client (packets.Subscribe q) room end x p h h' acts s d runs = subscribe_left c client q x p h h' acts s d runs
asked_left (Some asks.Subscribe) c client k room end x p h h' acts s d runs = nothing_left c client p h h' acts s d.1 runs
asked_left (Some asks.Unsubscribe) c client (packets.Unsubscribe u) room end x p h h' acts s d runs = unsubscribe_left c client u x p h h' acts s d runs
asked_left (Some asks.Unsubscribe) c client k room end x p h h' acts s d runs = nothing_left c client p h h' acts s d.1 runs

reaction_left : (c : ℕ) (client : List ℕ) (k : Packet) (room : Bool) (r : Reaction) (x : Unit {0}) (p : Place) (h h' : HeldView) (acts : List Act) → IsServed h c client → serving.DoesReaction c client k room r (Some x) p h acts → Runs p h acts h' → Left c client h'
reaction_left c client k room r x p h h' acts s (inl d) runs = none_some (sym d.0)
reaction_left c client k room r x p h h' acts s (inr (y, own, mid, rest, one, ran, more, is)) runs =
    after_left r.end c client x p mid h' rest (asked_left r.ask c client k room r.end y p h mid own s one ran) more (second_runs p h mid h' own rest acts is ran runs)

-- ---- the packet
record CallTakes (h : HeldView) (c : ℕ) (client : List ℕ) (k : Packet) (room : Bool) (acts : List Act) : Type 0 where
  call : SessionStep
  is : acts ≡ Session (Called call) ∷ []
  of : call.client ≡ client
  on : call.on ≡ Some c
  event : call.event ≡ takes k h.at room

call_takes : (c : ℕ) (client : List ℕ) (k : Packet) (room : Bool) (seat : Seat) (r : Reaction) (p : Place) (h : HeldView) (acts : List Act) → seat.connection ≡ Some c → CallsAt client (λ at. takes k at room) stays (Some seat) (Some r) p h acts → CallTakes h c client k room acts
call_takes c client k room seat r p h acts on (inl d) = none_some (sym d.0)
call_takes c client k room seat r p h acts on (inr d) = record {
  call = record { client = client; on = stays seat.connection; at = h.at; event = takes k h.at room; reaction = d.0; after = d.1 };
  is = d.4;
  of = refl;
  on = on;
  event = refl;
}

pub record Serves (h : HeldView) (c : ℕ) (client : List ℕ) (k : Packet) (acts : List Act) (h' : HeldView) : Type 0 where
  pub taken : IsTaken h c client k acts
  pub left : Left c client h'

pub serves : (c : ℕ) (client : List ℕ) (k : Packet) (x : Unit {0}) (p : Place) (h h' : HeldView) (acts : List Act) → IsServed h c client → serving.ServesPacket c client k (Some x) p h acts → Runs p h acts h' → Serves h c client k acts h'
serves c client k x p h h' acts s (inl d) runs = none_some (sym d.0)
serves c client k x p h h' acts s (inr (r, own, mid, rest, one, ran, more, is)) runs =
    let room = serving.room_for client k h in
    let t = call_takes c client k room s.seat r p h own s.on (subst (λ o. CallsAt client (λ at. takes k at room) stays o (Some r) p h own) s.found one) in
    let on = (calling client (λ at. takes k at room) (λ at. tt)).of r p h own one mid ran c client s in
    record {
      taken = record {
        call = t.call;
        follows = rest;
        is = is ∙ ap (λ zs. zs ++ rest) t.is;
        of = t.of;
        on = t.on;
        room = room;
        event = t.event;
        none = reaction_untaken c client k room r x p mid rest more;
      };
      left = reaction_left c client k room r x p mid h' rest on more (second_runs p h mid h' own rest acts is ran runs);
    }
