-- Packets, and whatever else comes on a connection, leave each connected client served.
use Rattle.std.proofs.Common.{◌≡◌, ◌≢◌, ◌⊎◌, inl, inr, ℕ, ◌==◌, Bool, true, false, cond, is_some, length, List, [], ◌∷◌, ◌++◌, Option, Some, None, option_and_then, refl, sym, ap, ◌∙◌, subst}
use Rattle.std.specs.FinMap as map
use Rattle.std.specs.List.{AllByRecursion}
use Rattle.law_maps.proofs.Texts.{get_inserted, get_apart}
use Rattle.mqtt_packets.specs.declared.connect.Connect.{Connect}
use Rattle.mqtt_packets.specs.declared.fault.PacketFault.{PacketFault}
use Rattle.mqtt_packets.specs.declared.packet.Packet.{Packet}
use Rattle.mqtt_packets.specs.declared.packet.Packet.TheVariants as packets
use Rattle.mqtt_packets.specs.declared.subscribe.Subscribe.{Subscribe}
use Rattle.mqtt_packets.specs.declared.unsubscribe.Unsubscribe.{Unsubscribe}
use Rattle.mqtt_sessions.specs.declared.reaction.Ask.{Ask}
use Rattle.mqtt_sessions.specs.declared.reaction.Ask.TheVariants as asks
use Rattle.mqtt_sessions.specs.Answers.{fits}
use Rattle.mqtt_sessions.specs.Reaction.{Reaction}
use Rattle.mqtt_sessions.specs.State.{limit_in}
use Rattle.law_sessions.specs.Runs.{answers, connects, rooms, takes}
use Rattle.session_table.specs.Calls.{moves, stays}
use Rattle.session_table.specs.Seats.{Seat, begun}
use Rattle.node_work.specs.declared.granted.Granted.{Granted}
use Rattle.node_work.specs.Acts.{Act, Connection, Named, Session, Runs, next}
use Rattle.node_work.specs.Calling.{CallsAt}
use Rattle.node_work.specs.Held.Connections.{ConnectionTable, Accepted, Closed, Fed, Opened, Roomed, changed_at, client_at, first_at, is_open, new_connection, room_at, with_client, with_piece, with_room}
use Rattle.node_work.specs.Held.Feeding.{cut_of}
use Rattle.node_work.specs.Held.Sessions.{SessionStep, Begun, Called, connection_at, has_session, seat_at}
use Rattle.node_work.specs.Packets.{refused_packet}
use Rattle.node_work.specs.View.{Place, HeldView, ConnectionView}
use Rattle.node_work.specs.Working.{Returns, Acting, If, Looks, Each}
use Rattle.node_clients.specs.Connecting as connecting
use Rattle.node_clients.specs.Ending as ending
use Rattle.node_clients.specs.Pieces as pieces
use Rattle.node_clients.specs.Rooms as giving
use Rattle.node_clients.specs.Serving as serving
use Rattle.node_clients.specs.Subscribing as subscribing
use Rattle.node_clients.specs.Unsubscribing as unsubscribing
use Rattle.cluster_play.proofs.Bools.{nat_cases}
use Rattle.law_runs.proofs.Keeping.{none_some}
use Rattle.law_runs.proofs.Passing.{has_of}
use Rattle.law_runs.proofs.Splits.{left_by}
use Rattle.law_steps.proofs.ClosingLaws.{second_runs}
use Rattle.law_steps.proofs.On.{apart_text, put_apart, put_here}
use Rattle.law_steps.proofs.Gentle.{IsGentle, calling, disconnects, drops_if, grants_all, offers, passes, sends_if, sends, unsubscribes_all}
use Rattle.law_steps.proofs.WholeLeaving.{away_by, closes_served, finishes_served, only_by, parts_served, shuts}
use Rattle.law_steps.proofs.Phases.{connected}
use Rattle.law_steps.proofs.Live.{AllServed, IsAway, IsLive, IsOnlyAt, LeavesServed, gently, leaves_same, live_in, served_gently, shut_away, shut_served, still_away, still_only}

-- the client of a connection is on no other
pub only_at : (c : ℕ) (client : List ℕ) (h : HeldView) → client_at c h ≡ Some client → AllServed h → IsOnlyAt c client h
only_at c client h has s q at =
    let a = s.live c client has in
    let b = s.live q client at in
    let one : a.seat ≡ b.seat = (let z : Some a.seat ≡ Some b.seat = sym a.found ∙ b.found in cc) in
    (let z : Some q ≡ Some c = sym b.on ∙ ap (λ (v : Seat). v.connection) (sym one) ∙ a.on in cc)

-- ---- a client that is served on, or gone
record Goes (c : ℕ) (client : List ℕ) (h : HeldView) : Type 0 where
  served : AllServed h
  only : IsOnlyAt c client h

module _ (c : ℕ) (client : List ℕ) where
  kept : (h h' : HeldView) → LeavesServed h h' → Goes c client h → Goes c client h'
  kept h h' l g = record { served = l.served; only = still_only c client h h' l.same g.only }

  nothing : (p : Place) (h h' : HeldView) (acts : List Act) → acts ≡ [] → Runs p h acts h' → Goes c client h → Goes c client h'
  nothing p h h' acts none runs g = subst (Goes c client) (sym (subst (λ zs. Runs p h zs h') none runs)) g

  gone : (x : Unit {0}) (p : Place) (h h' : HeldView) (acts : List Act) → ending.ClosesFor c client (Some x) p h acts → Runs p h acts h' → Goes c client h → Goes c client h'
  gone x p h h' acts d runs g = let s = closes_served c client x p h h' acts g.only d runs g.served in record { served = s.served; only = λ q at. absurd (s.away q at) }

  after : (end : Option ℕ) (x : Unit {0}) (p : Place) (h h' : HeldView) (acts : List Act) → ending.ClosesAfter end c client (Some x) p h acts → Runs p h acts h' → Goes c client h → Goes c client h'
  after None x p h h' acts d runs g = nothing p h h' acts d.1 runs g
  after (Some code) x p h h' acts d runs g = gone x p h h' acts d runs g

  -- ---- SUBSCRIBE and UNSUBSCRIBE
  offered : (end : Option ℕ) (packet : ℕ) (given : List Granted) (x : Unit {0}) (p : Place) (h h' : HeldView) (acts : List Act) → subscribing.OffersAfter end c client packet given (Some x) p h acts → Runs p h acts h' → Goes c client h → Goes c client h'
  offered None packet given x p h h' acts d runs g = kept h h' (served_gently h h' (gently p acts h h' (offers client packet given x p h acts d) runs) g.served) g
  offered (Some code) packet given x p h h' acts d runs g = gone x p h h' acts d runs g

  suback : (packet : ℕ) (given : List Granted) (x : Unit {0}) (p : Place) (h h' : HeldView) (acts : List Act) → subscribing.SendsSuback c client packet given (Some x) p h acts → Runs p h acts h' → Goes c client h → Goes c client h'
  suback packet given x p h h' acts (inl d) runs g = none_some (sym d.0)
  suback packet given x p h h' acts (inr (r, own, mid, rest, one, ran, more, is)) runs g =
      let first = served_gently h mid (gently p own h mid (calling client (λ at. answers packet (subscribing.granted_reasons given)) (λ at. tt) r p h own one) ran) g.served in
      offered r.end packet given x p mid h' rest more (second_runs p h mid h' own rest acts is ran runs) (kept h mid first g)

  subscribe : (q : Subscribe) (x : Unit {0}) (p : Place) (h h' : HeldView) (acts : List Act) → subscribing.ServesSubscribe c client q (Some x) p h acts → Runs p h acts h' → Goes c client h → Goes c client h'
  subscribe q x p h h' acts (inl d) runs g = none_some (sym d.0)
  subscribe q x p h h' acts (inr (given, own, mid, rest, one, ran, more, is)) runs g =
      let first = served_gently h mid (gently p own h mid (grants_all client (subscribing.identifier_of q) q.filters given p h own one) ran) g.served in
      suback q.identifier given x p mid h' rest more (second_runs p h mid h' own rest acts is ran runs) (kept h mid first g)

  unsuback : (packet : ℕ) (codes : List ℕ) (x : Unit {0}) (p : Place) (h h' : HeldView) (acts : List Act) → unsubscribing.SendsUnsuback c client packet codes (Some x) p h acts → Runs p h acts h' → Goes c client h → Goes c client h'
  unsuback packet codes x p h h' acts (inl d) runs g = none_some (sym d.0)
  unsuback packet codes x p h h' acts (inr (r, own, mid, rest, one, ran, more, is)) runs g =
      let first = served_gently h mid (gently p own h mid (calling client (λ at. answers packet codes) (λ at. tt) r p h own one) ran) g.served in
      after r.end x p mid h' rest more (second_runs p h mid h' own rest acts is ran runs) (kept h mid first g)

  unsubscribe : (u : Unsubscribe) (x : Unit {0}) (p : Place) (h h' : HeldView) (acts : List Act) → unsubscribing.ServesUnsubscribe c client u (Some x) p h acts → Runs p h acts h' → Goes c client h → Goes c client h'
  unsubscribe u x p h h' acts (inl d) runs g = none_some (sym d.0)
  unsubscribe u x p h h' acts (inr (codes, own, mid, rest, one, ran, more, is)) runs g =
      let first = served_gently h mid (gently p own h mid (unsubscribes_all client u.filters codes p h own one) ran) g.served in
      unsuback u.identifier codes x p mid h' rest more (second_runs p h mid h' own rest acts is ran runs) (kept h mid first g)

  subscribe_by : (k : Packet) (x : Unit {0}) (p : Place) (h h' : HeldView) (acts : List Act) → serving.SubscribesBy c client k (Some x) p h acts → Runs p h acts h' → Goes c client h → Goes c client h'
  subscribe_by (packets.Subscribe q) x p h h' acts d runs g = subscribe q x p h h' acts d runs g
  subscribe_by k x p h h' acts d runs g = nothing p h h' acts d.1 runs g

  unsubscribe_by : (k : Packet) (x : Unit {0}) (p : Place) (h h' : HeldView) (acts : List Act) → serving.UnsubscribesBy c client k (Some x) p h acts → Runs p h acts h' → Goes c client h → Goes c client h'
  unsubscribe_by (packets.Unsubscribe u) x p h h' acts d runs g = unsubscribe u x p h h' acts d runs g
  unsubscribe_by k x p h h' acts d runs g = nothing p h h' acts d.1 runs g

  -- ---- a packet
  asked : (ask : Option Ask) (k : Packet) (room : Bool) (end : Option ℕ) (x : Unit {0}) (p : Place) (h h' : HeldView) (acts : List Act) → serving.DoesAsked ask c client k room end (Some x) p h acts → Runs p h acts h' → Goes c client h → Goes c client h'
  asked None k room end x p h h' acts d runs g = kept h h' (served_gently h h' (gently p acts h h' (drops_if (serving.is_dropped k room end) x p h acts d) runs) g.served) g
  asked (Some (asks.Pass m)) k room end x p h h' acts d runs g = kept h h' (served_gently h h' (gently p acts h h' (passes m x p h acts d) runs) g.served) g
  asked (Some asks.Subscribe) k room end x p h h' acts d runs g = subscribe_by k x p h h' acts d runs g
  asked (Some asks.Unsubscribe) k room end x p h h' acts d runs g = unsubscribe_by k x p h h' acts d runs g

  reacts : (k : Packet) (room : Bool) (r : Reaction) (x : Unit {0}) (p : Place) (h h' : HeldView) (acts : List Act) → serving.DoesReaction c client k room r (Some x) p h acts → Runs p h acts h' → Goes c client h → Goes c client h'
  reacts k room r x p h h' acts (inl d) runs g = none_some (sym d.0)
  reacts k room r x p h h' acts (inr (y, own, mid, rest, one, ran, more, is)) runs g =
      after r.end x p mid h' rest more (second_runs p h mid h' own rest acts is ran runs) (asked r.ask k room r.end y p h mid own one ran g)

  packet_served : (k : Packet) (x : Unit {0}) (p : Place) (h h' : HeldView) (acts : List Act) → serving.ServesPacket c client k (Some x) p h acts → Runs p h acts h' → Goes c client h → Goes c client h'
  packet_served k x p h h' acts (inl d) runs g = none_some (sym d.0)
  packet_served k x p h h' acts (inr (r, own, mid, rest, one, ran, more, is)) runs g =
      let room = serving.room_for client k h in
      let first = served_gently h mid (gently p own h mid (calling client (λ at. takes k at room) (λ at. tt) r p h own one) ran) g.served in
      reacts k room r x p mid h' rest more (second_runs p h mid h' own rest acts is ran runs) (kept h mid first g)

-- ---- a connection is closed
closed_served : (c : ℕ) (x : Unit {0}) (p : Place) (h h' : HeldView) (acts : List Act) → ending.ClosesConnection c (Some x) p h acts → Runs p h acts h' → AllServed h → AllServed h'
closed_served c x p h h' acts d runs s = subst AllServed (sym (shuts c x p h h' acts d runs)) (shut_served h c s)

closed_by : (client : Option (List ℕ)) (c : ℕ) (x : Unit {0}) (p : Place) (h h' : HeldView) (acts : List Act) → client_at c h ≡ client → ending.ClosesBy c client (Some x) p h acts → Runs p h acts h' → AllServed h → AllServed h'
closed_by None c x p h h' acts has d runs s = closed_served c x p h h' acts d runs s
closed_by (Some client) c x p h h' acts has d runs s = (closes_served c client x p h h' acts (only_at c client h has s) d runs s).served

-- ---- CONNECT
refused : (c : ℕ) (q : Connect) (code : ℕ) (reference : Option (List ℕ)) (x : Unit {0}) (p : Place) (h h' : HeldView) (acts : List Act) → connecting.RefusesConnect c q code reference (Some x) p h acts → Runs p h acts h' → AllServed h → AllServed h'
refused c q code reference x p h h' acts (inl d) runs s = none_some (sym d.0)
refused c q code reference x p h h' acts (inr (y, own, mid, rest, one, ran, more, is)) runs s =
    let packet = refused_packet code reference in
    let first = served_gently h mid (gently p own h mid (sends_if (fits (limit_in q.properties) packet) c packet y p h own one) ran) s in
    closed_served c x p mid h' rest more (second_runs p h mid h' own rest acts is ran runs) first.served

-- an older connection of the client ends
taken_over : (client : List ℕ) (older : Option ℕ) (x : Unit {0}) (p : Place) (h h' : HeldView) (acts : List Act) → connection_at client h ≡ older → connecting.TakesOverFrom client older (Some x) p h acts → Runs p h acts h' → AllServed h → AllServed h' × IsAway client h'
taken_over client None x p h h' acts on d runs s =
    let same : h' ≡ h = subst (λ zs. Runs p h zs h') d.1 runs in
    (subst AllServed (sym same) s, subst (IsAway client) (sym same) (away_by client h on s))
taken_over client (Some older) x p h h' acts on (inl d) runs s = none_some (sym d.0)
taken_over client (Some older) x p h h' acts on (inr (y, own, mid, rest, one, ran, more, is)) runs s =
    let first = served_gently h mid (gently p own h mid (disconnects older client 142 y p h own one) ran) s in
    let second = closes_served older client x p mid h' rest (still_only older client h mid first.same (only_by older client h on s)) more (second_runs p h mid h' own rest acts is ran runs) first.served in
    (second.served, second.away)

finished : (b : Bool) (client : List ℕ) (x : Unit {0}) (p : Place) (h h' : HeldView) (acts : List Act) → IsAway client h → If b (ending.Finishes client) (Returns tt) (Some x) p h acts → Runs p h acts h' → AllServed h → LeavesServed h h'
finished true client x p h h' acts away d runs s = finishes_served client x p h h' acts away d runs s
finished false client x p h h' acts away d runs s = leaves_same h h' (subst (λ zs. Runs p h zs h') d.1 runs) s

cleaned : (clean : Bool) (client : List ℕ) (x : Unit {0}) (p : Place) (h h' : HeldView) (acts : List Act) → IsAway client h → connecting.Cleans clean client (Some x) p h acts → Runs p h acts h' → AllServed h → LeavesServed h h'
cleaned false client x p h h' acts away d runs s = leaves_same h h' (subst (λ zs. Runs p h zs h') d.1 runs) s
cleaned true client x p h h' acts away d runs s = finished (has_session client h) client x p h h' acts away d runs s

-- its session's call on this connection; the sessions of others stay
record Joined (c : ℕ) (client : List ℕ) (h h' : HeldView) : Type 0 where
  same : h'.connections ≡ h.connections
  live : IsLive h' client c
  others : (other : List ℕ) (q : ℕ) → other ≢ client → IsLive h other q → IsLive h' other q

called : (continued : Bool) (room : Option ℕ) (c : ℕ) (client : List ℕ) (q : Connect) (seat : Seat) (r : Reaction) (p : Place) (h h' : HeldView) (acts : List Act) → CallsAt client (connects q continued room) (moves c) (Some seat) (Some r) p h acts → Runs p h acts h' → Joined c client h h'
called continued room c client q seat r p h h' acts (inl d) runs = none_some (sym d.0)
called continued room c client q seat r p h h' acts (inr d) runs =
    let t : SessionStep = record { client = client; on = Some c; at = h.at; event = connects q continued room h.at; reaction = d.0; after = d.1 } in
    let own : Seat = record { session = d.1; connection = Some c } in
    let left : h' ≡ next h (Session (Called t)) = left_by p h h' (Session (Called t)) acts d.4 runs in
    let there : map.get h'.sessions client ≡ Some own = ap (λ (v : HeldView). map.get v.sessions client) left ∙ get_inserted h.sessions client own in
    record {
      same = ap (λ (v : HeldView). v.connections) left;
      live = record { seat = own; found = there; on = refl; phase = connected seat.session d.1 q continued room h.at d.0 d.3 };
      others = λ other n ne was. record { seat = was.seat; found = ap (λ (v : HeldView). map.get v.sessions other) left ∙ get_apart h.sessions client own other (apart_text other client ne) ∙ was.found; on = was.on; phase = was.phase };
    }

joined : (continued : Bool) (room : Option ℕ) (c : ℕ) (client : List ℕ) (q : Connect) (r : Reaction) (p : Place) (h h' : HeldView) (acts : List Act) → has_session client h ≡ continued → connecting.JoinsBy continued c client q room (Some r) p h acts → Runs p h acts h' → Joined c client h h'
joined true room c client q r p h h' acts has d runs =
    let found = has_of client h has in
    called true room c client q found.0 r p h h' acts (subst (λ f. CallsAt client (connects q true room) (moves c) f (Some r) p h acts) found.1 d) runs
joined false room c client q r p h h' acts has (inl d) runs = none_some (sym d.0)
joined false room c client q r p h h' acts has (inr (y, own, mid, rest, one, ran, more, is)) runs =
    let left : mid ≡ next h (Session (Begun client)) = left_by p h mid (Session (Begun client)) own one.1 ran in
    let found : seat_at client mid ≡ Some (begun client) = ap (λ (v : HeldView). seat_at client v) left ∙ get_inserted h.sessions client (begun client) in
    let j = called false room c client q (begun client) r p mid h' rest (subst (λ f. CallsAt client (connects q false room) (moves c) f (Some r) p mid rest) found more) (second_runs p h mid h' own rest acts is ran runs) in
    record {
      same = j.same ∙ ap (λ (v : HeldView). v.connections) left;
      live = j.live;
      others = λ other n ne was.
          j.others other n ne (record { seat = was.seat; found = ap (λ (v : HeldView). map.get v.sessions other) left ∙ get_apart h.sessions client (begun client) other (apart_text other client ne) ∙ was.found; on = was.on; phase = was.phase });
    }

-- the connection has its client; the others have theirs
accepted_at : (o : Option ConnectionView) (h : HeldView) (c : ℕ) (client : List ℕ) (q : ℕ) (other : List ℕ) → map.get h.connections c ≡ o → option_and_then (λ (v : ConnectionView). v.client) (map.get (changed_at (with_client client) c h.connections o) q) ≡ Some other
    → ((q ≡ c) × (other ≡ client)) ⊎ (client_at q h ≡ Some other)
accepted_at None h c client q other is at = inr at
accepted_at (Some found) h c client q other is at = elim (nat_cases q c) [
  | inl e ↦ (
      let z : Some client ≡ Some other = sym (ap (option_and_then (λ (v : ConnectionView). v.client)) (ap (λ n. map.get (map.insert h.connections c (with_client client found)) n) e ∙ put_here h.connections c (with_client client found))) ∙ at in
      inl (e, cc))
  | inr ne ↦ inr (sym (ap (option_and_then (λ (v : ConnectionView). v.client)) (put_apart h.connections c (with_client client found) q ne)) ∙ at)
]

begins : (c : ℕ) (client : List ℕ) (q : Connect) (x : Unit {0}) (p : Place) (h h' : HeldView) (acts : List Act) → IsAway client h → connecting.BeginsSession c client q (Some x) p h acts → Runs p h acts h' → AllServed h → AllServed h'
begins c client q x p h h' acts away (inl d) runs s = none_some (sym d.0)
begins c client q x p h h' acts away (inr (y, own, mid, rest, one, ran, (inl d), is)) runs s = none_some (sym d.0)
begins c client q x p h h' acts away (inr (y, own, mid, rest, one, ran, (inr (r, own2, mid2, rest2, two, ran2, more, is2)), is)) runs s = (after c client r.end x p mid2 h' rest2 more later (record { served = served; only = only })).served
  where
    accepted : HeldView
    accepted = next h (Connection (Accepted c client))

    left : mid ≡ accepted
    left = left_by p h mid (Connection (Accepted c client)) own one.1 ran

    later : Runs p mid2 rest2 h'
    later = second_runs p mid mid2 h' own2 rest2 rest is2 ran2 (second_runs p h mid h' own rest acts is ran runs)

    j : Joined c client mid mid2
    j = joined (has_session client mid) (room_at c mid) c client q r p mid mid2 own2 refl two ran2

    whose : (n : ℕ) (other : List ℕ) → client_at n mid2 ≡ Some other → ((n ≡ c) × (other ≡ client)) ⊎ (client_at n h ≡ Some other)
    whose n other at =
        accepted_at (map.get h.connections c) h c client n other refl
        (sym (ap (λ (m : ConnectionTable). option_and_then (λ (v : ConnectionView). v.client) (map.get m n)) (j.same ∙ ap (λ (v : HeldView). v.connections) left)) ∙ at)

    live : (n : ℕ) (other : List ℕ) → ((n ≡ c) × (other ≡ client)) ⊎ (client_at n h ≡ Some other) → IsLive mid2 other n
    live n other (inl e) = subst (λ k. IsLive mid2 other k) (sym e.0) (subst (λ k. IsLive mid2 k c) (sym e.1) j.live)
    live n other (inr was) = j.others other n (λ e. away n (was ∙ ap Some e)) (live_in h mid (ap (λ (v : HeldView). v.sessions) left) other n (s.live n other was))

    served : AllServed mid2
    served = record { live = λ n other at. live n other (whose n other at) }

    only_by_whose : (n : ℕ) → ((n ≡ c) × (client ≡ client)) ⊎ (client_at n h ≡ Some client) → n ≡ c
    only_by_whose n (inl e) = e.0
    only_by_whose n (inr was) = absurd (away n was)

    only : IsOnlyAt c client mid2
    only n at = only_by_whose n (whose n client at)

accepts : (c : ℕ) (q : Connect) (client : List ℕ) (x : Unit {0}) (p : Place) (h h' : HeldView) (acts : List Act) → connecting.Accepts c q client (Some x) p h acts → Runs p h acts h' → AllServed h → AllServed h'
accepts c q client x p h h' acts (inl d) runs s = none_some (sym d.0)
accepts c q client x p h h' acts (inr (y, own, mid, rest, one, ran, (inl d), is)) runs s = none_some (sym d.0)
accepts c q client x p h h' acts (inr (y, own, mid, rest, one, ran, (inr (y2, own2, mid2, rest2, two, ran2, more, is2)), is)) runs s =
    let first = taken_over client (connection_at client h) y p h mid own refl one ran s in
    let second = cleaned q.clean_start client y2 p mid mid2 own2 first.1 two ran2 first.0 in
    begins c client q x p mid2 h' rest2 (still_away client mid mid2 second.same first.1) more (second_runs p mid mid2 h' own2 rest2 rest is2 ran2 (second_runs p h mid h' own rest acts is ran runs)) second.served

accepts_as : (c : ℕ) (q : Connect) (client : List ℕ) (x : Unit {0}) (p : Place) (h h' : HeldView) (acts : List Act) → connecting.AcceptsAs c q client (Some x) p h acts → Runs p h acts h' → AllServed h → AllServed h'
accepts_as c q client x p h h' acts (inl d) runs s = accepts c q client x p h h' acts d.1 runs s
accepts_as c q client x p h h' acts (inr d) runs s = refused c q 144 None x p h h' acts d.1 runs s

comes : (here : Bool) (c : ℕ) (q : Connect) (node : ℕ) (x : Unit {0}) (p : Place) (h h' : HeldView) (acts : List Act) → If here (connecting.AcceptsAs c q q.client) (connecting.Refers c q node) (Some x) p h acts → Runs p h acts h' → AllServed h → AllServed h'
comes true c q node x p h h' acts d runs s = accepts_as c q q.client x p h h' acts d runs s
comes false c q node x p h h' acts d runs s = refused c q 156 (connecting.address_of h node) x p h h' acts d runs s

named : (number : Option ℕ) (c : ℕ) (q : Connect) (x : Unit {0}) (p : Place) (h h' : HeldView) (acts : List Act) → connecting.NamesBy c q number (Some x) p h acts → Runs p h acts h' → AllServed h → AllServed h'
named None c q x p h h' acts d runs s = none_some (sym d.0)
named (Some number) c q x p h h' acts (inl d) runs s = none_some (sym d.0)
named (Some number) c q x p h h' acts (inr (y, own, mid, rest, one, ran, more, is)) runs s =
    let first = served_gently h mid (gently p own h mid (subst (AllByRecursion IsGentle) (sym one.1) (tt, tt)) ran) s in
    accepts c q _ x p mid h' rest more (second_runs p h mid h' own rest acts is ran runs) first.served

connects_at : (bare : Bool) (c : ℕ) (q : Connect) (x : Unit {0}) (p : Place) (h h' : HeldView) (acts : List Act) → connecting.ConnectsAt bare c q (Some x) p h acts → Runs p h acts h' → AllServed h → AllServed h'
connects_at true c q x p h h' acts (inl d) runs s = named d.1.0 c q x p h h' acts d.1.2 runs s
connects_at true c q x p h h' acts (inr d) runs s = refused c q 144 None x p h h' acts d.1 runs s
connects_at false c q x p h h' acts (node, home, d) runs s = comes (node == p.id) c q node x p h h' acts d runs s

connects_by : (code : Option ℕ) (c : ℕ) (q : Connect) (x : Unit {0}) (p : Place) (h h' : HeldView) (acts : List Act) → connecting.ConnectsBy code c q (Some x) p h acts → Runs p h acts h' → AllServed h → AllServed h'
connects_by (Some code) c q x p h h' acts d runs s = refused c q code None x p h h' acts d runs s
connects_by None c q x p h h' acts d runs s = connects_at (length q.client == 0) c q x p h h' acts d runs s

-- ---- the packets of a piece
first_served : (k : Packet) (c : ℕ) (x : Unit {0}) (p : Place) (h h' : HeldView) (acts : List Act) → pieces.AnswersFirstPacket c k (Some x) p h acts → Runs p h acts h' → AllServed h → AllServed h'
first_served (packets.Connect q) c x p h h' acts d runs s = connects_by (connecting.connect_refusal q) c q x p h h' acts d runs s
first_served k c x p h h' acts d runs s = closed_served c x p h h' acts d runs s

answered_by : (client : Option (List ℕ)) (c : ℕ) (k : Packet) (x : Unit {0}) (p : Place) (h h' : HeldView) (acts : List Act) → client_at c h ≡ client → pieces.AnswersPacketBy c k client (Some x) p h acts → Runs p h acts h' → AllServed h → AllServed h'
answered_by None c k x p h h' acts has d runs s = first_served k c x p h h' acts d runs s
answered_by (Some client) c k x p h h' acts has d runs s = (packet_served c client k x p h h' acts d runs (record { served = s; only = only_at c client h has s })).served

answered_if : (b : Bool) (c : ℕ) (k : Packet) (x : Unit {0}) (p : Place) (h h' : HeldView) (acts : List Act) → If b (pieces.AnswersPacket c k) (Returns tt) (Some x) p h acts → Runs p h acts h' → AllServed h → AllServed h'
answered_if true c k x p h h' acts d runs s = answered_by (client_at c h) c k x p h h' acts refl d runs s
answered_if false c k x p h h' acts d runs s = subst AllServed (sym (subst (λ zs. Runs p h zs h') d.1 runs)) s

each_answered : (c : ℕ) (ks : List Packet) (x : Unit {0}) (p : Place) (h h' : HeldView) (acts : List Act) → Each (pieces.AnswersIfOpen c) ks (Some x) p h acts → Runs p h acts h' → AllServed h → AllServed h'
each_answered c [] x p h h' acts d runs s = subst AllServed (sym (subst (λ zs. Runs p h zs h') d.1 runs)) s
each_answered c (k ∷ ks) x p h h' acts (inl d) runs s = none_some (sym d.0)
each_answered c (k ∷ ks) x p h h' acts (inr (y, own, mid, rest, one, ran, more, is)) runs s =
    each_answered c ks x p mid h' rest more (second_runs p h mid h' own rest acts is ran runs) (answered_if (is_open c h) c k y p h mid own one ran s)

-- ---- the fault
refusal_served : (code : Option ℕ) (c : ℕ) (x : Unit {0}) (p : Place) (h h' : HeldView) (acts : List Act) → pieces.SendsRefusal c code (Some x) p h acts → Runs p h acts h' → AllServed h → LeavesServed h h'
refusal_served None c x p h h' acts d runs s = absurd d
refusal_served (Some code) c x p h h' acts d runs s = served_gently h h' (gently p acts h h' (sends c (refused_packet code None) x p h acts d) runs) s

told_if : (b : Bool) (code : Option ℕ) (c : ℕ) (x : Unit {0}) (p : Place) (h h' : HeldView) (acts : List Act) → If b (pieces.SendsRefusal c code) (Returns tt) (Some x) p h acts → Runs p h acts h' → AllServed h → LeavesServed h h'
told_if true code c x p h h' acts d runs s = refusal_served code c x p h h' acts d runs s
told_if false code c x p h h' acts d runs s = leaves_same h h' (subst (λ zs. Runs p h zs h') d.1 runs) s

told_client : (code : Option ℕ) (c : ℕ) (client : List ℕ) (x : Unit {0}) (p : Place) (h h' : HeldView) (acts : List Act) → pieces.SendsDisconnect c client code (Some x) p h acts → Runs p h acts h' → AllServed h → LeavesServed h h'
told_client None c client x p h h' acts d runs s = absurd d
told_client (Some code) c client x p h h' acts d runs s = served_gently h h' (gently p acts h h' (disconnects c client code x p h acts d) runs) s

told_by : (client : Option (List ℕ)) (c : ℕ) (fault : PacketFault) (x : Unit {0}) (p : Place) (h h' : HeldView) (acts : List Act) → pieces.TellsBy c fault client (Some x) p h acts → Runs p h acts h' → AllServed h → LeavesServed h h'
told_by None c fault x p h h' acts d runs s = told_if (pieces.is_connect (first_at c h)) (pieces.connack_code fault) c x p h h' acts d runs s
told_by (Some client) c fault x p h h' acts d runs s = told_client (pieces.disconnect_code fault) c client x p h h' acts d runs s

broken : (client : Option (List ℕ)) (c : ℕ) (fault : PacketFault) (x : Unit {0}) (p : Place) (h h' : HeldView) (acts : List Act) → client_at c h ≡ client → pieces.BreaksBy c fault client (Some x) p h acts → Runs p h acts h' → AllServed h → AllServed h'
broken client c fault x p h h' acts has (inl d) runs s = none_some (sym d.0)
broken client c fault x p h h' acts has (inr (y, own, mid, rest, one, ran, more, is)) runs s =
    let first = told_by client c fault y p h mid own one ran s in
    closed_by client c x p mid h' rest (ap (λ (m : ConnectionTable). option_and_then (λ (v : ConnectionView). v.client) (map.get m c)) first.same ∙ has) more (second_runs p h mid h' own rest acts is ran runs) first.served

broken_if : (b : Bool) (c : ℕ) (fault : PacketFault) (x : Unit {0}) (p : Place) (h h' : HeldView) (acts : List Act) → If b (pieces.Breaks c fault) (Returns tt) (Some x) p h acts → Runs p h acts h' → AllServed h → AllServed h'
broken_if true c fault x p h h' acts d runs s = broken (client_at c h) c fault x p h h' acts refl d runs s
broken_if false c fault x p h h' acts d runs s = subst AllServed (sym (subst (λ zs. Runs p h zs h') d.1 runs)) s

fault_served : (fault : Option PacketFault) (c : ℕ) (x : Unit {0}) (p : Place) (h h' : HeldView) (acts : List Act) → pieces.BreaksIfOpen c fault (Some x) p h acts → Runs p h acts h' → AllServed h → AllServed h'
fault_served None c x p h h' acts d runs s = subst AllServed (sym (subst (λ zs. Runs p h zs h') d.1 runs)) s
fault_served (Some fault) c x p h h' acts d runs s = broken_if (is_open c h) c fault x p h h' acts d runs s

-- ---- connections that open, take bytes in, or are told their room
-- a connection that changes, but for its client
changed_client : (f : ConnectionView → ConnectionView) → ((v : ConnectionView) → (f v).client ≡ v.client) → (o : Option ConnectionView) (h : HeldView) (c : ℕ) → map.get h.connections c ≡ o → (q : ℕ)
    → option_and_then (λ (v : ConnectionView). v.client) (map.get (changed_at f c h.connections o) q) ≡ client_at q h
changed_client f keeps None h c is q = refl
changed_client f keeps (Some found) h c is q = elim (nat_cases q c) [
  | inl e ↦
      ap (option_and_then (λ (v : ConnectionView). v.client)) (ap (λ n. map.get (map.insert h.connections c (f found)) n) e ∙ put_here h.connections c (f found)) ∙ keeps found
      ∙ sym (ap (option_and_then (λ (v : ConnectionView). v.client)) (ap (map.get h.connections) e ∙ is))
  | inr ne ↦ ap (option_and_then (λ (v : ConnectionView). v.client)) (put_apart h.connections c (f found) q ne)
]

fed_served : (h : HeldView) (c : ℕ) (bytes : List ℕ) → AllServed h → AllServed (next h (Connection (Fed c bytes)))
fed_served h c bytes s = record {
  live = λ q client at. live_in h (next h (Connection (Fed c bytes))) refl client q (s.live q client (sym (changed_client (with_piece bytes) (λ v. refl) (map.get h.connections c) h c refl q) ∙ at));
}

roomed_served : (h : HeldView) (c bytes : ℕ) → AllServed h → AllServed (next h (Connection (Roomed c bytes)))
roomed_served h c bytes s = record {
  live = λ q client at. live_in h (next h (Connection (Roomed c bytes))) refl client q (s.live q client (sym (changed_client (with_room bytes) (λ v. refl) (map.get h.connections c) h c refl q) ∙ at));
}

opened_served : (h : HeldView) (c : ℕ) → AllServed h → AllServed (next h (Connection (Opened c)))
opened_served h c s = record { live = λ q client at. live_in h (next h (Connection (Opened c))) refl client q (s.live q client (was q client at)) } where
  was : (q : ℕ) (client : List ℕ) → client_at q (next h (Connection (Opened c))) ≡ Some client → client_at q h ≡ Some client
  was q client at = elim (nat_cases q c) [
    | inl e ↦ none_some (sym (ap (option_and_then (λ (v : ConnectionView). v.client)) (ap (λ n. map.get (map.insert h.connections c new_connection) n) e ∙ put_here h.connections c new_connection)) ∙ at)
    | inr ne ↦ sym (ap (option_and_then (λ (v : ConnectionView). v.client)) (put_apart h.connections c new_connection q ne)) ∙ at
  ]

-- ---- a piece
feeds_served : (c : ℕ) (bytes : List ℕ) (found : ConnectionView) (x : Unit {0}) (p : Place) (h h' : HeldView) (acts : List Act) → pieces.Feeds c bytes found (Some x) p h acts → Runs p h acts h' → AllServed h → AllServed h'
feeds_served c bytes found x p h h' acts (inl d) runs s = none_some (sym d.0)
feeds_served c bytes found x p h h' acts (inr (y, own, mid, rest, one, ran, (inl d), is)) runs s = none_some (sym d.0)
feeds_served c bytes found x p h h' acts (inr (y, own, mid, rest, one, ran, (inr (y2, own2, mid2, rest2, two, ran2, more, is2)), is)) runs s =
    let left : mid ≡ next h (Connection (Fed c bytes)) = left_by p h mid (Connection (Fed c bytes)) own one.1 ran in
    let first : AllServed mid = subst AllServed (sym left) (fed_served h c bytes s) in
    let second = each_answered c (cut_of found.stream bytes).packets y2 p mid mid2 own2 two ran2 first in
    fault_served (cut_of found.stream bytes).fault c x p mid2 h' rest2 more (second_runs p mid mid2 h' own2 rest2 rest is2 ran2 (second_runs p h mid h' own rest acts is ran runs)) second

fails_if : (b : Bool) (c : ℕ) (bytes : List ℕ) (found : ConnectionView) (x : Unit {0}) (p : Place) (h h' : HeldView) (acts : List Act) → If b (pieces.Shuts c) (pieces.Feeds c bytes found) (Some x) p h acts → Runs p h acts h' → AllServed h → AllServed h'
fails_if true c bytes found x p h h' acts d runs s = closed_by (client_at c h) c x p h h' acts refl d runs s
fails_if false c bytes found x p h h' acts d runs s = feeds_served c bytes found x p h h' acts d runs s

piece_at : (o : Option ConnectionView) (c : ℕ) (bytes : List ℕ) (x : Unit {0}) (p : Place) (h h' : HeldView) (acts : List Act) → pieces.PieceAt c bytes o (Some x) p h acts → Runs p h acts h' → AllServed h → AllServed h'
piece_at None c bytes x p h h' acts d runs s = subst AllServed (sym (subst (λ zs. Runs p h zs h') d.1 runs)) s
piece_at (Some found) c bytes x p h h' acts d runs s = fails_if found.stream.failed c bytes found x p h h' acts d runs s

pub piece_served : (c : ℕ) (bytes : List ℕ) (x : Unit {0}) (p : Place) (h h' : HeldView) (acts : List Act) → pieces.Piece c bytes (Some x) p h acts → Runs p h acts h' → AllServed h → AllServed h'
piece_served c bytes x p h h' acts d runs s = piece_at (map.get h.connections c) c bytes x p h h' acts d runs s

-- ---- a client or the network closes
left_by_client : (client : Option (List ℕ)) (c : ℕ) (x : Unit {0}) (p : Place) (h h' : HeldView) (acts : List Act) → client_at c h ≡ client → pieces.LeavesBy c client (Some x) p h acts → Runs p h acts h' → AllServed h → AllServed h'
left_by_client client c x p h h' acts has (inl d) runs s = none_some (sym d.0)
left_by_client None c x p h h' acts has (inr (y, own, mid, rest, one, ran, more, is)) runs s =
    let left : mid ≡ next h (Connection (Closed c)) = left_by p h mid (Connection (Closed c)) own one.1 ran in
    let same : h' ≡ mid = subst (λ zs. Runs p mid zs h') more.1 (second_runs p h mid h' own rest acts is ran runs) in
    subst AllServed (sym (same ∙ left)) (shut_served h c s)
left_by_client (Some client) c x p h h' acts has (inr (y, own, mid, rest, one, ran, more, is)) runs s =
    let left : mid ≡ next h (Connection (Closed c)) = left_by p h mid (Connection (Closed c)) own one.1 ran in
    let away : IsAway client mid = subst (IsAway client) (sym left) (shut_away h c client (only_at c client h has s)) in
    (parts_served client x p mid h' rest away more (second_runs p h mid h' own rest acts is ran runs) (subst AllServed (sym left) (shut_served h c s))).served

pub leaves_if : (b : Bool) (c : ℕ) (x : Unit {0}) (p : Place) (h h' : HeldView) (acts : List Act) → If b (Looks (λ p h. client_at c h) (pieces.LeavesBy c)) (Returns tt) (Some x) p h acts → Runs p h acts h' → AllServed h → AllServed h'
leaves_if true c x p h h' acts d runs s = left_by_client (client_at c h) c x p h h' acts refl d runs s
leaves_if false c x p h h' acts d runs s = subst AllServed (sym (subst (λ zs. Runs p h zs h') d.1 runs)) s

-- ---- openings, and room
pub opens_if : (b : Bool) (c : ℕ) (x : Unit {0}) (p : Place) (h h' : HeldView) (acts : List Act) → If b (Returns tt) (Acting (λ p h. Connection (Opened c))) (Some x) p h acts → Runs p h acts h' → AllServed h → AllServed h'
opens_if true c x p h h' acts d runs s = subst AllServed (sym (subst (λ zs. Runs p h zs h') d.1 runs)) s
opens_if false c x p h h' acts d runs s = subst AllServed (sym (left_by p h h' (Connection (Opened c)) acts d.1 runs)) (opened_served h c s)

rooms_by : (client : Option (List ℕ)) (c bytes : ℕ) (x : Unit {0}) (p : Place) (h h' : HeldView) (acts : List Act) → giving.MakesRoomBy c bytes client (Some x) p h acts → Runs p h acts h' → AllServed h → AllServed h'
rooms_by None c bytes x p h h' acts d runs s = subst AllServed (sym (left_by p h h' (Connection (Roomed c bytes)) acts d.1 runs)) (roomed_served h c bytes s)
rooms_by (Some client) c bytes x p h h' acts (inl d) runs s = none_some (sym d.0)
rooms_by (Some client) c bytes x p h h' acts (inr (r, own, mid, rest, one, ran, more, is)) runs s =
    let first = served_gently h mid (gently p own h mid (calling client (rooms bytes) (λ at. tt) r p h own one) ran) s in
    let same : h' ≡ mid = subst (λ zs. Runs p mid zs h') more.1 (second_runs p h mid h' own rest acts is ran runs) in
    subst AllServed (sym same) first.served

pub rooms_if : (b : Bool) (c bytes : ℕ) (x : Unit {0}) (p : Place) (h h' : HeldView) (acts : List Act) → If b (Looks (λ p h. client_at c h) (giving.MakesRoomBy c bytes)) (Returns tt) (Some x) p h acts → Runs p h acts h' → AllServed h → AllServed h'
rooms_if true c bytes x p h h' acts d runs s = rooms_by (client_at c h) c bytes x p h h' acts d runs s
rooms_if false c bytes x p h h' acts d runs s = subst AllServed (sym (subst (λ zs. Runs p h zs h') d.1 runs)) s
