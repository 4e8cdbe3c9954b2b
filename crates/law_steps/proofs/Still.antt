-- Work in which no session begins and no table is taken.
use Rattle.std.proofs.Common.{ℕ, ◌&&◌, not, Bool, true, false, cond, List, [], Option, Some, None}
use Rattle.bridge_deltas.specs.Lane.{first_frames}
use Rattle.bridge_deltas.specs.More.{frames_after}
use Rattle.bridge_frames.specs.declared.body.FrameBody.{FrameBody}
use Rattle.bridge_frames.specs.declared.body.FrameBody.TheVariants.{Hello, Delta, Know, Forward as Carried, Got}
use Rattle.bridge_frames.specs.declared.forward.Forward.{Forward}
use Rattle.bridge_frames.specs.declared.frame.BridgeFrame.{BridgeFrame}
use Rattle.bridge_frames.specs.Frames.{frame_in}
use Rattle.session_table.specs.Dues.{Due}
use Rattle.bridge_routes.specs.declared.plain.PlainCopy.{PlainCopy as Copy}
use Rattle.mqtt_message.specs.declared.delivery.Delivery.{Delivery}
use Rattle.mqtt_message.specs.Identifiers.{identifiers_of}
use Rattle.mqtt_packets.specs.declared.connect.Connect.{Connect}
use Rattle.mqtt_packets.specs.declared.fault.PacketFault.{PacketFault}
use Rattle.mqtt_packets.specs.declared.packet.Packet.{Packet}
use Rattle.mqtt_packets.specs.declared.packet.Packet.TheVariants as packets
use Rattle.mqtt_packets.specs.declared.subscribe.SubscribeFilter.{SubscribeFilter}
use Rattle.mqtt_packets.specs.Written.{written}
use Rattle.mqtt_sessions.specs.declared.reaction.Ask.{Ask}
use Rattle.mqtt_sessions.specs.declared.reaction.Ask.TheVariants as asks
use Rattle.mqtt_sessions.specs.Answers.{disconnect, fits}
use Rattle.mqtt_sessions.specs.Reaction.{Reaction}
use Rattle.mqtt_sessions.specs.State.{limit_in}
use Rattle.mqtt_topics.specs.Topics.{IsFilter}
use Rattle.node_bridge.specs.View.{is_next, lane_to}
use Rattle.replica_store.specs.Making.{subscribe_of}
use Rattle.replica_store.specs.States.{State}
use Rattle.law_sessions.specs.Runs.{Event, answers, closes, finishes, queues, rooms, takes, ticks}
use Rattle.session_table.specs.Calls.{leaves, stays}
use Rattle.session_table.specs.Seats.{connected, ends_due, run_outs, wills_due}
use Rattle.subscription_set.specs.declared.entry.Entry.{Entry}
use Rattle.subscription_set.specs.Standing.{any_below, any_of}
use Rattle.node_work.specs.declared.counts.Missed.{Missed}
use Rattle.node_work.specs.declared.counts.Missed.TheVariants.{BadFrame, FrameTooLarge}
use Rattle.node_work.specs.declared.granted.Granted.{Granted}
use Rattle.node_work.specs.declared.outcome.Output.TheVariants.{Close, Send}
use Rattle.node_work.specs.Acts.{Acknowledged, Act, Bridge, Connection, Made, Merged, Moved, Out, Session, Store}
use Rattle.node_work.specs.Calling.{Calls, Queues}
use Rattle.node_work.specs.Doings.{Disconnects, GivesBody, GivesFrame, MakesRemove, MakesRemoveBelow, MakesSubscribe, Misses, Removes, RemovesBelow, Sends, is_small}
use Rattle.node_work.specs.Frames.{is_for_node, is_other}
use Rattle.node_work.specs.Held.Bridge.{Believed, Greeted, Gave, Got as GotBy, Took, hello_to}
use Rattle.node_work.specs.Held.Connections.{Closed, Roomed, client_at, first_at, is_open}
use Rattle.node_work.specs.Held.Making.{number_at_end, removal, removal_below}
use Rattle.node_work.specs.Held.Sessions.{Begun, Over, connection_at, end_is_due, has_session, takes_disconnect, takes_packet, will_is_due}
use Rattle.node_work.specs.Packets.{moved_packet, refused_packet}
use Rattle.node_work.specs.View.{HeldView}
use Rattle.node_work.specs.Working.{Acting, Doing, Each, If, InTurn, Looks, Returns, Then}
use Rattle.node_clients.specs.Connecting as connecting
use Rattle.node_clients.specs.Ending as endings
use Rattle.node_clients.specs.Moving as moving
use Rattle.node_clients.specs.Passing as passing
use Rattle.node_clients.specs.Pieces as pieces
use Rattle.node_clients.specs.Rooms as giving
use Rattle.node_clients.specs.Serving as serving
use Rattle.node_clients.specs.Subscribing as subscribing
use Rattle.node_clients.specs.Unsubscribing as unsubscribing
use Rattle.broker_node.specs.Bridge as bridge
use Rattle.broker_node.specs.Due as due
use Rattle.broker_node.specs.Moving as tables
use Rattle.broker_node.specs.Turns as turns
use Rattle.law_steps.proofs.EachAct.{K, Kind, acting, by_test, by_whether, calls, drops, each, finds, in_turn, join, looks, misses, numbered, passes, passes_asked, queues_all, returns}

-- no session begins, and no table is taken
abbrev pub IsStill : Act → Type 0
IsStill (Session (Begun client)) = ⊥
IsStill (Moved homes) = ⊥
IsStill a = Unit {0}

abbrev pub Does : (Option (Unit {0}) → Doing) → Type 0
Does P = K IsStill (Unit {0}) P

kind : Kind IsStill
kind = record {
  queued = λ s d at is. tt;
  put = λ id content h. tt;
  laned = λ peer m. tt;
  missed = λ what. tt;
  passed = λ m copies lost routes. tt;
  dropped = tt;
}

pub misses_of : (what : Missed) → Does (Misses what)
misses_of what = misses IsStill kind what

pub calling : (client : List ℕ) (event : ℕ → Event) (on : Option ℕ → Option ℕ) → K IsStill Reaction (Calls client event on)
calling client event on = calls IsStill client event on (λ s at same is. tt)

-- ---- operations, and a session's end
makes_subscribe : (entry : Entry) → Does (MakesSubscribe entry)
makes_subscribe entry = numbered IsStill (λ p h. number_at_end p.id h) (λ p h. Store (Made (subscribe_of p.id entry h.store))) (λ p h. tt)

removes : (client : List ℕ) (to : Option (List ℕ)) → K IsStill Bool (Removes client to)
removes client to =
    looks IsStill (λ p h. any_of client to h.store.subscriptions) (λ stands. If stands (Then (MakesRemove client to) (λ _. Returns true)) (Returns false))
    (λ stands. by_test IsStill stands (Then (MakesRemove client to) (λ _. Returns true)) (Returns false)
    (join IsStill (MakesRemove client to) (λ _. Returns true) (numbered IsStill (λ p h. number_at_end p.id h) (λ p h. Store (Made (removal p.id client to h.store))) (λ p h. tt)) (λ _. returns IsStill true)) (returns IsStill false))

removes_below : (client : List ℕ) (version : ℕ) → K IsStill Bool (RemovesBelow client version)
removes_below client version =
    looks IsStill (λ p h. any_below client version h.store.subscriptions) (λ stands. If stands (Then (MakesRemoveBelow client version) (λ _. Returns true)) (Returns false))
    (λ stands. by_test IsStill stands (Then (MakesRemoveBelow client version) (λ _. Returns true)) (Returns false)
    (join IsStill (MakesRemoveBelow client version) (λ _. Returns true) (numbered IsStill (λ p h. number_at_end p.id h) (λ p h. Store (Made (removal_below p.id client version h.store))) (λ p h. tt)) (λ _. returns IsStill true)) (returns IsStill false))

ends_session : (client : List ℕ) → Does (endings.EndsSession client)
ends_session client =
    join IsStill (endings.RemovesOwn client) (λ _. Acting (λ p h. Session (Over client)))
    (finds IsStill (endings.IsAtHome client) (endings.RemovesFor client) (λ node. looks IsStill (endings.ends_below node) (RemovesBelow client) (removes_below client)))
    (λ _. acting IsStill (λ p h. Session (Over client)) (λ p h. tt))

follows : (client : List ℕ) (r : Reaction) → Does (endings.FollowsReaction client r)
follows client r =
    join IsStill (endings.PassesAsked r.ask) (λ _. If r.over (endings.EndsSession client) (Returns tt)) (passes_asked IsStill kind r.ask)
    (λ _. by_test IsStill r.over (endings.EndsSession client) (Returns tt) (ends_session client) (returns IsStill tt))

ticks_of : (client : List ℕ) → Does (endings.Ticks client)
ticks_of client = join IsStill (Calls client ticks stays) (endings.FollowsReaction client) (calling client ticks stays) (follows client)

finishes_of : (client : List ℕ) → Does (endings.Finishes client)
finishes_of client = join IsStill (Calls client finishes stays) (endings.FollowsReaction client) (calling client finishes stays) (follows client)

-- ---- what goes out, and closes
sends : (c : ℕ) (packet : Packet) → Does (Sends c packet)
sends c packet = acting IsStill (λ p h. Out (Send c (written packet))) (λ p h. tt)

disconnects : (c : ℕ) (client : List ℕ) (code : ℕ) → Does (Disconnects c client code)
disconnects c client code =
    looks IsStill (λ p h. takes_disconnect client code h) (λ taken. If taken (Sends c (disconnect code)) (Returns tt))
    (λ taken. by_test IsStill taken (Sends c (disconnect code)) (Returns tt) (sends c (disconnect code)) (returns IsStill tt))

pub closes_of : (c : ℕ) → Does (endings.ClosesConnection c)
closes_of c =
    join IsStill (Acting (λ p h. Connection (Closed c))) (λ _. Acting (λ p h. Out (Close c))) (acting IsStill (λ p h. Connection (Closed c)) (λ p h. tt)) (λ _. acting IsStill (λ p h. Out (Close c)) (λ p h. tt))

ticks_if : (is_due : Bool) (client : List ℕ) → Does (endings.TicksIf is_due client)
ticks_if is_due client = by_test IsStill is_due (endings.Ticks client) (Returns tt) (ticks_of client) (returns IsStill tt)

parts : (client : List ℕ) → Does (endings.Parts client)
parts client =
    join IsStill (Calls client closes leaves) (λ _. endings.DoesDueOf client) (calling client closes leaves) (λ _.
    join IsStill (Looks (λ p h. will_is_due client h) (λ b. endings.TicksIf b client)) (λ _. Looks (λ p h. end_is_due client h) (λ b. endings.TicksIf b client))
    (looks IsStill (λ p h. will_is_due client h) (λ b. endings.TicksIf b client) (λ b. ticks_if b client)) (λ _. looks IsStill (λ p h. end_is_due client h) (λ b. endings.TicksIf b client) (λ b. ticks_if b client)))

closes_for : (c : ℕ) (client : List ℕ) → Does (endings.ClosesFor c client)
closes_for c client = join IsStill (endings.ClosesConnection c) (λ _. endings.Parts client) (closes_of c) (λ _. parts client)

pub closes_after : (end : Option ℕ) (c : ℕ) (client : List ℕ) → Does (endings.ClosesAfter end c client)
closes_after None c client = returns IsStill tt
closes_after (Some code) c client = closes_for c client

pub closes_by : (c : ℕ) (client : Option (List ℕ)) → Does (endings.ClosesBy c client)
closes_by c None = closes_of c
closes_by c (Some client) = closes_for c client

-- ---- SUBSCRIBE and UNSUBSCRIBE
grants_by : (client : List ℕ) (identifier : ℕ) (f : SubscribeFilter) (stood : Bool) → K IsStill Granted (subscribing.GrantsBy client identifier f stood)
grants_by client identifier f stood =
    let full = Returns (subscribing.filter_refused 151) in
    let given = subscribing.granted f (identifiers_of identifier) stood in
    let One = subscribing.SubscribesTo client identifier f in
    let one = looks IsStill (λ p h. h.homes.version) (λ version. MakesSubscribe (subscribing.subscription_entry client f identifier version)) (λ version. makes_subscribe (subscribing.subscription_entry client f identifier version)) in
    looks IsStill (λ p h. not stood && subscribing.has_most client h.store) (λ is. If is full (Then One (λ _. Returns given)))
    (λ is. by_test IsStill is full (Then One (λ _. Returns given)) (returns IsStill (subscribing.filter_refused 151)) (join IsStill One (λ _. Returns given) one (λ _. returns IsStill given)))

grants : (client : List ℕ) (identifier : ℕ) (f : SubscribeFilter) → K IsStill Granted (subscribing.Grants client identifier f)
grants client identifier f =
    by_whether IsStill (IsFilter f.filter) (Looks (λ p h. subscribing.stands client f.filter h) (subscribing.GrantsBy client identifier f)) (Returns (subscribing.filter_refused 143))
    (looks IsStill (λ p h. subscribing.stands client f.filter h) (subscribing.GrantsBy client identifier f) (grants_by client identifier f)) (returns IsStill (subscribing.filter_refused 143))

offers_one : (client : List ℕ) (offer : Delivery) → Does (subscribing.OffersOne client offer)
offers_one client offer = join IsStill (Calls client (queues offer) stays) (λ _. Returns tt) (calling client (queues offer) stays) (λ _. returns IsStill tt)

offers : (client : List ℕ) (packet : ℕ) (given : List Granted) → Does (subscribing.Offers client packet given)
offers client packet given =
    finds IsStill (subscribing.AreOffers given) (subscribing.OffersEach client packet given)
    (λ os. join IsStill (Acting (λ p h. Acknowledged client packet h.at given os)) (λ _. Each (subscribing.OffersOne client) os) (acting IsStill (λ p h. Acknowledged client packet h.at given os) (λ p h. tt))
    (λ _. each IsStill (subscribing.OffersOne client) os (offers_one client)))

offers_after : (end : Option ℕ) (c : ℕ) (client : List ℕ) (packet : ℕ) (given : List Granted) → Does (subscribing.OffersAfter end c client packet given)
offers_after None c client packet given = offers client packet given
offers_after (Some code) c client packet given = closes_for c client

acknowledges : (c : ℕ) (client : List ℕ) (packet : ℕ) (given : List Granted) → Does (subscribing.SendsSuback c client packet given)
acknowledges c client packet given =
    join IsStill (Calls client (λ at. answers packet (subscribing.granted_reasons given)) stays) (λ r. subscribing.OffersAfter r.end c client packet given)
    (calling client (λ at. answers packet (subscribing.granted_reasons given)) stays) (λ r. offers_after r.end c client packet given)

subscribes_by : (c : ℕ) (client : List ℕ) (k : Packet) → Does (serving.SubscribesBy c client k)
subscribes_by c client (packets.Subscribe q) =
    join IsStill (InTurn (subscribing.Grants client (subscribing.identifier_of q)) q.filters []) (subscribing.SendsSuback c client q.identifier)
    (in_turn IsStill (subscribing.Grants client (subscribing.identifier_of q)) q.filters [] (grants client (subscribing.identifier_of q))) (acknowledges c client q.identifier)
subscribes_by c client _ = returns IsStill tt

unsubscribed : (client text : List ℕ) → K IsStill ℕ (unsubscribing.Unsubscribed client text)
unsubscribed client text =
    by_whether IsStill (IsFilter text) (Then (Removes client (Some text)) (λ stood. Returns (cond stood 0 17))) (Returns 143)
    (join IsStill (Removes client (Some text)) (λ stood. Returns (cond stood 0 17)) (removes client (Some text)) (λ stood. returns IsStill (cond stood 0 17))) (returns IsStill 143)

unsubscribes_by : (c : ℕ) (client : List ℕ) (k : Packet) → Does (serving.UnsubscribesBy c client k)
unsubscribes_by c client (packets.Unsubscribe u) =
    join IsStill (InTurn (unsubscribing.Unsubscribed client) u.filters []) (unsubscribing.SendsUnsuback c client u.identifier) (in_turn IsStill (unsubscribing.Unsubscribed client) u.filters [] (unsubscribed client))
    (λ codes. join IsStill (Calls client (λ at. answers u.identifier codes) stays) (λ r. endings.ClosesAfter r.end c client) (calling client (λ at. answers u.identifier codes) stays) (λ r. closes_after r.end c client))
unsubscribes_by c client _ = returns IsStill tt

-- ---- a packet of an accepted client
does_asked : (ask : Option Ask) (c : ℕ) (client : List ℕ) (k : Packet) (room : Bool) (end : Option ℕ) → Does (serving.DoesAsked ask c client k room end)
does_asked None c client k room end = by_test IsStill (serving.is_dropped k room end) passing.Drops (Returns tt) (drops IsStill kind) (returns IsStill tt)
does_asked (Some (asks.Pass m)) c client k room end = passes IsStill kind m
does_asked (Some asks.Subscribe) c client k room end = subscribes_by c client k
does_asked (Some asks.Unsubscribe) c client k room end = unsubscribes_by c client k

does_reaction : (c : ℕ) (client : List ℕ) (k : Packet) (room : Bool) (r : Reaction) → Does (serving.DoesReaction c client k room r)
does_reaction c client k room r =
    join IsStill (serving.DoesAsked r.ask c client k room r.end) (λ _. endings.ClosesAfter r.end c client) (does_asked r.ask c client k room r.end) (λ _. closes_after r.end c client)

pub serves : (c : ℕ) (client : List ℕ) (k : Packet) → Does (serving.ServesPacket c client k)
serves c client k =
    looks IsStill (λ place h. serving.room_for client k h) (serving.ServesIn c client k)
    (λ room. join IsStill (Calls client (λ at. takes k at room) stays) (serving.DoesReaction c client k room) (calling client (λ at. takes k at room) stays) (does_reaction c client k room))

-- ---- CONNECT, but for the session that begins
pub refuses : (c : ℕ) (q : Connect) (code : ℕ) (reference : Option (List ℕ)) → Does (connecting.RefusesConnect c q code reference)
refuses c q code reference =
    let packet = refused_packet code reference in
    let fitting = fits (limit_in q.properties) packet in
    join IsStill (connecting.SendsIf fitting c packet) (λ _. endings.ClosesConnection c) (by_test IsStill fitting (Sends c packet) (Returns tt) (sends c packet) (returns IsStill tt)) (λ _. closes_of c)

takes_over_from : (client : List ℕ) (on : Option ℕ) → Does (connecting.TakesOverFrom client on)
takes_over_from client None = returns IsStill tt
takes_over_from client (Some older) = join IsStill (Disconnects older client 142) (λ _. endings.ClosesFor older client) (disconnects older client 142) (λ _. closes_for older client)

pub takes_over : (client : List ℕ) → Does (connecting.TakesOver client)
takes_over client = looks IsStill (λ p h. connection_at client h) (connecting.TakesOverFrom client) (takes_over_from client)

pub cleans : (clean : Bool) (client : List ℕ) → Does (connecting.Cleans clean client)
cleans false client = returns IsStill tt
cleans true client =
    looks IsStill (λ p h. has_session client h) (λ has. If has (endings.Finishes client) (Returns tt)) (λ has. by_test IsStill has (endings.Finishes client) (Returns tt) (finishes_of client) (returns IsStill tt))

-- ---- faults
sends_refusal : (c : ℕ) (code : Option ℕ) → Does (pieces.SendsRefusal c code)
sends_refusal c None = λ x p h acts d. absurd d
sends_refusal c (Some code) = sends c (refused_packet code None)

sends_disconnect : (c : ℕ) (client : List ℕ) (code : Option ℕ) → Does (pieces.SendsDisconnect c client code)
sends_disconnect c client None = λ x p h acts d. absurd d
sends_disconnect c client (Some code) = disconnects c client code

tells_by : (c : ℕ) (fault : PacketFault) (client : Option (List ℕ)) → Does (pieces.TellsBy c fault client)
tells_by c fault None =
    looks IsStill (λ p h. pieces.is_connect (first_at c h)) (λ is. If is (pieces.SendsRefusal c (pieces.connack_code fault)) (Returns tt))
    (λ is. by_test IsStill is (pieces.SendsRefusal c (pieces.connack_code fault)) (Returns tt) (sends_refusal c (pieces.connack_code fault)) (returns IsStill tt))
tells_by c fault (Some client) = sends_disconnect c client (pieces.disconnect_code fault)

breaks_by : (c : ℕ) (fault : PacketFault) (client : Option (List ℕ)) → Does (pieces.BreaksBy c fault client)
breaks_by c fault client = join IsStill (pieces.TellsBy c fault client) (λ _. endings.ClosesBy c client) (tells_by c fault client) (λ _. closes_by c client)

pub breaks_if : (c : ℕ) (fault : Option PacketFault) → Does (pieces.BreaksIfOpen c fault)
breaks_if c None = returns IsStill tt
breaks_if c (Some fault) =
    looks IsStill (λ p h. is_open c h) (λ is. If is (pieces.Breaks c fault) (Returns tt))
    (λ is. by_test IsStill is (pieces.Breaks c fault) (Returns tt) (looks IsStill (λ p h. client_at c h) (pieces.BreaksBy c fault) (breaks_by c fault)) (returns IsStill tt))

-- ---- a client that goes away
parts_by : (client : Option (List ℕ)) → Does (pieces.PartsBy client)
parts_by None = returns IsStill tt
parts_by (Some client) = parts client

leaves_by : (c : ℕ) (client : Option (List ℕ)) → Does (pieces.LeavesBy c client)
leaves_by c client = join IsStill (Acting (λ p h. Connection (Closed c))) (λ _. pieces.PartsBy client) (acting IsStill (λ p h. Connection (Closed c)) (λ p h. tt)) (λ _. parts_by client)

pub leaves_of : (c : ℕ) → Does (pieces.Leaves c)
leaves_of c =
    let there : Option (Unit {0}) → Doing = Looks (λ p h. client_at c h) (pieces.LeavesBy c) in
    looks IsStill (λ p h. is_open c h) (λ is. If is there (Returns tt)) (λ is. by_test IsStill is there (Returns tt) (looks IsStill (λ p h. client_at c h) (pieces.LeavesBy c) (leaves_by c)) (returns IsStill tt))

-- ---- room for PUBLISHes
makes_room_by : (c bytes : ℕ) (client : Option (List ℕ)) → Does (giving.MakesRoomBy c bytes client)
makes_room_by c bytes None = acting IsStill (λ p h. Connection (Roomed c bytes)) (λ p h. tt)
makes_room_by c bytes (Some client) = join IsStill (Calls client (rooms bytes) stays) (λ _. Returns tt) (calling client (rooms bytes) stays) (λ _. returns IsStill tt)

pub makes_room : (c bytes : ℕ) → Does (giving.MakesRoom c bytes)
makes_room c bytes =
    let there : Option (Unit {0}) → Doing = Looks (λ p h. client_at c h) (giving.MakesRoomBy c bytes) in
    looks IsStill (λ p h. is_open c h) (λ is. If is there (Returns tt)) (λ is. by_test IsStill is there (Returns tt) (looks IsStill (λ p h. client_at c h) (giving.MakesRoomBy c bytes) (makes_room_by c bytes)) (returns IsStill tt))

-- ---- what is due
runs_out : (d : Due) → Does (due.RunsOut d)
runs_out d =
    join IsStill (Calls d.1 ticks stays) (λ _. Then (endings.ClosesConnection d.0) (λ _. Then (Calls d.1 closes leaves) (λ _. Returns tt))) (calling d.1 ticks stays) (λ _.
    join IsStill (endings.ClosesConnection d.0) (λ _. Then (Calls d.1 closes leaves) (λ _. Returns tt)) (closes_of d.0) (λ _.
    join IsStill (Calls d.1 closes leaves) (λ _. Returns tt) (calling d.1 closes leaves) (λ _. returns IsStill tt)))

pub does_due : Does due.DoesDue
does_due =
    join IsStill due.EndsConnections (λ _. Then due.PublishesWills (λ _. due.EndsSessions))
    (looks IsStill (λ p h. run_outs h.sessions h.at) (Each due.RunsOut) (λ ds. each IsStill due.RunsOut ds runs_out)) (λ _.
    join IsStill due.PublishesWills (λ _. due.EndsSessions)
    (looks IsStill (λ p h. wills_due h.sessions h.at) (Each due.TicksOf) (λ ds. each IsStill due.TicksOf ds (λ d. ticks_of d.1))) (λ _.
    looks IsStill (λ p h. ends_due h.sessions h.at) (Each due.TicksOf) (λ ds. each IsStill due.TicksOf ds (λ d. ticks_of d.1))))

parts_from : (client : List ℕ) → Does (due.PartsFrom client)
parts_from client = join IsStill (Calls client closes leaves) (λ _. Returns tt) (calling client closes leaves) (λ _. returns IsStill tt)

pub closes_stored : Does due.ClosesStored
closes_stored = looks IsStill (λ p h. connected h.sessions) (Each due.PartsFrom) (λ cs. each IsStill due.PartsFrom cs parts_from)

-- ---- clients whose home is elsewhere
redirects_by : (c : ℕ) (client : List ℕ) (address : Option (List ℕ)) → Does (moving.RedirectsBy c client address)
redirects_by c client None = returns IsStill tt
redirects_by c client (Some address) =
    looks IsStill (λ p h. takes_packet client (moved_packet address) h) (λ taken. If taken (Sends c (moved_packet address)) (Returns tt))
    (λ taken. by_test IsStill taken (Sends c (moved_packet address)) (Returns tt) (sends c (moved_packet address)) (returns IsStill tt))

parts_on : (client : List ℕ) (on : Option ℕ) → Does (moving.PartsOn client on)
parts_on client None = returns IsStill tt
parts_on client (Some c) =
    join IsStill (moving.RedirectsHome c client) (λ _. endings.ClosesFor c client)
    (finds IsStill (endings.IsAtHome client) (moving.RedirectsTo c client) (λ node. looks IsStill (λ p h. connecting.address_of h node) (moving.RedirectsBy c client) (redirects_by c client))) (λ _. closes_for c client)

moves_away : (client : List ℕ) → Does (moving.MovesAway client)
moves_away client = join IsStill (moving.PartsWays client) (λ _. endings.Finishes client) (looks IsStill (λ p h. connection_at client h) (moving.PartsOn client) (parts_on client)) (λ _. finishes_of client)

pub goes_away : Does tables.SendsAway
goes_away = finds IsStill tables.AreAway (Each moving.MovesAway) (λ away. each IsStill moving.MovesAway away moves_away)

-- ---- frames, and an eviction
gives_frame : (f : BridgeFrame) → Does (GivesFrame f)
gives_frame f = by_test IsStill (is_small f) (Acting (λ p h. Bridge (Gave f))) (Misses FrameTooLarge) (acting IsStill (λ p h. Bridge (Gave f)) (λ p h. tt)) (misses IsStill kind FrameTooLarge)

gives : (peer : ℕ) (body : HeldView → FrameBody) → Does (GivesBody peer body)
gives peer body = looks IsStill (λ p h. record { from = p.id; to = peer; body = body h }) GivesFrame gives_frame

pub greets : (peer : ℕ) → Does (bridge.Greets peer)
greets peer =
    looks IsStill (λ p h. is_other p peer) (λ other. If other (GivesBody peer (hello_to peer)) (Returns tt))
    (λ other. by_test IsStill other (GivesBody peer (hello_to peer)) (Returns tt) (gives peer (hello_to peer)) (returns IsStill tt))

gives_state : (peer : ℕ) (s : Option State) → Does (bridge.GivesState peer s)
gives_state peer None = returns IsStill tt
gives_state peer (Some s) = gives peer (λ h. Delta s)

ships_to : (peer : ℕ) → Does (bridge.ShipsTo peer)
ships_to peer =
    join IsStill (bridge.ShipsState peer) (λ _. bridge.ShipsMessages peer) (finds IsStill (bridge.AreShipped peer) (bridge.GivesState peer) (gives_state peer))
    (λ _. looks IsStill (λ p h. first_frames p.id peer (lane_to h.bridge peer)) (Each GivesFrame) (λ fs. each IsStill GivesFrame fs gives_frame))

pub ships : (peer : ℕ) → Does (bridge.Ships peer)
ships peer =
    looks IsStill (λ p h. is_other p peer) (λ other. If other (bridge.ShipsTo peer) (Returns tt)) (λ other. by_test IsStill other (bridge.ShipsTo peer) (Returns tt) (ships_to peer) (returns IsStill tt))

ships_more_to : (peer after : ℕ) → Does (bridge.ShipsMoreTo peer after)
ships_more_to peer after =
    join IsStill (bridge.ShipsState peer) (λ _. bridge.ShipsLater peer after) (finds IsStill (bridge.AreShipped peer) (bridge.GivesState peer) (gives_state peer))
    (λ _. looks IsStill (λ p h. frames_after p.id peer after (lane_to h.bridge peer)) (Each GivesFrame) (λ fs. each IsStill GivesFrame fs gives_frame))

pub ships_more : (peer after : ℕ) → Does (bridge.ShipsMore peer after)
ships_more peer after =
    looks IsStill (λ p h. is_other p peer) (λ other. If other (bridge.ShipsMoreTo peer after) (Returns tt)) (λ other. by_test IsStill other (bridge.ShipsMoreTo peer after) (Returns tt) (ships_more_to peer after) (returns IsStill tt))

takes_copies : (from number : ℕ) (m : Forward) (x : List Copy × ℕ) → Does (passing.TakesCopies from number m x)
takes_copies from number m x =
    join IsStill (Acting (λ p h. Bridge (Took from number m x.0 x.1))) (λ _. Queues x.0) (acting IsStill (λ p h. Bridge (Took from number m x.0 x.1)) (λ p h. tt)) (λ _. queues_all IsStill kind x.0)

takes_next : (from number : ℕ) (m : Forward) → Does (bridge.TakesNext from number m)
takes_next from number m =
    looks IsStill (λ p h. is_next from number h.bridge) (λ next. If next (passing.TakesForward from number m) (Returns tt))
    (λ next. by_test IsStill next (passing.TakesForward from number m) (Returns tt) (finds IsStill (passing.IsHandedOver m) (passing.TakesCopies from number m) (takes_copies from number m)) (returns IsStill tt))

takes_body : (from : ℕ) (body : FrameBody) → Does (bridge.TakesBody from body)
takes_body from (Hello g) = join IsStill (Acting (λ p h. Bridge (Greeted from g))) (λ _. bridge.TellsTaken from) (acting IsStill (λ p h. Bridge (Greeted from g)) (λ p h. tt)) (λ _. gives from (λ h. Know h.store.taken))
takes_body from (Delta s) = join IsStill (Acting (λ p h. Store (Merged s))) (λ _. bridge.TellsTaken from) (acting IsStill (λ p h. Store (Merged s)) (λ p h. tt)) (λ _. gives from (λ h. Know h.store.taken))
takes_body from (Know dots) = acting IsStill (λ p h. Bridge (Believed from dots)) (λ p h. tt)
takes_body from (Carried number m) =
    join IsStill (bridge.TakesNext from number m) (λ _. GivesBody from (λ h. Got (lane_to h.bridge from).took)) (takes_next from number m) (λ _. gives from (λ h. Got (lane_to h.bridge from).took))
takes_body from (Got number) = acting IsStill (λ p h. Bridge (GotBy from number)) (λ p h. tt)

hears_frame : (frame : Option BridgeFrame) → Does (bridge.HearsFrame frame)
hears_frame None = misses IsStill kind BadFrame
hears_frame (Some frame) =
    looks IsStill (λ p h. is_for_node p frame) (λ here. If here (bridge.TakesBody frame.from frame.body) (Misses BadFrame))
    (λ here. by_test IsStill here (bridge.TakesBody frame.from frame.body) (Misses BadFrame) (takes_body frame.from frame.body) (misses IsStill kind BadFrame))

pub hears : (bytes : List ℕ) → Does (bridge.Hears bytes)
hears bytes = hears_frame (frame_in bytes)

pub evicts : (client : List ℕ) → Does (turns.Evicts client)
evicts client = join IsStill (Removes client None) (λ _. Returns tt) (removes client None) (λ _. returns IsStill tt)
