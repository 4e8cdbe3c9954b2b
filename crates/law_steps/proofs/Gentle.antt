-- Work by which no connection changes, and no session ends or is told of a close.
use Rattle.std.proofs.Common.{ℕ, ◌&&◌, not, Bool, true, false, cond, List, [], Option, Some, None, sym, subst}
use Rattle.bridge_deltas.specs.Lane.{first_frames}
use Rattle.bridge_deltas.specs.More.{frames_after}
use Rattle.bridge_frames.specs.declared.body.FrameBody.{FrameBody}
use Rattle.bridge_frames.specs.declared.body.FrameBody.TheVariants.{Hello, Delta, Know, Forward as Carried, Got}
use Rattle.bridge_frames.specs.declared.forward.Forward.{Forward}
use Rattle.bridge_frames.specs.declared.frame.BridgeFrame.{BridgeFrame}
use Rattle.bridge_frames.specs.Frames.{frame_in}
use Rattle.bridge_routes.specs.declared.plain.PlainCopy.{PlainCopy as Copy}
use Rattle.mqtt_message.specs.declared.delivery.Delivery.{Delivery}
use Rattle.mqtt_message.specs.declared.message.Message.{Message}
use Rattle.mqtt_message.specs.Identifiers.{identifiers_of}
use Rattle.mqtt_packets.specs.declared.packet.Packet.{Packet}
use Rattle.mqtt_packets.specs.declared.subscribe.SubscribeFilter.{SubscribeFilter}
use Rattle.mqtt_packets.specs.Written.{written}
use Rattle.mqtt_sessions.specs.declared.reaction.Ask.{Ask}
use Rattle.mqtt_sessions.specs.Answers.{disconnect}
use Rattle.mqtt_sessions.specs.Reaction.{Reaction}
use Rattle.mqtt_topics.specs.Topics.{IsFilter}
use Rattle.node_bridge.specs.View.{is_next, lane_to}
use Rattle.replica_store.specs.Making.{subscribe_of}
use Rattle.replica_store.specs.States.{State}
use Rattle.law_sessions.specs.Runs.{Event, connects, queues, closes, loses}
use Rattle.session_table.specs.Calls.{stays}
use Rattle.subscription_set.specs.declared.entry.Entry.{Entry}
use Rattle.subscription_set.specs.Standing.{any_below, any_of}
use Rattle.node_work.specs.declared.counts.Missed.{Missed}
use Rattle.node_work.specs.declared.counts.Missed.TheVariants.{BadFrame, FrameTooLarge}
use Rattle.node_work.specs.declared.granted.Granted.{Granted}
use Rattle.node_work.specs.declared.outcome.Output.TheVariants.{Send}
use Rattle.node_work.specs.Acts.{Act, Began, Acknowledged, Bridge, Connection, Made, Merged, Out, Session, Store}
use Rattle.node_work.specs.Calling.{Calls, Queues}
use Rattle.node_work.specs.Doings.{Disconnects, GivesBody, GivesFrame, MakesRemove, MakesRemoveBelow, MakesSubscribe, Misses, Removes, RemovesBelow, Sends, is_small}
use Rattle.node_work.specs.Frames.{is_for_node, is_other}
use Rattle.node_work.specs.Held.Bridge.{Believed, Greeted, Gave, Got as GotBy, Took, hello_to}
use Rattle.node_work.specs.Held.Making.{number_at_end, removal, removal_below}
use Rattle.node_work.specs.Held.Sessions.{Begun, Called, Over, takes_disconnect, takes_packet}
use Rattle.node_work.specs.Packets.{moved_packet}
use Rattle.node_work.specs.View.{HeldView}
use Rattle.node_work.specs.Working.{Acting, Doing, Each, If, InTurn, Looks, Returns, Then}
use Rattle.node_clients.specs.Connecting as connecting
use Rattle.node_clients.specs.Ending as ending
use Rattle.node_clients.specs.Moving as moving
use Rattle.node_clients.specs.Passing as passing
use Rattle.node_clients.specs.Subscribing as subscribing
use Rattle.node_clients.specs.Unsubscribing as unsubscribing
use Rattle.broker_node.specs.Bridge as bridge
use Rattle.broker_node.specs.Turns as turns
use Rattle.law_steps.proofs.EachAct.{K, Kind, acting, by_test, by_whether, calls, drops as drops_by, each, finds, in_turn, join, looks, misses, numbered, passes as passes_by, passes_asked as asked_by, queues_all, returns}

-- an event by which a session neither begins a connection nor is told of a close
abbrev pub IsSteady : Event → Type 0
IsSteady (connects q continued room now) = ⊥
IsSteady (closes now) = ⊥
IsSteady loses = ⊥
IsSteady e = Unit {0}

abbrev pub IsGentle : Act → Type 0
IsGentle (Session (Begun client)) = ⊥
IsGentle (Session (Called s)) = IsSteady s.event
IsGentle (Session (Over client)) = ⊥
IsGentle (Connection a) = ⊥
IsGentle Began = ⊥
IsGentle a = Unit {0}

abbrev pub Does : (Option (Unit {0}) → Doing) → Type 0
Does P = K IsGentle (Unit {0}) P

kind : Kind IsGentle
kind = record {
  queued = λ s d at is. subst IsSteady (sym is) tt;
  put = λ id content h. tt;
  laned = λ peer m. tt;
  missed = λ what. tt;
  passed = λ m copies lost routes. tt;
  dropped = tt;
}

pub misses_of : (what : Missed) → Does (Misses what)
misses_of what = misses IsGentle kind what

pub drops : Does passing.Drops
drops = drops_by IsGentle kind

pub drops_if : (b : Bool) → Does (If b passing.Drops (Returns tt))
drops_if b = by_test IsGentle b passing.Drops (Returns tt) drops (returns IsGentle tt)

pub passes : (m : Message) → Does (passing.Passes m)
passes m = passes_by IsGentle kind m

pub passes_asked : (ask : Option Ask) → Does (ending.PassesAsked ask)
passes_asked ask = asked_by IsGentle kind ask

pub calling : (client : List ℕ) (event : ℕ → Event) → ((at : ℕ) → IsSteady (event at)) → K IsGentle Reaction (Calls client event stays)
calling client event steady = calls IsGentle client event stays (λ s at same is. subst IsSteady (sym is) (steady at))

-- ---- operations
makes_subscribe : (entry : Entry) → Does (MakesSubscribe entry)
makes_subscribe entry = numbered IsGentle (λ p h. number_at_end p.id h) (λ p h. Store (Made (subscribe_of p.id entry h.store))) (λ p h. tt)

removes : (client : List ℕ) (to : Option (List ℕ)) → K IsGentle Bool (Removes client to)
removes client to =
    looks IsGentle (λ p h. any_of client to h.store.subscriptions) (λ stands. If stands (Then (MakesRemove client to) (λ _. Returns true)) (Returns false))
    (λ stands. by_test IsGentle stands (Then (MakesRemove client to) (λ _. Returns true)) (Returns false)
    (join IsGentle (MakesRemove client to) (λ _. Returns true) (numbered IsGentle (λ p h. number_at_end p.id h) (λ p h. Store (Made (removal p.id client to h.store))) (λ p h. tt)) (λ _. returns IsGentle true)) (returns IsGentle false))

removes_below : (client : List ℕ) (version : ℕ) → K IsGentle Bool (RemovesBelow client version)
removes_below client version =
    looks IsGentle (λ p h. any_below client version h.store.subscriptions) (λ stands. If stands (Then (MakesRemoveBelow client version) (λ _. Returns true)) (Returns false))
    (λ stands. by_test IsGentle stands (Then (MakesRemoveBelow client version) (λ _. Returns true)) (Returns false)
    (join IsGentle (MakesRemoveBelow client version) (λ _. Returns true) (numbered IsGentle (λ p h. number_at_end p.id h) (λ p h. Store (Made (removal_below p.id client version h.store))) (λ p h. tt)) (λ _. returns IsGentle true)) (returns IsGentle false))

pub removes_own : (client : List ℕ) → K IsGentle Bool (ending.RemovesOwn client)
removes_own client = finds IsGentle (ending.IsAtHome client) (ending.RemovesFor client) (λ node. looks IsGentle (ending.ends_below node) (RemovesBelow client) (removes_below client))

pub evicts : (client : List ℕ) → Does (turns.Evicts client)
evicts client = join IsGentle (Removes client None) (λ _. Returns tt) (removes client None) (λ _. returns IsGentle tt)

-- ---- packets of the node's own
pub sends : (c : ℕ) (packet : Packet) → Does (Sends c packet)
sends c packet = acting IsGentle (λ p h. Out (Send c (written packet))) (λ p h. tt)

pub sends_if : (b : Bool) (c : ℕ) (packet : Packet) → Does (If b (Sends c packet) (Returns tt))
sends_if b c packet = by_test IsGentle b (Sends c packet) (Returns tt) (sends c packet) (returns IsGentle tt)

pub disconnects : (c : ℕ) (client : List ℕ) (code : ℕ) → Does (Disconnects c client code)
disconnects c client code = looks IsGentle (λ p h. takes_disconnect client code h) (λ taken. If taken (Sends c (disconnect code)) (Returns tt)) (λ taken. sends_if taken c (disconnect code))

redirects_by : (c : ℕ) (client : List ℕ) (address : Option (List ℕ)) → Does (moving.RedirectsBy c client address)
redirects_by c client None = returns IsGentle tt
redirects_by c client (Some address) =
    looks IsGentle (λ p h. takes_packet client (moved_packet address) h) (λ taken. If taken (Sends c (moved_packet address)) (Returns tt)) (λ taken. sends_if taken c (moved_packet address))

pub redirects : (c : ℕ) (client : List ℕ) → Does (moving.RedirectsHome c client)
redirects c client = finds IsGentle (ending.IsAtHome client) (moving.RedirectsTo c client) (λ node. looks IsGentle (λ p h. connecting.address_of h node) (moving.RedirectsBy c client) (redirects_by c client))

-- ---- SUBSCRIBE and UNSUBSCRIBE
grants_by : (client : List ℕ) (identifier : ℕ) (f : SubscribeFilter) (stood : Bool) → K IsGentle Granted (subscribing.GrantsBy client identifier f stood)
grants_by client identifier f stood =
    let full = Returns (subscribing.filter_refused 151) in
    let given = subscribing.granted f (identifiers_of identifier) stood in
    let One = subscribing.SubscribesTo client identifier f in
    let one = looks IsGentle (λ p h. h.homes.version) (λ version. MakesSubscribe (subscribing.subscription_entry client f identifier version)) (λ version. makes_subscribe (subscribing.subscription_entry client f identifier version)) in
    looks IsGentle (λ p h. not stood && subscribing.has_most client h.store) (λ is. If is full (Then One (λ _. Returns given)))
    (λ is. by_test IsGentle is full (Then One (λ _. Returns given)) (returns IsGentle (subscribing.filter_refused 151)) (join IsGentle One (λ _. Returns given) one (λ _. returns IsGentle given)))

grants : (client : List ℕ) (identifier : ℕ) (f : SubscribeFilter) → K IsGentle Granted (subscribing.Grants client identifier f)
grants client identifier f =
    by_whether IsGentle (IsFilter f.filter) (Looks (λ p h. subscribing.stands client f.filter h) (subscribing.GrantsBy client identifier f)) (Returns (subscribing.filter_refused 143))
    (looks IsGentle (λ p h. subscribing.stands client f.filter h) (subscribing.GrantsBy client identifier f) (grants_by client identifier f)) (returns IsGentle (subscribing.filter_refused 143))

pub grants_all : (client : List ℕ) (identifier : ℕ) (fs : List SubscribeFilter) → K IsGentle (List Granted) (InTurn (subscribing.Grants client identifier) fs [])
grants_all client identifier fs = in_turn IsGentle (subscribing.Grants client identifier) fs [] (grants client identifier)

offers_one : (client : List ℕ) (offer : Delivery) → Does (subscribing.OffersOne client offer)
offers_one client offer = join IsGentle (Calls client (queues offer) stays) (λ _. Returns tt) (calling client (queues offer) (λ at. tt)) (λ _. returns IsGentle tt)

pub offers : (client : List ℕ) (packet : ℕ) (given : List Granted) → Does (subscribing.Offers client packet given)
offers client packet given =
    finds IsGentle (subscribing.AreOffers given) (subscribing.OffersEach client packet given)
    (λ os. join IsGentle (Acting (λ p h. Acknowledged client packet h.at given os)) (λ _. Each (subscribing.OffersOne client) os) (acting IsGentle (λ p h. Acknowledged client packet h.at given os) (λ p h. tt))
    (λ _. each IsGentle (subscribing.OffersOne client) os (offers_one client)))

unsubscribed : (client text : List ℕ) → K IsGentle ℕ (unsubscribing.Unsubscribed client text)
unsubscribed client text =
    by_whether IsGentle (IsFilter text) (Then (Removes client (Some text)) (λ stood. Returns (cond stood 0 17))) (Returns 143)
    (join IsGentle (Removes client (Some text)) (λ stood. Returns (cond stood 0 17)) (removes client (Some text)) (λ stood. returns IsGentle (cond stood 0 17))) (returns IsGentle 143)

pub unsubscribes_all : (client : List ℕ) (texts : List (List ℕ)) → K IsGentle (List ℕ) (InTurn (unsubscribing.Unsubscribed client) texts [])
unsubscribes_all client texts = in_turn IsGentle (unsubscribing.Unsubscribed client) texts [] (unsubscribed client)

-- ---- frames
gives_frame : (f : BridgeFrame) → Does (GivesFrame f)
gives_frame f = by_test IsGentle (is_small f) (Acting (λ p h. Bridge (Gave f))) (Misses FrameTooLarge) (acting IsGentle (λ p h. Bridge (Gave f)) (λ p h. tt)) (misses_of FrameTooLarge)

gives : (peer : ℕ) (body : HeldView → FrameBody) → Does (GivesBody peer body)
gives peer body = looks IsGentle (λ p h. record { from = p.id; to = peer; body = body h }) GivesFrame gives_frame

pub greets : (peer : ℕ) → Does (bridge.Greets peer)
greets peer =
    looks IsGentle (λ p h. is_other p peer) (λ other. If other (GivesBody peer (hello_to peer)) (Returns tt))
    (λ other. by_test IsGentle other (GivesBody peer (hello_to peer)) (Returns tt) (gives peer (hello_to peer)) (returns IsGentle tt))

gives_state : (peer : ℕ) (s : Option State) → Does (bridge.GivesState peer s)
gives_state peer None = returns IsGentle tt
gives_state peer (Some s) = gives peer (λ h. Delta s)

ships_to : (peer : ℕ) → Does (bridge.ShipsTo peer)
ships_to peer =
    join IsGentle (bridge.ShipsState peer) (λ _. bridge.ShipsMessages peer) (finds IsGentle (bridge.AreShipped peer) (bridge.GivesState peer) (gives_state peer))
    (λ _. looks IsGentle (λ p h. first_frames p.id peer (lane_to h.bridge peer)) (Each GivesFrame) (λ fs. each IsGentle GivesFrame fs gives_frame))

pub ships : (peer : ℕ) → Does (bridge.Ships peer)
ships peer =
    looks IsGentle (λ p h. is_other p peer) (λ other. If other (bridge.ShipsTo peer) (Returns tt)) (λ other. by_test IsGentle other (bridge.ShipsTo peer) (Returns tt) (ships_to peer) (returns IsGentle tt))

ships_more_to : (peer after : ℕ) → Does (bridge.ShipsMoreTo peer after)
ships_more_to peer after =
    join IsGentle (bridge.ShipsState peer) (λ _. bridge.ShipsLater peer after) (finds IsGentle (bridge.AreShipped peer) (bridge.GivesState peer) (gives_state peer))
    (λ _. looks IsGentle (λ p h. frames_after p.id peer after (lane_to h.bridge peer)) (Each GivesFrame) (λ fs. each IsGentle GivesFrame fs gives_frame))

pub ships_more : (peer after : ℕ) → Does (bridge.ShipsMore peer after)
ships_more peer after =
    looks IsGentle (λ p h. is_other p peer) (λ other. If other (bridge.ShipsMoreTo peer after) (Returns tt)) (λ other. by_test IsGentle other (bridge.ShipsMoreTo peer after) (Returns tt) (ships_more_to peer after) (returns IsGentle tt))

takes_copies : (from number : ℕ) (m : Forward) (x : List Copy × ℕ) → Does (passing.TakesCopies from number m x)
takes_copies from number m x =
    join IsGentle (Acting (λ p h. Bridge (Took from number m x.0 x.1))) (λ _. Queues x.0) (acting IsGentle (λ p h. Bridge (Took from number m x.0 x.1)) (λ p h. tt)) (λ _. queues_all IsGentle kind x.0)

takes_next : (from number : ℕ) (m : Forward) → Does (bridge.TakesNext from number m)
takes_next from number m =
    looks IsGentle (λ p h. is_next from number h.bridge) (λ next. If next (passing.TakesForward from number m) (Returns tt))
    (λ next. by_test IsGentle next (passing.TakesForward from number m) (Returns tt) (finds IsGentle (passing.IsHandedOver m) (passing.TakesCopies from number m) (takes_copies from number m)) (returns IsGentle tt))

takes_body : (from : ℕ) (body : FrameBody) → Does (bridge.TakesBody from body)
takes_body from (Hello g) = join IsGentle (Acting (λ p h. Bridge (Greeted from g))) (λ _. bridge.TellsTaken from) (acting IsGentle (λ p h. Bridge (Greeted from g)) (λ p h. tt)) (λ _. gives from (λ h. Know h.store.taken))
takes_body from (Delta s) = join IsGentle (Acting (λ p h. Store (Merged s))) (λ _. bridge.TellsTaken from) (acting IsGentle (λ p h. Store (Merged s)) (λ p h. tt)) (λ _. gives from (λ h. Know h.store.taken))
takes_body from (Know dots) = acting IsGentle (λ p h. Bridge (Believed from dots)) (λ p h. tt)
takes_body from (Carried number m) =
    join IsGentle (bridge.TakesNext from number m) (λ _. GivesBody from (λ h. Got (lane_to h.bridge from).took)) (takes_next from number m) (λ _. gives from (λ h. Got (lane_to h.bridge from).took))
takes_body from (Got number) = acting IsGentle (λ p h. Bridge (GotBy from number)) (λ p h. tt)

hears_frame : (frame : Option BridgeFrame) → Does (bridge.HearsFrame frame)
hears_frame None = misses_of BadFrame
hears_frame (Some frame) =
    looks IsGentle (λ p h. is_for_node p frame) (λ here. If here (bridge.TakesBody frame.from frame.body) (Misses BadFrame))
    (λ here. by_test IsGentle here (bridge.TakesBody frame.from frame.body) (Misses BadFrame) (takes_body frame.from frame.body) (misses_of BadFrame))

pub hears : (bytes : List ℕ) → Does (bridge.Hears bytes)
hears bytes = hears_frame (frame_in bytes)
