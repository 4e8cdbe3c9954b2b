-- What a node does for its clients is determined.
use Rattle.std.proofs.Common.{ℕ, Bool, true, false, cond, List, [], Option, Some, None, length, ◌==◌}
use Rattle.mqtt_message.specs.Identifiers.{identifiers_of}
use Rattle.mqtt_message.specs.declared.delivery.Delivery.{Delivery}
use Rattle.mqtt_message.specs.declared.message.Message.{Message}
use Rattle.mqtt_packets.specs.declared.connect.Connect.{Connect}
use Rattle.mqtt_packets.specs.declared.fault.PacketFault.{PacketFault}
use Rattle.mqtt_packets.specs.declared.packet.Packet.{Packet}
use Rattle.mqtt_packets.specs.declared.packet.Packet.TheVariants as packets
use Rattle.mqtt_packets.specs.declared.subscribe.Subscribe.{Subscribe}
use Rattle.mqtt_packets.specs.declared.subscribe.SubscribeFilter.{SubscribeFilter}
use Rattle.mqtt_packets.specs.declared.unsubscribe.Unsubscribe.{Unsubscribe}
use Rattle.mqtt_packets.specs.Written.{written}
use Rattle.mqtt_sessions.specs.declared.reaction.Ask.{Ask}
use Rattle.mqtt_sessions.specs.declared.reaction.Ask.TheVariants as asks
use Rattle.mqtt_sessions.specs.Answers.{disconnect, fits}
use Rattle.mqtt_sessions.specs.Reaction.{Reaction}
use Rattle.mqtt_sessions.specs.State.{limit_in}
use Rattle.mqtt_topics.specs.Topics.{IsFilter}
use Rattle.bridge_deltas.specs.declared.offer.Offer.{Offer}
use Rattle.bridge_deltas.specs.declared.offer.Offer.TheVariants as offers
use Rattle.bridge_frames.specs.declared.forward.Forward.{Forward}
use Rattle.bridge_routes.specs.declared.plain.PlainCopy.{PlainCopy as Copy}
use Rattle.bridge_routes.specs.declared.destinations.Route.{Route}
use Rattle.bridge_routes.specs.declared.destinations.Route.TheVariants as routes
use Rattle.mqtt_message.specs.Expiry.{IsBefore}
use Rattle.replica_store.specs.Making.{put_of, subscribe_of}
use Rattle.law_sessions.specs.Runs.{answers, closes, connects, finishes, queues, rooms, takes, ticks}
use Rattle.session_table.specs.Calls.{leaves, moves, stays}
use Rattle.node_work.specs.declared.granted.Granted.{Granted}
use Rattle.node_work.specs.declared.outcome.Output.TheVariants.{Send, Close}
use Rattle.node_work.specs.Acts.{Acknowledged, Bridge, Connection, Dropped, Made as MadeAct, Named, Out, Passed, Session, Store}
use Rattle.node_work.specs.Calling.{Calls, Queues, QueuesOne}
use Rattle.node_work.specs.declared.counts.Missed.{Missed}
use Rattle.node_work.specs.declared.counts.Missed.TheVariants.{LaneFull}
use Rattle.node_work.specs.Doings.{Disconnects, MakesPut, MakesRemove, MakesRemoveBelow, Misses, PutsInLaneBy, Redirects, Removes, RemovesBelow, Routes, RoutesBy, Sends}
use Rattle.node_work.specs.Held.Bridge.{Left_out, Put, Took}
use Rattle.node_work.specs.Held.Connections.{Accepted, Closed, Fed, Roomed, client_at}
use Rattle.node_work.specs.Held.Feeding.{cut_of}
use Rattle.node_work.specs.Held.Making.{number_at_end, put_at_end, removal, removal_below}
use Rattle.node_work.specs.Held.Sessions.{Begun, Over}
use Rattle.node_work.specs.Packets.{moved_packet, refused_packet}
use Rattle.node_work.specs.Passing.{content_given, turn_at_end}
use Rattle.node_work.specs.View.{ConnectionView}
use Rattle.node_work.specs.Working.{Each, Returns, Looks, FindsWhere, Then}
use Rattle.node_clients.specs.Connecting.{Accepts, AcceptsAs, BeginsSession, Cleans, ComesHome, Connects, ConnectsAt, ConnectsBy, Joins, JoinsBy, JoinsIn, Names, NamesBy, Refers, RefusesConnect, SendsIf, TakesOver, TakesOverFrom, WillIsNamed, connect_refusal}
use Rattle.node_clients.specs.Ending.{ClosesConnection, ClosesAfter, ClosesBy, ClosesFor, DoesDueOf, EndsSession, Finishes, FollowsReaction, IsAtHome, Parts, PassesAsked, RemovesFor, RemovesOwn, Ticks, TicksIf}
use Rattle.node_clients.specs.Moving.{MovesAway, PartsOn, PartsWays, RedirectsBy, RedirectsHome, RedirectsTo}
use Rattle.node_clients.specs.Naming.{IsNextNumber}
use Rattle.node_clients.specs.Passing.{AreMade, Copies, CopiesAt, Drops, IsHandedOver, Made, MakesCopies, Passes, PassesWill, Retains, TakesCopies, TakesForward}
use Rattle.node_clients.specs.Pieces.{AnswersPacket, AnswersPacketBy, AnswersIfOpen, Breaks, BreaksBy, BreaksIfOpen, Feeds, AnswersFirstPacket, Leaves, LeavesBy, PartsBy, Piece, PieceAt, SendsDisconnect, SendsRefusal, Shuts, TakesPackets, TellsBy, connack_code, disconnect_code}
use Rattle.node_clients.specs.Rooms.{GivesRoom, MakesRoom, MakesRoomBy}
use Rattle.node_clients.specs.Serving.{DoesAsked, DoesReaction, ServesPacket, ServesIn, SubscribesBy, UnsubscribesBy, is_dropped}
use Rattle.node_clients.specs.Subscribing.{AreOffers, Grants, GrantsBy, Offers, OffersAfter, OffersEach, OffersOne, ServesSubscribe, SubscribesTo, subscription_entry, granted, identifier_of, granted_reasons, filter_refused}
use Rattle.node_clients.specs.Subscribing as subscribing
use Rattle.node_clients.specs.Unsubscribing.{Unsubscribed, ServesUnsubscribe}
use Rattle.node_clients.specs.Unsubscribing as unsubscribing
use Rattle.node_clients.proofs.Determined.{Determined, returns_determined, stops_determined, acting_determined, numbered_determined, looks_determined, finds_determined, if_determined, where_determined, then_determined, in_turn_determined, each_determined, calls_determined, copies_alone, handed_alone, home_is_alone, number_alone, offers_alone}

-- ---- of one act or two

sends_determined : (c : ℕ) (packet : Packet) → Determined (Sends c packet)
sends_determined c packet = acting_determined (λ p h. Out (Send c (written packet)))

disconnects_determined : (c : ℕ) (client : List ℕ) (code : ℕ) → Determined (Disconnects c client code)
disconnects_determined c client code =
    looks_determined _ _ (λ taken. if_determined taken (Sends c (disconnect code)) (Returns tt) (sends_determined c (disconnect code)) (returns_determined tt))

redirects_determined : (c : ℕ) (client address : List ℕ) → Determined (Redirects c client address)
redirects_determined c client address =
    looks_determined _ _ (λ taken. if_determined taken (Sends c (moved_packet address)) (Returns tt) (sends_determined c (moved_packet address)) (returns_determined tt))

pub removes_determined : (client : List ℕ) (to : Option (List ℕ)) → Determined (Removes client to)
removes_determined client to =
    looks_determined _ _
    (λ stands. if_determined stands (Then (MakesRemove client to) (λ _. Returns true)) (Returns false)
    (then_determined (MakesRemove client to) (λ _. Returns true) (numbered_determined (λ p h. number_at_end p.id h) (λ p h. Store (MadeAct (removal p.id client to h.store)))) (λ _. returns_determined true)) (returns_determined false))

-- ---- messages

retains_determined : (m : Message) → Determined (Retains m)
retains_determined m =
    if_determined m.retain (MakesPut (content_given m)) (Returns tt)
    (numbered_determined (λ p h. put_at_end p.id h) (λ p h. Store (MadeAct (put_of p.id (content_given m) h.store)))) (returns_determined tt)

queues_one_determined : (x : Copy) → Determined (QueuesOne x)
queues_one_determined x = then_determined _ _ (calls_determined x.client (queues x.delivery) stays) (λ _. returns_determined tt)

queues_determined : (copies : List Copy) → Determined (Queues copies)
queues_determined copies = each_determined QueuesOne queues_one_determined copies

pub misses_determined : (what : Missed) → Determined (Misses what)
misses_determined what = acting_determined (λ p h. Bridge (Left_out what))

puts_by_determined : (peer : ℕ) (m : Forward) (offer : Offer) → Determined (PutsInLaneBy peer m offer)
puts_by_determined peer m (offers.Queued n) = acting_determined (λ p h. Bridge (Put peer m))
puts_by_determined peer m offers.Full = misses_determined LaneFull
puts_by_determined peer m offers.AtEnd = stops_determined

routes_by_determined : (peer : ℕ) (route : Route) → Determined (RoutesBy peer route)
routes_by_determined peer routes.Nothing = returns_determined tt
routes_by_determined peer (routes.Lane m) = looks_determined _ (PutsInLaneBy peer m) (puts_by_determined peer m)
routes_by_determined peer routes.TooLarge = misses_determined LaneFull

makes_copies_determined : (m : Message) (x : Made) → Determined (MakesCopies m x)
makes_copies_determined m x =
    then_determined _ (λ _. Then (Queues x.0) (λ _. Each Routes x.1.1)) (numbered_determined turn_at_end (λ p h. Passed m x.0 x.1.0 x.1.1))
    (λ _. then_determined (Queues x.0) (λ _. Each Routes x.1.1) (queues_determined x.0) (λ _. each_determined Routes (λ y. routes_by_determined y.0 y.1) x.1.1))

copies_at_determined : (m : Message) (at : ℕ) → Determined (CopiesAt m at)
copies_at_determined m at =
    where_determined (IsBefore at m.deadline) (Copies m) (Returns tt) (finds_determined (AreMade m) (MakesCopies m) (copies_alone m) (makes_copies_determined m)) (returns_determined tt)

passes_determined : (m : Message) → Determined (Passes m)
passes_determined m = then_determined (Retains m) _ (retains_determined m) (λ _. looks_determined _ _ (copies_at_determined m))

drops_determined : Determined Drops
drops_determined = acting_determined (λ p h. Dropped)

passes_will_determined : (m : Message) → Determined (PassesWill m)
passes_will_determined m = looks_determined _ _ (λ lacks. if_determined lacks Drops (Passes m) drops_determined (passes_determined m))

takes_copies_determined : (from number : ℕ) (m : Forward) (x : List Copy × ℕ) → Determined (TakesCopies from number m x)
takes_copies_determined from number m x = then_determined _ (λ _. Queues x.0) (acting_determined (λ p h. Bridge (Took from number m x.0 x.1))) (λ _. queues_determined x.0)

pub takes_forward_determined : (from number : ℕ) (m : Forward) → Determined (TakesForward from number m)
takes_forward_determined from number m = finds_determined (IsHandedOver m) (TakesCopies from number m) (handed_alone m) (takes_copies_determined from number m)

-- ---- how sessions and connections end

passes_asked_determined : (ask : Option Ask) → Determined (PassesAsked ask)
passes_asked_determined None = returns_determined tt
passes_asked_determined (Some (asks.Pass m)) = passes_will_determined m
passes_asked_determined (Some asks.Subscribe) = returns_determined tt
passes_asked_determined (Some asks.Unsubscribe) = returns_determined tt

removes_below_determined : (client : List ℕ) (version : ℕ) → Determined (RemovesBelow client version)
removes_below_determined client version =
    looks_determined _ _
    (λ stands. if_determined stands (Then (MakesRemoveBelow client version) (λ _. Returns true)) (Returns false)
    (then_determined (MakesRemoveBelow client version) (λ _. Returns true) (numbered_determined (λ p h. number_at_end p.id h) (λ p h. Store (MadeAct (removal_below p.id client version h.store)))) (λ _. returns_determined true)) (returns_determined false))

removes_own_determined : (client : List ℕ) → Determined (RemovesOwn client)
removes_own_determined client = finds_determined (IsAtHome client) (RemovesFor client) (home_is_alone client) (λ node. looks_determined _ _ (removes_below_determined client))

ends_session_determined : (client : List ℕ) → Determined (EndsSession client)
ends_session_determined client = then_determined (RemovesOwn client) _ (removes_own_determined client) (λ _. acting_determined (λ p h. Session (Over client)))

follows_determined : (client : List ℕ) (r : Reaction) → Determined (FollowsReaction client r)
follows_determined client r =
    then_determined (PassesAsked r.ask) _ (passes_asked_determined r.ask) (λ _. if_determined r.over (EndsSession client) (Returns tt) (ends_session_determined client) (returns_determined tt))

pub ticks_determined : (client : List ℕ) → Determined (Ticks client)
ticks_determined client = then_determined _ (FollowsReaction client) (calls_determined client ticks stays) (follows_determined client)

finishes_determined : (client : List ℕ) → Determined (Finishes client)
finishes_determined client = then_determined _ (FollowsReaction client) (calls_determined client finishes stays) (follows_determined client)

ticks_if_determined : (due : Bool) (client : List ℕ) → Determined (TicksIf due client)
ticks_if_determined due client = if_determined due (Ticks client) (Returns tt) (ticks_determined client) (returns_determined tt)

does_due_of_determined : (client : List ℕ) → Determined (DoesDueOf client)
does_due_of_determined client =
    then_determined _ _ (looks_determined _ (λ due. TicksIf due client) (λ due. ticks_if_determined due client)) (λ _. looks_determined _ (λ due. TicksIf due client) (λ due. ticks_if_determined due client))

parts_determined : (client : List ℕ) → Determined (Parts client)
parts_determined client = then_determined _ (λ _. DoesDueOf client) (calls_determined client closes leaves) (λ _. does_due_of_determined client)

pub closes_determined : (c : ℕ) → Determined (ClosesConnection c)
closes_determined c = then_determined _ _ (acting_determined (λ p h. Connection (Closed c))) (λ _. acting_determined (λ p h. Out (Close c)))

closes_for_determined : (c : ℕ) (client : List ℕ) → Determined (ClosesFor c client)
closes_for_determined c client = then_determined (ClosesConnection c) (λ _. Parts client) (closes_determined c) (λ _. parts_determined client)

closes_by_determined : (c : ℕ) (client : Option (List ℕ)) → Determined (ClosesBy c client)
closes_by_determined c None = closes_determined c
closes_by_determined c (Some client) = closes_for_determined c client

closes_after_determined : (end : Option ℕ) (c : ℕ) (client : List ℕ) → Determined (ClosesAfter end c client)
closes_after_determined None c client = returns_determined tt
closes_after_determined (Some code) c client = closes_for_determined c client

-- ---- SUBSCRIBE and UNSUBSCRIBE

grants_by_determined : (client : List ℕ) (identifier : ℕ) (f : SubscribeFilter) (stood : Bool) → Determined (GrantsBy client identifier f stood)
grants_by_determined client identifier f stood =
    let g = granted f (identifiers_of identifier) stood in
    looks_determined _ _
    (λ full. if_determined full (Returns (filter_refused 151)) (Then (SubscribesTo client identifier f) (λ _. Returns g)) (returns_determined (filter_refused 151))
    (then_determined (SubscribesTo client identifier f) (λ _. Returns g) (looks_determined _ _ (λ version. numbered_determined (λ p h. number_at_end p.id h) (λ p h. Store (MadeAct (subscribe_of p.id (subscription_entry client f identifier version) h.store))))) (λ _. returns_determined g)))

grants_determined : (client : List ℕ) (identifier : ℕ) (f : SubscribeFilter) → Determined (Grants client identifier f)
grants_determined client identifier f =
    where_determined (IsFilter f.filter) _ (Returns (filter_refused 143)) (looks_determined _ (GrantsBy client identifier f) (grants_by_determined client identifier f)) (returns_determined (filter_refused 143))

offers_one_determined : (client : List ℕ) (offer : Delivery) → Determined (OffersOne client offer)
offers_one_determined client offer = then_determined _ _ (calls_determined client (queues offer) stays) (λ _. returns_determined tt)

offers_each_determined : (client : List ℕ) (packet : ℕ) (grants : List Granted) (offers : List Delivery) → Determined (OffersEach client packet grants offers)
offers_each_determined client packet grants offers =
    then_determined _ _ (acting_determined (λ p h. Acknowledged client packet h.at grants offers)) (λ _. each_determined (OffersOne client) (offers_one_determined client) offers)

offers_after_determined : (end : Option ℕ) (c : ℕ) (client : List ℕ) (packet : ℕ) (grants : List Granted) → Determined (OffersAfter end c client packet grants)
offers_after_determined None c client packet grants = finds_determined (AreOffers grants) (OffersEach client packet grants) (offers_alone grants) (offers_each_determined client packet grants)
offers_after_determined (Some code) c client packet grants = closes_for_determined c client

suback_determined : (c : ℕ) (client : List ℕ) (packet : ℕ) (grants : List Granted) → Determined (subscribing.SendsSuback c client packet grants)
suback_determined c client packet grants =
    then_determined _ (λ r. OffersAfter r.end c client packet grants) (calls_determined client (λ at. answers packet (granted_reasons grants)) stays) (λ r. offers_after_determined r.end c client packet grants)

subscribes_determined : (c : ℕ) (client : List ℕ) (p : Subscribe) → Determined (ServesSubscribe c client p)
subscribes_determined c client p =
    then_determined _ (subscribing.SendsSuback c client p.identifier) (in_turn_determined (Grants client (identifier_of p)) (grants_determined client (identifier_of p)) p.filters []) (suback_determined c client p.identifier)

unsubscribed_determined : (client text : List ℕ) → Determined (Unsubscribed client text)
unsubscribed_determined client text =
    where_determined (IsFilter text) _ (Returns 143) (then_determined (Removes client (Some text)) (λ stood. Returns (cond stood 0 17)) (removes_determined client (Some text)) (λ stood. returns_determined (cond stood 0 17))) (returns_determined 143)

unsuback_determined : (c : ℕ) (client : List ℕ) (packet : ℕ) (codes : List ℕ) → Determined (unsubscribing.SendsUnsuback c client packet codes)
unsuback_determined c client packet codes =
    then_determined _ (λ r. ClosesAfter r.end c client) (calls_determined client (λ at. answers packet codes) stays) (λ r. closes_after_determined r.end c client)

unsubscribes_determined : (c : ℕ) (client : List ℕ) (p : Unsubscribe) → Determined (ServesUnsubscribe c client p)
unsubscribes_determined c client p =
    then_determined _ (unsubscribing.SendsUnsuback c client p.identifier) (in_turn_determined (Unsubscribed client) (unsubscribed_determined client) p.filters []) (unsuback_determined c client p.identifier)

-- ---- the packets of an accepted client

subscribes_by_determined : (c : ℕ) (client : List ℕ) (p : Packet) → Determined (SubscribesBy c client p)
subscribes_by_determined c client (packets.Subscribe p) = subscribes_determined c client p
subscribes_by_determined c client (packets.Connect p) = returns_determined tt
subscribes_by_determined c client (packets.Connack p) = returns_determined tt
subscribes_by_determined c client (packets.Publish p) = returns_determined tt
subscribes_by_determined c client (packets.Puback p) = returns_determined tt
subscribes_by_determined c client (packets.Pubrec p) = returns_determined tt
subscribes_by_determined c client (packets.Pubrel p) = returns_determined tt
subscribes_by_determined c client (packets.Pubcomp p) = returns_determined tt
subscribes_by_determined c client (packets.Suback p) = returns_determined tt
subscribes_by_determined c client (packets.Unsubscribe p) = returns_determined tt
subscribes_by_determined c client (packets.Unsuback p) = returns_determined tt
subscribes_by_determined c client packets.Pingreq = returns_determined tt
subscribes_by_determined c client packets.Pingresp = returns_determined tt
subscribes_by_determined c client (packets.Disconnect p) = returns_determined tt
subscribes_by_determined c client (packets.Auth p) = returns_determined tt

unsubscribes_by_determined : (c : ℕ) (client : List ℕ) (p : Packet) → Determined (UnsubscribesBy c client p)
unsubscribes_by_determined c client (packets.Unsubscribe p) = unsubscribes_determined c client p
unsubscribes_by_determined c client (packets.Connect p) = returns_determined tt
unsubscribes_by_determined c client (packets.Connack p) = returns_determined tt
unsubscribes_by_determined c client (packets.Publish p) = returns_determined tt
unsubscribes_by_determined c client (packets.Puback p) = returns_determined tt
unsubscribes_by_determined c client (packets.Pubrec p) = returns_determined tt
unsubscribes_by_determined c client (packets.Pubrel p) = returns_determined tt
unsubscribes_by_determined c client (packets.Pubcomp p) = returns_determined tt
unsubscribes_by_determined c client (packets.Subscribe p) = returns_determined tt
unsubscribes_by_determined c client (packets.Suback p) = returns_determined tt
unsubscribes_by_determined c client (packets.Unsuback p) = returns_determined tt
unsubscribes_by_determined c client packets.Pingreq = returns_determined tt
unsubscribes_by_determined c client packets.Pingresp = returns_determined tt
unsubscribes_by_determined c client (packets.Disconnect p) = returns_determined tt
unsubscribes_by_determined c client (packets.Auth p) = returns_determined tt

does_asked_determined : (ask : Option Ask) (c : ℕ) (client : List ℕ) (p : Packet) (room : Bool) (end : Option ℕ) → Determined (DoesAsked ask c client p room end)
does_asked_determined None c client p room end = if_determined (is_dropped p room end) Drops (Returns tt) drops_determined (returns_determined tt)
does_asked_determined (Some (asks.Pass m)) c client p room end = passes_determined m
does_asked_determined (Some asks.Subscribe) c client p room end = subscribes_by_determined c client p
does_asked_determined (Some asks.Unsubscribe) c client p room end = unsubscribes_by_determined c client p

does_reaction_determined : (c : ℕ) (client : List ℕ) (p : Packet) (room : Bool) (r : Reaction) → Determined (DoesReaction c client p room r)
does_reaction_determined c client p room r =
    then_determined (DoesAsked r.ask c client p room r.end) (λ _. ClosesAfter r.end c client) (does_asked_determined r.ask c client p room r.end) (λ _. closes_after_determined r.end c client)

serves_in_determined : (c : ℕ) (client : List ℕ) (p : Packet) (room : Bool) → Determined (ServesIn c client p room)
serves_in_determined c client p room = then_determined _ (DoesReaction c client p room) (calls_determined client (λ at. takes p at room) stays) (does_reaction_determined c client p room)

serves_determined : (c : ℕ) (client : List ℕ) (p : Packet) → Determined (ServesPacket c client p)
serves_determined c client p = looks_determined _ (ServesIn c client p) (serves_in_determined c client p)

-- ---- CONNECT

refuses_determined : (c : ℕ) (p : Connect) (code : ℕ) (reference : Option (List ℕ)) → Determined (RefusesConnect c p code reference)
refuses_determined c p code reference =
    let packet = refused_packet code reference in
    let fitting = fits (limit_in p.properties) packet in
    then_determined (SendsIf fitting c packet) (λ _. ClosesConnection c) (if_determined fitting (Sends c packet) (Returns tt) (sends_determined c packet) (returns_determined tt)) (λ _. closes_determined c)

takes_over_from_determined : (client : List ℕ) (older : Option ℕ) → Determined (TakesOverFrom client older)
takes_over_from_determined client None = returns_determined tt
takes_over_from_determined client (Some older) = then_determined (Disconnects older client 142) (λ _. ClosesFor older client) (disconnects_determined older client 142) (λ _. closes_for_determined older client)

cleans_determined : (clean : Bool) (client : List ℕ) → Determined (Cleans clean client)
cleans_determined false client = returns_determined tt
cleans_determined true client = looks_determined _ _ (λ has. if_determined has (Finishes client) (Returns tt) (finishes_determined client) (returns_determined tt))

joins_by_determined : (has : Bool) (c : ℕ) (client : List ℕ) (p : Connect) (room : Option ℕ) → Determined (JoinsBy has c client p room)
joins_by_determined true c client p room = calls_determined client (connects p true room) (moves c)
joins_by_determined false c client p room =
    then_determined _ (λ _. Calls client (connects p false room) (moves c)) (acting_determined (λ place h. Session (Begun client))) (λ _. calls_determined client (connects p false room) (moves c))

joins_determined : (c : ℕ) (client : List ℕ) (p : Connect) → Determined (Joins c client p)
joins_determined c client p = looks_determined _ (JoinsIn c client p) (λ room. looks_determined _ (λ has. JoinsBy has c client p room) (λ has. joins_by_determined has c client p room))

begins_determined : (c : ℕ) (client : List ℕ) (p : Connect) → Determined (BeginsSession c client p)
begins_determined c client p =
    then_determined _ (λ _. Then (Joins c client p) (λ r. ClosesAfter r.end c client)) (acting_determined (λ place h. Connection (Accepted c client)))
    (λ _. then_determined (Joins c client p) (λ r. ClosesAfter r.end c client) (joins_determined c client p) (λ r. closes_after_determined r.end c client))

accepts_determined : (c : ℕ) (p : Connect) (client : List ℕ) → Determined (Accepts c p client)
accepts_determined c p client =
    then_determined (TakesOver client) (λ _. Then (Cleans p.clean_start client) (λ _. BeginsSession c client p)) (looks_determined _ (TakesOverFrom client) (takes_over_from_determined client))
    (λ _. then_determined (Cleans p.clean_start client) (λ _. BeginsSession c client p) (cleans_determined p.clean_start client) (λ _. begins_determined c client p))

accepts_as_determined : (c : ℕ) (p : Connect) (client : List ℕ) → Determined (AcceptsAs c p client)
accepts_as_determined c p client = where_determined (WillIsNamed p.will) (Accepts c p client) (RefusesConnect c p 144 None) (accepts_determined c p client) (refuses_determined c p 144 None)

names_by_determined : (c : ℕ) (p : Connect) (number : Option ℕ) → Determined (NamesBy c p number)
names_by_determined c p None = stops_determined
names_by_determined c p (Some number) = then_determined _ _ (acting_determined (λ place h. Named number)) (λ _. looks_determined _ (Accepts c p) (accepts_determined c p))

names_determined : (c : ℕ) (p : Connect) → Determined (Names c p)
names_determined c p =
    where_determined (WillIsNamed p.will) (FindsWhere IsNextNumber (NamesBy c p)) (RefusesConnect c p 144 None) (finds_determined IsNextNumber (NamesBy c p) number_alone (names_by_determined c p)) (refuses_determined c p 144 None)

comes_home_determined : (c : ℕ) (p : Connect) (node : ℕ) → Determined (ComesHome c p node)
comes_home_determined c p node =
    looks_determined _ _
    (λ here. if_determined here (AcceptsAs c p p.client) (Refers c p node) (accepts_as_determined c p p.client) (looks_determined _ (λ reference. RefusesConnect c p 156 reference) (refuses_determined c p 156)))

connects_at_determined : (unnamed : Bool) (c : ℕ) (p : Connect) → Determined (ConnectsAt unnamed c p)
connects_at_determined true c p = names_determined c p
connects_at_determined false c p = finds_determined (IsAtHome p.client) (ComesHome c p) (home_is_alone p.client) (comes_home_determined c p)

connects_by_determined : (refused : Option ℕ) (c : ℕ) (p : Connect) → Determined (ConnectsBy refused c p)
connects_by_determined (Some code) c p = refuses_determined c p code None
connects_by_determined None c p = connects_at_determined (length p.client == 0) c p

connects_determined : (c : ℕ) (p : Connect) → Determined (Connects c p)
connects_determined c p = connects_by_determined (connect_refusal p) c p

-- ---- pieces

first_determined : (c : ℕ) (p : Packet) → Determined (AnswersFirstPacket c p)
first_determined c (packets.Connect p) = connects_determined c p
first_determined c (packets.Connack p) = closes_determined c
first_determined c (packets.Publish p) = closes_determined c
first_determined c (packets.Puback p) = closes_determined c
first_determined c (packets.Pubrec p) = closes_determined c
first_determined c (packets.Pubrel p) = closes_determined c
first_determined c (packets.Pubcomp p) = closes_determined c
first_determined c (packets.Subscribe p) = closes_determined c
first_determined c (packets.Suback p) = closes_determined c
first_determined c (packets.Unsubscribe p) = closes_determined c
first_determined c (packets.Unsuback p) = closes_determined c
first_determined c packets.Pingreq = closes_determined c
first_determined c packets.Pingresp = closes_determined c
first_determined c (packets.Disconnect p) = closes_determined c
first_determined c (packets.Auth p) = closes_determined c

answers_by_determined : (c : ℕ) (p : Packet) (client : Option (List ℕ)) → Determined (AnswersPacketBy c p client)
answers_by_determined c p None = first_determined c p
answers_by_determined c p (Some client) = serves_determined c client p

answers_if_open_determined : (c : ℕ) (p : Packet) → Determined (AnswersIfOpen c p)
answers_if_open_determined c p =
    looks_determined _ _ (λ is_there. if_determined is_there (AnswersPacket c p) (Returns tt) (looks_determined _ (AnswersPacketBy c p) (answers_by_determined c p)) (returns_determined tt))

sends_refusal_determined : (c : ℕ) (code : Option ℕ) → Determined (SendsRefusal c code)
sends_refusal_determined c None x y p h xs ys sound a b = absurd a
sends_refusal_determined c (Some code) x y p h xs ys sound a b = sends_determined c (refused_packet code None) x y p h xs ys sound a b

sends_disconnect_determined : (c : ℕ) (client : List ℕ) (code : Option ℕ) → Determined (SendsDisconnect c client code)
sends_disconnect_determined c client None x y p h xs ys sound a b = absurd a
sends_disconnect_determined c client (Some code) x y p h xs ys sound a b = disconnects_determined c client code x y p h xs ys sound a b

tells_by_determined : (c : ℕ) (fault : PacketFault) (client : Option (List ℕ)) → Determined (TellsBy c fault client)
tells_by_determined c fault None =
    let code = connack_code fault in
    looks_determined _ _ (λ connects. if_determined connects (SendsRefusal c code) (Returns tt) (sends_refusal_determined c code) (returns_determined tt))
tells_by_determined c fault (Some client) = sends_disconnect_determined c client (disconnect_code fault)

breaks_by_determined : (c : ℕ) (fault : PacketFault) (client : Option (List ℕ)) → Determined (BreaksBy c fault client)
breaks_by_determined c fault client = then_determined (TellsBy c fault client) (λ _. ClosesBy c client) (tells_by_determined c fault client) (λ _. closes_by_determined c client)

breaks_if_open_determined : (c : ℕ) (fault : Option PacketFault) → Determined (BreaksIfOpen c fault)
breaks_if_open_determined c None = returns_determined tt
breaks_if_open_determined c (Some fault) =
    looks_determined _ _ (λ is_there. if_determined is_there (Breaks c fault) (Returns tt) (looks_determined _ (BreaksBy c fault) (breaks_by_determined c fault)) (returns_determined tt))

takes_determined : (c : ℕ) (ps : List Packet) (fault : Option PacketFault) → Determined (TakesPackets c ps fault)
takes_determined c ps fault = then_determined _ (λ _. BreaksIfOpen c fault) (each_determined (AnswersIfOpen c) (answers_if_open_determined c) ps) (λ _. breaks_if_open_determined c fault)

feeds_determined : (c : ℕ) (piece : List ℕ) (found : ConnectionView) → Determined (Feeds c piece found)
feeds_determined c piece found =
    let cut = cut_of found.stream piece in
    then_determined _ (λ _. TakesPackets c cut.packets cut.fault) (acting_determined (λ p h. Connection (Fed c piece))) (λ _. takes_determined c cut.packets cut.fault)

piece_at_determined : (c : ℕ) (piece : List ℕ) (found : Option ConnectionView) → Determined (PieceAt c piece found)
piece_at_determined c piece None = returns_determined tt
piece_at_determined c piece (Some found) =
    if_determined found.stream.failed (Shuts c) (Feeds c piece found) (looks_determined _ (ClosesBy c) (closes_by_determined c)) (feeds_determined c piece found)

pub piece_determined : (c : ℕ) (piece : List ℕ) → Determined (Piece c piece)
piece_determined c piece = looks_determined _ (PieceAt c piece) (piece_at_determined c piece)

parts_by_determined : (client : Option (List ℕ)) → Determined (PartsBy client)
parts_by_determined None = returns_determined tt
parts_by_determined (Some client) = parts_determined client

leaves_by_determined : (c : ℕ) (client : Option (List ℕ)) → Determined (LeavesBy c client)
leaves_by_determined c client = then_determined _ (λ _. PartsBy client) (acting_determined (λ p h. Connection (Closed c))) (λ _. parts_by_determined client)

pub leaves_determined : (c : ℕ) → Determined (Leaves c)
leaves_determined c =
    looks_determined _ _
    (λ is_there. if_determined is_there (Looks (λ p h. client_at c h) (LeavesBy c)) (Returns tt) (looks_determined _ (LeavesBy c) (leaves_by_determined c)) (returns_determined tt))

-- ---- room

gives_room_determined : (bytes : ℕ) (client : List ℕ) → Determined (GivesRoom bytes client)
gives_room_determined bytes client = then_determined _ (λ _. Returns tt) (calls_determined client (rooms bytes) stays) (λ _. returns_determined tt)

makes_room_by_determined : (c bytes : ℕ) (client : Option (List ℕ)) → Determined (MakesRoomBy c bytes client)
makes_room_by_determined c bytes None = acting_determined (λ p h. Connection (Roomed c bytes))
makes_room_by_determined c bytes (Some client) = gives_room_determined bytes client

pub makes_room_determined : (c bytes : ℕ) → Determined (MakesRoom c bytes)
makes_room_determined c bytes =
    looks_determined _ _
    (λ is_there. if_determined is_there (Looks (λ p h. client_at c h) (MakesRoomBy c bytes)) (Returns tt) (looks_determined _ (MakesRoomBy c bytes) (makes_room_by_determined c bytes)) (returns_determined tt))

-- ---- a client goes whose home is elsewhere

redirects_by_determined : (c : ℕ) (client : List ℕ) (address : Option (List ℕ)) → Determined (RedirectsBy c client address)
redirects_by_determined c client None = returns_determined tt
redirects_by_determined c client (Some address) = redirects_determined c client address

redirects_home_determined : (c : ℕ) (client : List ℕ) → Determined (RedirectsHome c client)
redirects_home_determined c client = finds_determined (IsAtHome client) (RedirectsTo c client) (home_is_alone client) (λ node. looks_determined _ (RedirectsBy c client) (redirects_by_determined c client))

parts_on_determined : (client : List ℕ) (on : Option ℕ) → Determined (PartsOn client on)
parts_on_determined client None = returns_determined tt
parts_on_determined client (Some c) = then_determined (RedirectsHome c client) (λ _. ClosesFor c client) (redirects_home_determined c client) (λ _. closes_for_determined c client)

pub moves_away_determined : (client : List ℕ) → Determined (MovesAway client)
moves_away_determined client = then_determined (PartsWays client) (λ _. Finishes client) (looks_determined _ (PartsOn client) (parts_on_determined client)) (λ _. finishes_determined client)
