-- What a node does for its clients, below the packets of an accepted client.
use Rattle.mqtt_packets.specs.declared.packet.Packet.TheVariants as packets
use Rattle.mqtt_packets.specs.declared.unsubscribe.Unsubscribe.{Unsubscribe}
use Rattle.mqtt_packets.specs.declared.subscribe.Subscribe.{Subscribe}
use Rattle.session_table.specs.Seats.{Seat}
use Rattle.mqtt_packets.specs.Written.{written}
use Rattle.node_work.specs.declared.outcome.Output.TheVariants.{Send}
use Rattle.node_work.specs.View.{Place, HeldView}
use Rattle.std.proofs.Common.{ℕ, ◌==◌, Bool, true, false, not, ◌&&◌, cond, List, Option, Some, None, ◌≡◌, [], ◌∷◌, sym, subst, refl}
use Rattle.mqtt_packets.specs.declared.connect.Connect.{Connect}
use Rattle.mqtt_packets.specs.declared.packet.Packet.{Packet}
use Rattle.mqtt_packets.specs.declared.subscribe.SubscribeFilter.{SubscribeFilter}
use Rattle.mqtt_message.specs.declared.delivery.Delivery.{Delivery}
use Rattle.mqtt_message.specs.declared.message.Message.{Message}
use Rattle.mqtt_message.specs.Expiry.{IsBefore}
use Rattle.mqtt_message.specs.Identifiers.{identifiers_of}
use Rattle.mqtt_sessions.specs.declared.reaction.Ask.{Ask}
use Rattle.mqtt_sessions.specs.declared.reaction.Ask.TheVariants as asks
use Rattle.mqtt_sessions.specs.Answers.{disconnect, fits}
use Rattle.mqtt_sessions.specs.Reaction.{Reaction}
use Rattle.mqtt_sessions.specs.State.{limit_in}
use Rattle.mqtt_topics.specs.Topics.{IsFilter}
use Rattle.bridge_deltas.specs.declared.offer.Offer.{Offer}
use Rattle.bridge_deltas.specs.declared.offer.Offer.TheVariants.{Queued, Full, AtEnd}
use Rattle.bridge_frames.specs.declared.forward.Forward.{Forward}
use Rattle.bridge_routes.specs.declared.plain.PlainCopy.{PlainCopy as Copy}
use Rattle.bridge_routes.specs.declared.destinations.Route.{Route}
use Rattle.bridge_routes.specs.declared.destinations.Route.TheVariants.{Nothing, Lane, TooLarge}
use Rattle.node_bridge.specs.View.{offer_to}
use Rattle.replica_store.specs.Making.{subscribe_of}
use Rattle.law_sessions.specs.Runs.{Event, connects, queues, takes, closes, ticks, finishes, answers}
use Rattle.session_table.specs.Calls.{stays, leaves, moves}
use Rattle.node_work.specs.declared.granted.Granted.{Granted}
use Rattle.node_work.specs.declared.counts.Missed.{Missed}
use Rattle.node_work.specs.declared.counts.Missed.TheVariants.{LaneFull}
use Rattle.node_work.specs.Acts.{Store, Session, Acknowledged, Made, Act, Bridge, Out}
use Rattle.node_work.specs.Calling.{Calls, Queues, QueuesOne, CallsAt}
use Rattle.node_work.specs.Doings.{MakesSubscribe, MakesRemove, MakesRemoveBelow, Removes, RemovesBelow, Sends, Disconnects, Redirects, Misses, PutsInLaneBy, RoutesBy, Routes}
use Rattle.node_work.specs.Held.Bridge.{Put, Took, Left_out}
use Rattle.node_work.specs.Held.Sessions.{Begun, connection_at, takes_disconnect, takes_packet, will_is_due, end_is_due, SessionStep, Called, seat_at}
use Rattle.node_work.specs.Held.Making.{number_at_end, removal, removal_below}
use Rattle.subscription_set.specs.declared.entry.Entry.{Entry}
use Rattle.subscription_set.specs.Standing.{any_of, any_below}
use Rattle.node_work.specs.Packets.{moved_packet, refused_packet}
use Rattle.node_work.specs.Working.{Returns, Acting, Looks, If, Then, Each, InTurn}
use Rattle.node_clients.specs.Connecting as connecting
use Rattle.node_clients.specs.Ending as ending
use Rattle.node_clients.specs.Moving as moving
use Rattle.node_clients.specs.Passing as passing
use Rattle.node_clients.specs.Serving as serving
use Rattle.node_clients.specs.Subscribing as subscribing
use Rattle.node_clients.specs.Unsubscribing as unsubscribing
use Rattle.law_runs.specs.StepSending.{is_sent_by_node}
use Rattle.law_runs.proofs.Keeping.{Property, Joins, Keeps, k_returns, k_stops, k_acting, k_numbered, k_looks, k_finds, k_if, k_where, k_then, k_each, k_calls, calling_by, k_inturn}

module _ (T : Property) (j : Joins T) where
  pub makes_remove : (client : List ℕ) (to : Option (List ℕ)) → Keeps T (MakesRemove client to)
  makes_remove client to = k_numbered T j (λ p h. number_at_end p.id h) (λ p h. Store (Made (removal p.id client to h.store))) (λ p h. tt)

  pub removes : (client : List ℕ) (to : Option (List ℕ)) → Keeps T (Removes client to)
  removes client to =
      k_looks T j (λ p h. any_of client to h.store.subscriptions) (λ stands. If stands (Then (MakesRemove client to) (λ _. Returns true)) (Returns false))
      (λ stands. k_if T j stands (Then (MakesRemove client to) (λ _. Returns true)) (Returns false)
      (k_then T j (MakesRemove client to) (λ _. Returns true) (makes_remove client to) (λ _. k_returns T j true)) (k_returns T j false))

  makes_remove_below : (client : List ℕ) (version : ℕ) → Keeps T (MakesRemoveBelow client version)
  makes_remove_below client version = k_numbered T j (λ p h. number_at_end p.id h) (λ p h. Store (Made (removal_below p.id client version h.store))) (λ p h. tt)

  removes_below : (client : List ℕ) (version : ℕ) → Keeps T (RemovesBelow client version)
  removes_below client version =
      k_looks T j (λ p h. any_below client version h.store.subscriptions) (λ stands. If stands (Then (MakesRemoveBelow client version) (λ _. Returns true)) (Returns false))
      (λ stands. k_if T j stands (Then (MakesRemoveBelow client version) (λ _. Returns true)) (Returns false)
      (k_then T j (MakesRemoveBelow client version) (λ _. Returns true) (makes_remove_below client version) (λ _. k_returns T j true)) (k_returns T j false))

  removes_own : (client : List ℕ) → Keeps T (ending.RemovesOwn client)
  removes_own client =
      k_finds T j (ending.IsAtHome client) (ending.RemovesFor client) (λ node. k_looks T j (ending.ends_below node) (RemovesBelow client) (removes_below client))

  pub sends : (c : ℕ) (packet : Packet) → is_sent_by_node packet ≡ true → Keeps T (Sends c packet)
  sends c packet own = k_acting T j (λ p h. Out (Send c (written packet))) (λ p h. record { packet = packet; own = own; spelled = refl })

  pub disconnects : (c : ℕ) (client : List ℕ) (code : ℕ) → Keeps T (Disconnects c client code)
  disconnects c client code =
      k_looks T j (λ p h. takes_disconnect client code h) (λ taken. If taken (Sends c (disconnect code)) (Returns tt))
      (λ taken. k_if T j taken (Sends c (disconnect code)) (Returns tt) (sends c (disconnect code) refl) (k_returns T j tt))

  redirects : (c : ℕ) (client address : List ℕ) → Keeps T (Redirects c client address)
  redirects c client address =
      k_looks T j (λ p h. takes_packet client (moved_packet address) h) (λ taken. If taken (Sends c (moved_packet address)) (Returns tt))
      (λ taken. k_if T j taken (Sends c (moved_packet address)) (Returns tt) (sends c (moved_packet address) refl) (k_returns T j tt))

  pub queues_one : (x : Copy) → Keeps T (QueuesOne x)
  queues_one x = k_then T j (Calls x.client (queues x.delivery) stays) (λ _. Returns tt) (k_calls T j x.client (queues x.delivery) stays (λ at. tt)) (λ _. k_returns T j tt)

  pub retains : (m : Message) → Keeps T (passing.Retains m)
  retains m = k_if T j m.retain _ _ (k_numbered T j _ _ (λ p h. tt)) (k_returns T j _)

  pub misses : (what : Missed) → Keeps T (Misses what)
  misses what = k_acting T j (λ p h. Bridge (Left_out what)) (λ p h. tt)

  puts_by : (peer : ℕ) (m : Forward) (o : Offer) → Keeps T (PutsInLaneBy peer m o)
  puts_by peer m (Queued n) = k_acting T j (λ p h. Bridge (Put peer m)) (λ p h. tt)
  puts_by peer m Full = misses LaneFull
  puts_by peer m AtEnd = k_stops T j

  routes : (peer : ℕ) (route : Route) → Keeps T (RoutesBy peer route)
  routes peer Nothing = k_returns T j tt
  routes peer (Lane m) = k_looks T j (λ p h. offer_to peer h.bridge) (PutsInLaneBy peer m) (puts_by peer m)
  routes peer TooLarge = misses LaneFull

  pub copies : (m : Message) → Keeps T (passing.Copies m)
  copies m =
      k_finds T j _ _ (λ x. k_then T j _ _ (k_numbered T j _ _ (λ p h. tt)) (λ _.
      k_then T j (Queues x.0) (λ _. Each Routes x.1.1) (k_each T j QueuesOne x.0 queues_one) (λ _. k_each T j Routes x.1.1 (λ y. routes y.0 y.1))))

  pub passes : (m : Message) → Keeps T (passing.Passes m)
  passes m = k_then T j _ _ (retains m) (λ _. k_looks T j _ _ (λ at. k_where T j (IsBefore at m.deadline) _ _ (copies m) (k_returns T j _)))

  pub drops : Keeps T passing.Drops
  drops = k_acting T j _ (λ p h. tt)

  pub passes_will : (m : Message) → Keeps T (passing.PassesWill m)
  passes_will m = k_looks T j _ _ (λ lacks. k_if T j lacks _ _ drops (passes m))

  pub passes_asked : (ask : Option Ask) → Keeps T (ending.PassesAsked ask)
  passes_asked None = k_returns T j _
  passes_asked (Some (asks.Pass m)) = passes_will m
  passes_asked (Some asks.Subscribe) = k_returns T j _
  passes_asked (Some asks.Unsubscribe) = k_returns T j _

  pub ends_session : (client : List ℕ) → Keeps T (ending.EndsSession client)
  ends_session client = k_then T j _ _ (removes_own client) (λ _. k_acting T j _ (λ p h. tt))

  pub follows : (client : List ℕ) (r : Reaction) → Keeps T (ending.FollowsReaction client r)
  follows client r = k_then T j _ _ (passes_asked r.ask) (λ _. k_if T j r.over _ _ (ends_session client) (k_returns T j _))

  pub ticks_of : (client : List ℕ) → Keeps T (ending.Ticks client)
  ticks_of client = k_then T j (Calls client ticks stays) (ending.FollowsReaction client) (k_calls T j client ticks stays (λ at. tt)) (follows client)

  pub finishes_of : (client : List ℕ) → Keeps T (ending.Finishes client)
  finishes_of client = k_then T j (Calls client finishes stays) (ending.FollowsReaction client) (k_calls T j client finishes stays (λ at. tt)) (follows client)

  pub ticks_if : (is_due : Bool) (client : List ℕ) → Keeps T (ending.TicksIf is_due client)
  ticks_if is_due client = k_if T j is_due _ _ (ticks_of client) (k_returns T j _)

  pub parts : (client : List ℕ) → Keeps T (ending.Parts client)
  parts client =
      k_then T j (Calls client closes leaves) (λ _. ending.DoesDueOf client) (k_calls T j client closes leaves (λ at. tt)) (λ _.
      k_then T j (Looks (λ p h. will_is_due client h) (λ b. ending.TicksIf b client)) (λ _. Looks (λ p h. end_is_due client h) (λ b. ending.TicksIf b client))
      (k_looks T j (λ p h. will_is_due client h) (λ b. ending.TicksIf b client) (λ b. ticks_if b client)) (λ _. k_looks T j (λ p h. end_is_due client h) (λ b. ending.TicksIf b client) (λ b. ticks_if b client)))

  pub closes_of : (c : ℕ) → Keeps T (ending.ClosesConnection c)
  closes_of c = k_then T j _ _ (k_acting T j _ (λ p h. tt)) (λ _. k_acting T j _ (λ p h. tt))

  pub closes_for : (c : ℕ) (client : List ℕ) → Keeps T (ending.ClosesFor c client)
  closes_for c client = k_then T j _ _ (closes_of c) (λ _. parts client)

  pub closes_by : (c : ℕ) (client : Option (List ℕ)) → Keeps T (ending.ClosesBy c client)
  closes_by c None = closes_of c
  closes_by c (Some client) = closes_for c client

  pub closes_after : (end : Option ℕ) (c : ℕ) (client : List ℕ) → Keeps T (ending.ClosesAfter end c client)
  closes_after None c client = k_returns T j _
  closes_after (Some code) c client = closes_for c client

  -- ---- a client whose home is elsewhere
  redirects_by : (c : ℕ) (client : List ℕ) (address : Option (List ℕ)) → Keeps T (moving.RedirectsBy c client address)
  redirects_by c client None = k_returns T j tt
  redirects_by c client (Some address) = redirects c client address

  redirects_home : (c : ℕ) (client : List ℕ) → Keeps T (moving.RedirectsHome c client)
  redirects_home c client =
      k_finds T j (ending.IsAtHome client) (moving.RedirectsTo c client) (λ node. k_looks T j (λ p h. connecting.address_of h node) (moving.RedirectsBy c client) (redirects_by c client))

  parts_on : (client : List ℕ) (on : Option ℕ) → Keeps T (moving.PartsOn client on)
  parts_on client None = k_returns T j tt
  parts_on client (Some c) = k_then T j (moving.RedirectsHome c client) (λ _. ending.ClosesFor c client) (redirects_home c client) (λ _. closes_for c client)

  pub moves_away : (client : List ℕ) → Keeps T (moving.MovesAway client)
  moves_away client =
      k_then T j (moving.PartsWays client) (λ _. ending.Finishes client) (k_looks T j (λ p h. connection_at client h) (moving.PartsOn client) (parts_on client)) (λ _. finishes_of client)

  -- ---- CONNECT
  pub refuses : (c : ℕ) (p : Connect) (code : ℕ) (reference : Option (List ℕ)) → Keeps T (connecting.RefusesConnect c p code reference)
  refuses c p code reference = k_then T j _ _ (k_if T j (fits (limit_in p.properties) (refused_packet code reference)) _ _ (sends c (refused_packet code reference) refl) (k_returns T j _)) (λ _. closes_of c)

  pub takes_over : (client : List ℕ) (on : Option ℕ) → Keeps T (connecting.TakesOverFrom client on)
  takes_over client None = k_returns T j _
  takes_over client (Some older) = k_then T j _ _ (disconnects older client 142) (λ _. closes_for older client)

  pub cleans : (clean : Bool) (client : List ℕ) → Keeps T (connecting.Cleans clean client)
  cleans false client = k_returns T j _
  cleans true client = k_looks T j _ _ (λ has. k_if T j has _ _ (finishes_of client) (k_returns T j _))

  pub joins : (continued : Bool) (c : ℕ) (client : List ℕ) (p : Connect) (room : Option ℕ) → Keeps T (connecting.JoinsBy continued c client p room)
  joins true c client p room = k_calls T j client (connects p true room) (moves c) (λ at. tt)
  joins false c client p room =
      k_then T j (Acting (λ place h. Session (Begun client))) (λ _. Calls client (connects p false room) (moves c))
      (k_acting T j (λ place h. Session (Begun client)) (λ place h. tt)) (λ _. k_calls T j client (connects p false room) (moves c) (λ at. tt))

  joins_in : (c : ℕ) (client : List ℕ) (p : Connect) → Keeps T (connecting.Joins c client p)
  joins_in c client p = k_looks T j _ (connecting.JoinsIn c client p) (λ room. k_looks T j _ (λ has. connecting.JoinsBy has c client p room) (λ has. joins has c client p room))

  pub accepts : (c : ℕ) (p : Connect) (client : List ℕ) → Keeps T (connecting.Accepts c p client)
  accepts c p client =
      k_then T j _ _ (k_looks T j _ _ (takes_over client)) (λ _. k_then T j _ _ (cleans p.clean_start client) (λ _.
      k_then T j _ _ (k_acting T j _ (λ place h. tt)) (λ _. k_then T j _ _ (joins_in c client p) (λ r. closes_after r.end c client))))

  pub names_by : (c : ℕ) (p : Connect) (number : Option ℕ) → Keeps T (connecting.NamesBy c p number)
  names_by c p None = k_stops T j
  names_by c p (Some number) = k_then T j _ _ (k_acting T j _ (λ place h. tt)) (λ _. k_looks T j _ _ (accepts c p))

  pub comes_home : (c : ℕ) (p : Connect) (node : ℕ) → Keeps T (connecting.ComesHome c p node)
  comes_home c p node =
      k_looks T j (λ place h. node == place.id) (λ here. If here (connecting.AcceptsAs c p p.client) (connecting.Refers c p node))
      (λ here. k_if T j here (connecting.AcceptsAs c p p.client) (connecting.Refers c p node)
      (k_where T j (connecting.WillIsNamed p.will) (connecting.Accepts c p p.client) (connecting.RefusesConnect c p 144 None) (accepts c p p.client) (refuses c p 144 None))
      (k_looks T j (λ place h. connecting.address_of h node) (λ reference. connecting.RefusesConnect c p 156 reference) (λ reference. refuses c p 156 reference)))

  pub connects_at : (bare : Bool) (c : ℕ) (p : Connect) → Keeps T (connecting.ConnectsAt bare c p)
  connects_at true c p = k_where T j (connecting.WillIsNamed p.will) _ _ (k_finds T j _ _ (names_by c p)) (refuses c p 144 None)
  connects_at false c p = k_finds T j _ _ (comes_home c p)

  pub connects_by : (code : Option ℕ) (c : ℕ) (p : Connect) → Keeps T (connecting.ConnectsBy code c p)
  connects_by (Some code) c p = refuses c p code None
  connects_by None c p = connects_at _ c p

  -- ---- SUBSCRIBE and UNSUBSCRIBE, but for the calls of their answers
  subscribed : (entry : Entry) → Keeps T (MakesSubscribe entry)
  subscribed entry = k_numbered T j (λ p h. number_at_end p.id h) (λ p h. Store (Made (subscribe_of p.id entry h.store))) (λ p h. tt)

  granted : (client : List ℕ) (identifier : ℕ) (f : SubscribeFilter) (stood : Bool) → Keeps T (subscribing.GrantsBy client identifier f stood)
  granted client identifier f stood =
      let full = Returns (subscribing.filter_refused 151) in
      let given = subscribing.granted f (identifiers_of identifier) stood in
      let Makes = subscribing.SubscribesTo client identifier f in
      let subscribes = k_looks T j (λ p h. h.homes.version) (λ version. MakesSubscribe (subscribing.subscription_entry client f identifier version)) (λ version. subscribed (subscribing.subscription_entry client f identifier version)) in
      k_looks T j (λ p h. not stood && subscribing.has_most client h.store) (λ is. If is full (Then Makes (λ _. Returns given)))
      (λ is. k_if T j is full (Then Makes (λ _. Returns given)) (k_returns T j (subscribing.filter_refused 151)) (k_then T j Makes (λ _. Returns given) subscribes (λ _. k_returns T j given)))

  pub grants : (client : List ℕ) (identifier : ℕ) (f : SubscribeFilter) → Keeps T (subscribing.Grants client identifier f)
  grants client identifier f =
      k_where T j (IsFilter f.filter) (Looks (λ p h. subscribing.stands client f.filter h) (subscribing.GrantsBy client identifier f)) (Returns (subscribing.filter_refused 143))
      (k_looks T j (λ p h. subscribing.stands client f.filter h) (subscribing.GrantsBy client identifier f) (granted client identifier f)) (k_returns T j (subscribing.filter_refused 143))

  offers_one : (client : List ℕ) (offer : Delivery) → Keeps T (subscribing.OffersOne client offer)
  offers_one client offer = k_then T j (Calls client (queues offer) stays) (λ _. Returns tt) (k_calls T j client (queues offer) stays (λ at. tt)) (λ _. k_returns T j tt)

  offers : (client : List ℕ) (packet : ℕ) (given : List Granted) → Keeps T (subscribing.Offers client packet given)
  offers client packet given =
      k_finds T j (subscribing.AreOffers given) (subscribing.OffersEach client packet given)
      (λ os. k_then T j (Acting (λ p h. Acknowledged client packet h.at given os)) (λ _. Each (subscribing.OffersOne client) os) (k_acting T j (λ p h. Acknowledged client packet h.at given os) (λ p h. tt))
      (λ _. k_each T j (subscribing.OffersOne client) os (offers_one client)))

  pub offers_after : (end : Option ℕ) (c : ℕ) (client : List ℕ) (packet : ℕ) (given : List Granted) → Keeps T (subscribing.OffersAfter end c client packet given)
  offers_after None c client packet given = offers client packet given
  offers_after (Some code) c client packet given = closes_for c client

  pub unsubscribed : (client text : List ℕ) → Keeps T (unsubscribing.Unsubscribed client text)
  unsubscribed client text =
      k_where T j (IsFilter text) (Then (Removes client (Some text)) (λ stood. Returns (cond stood 0 17))) (Returns 143)
      (k_then T j (Removes client (Some text)) (λ stood. Returns (cond stood 0 17)) (removes client (Some text)) (λ stood. k_returns T j (cond stood 0 17))) (k_returns T j 143)

-- ---- a packet of an accepted client, after its call
module _ (T : Property) (j : Joins T) (answers_so : (p : Place) (h : HeldView) (s : SessionStep) (id : ℕ) (given : List ℕ) → s.event ≡ answers id given → T p h (Session (Called s) ∷ [])) where
  codes_at : (client : List ℕ) (packet : ℕ) (given : List ℕ) (found : Option Seat) (r : Reaction) (p : Place) (h : HeldView) (acts : List Act) → CallsAt client (λ at. answers packet given) stays found (Some r) p h acts → T p h acts
  codes_at client packet given None r p h acts d = subst (T p h) (sym d.1) (j.none p h)
  codes_at client packet given (Some seat) r p h acts d =
      let k = calling_by client (λ at. answers packet given) stays seat r p h acts d in
      subst (T p h) (sym k.acts_are) (answers_so p h k.step packet given k.event_is)

  codes : (client : List ℕ) (packet : ℕ) (given : List ℕ) → Keeps T (Calls client (λ at. answers packet given) stays)
  codes client packet given = record { of = λ r p h acts d. codes_at client packet given (seat_at client h) r p h acts d }

  subscribes : (c : ℕ) (client : List ℕ) (s : Subscribe) → Keeps T (subscribing.ServesSubscribe c client s)
  subscribes c client s =
      k_then T j (InTurn (subscribing.Grants client (subscribing.identifier_of s)) s.filters []) (subscribing.SendsSuback c client s.identifier)
      (k_inturn T j (subscribing.Grants client (subscribing.identifier_of s)) s.filters [] (grants T j client (subscribing.identifier_of s)))
      (λ given. k_then T j (Calls client (λ at. answers s.identifier (subscribing.granted_reasons given)) stays) (λ r. subscribing.OffersAfter r.end c client s.identifier given)
      (codes client s.identifier (subscribing.granted_reasons given)) (λ r. offers_after T j r.end c client s.identifier given))

  unsubscribes : (c : ℕ) (client : List ℕ) (u : Unsubscribe) → Keeps T (unsubscribing.ServesUnsubscribe c client u)
  unsubscribes c client u =
      k_then T j (InTurn (unsubscribing.Unsubscribed client) u.filters []) (unsubscribing.SendsUnsuback c client u.identifier)
      (k_inturn T j (unsubscribing.Unsubscribed client) u.filters [] (unsubscribed T j client))
      (λ given. k_then T j (Calls client (λ at. answers u.identifier given) stays) (λ r. ending.ClosesAfter r.end c client) (codes client u.identifier given) (λ r. closes_after T j r.end c client))

  subscribes_by : (c : ℕ) (client : List ℕ) (k : Packet) → Keeps T (serving.SubscribesBy c client k)
  subscribes_by c client (packets.Subscribe s) = subscribes c client s
  subscribes_by c client _ = k_returns T j _

  unsubscribes_by : (c : ℕ) (client : List ℕ) (k : Packet) → Keeps T (serving.UnsubscribesBy c client k)
  unsubscribes_by c client (packets.Unsubscribe u) = unsubscribes c client u
  unsubscribes_by c client _ = k_returns T j _

  does_asked : (ask : Option Ask) (c : ℕ) (client : List ℕ) (k : Packet) (room : Bool) (end : Option ℕ) → Keeps T (serving.DoesAsked ask c client k room end)
  does_asked None c client k room end = k_if T j (serving.is_dropped k room end) passing.Drops (Returns tt) (drops T j) (k_returns T j tt)
  does_asked (Some (asks.Pass m)) c client k room end = passes T j m
  does_asked (Some asks.Subscribe) c client k room end = subscribes_by c client k
  does_asked (Some asks.Unsubscribe) c client k room end = unsubscribes_by c client k

  pub does_reaction : (c : ℕ) (client : List ℕ) (k : Packet) (room : Bool) (r : Reaction) → Keeps T (serving.DoesReaction c client k room r)
  does_reaction c client k room r =
      k_then T j (serving.DoesAsked r.ask c client k room r.end) (λ _. ending.ClosesAfter r.end c client) (does_asked r.ask c client k room r.end) (λ _. closes_after T j r.end c client)

-- ---- a packet of an accepted client, where each call alone keeps it
module _ (T : Property) (j : Joins T) (called : (p : Place) (h : HeldView) (s : SessionStep) → T p h (Session (Called s) ∷ [])) where
  called_at : (client : List ℕ) (event : ℕ → Event) (found : Option Seat) (r : Reaction) (p : Place) (h : HeldView) (acts : List Act) → CallsAt client event stays found (Some r) p h acts → T p h acts
  called_at client event None r p h acts d = subst (T p h) (sym d.1) (j.none p h)
  called_at client event (Some seat) r p h acts d = let k = calling_by client event stays seat r p h acts d in subst (T p h) (sym k.acts_are) (called p h k.step)

  calls : (client : List ℕ) (event : ℕ → Event) → Keeps T (Calls client event stays)
  calls client event = record { of = λ r p h acts d. called_at client event (seat_at client h) r p h acts d }

  pub serves : (c : ℕ) (client : List ℕ) (k : Packet) → Keeps T (serving.ServesPacket c client k)
  serves c client k =
      k_looks T j (λ place h. serving.room_for client k h) (serving.ServesIn c client k)
      (λ room. k_then T j (Calls client (λ at. takes k at room) stays) (serving.DoesReaction c client k room) (calls client (λ at. takes k at room)) (λ r. does_reaction T j (λ p h s id codes e. called p h s) c client k room r))

-- ---- a message from another node, where the act that takes it alone keeps it
module _ (T : Property) (j : Joins T) (took : (from number : ℕ) (m : Forward) (copies : List Copy) (lost : ℕ) (p : Place) (h : HeldView) → T p h (Bridge (Took from number m copies lost) ∷ [])) where
  takes_copies : (from number : ℕ) (m : Forward) (x : List Copy × ℕ) → Keeps T (passing.TakesCopies from number m x)
  takes_copies from number m x =
      k_then T j (Acting (λ p h. Bridge (Took from number m x.0 x.1))) (λ _. Queues x.0) (record { of = λ y p h acts d. subst (T p h) (sym d.1) (took from number m x.0 x.1 p h) })
      (λ _. k_each T j QueuesOne x.0 (queues_one T j))

  pub takes_forward : (from number : ℕ) (m : Forward) → Keeps T (passing.TakesForward from number m)
  takes_forward from number m = k_finds T j (passing.IsHandedOver m) (passing.TakesCopies from number m) (takes_copies from number m)
