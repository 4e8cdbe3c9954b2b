-- What holds of work that is put together of parts, but for what makes operations.
use Rattle.std.specs.FinMap as map
use Rattle.std.proofs.Common.{◌≡◌, ℕ, ◌==◌, Bool, true, false, List, Option, Some, None, [], ◌∷◌, refl}
use Rattle.mqtt_message.specs.declared.delivery.Delivery.{Delivery}
use Rattle.mqtt_message.specs.declared.message.Message.{Message}
use Rattle.mqtt_message.specs.Expiry.{IsBefore}
use Rattle.mqtt_packets.specs.declared.connect.Connect.{Connect}
use Rattle.mqtt_packets.specs.declared.fault.PacketFault.{PacketFault}
use Rattle.mqtt_packets.specs.declared.packet.Packet.{Packet}
use Rattle.mqtt_packets.specs.declared.packet.Packet.TheVariants as packets
use Rattle.mqtt_packets.specs.Written.{written}
use Rattle.mqtt_sessions.specs.Answers.{disconnect, fits}
use Rattle.mqtt_sessions.specs.Reaction.{Reaction}
use Rattle.mqtt_sessions.specs.State.{limit_in}
use Rattle.bridge_deltas.specs.Lane.{first_frames}
use Rattle.bridge_deltas.specs.More.{frames_after}
use Rattle.bridge_frames.specs.declared.body.FrameBody.{FrameBody}
use Rattle.bridge_frames.specs.declared.body.FrameBody.TheVariants.{Hello, Delta, Know, Forward as Carried, Got}
use Rattle.bridge_frames.specs.declared.forward.Forward.{Forward}
use Rattle.bridge_frames.specs.declared.frame.BridgeFrame.{BridgeFrame}
use Rattle.bridge_frames.specs.Frames.{frame_in}
use Rattle.bridge_routes.specs.declared.plain.PlainCopy.{PlainCopy as Copy}
use Rattle.bridge_routes.specs.declared.destinations.Route.{Route}
use Rattle.bridge_routes.specs.declared.destinations.Route.TheVariants.{Nothing, Lane, TooLarge}
use Rattle.home_table.specs.Table.{Table}
use Rattle.node_bridge.specs.View.{is_next, lane_to}
use Rattle.replica_store.specs.States.{State}
use Rattle.session_table.specs.Dues.{Due}
use Rattle.law_sessions.specs.Runs.{Event, connects, queues, rooms, answers, closes, ticks}
use Rattle.session_table.specs.Calls.{stays, leaves, moves}
use Rattle.session_table.specs.Seats.{run_outs, wills_due, ends_due, connected}
use Rattle.node_work.specs.declared.counts.Missed.{Missed}
use Rattle.node_work.specs.declared.granted.Granted.{Granted}
use Rattle.node_work.specs.declared.counts.Missed.TheVariants.{LaneFull, BadFrame, FrameTooLarge, TableRefused}
use Rattle.node_work.specs.declared.outcome.Output.TheVariants.{Send, Close}
use Rattle.node_work.specs.Acts.{Act, StoreAct, MomentTaken, Began, Moved, Store, Made, Merged, Connection, Session, Bridge, Out, Named, Acknowledged, Passed, Dropped}
use Rattle.node_work.specs.Calling.{Calls, Queues, QueuesOne}
use Rattle.node_work.specs.Doings.{Sends, Disconnects, Redirects, Misses, PutsInLane, RoutesBy, Routes, TakesMoment, GivesBody, GivesFrame, is_small}
use Rattle.node_work.specs.Held.Bridge.{Took, Gave, Got as GotBy, Believed, Greeted, Left_out, hello_to}
use Rattle.node_work.specs.Held.Connections.{Opened, Accepted, Roomed, Closed, Fed, is_open, client_at, first_at, room_at}
use Rattle.node_work.specs.Held.Feeding.{cut_of}
use Rattle.node_work.specs.Held.Sessions.{SessionAct, Begun, Called, Over, takes_disconnect, takes_packet, will_is_due, end_is_due, connection_at, has_session}
use Rattle.node_work.specs.Frames.{is_for_node, is_other}
use Rattle.node_work.specs.Packets.{moved_packet, refused_packet}
use Rattle.node_work.specs.Passing.{turn_at_end}
use Rattle.node_work.specs.View.{Place, HeldView, ConnectionView}
use Rattle.node_work.specs.Working.{Doing, Returns, Acting, Numbered, Looks, FindsWhere, If, Where, Then, Each}
use Rattle.node_clients.specs.Connecting as connecting
use Rattle.node_clients.specs.Ending as ending
use Rattle.node_clients.specs.Moving as moving
use Rattle.node_clients.specs.Naming.{IsNextNumber}
use Rattle.node_clients.specs.Passing as passing
use Rattle.node_clients.specs.Pieces as pieces
use Rattle.node_clients.specs.Rooms as giving
use Rattle.node_clients.specs.Serving as serving
use Rattle.node_clients.specs.Subscribing as subscribing
use Rattle.node_clients.specs.Unsubscribing as unsubscribing
use Rattle.broker_node.specs.declared.event.Event.{Event as NodeEvent}
use Rattle.broker_node.specs.declared.event.EventKind.{EventKind}
use Rattle.broker_node.specs.declared.event.EventKind.TheVariants as kinds
use Rattle.broker_node.specs.Bridge as bridge
use Rattle.broker_node.specs.Due as due
use Rattle.broker_node.specs.Moving as tables
use Rattle.broker_node.specs.Turns as turns

-- an act that makes no operation, and neither calls a session nor ends one
abbrev pub IsSimpleStore : StoreAct → Type 0
IsSimpleStore (Made o) = ⊥
IsSimpleStore (Merged s) = Unit {0}

abbrev pub IsSimpleSession : SessionAct → Type 0
IsSimpleSession (Begun client) = Unit {0}
IsSimpleSession (Called s) = ⊥
IsSimpleSession (Over client) = ⊥

abbrev pub IsSimple : Act → Type 0
IsSimple (Store a) = IsSimpleStore a
IsSimple (Session a) = IsSimpleSession a
IsSimple a = Unit {0}

-- one that neither takes a moment, nor gives a client its identifier, nor passes a message on
abbrev pub IsUnnumbered : Act → Type 0
IsUnnumbered (MomentTaken at) = ⊥
IsUnnumbered (Named number) = ⊥
IsUnnumbered (Passed m copies lost routes) = ⊥
IsUnnumbered a = IsSimple a

pub simple : (a : Act) → IsUnnumbered a → IsSimple a
simple (MomentTaken at) u = tt
simple (Named number) u = tt
simple (Passed m copies lost routes) u = tt
simple a u = u

-- what holds of the parts, and of what is put together of them
pub record Walks (K : (A : Type 0) → (Option A → Doing) → Type 0) : Type 1 where
  pub returns : {A : Type 0} (y : A) → K A (Returns y)
  pub acting : (a : Place → HeldView → Act) → ((p : Place) (h : HeldView) → IsUnnumbered (a p h)) → K (Unit {0}) (Acting a)
  pub looks : {A B : Type 0} (see : Place → HeldView → A) (P : A → Option B → Doing) → ((y : A) → K B (P y)) → K B (Looks see P)
  pub finds : {A B : Type 0} (Is : Place → HeldView → A → Type 0) (P : A → Option B → Doing) → ((y : A) → K B (P y)) → K B (FindsWhere Is P)
  pub by_test : {A : Type 0} (b : Bool) (P Q : Option A → Doing) → K A P → K A Q → K A (If b P Q)
  pub by_whether : {A : Type 0} (X : Type 0) (P Q : Option A → Doing) → K A P → K A Q → K A (Where X P Q)
  pub join : {A B : Type 0} (P : Option A → Doing) (Q : A → Option B → Doing) → K A P → ((y : A) → K B (Q y)) → K B (Then P Q)
  pub calls : (client : List ℕ) (event : ℕ → Event) (on : Option ℕ → Option ℕ) → K Reaction (Calls client event on)
  pub puts : (peer : ℕ) (m : Forward) → K (Unit {0}) (PutsInLane peer m)
  pub names : (c : ℕ) (p : Connect) → ((client : List ℕ) → K (Unit {0}) (connecting.Accepts c p client)) → K (Unit {0}) (FindsWhere IsNextNumber (connecting.NamesBy c p))

module _ (K : (A : Type 0) → (Option A → Doing) → Type 0) (w : Walks K) where
  abbrev pub Does : (Option (Unit {0}) → Doing) → Type 0
  Does P = K (Unit {0}) P

  pub each : {A : Type 0} (One : A → Option (Unit {0}) → Doing) (xs : List A) → ((x : A) → Does (One x)) → Does (Each One xs)
  each One [] f = w.returns tt
  each One (x ∷ xs) f = w.join (One x) (λ _. Each One xs) (f x) (λ _. each One xs f)

  -- ---- what goes out
  sends : (c : ℕ) (packet : Packet) → Does (Sends c packet)
  sends c packet = w.acting (λ p h. Out (Send c (written packet))) (λ p h. tt)

  disconnects : (c : ℕ) (client : List ℕ) (code : ℕ) → Does (Disconnects c client code)
  disconnects c client code =
      w.looks (λ p h. takes_disconnect client code h) (λ taken. If taken (Sends c (disconnect code)) (Returns tt))
      (λ taken. w.by_test taken (Sends c (disconnect code)) (Returns tt) (sends c (disconnect code)) (w.returns tt))

  -- ---- copies
  queues_one : (x : Copy) → Does (QueuesOne x)
  queues_one x = w.join (Calls x.client (queues x.delivery) stays) (λ _. Returns tt) (w.calls x.client (queues x.delivery) stays) (λ _. w.returns tt)

  queues_all : (copies : List Copy) → Does (Queues copies)
  queues_all copies = each QueuesOne copies queues_one

  misses : (what : Missed) → Does (Misses what)
  misses what = w.acting (λ p h. Bridge (Left_out what)) (λ p h. tt)

  routes : (peer : ℕ) (route : Route) → Does (RoutesBy peer route)
  routes peer Nothing = w.returns tt
  routes peer (Lane m) = w.puts peer m
  routes peer TooLarge = misses LaneFull

  -- a message that is passed on, by the act that stands before its copies
  module _ (m : Message) (passed : (x : passing.Made) → Does (Numbered turn_at_end (λ p h. Passed m x.0 x.1.0 x.1.1))) where
    makes_copies : (x : passing.Made) → Does (passing.MakesCopies m x)
    makes_copies x =
        w.join (Numbered turn_at_end (λ p h. Passed m x.0 x.1.0 x.1.1)) (λ _. Then (Queues x.0) (λ _. Each Routes x.1.1)) (passed x) (λ _.
        w.join (Queues x.0) (λ _. Each Routes x.1.1) (queues_all x.0) (λ _. each Routes x.1.1 (λ y. routes y.0 y.1)))

    pub copies : Does (passing.Copies m)
    copies = w.finds (passing.AreMade m) (passing.MakesCopies m) makes_copies

    pub copies_at : (at : ℕ) → Does (passing.CopiesAt m at)
    copies_at at = w.by_whether (IsBefore at m.deadline) (passing.Copies m) (Returns tt) copies (w.returns tt)

  -- and the copies and the lanes after it
  pub copies_after : (x : passing.Made) → Does (Then (Queues x.0) (λ _. Each Routes x.1.1))
  copies_after x = w.join (Queues x.0) (λ _. Each Routes x.1.1) (queues_all x.0) (λ _. each Routes x.1.1 (λ y. routes y.0 y.1))

  pub drops : Does passing.Drops
  drops = w.acting (λ p h. Dropped) (λ p h. tt)

  takes_copies : (from number : ℕ) (m : Forward) (x : List Copy × ℕ) → Does (passing.TakesCopies from number m x)
  takes_copies from number m x =
      w.join (Acting (λ p h. Bridge (Took from number m x.0 x.1))) (λ _. Queues x.0) (w.acting (λ p h. Bridge (Took from number m x.0 x.1)) (λ p h. tt)) (λ _. queues_all x.0)

  pub takes_forward : (from number : ℕ) (m : Forward) → Does (passing.TakesForward from number m)
  takes_forward from number m = w.finds (passing.IsHandedOver m) (passing.TakesCopies from number m) (takes_copies from number m)

  -- ---- closes, by what is due of a session and what a packet comes to
  closes_of : (c : ℕ) → Does (ending.ClosesConnection c)
  closes_of c = w.join (Acting (λ p h. Connection (Closed c))) (λ _. Acting (λ p h. Out (Close c))) (w.acting (λ p h. Connection (Closed c)) (λ p h. tt)) (λ _. w.acting (λ p h. Out (Close c)) (λ p h. tt))

  module _ (ticks_of : (client : List ℕ) → Does (ending.Ticks client)) where
    ticks_if : (is_due : Bool) (client : List ℕ) → Does (ending.TicksIf is_due client)
    ticks_if is_due client = w.by_test is_due (ending.Ticks client) (Returns tt) (ticks_of client) (w.returns tt)

    parts : (client : List ℕ) → Does (ending.Parts client)
    parts client =
        w.join (Calls client closes leaves) (λ _. ending.DoesDueOf client) (w.calls client closes leaves) (λ _.
        w.join (Looks (λ p h. will_is_due client h) (λ b. ending.TicksIf b client)) (λ _. Looks (λ p h. end_is_due client h) (λ b. ending.TicksIf b client))
        (w.looks (λ p h. will_is_due client h) (λ b. ending.TicksIf b client) (λ b. ticks_if b client)) (λ _. w.looks (λ p h. end_is_due client h) (λ b. ending.TicksIf b client) (λ b. ticks_if b client)))

    pub closes_for : (c : ℕ) (client : List ℕ) → Does (ending.ClosesFor c client)
    closes_for c client = w.join (ending.ClosesConnection c) (λ _. ending.Parts client) (closes_of c) (λ _. parts client)

    pub closes_after : (end : Option ℕ) (c : ℕ) (client : List ℕ) → Does (ending.ClosesAfter end c client)
    closes_after None c client = w.returns tt
    closes_after (Some code) c client = closes_for c client

    -- ---- the answers to SUBSCRIBE and UNSUBSCRIBE
    offers_one : (client : List ℕ) (offer : Delivery) → Does (subscribing.OffersOne client offer)
    offers_one client offer = w.join (Calls client (queues offer) stays) (λ _. Returns tt) (w.calls client (queues offer) stays) (λ _. w.returns tt)

    offers : (client : List ℕ) (packet : ℕ) (given : List Granted) → Does (subscribing.Offers client packet given)
    offers client packet given =
        w.finds (subscribing.AreOffers given) (subscribing.OffersEach client packet given)
        (λ os. w.join (Acting (λ p h. Acknowledged client packet h.at given os)) (λ _. Each (subscribing.OffersOne client) os) (w.acting (λ p h. Acknowledged client packet h.at given os) (λ p h. tt))
        (λ _. each (subscribing.OffersOne client) os (offers_one client)))

    offers_after : (end : Option ℕ) (c : ℕ) (client : List ℕ) (packet : ℕ) (given : List Granted) → Does (subscribing.OffersAfter end c client packet given)
    offers_after None c client packet given = offers client packet given
    offers_after (Some code) c client packet given = closes_for c client

    pub acknowledges : (c : ℕ) (client : List ℕ) (packet : ℕ) (given : List Granted) → Does (subscribing.SendsSuback c client packet given)
    acknowledges c client packet given =
        w.join (Calls client (λ at. answers packet (subscribing.granted_reasons given)) stays) (λ r. subscribing.OffersAfter r.end c client packet given) (w.calls client (λ at. answers packet (subscribing.granted_reasons given)) stays)
        (λ r. offers_after r.end c client packet given)

    pub unacknowledges : (c : ℕ) (client : List ℕ) (packet : ℕ) (codes : List ℕ) → Does (unsubscribing.SendsUnsuback c client packet codes)
    unacknowledges c client packet codes =
        w.join (Calls client (λ at. answers packet codes) stays) (λ r. ending.ClosesAfter r.end c client) (w.calls client (λ at. answers packet codes) stays) (λ r. closes_after r.end c client)

    closes_by : (c : ℕ) (client : Option (List ℕ)) → Does (ending.ClosesBy c client)
    closes_by c None = closes_of c
    closes_by c (Some client) = closes_for c client

    module _ (finishes_of : (client : List ℕ) → Does (ending.Finishes client)) (serves : (c : ℕ) (client : List ℕ) (k : Packet) → Does (serving.ServesPacket c client k)) where
      -- ---- CONNECT
      refuses : (c : ℕ) (p : Connect) (code : ℕ) (reference : Option (List ℕ)) → Does (connecting.RefusesConnect c p code reference)
      refuses c p code reference =
          let packet = refused_packet code reference in
          let fitting = fits (limit_in p.properties) packet in
          w.join (connecting.SendsIf fitting c packet) (λ _. ending.ClosesConnection c) (w.by_test fitting (Sends c packet) (Returns tt) (sends c packet) (w.returns tt)) (λ _. closes_of c)

      takes_over_from : (client : List ℕ) (on : Option ℕ) → Does (connecting.TakesOverFrom client on)
      takes_over_from client None = w.returns tt
      takes_over_from client (Some older) = w.join (Disconnects older client 142) (λ _. ending.ClosesFor older client) (disconnects older client 142) (λ _. closes_for older client)

      cleans : (clean : Bool) (client : List ℕ) → Does (connecting.Cleans clean client)
      cleans false client = w.returns tt
      cleans true client =
          w.looks (λ p h. has_session client h) (λ has. If has (ending.Finishes client) (Returns tt)) (λ has. w.by_test has (ending.Finishes client) (Returns tt) (finishes_of client) (w.returns tt))

      joins : (continued : Bool) (c : ℕ) (client : List ℕ) (p : Connect) (room : Option ℕ) → K Reaction (connecting.JoinsBy continued c client p room)
      joins true c client p room = w.calls client (connects p true room) (moves c)
      joins false c client p room =
          w.join (Acting (λ place h. Session (Begun client))) (λ _. Calls client (connects p false room) (moves c)) (w.acting (λ place h. Session (Begun client)) (λ place h. tt)) (λ _. w.calls client (connects p false room) (moves c))

      joins_in : (c : ℕ) (client : List ℕ) (p : Connect) (room : Option ℕ) → K Reaction (connecting.JoinsIn c client p room)
      joins_in c client p room = w.looks (λ place h. has_session client h) (λ has. connecting.JoinsBy has c client p room) (λ has. joins has c client p room)

      begins : (c : ℕ) (client : List ℕ) (p : Connect) → Does (connecting.BeginsSession c client p)
      begins c client p =
          w.join (Acting (λ place h. Connection (Accepted c client))) (λ _. Then (connecting.Joins c client p) (λ r. ending.ClosesAfter r.end c client)) (w.acting (λ place h. Connection (Accepted c client)) (λ place h. tt)) (λ _.
          w.join (connecting.Joins c client p) (λ r. ending.ClosesAfter r.end c client) (w.looks (λ place h. room_at c h) (connecting.JoinsIn c client p) (joins_in c client p)) (λ r. closes_after r.end c client))

      accepts : (c : ℕ) (p : Connect) (client : List ℕ) → Does (connecting.Accepts c p client)
      accepts c p client =
          w.join (connecting.TakesOver client) (λ _. Then (connecting.Cleans p.clean_start client) (λ _. connecting.BeginsSession c client p))
          (w.looks (λ place h. connection_at client h) (connecting.TakesOverFrom client) (takes_over_from client)) (λ _.
          w.join (connecting.Cleans p.clean_start client) (λ _. connecting.BeginsSession c client p) (cleans p.clean_start client) (λ _. begins c client p))

      comes_home : (c : ℕ) (p : Connect) (node : ℕ) → Does (connecting.ComesHome c p node)
      comes_home c p node =
          w.looks (λ place h. node == place.id) (λ here. If here (connecting.AcceptsAs c p p.client) (connecting.Refers c p node))
          (λ here. w.by_test here (connecting.AcceptsAs c p p.client) (connecting.Refers c p node)
          (w.by_whether (connecting.WillIsNamed p.will) (connecting.Accepts c p p.client) (connecting.RefusesConnect c p 144 None) (accepts c p p.client) (refuses c p 144 None))
          (w.looks (λ place h. connecting.address_of h node) (λ reference. connecting.RefusesConnect c p 156 reference) (λ reference. refuses c p 156 reference)))

      connects_at : (bare : Bool) (c : ℕ) (p : Connect) → Does (connecting.ConnectsAt bare c p)
      connects_at true c p = w.by_whether (connecting.WillIsNamed p.will) (FindsWhere IsNextNumber (connecting.NamesBy c p)) (connecting.RefusesConnect c p 144 None) (w.names c p (accepts c p)) (refuses c p 144 None)
      connects_at false c p = w.finds (ending.IsAtHome p.client) (connecting.ComesHome c p) (comes_home c p)

      connects_by : (code : Option ℕ) (c : ℕ) (p : Connect) → Does (connecting.ConnectsBy code c p)
      connects_by (Some code) c p = refuses c p code None
      connects_by None c p = connects_at _ c p

      -- ---- pieces
      first : (c : ℕ) (k : Packet) → Does (pieces.AnswersFirstPacket c k)
      first c (packets.Connect p) = connects_by _ c p
      first c _ = closes_of c

      answers_by : (c : ℕ) (k : Packet) (client : Option (List ℕ)) → Does (pieces.AnswersPacketBy c k client)
      answers_by c k None = first c k
      answers_by c k (Some client) = serves c client k

      answers_if : (c : ℕ) (k : Packet) → Does (pieces.AnswersIfOpen c k)
      answers_if c k =
          w.looks (λ p h. is_open c h) (λ is. If is (pieces.AnswersPacket c k) (Returns tt))
          (λ is. w.by_test is (pieces.AnswersPacket c k) (Returns tt) (w.looks (λ p h. client_at c h) (pieces.AnswersPacketBy c k) (answers_by c k)) (w.returns tt))

      module _ (no_refusal : (c : ℕ) → Does (pieces.SendsRefusal c None)) (no_disconnect : (c : ℕ) (client : List ℕ) → Does (pieces.SendsDisconnect c client None)) (e : NodeEvent) (evicts : (client : List ℕ) → e.kind ≡ kinds.Evict client → Does (turns.Evicts client)) (moment : Does (TakesMoment e.at)) where
        sends_refusal : (c : ℕ) (code : Option ℕ) → Does (pieces.SendsRefusal c code)
        sends_refusal c None = no_refusal c
        sends_refusal c (Some code) = sends c (refused_packet code None)

        sends_disconnect : (c : ℕ) (client : List ℕ) (code : Option ℕ) → Does (pieces.SendsDisconnect c client code)
        sends_disconnect c client None = no_disconnect c client
        sends_disconnect c client (Some code) = disconnects c client code

        tells_by : (c : ℕ) (fault : PacketFault) (client : Option (List ℕ)) → Does (pieces.TellsBy c fault client)
        tells_by c fault None =
            w.looks (λ p h. pieces.is_connect (first_at c h)) (λ is. If is (pieces.SendsRefusal c (pieces.connack_code fault)) (Returns tt))
            (λ is. w.by_test is (pieces.SendsRefusal c (pieces.connack_code fault)) (Returns tt) (sends_refusal c (pieces.connack_code fault)) (w.returns tt))
        tells_by c fault (Some client) = sends_disconnect c client (pieces.disconnect_code fault)

        breaks_by : (c : ℕ) (fault : PacketFault) (client : Option (List ℕ)) → Does (pieces.BreaksBy c fault client)
        breaks_by c fault client = w.join (pieces.TellsBy c fault client) (λ _. ending.ClosesBy c client) (tells_by c fault client) (λ _. closes_by c client)

        breaks_if : (c : ℕ) (fault : Option PacketFault) → Does (pieces.BreaksIfOpen c fault)
        breaks_if c None = w.returns tt
        breaks_if c (Some fault) =
            w.looks (λ p h. is_open c h) (λ is. If is (pieces.Breaks c fault) (Returns tt))
            (λ is. w.by_test is (pieces.Breaks c fault) (Returns tt) (w.looks (λ p h. client_at c h) (pieces.BreaksBy c fault) (breaks_by c fault)) (w.returns tt))

        takes_all : (c : ℕ) (ps : List Packet) (fault : Option PacketFault) → Does (pieces.TakesPackets c ps fault)
        takes_all c ps fault = w.join (Each (pieces.AnswersIfOpen c) ps) (λ _. pieces.BreaksIfOpen c fault) (each (pieces.AnswersIfOpen c) ps (answers_if c)) (λ _. breaks_if c fault)

        feeds : (c : ℕ) (piece : List ℕ) (found : ConnectionView) → Does (pieces.Feeds c piece found)
        feeds c piece found =
            let cut = cut_of found.stream piece in
            w.join (Acting (λ p h. Connection (Fed c piece))) (λ _. pieces.TakesPackets c cut.packets cut.fault) (w.acting (λ p h. Connection (Fed c piece)) (λ p h. tt)) (λ _. takes_all c cut.packets cut.fault)

        piece_at : (c : ℕ) (piece : List ℕ) (found : Option ConnectionView) → Does (pieces.PieceAt c piece found)
        piece_at c piece None = w.returns tt
        piece_at c piece (Some found) =
            w.by_test found.stream.failed (pieces.Shuts c) (pieces.Feeds c piece found) (w.looks (λ p h. client_at c h) (ending.ClosesBy c) (closes_by c)) (feeds c piece found)

        parts_by : (client : Option (List ℕ)) → Does (pieces.PartsBy client)
        parts_by None = w.returns tt
        parts_by (Some client) = parts client

        leaves_by : (c : ℕ) (client : Option (List ℕ)) → Does (pieces.LeavesBy c client)
        leaves_by c client = w.join (Acting (λ p h. Connection (Closed c))) (λ _. pieces.PartsBy client) (w.acting (λ p h. Connection (Closed c)) (λ p h. tt)) (λ _. parts_by client)

        leaves_of : (c : ℕ) → Does (pieces.Leaves c)
        leaves_of c =
            let there : Option (Unit {0}) → Doing = Looks (λ p h. client_at c h) (pieces.LeavesBy c) in
            w.looks (λ p h. is_open c h) (λ is. If is there (Returns tt)) (λ is. w.by_test is there (Returns tt) (w.looks (λ p h. client_at c h) (pieces.LeavesBy c) (leaves_by c)) (w.returns tt))

        -- ---- room for PUBLISHes
        makes_room_by : (c bytes : ℕ) (client : Option (List ℕ)) → Does (giving.MakesRoomBy c bytes client)
        makes_room_by c bytes None = w.acting (λ p h. Connection (Roomed c bytes)) (λ p h. tt)
        makes_room_by c bytes (Some client) = w.join (Calls client (rooms bytes) stays) (λ _. Returns tt) (w.calls client (rooms bytes) stays) (λ _. w.returns tt)

        makes_room : (c bytes : ℕ) → Does (giving.MakesRoom c bytes)
        makes_room c bytes =
            let there : Option (Unit {0}) → Doing = Looks (λ p h. client_at c h) (giving.MakesRoomBy c bytes) in
            w.looks (λ p h. is_open c h) (λ is. If is there (Returns tt)) (λ is. w.by_test is there (Returns tt) (w.looks (λ p h. client_at c h) (giving.MakesRoomBy c bytes) (makes_room_by c bytes)) (w.returns tt))

        -- ---- what is due
        runs_out : (d : Due) → Does (due.RunsOut d)
        runs_out d =
            w.join (Calls d.1 ticks stays) (λ _. Then (ending.ClosesConnection d.0) (λ _. Then (Calls d.1 closes leaves) (λ _. Returns tt))) (w.calls d.1 ticks stays) (λ _.
            w.join (ending.ClosesConnection d.0) (λ _. Then (Calls d.1 closes leaves) (λ _. Returns tt)) (closes_of d.0) (λ _.
            w.join (Calls d.1 closes leaves) (λ _. Returns tt) (w.calls d.1 closes leaves) (λ _. w.returns tt)))

        does_due : Does due.DoesDue
        does_due =
            w.join due.EndsConnections (λ _. Then due.PublishesWills (λ _. due.EndsSessions))
            (w.looks (λ p h. run_outs h.sessions h.at) (Each due.RunsOut) (λ ds. each due.RunsOut ds runs_out)) (λ _.
            w.join due.PublishesWills (λ _. due.EndsSessions)
            (w.looks (λ p h. wills_due h.sessions h.at) (Each due.TicksOf) (λ ds. each due.TicksOf ds (λ d. ticks_of d.1))) (λ _.
            w.looks (λ p h. ends_due h.sessions h.at) (Each due.TicksOf) (λ ds. each due.TicksOf ds (λ d. ticks_of d.1))))

        parts_from : (client : List ℕ) → Does (due.PartsFrom client)
        parts_from client = w.join (Calls client closes leaves) (λ _. Returns tt) (w.calls client closes leaves) (λ _. w.returns tt)

        -- ---- clients whose home is elsewhere
        redirects : (c : ℕ) (client address : List ℕ) → Does (Redirects c client address)
        redirects c client address =
            w.looks (λ p h. takes_packet client (moved_packet address) h) (λ taken. If taken (Sends c (moved_packet address)) (Returns tt))
            (λ taken. w.by_test taken (Sends c (moved_packet address)) (Returns tt) (sends c (moved_packet address)) (w.returns tt))

        redirects_by : (c : ℕ) (client : List ℕ) (address : Option (List ℕ)) → Does (moving.RedirectsBy c client address)
        redirects_by c client None = w.returns tt
        redirects_by c client (Some address) = redirects c client address

        redirects_home : (c : ℕ) (client : List ℕ) → Does (moving.RedirectsHome c client)
        redirects_home c client =
            w.finds (ending.IsAtHome client) (moving.RedirectsTo c client) (λ node. w.looks (λ p h. connecting.address_of h node) (moving.RedirectsBy c client) (redirects_by c client))

        parts_on : (client : List ℕ) (on : Option ℕ) → Does (moving.PartsOn client on)
        parts_on client None = w.returns tt
        parts_on client (Some c) = w.join (moving.RedirectsHome c client) (λ _. ending.ClosesFor c client) (redirects_home c client) (λ _. closes_for c client)

        moves_away : (client : List ℕ) → Does (moving.MovesAway client)
        moves_away client =
            w.join (moving.PartsWays client) (λ _. ending.Finishes client) (w.looks (λ p h. connection_at client h) (moving.PartsOn client) (parts_on client)) (λ _. finishes_of client)

        sends_away : Does tables.SendsAway
        sends_away = w.finds tables.AreAway (Each moving.MovesAway) (λ away. each moving.MovesAway away moves_away)

        takes_table : (homes : Table) → Does (tables.TakesTable homes)
        takes_table homes =
            w.looks (tables.is_newer_table homes) (λ newer. If newer (tables.TakesNewerTable homes) (Misses TableRefused))
            (λ newer. w.by_test newer (tables.TakesNewerTable homes) (Misses TableRefused)
            (w.join (Acting (λ p h. Moved homes)) (λ _. tables.SendsAway) (w.acting (λ p h. Moved homes) (λ p h. tt)) (λ _. sends_away)) (misses TableRefused))

        starts : Does due.Starts
        starts =
            w.join (Acting (λ p h. Began)) (λ _. Then due.ClosesStored (λ _. Then due.DoesDue (λ _. tables.SendsAway))) (w.acting (λ p h. Began) (λ p h. tt)) (λ _.
            w.join due.ClosesStored (λ _. Then due.DoesDue (λ _. tables.SendsAway)) (w.looks (λ p h. connected h.sessions) (Each due.PartsFrom) (λ cs. each due.PartsFrom cs parts_from)) (λ _.
            w.join due.DoesDue (λ _. tables.SendsAway) does_due (λ _. sends_away)))

        -- ---- frames
        gives_frame : (f : BridgeFrame) → Does (GivesFrame f)
        gives_frame f = w.by_test (is_small f) (Acting (λ p h. Bridge (Gave f))) (Misses FrameTooLarge) (w.acting (λ p h. Bridge (Gave f)) (λ p h. tt)) (misses FrameTooLarge)

        gives : (peer : ℕ) (body : HeldView → FrameBody) → Does (GivesBody peer body)
        gives peer body = w.looks (λ p h. record { from = p.id; to = peer; body = body h }) GivesFrame gives_frame

        greets : (peer : ℕ) → Does (bridge.Greets peer)
        greets peer =
            w.looks (λ p h. is_other p peer) (λ other. If other (GivesBody peer (hello_to peer)) (Returns tt))
            (λ other. w.by_test other (GivesBody peer (hello_to peer)) (Returns tt) (gives peer (hello_to peer)) (w.returns tt))

        gives_state : (peer : ℕ) (s : Option State) → Does (bridge.GivesState peer s)
        gives_state peer None = w.returns tt
        gives_state peer (Some s) = gives peer (λ h. Delta s)

        ships_to : (peer : ℕ) → Does (bridge.ShipsTo peer)
        ships_to peer =
            w.join (bridge.ShipsState peer) (λ _. bridge.ShipsMessages peer) (w.finds (bridge.AreShipped peer) (bridge.GivesState peer) (gives_state peer))
            (λ _. w.looks (λ p h. first_frames p.id peer (lane_to h.bridge peer)) (Each GivesFrame) (λ fs. each GivesFrame fs gives_frame))

        ships : (peer : ℕ) → Does (bridge.Ships peer)
        ships peer =
            w.looks (λ p h. is_other p peer) (λ other. If other (bridge.ShipsTo peer) (Returns tt))
            (λ other. w.by_test other (bridge.ShipsTo peer) (Returns tt) (ships_to peer) (w.returns tt))

        ships_more_to : (peer after : ℕ) → Does (bridge.ShipsMoreTo peer after)
        ships_more_to peer after =
            w.join (bridge.ShipsState peer) (λ _. bridge.ShipsLater peer after) (w.finds (bridge.AreShipped peer) (bridge.GivesState peer) (gives_state peer))
            (λ _. w.looks (λ p h. frames_after p.id peer after (lane_to h.bridge peer)) (Each GivesFrame) (λ fs. each GivesFrame fs gives_frame))

        ships_more : (peer after : ℕ) → Does (bridge.ShipsMore peer after)
        ships_more peer after =
            w.looks (λ p h. is_other p peer) (λ other. If other (bridge.ShipsMoreTo peer after) (Returns tt))
            (λ other. w.by_test other (bridge.ShipsMoreTo peer after) (Returns tt) (ships_more_to peer after) (w.returns tt))

        tells_taken : (from : ℕ) → Does (bridge.TellsTaken from)
        tells_taken from = gives from (λ h. Know h.store.taken)

        takes_next : (from number : ℕ) (m : Forward) → Does (bridge.TakesNext from number m)
        takes_next from number m =
            w.looks (λ p h. is_next from number h.bridge) (λ next. If next (passing.TakesForward from number m) (Returns tt))
            (λ next. w.by_test next (passing.TakesForward from number m) (Returns tt) (takes_forward from number m) (w.returns tt))

        takes_body : (from : ℕ) (body : FrameBody) → Does (bridge.TakesBody from body)
        takes_body from (Hello g) = w.join (Acting (λ p h. Bridge (Greeted from g))) (λ _. bridge.TellsTaken from) (w.acting (λ p h. Bridge (Greeted from g)) (λ p h. tt)) (λ _. tells_taken from)
        takes_body from (Delta s) = w.join (Acting (λ p h. Store (Merged s))) (λ _. bridge.TellsTaken from) (w.acting (λ p h. Store (Merged s)) (λ p h. tt)) (λ _. tells_taken from)
        takes_body from (Know dots) = w.acting (λ p h. Bridge (Believed from dots)) (λ p h. tt)
        takes_body from (Carried number m) =
            w.join (bridge.TakesNext from number m) (λ _. GivesBody from (λ h. Got (lane_to h.bridge from).took)) (takes_next from number m) (λ _. gives from (λ h. Got (lane_to h.bridge from).took))
        takes_body from (Got number) = w.acting (λ p h. Bridge (GotBy from number)) (λ p h. tt)

        hears_frame : (frame : Option BridgeFrame) → Does (bridge.HearsFrame frame)
        hears_frame None = misses BadFrame
        hears_frame (Some frame) =
            w.looks (λ p h. is_for_node p frame) (λ here. If here (bridge.TakesBody frame.from frame.body) (Misses BadFrame))
            (λ here. w.by_test here (bridge.TakesBody frame.from frame.body) (Misses BadFrame) (takes_body frame.from frame.body) (misses BadFrame))

        -- ---- events
        answers_kind : (kind : EventKind) → e.kind ≡ kind → Does (turns.AnswersEvent kind)
        answers_kind kinds.Started is = w.returns tt
        answers_kind (kinds.Opened c) is =
            let opens : Option (Unit {0}) → Doing = Acting (λ p h. Connection (Opened c)) in
            w.looks (λ p h. is_open c h) (λ there. If there (Returns tt) opens) (λ there. w.by_test there (Returns tt) opens (w.returns tt) (w.acting (λ p h. Connection (Opened c)) (λ p h. tt)))
        answers_kind (kinds.Piece c bytes) is = w.looks (λ p h. map.get h.connections c) (pieces.PieceAt c bytes) (piece_at c bytes)
        answers_kind (kinds.Closed c) is = leaves_of c
        answers_kind (kinds.Room c bytes) is = makes_room c bytes
        answers_kind (kinds.Frame bytes) is = hears_frame (frame_in bytes)
        answers_kind (kinds.Linked peer) is = greets peer
        answers_kind (kinds.Ship peer) is = ships peer
        answers_kind (kinds.More peer after) is = ships_more peer after
        answers_kind kinds.Tick is = w.returns tt
        answers_kind (kinds.Evict client) is = evicts client is
        answers_kind (kinds.Table homes) is = takes_table homes

        after_due : (kind : EventKind) → e.kind ≡ kind → Does (Then due.DoesDue (λ _. turns.AnswersEvent kind))
        after_due kind is = w.join due.DoesDue (λ _. turns.AnswersEvent kind) does_due (λ _. answers_kind kind is)

        goes_on : (kind : EventKind) → e.kind ≡ kind → Does (turns.AnswersAfterDue kind)
        goes_on kinds.Started is = w.returns tt
        goes_on (kinds.Opened c) is = after_due (kinds.Opened c) is
        goes_on (kinds.Piece c bytes) is = after_due (kinds.Piece c bytes) is
        goes_on (kinds.Closed c) is = after_due (kinds.Closed c) is
        goes_on (kinds.Room c bytes) is = after_due (kinds.Room c bytes) is
        goes_on (kinds.Frame bytes) is = after_due (kinds.Frame bytes) is
        goes_on (kinds.Linked peer) is = after_due (kinds.Linked peer) is
        goes_on (kinds.Ship peer) is = after_due (kinds.Ship peer) is
        goes_on (kinds.More peer after) is = after_due (kinds.More peer after) is
        goes_on kinds.Tick is = after_due kinds.Tick is
        goes_on (kinds.Evict client) is = after_due (kinds.Evict client) is
        goes_on (kinds.Table homes) is = after_due (kinds.Table homes) is

        first_turn : (kind : EventKind) → Does (turns.AwaitsStart kind)
        first_turn kinds.Started = starts
        first_turn (kinds.Opened c) = w.returns tt
        first_turn (kinds.Piece c bytes) = w.returns tt
        first_turn (kinds.Closed c) = w.returns tt
        first_turn (kinds.Room c bytes) = w.returns tt
        first_turn (kinds.Frame bytes) = w.returns tt
        first_turn (kinds.Linked peer) = w.returns tt
        first_turn (kinds.Ship peer) = w.returns tt
        first_turn (kinds.More peer after) = w.returns tt
        first_turn kinds.Tick = w.returns tt
        first_turn (kinds.Evict client) = w.returns tt
        first_turn (kinds.Table homes) = w.returns tt

        pub decides : Does (turns.Decides e)
        decides =
            w.join (TakesMoment e.at) (λ _. turns.Turn e.kind) moment
            (λ _. w.looks (λ p h. h.started) (λ is. If is (turns.AnswersAfterDue e.kind) (turns.AwaitsStart e.kind)) (λ is. w.by_test is (turns.AnswersAfterDue e.kind) (turns.AwaitsStart e.kind) (goes_on e.kind refl) (first_turn e.kind)))
