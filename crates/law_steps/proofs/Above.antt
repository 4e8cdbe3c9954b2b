-- What holds of work on connections, frames and whole events, by what holds of its parts.
use Rattle.std.specs.FinMap as map
use Rattle.std.proofs.Common.{ℕ, ◌==◌, Bool, true, false, List, Option, Some, None, []}
use Rattle.mqtt_packets.specs.declared.connect.Connect.{Connect}
use Rattle.mqtt_packets.specs.declared.fault.PacketFault.{PacketFault}
use Rattle.mqtt_packets.specs.declared.packet.Packet.{Packet}
use Rattle.mqtt_packets.specs.declared.packet.Packet.TheVariants as packets
use Rattle.mqtt_sessions.specs.declared.reaction.Ask.{Ask}
use Rattle.mqtt_sessions.specs.declared.reaction.Ask.TheVariants as asks
use Rattle.mqtt_sessions.specs.Answers.{disconnect, fits}
use Rattle.mqtt_sessions.specs.Reaction.{Reaction}
use Rattle.mqtt_sessions.specs.State.{limit_in}
use Rattle.home_table.specs.Table.{Table}
use Rattle.law_sessions.specs.Runs.{connects, rooms, answers, closes}
use Rattle.session_table.specs.Calls.{stays, leaves, moves}
use Rattle.session_table.specs.Seats.{wills_due, ends_due, connected}
use Rattle.node_work.specs.declared.counts.Missed.TheVariants.{TableRefused}
use Rattle.node_work.specs.declared.granted.Granted.{Granted}
use Rattle.node_work.specs.declared.outcome.Output.TheVariants.{Close}
use Rattle.node_work.specs.Acts.{Began, Moved, Connection, Session, Out, Named}
use Rattle.node_work.specs.Calling.{Calls}
use Rattle.node_work.specs.Doings.{Sends, Disconnects, Misses, OpensConnection, Redirects}
use Rattle.node_work.specs.Held.Connections.{Opened, Accepted, Roomed, Closed, Fed, is_open, client_at, first_at, room_at}
use Rattle.node_work.specs.Held.Feeding.{cut_of}
use Rattle.node_work.specs.Held.Sessions.{Begun, takes_disconnect, takes_packet, connection_at, has_session}
use Rattle.node_work.specs.Packets.{moved_packet, refused_packet}
use Rattle.node_work.specs.View.{ConnectionView}
use Rattle.node_work.specs.Working.{Doing, Returns, Acting, Looks, FindsWhere, If, Then, InTurn, Each}
use Rattle.node_clients.specs.Connecting as connecting
use Rattle.node_clients.specs.Ending as ending
use Rattle.node_clients.specs.Moving as moving
use Rattle.node_clients.specs.Naming.{IsNextNumber, automatic}
use Rattle.node_clients.specs.Pieces as pieces
use Rattle.node_clients.specs.Rooms as giving
use Rattle.node_clients.specs.Serving as serving
use Rattle.node_clients.specs.Subscribing as subscribing
use Rattle.node_clients.specs.Unsubscribing as unsubscribing
use Rattle.node_clients.specs.Passing as passing
use Rattle.broker_node.specs.Due as due
use Rattle.broker_node.specs.Moving as tables
use Rattle.law_steps.proofs.Below.{Low, each, in_turn, passes, grants, unsubscribed, offers, due_of}

-- what holds of the parts: acts on connections, packets of the node's own, and calls that other acts follow
pub record High (K : (A : Type 0) → (Option A → Doing) → Type 0) : Type 0 where
  pub sends : (c : ℕ) (packet : Packet) → K (Unit {0}) (Sends c packet)
  pub closed : (c : ℕ) → K (Unit {0}) (Acting (λ p h. Connection (Closed c)))
  pub close : (c : ℕ) → K (Unit {0}) (Acting (λ p h. Out (Close c)))
  pub fed : (c : ℕ) (piece : List ℕ) → K (Unit {0}) (Acting (λ p h. Connection (Fed c piece)))
  pub accepted : (c : ℕ) (client : List ℕ) → K (Unit {0}) (Acting (λ p h. Connection (Accepted c client)))
  pub roomed : (c bytes : ℕ) → K (Unit {0}) (Acting (λ p h. Connection (Roomed c bytes)))
  pub begun : (client : List ℕ) → K (Unit {0}) (Acting (λ p h. Session (Begun client)))
  pub joined : (c : ℕ) (client : List ℕ) (q : Connect) (continued : Bool) (room : Option ℕ) → K Reaction (Calls client (connects q continued room) (moves c))
  pub named : (number : ℕ) → K (Unit {0}) (Acting (λ p h. Named number))
  pub began : K (Unit {0}) (Acting (λ p h. Began))
  pub moved : (homes : Table) → K (Unit {0}) (Acting (λ p h. Moved homes))
  pub ticks_of : (client : List ℕ) → K (Unit {0}) (ending.Ticks client)
  pub finishes_of : (client : List ℕ) → K (Unit {0}) (ending.Finishes client)
  pub run_out : K (Unit {0}) due.EndsConnections

module _ (K : (A : Type 0) → (Option A → Doing) → Type 0) (w : Low K) (a : High K) where
  abbrev Does : (Option (Unit {0}) → Doing) → Type 0
  Does P = K (Unit {0}) P

  disconnects : (c : ℕ) (client : List ℕ) (code : ℕ) → Does (Disconnects c client code)
  disconnects c client code =
      w.looks (λ p h. takes_disconnect client code h) (λ taken. If taken (Sends c (disconnect code)) (Returns tt))
      (λ taken. w.by_test taken (Sends c (disconnect code)) (Returns tt) (a.sends c (disconnect code)) (w.returns tt))

  -- ---- closes
  closes_of : (c : ℕ) → Does (ending.ClosesConnection c)
  closes_of c = w.join (Acting (λ p h. Connection (Closed c))) (λ _. Acting (λ p h. Out (Close c))) (a.closed c) (λ _. a.close c)

  pub parts : (client : List ℕ) → Does (ending.Parts client)
  parts client = w.join (Calls client closes leaves) (λ _. ending.DoesDueOf client) (w.calls client closes leaves (λ at. tt)) (λ _. due_of K w a.ticks_of client)

  closes_for : (c : ℕ) (client : List ℕ) → Does (ending.ClosesFor c client)
  closes_for c client = w.join (ending.ClosesConnection c) (λ _. ending.Parts client) (closes_of c) (λ _. parts client)

  pub closes_after : (end : Option ℕ) (c : ℕ) (client : List ℕ) → Does (ending.ClosesAfter end c client)
  closes_after None c client = w.returns tt
  closes_after (Some code) c client = closes_for c client

  closes_by : (c : ℕ) (client : Option (List ℕ)) → Does (ending.ClosesBy c client)
  closes_by c None = closes_of c
  closes_by c (Some client) = closes_for c client

  -- ---- SUBSCRIBE and UNSUBSCRIBE
  offers_after : (end : Option ℕ) (c : ℕ) (client : List ℕ) (packet : ℕ) (given : List Granted) → Does (subscribing.OffersAfter end c client packet given)
  offers_after None c client packet given = offers K w client packet given
  offers_after (Some code) c client packet given = closes_for c client

  acknowledges : (c : ℕ) (client : List ℕ) (packet : ℕ) (given : List Granted) → Does (subscribing.SendsSuback c client packet given)
  acknowledges c client packet given =
      w.join (Calls client (λ at. answers packet (subscribing.granted_reasons given)) stays) (λ r. subscribing.OffersAfter r.end c client packet given) (w.calls client (λ at. answers packet (subscribing.granted_reasons given)) stays (λ at. tt))
      (λ r. offers_after r.end c client packet given)

  unacknowledges : (c : ℕ) (client : List ℕ) (packet : ℕ) (codes : List ℕ) → Does (unsubscribing.SendsUnsuback c client packet codes)
  unacknowledges c client packet codes =
      w.join (Calls client (λ at. answers packet codes) stays) (λ r. ending.ClosesAfter r.end c client) (w.calls client (λ at. answers packet codes) stays (λ at. tt)) (λ r. closes_after r.end c client)

  subscribes_by : (c : ℕ) (client : List ℕ) (k : Packet) → Does (serving.SubscribesBy c client k)
  subscribes_by c client (packets.Subscribe q) =
      w.join (InTurn (subscribing.Grants client (subscribing.identifier_of q)) q.filters []) (subscribing.SendsSuback c client q.identifier)
      (in_turn K w (subscribing.Grants client (subscribing.identifier_of q)) q.filters [] (grants K w client (subscribing.identifier_of q))) (acknowledges c client q.identifier)
  subscribes_by c client _ = w.returns tt

  unsubscribes_by : (c : ℕ) (client : List ℕ) (k : Packet) → Does (serving.UnsubscribesBy c client k)
  unsubscribes_by c client (packets.Unsubscribe u) =
      w.join (InTurn (unsubscribing.Unsubscribed client) u.filters []) (unsubscribing.SendsUnsuback c client u.identifier)
      (in_turn K w (unsubscribing.Unsubscribed client) u.filters [] (unsubscribed K w client)) (unacknowledges c client u.identifier)
  unsubscribes_by c client _ = w.returns tt

  -- ---- what a packet of an accepted client comes to, after the call of its session
  does_asked : (ask : Option Ask) (c : ℕ) (client : List ℕ) (k : Packet) (room : Bool) (end : Option ℕ) → Does (serving.DoesAsked ask c client k room end)
  does_asked None c client k room end = w.by_test (serving.is_dropped k room end) passing.Drops (Returns tt) w.dropped (w.returns tt)
  does_asked (Some (asks.Pass m)) c client k room end = passes K w m
  does_asked (Some asks.Subscribe) c client k room end = subscribes_by c client k
  does_asked (Some asks.Unsubscribe) c client k room end = unsubscribes_by c client k

  pub does_reaction : (c : ℕ) (client : List ℕ) (k : Packet) (room : Bool) (r : Reaction) → Does (serving.DoesReaction c client k room r)
  does_reaction c client k room r =
      w.join (serving.DoesAsked r.ask c client k room r.end) (λ _. ending.ClosesAfter r.end c client) (does_asked r.ask c client k room r.end) (λ _. closes_after r.end c client)

  -- ---- CONNECT
  refuses : (c : ℕ) (p : Connect) (code : ℕ) (reference : Option (List ℕ)) → Does (connecting.RefusesConnect c p code reference)
  refuses c p code reference =
      let packet = refused_packet code reference in
      let fitting = fits (limit_in p.properties) packet in
      w.join (connecting.SendsIf fitting c packet) (λ _. ending.ClosesConnection c) (w.by_test fitting (Sends c packet) (Returns tt) (a.sends c packet) (w.returns tt)) (λ _. closes_of c)

  takes_over_from : (client : List ℕ) (on : Option ℕ) → Does (connecting.TakesOverFrom client on)
  takes_over_from client None = w.returns tt
  takes_over_from client (Some older) = w.join (Disconnects older client 142) (λ _. ending.ClosesFor older client) (disconnects older client 142) (λ _. closes_for older client)

  cleans : (clean : Bool) (client : List ℕ) → Does (connecting.Cleans clean client)
  cleans false client = w.returns tt
  cleans true client =
      w.looks (λ p h. has_session client h) (λ has. If has (ending.Finishes client) (Returns tt)) (λ has. w.by_test has (ending.Finishes client) (Returns tt) (a.finishes_of client) (w.returns tt))

  joins : (continued : Bool) (c : ℕ) (client : List ℕ) (p : Connect) (room : Option ℕ) → K Reaction (connecting.JoinsBy continued c client p room)
  joins true c client p room = a.joined c client p true room
  joins false c client p room =
      w.join (Acting (λ place h. Session (Begun client))) (λ _. Calls client (connects p false room) (moves c)) (a.begun client) (λ _. a.joined c client p false room)

  joins_in : (c : ℕ) (client : List ℕ) (p : Connect) (room : Option ℕ) → K Reaction (connecting.JoinsIn c client p room)
  joins_in c client p room = w.looks (λ place h. has_session client h) (λ has. connecting.JoinsBy has c client p room) (λ has. joins has c client p room)

  begins : (c : ℕ) (client : List ℕ) (p : Connect) → Does (connecting.BeginsSession c client p)
  begins c client p =
      w.join (Acting (λ place h. Connection (Accepted c client))) (λ _. Then (connecting.Joins c client p) (λ r. ending.ClosesAfter r.end c client)) (a.accepted c client) (λ _.
      w.join (connecting.Joins c client p) (λ r. ending.ClosesAfter r.end c client) (w.looks (λ place h. room_at c h) (connecting.JoinsIn c client p) (joins_in c client p)) (λ r. closes_after r.end c client))

  accepts : (c : ℕ) (p : Connect) (client : List ℕ) → Does (connecting.Accepts c p client)
  accepts c p client =
      w.join (connecting.TakesOver client) (λ _. Then (connecting.Cleans p.clean_start client) (λ _. connecting.BeginsSession c client p))
      (w.looks (λ place h. connection_at client h) (connecting.TakesOverFrom client) (takes_over_from client)) (λ _.
      w.join (connecting.Cleans p.clean_start client) (λ _. connecting.BeginsSession c client p) (cleans p.clean_start client) (λ _. begins c client p))

  names_by : (c : ℕ) (p : Connect) (number : Option ℕ) → Does (connecting.NamesBy c p number)
  names_by c p None = w.stops
  names_by c p (Some number) =
      w.join (Acting (λ place h. Named number)) (λ _. Looks (λ place h. automatic place.id number) (connecting.Accepts c p)) (a.named number)
      (λ _. w.looks (λ place h. automatic place.id number) (connecting.Accepts c p) (accepts c p))

  comes_home : (c : ℕ) (p : Connect) (node : ℕ) → Does (connecting.ComesHome c p node)
  comes_home c p node =
      w.looks (λ place h. node == place.id) (λ here. If here (connecting.AcceptsAs c p p.client) (connecting.Refers c p node))
      (λ here. w.by_test here (connecting.AcceptsAs c p p.client) (connecting.Refers c p node)
      (w.by_whether (connecting.WillIsNamed p.will) (connecting.Accepts c p p.client) (connecting.RefusesConnect c p 144 None) (accepts c p p.client) (refuses c p 144 None))
      (w.looks (λ place h. connecting.address_of h node) (λ reference. connecting.RefusesConnect c p 156 reference) (λ reference. refuses c p 156 reference)))

  connects_at : (bare : Bool) (c : ℕ) (p : Connect) → Does (connecting.ConnectsAt bare c p)
  connects_at true c p =
      w.by_whether (connecting.WillIsNamed p.will) (FindsWhere IsNextNumber (connecting.NamesBy c p)) (connecting.RefusesConnect c p 144 None) (w.finds IsNextNumber (connecting.NamesBy c p) (names_by c p)) (refuses c p 144 None)
  connects_at false c p = w.finds (ending.IsAtHome p.client) (connecting.ComesHome c p) (comes_home c p)

  connects_by : (code : Option ℕ) (c : ℕ) (p : Connect) → Does (connecting.ConnectsBy code c p)
  connects_by (Some code) c p = refuses c p code None
  connects_by None c p = connects_at _ c p

  -- ---- pieces
  first : (c : ℕ) (k : Packet) → Does (pieces.AnswersFirstPacket c k)
  first c (packets.Connect p) = connects_by _ c p
  first c _ = closes_of c

  module _ (serves : (c : ℕ) (client : List ℕ) (k : Packet) → Does (serving.ServesPacket c client k)) (no_refusal : (c : ℕ) → Does (pieces.SendsRefusal c None)) (some_refusal : (c code : ℕ) → Does (Sends c (refused_packet code None)) → Does (pieces.SendsRefusal c (Some code)))
      (no_disconnect : (c : ℕ) (client : List ℕ) → Does (pieces.SendsDisconnect c client None)) (some_disconnect : (c : ℕ) (client : List ℕ) (code : ℕ) → Does (Disconnects c client code) → Does (pieces.SendsDisconnect c client (Some code))) where
    answers_by : (c : ℕ) (k : Packet) (client : Option (List ℕ)) → Does (pieces.AnswersPacketBy c k client)
    answers_by c k None = first c k
    answers_by c k (Some client) = serves c client k

    answers_if : (c : ℕ) (k : Packet) → Does (pieces.AnswersIfOpen c k)
    answers_if c k =
        w.looks (λ p h. is_open c h) (λ is. If is (pieces.AnswersPacket c k) (Returns tt))
        (λ is. w.by_test is (pieces.AnswersPacket c k) (Returns tt) (w.looks (λ p h. client_at c h) (pieces.AnswersPacketBy c k) (answers_by c k)) (w.returns tt))

    sends_refusal : (c : ℕ) (code : Option ℕ) → Does (pieces.SendsRefusal c code)
    sends_refusal c None = no_refusal c
    sends_refusal c (Some code) = some_refusal c code (a.sends c (refused_packet code None))

    sends_disconnect : (c : ℕ) (client : List ℕ) (code : Option ℕ) → Does (pieces.SendsDisconnect c client code)
    sends_disconnect c client None = no_disconnect c client
    sends_disconnect c client (Some code) = some_disconnect c client code (disconnects c client code)

    tells_by : (c : ℕ) (fault : PacketFault) (client : Option (List ℕ)) → Does (pieces.TellsBy c fault client)
    tells_by c fault None =
        w.looks (λ p h. pieces.is_connect (first_at c h)) (λ is. If is (pieces.SendsRefusal c (pieces.connack_code fault)) (Returns tt))
        (λ is. w.by_test is (pieces.SendsRefusal c (pieces.connack_code fault)) (Returns tt) (sends_refusal c (pieces.connack_code fault)) (w.returns tt))
    tells_by c fault (Some client) = sends_disconnect c client (pieces.disconnect_code fault)

    breaks_by : (c : ℕ) (fault : PacketFault) (client : Option (List ℕ)) → Does (pieces.BreaksBy c fault client)
    breaks_by c fault client = w.join (pieces.TellsBy c fault client) (λ _. ending.ClosesBy c client) (tells_by c fault client) (λ _. closes_by c client)

    breaks_if : (c : ℕ) (fault : Option PacketFault) → Does (pieces.BreaksIfOpen c fault)
    breaks_if c None = w.returns tt
    breaks_if c (Some fault) =
        w.looks (λ p h. is_open c h) (λ is. If is (pieces.Breaks c fault) (Returns tt))
        (λ is. w.by_test is (pieces.Breaks c fault) (Returns tt) (w.looks (λ p h. client_at c h) (pieces.BreaksBy c fault) (breaks_by c fault)) (w.returns tt))

    feeds : (c : ℕ) (piece : List ℕ) (found : ConnectionView) → Does (pieces.Feeds c piece found)
    feeds c piece found =
        let cut = cut_of found.stream piece in
        w.join (Acting (λ p h. Connection (Fed c piece))) (λ _. pieces.TakesPackets c cut.packets cut.fault) (a.fed c piece) (λ _.
        w.join (Each (pieces.AnswersIfOpen c) cut.packets) (λ _. pieces.BreaksIfOpen c cut.fault) (each K w (pieces.AnswersIfOpen c) cut.packets (answers_if c)) (λ _. breaks_if c cut.fault))

    piece_at : (c : ℕ) (piece : List ℕ) (found : Option ConnectionView) → Does (pieces.PieceAt c piece found)
    piece_at c piece None = w.returns tt
    piece_at c piece (Some found) =
        w.by_test found.stream.failed (pieces.Shuts c) (pieces.Feeds c piece found) (w.looks (λ p h. client_at c h) (ending.ClosesBy c) (closes_by c)) (feeds c piece found)

    pub piece_of : (c : ℕ) (piece : List ℕ) → Does (pieces.Piece c piece)
    piece_of c piece = w.looks (λ p h. map.get h.connections c) (pieces.PieceAt c piece) (piece_at c piece)

  parts_by : (client : Option (List ℕ)) → Does (pieces.PartsBy client)
  parts_by None = w.returns tt
  parts_by (Some client) = parts client

  leaves_by : (c : ℕ) (client : Option (List ℕ)) → Does (pieces.LeavesBy c client)
  leaves_by c client = w.join (Acting (λ p h. Connection (Closed c))) (λ _. pieces.PartsBy client) (a.closed c) (λ _. parts_by client)

  pub leaves_of : (c : ℕ) → Does (pieces.Leaves c)
  leaves_of c =
      let there : Option (Unit {0}) → Doing = Looks (λ p h. client_at c h) (pieces.LeavesBy c) in
      w.looks (λ p h. is_open c h) (λ is. If is there (Returns tt)) (λ is. w.by_test is there (Returns tt) (w.looks (λ p h. client_at c h) (pieces.LeavesBy c) (leaves_by c)) (w.returns tt))

  -- ---- room for PUBLISHes
  makes_room_by : (c bytes : ℕ) (client : Option (List ℕ)) → Does (giving.MakesRoomBy c bytes client)
  makes_room_by c bytes None = a.roomed c bytes
  makes_room_by c bytes (Some client) = w.join (Calls client (rooms bytes) stays) (λ _. Returns tt) (w.calls client (rooms bytes) stays (λ at. tt)) (λ _. w.returns tt)

  pub makes_room : (c bytes : ℕ) → Does (giving.MakesRoom c bytes)
  makes_room c bytes =
      let there : Option (Unit {0}) → Doing = Looks (λ p h. client_at c h) (giving.MakesRoomBy c bytes) in
      w.looks (λ p h. is_open c h) (λ is. If is there (Returns tt)) (λ is. w.by_test is there (Returns tt) (w.looks (λ p h. client_at c h) (giving.MakesRoomBy c bytes) (makes_room_by c bytes)) (w.returns tt))

  -- ---- what is due
  pub does_due : Does due.DoesDue
  does_due =
      w.join due.EndsConnections (λ _. Then due.PublishesWills (λ _. due.EndsSessions)) a.run_out (λ _.
      w.join due.PublishesWills (λ _. due.EndsSessions)
      (w.looks (λ p h. wills_due h.sessions h.at) (Each due.TicksOf) (λ ds. each K w due.TicksOf ds (λ d. a.ticks_of d.1))) (λ _.
      w.looks (λ p h. ends_due h.sessions h.at) (Each due.TicksOf) (λ ds. each K w due.TicksOf ds (λ d. a.ticks_of d.1))))

  parts_from : (client : List ℕ) → Does (due.PartsFrom client)
  parts_from client = w.join (Calls client closes leaves) (λ _. Returns tt) (w.calls client closes leaves (λ at. tt)) (λ _. w.returns tt)

  -- ---- clients whose home is elsewhere
  redirects : (c : ℕ) (client address : List ℕ) → Does (Redirects c client address)
  redirects c client address =
      w.looks (λ p h. takes_packet client (moved_packet address) h) (λ taken. If taken (Sends c (moved_packet address)) (Returns tt))
      (λ taken. w.by_test taken (Sends c (moved_packet address)) (Returns tt) (a.sends c (moved_packet address)) (w.returns tt))

  redirects_by : (c : ℕ) (client : List ℕ) (address : Option (List ℕ)) → Does (moving.RedirectsBy c client address)
  redirects_by c client None = w.returns tt
  redirects_by c client (Some address) = redirects c client address

  redirects_home : (c : ℕ) (client : List ℕ) → Does (moving.RedirectsHome c client)
  redirects_home c client =
      w.finds (ending.IsAtHome client) (moving.RedirectsTo c client) (λ node. w.looks (λ p h. connecting.address_of h node) (moving.RedirectsBy c client) (redirects_by c client))

  parts_on : (client : List ℕ) (on : Option ℕ) → Does (moving.PartsOn client on)
  parts_on client None = w.returns tt
  parts_on client (Some c) = w.join (moving.RedirectsHome c client) (λ _. ending.ClosesFor c client) (redirects_home c client) (λ _. closes_for c client)

  moves_away : (client : List ℕ) → Does (moving.MovesAway client)
  moves_away client =
      w.join (moving.PartsWays client) (λ _. ending.Finishes client) (w.looks (λ p h. connection_at client h) (moving.PartsOn client) (parts_on client)) (λ _. a.finishes_of client)

  sends_away : Does tables.SendsAway
  sends_away = w.finds tables.AreAway (Each moving.MovesAway) (λ away. each K w moving.MovesAway away moves_away)

  pub takes_table : (homes : Table) → Does (tables.TakesTable homes)
  takes_table homes =
      w.looks (tables.is_newer_table homes) (λ newer. If newer (tables.TakesNewerTable homes) (Misses TableRefused))
      (λ newer. w.by_test newer (tables.TakesNewerTable homes) (Misses TableRefused)
      (w.join (Acting (λ p h. Moved homes)) (λ _. tables.SendsAway) (a.moved homes) (λ _. sends_away)) (w.missed TableRefused tt))

  pub starts : Does due.Starts
  starts =
      w.join (Acting (λ p h. Began)) (λ _. Then due.ClosesStored (λ _. Then due.DoesDue (λ _. tables.SendsAway))) a.began (λ _.
      w.join due.ClosesStored (λ _. Then due.DoesDue (λ _. tables.SendsAway)) (w.looks (λ p h. connected h.sessions) (Each due.PartsFrom) (λ cs. each K w due.PartsFrom cs parts_from)) (λ _.
      w.join due.DoesDue (λ _. tables.SendsAway) does_due (λ _. sends_away)))

  -- ---- a connection is opened
  pub opens : (c : ℕ) → Does (Acting (λ p h. Connection (Opened c))) → Does (OpensConnection c)
  opens c opened =
      w.looks (λ p h. is_open c h) (λ there. If there (Returns tt) (Acting (λ p h. Connection (Opened c)))) (λ there. w.by_test there (Returns tt) (Acting (λ p h. Connection (Opened c))) (w.returns tt) opened)
