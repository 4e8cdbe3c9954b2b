-- What a node makes of each event.
use Rattle.std.proofs.Common.{refl, ℕ, ◌^◌, nat_lt, not, List, Option, Some, None}
use Rattle.std.specs.FinMap as map
use Rattle.mqtt_packets.specs.declared.fault.PacketFault.{PacketFault}
use Rattle.mqtt_packets.specs.declared.packet.Packet.{Packet}
use Rattle.mqtt_packets.specs.declared.packet.Packet.TheVariants as packets
use Rattle.session_table.specs.Dues.{Due}
use Rattle.law_sessions.specs.Runs.{closes, rooms, ticks}
use Rattle.session_table.specs.Calls.{stays, leaves}
use Rattle.session_table.specs.Seats.{run_outs, wills_due, ends_due, connected}
use Rattle.bridge_deltas.specs.Lane.{first_frames}
use Rattle.bridge_deltas.specs.More.{frames_after}
use Rattle.bridge_frames.specs.declared.body.FrameBody.{FrameBody}
use Rattle.bridge_frames.specs.declared.body.FrameBody.TheVariants.{Hello, Delta, Know, Forward, Got}
use Rattle.bridge_frames.specs.declared.forward.Forward.{Forward as Message}
use Rattle.bridge_frames.specs.declared.frame.BridgeFrame.{BridgeFrame}
use Rattle.bridge_frames.specs.Frames.{frame_in}
use Rattle.home_table.specs.Table.{Table}
use Rattle.node_bridge.specs.View.{is_next, lane_to}
use Rattle.replica_store.specs.States.{State}
use Rattle.node_work.specs.declared.counts.Missed.TheVariants.{BadFrame, FrameTooLarge, TableRefused}
use Rattle.node_work.specs.Acts.{MomentTaken, Began, Moved, Store, Connection, Bridge, Merged}
use Rattle.node_work.specs.Calling.{Calls}
use Rattle.node_work.specs.Doings.{TakesMoment, Removes, Misses, GivesBody, GivesFrame, is_small}
use Rattle.node_work.specs.Held.Bridge.{Gave, Got as GotBy, Believed, Greeted, hello_to}
use Rattle.node_work.specs.Held.Feeding.{cut_of}
use Rattle.node_work.specs.Held.Connections.{Closed, Fed, Opened, Roomed, is_open, client_at, first_at}
use Rattle.node_work.specs.Frames.{is_for_node, is_other}
use Rattle.node_work.specs.Packets.{refused_packet}
use Rattle.node_work.specs.View.{HeldView, ConnectionView}
use Rattle.node_work.specs.Working.{Doing, Returns, Acting, Looks, If, Then, Each}
use Rattle.node_clients.specs.Ending as ending
use Rattle.node_clients.specs.Moving as moving
use Rattle.node_clients.specs.Passing as passing
use Rattle.node_clients.specs.Pieces as pieces
use Rattle.node_clients.specs.Rooms.{GivesRoom, MakesRoom, MakesRoomBy}
use Rattle.node_clients.specs.Serving as serving
use Rattle.broker_node.specs.declared.event.Event.{Event as NodeEvent}
use Rattle.broker_node.specs.declared.event.EventKind.{EventKind}
use Rattle.broker_node.specs.declared.event.EventKind.TheVariants as kinds
use Rattle.broker_node.specs.Bridge as bridge
use Rattle.broker_node.specs.Due as due
use Rattle.broker_node.specs.Moving as tables
use Rattle.broker_node.specs.Turns as turns
use Rattle.law_runs.proofs.Keeping.{Property, Joins, Keeps, k_returns, k_acting, k_numbered, k_looks, k_finds, k_if, k_then, k_each, k_calls}
use Rattle.law_runs.proofs.Work.{removes, sends, disconnects, misses, moves_away, ticks_of, parts, closes_of, closes_by, connects_by}

-- by what it makes of each packet of an accepted client, and of each message that it takes of a lane
module _ (T : Property) (j : Joins T) (serves : (c : ℕ) (client : List ℕ) (k : Packet) → Keeps T (serving.ServesPacket c client k)) (takes_forward : (from number : ℕ) (m : Message) → Keeps T (passing.TakesForward from number m)) where
  first : (c : ℕ) (k : Packet) → Keeps T (pieces.AnswersFirstPacket c k)
  first c (packets.Connect p) = connects_by T j _ c p
  first c _ = closes_of T j c

  answers_by : (c : ℕ) (k : Packet) (client : Option (List ℕ)) → Keeps T (pieces.AnswersPacketBy c k client)
  answers_by c k None = first c k
  answers_by c k (Some client) = serves c client k

  answers_if : (c : ℕ) (k : Packet) → Keeps T (pieces.AnswersIfOpen c k)
  answers_if c k =
      k_looks T j (λ p h. is_open c h) (λ is. If is (pieces.AnswersPacket c k) (Returns tt))
      (λ is. k_if T j is (pieces.AnswersPacket c k) (Returns tt) (k_looks T j (λ p h. client_at c h) (pieces.AnswersPacketBy c k) (answers_by c k)) (k_returns T j tt))

  sends_refusal : (c : ℕ) (code : Option ℕ) → Keeps T (pieces.SendsRefusal c code)
  sends_refusal c None = record { of = λ x p h acts d. absurd d }
  sends_refusal c (Some code) = record { of = λ x p h acts d. (sends T j c (refused_packet code None) refl).of x p h acts d }

  sends_disconnect : (c : ℕ) (client : List ℕ) (code : Option ℕ) → Keeps T (pieces.SendsDisconnect c client code)
  sends_disconnect c client None = record { of = λ x p h acts d. absurd d }
  sends_disconnect c client (Some code) = record { of = λ x p h acts d. (disconnects T j c client code).of x p h acts d }

  tells_by : (c : ℕ) (fault : PacketFault) (client : Option (List ℕ)) → Keeps T (pieces.TellsBy c fault client)
  tells_by c fault None =
      k_looks T j (λ p h. pieces.is_connect (first_at c h)) (λ is. If is (pieces.SendsRefusal c (pieces.connack_code fault)) (Returns tt))
      (λ is. k_if T j is (pieces.SendsRefusal c (pieces.connack_code fault)) (Returns tt) (sends_refusal c (pieces.connack_code fault)) (k_returns T j tt))
  tells_by c fault (Some client) = sends_disconnect c client (pieces.disconnect_code fault)

  breaks_by : (c : ℕ) (fault : PacketFault) (client : Option (List ℕ)) → Keeps T (pieces.BreaksBy c fault client)
  breaks_by c fault client = k_then T j _ _ (tells_by c fault client) (λ _. closes_by T j c client)

  breaks_if : (c : ℕ) (fault : Option PacketFault) → Keeps T (pieces.BreaksIfOpen c fault)
  breaks_if c None = k_returns T j _
  breaks_if c (Some fault) =
      k_looks T j (λ p h. is_open c h) (λ is. If is (pieces.Breaks c fault) (Returns tt))
      (λ is. k_if T j is (pieces.Breaks c fault) (Returns tt) (k_looks T j (λ p h. client_at c h) (pieces.BreaksBy c fault) (breaks_by c fault)) (k_returns T j tt))

  takes_all : (c : ℕ) (ps : List Packet) (fault : Option PacketFault) → Keeps T (pieces.TakesPackets c ps fault)
  takes_all c ps fault = k_then T j (Each (pieces.AnswersIfOpen c) ps) (λ _. pieces.BreaksIfOpen c fault) (k_each T j (pieces.AnswersIfOpen c) ps (answers_if c)) (λ _. breaks_if c fault)

  feeds : (c : ℕ) (piece : List ℕ) (found : ConnectionView) → Keeps T (pieces.Feeds c piece found)
  feeds c piece found =
      let cut = cut_of found.stream piece in
      k_then T j (Acting (λ p h. Connection (Fed c piece))) (λ _. pieces.TakesPackets c cut.packets cut.fault) (k_acting T j (λ p h. Connection (Fed c piece)) (λ p h. tt)) (λ _. takes_all c cut.packets cut.fault)

  piece_at : (c : ℕ) (piece : List ℕ) (found : Option ConnectionView) → Keeps T (pieces.PieceAt c piece found)
  piece_at c piece None = k_returns T j tt
  piece_at c piece (Some found) =
      k_if T j found.stream.failed (pieces.Shuts c) (pieces.Feeds c piece found) (k_looks T j (λ p h. client_at c h) (ending.ClosesBy c) (closes_by T j c)) (feeds c piece found)

  parts_by : (client : Option (List ℕ)) → Keeps T (pieces.PartsBy client)
  parts_by None = k_returns T j _
  parts_by (Some client) = parts T j client

  leaves_by : (c : ℕ) (client : Option (List ℕ)) → Keeps T (pieces.LeavesBy c client)
  leaves_by c client = k_then T j (Acting (λ p h. Connection (Closed c))) (λ _. pieces.PartsBy client) (k_acting T j (λ p h. Connection (Closed c)) (λ p h. tt)) (λ _. parts_by client)

  leaves_of : (c : ℕ) → Keeps T (pieces.Leaves c)
  leaves_of c =
      let there : Option (Unit {0}) → Doing = Looks (λ p h. client_at c h) (pieces.LeavesBy c) in
      k_looks T j (λ p h. is_open c h) (λ is. If is there (Returns tt)) (λ is. k_if T j is there (Returns tt) (k_looks T j (λ p h. client_at c h) (pieces.LeavesBy c) (leaves_by c)) (k_returns T j tt))

  -- ---- room
  gives_room : (bytes : ℕ) (client : List ℕ) → Keeps T (GivesRoom bytes client)
  gives_room bytes client = k_then T j (Calls client (rooms bytes) stays) (λ _. Returns tt) (k_calls T j client (rooms bytes) stays (λ at. tt)) (λ _. k_returns T j tt)

  makes_room_by : (c bytes : ℕ) (client : Option (List ℕ)) → Keeps T (MakesRoomBy c bytes client)
  makes_room_by c bytes None = k_acting T j (λ p h. Connection (Roomed c bytes)) (λ p h. tt)
  makes_room_by c bytes (Some client) = gives_room bytes client

  makes_room : (c bytes : ℕ) → Keeps T (MakesRoom c bytes)
  makes_room c bytes =
      let there : Option (Unit {0}) → Doing = Looks (λ p h. client_at c h) (MakesRoomBy c bytes) in
      k_looks T j (λ p h. is_open c h) (λ is. If is there (Returns tt)) (λ is. k_if T j is there (Returns tt) (k_looks T j (λ p h. client_at c h) (MakesRoomBy c bytes) (makes_room_by c bytes)) (k_returns T j tt))

  -- ---- what is due
  runs_out : (d : Due) → Keeps T (due.RunsOut d)
  runs_out d =
      k_then T j (Calls d.1 ticks stays) (λ _. Then (ending.ClosesConnection d.0) (λ _. Then (Calls d.1 closes leaves) (λ _. Returns tt))) (k_calls T j d.1 ticks stays (λ at. tt)) (λ _.
      k_then T j (ending.ClosesConnection d.0) (λ _. Then (Calls d.1 closes leaves) (λ _. Returns tt)) (closes_of T j d.0) (λ _.
      k_then T j (Calls d.1 closes leaves) (λ _. Returns tt) (k_calls T j d.1 closes leaves (λ at. tt)) (λ _. k_returns T j tt)))

  does_due : Keeps T due.DoesDue
  does_due =
      k_then T j due.EndsConnections (λ _. Then due.PublishesWills (λ _. due.EndsSessions))
      (k_looks T j (λ p h. run_outs h.sessions h.at) (Each due.RunsOut) (λ ds. k_each T j due.RunsOut ds runs_out)) (λ _.
      k_then T j due.PublishesWills (λ _. due.EndsSessions)
      (k_looks T j (λ p h. wills_due h.sessions h.at) (Each due.TicksOf) (λ ds. k_each T j due.TicksOf ds (λ d. ticks_of T j d.1))) (λ _.
      k_looks T j (λ p h. ends_due h.sessions h.at) (Each due.TicksOf) (λ ds. k_each T j due.TicksOf ds (λ d. ticks_of T j d.1))))

  parts_from : (client : List ℕ) → Keeps T (due.PartsFrom client)
  parts_from client = k_then T j (Calls client closes leaves) (λ _. Returns tt) (k_calls T j client closes leaves (λ at. tt)) (λ _. k_returns T j tt)

  -- ---- clients whose home is elsewhere
  sends_away : Keeps T tables.SendsAway
  sends_away = k_finds T j tables.AreAway (Each moving.MovesAway) (λ away. k_each T j moving.MovesAway away (moves_away T j))

  takes_table : (homes : Table) → Keeps T (tables.TakesTable homes)
  takes_table homes =
      k_looks T j (tables.is_newer_table homes) (λ newer. If newer (tables.TakesNewerTable homes) (Misses TableRefused))
      (λ newer. k_if T j newer (tables.TakesNewerTable homes) (Misses TableRefused)
      (k_then T j (Acting (λ p h. Moved homes)) (λ _. tables.SendsAway) (k_acting T j (λ p h. Moved homes) (λ p h. tt)) (λ _. sends_away)) (misses T j TableRefused))

  starts : Keeps T due.Starts
  starts =
      k_then T j (Acting (λ p h. Began)) (λ _. Then due.ClosesStored (λ _. Then due.DoesDue (λ _. tables.SendsAway))) (k_acting T j (λ p h. Began) (λ p h. tt)) (λ _.
      k_then T j due.ClosesStored (λ _. Then due.DoesDue (λ _. tables.SendsAway)) (k_looks T j (λ p h. connected h.sessions) (Each due.PartsFrom) (λ cs. k_each T j due.PartsFrom cs parts_from)) (λ _.
      k_then T j due.DoesDue (λ _. tables.SendsAway) does_due (λ _. sends_away)))

  -- ---- frames
  gives_frame : (f : BridgeFrame) → Keeps T (GivesFrame f)
  gives_frame f = k_if T j (is_small f) (Acting (λ p h. Bridge (Gave f))) (Misses FrameTooLarge) (k_acting T j (λ p h. Bridge (Gave f)) (λ p h. tt)) (misses T j FrameTooLarge)

  gives : (peer : ℕ) (body : HeldView → FrameBody) → Keeps T (GivesBody peer body)
  gives peer body = k_looks T j (λ p h. record { from = p.id; to = peer; body = body h }) GivesFrame gives_frame

  greets : (peer : ℕ) → Keeps T (bridge.Greets peer)
  greets peer =
      k_looks T j (λ p h. is_other p peer) (λ other. If other (GivesBody peer (hello_to peer)) (Returns tt))
      (λ other. k_if T j other (GivesBody peer (hello_to peer)) (Returns tt) (gives peer (hello_to peer)) (k_returns T j tt))

  gives_state : (peer : ℕ) (s : Option State) → Keeps T (bridge.GivesState peer s)
  gives_state peer None = k_returns T j tt
  gives_state peer (Some s) = gives peer (λ h. Delta s)

  ships_to : (peer : ℕ) → Keeps T (bridge.ShipsTo peer)
  ships_to peer =
      k_then T j (bridge.ShipsState peer) (λ _. bridge.ShipsMessages peer) (k_finds T j (bridge.AreShipped peer) (bridge.GivesState peer) (gives_state peer))
      (λ _. k_looks T j (λ p h. first_frames p.id peer (lane_to h.bridge peer)) (Each GivesFrame) (λ fs. k_each T j GivesFrame fs gives_frame))

  ships : (peer : ℕ) → Keeps T (bridge.Ships peer)
  ships peer =
      k_looks T j (λ p h. is_other p peer) (λ other. If other (bridge.ShipsTo peer) (Returns tt))
      (λ other. k_if T j other (bridge.ShipsTo peer) (Returns tt) (ships_to peer) (k_returns T j tt))

  ships_more_to : (peer after : ℕ) → Keeps T (bridge.ShipsMoreTo peer after)
  ships_more_to peer after =
      k_then T j (bridge.ShipsState peer) (λ _. bridge.ShipsLater peer after) (k_finds T j (bridge.AreShipped peer) (bridge.GivesState peer) (gives_state peer))
      (λ _. k_looks T j (λ p h. frames_after p.id peer after (lane_to h.bridge peer)) (Each GivesFrame) (λ fs. k_each T j GivesFrame fs gives_frame))

  ships_more : (peer after : ℕ) → Keeps T (bridge.ShipsMore peer after)
  ships_more peer after =
      k_looks T j (λ p h. is_other p peer) (λ other. If other (bridge.ShipsMoreTo peer after) (Returns tt))
      (λ other. k_if T j other (bridge.ShipsMoreTo peer after) (Returns tt) (ships_more_to peer after) (k_returns T j tt))

  tells_taken : (from : ℕ) → Keeps T (bridge.TellsTaken from)
  tells_taken from = gives from (λ h. Know h.store.taken)

  takes_next : (from number : ℕ) (m : Message) → Keeps T (bridge.TakesNext from number m)
  takes_next from number m =
      k_looks T j (λ p h. is_next from number h.bridge) (λ next. If next (passing.TakesForward from number m) (Returns tt))
      (λ next. k_if T j next (passing.TakesForward from number m) (Returns tt) (takes_forward from number m) (k_returns T j tt))

  takes_body : (from : ℕ) (body : FrameBody) → Keeps T (bridge.TakesBody from body)
  takes_body from (Hello g) = k_then T j (Acting (λ p h. Bridge (Greeted from g))) (λ _. bridge.TellsTaken from) (k_acting T j (λ p h. Bridge (Greeted from g)) (λ p h. tt)) (λ _. tells_taken from)
  takes_body from (Delta s) = k_then T j (Acting (λ p h. Store (Merged s))) (λ _. bridge.TellsTaken from) (k_acting T j (λ p h. Store (Merged s)) (λ p h. tt)) (λ _. tells_taken from)
  takes_body from (Know dots) = k_acting T j (λ p h. Bridge (Believed from dots)) (λ p h. tt)
  takes_body from (Forward number m) =
      k_then T j (bridge.TakesNext from number m) (λ _. GivesBody from (λ h. Got (lane_to h.bridge from).took)) (takes_next from number m) (λ _. gives from (λ h. Got (lane_to h.bridge from).took))
  takes_body from (Got number) = k_acting T j (λ p h. Bridge (GotBy from number)) (λ p h. tt)

  hears_frame : (frame : Option BridgeFrame) → Keeps T (bridge.HearsFrame frame)
  hears_frame None = misses T j BadFrame
  hears_frame (Some frame) =
      k_looks T j (λ p h. is_for_node p frame) (λ here. If here (bridge.TakesBody frame.from frame.body) (Misses BadFrame))
      (λ here. k_if T j here (bridge.TakesBody frame.from frame.body) (Misses BadFrame) (takes_body frame.from frame.body) (misses T j BadFrame))

  -- ---- events
  answers_kind : (kind : EventKind) → Keeps T (turns.AnswersEvent kind)
  answers_kind kinds.Started = k_returns T j _
  answers_kind (kinds.Opened c) =
      let opens : Option (Unit {0}) → Doing = Acting (λ p h. Connection (Opened c)) in
      k_looks T j (λ p h. is_open c h) (λ is. If is (Returns tt) opens) (λ is. k_if T j is (Returns tt) opens (k_returns T j tt) (k_acting T j (λ p h. Connection (Opened c)) (λ p h. tt)))
  answers_kind (kinds.Piece c bytes) = k_looks T j (λ p h. map.get h.connections c) (pieces.PieceAt c bytes) (piece_at c bytes)
  answers_kind (kinds.Room c bytes) = makes_room c bytes
  answers_kind (kinds.Closed c) = leaves_of c
  answers_kind (kinds.Frame bytes) = hears_frame (frame_in bytes)
  answers_kind (kinds.Linked peer) = greets peer
  answers_kind (kinds.Ship peer) = ships peer
  answers_kind (kinds.More peer after) = ships_more peer after
  answers_kind kinds.Tick = k_returns T j _
  answers_kind (kinds.Evict client) = k_then T j (Removes client None) (λ _. Returns tt) (removes T j client None) (λ _. k_returns T j tt)
  answers_kind (kinds.Table homes) = takes_table homes

  after_due : (kind : EventKind) → Keeps T (Then due.DoesDue (λ _. turns.AnswersEvent kind))
  after_due kind = k_then T j due.DoesDue (λ _. turns.AnswersEvent kind) does_due (λ _. answers_kind kind)

  goes_on : (kind : EventKind) → Keeps T (turns.AnswersAfterDue kind)
  goes_on kinds.Started = k_returns T j _
  goes_on (kinds.Opened c) = after_due (kinds.Opened c)
  goes_on (kinds.Piece c bytes) = after_due (kinds.Piece c bytes)
  goes_on (kinds.Room c bytes) = after_due (kinds.Room c bytes)
  goes_on (kinds.Closed c) = after_due (kinds.Closed c)
  goes_on (kinds.Frame bytes) = after_due (kinds.Frame bytes)
  goes_on (kinds.Linked peer) = after_due (kinds.Linked peer)
  goes_on (kinds.Ship peer) = after_due (kinds.Ship peer)
  goes_on (kinds.More peer after) = after_due (kinds.More peer after)
  goes_on kinds.Tick = after_due kinds.Tick
  goes_on (kinds.Evict client) = after_due (kinds.Evict client)
  goes_on (kinds.Table homes) = after_due (kinds.Table homes)

  first_turn : (kind : EventKind) → Keeps T (turns.AwaitsStart kind)
  first_turn kinds.Started = starts
  first_turn (kinds.Opened c) = k_returns T j _
  first_turn (kinds.Piece c bytes) = k_returns T j _
  first_turn (kinds.Room c bytes) = k_returns T j _
  first_turn (kinds.Closed c) = k_returns T j _
  first_turn (kinds.Frame bytes) = k_returns T j _
  first_turn (kinds.Linked peer) = k_returns T j _
  first_turn (kinds.Ship peer) = k_returns T j _
  first_turn (kinds.More peer after) = k_returns T j _
  first_turn kinds.Tick = k_returns T j _
  first_turn (kinds.Evict client) = k_returns T j _
  first_turn (kinds.Table homes) = k_returns T j _

  pub decides : (e : NodeEvent) → Keeps T (turns.Decides e)
  decides e =
      k_then T j (TakesMoment e.at) (λ _. turns.Turn e.kind) (k_numbered T j (λ p h. not (nat_lt e.at (2 ^ 62))) (λ p h. MomentTaken e.at) (λ p h. tt))
      (λ _. k_looks T j (λ p h. h.started) (λ is. If is (turns.AnswersAfterDue e.kind) (turns.AwaitsStart e.kind)) (λ is. k_if T j is (turns.AnswersAfterDue e.kind) (turns.AwaitsStart e.kind) (goes_on e.kind) (first_turn e.kind)))
