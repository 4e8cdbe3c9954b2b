-- What holds of work on whole events, by what holds of its parts, of which one ends a client's session only where it may.
use Rattle.std.proofs.Common.{◌≡◌, inl, inr, ℕ, ◌==◌, Bool, true, false, is_some, length, List, [], ◌∷◌, ◌++◌, Option, Some, None, option_and_then, refl, sym, ap, ◌∙◌, subst, map as map_list}
use Rattle.std.specs.FinMap as map
use Rattle.std.specs.List.{AllByRecursion}
use Rattle.mqtt_packets.specs.declared.connect.Connect.{Connect}
use Rattle.mqtt_packets.specs.declared.fault.PacketFault.{PacketFault}
use Rattle.mqtt_packets.specs.declared.packet.Packet.{Packet}
use Rattle.mqtt_packets.specs.declared.packet.Packet.TheVariants as packets
use Rattle.mqtt_packets.specs.Written.{written}
use Rattle.mqtt_sessions.specs.Answers.{disconnect, fits}
use Rattle.mqtt_sessions.specs.Reaction.{Reaction}
use Rattle.mqtt_sessions.specs.State.{limit_in}
use Rattle.bridge_deltas.specs.Lane.{first_frames}
use Rattle.bridge_deltas.specs.More.{frames_after}
use Rattle.bridge_frames.specs.declared.body.FrameBody.{FrameBody}
use Rattle.bridge_frames.specs.declared.body.FrameBody.TheVariants.{Hello, Delta, Know, Forward as Carried, Got}
use Rattle.bridge_frames.specs.declared.forward.Forward.{Forward}
use Rattle.bridge_frames.specs.declared.frame.BridgeFrame.{BridgeFrame}
use Rattle.bridge_frames.specs.Frames.{frame_in}
use Rattle.home_table.specs.Table.{Table}
use Rattle.node_bridge.specs.View.{is_next, lane_to}
use Rattle.replica_store.specs.States.{State}
use Rattle.session_table.specs.Dues.{Due}
use Rattle.law_sessions.specs.Runs.{Event, connects, rooms, closes, ticks}
use Rattle.session_table.specs.Calls.{stays, leaves, moves}
use Rattle.session_table.specs.Seats.{Seat, IsElsewhere, run_outs, wills_due, ends_due, connected}
use Rattle.subscription_set.specs.Standing.{any_of}
use Rattle.node_work.specs.declared.counts.Missed.{Missed}
use Rattle.node_work.specs.declared.counts.Missed.TheVariants.{BadFrame, FrameTooLarge, TableRefused}
use Rattle.node_work.specs.declared.outcome.Output.TheVariants.{Send, Close}
use Rattle.node_work.specs.Acts.{Act, StoreAct, MomentTaken, Began, Moved, Store, Made, Merged, Connection, Session, Bridge, Out, Named, Acknowledged, Passed, Dropped, Runs, next}
use Rattle.node_work.specs.Calling.{Calls}
use Rattle.node_work.specs.Doings.{Sends, Disconnects, Redirects, Misses, MakesRemove, OpensConnection, Removes, GivesBody, GivesFrame, is_small}
use Rattle.node_work.specs.Held.Bridge.{BridgeAct, Put, Took, Got as GotBy, Believed, Greeted, Gave, Left_out, hello_to}
use Rattle.node_work.specs.Held.Connections.{Opened, Accepted, Closed as Shut, Fed, Roomed, is_open, client_at, first_at, room_at}
use Rattle.node_work.specs.Held.Feeding.{cut_of}
use Rattle.node_work.specs.Held.Making.{number_at_end, removal}
use Rattle.node_work.specs.Held.Sessions.{SessionAct, SessionStep, Begun, Called, Over, seat_at, connection_at, has_session, takes_disconnect, takes_packet, will_is_due, end_is_due}
use Rattle.node_work.specs.Frames.{is_for_node, is_other}
use Rattle.node_work.specs.Packets.{moved_packet, refused_packet}
use Rattle.node_work.specs.View.{Place, HeldView, ConnectionView}
use Rattle.node_work.specs.Working.{Doing, Returns, Acting, Looks, FindsWhere, If, Then, Each}
use Rattle.node_work.proofs.Working.{runs_join}
use Rattle.node_clients.specs.Connecting as connecting
use Rattle.node_clients.specs.Ending as ending
use Rattle.node_clients.specs.Moving as moving
use Rattle.node_clients.specs.Naming.{IsNextNumber, automatic}
use Rattle.node_clients.specs.Passing as passing
use Rattle.node_clients.specs.Pieces as pieces
use Rattle.node_clients.specs.Rooms as giving
use Rattle.node_clients.specs.Serving as serving
use Rattle.broker_node.specs.declared.event.EventKind.{EventKind}
use Rattle.broker_node.specs.declared.event.EventKind.TheVariants as kinds
use Rattle.broker_node.specs.Bridge as bridge
use Rattle.broker_node.specs.Due as due
use Rattle.broker_node.specs.Moving as tables
use Rattle.broker_node.specs.Turns as turns
use Rattle.law_runs.specs.StepSending.{IsIn}
use Rattle.law_runs.proofs.Keeping.{Property, Keeps, none_some}
use Rattle.law_runs.proofs.Splits.{left_by}
use Rattle.law_steps.proofs.Keys.{selected_all}
use Rattle.law_steps.proofs.Joining.{Closed, j_returns, j_acting, j_numbered, j_looks, j_finds, j_if, j_where, j_then, j_calls}
use Rattle.law_steps.proofs.Turning.{if_not}

-- an act by which no session is called, ends, takes or gives a message to pass on
abbrev pub IsBareBridge : BridgeAct → Type 0
IsBareBridge (Put peer m) = ⊥
IsBareBridge (Took peer number m copies lost) = ⊥
IsBareBridge a = Unit {0}

abbrev pub IsBareSession : SessionAct → Type 0
IsBareSession (Begun client) = Unit {0}
IsBareSession (Called s) = ⊥
IsBareSession (Over client) = ⊥

abbrev pub IsBare : Act → Type 0
IsBare (Session a) = IsBareSession a
IsBare (Bridge a) = IsBareBridge a
IsBare (Acknowledged client packet at given os) = ⊥
IsBare (Passed m copies lost routes) = ⊥
IsBare a = Unit {0}

-- one by which a connection is closed, or something goes out
abbrev pub IsBareDue : Act → Type 0
IsBareDue (Connection a) = Unit {0}
IsBareDue (Out o) = Unit {0}
IsBareDue a = ⊥

pub due_bare : (a : Act) → IsBareDue a → IsBare a
due_bare (Connection a) bare = tt
due_bare (Out o) bare = tt
due_bare a bare = absurd bare

-- a call that stands alone
abbrev pub IsBareCall : Event → Type 0
IsBareCall (connects q continued room now) = Unit {0}
IsBareCall (rooms bytes now) = Unit {0}
IsBareCall (closes now) = Unit {0}
IsBareCall (ticks now) = Unit {0}
IsBareCall e = ⊥

module _ (T : Property) (c : Closed T) (due_one : (p : Place) (h : HeldView) (a : Act) → IsBareDue a → T p h (a ∷ [])) (call_one : (p : Place) (h : HeldView) (s : SessionStep) → IsBareCall s.event → T p h (Session (Called s) ∷ []))
    (ticks_of : (client : List ℕ) → Keeps T (ending.Ticks client)) where
  acting_due : (a : Place → HeldView → Act) → ((p : Place) (h : HeldView) → IsBareDue (a p h)) → Keeps T (Acting a)
  acting_due a bare = j_acting T c a (λ p h. due_one p h (a p h) (bare p h))

  calling : (client : List ℕ) (event : ℕ → Event) (on : Option ℕ → Option ℕ) → ((at : ℕ) → IsBareCall (event at)) → Keeps T (Calls client event on)
  calling client event on bare = j_calls T c client event on (λ p h s is. call_one p h s (subst IsBareCall (sym is) (bare h.at)))

  each : {A : Type 0} (One : A → Option (Unit {0}) → Doing) (xs : List A) → ((x : A) → Keeps T (One x)) → Keeps T (Each One xs)
  each One [] f = j_returns T c tt
  each One (x ∷ xs) f = j_then T c (One x) (λ _. Each One xs) (f x) (λ _. each One xs f)

  -- ---- closes
  closes_of : (n : ℕ) → Keeps T (ending.ClosesConnection n)
  closes_of n = j_then T c (Acting (λ p h. Connection (Shut n))) (λ _. Acting (λ p h. Out (Close n))) (acting_due (λ p h. Connection (Shut n)) (λ p h. tt)) (λ _. acting_due (λ p h. Out (Close n)) (λ p h. tt))

  ticks_if : (is_due : Bool) (client : List ℕ) → Keeps T (ending.TicksIf is_due client)
  ticks_if is_due client = j_if T c is_due (ending.Ticks client) (Returns tt) (ticks_of client) (j_returns T c tt)

  parts : (client : List ℕ) → Keeps T (ending.Parts client)
  parts client =
      j_then T c (Calls client closes leaves) (λ _. ending.DoesDueOf client) (calling client closes leaves (λ at. tt)) (λ _.
      j_then T c (Looks (λ p h. will_is_due client h) (λ b. ending.TicksIf b client)) (λ _. Looks (λ p h. end_is_due client h) (λ b. ending.TicksIf b client))
      (j_looks T c (λ p h. will_is_due client h) (λ b. ending.TicksIf b client) (λ b. ticks_if b client)) (λ _. j_looks T c (λ p h. end_is_due client h) (λ b. ending.TicksIf b client) (λ b. ticks_if b client)))

  pub closes_for : (n : ℕ) (client : List ℕ) → Keeps T (ending.ClosesFor n client)
  closes_for n client = j_then T c (ending.ClosesConnection n) (λ _. ending.Parts client) (closes_of n) (λ _. parts client)

  pub closes_after : (end : Option ℕ) (n : ℕ) (client : List ℕ) → Keeps T (ending.ClosesAfter end n client)
  closes_after None n client = j_returns T c tt
  closes_after (Some code) n client = closes_for n client

  closes_by : (n : ℕ) (client : Option (List ℕ)) → Keeps T (ending.ClosesBy n client)
  closes_by n None = closes_of n
  closes_by n (Some client) = closes_for n client

  -- ---- what is due
  runs_out : (d : Due) → Keeps T (due.RunsOut d)
  runs_out d =
      j_then T c (Calls d.1 ticks stays) (λ _. Then (ending.ClosesConnection d.0) (λ _. Then (Calls d.1 closes leaves) (λ _. Returns tt))) (calling d.1 ticks stays (λ at. tt)) (λ _.
      j_then T c (ending.ClosesConnection d.0) (λ _. Then (Calls d.1 closes leaves) (λ _. Returns tt)) (closes_of d.0) (λ _.
      j_then T c (Calls d.1 closes leaves) (λ _. Returns tt) (calling d.1 closes leaves (λ at. tt)) (λ _. j_returns T c tt)))

  pub does_due : Keeps T due.DoesDue
  does_due =
      j_then T c due.EndsConnections (λ _. Then due.PublishesWills (λ _. due.EndsSessions)) (j_looks T c (λ p h. run_outs h.sessions h.at) (Each due.RunsOut) (λ ds. each due.RunsOut ds runs_out)) (λ _.
      j_then T c due.PublishesWills (λ _. due.EndsSessions) (j_looks T c (λ p h. wills_due h.sessions h.at) (Each due.TicksOf) (λ ds. each due.TicksOf ds (λ d. ticks_of d.1))) (λ _.
      j_looks T c (λ p h. ends_due h.sessions h.at) (Each due.TicksOf) (λ ds. each due.TicksOf ds (λ d. ticks_of d.1))))

  parts_from : (client : List ℕ) → Keeps T (due.PartsFrom client)
  parts_from client = j_then T c (Calls client closes leaves) (λ _. Returns tt) (calling client closes leaves (λ at. tt)) (λ _. j_returns T c tt)

  pub closes_stored : Keeps T due.ClosesStored
  closes_stored = j_looks T c (λ p h. connected h.sessions) (Each due.PartsFrom) (λ cs. each due.PartsFrom cs parts_from)

  -- ---- what goes out
  sends : (n : ℕ) (packet : Packet) → Keeps T (Sends n packet)
  sends n packet = acting_due (λ p h. Out (Send n (written packet))) (λ p h. tt)

  sends_if : (b : Bool) (n : ℕ) (packet : Packet) → Keeps T (If b (Sends n packet) (Returns tt))
  sends_if b n packet = j_if T c b (Sends n packet) (Returns tt) (sends n packet) (j_returns T c tt)

  disconnects : (n : ℕ) (client : List ℕ) (code : ℕ) → Keeps T (Disconnects n client code)
  disconnects n client code = j_looks T c (λ p h. takes_disconnect client code h) (λ taken. If taken (Sends n (disconnect code)) (Returns tt)) (λ taken. sends_if taken n (disconnect code))

  module _ (one : (p : Place) (h : HeldView) (a : Act) → IsBare a → T p h (a ∷ [])) (serves : (n : ℕ) (client : List ℕ) (k : Packet) → Keeps T (serving.ServesPacket n client k)) (takes_forward : (from number : ℕ) (m : Forward) → Keeps T (passing.TakesForward from number m))
      (C : List ℕ → Type 0) (finishes_of : (client : List ℕ) → C client → Keeps T (ending.Finishes client)) where
    acting : (a : Place → HeldView → Act) → ((p : Place) (h : HeldView) → IsBare (a p h)) → Keeps T (Acting a)
    acting a bare = j_acting T c a (λ p h. one p h (a p h) (bare p h))

    -- ---- CONNECT
    refuses : (n : ℕ) (q : Connect) (code : ℕ) (reference : Option (List ℕ)) → Keeps T (connecting.RefusesConnect n q code reference)
    refuses n q code reference =
        j_then T c (connecting.SendsIf (fits (limit_in q.properties) (refused_packet code reference)) n (refused_packet code reference)) (λ _. ending.ClosesConnection n) (sends_if (fits (limit_in q.properties) (refused_packet code reference)) n (refused_packet code reference)) (λ _. closes_of n)

    takes_over_from : (client : List ℕ) (on : Option ℕ) → Keeps T (connecting.TakesOverFrom client on)
    takes_over_from client None = j_returns T c tt
    takes_over_from client (Some older) = j_then T c (Disconnects older client 142) (λ _. ending.ClosesFor older client) (disconnects older client 142) (λ _. closes_for older client)

    cleans : (clean : Bool) (client : List ℕ) → (clean ≡ true → C client) → Keeps T (connecting.Cleans clean client)
    cleans false client may = j_returns T c tt
    cleans true client may =
        j_looks T c (λ p h. has_session client h) (λ has. If has (ending.Finishes client) (Returns tt)) (λ has. j_if T c has (ending.Finishes client) (Returns tt) (finishes_of client (may refl)) (j_returns T c tt))

    joins : (continued : Bool) (n : ℕ) (client : List ℕ) (q : Connect) (room : Option ℕ) → Keeps T (connecting.JoinsBy continued n client q room)
    joins true n client q room = calling client (connects q true room) (moves n) (λ at. tt)
    joins false n client q room =
        j_then T c (Acting (λ place h. Session (Begun client))) (λ _. Calls client (connects q false room) (moves n)) (acting (λ place h. Session (Begun client)) (λ p h. tt)) (λ _. calling client (connects q false room) (moves n) (λ at. tt))

    joins_in : (n : ℕ) (client : List ℕ) (q : Connect) (room : Option ℕ) → Keeps T (connecting.JoinsIn n client q room)
    joins_in n client q room = j_looks T c (λ place h. has_session client h) (λ has. connecting.JoinsBy has n client q room) (λ has. joins has n client q room)

    begins : (n : ℕ) (client : List ℕ) (q : Connect) → Keeps T (connecting.BeginsSession n client q)
    begins n client q =
        j_then T c (Acting (λ place h. Connection (Accepted n client))) (λ _. Then (connecting.Joins n client q) (λ r. ending.ClosesAfter r.end n client)) (acting (λ place h. Connection (Accepted n client)) (λ p h. tt)) (λ _.
        j_then T c (connecting.Joins n client q) (λ r. ending.ClosesAfter r.end n client) (j_looks T c (λ place h. room_at n h) (connecting.JoinsIn n client q) (joins_in n client q)) (λ r. closes_after r.end n client))

    accepts : (n : ℕ) (q : Connect) (client : List ℕ) → (q.clean_start ≡ true → C client) → Keeps T (connecting.Accepts n q client)
    accepts n q client may =
        j_then T c (connecting.TakesOver client) (λ _. Then (connecting.Cleans q.clean_start client) (λ _. connecting.BeginsSession n client q)) (j_looks T c (λ place h. connection_at client h) (connecting.TakesOverFrom client) (takes_over_from client)) (λ _.
        j_then T c (connecting.Cleans q.clean_start client) (λ _. connecting.BeginsSession n client q) (cleans q.clean_start client may) (λ _. begins n client q))

    -- of a client that has no session nothing ends
    no_older : (client : List ℕ) (x : Unit {0}) (p : Place) (h : HeldView) (acts : List Act) → has_session client h ≡ false → connecting.TakesOver client (Some x) p h acts → acts ≡ []
    no_older client x p h acts none d = (subst (λ o. connecting.TakesOverFrom client o (Some x) p h acts) (nowhere (seat_at client h) none) d).1
      where
        nowhere : (o : Option Seat) → is_some o ≡ false → option_and_then (λ (s : Seat). s.connection) o ≡ None
        nowhere None e = refl
        nowhere (Some seat) e = absurd (let z : true ≡ false = e in cc)

    no_clean : (clean : Bool) (client : List ℕ) (x : Unit {0}) (p : Place) (h : HeldView) (acts : List Act) → has_session client h ≡ false → connecting.Cleans clean client (Some x) p h acts → acts ≡ []
    no_clean false client x p h acts none d = d.1
    no_clean true client x p h acts none d = (if_not (has_session client h) (ending.Finishes client) (Returns tt) (Some x) p h acts none d).1

    same_held : (p : Place) (h mid : HeldView) (acts : List Act) → acts ≡ [] → Runs p h acts mid → mid ≡ h
    same_held p h mid acts none runs = subst (λ zs. Runs p h zs mid) none runs

    accepts_new : (n : ℕ) (q : Connect) (client : List ℕ) (x : Unit {0}) (p : Place) (h : HeldView) (acts : List Act) → has_session client h ≡ false → connecting.Accepts n q client (Some x) p h acts → T p h acts
    accepts_new n q client x p h acts none (inl d) = none_some (sym d.0)
    accepts_new n q client x p h acts none (inr (y, own, mid, rest, first, ran, (inl d), is)) = none_some (sym d.0)
    accepts_new n q client x p h acts none (inr (y, own, mid, rest, first, ran, (inr (y2, own2, mid2, rest2, two, ran2, more, is2)), is)) =
        let a : own ≡ [] = no_older client y p h own none first in
        let m : mid ≡ h = same_held p h mid own a ran in
        let b : own2 ≡ [] = no_clean q.clean_start client y2 p mid own2 (ap (has_session client) m ∙ none) two in
        let m2 : mid2 ≡ h = same_held p mid mid2 own2 b ran2 ∙ m in
        subst (T p h) (sym (is ∙ (λ i. a i ++ (is2 ∙ ap (λ zs. zs ++ rest2) b) i))) (subst (λ v. T p v rest2) m2 ((begins n client q).of x p mid2 rest2 more))

    names_by : (n : ℕ) (q : Connect) (number : Option ℕ) (x : Unit {0}) (p : Place) (h : HeldView) (acts : List Act) → IsNextNumber p h number → connecting.NamesBy n q number (Some x) p h acts → T p h acts
    names_by n q None x p h acts is d = none_some (sym d.0)
    names_by n q (Some number) x p h acts is (inl d) = none_some (sym d.0)
    names_by n q (Some number) x p h acts is (inr (y, own, mid, rest, first, ran, more, whole)) =
        let left : mid ≡ next h (Named number) = left_by p h mid (Named number) own first.1 ran in
        let nobody : has_session (automatic p.id number) mid ≡ false = ap (λ (v : HeldView). has_session (automatic p.id number) v) left ∙ is.2 in
        subst (T p h) (sym whole) (c.both p h mid own rest ran (subst (T p h) (sym first.1) (one p h (Named number) tt)) (accepts_new n q (automatic p.id number) x p mid rest nobody more))

    names_in : (n : ℕ) (q : Connect) (x : Unit {0}) (p : Place) (h : HeldView) (acts : List Act) → connecting.Names n q (Some x) p h acts → T p h acts
    names_in n q x p h acts (inl (will, (number, is, d))) = names_by n q number x p h acts is d
    names_in n q x p h acts (inr d) = (refuses n q 144 None).of x p h acts d.1

    comes_home : (n : ℕ) (q : Connect) (node : ℕ) → (q.clean_start ≡ true → C q.client) → Keeps T (connecting.ComesHome n q node)
    comes_home n q node may =
        j_looks T c (λ place h. node == place.id) (λ here. If here (connecting.AcceptsAs n q q.client) (connecting.Refers n q node))
        (λ here. j_if T c here (connecting.AcceptsAs n q q.client) (connecting.Refers n q node)
        (j_where T c (connecting.WillIsNamed q.will) (connecting.Accepts n q q.client) (connecting.RefusesConnect n q 144 None) (accepts n q q.client may) (refuses n q 144 None))
        (j_looks T c (λ place h. connecting.address_of h node) (λ reference. connecting.RefusesConnect n q 156 reference) (λ reference. refuses n q 156 reference)))

    connects_at : (bare : Bool) (n : ℕ) (q : Connect) → (q.clean_start ≡ true → C q.client) → Keeps T (connecting.ConnectsAt bare n q)
    connects_at true n q may = record { of = λ x p h acts d. names_in n q x p h acts d }
    connects_at false n q may = j_finds T c (ending.IsAtHome q.client) (connecting.ComesHome n q) (λ node. comes_home n q node may)

    connects_by : (code : Option ℕ) (n : ℕ) (q : Connect) → (q.clean_start ≡ true → C q.client) → Keeps T (connecting.ConnectsBy code n q)
    connects_by (Some code) n q may = refuses n q code None
    connects_by None n q may = connects_at (length q.client == 0) n q may

    -- ---- pieces, whose CONNECTs with Clean Start may end these sessions
    first : (n : ℕ) (k : Packet) → ((q : Connect) → k ≡ packets.Connect q → q.clean_start ≡ true → C q.client) → Keeps T (pieces.AnswersFirstPacket n k)
    first n (packets.Connect q) may = connects_by (connecting.connect_refusal q) n q (may q refl)
    first n k may = closes_of n

    answers_by : (n : ℕ) (k : Packet) (client : Option (List ℕ)) → ((q : Connect) → k ≡ packets.Connect q → q.clean_start ≡ true → C q.client) → Keeps T (pieces.AnswersPacketBy n k client)
    answers_by n k None may = first n k may
    answers_by n k (Some client) may = serves n client k

    answers_if : (n : ℕ) (k : Packet) → ((q : Connect) → k ≡ packets.Connect q → q.clean_start ≡ true → C q.client) → Keeps T (pieces.AnswersIfOpen n k)
    answers_if n k may =
        j_looks T c (λ p h. is_open n h) (λ is. If is (pieces.AnswersPacket n k) (Returns tt))
        (λ is. j_if T c is (pieces.AnswersPacket n k) (Returns tt) (j_looks T c (λ p h. client_at n h) (pieces.AnswersPacketBy n k) (λ client. answers_by n k client may)) (j_returns T c tt))

    abbrev pub MayClean : List Packet → Type 0
    MayClean ks = (q : Connect) → IsIn (packets.Connect q) ks → q.clean_start ≡ true → C q.client

    answers_each : (n : ℕ) (ks : List Packet) → MayClean ks → Keeps T (Each (pieces.AnswersIfOpen n) ks)
    answers_each n [] may = j_returns T c tt
    answers_each n (k ∷ ks) may = j_then T c (pieces.AnswersIfOpen n k) (λ _. Each (pieces.AnswersIfOpen n) ks) (answers_if n k (λ q is. may q (inl is))) (λ _. answers_each n ks (λ q there. may q (inr there)))

    sends_refusal : (n : ℕ) (code : Option ℕ) → Keeps T (pieces.SendsRefusal n code)
    sends_refusal n None = record { of = λ x p h acts d. absurd d }
    sends_refusal n (Some code) = record { of = λ x p h acts d. (sends n (refused_packet code None)).of x p h acts d }

    sends_disconnect : (n : ℕ) (client : List ℕ) (code : Option ℕ) → Keeps T (pieces.SendsDisconnect n client code)
    sends_disconnect n client None = record { of = λ x p h acts d. absurd d }
    sends_disconnect n client (Some code) = record { of = λ x p h acts d. (disconnects n client code).of x p h acts d }

    tells_by : (n : ℕ) (fault : PacketFault) (client : Option (List ℕ)) → Keeps T (pieces.TellsBy n fault client)
    tells_by n fault None =
        j_looks T c (λ p h. pieces.is_connect (first_at n h)) (λ is. If is (pieces.SendsRefusal n (pieces.connack_code fault)) (Returns tt))
        (λ is. j_if T c is (pieces.SendsRefusal n (pieces.connack_code fault)) (Returns tt) (sends_refusal n (pieces.connack_code fault)) (j_returns T c tt))
    tells_by n fault (Some client) = sends_disconnect n client (pieces.disconnect_code fault)

    breaks_by : (n : ℕ) (fault : PacketFault) (client : Option (List ℕ)) → Keeps T (pieces.BreaksBy n fault client)
    breaks_by n fault client = j_then T c (pieces.TellsBy n fault client) (λ _. ending.ClosesBy n client) (tells_by n fault client) (λ _. closes_by n client)

    breaks_if : (n : ℕ) (fault : Option PacketFault) → Keeps T (pieces.BreaksIfOpen n fault)
    breaks_if n None = j_returns T c tt
    breaks_if n (Some fault) =
        j_looks T c (λ p h. is_open n h) (λ is. If is (pieces.Breaks n fault) (Returns tt))
        (λ is. j_if T c is (pieces.Breaks n fault) (Returns tt) (j_looks T c (λ p h. client_at n h) (pieces.BreaksBy n fault) (breaks_by n fault)) (j_returns T c tt))

    feeds : (n : ℕ) (piece : List ℕ) (found : ConnectionView) → MayClean (cut_of found.stream piece).packets → Keeps T (pieces.Feeds n piece found)
    feeds n piece found may =
        let cut = cut_of found.stream piece in
        j_then T c (Acting (λ p h. Connection (Fed n piece))) (λ _. pieces.TakesPackets n cut.packets cut.fault) (acting (λ p h. Connection (Fed n piece)) (λ p h. tt)) (λ _.
        j_then T c (Each (pieces.AnswersIfOpen n) cut.packets) (λ _. pieces.BreaksIfOpen n cut.fault) (answers_each n cut.packets may) (λ _. breaks_if n cut.fault))

    piece_at : (n : ℕ) (piece : List ℕ) (o : Option ConnectionView) → ((found : ConnectionView) → o ≡ Some found → MayClean (cut_of found.stream piece).packets) → Keeps T (pieces.PieceAt n piece o)
    piece_at n piece None may = j_returns T c tt
    piece_at n piece (Some found) may =
        j_if T c found.stream.failed (pieces.Shuts n) (pieces.Feeds n piece found) (j_looks T c (λ p h. client_at n h) (ending.ClosesBy n) (closes_by n)) (feeds n piece found (may found refl))

    -- ---- a connection that is closed, and room
    parts_by : (client : Option (List ℕ)) → Keeps T (pieces.PartsBy client)
    parts_by None = j_returns T c tt
    parts_by (Some client) = parts client

    leaves_by : (n : ℕ) (client : Option (List ℕ)) → Keeps T (pieces.LeavesBy n client)
    leaves_by n client = j_then T c (Acting (λ p h. Connection (Shut n))) (λ _. pieces.PartsBy client) (acting (λ p h. Connection (Shut n)) (λ p h. tt)) (λ _. parts_by client)

    leaves_of : (n : ℕ) → Keeps T (pieces.Leaves n)
    leaves_of n =
        let there : Option (Unit {0}) → Doing = Looks (λ p h. client_at n h) (pieces.LeavesBy n) in
        j_looks T c (λ p h. is_open n h) (λ is. If is there (Returns tt)) (λ is. j_if T c is there (Returns tt) (j_looks T c (λ p h. client_at n h) (pieces.LeavesBy n) (leaves_by n)) (j_returns T c tt))

    makes_room_by : (n bytes : ℕ) (client : Option (List ℕ)) → Keeps T (giving.MakesRoomBy n bytes client)
    makes_room_by n bytes None = acting (λ p h. Connection (Roomed n bytes)) (λ p h. tt)
    makes_room_by n bytes (Some client) = j_then T c (Calls client (rooms bytes) stays) (λ _. Returns tt) (calling client (rooms bytes) stays (λ at. tt)) (λ _. j_returns T c tt)

    makes_room : (n bytes : ℕ) → Keeps T (giving.MakesRoom n bytes)
    makes_room n bytes =
        let there : Option (Unit {0}) → Doing = Looks (λ p h. client_at n h) (giving.MakesRoomBy n bytes) in
        j_looks T c (λ p h. is_open n h) (λ is. If is there (Returns tt)) (λ is. j_if T c is there (Returns tt) (j_looks T c (λ p h. client_at n h) (giving.MakesRoomBy n bytes) (makes_room_by n bytes)) (j_returns T c tt))

    -- ---- clients whose home is elsewhere
    redirects_by : (n : ℕ) (client : List ℕ) (address : Option (List ℕ)) → Keeps T (moving.RedirectsBy n client address)
    redirects_by n client None = j_returns T c tt
    redirects_by n client (Some address) =
        j_looks T c (λ p h. takes_packet client (moved_packet address) h) (λ taken. If taken (Sends n (moved_packet address)) (Returns tt)) (λ taken. sends_if taken n (moved_packet address))

    redirects_home : (n : ℕ) (client : List ℕ) → Keeps T (moving.RedirectsHome n client)
    redirects_home n client =
        j_finds T c (ending.IsAtHome client) (moving.RedirectsTo n client) (λ node. j_looks T c (λ p h. connecting.address_of h node) (moving.RedirectsBy n client) (redirects_by n client))

    parts_on : (client : List ℕ) (on : Option ℕ) → Keeps T (moving.PartsOn client on)
    parts_on client None = j_returns T c tt
    parts_on client (Some n) = j_then T c (moving.RedirectsHome n client) (λ _. ending.ClosesFor n client) (redirects_home n client) (λ _. closes_for n client)

    moves_away : (client : List ℕ) → C client → Keeps T (moving.MovesAway client)
    moves_away client may =
        j_then T c (moving.PartsWays client) (λ _. ending.Finishes client) (j_looks T c (λ p h. connection_at client h) (moving.PartsOn client) (parts_on client)) (λ _. finishes_of client may)

    each_away : (away : List (List ℕ)) → AllByRecursion C away → Keeps T (Each moving.MovesAway away)
    each_away [] all = j_returns T c tt
    each_away (client ∷ away) all = j_then T c (moving.MovesAway client) (λ _. Each moving.MovesAway away) (moves_away client all.0) (λ _. each_away away all.1)

    pub sends_away : (x : Unit {0}) (p : Place) (h : HeldView) (acts : List Act) → ((client : List ℕ) → IsElsewhere h.homes p.id client → C client) → tables.SendsAway (Some x) p h acts → T p h acts
    sends_away x p h acts may (away, are, d) =
        let all = selected_all (IsElsewhere h.homes p.id) (λ client. Unit {0}) (map_list (λ e. e.0) (map.entries h.sessions)) away are (anyone (map_list (λ e. e.0) (map.entries h.sessions))) in
        (each_away away (may_all away all)).of x p h acts d
      where
        anyone : (clients : List (List ℕ)) → AllByRecursion (λ (client : List ℕ). Unit {0}) clients
        anyone [] = tt
        anyone (client ∷ clients) = (tt, anyone clients)

        may_all : (clients : List (List ℕ)) → AllByRecursion (λ (client : List ℕ). IsElsewhere h.homes p.id client × Unit {0}) clients → AllByRecursion C clients
        may_all [] all = tt
        may_all (client ∷ clients) all = (may client all.0.0, may_all clients all.1)

    takes_table : (homes : Table) (x : Unit {0}) (p : Place) (h : HeldView) (acts : List Act) → ((client : List ℕ) → IsElsewhere homes p.id client → C client) → tables.TakesTable homes (Some x) p h acts → T p h acts
    takes_table homes x p h acts may d = by (tables.is_newer_table homes p h) d
      where
        newer : tables.TakesNewerTable homes (Some x) p h acts → T p h acts
        newer (inl d) = none_some (sym d.0)
        newer (inr (y, own, mid, rest, first, ran, more, is)) =
            let left : mid ≡ next h (Moved homes) = left_by p h mid (Moved homes) own first.1 ran in
            subst (T p h) (sym is) (c.both p h mid own rest ran (subst (T p h) (sym first.1) (one p h (Moved homes) tt))
            (sends_away x p mid rest (λ client away. may client (subst (λ (v : HeldView). IsElsewhere v.homes p.id client) left away)) more))

        by : (b : Bool) → If b (tables.TakesNewerTable homes) (Misses TableRefused) (Some x) p h acts → T p h acts
        by true d = newer d
        by false d = (acting (λ p h. Bridge (Left_out TableRefused)) (λ p h. tt)).of x p h acts d

    -- ---- frames
    misses : (what : Missed) → Keeps T (Misses what)
    misses what = acting (λ p h. Bridge (Left_out what)) (λ p h. tt)

    gives_frame : (f : BridgeFrame) → Keeps T (GivesFrame f)
    gives_frame f = j_if T c (is_small f) (Acting (λ p h. Bridge (Gave f))) (Misses FrameTooLarge) (acting (λ p h. Bridge (Gave f)) (λ p h. tt)) (misses FrameTooLarge)

    gives : (peer : ℕ) (body : HeldView → FrameBody) → Keeps T (GivesBody peer body)
    gives peer body = j_looks T c (λ p h. record { from = p.id; to = peer; body = body h }) GivesFrame gives_frame

    greets : (peer : ℕ) → Keeps T (bridge.Greets peer)
    greets peer =
        j_looks T c (λ p h. is_other p peer) (λ other. If other (GivesBody peer (hello_to peer)) (Returns tt)) (λ other. j_if T c other (GivesBody peer (hello_to peer)) (Returns tt) (gives peer (hello_to peer)) (j_returns T c tt))

    gives_state : (peer : ℕ) (s : Option State) → Keeps T (bridge.GivesState peer s)
    gives_state peer None = j_returns T c tt
    gives_state peer (Some s) = gives peer (λ h. Delta s)

    ships_to : (peer : ℕ) → Keeps T (bridge.ShipsTo peer)
    ships_to peer =
        j_then T c (bridge.ShipsState peer) (λ _. bridge.ShipsMessages peer) (j_finds T c (bridge.AreShipped peer) (bridge.GivesState peer) (gives_state peer))
        (λ _. j_looks T c (λ p h. first_frames p.id peer (lane_to h.bridge peer)) (Each GivesFrame) (λ fs. each GivesFrame fs gives_frame))

    ships : (peer : ℕ) → Keeps T (bridge.Ships peer)
    ships peer = j_looks T c (λ p h. is_other p peer) (λ other. If other (bridge.ShipsTo peer) (Returns tt)) (λ other. j_if T c other (bridge.ShipsTo peer) (Returns tt) (ships_to peer) (j_returns T c tt))

    ships_more_to : (peer after : ℕ) → Keeps T (bridge.ShipsMoreTo peer after)
    ships_more_to peer after =
        j_then T c (bridge.ShipsState peer) (λ _. bridge.ShipsLater peer after) (j_finds T c (bridge.AreShipped peer) (bridge.GivesState peer) (gives_state peer))
        (λ _. j_looks T c (λ p h. frames_after p.id peer after (lane_to h.bridge peer)) (Each GivesFrame) (λ fs. each GivesFrame fs gives_frame))

    ships_more : (peer after : ℕ) → Keeps T (bridge.ShipsMore peer after)
    ships_more peer after = j_looks T c (λ p h. is_other p peer) (λ other. If other (bridge.ShipsMoreTo peer after) (Returns tt)) (λ other. j_if T c other (bridge.ShipsMoreTo peer after) (Returns tt) (ships_more_to peer after) (j_returns T c tt))

    takes_next : (from number : ℕ) (m : Forward) → Keeps T (bridge.TakesNext from number m)
    takes_next from number m =
        j_looks T c (λ p h. is_next from number h.bridge) (λ next. If next (passing.TakesForward from number m) (Returns tt))
        (λ next. j_if T c next (passing.TakesForward from number m) (Returns tt) (takes_forward from number m) (j_returns T c tt))

    takes_body : (from : ℕ) (body : FrameBody) → Keeps T (bridge.TakesBody from body)
    takes_body from (Hello g) =
        j_then T c (Acting (λ p h. Bridge (Greeted from g))) (λ _. bridge.TellsTaken from) (acting (λ p h. Bridge (Greeted from g)) (λ p h. tt)) (λ _. gives from (λ h. Know h.store.taken))
    takes_body from (Delta s) =
        j_then T c (Acting (λ p h. Store (Merged s))) (λ _. bridge.TellsTaken from) (acting (λ p h. Store (Merged s)) (λ p h. tt)) (λ _. gives from (λ h. Know h.store.taken))
    takes_body from (Know dots) = acting (λ p h. Bridge (Believed from dots)) (λ p h. tt)
    takes_body from (Carried number m) =
        j_then T c (bridge.TakesNext from number m) (λ _. GivesBody from (λ h. Got (lane_to h.bridge from).took)) (takes_next from number m) (λ _. gives from (λ h. Got (lane_to h.bridge from).took))
    takes_body from (Got number) = acting (λ p h. Bridge (GotBy from number)) (λ p h. tt)

    hears_frame : (frame : Option BridgeFrame) → Keeps T (bridge.HearsFrame frame)
    hears_frame None = misses BadFrame
    hears_frame (Some frame) =
        j_looks T c (λ p h. is_for_node p frame) (λ here. If here (bridge.TakesBody frame.from frame.body) (Misses BadFrame))
        (λ here. j_if T c here (bridge.TakesBody frame.from frame.body) (Misses BadFrame) (takes_body frame.from frame.body) (misses BadFrame))

    -- ---- an eviction
    evicts : (client : List ℕ) → Keeps T (turns.Evicts client)
    evicts client =
        j_then T c (Removes client None) (λ _. Returns tt)
        (j_looks T c (λ p h. any_of client None h.store.subscriptions) (λ stands. If stands (Then (MakesRemove client None) (λ _. Returns true)) (Returns false))
        (λ stands. j_if T c stands (Then (MakesRemove client None) (λ _. Returns true)) (Returns false)
        (j_then T c (MakesRemove client None) (λ _. Returns true) (j_numbered T c (λ p h. number_at_end p.id h) (λ p h. Store (Made (removal p.id client None h.store))) (λ p h. one p h (Store (Made (removal p.id client None h.store))) tt)) (λ _. j_returns T c true))
        (j_returns T c false))) (λ _. j_returns T c tt)

    opens : (n : ℕ) → Keeps T (OpensConnection n)
    opens n =
        j_looks T c (λ p h. is_open n h) (λ is. If is (Returns tt) (Acting (λ p h. Connection (Opened n)))) (λ is. j_if T c is (Returns tt) (Acting (λ p h. Connection (Opened n))) (j_returns T c tt) (acting (λ p h. Connection (Opened n)) (λ p h. tt)))

    -- ---- an event, by what it may end
    abbrev pub MayEnd : Place → HeldView → EventKind → Type 0
    MayEnd p h (kinds.Piece n bytes) = (found : ConnectionView) → map.get h.connections n ≡ Some found → MayClean (cut_of found.stream bytes).packets
    MayEnd p h (kinds.Table homes) = (client : List ℕ) → IsElsewhere homes p.id client → C client
    MayEnd p h kind = Unit {0}

    pub answers_event : (kind : EventKind) (x : Unit {0}) (p : Place) (h : HeldView) (acts : List Act) → MayEnd p h kind → turns.AnswersEvent kind (Some x) p h acts → T p h acts
    answers_event kinds.Started x p h acts may d = (j_returns T c tt).of x p h acts d
    answers_event (kinds.Opened n) x p h acts may d =
        (opens n).of x p h acts d
    answers_event (kinds.Piece n bytes) x p h acts may d = (piece_at n bytes (map.get h.connections n) may).of x p h acts d
    answers_event (kinds.Room n bytes) x p h acts may d = (makes_room n bytes).of x p h acts d
    answers_event (kinds.Closed n) x p h acts may d = (leaves_of n).of x p h acts d
    answers_event (kinds.Frame bytes) x p h acts may d = (hears_frame (frame_in bytes)).of x p h acts d
    answers_event (kinds.Linked peer) x p h acts may d = (greets peer).of x p h acts d
    answers_event (kinds.Ship peer) x p h acts may d = (ships peer).of x p h acts d
    answers_event (kinds.More peer after) x p h acts may d = (ships_more peer after).of x p h acts d
    answers_event kinds.Tick x p h acts may d = (j_returns T c tt).of x p h acts d
    answers_event (kinds.Evict client) x p h acts may d = (evicts client).of x p h acts d
    answers_event (kinds.Table homes) x p h acts may d = takes_table homes x p h acts may d

    -- the beginning of a node's work, after which those clients go that then may
    pub starts : (x : Unit {0}) (p : Place) (h : HeldView) (acts : List Act) → ((mid : HeldView) (first : List Act) (y : Unit {0}) → Then due.ClosesStored (λ _. due.DoesDue) (Some y) p (next h Began) first → Runs p (next h Began) first mid → (client : List ℕ) → IsElsewhere mid.homes p.id client → C client)
        → due.Starts (Some x) p h acts → T p h acts
    starts x p h acts may (inl d) = none_some (sym d.0)
    starts x p h acts may (inr (y, own, mid, rest, first_act, ran, (inl d), is)) = none_some (sym d.0)
    starts x p h acts may (inr (y, own, mid, rest, first_act, ran, (inr (y2, own2, mid2, rest2, two, ran2, (inl d), is2)), is)) = none_some (sym d.0)
    starts x p h acts may (inr (y, own, mid, rest, first_act, ran, (inr (y2, own2, mid2, rest2, two, ran2, (inr (y3, own3, mid3, rest3, three, ran3, more, is3)), is2)), is)) =
        let left : mid ≡ next h Began = left_by p h mid Began own first_act.1 ran in
        let both : Then due.ClosesStored (λ _. due.DoesDue) (Some y3) p (next h Began) (own2 ++ own3) = inr (y2, own2, mid2, own3, subst (λ v. due.ClosesStored (Some y2) p v own2) left two, subst (λ v. Runs p v own2 mid2) left ran2, three, refl) in
        let together = runs_join p own2 own3 (next h Began) mid2 mid3 (subst (λ v. Runs p v own2 mid2) left ran2) ran3 in
        subst (T p h) (sym is) (c.both p h mid own rest ran (subst (T p h) (sym first_act.1) (one p h Began tt))
        (subst (T p mid) (sym is2) (c.both p mid mid2 own2 rest2 ran2 (closes_stored.of y2 p mid own2 two)
        (subst (T p mid2) (sym is3) (c.both p mid2 mid3 own3 rest3 ran3 (does_due.of y3 p mid2 own3 three) (sends_away x p mid3 rest3 (may mid3 (own2 ++ own3) y3 both together) more))))))
