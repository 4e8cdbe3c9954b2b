-- Each event of a node is determined.
use Rattle.std.proofs.Common.{ℕ, List, map as map_list, Option, Some, None, inl, inr, refl, sym, ap, ◌∙◌, true≢false}
use Rattle.bridge_deltas.proofs.Shipping.{shipped_one}
use Rattle.bridge_frames.specs.declared.body.FrameBody.{FrameBody}
use Rattle.bridge_frames.specs.declared.body.FrameBody.TheVariants.{Hello, Delta, Know, Forward, Got}
use Rattle.bridge_frames.specs.declared.forward.Forward.{Forward as Message}
use Rattle.bridge_frames.specs.declared.frame.BridgeFrame.{BridgeFrame}
use Rattle.bridge_frames.specs.Frames.{frame_in}
use Rattle.session_table.specs.Dues.{Due}
use Rattle.replica_store.specs.States.{State}
use Rattle.law_sessions.specs.Runs.{closes, ticks}
use Rattle.session_table.specs.Calls.{leaves, stays}
use Rattle.node_bridge.specs.View.{belief_of, lane_to}
use Rattle.node_work.specs.declared.counts.Missed.{Missed}
use Rattle.node_work.specs.declared.counts.Missed.TheVariants.{BadFrame, FrameTooLarge, TableRefused}
use Rattle.home_table.specs.Table.{Table}
use Rattle.bridge_routes.proofs.Selecting.{selected_once}
use Rattle.session_table.specs.Seats.{IsElsewhere}
use Rattle.std.specs.FinMap as map
use Rattle.node_clients.specs.Moving.{MovesAway}
use Rattle.broker_node.specs.Moving.{AreAway, TakesNewerTable, SendsAway, TakesTable}
use Rattle.node_work.specs.Acts.{Moved, Began, Bridge, Connection, Merged, Store}
use Rattle.node_work.specs.Doings.{GivesBody, GivesFrame, Misses, OpensConnection, Removes, TakesMoment, is_small}
use Rattle.node_work.specs.Held.Bridge.{Believed, Greeted, Gave, Got as GotBy, Left_out, hello_to}
use Rattle.node_work.specs.Held.Connections.{Opened}
use Rattle.node_work.specs.View.{HeldView}
use Rattle.node_work.specs.Working.{Returns, Acting, Each, Then}
use Rattle.node_clients.specs.Ending.{ClosesConnection}
use Rattle.node_clients.specs.Passing.{TakesForward}
use Rattle.node_clients.proofs.Determined.{Determined, IsAlone, returns_determined, acting_determined, numbered_determined, looks_determined, finds_determined, if_determined, then_determined, each_determined, calls_determined}
use Rattle.node_clients.proofs.DeterminedClients.{moves_away_determined, removes_determined, ticks_determined, closes_determined, piece_determined, leaves_determined, makes_room_determined, takes_forward_determined}
use Rattle.broker_node.specs.declared.event.Event.{Event}
use Rattle.broker_node.specs.declared.event.EventKind.{EventKind}
use Rattle.broker_node.specs.declared.event.EventKind.TheVariants as kinds
use Rattle.broker_node.specs.Bridge.{AreShipped, GivesState, Greets, HearsFrame, Merges, Ships, ShipsLater, ShipsMessages, ShipsMore, ShipsMoreTo, ShipsState, ShipsTo, TakesBody, TakesMessage, TakesNext, TellsTaken}
use Rattle.broker_node.specs.Due.{ClosesStored, DoesDue, EndsConnections, EndsSessions, PartsFrom, PublishesWills, RunsOut, Starts, TicksOf}
use Rattle.broker_node.specs.Turns.{AnswersEvent, Decides, Evicts, AwaitsStart, AnswersAfterDue, Turn}

-- ---- what nodes tell one another

misses_determined : (what : Missed) → Determined (Misses what)
misses_determined what = acting_determined (λ p h. Bridge (Left_out what))

gives_frame_determined : (f : BridgeFrame) → Determined (GivesFrame f)
gives_frame_determined f =
    if_determined (is_small f) (Acting (λ p h. Bridge (Gave f))) (Misses FrameTooLarge) (acting_determined (λ p h. Bridge (Gave f))) (misses_determined FrameTooLarge)

gives_determined : (peer : ℕ) (body : HeldView → FrameBody) → Determined (GivesBody peer body)
gives_determined peer body = looks_determined _ _ gives_frame_determined

greets_determined : (peer : ℕ) → Determined (Greets peer)
greets_determined peer =
    looks_determined _ _ (λ other. if_determined other (GivesBody peer (hello_to peer)) (Returns tt) (gives_determined peer (hello_to peer)) (returns_determined tt))

shipped_alone : (peer : ℕ) → IsAlone (AreShipped peer)
shipped_alone peer p h None None sound a b = refl
shipped_alone peer p h None (Some t) sound (inl none) b = absurd (true≢false (sym b.0 ∙ none))
shipped_alone peer p h None (Some t) sound (inr below) b = absurd (b.1 below)
shipped_alone peer p h (Some s) None sound a (inl none) = absurd (true≢false (sym a.0 ∙ none))
shipped_alone peer p h (Some s) None sound a (inr below) = absurd (a.1 below)
shipped_alone peer p h (Some s) (Some t) sound a b = ap Some (shipped_one (belief_of h.bridge peer) h.bridge.deltas h.store s t a.2 b.2)

gives_state_determined : (peer : ℕ) (s : Option State) → Determined (GivesState peer s)
gives_state_determined peer None = returns_determined tt
gives_state_determined peer (Some s) = gives_determined peer (λ h. Delta s)

ships_to_determined : (peer : ℕ) → Determined (ShipsTo peer)
ships_to_determined peer =
    then_determined (ShipsState peer) (λ _. ShipsMessages peer) (finds_determined (AreShipped peer) (GivesState peer) (shipped_alone peer) (gives_state_determined peer))
    (λ _. looks_determined _ _ (each_determined GivesFrame gives_frame_determined))

ships_determined : (peer : ℕ) → Determined (Ships peer)
ships_determined peer = looks_determined _ _ (λ other. if_determined other (ShipsTo peer) (Returns tt) (ships_to_determined peer) (returns_determined tt))

ships_more_to_determined : (peer after : ℕ) → Determined (ShipsMoreTo peer after)
ships_more_to_determined peer after =
    then_determined (ShipsState peer) (λ _. ShipsLater peer after) (finds_determined (AreShipped peer) (GivesState peer) (shipped_alone peer) (gives_state_determined peer))
    (λ _. looks_determined _ _ (each_determined GivesFrame gives_frame_determined))

ships_more_determined : (peer after : ℕ) → Determined (ShipsMore peer after)
ships_more_determined peer after = looks_determined _ _ (λ other. if_determined other (ShipsMoreTo peer after) (Returns tt) (ships_more_to_determined peer after) (returns_determined tt))

tells_taken_determined : (from : ℕ) → Determined (TellsTaken from)
tells_taken_determined from = gives_determined from (λ h. Know h.store.taken)

merges_determined : (from : ℕ) (s : State) → Determined (Merges from s)
merges_determined from s = then_determined _ _ (acting_determined (λ p h. Store (Merged s))) (λ _. tells_taken_determined from)

takes_message_determined : (from number : ℕ) (m : Message) → Determined (TakesMessage from number m)
takes_message_determined from number m =
    then_determined (TakesNext from number m) _
    (looks_determined _ _ (λ next. if_determined next (TakesForward from number m) (Returns tt) (takes_forward_determined from number m) (returns_determined tt)))
    (λ _. gives_determined from (λ h. Got (lane_to h.bridge from).took))

takes_determined : (from : ℕ) (body : FrameBody) → Determined (TakesBody from body)
takes_determined from (Hello g) = then_determined _ _ (acting_determined (λ p h. Bridge (Greeted from g))) (λ _. tells_taken_determined from)
takes_determined from (Delta s) = merges_determined from s
takes_determined from (Know dots) = acting_determined (λ p h. Bridge (Believed from dots))
takes_determined from (Forward number m) = takes_message_determined from number m
takes_determined from (Got number) = acting_determined (λ p h. Bridge (GotBy from number))

hears_frame_determined : (frame : Option BridgeFrame) → Determined (HearsFrame frame)
hears_frame_determined None = misses_determined BadFrame
hears_frame_determined (Some frame) =
    looks_determined _ _
    (λ here. if_determined here (TakesBody frame.from frame.body) (Misses BadFrame) (takes_determined frame.from frame.body) (misses_determined BadFrame))

-- ---- what is due

parts_from_determined : (client : List ℕ) → Determined (PartsFrom client)
parts_from_determined client = then_determined _ _ (calls_determined client closes leaves) (λ _. returns_determined tt)

runs_out_determined : (d : Due) → Determined (RunsOut d)
runs_out_determined d =
    then_determined _ (λ _. Then (ClosesConnection d.0) (λ _. PartsFrom d.1)) (calls_determined d.1 ticks stays)
    (λ _. then_determined (ClosesConnection d.0) (λ _. PartsFrom d.1) (closes_determined d.0) (λ _. parts_from_determined d.1))

ticks_of_determined : (d : Due) → Determined (TicksOf d)
ticks_of_determined d = ticks_determined d.1

does_due_determined : Determined DoesDue
does_due_determined =
    then_determined EndsConnections (λ _. Then PublishesWills (λ _. EndsSessions)) (looks_determined _ _ (each_determined RunsOut runs_out_determined))
    (λ _. then_determined PublishesWills (λ _. EndsSessions) (looks_determined _ _ (each_determined TicksOf ticks_of_determined))
    (λ _. looks_determined _ _ (each_determined TicksOf ticks_of_determined)))

away_alone : IsAlone AreAway
away_alone p h x y sound a b = selected_once (IsElsewhere h.homes p.id) (map_list (λ e. e.0) (map.entries h.sessions)) x y a b

sends_away_determined : Determined SendsAway
sends_away_determined = finds_determined AreAway (Each MovesAway) away_alone (each_determined MovesAway moves_away_determined)

takes_table_determined : (homes : Table) → Determined (TakesTable homes)
takes_table_determined homes =
    looks_determined _ _ (λ newer. if_determined newer (TakesNewerTable homes) (Misses TableRefused) (then_determined _ (λ _. SendsAway) (acting_determined (λ p h. Moved homes)) (λ _. sends_away_determined)) (misses_determined TableRefused))

starts_determined : Determined Starts
starts_determined =
    then_determined _ (λ _. Then ClosesStored (λ _. Then DoesDue (λ _. SendsAway))) (acting_determined (λ p h. Began))
    (λ _. then_determined ClosesStored (λ _. Then DoesDue (λ _. SendsAway)) (looks_determined _ _ (each_determined PartsFrom parts_from_determined))
    (λ _. then_determined DoesDue (λ _. SendsAway) does_due_determined (λ _. sends_away_determined)))

-- ---- events

opens_determined : (c : ℕ) → Determined (OpensConnection c)
opens_determined c =
    looks_determined _ _
    (λ is. if_determined is (Returns tt) (Acting (λ p h. Connection (Opened c))) (returns_determined tt) (acting_determined (λ p h. Connection (Opened c))))

evicts_determined : (client : List ℕ) → Determined (Evicts client)
evicts_determined client = then_determined (Removes client None) _ (removes_determined client None) (λ _. returns_determined tt)

first_determined : (kind : EventKind) → Determined (AwaitsStart kind)
first_determined kinds.Started = starts_determined
first_determined (kinds.Opened connection) = returns_determined tt
first_determined (kinds.Piece connection bytes) = returns_determined tt
first_determined (kinds.Room connection bytes) = returns_determined tt
first_determined (kinds.Closed connection) = returns_determined tt
first_determined (kinds.Frame bytes) = returns_determined tt
first_determined (kinds.Linked peer) = returns_determined tt
first_determined (kinds.Ship peer) = returns_determined tt
first_determined (kinds.More peer after) = returns_determined tt
first_determined kinds.Tick = returns_determined tt
first_determined (kinds.Evict client) = returns_determined tt
first_determined (kinds.Table homes) = returns_determined tt

answers_determined : (kind : EventKind) → Determined (AnswersEvent kind)
answers_determined kinds.Started = returns_determined tt
answers_determined (kinds.Opened connection) = opens_determined connection
answers_determined (kinds.Piece connection bytes) = piece_determined connection bytes
answers_determined (kinds.Room connection bytes) = makes_room_determined connection bytes
answers_determined (kinds.Closed connection) = leaves_determined connection
answers_determined (kinds.Frame bytes) = hears_frame_determined (frame_in bytes)
answers_determined (kinds.Linked peer) = greets_determined peer
answers_determined (kinds.Ship peer) = ships_determined peer
answers_determined (kinds.More peer after) = ships_more_determined peer after
answers_determined kinds.Tick = returns_determined tt
answers_determined (kinds.Evict client) = evicts_determined client
answers_determined (kinds.Table homes) = takes_table_determined homes

due_and_answers_determined : (kind : EventKind) → Determined (Then DoesDue (λ _. AnswersEvent kind))
due_and_answers_determined kind = then_determined DoesDue (λ _. AnswersEvent kind) does_due_determined (λ _. answers_determined kind)

goes_on_determined : (kind : EventKind) → Determined (AnswersAfterDue kind)
goes_on_determined kinds.Started = returns_determined tt
goes_on_determined (kinds.Opened connection) = due_and_answers_determined (kinds.Opened connection)
goes_on_determined (kinds.Piece connection bytes) = due_and_answers_determined (kinds.Piece connection bytes)
goes_on_determined (kinds.Room connection bytes) = due_and_answers_determined (kinds.Room connection bytes)
goes_on_determined (kinds.Closed connection) = due_and_answers_determined (kinds.Closed connection)
goes_on_determined (kinds.Frame bytes) = due_and_answers_determined (kinds.Frame bytes)
goes_on_determined (kinds.Linked peer) = due_and_answers_determined (kinds.Linked peer)
goes_on_determined (kinds.Ship peer) = due_and_answers_determined (kinds.Ship peer)
goes_on_determined (kinds.More peer after) = due_and_answers_determined (kinds.More peer after)
goes_on_determined kinds.Tick = due_and_answers_determined kinds.Tick
goes_on_determined (kinds.Evict client) = due_and_answers_determined (kinds.Evict client)
goes_on_determined (kinds.Table homes) = due_and_answers_determined (kinds.Table homes)

turn_determined : (kind : EventKind) → Determined (Turn kind)
turn_determined kind = looks_determined _ _ (λ started. if_determined started (AnswersAfterDue kind) (AwaitsStart kind) (goes_on_determined kind) (first_determined kind))

pub decides_determined : (e : Event) → Determined (Decides e)
decides_determined e = then_determined (TakesMoment e.at) (λ _. Turn e.kind) (numbered_determined _ _) (λ _. turn_determined e.kind)
