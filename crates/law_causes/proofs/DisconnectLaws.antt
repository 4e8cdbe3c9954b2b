-- A DISCONNECT is the last packet of its connection, in every step and in every run.
use Rattle.std.specs.FinMap as map
use Rattle.std.proofs.Common.{◌≡◌, ◌≢◌, ◌⊎◌, inl, inr, ℕ, Bool, true, false, cond, is_some, List, [], ◌∷◌, ◌++◌, map as map_list, Option, Some, None, refl, sym, ap, ◌∙◌, subst, append_assoc, eq-eqb}
use Rattle.std.proofs.lemmas.List.{append-nil}
use Rattle.std.specs.List.{AllByRecursion}
use Rattle.std.specs.Prelude.{◌==◌, option_and_then}
use Rattle.bridge_frames.specs.declared.body.FrameBody.{FrameBody}
use Rattle.bridge_frames.specs.declared.body.FrameBody.TheVariants.{Hello, Delta, Know, Forward as Forwards, Got as Gots}
use Rattle.bridge_frames.specs.declared.forward.Forward.{Forward as Message}
use Rattle.bridge_frames.specs.declared.frame.BridgeFrame.{BridgeFrame}
use Rattle.bridge_frames.specs.Frames.{frame_in}
use Rattle.home_table.specs.Table.{Table}
use Rattle.mqtt_packets.specs.Written.{written}
use Rattle.mqtt_sessions.specs.declared.reaction.Output.{Output as Packet}
use Rattle.mqtt_sessions.specs.Answers.{disconnect}
use Rattle.law_sessions.specs.Runs.{Event as Call, connects, queues, rooms, takes, answers, closes, ticks, finishes, loses}
use Rattle.session_table.specs.Dues.{Due}
use Rattle.session_table.specs.Seats.{Seat, connected, run_outs}
use Rattle.subscription_set.specs.Standing.{any_of}
use Rattle.node_bridge.specs.View.{is_next}
use Rattle.node_work.specs.declared.outcome.Output.{Output}
use Rattle.node_work.specs.declared.outcome.Output.TheVariants.{Send, Close, Frame as Release}
use Rattle.node_work.specs.Acts.{Act, StoreAct, MomentTaken, Began, Moved, Store, Connection, Session, Bridge, Out, Named, Acknowledged, Passed, Dropped, Runs, gather, next, output_in}
use Rattle.node_work.specs.Doings.{is_small}
use Rattle.node_work.specs.Frames.{is_for_node, is_other}
use Rattle.node_work.specs.Held.Bridge.{BridgeAct, Put, Took, Got, Believed, Greeted, Gave, Left_out, hello_to}
use Rattle.node_work.specs.Held.Connections.{ConnectionTable, Opened, Fed, Roomed, Accepted, Closed, changed_at, client_at, is_open, with_client, with_piece, with_room}
use Rattle.node_work.specs.Held.Feeding.{cut_of}
use Rattle.node_work.specs.Held.Sessions.{SessionStep, Begun, Called, Over, connection_at, end_outputs, has_session, outputs_on, packet_output, takes_packet}
use Rattle.node_work.specs.Packets.{moved_packet}
use Rattle.node_work.specs.View.{Place, HeldView, ConnectionView}
use Rattle.node_work.proofs.Working.{gather-append}
use Rattle.node_clients.specs.Connecting.{address_of}
use Rattle.broker_node.specs.declared.event.Event.{Event}
use Rattle.broker_node.specs.declared.event.EventKind.{EventKind}
use Rattle.broker_node.specs.declared.event.EventKind.TheVariants as kinds
use Rattle.broker_node.specs.Moving.{is_newer_table}
use Rattle.broker_node.specs.Turns.{Decides}
use Rattle.cluster_play.specs.Worlds.{World}
use Rattle.cluster_play.specs.Runs.{Played}
use Rattle.cluster_play.specs.Agreement.{Holds}
use Rattle.cluster_play.specs.Histories.{Reached, acts_of, site}
use Rattle.cluster_play.proofs.Bools.{nat_cases, some_is}
use Rattle.cluster_play.proofs.Paths.{commits_acts, midway}
use Rattle.cluster_play.proofs.Rows.{committed}
use Rattle.law_runs.specs.ConnectionRooms.{CallsWithRoom, IsToldOf}
use Rattle.law_runs.proofs.Splits.{head_is, none_there, runs_split, tail_is}
use Rattle.law_steps.specs.Bridging.{IsSentTo, IsSentMore, FrameAlone, HearsAlone, IsBrought, TakesOfLane, all_out}
use Rattle.law_steps.specs.Determining.{ComesTo, GoesBy, KeepsLaws}
use Rattle.law_causes.specs.Disconnects.{DisconnectsAreLast, DisconnectsEnd, DisconnectsOfRunsAreLast, IsOn, IsTheEnd}
use Rattle.law_steps.specs.Due.{InOrder, TimesOut}
use Rattle.law_steps.specs.Ending.{LeavesFrom}
use Rattle.law_steps.specs.Frames.{frame_to}
use Rattle.law_steps.specs.Going.{IsToldItsHome}
use Rattle.law_steps.specs.Moving.{ClientsGoAlone, GoInTurnAlone, GoesAlone, PartsAlone, SentOnAlone, StartsAlone}
use Rattle.law_steps.specs.Outputs.{Occasion, SessionsAreOnTheirs, GoesRight}
use Rattle.law_steps.specs.Pieces.{BytesAlone, PieceAlone, ShutsAlone}
use Rattle.law_steps.specs.Served.{ConnectionsAreServed}
use Rattle.law_steps.specs.Starting.{AreClosed, IsClosed}
use Rattle.law_steps.proofs.ClosingLaws.{open_with, second_runs}
use Rattle.law_causes.proofs.Farewells.{IsMild, IsOther, fine, mild, other_bytes}
use Rattle.law_steps.proofs.Keeping.{steps_keep_laws}
use Rattle.law_steps.proofs.On.{gone_apart, gone_here, put_apart, put_here}
use Rattle.law_steps.proofs.OutputRuns.{outputs_go_right, sessions_stay_on}
use Rattle.law_steps.proofs.ServedRuns.{connections_stay_served}
use Rattle.law_causes.proofs.Tidy.{CallShuts, EndShuts, Parts, Shuts, Tidy, mild_by, plain_tidy, tidy_both, tidy_is, tidy_none, tidy_parts}
use Rattle.law_causes.proofs.TidyDue.{ArePassing, IsPassing, all_both, all_due_tidy, all_is, finish_if, parts_well, passing_plain, queued_passing}
use Rattle.law_causes.proofs.TidyPieces.{AreLater, IsLater, Serves, all_later, closes_good, serves_on, taken_tidy, told_good}

-- ---- clients go
away_if : (b : Bool) (p : Place) (h h' : HeldView) (c : ℕ) (client bytes : List ℕ) (told rest acts : List Act) → cond b (told ≡ Out (Send c bytes) ∷ []) (told ≡ []) → acts ≡ told ++ rest → Runs p h acts h' → ((acts : List Act) → acts ≡ cond b (Out (Send c bytes) ∷ []) [] ++ rest → Runs p h acts h' → Tidy acts) → Tidy acts
away_if true p h h' c client bytes told rest acts d is runs f = f acts (is ∙ ap (λ xs. xs ++ rest) d) runs
away_if false p h h' c client bytes told rest acts d is runs f = f acts (is ∙ ap (λ xs. xs ++ rest) d) runs

sent_by : (o : Option (List ℕ)) (p : Place) (h h' : HeldView) (c : ℕ) (client : List ℕ) (acts : List Act) (d : SentOnAlone p h c client acts) → IsToldItsHome c client h o d.told → Runs p h acts h' → Tidy acts
sent_by None p h h' c client acts d told runs = (told_good false p h h' c client [] d.rest acts (d.is ∙ ap (λ xs. xs ++ d.rest) told) d.closes runs).tidy
sent_by (Some address) p h h' c client acts d told runs =
    let b = takes_packet client (moved_packet address) h in
    away_if b p h h' c client (written (moved_packet address)) d.told d.rest acts told d.is runs (λ xs is ran. (told_good b p h h' c client (written (moved_packet address)) d.rest xs is d.closes ran).tidy)

parted_tidy : (o : Option ℕ) (p : Place) (h h' : HeldView) (client : List ℕ) (acts : List Act) → PartsAlone p h client o acts → Runs p h acts h' → Tidy acts
parted_tidy None p h h' client acts d runs = tidy_none acts d
parted_tidy (Some c) p h h' client acts d runs = sent_by (address_of h d.home) p h h' c client acts d d.is_told runs

goes_tidy : (p : Place) (h h' : HeldView) (client : List ℕ) (acts : List Act) → GoesAlone p h client acts → Tidy acts
goes_tidy p h h' client acts d =
    tidy_parts acts d.parting d.ending d.is (parted_tidy (connection_at client h) p h d.left client d.parting d.parts d.leaves) (finish_if (has_session client d.left) p d.left client d.ending d.ends).tidy

go_tidy : (p : Place) (clients : List (List ℕ)) (h : HeldView) (acts : List Act) → GoInTurnAlone p clients h acts → Tidy acts
go_tidy p [] h acts d = tidy_none acts d
go_tidy p (client ∷ clients) h acts (own, mid, rest, is, ran, one, more) = tidy_parts acts own rest is (goes_tidy p h mid client own one) (go_tidy p clients mid rest more)

clients_tidy : (p : Place) (h : HeldView) (acts : List Act) → ClientsGoAlone p h acts → Tidy acts
clients_tidy p h acts d = go_tidy p d.away h acts d.go

table_if : (b : Bool) (p : Place) (h : HeldView) (homes : Table) (acts : List Act) (x : BridgeAct) → cond b ((rest : List Act) × (acts ≡ Moved homes ∷ rest) × ClientsGoAlone p (next h (Moved homes)) rest) (acts ≡ Bridge x ∷ []) → Tidy acts
table_if true p h homes acts x d = tidy_is acts _ d.1 (tt, clients_tidy p (next h (Moved homes)) d.0 d.2)
table_if false p h homes acts x d = tidy_is acts _ d (tt, tt)

-- ---- other nodes
out_if : (b : Bool) (x y : BridgeAct) → IsPassing (cond b (Bridge x) (Bridge y))
out_if true x y = (tt, tt)
out_if false x y = (tt, tt)

out_passing : (fs : List BridgeFrame) → ArePassing (all_out fs)
out_passing [] = tt
out_passing (f ∷ fs) = (out_if (is_small f) _ _, out_passing fs)

all_out_tidy : (fs : List BridgeFrame) (acts : List Act) → acts ≡ all_out fs → Tidy acts
all_out_tidy fs acts is = tidy_is acts (all_out fs) is (plain_tidy (all_out fs) (passing_plain (all_out fs) (out_passing fs)))

greets_if : (b : Bool) (fs : List BridgeFrame) (acts : List Act) → acts ≡ cond b (all_out fs) [] → Tidy acts
greets_if true fs acts is = all_out_tidy fs acts is
greets_if false fs acts is = tidy_none acts is

lane_if : (b : Bool) (h : HeldView) (from number : ℕ) (m : Message) (acts : List Act) → cond b (TakesOfLane h from number m acts) (acts ≡ []) → Tidy acts
lane_if true h from number m acts d = tidy_is acts _ d.is (tt, plain_tidy d.calls (passing_plain d.calls (queued_passing h.at d.copies d.calls d.queued)))
lane_if false h from number m acts d = tidy_none acts d

brought_tidy : (h : HeldView) (from : ℕ) (body : FrameBody) (acts : List Act) → IsBrought h from body acts → Tidy acts
brought_tidy h from (Hello g) acts d = tidy_is acts _ d (tt, tt)
brought_tidy h from (Delta s) acts d = tidy_is acts _ d (tt, tt)
brought_tidy h from (Know dots) acts d = tidy_is acts _ d (tt, tt)
brought_tidy h from (Forwards number m) acts d = lane_if (is_next from number h.bridge) h from number m acts d
brought_tidy h from (Gots number) acts d = tidy_is acts _ d (tt, tt)

heard_if : (b : Bool) (p : Place) (h : HeldView) (f : BridgeFrame) (acts : List Act) (x : BridgeAct) → cond b (HearsAlone p h f.from f.body acts) (acts ≡ Bridge x ∷ []) → Tidy acts
heard_if true p h f acts x d = tidy_parts acts d.own _ d.is (brought_tidy h f.from f.body d.own d.brings) (all_out_tidy _ _ refl)
heard_if false p h f acts x d = tidy_is acts _ d (tt, tt)

frame_tidy : (o : Option BridgeFrame) (p : Place) (h : HeldView) (acts : List Act) → FrameAlone p h o acts → Tidy acts
frame_tidy None p h acts d = tidy_is acts _ d (tt, tt)
frame_tidy (Some f) p h acts d = heard_if (is_for_node p f) p h f acts _ d

ships_if : (b : Bool) (p : Place) (h : HeldView) (peer : ℕ) (acts : List Act) → cond b (IsSentTo p h peer acts) (acts ≡ []) → Tidy acts
ships_if true p h peer acts d = all_out_tidy _ acts d.2
ships_if false p h peer acts d = tidy_none acts d

more_if : (b : Bool) (p : Place) (h : HeldView) (peer after : ℕ) (acts : List Act) → cond b (IsSentMore p h peer after acts) (acts ≡ []) → Tidy acts
more_if true p h peer after acts d = all_out_tidy _ acts d.2
more_if false p h peer after acts d = tidy_none acts d

-- ---- clients
leaves_tidy : (o : Option (List ℕ)) (p : Place) (h h' : HeldView) (c : ℕ) (acts : List Act) → LeavesFrom p h c o acts → Runs p h acts h' → Tidy acts
leaves_tidy None p h h' c acts d runs = tidy_is acts _ d (tt, tt)
leaves_tidy (Some client) p h h' c acts d runs =
    let r = subst (λ xs. Runs p h xs h') d.1 runs in
    tidy_is acts _ d.1 (tt, (parts_well p (next h (Connection (Closed c))) h' client d.0 d.2 (subst (λ v. Runs p v d.0 h') r.1.1 r.2)).tidy)

leaves_if : (b : Bool) (p : Place) (h h' : HeldView) (c : ℕ) (acts : List Act) → cond b (LeavesFrom p h c (client_at c h) acts) (acts ≡ []) → Runs p h acts h' → Tidy acts
leaves_if true p h h' c acts d runs = leaves_tidy (client_at c h) p h h' c acts d runs
leaves_if false p h h' c acts d runs = tidy_none acts d

called_if : (b : Bool) (client : List ℕ) (bytes at : ℕ) (acts : List Act) → cond b (CallsWithRoom client bytes at acts) (acts ≡ []) → Tidy acts
called_if true client bytes at acts d = tidy_is acts _ d.is (plain_tidy (Session (Called d.call) ∷ []) (mild_by d.call (rooms bytes at) d.event tt, tt))
called_if false client bytes at acts d = tidy_none acts d

room_tidy : (o : Option (List ℕ)) (c bytes at : ℕ) (h : HeldView) (acts : List Act) → IsToldOf c bytes at h o acts → Tidy acts
room_tidy None c bytes at h acts d = tidy_is acts _ d (tt, tt)
room_tidy (Some client) c bytes at h acts d = called_if (has_session client h) client bytes at acts d

room_if : (b : Bool) (c bytes at : ℕ) (h : HeldView) (acts : List Act) → cond b (IsToldOf c bytes at h (client_at c h) acts) (acts ≡ []) → Tidy acts
room_if true c bytes at h acts d = room_tidy (client_at c h) c bytes at h acts d
room_if false c bytes at h acts d = tidy_none acts d

evict_if : (b : Bool) (a : StoreAct) (acts : List Act) → acts ≡ cond b (Store a ∷ []) [] → Tidy acts
evict_if true a acts is = tidy_is acts _ is (tt, tt)
evict_if false a acts is = tidy_none acts is

-- ---- bytes
fed_client : (c : ℕ) (bytes : List ℕ) (m : ConnectionTable) (o : Option ConnectionView) → map.get m c ≡ o → option_and_then (λ (v : ConnectionView). v.client) (map.get (changed_at (with_piece bytes) c m o) c) ≡ option_and_then (λ (v : ConnectionView). v.client) (map.get m c)
fed_client c bytes m None is = refl
fed_client c bytes m (Some found) is =
    ap (option_and_then (λ (v : ConnectionView). v.client)) (put_here m c (with_piece bytes found)) ∙ sym (ap (option_and_then (λ (v : ConnectionView). v.client)) is)

piece_tidy : (p : Place) (h h' : HeldView) (c : ℕ) (bytes : List ℕ) (found : ConnectionView) (acts : List Act) → PieceAlone p h c bytes found acts → Runs p h acts h' → Serves c h → Tidy acts
piece_tidy p h h' c bytes found acts d runs s =
    let a = Connection (Fed c bytes) in
    let r = subst (λ xs. Runs p h xs h') d.1 runs in
    let serves : Serves c (next h a) = λ client has. s client (sym (fed_client c bytes h.connections (map.get h.connections c) refl) ∙ has) in
    tidy_is acts _ d.1 (tt, taken_tidy (cut_of found.stream bytes).packets (cut_of found.stream bytes).fault p (next h a) h' c d.0 d.2 (subst (λ v. Runs p v d.0 h') r.1.1 r.2) serves)

shuts_tidy : (o : Option (List ℕ)) (p : Place) (h h' : HeldView) (c : ℕ) (acts : List Act) → ShutsAlone p h c o acts → Runs p h acts h' → Tidy acts
shuts_tidy None p h h' c acts d runs = tidy_is acts _ d (tt, (tt, tt))
shuts_tidy (Some client) p h h' c acts d runs = (closes_good p h h' c client acts d runs).good.tidy

bytes_if : (b : Bool) (p : Place) (h h' : HeldView) (c : ℕ) (bytes : List ℕ) (found : ConnectionView) (acts : List Act) → cond b (ShutsAlone p h c (client_at c h) acts) (PieceAlone p h c bytes found acts) → Runs p h acts h' → Serves c h → Tidy acts
bytes_if true p h h' c bytes found acts d runs s = shuts_tidy (client_at c h) p h h' c acts d runs
bytes_if false p h h' c bytes found acts d runs s = piece_tidy p h h' c bytes found acts d runs s

bytes_tidy : (o : Option ConnectionView) (p : Place) (h h' : HeldView) (c : ℕ) (bytes : List ℕ) (acts : List Act) → BytesAlone p h c bytes o acts → Runs p h acts h' → Serves c h → Tidy acts
bytes_tidy None p h h' c bytes acts d runs s = tidy_none acts d
bytes_tidy (Some found) p h h' c bytes acts d runs s = bytes_if found.stream.failed p h h' c bytes found acts d runs s

-- ---- a step: tidy acts, and behind them at most that a connection is opened
pub record IsTidy (acts : List Act) : Type 0 where
  pub front : List Act
  pub tail : List Act
  pub is : acts ≡ front ++ tail
  pub tidy : Tidy front
  pub quiet : gather output_in tail ≡ []

all_tidy : (acts : List Act) → Tidy acts → IsTidy acts
all_tidy acts t = record { front = acts; tail = []; is = sym (append-nil acts); tidy = t; quiet = refl }

opened_if : (b : Bool) (c : ℕ) (acts : List Act) → cond b (acts ≡ []) (acts ≡ Connection (Opened c) ∷ []) → IsTidy acts
opened_if true c acts is = all_tidy acts (tidy_none acts is)
opened_if false c acts is = record { front = []; tail = Connection (Opened c) ∷ []; is = is; tidy = tt; quiet = refl }

answers_tidy : (kind : EventKind) (p : Place) (h h' : HeldView) (acts : List Act) → ComesTo kind p h acts → Runs p h acts h' → ((c : ℕ) → Serves c h) → IsTidy acts
answers_tidy kinds.Tick p h h' acts d runs s = all_tidy acts (tidy_none acts d)
answers_tidy (kinds.Opened c) p h h' acts d runs s = opened_if (is_open c h) c acts d
answers_tidy (kinds.Closed c) p h h' acts d runs s = all_tidy acts (leaves_if (is_open c h) p h h' c acts d runs)
answers_tidy (kinds.Room c bytes) p h h' acts d runs s = all_tidy acts (room_if (is_open c h) c bytes h.at h acts d)
answers_tidy (kinds.Piece c bytes) p h h' acts d runs s = all_tidy acts (bytes_tidy (map.get h.connections c) p h h' c bytes acts d runs (s c))
answers_tidy (kinds.Evict client) p h h' acts d runs s = all_tidy acts (evict_if (any_of client None h.store.subscriptions) _ acts d)
answers_tidy (kinds.Frame bytes) p h h' acts d runs s = all_tidy acts (frame_tidy (frame_in bytes) p h acts d)
answers_tidy (kinds.Linked peer) p h h' acts d runs s = all_tidy acts (greets_if (is_other p peer) (frame_to p peer (hello_to peer h) ∷ []) acts d)
answers_tidy (kinds.Ship peer) p h h' acts d runs s = all_tidy acts (ships_if (is_other p peer) p h peer acts d)
answers_tidy (kinds.More peer after) p h h' acts d runs s = all_tidy acts (more_if (is_other p peer) p h peer after acts d)
answers_tidy (kinds.Table homes) p h h' acts d runs s = all_tidy acts (table_if (is_newer_table homes p h) p h homes acts _ d)
answers_tidy kinds.Started p h h' acts d runs s = all_tidy acts (tidy_none acts d)

-- what is due leaves each client on its connection
out_later : (h : HeldView) (d : Due) (acts : List Act) → TimesOut h d acts → AreLater acts
out_later h d acts t = all_is IsLater acts _ t.is (calls t.call (ticks h.at) t.event tt, (tt, (tt, (calls t.leave (closes h.at) t.leave_event tt, tt))))
  where
    calls : (s : SessionStep) (e : Call) → s.event ≡ e → IsLater (Session (Called (record s { event = e }))) → IsLater (Session (Called s))
    calls s e is later = subst (λ x. IsLater (Session (Called (record s { event = x })))) (sym is) later

outs_later : (p : Place) (ds : List Due) (h mid : HeldView) (acts : List Act) → InOrder TimesOut p ds h acts mid → AreLater acts
outs_later p [] h mid acts d = all_is IsLater acts [] d.0 tt
outs_later p (x ∷ ds) h mid acts (own, left, rest, is, ran, one, more) = all_is IsLater acts (own ++ rest) is (all_both IsLater own rest (out_later h x own one) (outs_later p ds left mid rest more))

served : (h : HeldView) → ConnectionsAreServed h → (c : ℕ) → Serves c h
served h s c client has seat q found at =
    let was = s c client has in
    let same : was.seat ≡ seat = some_is (sym was.found ∙ found) in
    some_is (sym at ∙ ap (λ (v : Seat). v.connection) (sym same) ∙ was.on)

goes_by : (e : Event) (p : Place) (h last : HeldView) (acts : List Act) → ConnectionsAreServed h → GoesBy e p h acts → Runs p h acts last → IsTidy acts
goes_by e p h last acts s d runs =
    let a = MomentTaken e.at in
    let r = subst (λ xs. Runs p h xs last) d.is runs in
    let later : Runs p (next h a) (d.own ++ d.rest) last = subst (λ v. Runs p v (d.own ++ d.rest) last) r.1.1 r.2 in
    let rest = second_runs p (next h a) d.held last d.own d.rest (d.own ++ d.rest) refl d.runs later in
    let due = all_due_tidy p (next h a) d.held d.own d.due in
    let all : AreLater d.own =
    all_is IsLater d.own _ d.due.is (all_both IsLater d.due.outs (d.due.wills ++ d.due.ends) (outs_later p (run_outs h.sessions (next h a).at) (next h a) d.due.mid d.due.outs d.due.outs_are)
    (all_both IsLater d.due.wills d.due.ends (all_later d.due.wills due.wills_due) (all_later d.due.ends due.ends_due))) in
    let t = answers_tidy e.kind p d.held last d.rest d.answers rest (λ c. serves_on c p d.own (next h a) d.held all d.runs (served h s c)) in
    record {
      front = a ∷ (d.own ++ t.front);
      tail = t.tail;
      is = d.is ∙ (λ i. a ∷ (d.own ++ t.is i)) ∙ ap (λ xs. a ∷ xs) (sym (append_assoc d.own t.front t.tail));
      tidy = (tt, tidy_both d.own t.front due.tidy t.tidy);
      quiet = t.quiet;
    }

-- ---- the first Started
closed_if : (b : Bool) (h : HeldView) (client : List ℕ) (acts : List Act) → cond b (IsClosed h client acts) (acts ≡ []) → Tidy acts
closed_if true h client acts d = tidy_is acts _ d.is (plain_tidy (Session (Called d.call) ∷ []) (mild_by d.call (closes h.at) d.event tt, tt))
closed_if false h client acts d = tidy_none acts d

closed_tidy : (p : Place) (clients : List (List ℕ)) (h last : HeldView) (acts : List Act) → AreClosed p clients h acts last → Tidy acts
closed_tidy p [] h last acts d = tidy_none acts d.0
closed_tidy p (client ∷ clients) h last acts (own, mid, rest, is, ran, one, more) = tidy_parts acts own rest is (closed_if (has_session client h) h client own one) (closed_tidy p clients mid last rest more)

starts_tidy : (p : Place) (h : HeldView) (at : ℕ) (acts : List Act) → StartsAlone p h at acts → Tidy acts
starts_tidy p h at acts d =
    let h2 = next (next h (MomentTaken at)) Began in
    let due = all_due_tidy p d.mid d.left d.due d.does in
    tidy_is acts _ d.is (tt, (tt, tidy_both d.closed (d.due ++ d.away) (closed_tidy p (connected h.sessions) h2 d.mid d.closed d.closes_all) (tidy_both d.due d.away due.tidy (clients_tidy p d.left d.away d.goes))))

abbrev is_start : EventKind → Bool
is_start kinds.Started = true
is_start kind = false

start_is : (kind : EventKind) → is_start kind ≡ true → kind ≡ kinds.Started
start_is kinds.Started e = refl
start_is kind e = absurd (let z : false ≡ true = e in cc)

step_by : (e : Event) (p : Place) (h last : HeldView) (acts : List Act) (started start : Bool) → h.started ≡ started → is_start e.kind ≡ start → ConnectionsAreServed h → KeepsLaws e p h acts → Runs p h acts last → IsTidy acts
step_by e p h last acts true true a b s k runs = all_tidy acts (tidy_is acts _ (k.once a (start_is e.kind b)) (tt, tt))
step_by e p h last acts true false a b s k runs = goes_by e p h last acts s (k.goes a (λ z. (let y : true ≡ false = sym (ap is_start z) ∙ b in cc))) runs
step_by e p h last acts false true a b s k runs = all_tidy acts (starts_tidy p h e.at acts (k.begins a (start_is e.kind b)))
step_by e p h last acts false false a b s k runs = all_tidy acts (tidy_is acts _ (k.waits a (λ z. (let y : true ≡ false = sym (ap is_start z) ∙ b in cc))) (tt, tt))

step_tidy : (e : Event) (p : Place) (h last : HeldView) (acts : List Act) → ConnectionsAreServed h → Decides e (Some tt) p h acts → Runs p h acts last → IsTidy acts
step_tidy e p h last acts s d runs = step_by e p h last acts h.started (is_start e.kind) refl refl s (steps_keep_laws e p h acts d) runs

-- ---- nothing goes out on a connection that is closed
join_runs : (p : Place) (xs ys : List Act) (h mid last : HeldView) → Runs p h xs mid → Runs p mid ys last → Runs p h (xs ++ ys) last
join_runs p [] ys h mid last a b = subst (λ v. Runs p v ys last) a b
join_runs p (x ∷ xs) ys h mid last a b = (a.0, a.1, join_runs p xs ys a.0 mid last a.2 b)

last_is : (xs ys : List Act) (a b : Act) → xs ++ a ∷ [] ≡ ys ++ b ∷ [] → a ≡ b
last_is [] [] a b e = head_is e
last_is [] (y ∷ ys) a b e = none_there ys [] b (tail_is e)
last_is (x ∷ xs) [] a b e = none_there xs [] a (sym (tail_is e))
last_is (x ∷ xs) (y ∷ ys) a b e = last_is xs ys a b (tail_is e)

abbrev NotTo : ℕ → List Output → Type 0
NotTo c outputs = AllByRecursion (λ o. ¬ (IsOn c o)) outputs

not_both : (c : ℕ) (xs ys : List Output) → NotTo c xs → NotTo c ys → NotTo c (xs ++ ys)
not_both c [] ys a b = b
not_both c (x ∷ xs) ys a b = (a.0, not_both c xs ys a.1 b)

packets_not : (c q at : ℕ) (ps : List Packet) → q ≢ c → NotTo c (map_list (packet_output q at) ps)
packets_not c q at [] ne = tt
packets_not c q at (x ∷ ps) ne = (ne, packets_not c q at ps ne)

end_if : (b : Bool) (c q : ℕ) (bytes : List ℕ) → q ≢ c → NotTo c (cond b [] (Send q bytes ∷ []))
end_if true c q bytes ne = tt
end_if false c q bytes ne = (ne, tt)

end_not : (c q : ℕ) (end : Option ℕ) → q ≢ c → NotTo c (end_outputs q end)
end_not c q None ne = tt
end_not c q (Some code) ne = end_if (code == 0) c q (written (disconnect code)) ne

abbrev IsShutIn : ℕ → HeldView → Type 0
IsShutIn c h = is_open c h ≡ false

no_client : (c q : ℕ) (h : HeldView) (client : List ℕ) → IsShutIn c h → client_at q h ≡ Some client → q ≢ c
no_client c q h client shut has same = let z : true ≡ false = sym (open_with h q client has) ∙ ap (λ n. is_open n h) same ∙ shut in cc

-- the last act isn't its close
abbrev NotShut : ℕ → List Act → Type 0
NotShut c pre = (earlier : List Act) → pre ≡ earlier ++ Connection (Closed c) ∷ [] → ⊥

call_not : (o : Option ℕ) (c at : ℕ) (s : SessionStep) (h : HeldView) → IsShutIn c h → ((q : ℕ) → o ≡ Some q → client_at q h ≡ Some s.client) → NotTo c (outputs_on o at s.reaction)
call_not None c at s h shut right = tt
call_not (Some q) c at s h shut right =
    let ne = no_client c q h s.client shut (right q refl) in
    not_both c (map_list (packet_output q at) s.reaction.packets) (end_outputs q s.reaction.end) (packets_not c q at s.reaction.packets ne) (end_not c q s.reaction.end ne)

bridge_not : (c : ℕ) (a : BridgeAct) → NotTo c (output_in (Bridge a))
bridge_not c (Put peer m) = tt
bridge_not c (Took peer number m copies lost) = tt
bridge_not c (Got peer number) = tt
bridge_not c (Believed peer dots) = tt
bridge_not c (Greeted peer g) = tt
bridge_not c (Gave f) = ((λ x. x), tt)
bridge_not c (Left_out what) = tt

act_not : (o : Occasion) (p : Place) (c : ℕ) (pre later : List Act) (h : HeldView) (a : Act) → GoesRight o p pre later h a → IsShutIn c h → NotShut c pre → NotTo c (output_in a)
act_not o p c pre later h (Session (Called s)) right shut notshut = call_not s.on c s.at s h shut right
act_not o p c pre later h (Session (Begun client)) right shut notshut = tt
act_not o p c pre later h (Session (Over client)) right shut notshut = tt
act_not o p c pre later h (Bridge a) right shut notshut = bridge_not c a
act_not o p c pre later h (Out (Send q bytes)) (inl r) shut notshut = ((λ same. (let z : true ≡ false = sym r.open_there ∙ ap (λ n. is_open n h) same ∙ shut in cc)), tt)
act_not o p c pre later h (Out (Send q bytes)) (inr (inl r)) shut notshut = (no_client c q h r.client shut r.there, tt)
act_not o p c pre later h (Out (Send q bytes)) (inr (inr r)) shut notshut = (no_client c q h r.client shut r.there, tt)
act_not o p c pre later h (Out (Close q)) right shut notshut = ((λ same. notshut right.0 (right.1 ∙ ap (λ n. right.0 ++ Connection (Closed n) ∷ []) same)), tt)
act_not o p c pre later h (Out (Release f)) right shut notshut = ((λ x. x), tt)
act_not o p c pre later h (MomentTaken at) right shut notshut = tt
act_not o p c pre later h Began right shut notshut = tt
act_not o p c pre later h (Moved homes) right shut notshut = tt
act_not o p c pre later h (Store a) right shut notshut = tt
act_not o p c pre later h (Connection a) right shut notshut = tt
act_not o p c pre later h (Named number) right shut notshut = tt
act_not o p c pre later h (Acknowledged client packet at grants offers) right shut notshut = tt
act_not o p c pre later h (Passed m copies lost routes) right shut notshut = tt
act_not o p c pre later h Dropped right shut notshut = tt

-- it stays closed
changed_shut : (f : ConnectionView → ConnectionView) (c q : ℕ) (m : ConnectionTable) (o : Option ConnectionView) → map.get m q ≡ o → is_some (map.get m c) ≡ false → is_some (map.get (changed_at f q m o) c) ≡ false
changed_shut f c q m None is shut = shut
changed_shut f c q m (Some found) is shut = by (nat_cases c q)
  where
    by : (c ≡ q) ⊎ (c ≢ q) → is_some (map.get (map.insert m q (f found)) c) ≡ false
    by (inl e) = absurd (let z : true ≡ false = sym (ap is_some is) ∙ ap (λ n. is_some (map.get m n)) (sym e) ∙ shut in cc)
    by (inr ne) = ap is_some (put_apart m q (f found) c ne) ∙ shut

gone_shut : (c q : ℕ) (m : ConnectionTable) → is_some (map.get m c) ≡ false → is_some (map.get (map.remove m q) c) ≡ false
gone_shut c q m shut = by (nat_cases c q)
  where
    by : (c ≡ q) ⊎ (c ≢ q) → is_some (map.get (map.remove m q) c) ≡ false
    by (inl e) = ap (λ n. is_some (map.get (map.remove m q) n)) e ∙ ap is_some (gone_here m q)
    by (inr ne) = ap is_some (gone_apart m q c ne) ∙ shut

bridge_shut : (c : ℕ) (h : HeldView) (a : BridgeAct) → IsShutIn c h → IsShutIn c (next h (Bridge a))
bridge_shut c h (Put peer m) shut = shut
bridge_shut c h (Took peer number m copies lost) shut = shut
bridge_shut c h (Got peer number) shut = shut
bridge_shut c h (Believed peer dots) shut = shut
bridge_shut c h (Greeted peer g) shut = shut
bridge_shut c h (Gave f) shut = shut
bridge_shut c h (Left_out what) shut = shut

still_shut : (c : ℕ) (h : HeldView) (a : Act) (after : List Act) → Parts a after → IsShutIn c h → IsShutIn c (next h a)
still_shut c h (Connection (Opened q)) after parts shut = absurd parts
still_shut c h (Connection (Fed q piece)) after parts shut = changed_shut (with_piece piece) c q h.connections (map.get h.connections q) refl shut
still_shut c h (Connection (Roomed q bytes)) after parts shut = changed_shut (with_room bytes) c q h.connections (map.get h.connections q) refl shut
still_shut c h (Connection (Accepted q client)) after parts shut = changed_shut (with_client client) c q h.connections (map.get h.connections q) refl shut
still_shut c h (Connection (Closed q)) after parts shut = gone_shut c q h.connections shut
still_shut c h (Session (Begun client)) after parts shut = shut
still_shut c h (Session (Called s)) after parts shut = shut
still_shut c h (Session (Over client)) after parts shut = shut
still_shut c h (Bridge a) after parts shut = bridge_shut c h a shut
still_shut c h (MomentTaken at) after parts shut = shut
still_shut c h Began after parts shut = shut
still_shut c h (Moved homes) after parts shut = shut
still_shut c h (Store a) after parts shut = shut
still_shut c h (Out o) after parts shut = shut
still_shut c h (Named number) after parts shut = shut
still_shut c h (Acknowledged client packet at grants offers) after parts shut = shut
still_shut c h (Passed m copies lost routes) after parts shut = shut
still_shut c h Dropped after parts shut = shut

-- ---- of tidy acts of a step
module _ (o : Occasion) (p : Place) (h : HeldView) (front : List Act) (right : (before after : List Act) (a : Act) (mid : HeldView) → front ≡ before ++ a ∷ after → Runs p h before mid → (later : List Act) × GoesRight o p before later mid a) where
  not_again : (c : ℕ) (pre acts : List Act) (a : Act) (mid : HeldView) → front ≡ pre ++ a ∷ acts → Runs p h pre mid → IsShutIn c mid → NotShut c (pre ++ a ∷ [])
  not_again c pre acts a mid is ran shut earlier e =
      let same : a ≡ Connection (Closed c) = last_is pre earlier a (Connection (Closed c)) e in
      let here = right pre acts a mid is ran in
      let closes_it : GoesRight o p pre here.0 mid (Connection (Closed c)) = subst (GoesRight o p pre here.0 mid) same here.1 in
      (let z : true ≡ false = sym closes_it.0 ∙ shut in cc)

  silent : (c : ℕ) (pre acts : List Act) (mid last : HeldView) → front ≡ pre ++ acts → Runs p h pre mid → Runs p mid acts last → Tidy acts → IsShutIn c mid → NotShut c pre → NotTo c (gather output_in acts)
  silent c pre [] mid last is ran runs tidy shut notshut = tt
  silent c pre (a ∷ acts) mid last is ran runs tidy shut notshut =
      let here = right pre acts a mid is ran in
      let on : IsShutIn c runs.0 = subst (IsShutIn c) (sym runs.1.1) (still_shut c mid a acts tidy.0 shut) in
      not_both c (output_in a) (gather output_in acts) (act_not o p c pre here.0 mid a here.1 shut notshut)
      (silent c (pre ++ a ∷ []) acts runs.0 last (is ∙ sym (append_assoc pre (a ∷ []) acts)) (join_runs p pre (a ∷ []) h mid runs.0 ran (runs.0, runs.1, refl)) runs.2 tidy.1 on (not_again c pre acts a mid is ran shut))

  the_end : (c : ℕ) (pre acts : List Act) (mid last : HeldView) → front ≡ pre ++ acts → Runs p h pre mid → Runs p mid acts last → Tidy acts → Shuts c acts → IsTheEnd c (gather output_in acts)
  the_end c pre acts mid last is ran runs tidy (rest, shuts) =
      let a = Connection (Closed c) in
      let b = Out (Close c) in
      let r = subst (λ xs. Runs p mid xs last) shuts runs in
      let t = subst Tidy shuts tidy in
      let whole : front ≡ (pre ++ a ∷ b ∷ []) ++ rest = is ∙ ap (λ xs. pre ++ xs) shuts ∙ sym (append_assoc pre (a ∷ b ∷ []) rest) in
      let same : r.2.0 ≡ next mid a = r.2.1.1 ∙ r.1.1 in
      let shut : IsShutIn c r.2.0 = ap (is_open c) same ∙ ap is_some (gone_here mid.connections c) in
      let notshut : NotShut c (pre ++ a ∷ b ∷ []) = λ earlier e.
      (let out : Out (Close c) ≡ Connection (Closed c) = last_is (pre ++ a ∷ []) earlier b a (append_assoc pre (a ∷ []) (b ∷ []) ∙ e) in cc) in
      record {
        later = gather output_in rest;
        close = ap (gather output_in) shuts;
        none = silent c (pre ++ a ∷ b ∷ []) rest r.2.0 last whole (join_runs p pre (a ∷ b ∷ []) h mid r.2.0 ran (r.0, r.1, (r.2.0, r.2.1, refl))) r.2.2 t.1.1 shut notshut;
      }

  -- packets that are no DISCONNECT stand in front
  others_first : (c at : ℕ) (ps : List Packet) (rest : List Output) → AllByRecursion IsOther ps → DisconnectsEnd rest → DisconnectsEnd (map_list (packet_output c at) ps ++ rest)
  others_first c at [] rest other ends = ends
  others_first c at (x ∷ ps) rest other ends = ((λ farewell. absurd (other_bytes at x other.0 farewell)), others_first c at ps rest other.1 ends)

  zero_is : (code : ℕ) → code ≡ 0 → (code == 0) ≡ true
  zero_is code e = eq-eqb code 0 e

  ended_if : (b : Bool) (c code : ℕ) (rest : List Output) → (code == 0) ≡ b → ((code ≡ 0) ⊎ IsTheEnd c rest) → DisconnectsEnd rest → DisconnectsEnd (cond b [] (Send c (written (disconnect code)) ∷ []) ++ rest)
  ended_if true c code rest is end ends = ends
  ended_if false c code rest is (inl zero) ends = absurd (let z : true ≡ false = sym (zero_is code zero) ∙ is in cc)
  ended_if false c code rest is (inr end) ends = ((λ farewell. end), ends)

  ended : (c : ℕ) (o : Option ℕ) (rest : List Output) → ((code : ℕ) → o ≡ Some code → (code ≡ 0) ⊎ IsTheEnd c rest) → DisconnectsEnd rest → DisconnectsEnd (end_outputs c o ++ rest)
  ended c None rest f ends = ends
  ended c (Some code) rest f ends = ended_if (code == 0) c code rest refl (f code refl) ends

  call_outputs : (on : Option ℕ) (s : SessionStep) (at : ℕ) (rest : List Output) → AllByRecursion IsOther s.reaction.packets → ((c code : ℕ) → on ≡ Some c → s.reaction.end ≡ Some code → (code ≡ 0) ⊎ IsTheEnd c rest) → DisconnectsEnd rest
      → DisconnectsEnd (outputs_on on at s.reaction ++ rest)
  call_outputs None s at rest other f ends = ends
  call_outputs (Some c) s at rest other f ends =
      subst DisconnectsEnd (sym (append_assoc (map_list (packet_output c at) s.reaction.packets) (end_outputs c s.reaction.end) rest))
      (others_first c at s.reaction.packets (end_outputs c s.reaction.end ++ rest) other (ended c s.reaction.end rest (λ code e. f c code refl e) ends))

  bridge_outputs : (a : BridgeAct) (rest : List Output) → DisconnectsEnd rest → DisconnectsEnd (output_in (Bridge a) ++ rest)
  bridge_outputs (Put peer m) rest ends = ends
  bridge_outputs (Took peer number m copies lost) rest ends = ends
  bridge_outputs (Got peer number) rest ends = ends
  bridge_outputs (Believed peer dots) rest ends = ends
  bridge_outputs (Greeted peer g) rest ends = ends
  bridge_outputs (Gave f) rest ends = (tt, ends)
  bridge_outputs (Left_out what) rest ends = ends

  -- where a call ends its connection
  shuts_by : (s : SessionStep) (e : Call) (after : List Act) → s.event ≡ e → CallShuts s e after → ((code : ℕ) → s.reaction.end ≡ Some code → IsMild s.event → code ≡ 0) → EndShuts s after
  shuts_by s (takes k now room) after is f mute = f
  shuts_by s (ticks now) after is f mute = f
  shuts_by s (connects k continued room now) after is f mute = λ c code on end. inl (mute code end (mild_by s (connects k continued room now) is tt))
  shuts_by s (queues d now) after is f mute = λ c code on end. inl (mute code end (mild_by s (queues d now) is tt))
  shuts_by s (rooms bytes now) after is f mute = λ c code on end. inl (mute code end (mild_by s (rooms bytes now) is tt))
  shuts_by s (answers id codes) after is f mute = λ c code on end. inl (mute code end (mild_by s (answers id codes) is tt))
  shuts_by s (closes now) after is f mute = λ c code on end. inl (mute code end (mild_by s (closes now) is tt))
  shuts_by s (finishes now) after is f mute = λ c code on end. inl (mute code end (mild_by s (finishes now) is tt))
  shuts_by s loses after is f mute = λ c code on end. inl (mute code end (mild_by s loses is tt))

  act_outputs : (pre acts : List Act) (a : Act) (mid last : HeldView) → front ≡ pre ++ a ∷ acts → Runs p h pre mid → Runs p mid (a ∷ acts) last → Tidy (a ∷ acts) → DisconnectsEnd (gather output_in acts) → DisconnectsEnd (output_in a ++ gather output_in acts)
  act_outputs pre acts (Session (Called s)) mid last is ran runs tidy ends =
      let a = Session (Called s) in
      let call = runs.1.0 in
      let f = fine call.seat.session s.after s.event s.reaction call.reacts in
      let shuts = shuts_by s s.event acts refl tidy.0 (λ code end m. mild call.seat.session s.after s.event s.reaction m call.reacts code end) in
      call_outputs s.on s s.at (gather output_in acts) f.packets
      (λ c code on end. elim (shuts c code on end) [
        | inl zero ↦ inl zero
        | inr shut ↦ inr (the_end c (pre ++ a ∷ []) acts runs.0 last (is ∙ sym (append_assoc pre (a ∷ []) acts)) (join_runs p pre (a ∷ []) h mid runs.0 ran (runs.0, runs.1, refl)) runs.2 tidy.1 shut)
      ]) ends
  act_outputs pre acts (Session (Begun client)) mid last is ran runs tidy ends = ends
  act_outputs pre acts (Session (Over client)) mid last is ran runs tidy ends = ends
  act_outputs pre acts (Bridge a) mid last is ran runs tidy ends = bridge_outputs a (gather output_in acts) ends
  act_outputs pre acts (Out (Send c bytes)) mid last is ran runs tidy ends =
      let a = Out (Send c bytes) in
      ((λ farewell. the_end c (pre ++ a ∷ []) acts runs.0 last (is ∙ sym (append_assoc pre (a ∷ []) acts)) (join_runs p pre (a ∷ []) h mid runs.0 ran (runs.0, runs.1, refl)) runs.2 tidy.1 (tidy.0 farewell)), ends)
  act_outputs pre acts (Out (Close c)) mid last is ran runs tidy ends = (tt, ends)
  act_outputs pre acts (Out (Release f)) mid last is ran runs tidy ends = (tt, ends)
  act_outputs pre acts (MomentTaken at) mid last is ran runs tidy ends = ends
  act_outputs pre acts Began mid last is ran runs tidy ends = ends
  act_outputs pre acts (Moved homes) mid last is ran runs tidy ends = ends
  act_outputs pre acts (Store a) mid last is ran runs tidy ends = ends
  act_outputs pre acts (Connection a) mid last is ran runs tidy ends = ends
  act_outputs pre acts (Named number) mid last is ran runs tidy ends = ends
  act_outputs pre acts (Acknowledged client packet at grants offers) mid last is ran runs tidy ends = ends
  act_outputs pre acts (Passed m copies lost routes) mid last is ran runs tidy ends = ends
  act_outputs pre acts Dropped mid last is ran runs tidy ends = ends

  all_outputs : (pre acts : List Act) (mid last : HeldView) → front ≡ pre ++ acts → Runs p h pre mid → Runs p mid acts last → Tidy acts → DisconnectsEnd (gather output_in acts)
  all_outputs pre [] mid last is ran runs tidy = tt
  all_outputs pre (a ∷ acts) mid last is ran runs tidy =
      act_outputs pre acts a mid last is ran runs tidy
      (all_outputs (pre ++ a ∷ []) acts runs.0 last (is ∙ sym (append_assoc pre (a ∷ []) acts)) (join_runs p pre (a ∷ []) h mid runs.0 ran (runs.0, runs.1, refl)) runs.2 tidy.1)

-- ---- in a step
step_ends : (e : Event) (p : Place) (h last : HeldView) (acts : List Act) → SessionsAreOnTheirs h → ConnectionsAreServed h → Decides e (Some tt) p h acts → Runs p h acts last → DisconnectsEnd (gather output_in acts)
step_ends e p h last acts on s d runs =
    let t = step_tidy e p h last acts s d runs in
    let o : Occasion = record { kind = e.kind; held = h } in
    let all = (outputs_go_right e p h last acts on d runs).1 in
    let parts = runs_split p t.front t.tail h last (subst (λ xs. Runs p h xs last) t.is runs) in
    let right : (before after : List Act) (a : Act) (mid : HeldView) → t.front ≡ before ++ a ∷ after → Runs p h before mid → (later : List Act) × GoesRight o p before later mid a =
    λ before after a mid is ran. (after ++ t.tail, all before (after ++ t.tail) a mid (t.is ∙ ap (λ xs. xs ++ t.tail) is ∙ append_assoc before (a ∷ after) t.tail) ran) in
    let same : gather output_in acts ≡ gather output_in t.front = ap (gather output_in) t.is ∙ gather-append output_in t.front t.tail ∙ ap (λ os. gather output_in t.front ++ os) t.quiet ∙ append-nil (gather output_in t.front) in
    subst DisconnectsEnd (sym same) (all_outputs o p h t.front right [] t.front h parts.0 refl refl parts.1 t.tidy)

pub disconnects_are_last : DisconnectsAreLast
disconnects_are_last = λ e p h last acts on s d runs. step_ends e p h last acts on s d runs

-- ---- in a run
run_ends : (run later : List Played) (m : Played) (w : World) (acts : List Act) → acts_of m.fate ≡ acts → Reached (run ++ m ∷ later) w → DisconnectsEnd (gather output_in acts)
run_ends run later m w [] is r = tt
run_ends run later m w (a ∷ rest) is r =
    let i = site m.fate in
    let half = midway run (m ∷ later) w r in
    let e = commits_acts m.fate [] rest a is in
    let c = committed half.mid m.step m.fate half.path.0 e.0 half.path.1 e.1 in
    let holds : Holds half.mid i c.before = record { site = c.was; at = c.at; up = c.up } in
    subst (λ acts. DisconnectsEnd (gather output_in acts)) is
    (step_ends e.0 c.was.node.place c.before c.after (acts_of m.fate) (sessions_stay_on run half.mid half.reached i c.before holds) (connections_stay_served run half.mid half.reached i c.before holds) c.steps.does c.steps.runs)

pub disconnects_of_runs_are_last : DisconnectsOfRunsAreLast
disconnects_of_runs_are_last = λ run later m w r. run_ends run later m w (acts_of m.fate) refl r
