-- Work that gives out no frame, takes nothing from another node, and counts no frame as bad.
use Rattle.std.proofs.Common.{◌≡◌, inl, inr, ℕ, suc, ◌<◌, ◌&&◌, not, nat_eq, nat_lt, ◌^◌, Bool, true, false, cond, List, [], ◌∷◌, ◌++◌, Option, Some, None, refl, sym, ap, ◌∙◌, subst, length, if◌then◌else◌}
use Rattle.std.proofs.Math.ListN.{length-set}
use Rattle.std.proofs.lemmas.Bool.{ltb-true}
use Rattle.std.specs.List.{AllByRecursion}
use Rattle.bridge_deltas.specs.declared.offer.Offer.{Offer}
use Rattle.bridge_deltas.specs.declared.offer.Offer.TheVariants.{Queued, Full}
use Rattle.bridge_frames.specs.declared.forward.Forward.{Forward}
use Rattle.bridge_lanes.specs.Lanes.{lane_of, with_put}
use Rattle.bridge_lanes.proofs.Tables.{lane_here, lane_there}
use Rattle.mqtt_packets.specs.declared.packet.Packet.{Packet}
use Rattle.mqtt_packets.specs.Written.{written}
use Rattle.mqtt_sessions.specs.Reaction.{Reaction}
use Rattle.node_bridge.specs.View.{BridgeView, has_lanes, is_next, lane_to, puts}
use Rattle.bridge_deltas.specs.Lane.{offer_of}
use Rattle.law_sessions.specs.Runs.{Event, connects, takes, closes, ticks}
use Rattle.session_table.specs.Calls.{stays, leaves, moves}
use Rattle.session_table.specs.Seats.{run_outs}
use Rattle.session_table.specs.Dues.{Due}
use Rattle.node_work.specs.declared.outcome.Output.TheVariants.{Send, Close}
use Rattle.node_work.specs.Acts.{Act, MomentTaken, Began, Moved, Store, Connection, Session, Bridge, Out, Named, Merged, Allowed, Runs, gather, heard_in, next}
use Rattle.bridge_routes.specs.declared.plain.PlainCopy.{PlainCopy as Copy}
use Rattle.node_work.specs.Calling.{Calls, Queues}
use Rattle.node_work.specs.Held.Bridge.{BridgeAct, Put, Took, Got, Believed, Greeted, Gave, Left_out}
use Rattle.node_work.specs.Held.Connections.{ConnectionAct, Opened, Accepted, Roomed, Closed as Closed_at, Fed, after_connection_act}
use Rattle.node_work.specs.Held.Sessions.{SessionAct, Begun, Called, Over, called}
use Rattle.node_work.specs.View.{Place, HeldView}
use Rattle.node_work.specs.Working.{Doing, Returns, Acting, Then, Each}
use Rattle.node_clients.specs.Ending as ending
use Rattle.node_clients.specs.Serving as serving
use Rattle.broker_node.specs.declared.event.Event.{Event as NodeEvent}
use Rattle.broker_node.specs.declared.event.EventKind.{EventKind}
use Rattle.broker_node.specs.declared.event.EventKind.TheVariants as kinds
use Rattle.broker_node.specs.Due as due
use Rattle.broker_node.specs.Turns as turns
use Rattle.cluster_play.proofs.Bools.{nat_cases, and_true}
use Rattle.law_runs.specs.LaneHistories.{by_bridge, took_by}
use Rattle.law_runs.proofs.Keeping.{Keeps, none_some}
use Rattle.law_steps.specs.Frames.{given_in, frames_given}
use Rattle.law_steps.proofs.Above.{High, does_due, does_reaction, piece_of, leaves_of, makes_room, starts, opens, takes_table}
use Rattle.law_steps.proofs.Below.{Low, IsNoBadFrame, each, evicts, queues_all}
use Rattle.law_steps.proofs.Alone.{Kind, acting, finishes_of, low, ticks_of}
use Rattle.law_steps.proofs.Joining.{All, all_closed, j_calls}

abbrev pub IsSilentBridge : BridgeAct → Type 0
IsSilentBridge (Put peer m) = Unit {0}
IsSilentBridge (Left_out what) = IsNoBadFrame what
IsSilentBridge a = ⊥

-- an act that neither gives out a frame, nor takes anything from another node, nor counts a frame as bad
abbrev pub IsSilent : Act → Type 0
IsSilent (Bridge a) = IsSilentBridge a
IsSilent (Store (Merged s)) = ⊥
IsSilent a = Unit {0}

abbrev pub AllSilent : List Act → Type 0
AllSilent acts = AllByRecursion IsSilent acts

abbrev T : Place → HeldView → List Act → Type 0
T = All IsSilent

silent_kind : Kind IsSilent
silent_kind = record {
  made = λ o. tt;
  called = λ s calm. tt;
  over = λ client. tt;
  put = λ peer m. tt;
  missed = λ what other. other;
  passed = λ m copies lost routes. tt;
  dropped = tt;
  acknowledged = λ client packet at given os. tt;
}

abbrev K : (A : Type 0) → (Option A → Doing) → Type 0
K A P = Keeps T P

abbrev w : Low K
w = low IsSilent silent_kind

does : (a : Place → HeldView → Act) → ((p : Place) (h : HeldView) → IsSilent (a p h)) → K (Unit {0}) (Acting a)
does a one = acting IsSilent silent_kind a one

calls : (client : List ℕ) (event : ℕ → Event) (on : Option ℕ → Option ℕ) → K Reaction (Calls client event on)
calls client event on = j_calls T (all_closed IsSilent) client event on (λ p h s is. (tt, tt))

closed_at : (c : ℕ) → K (Unit {0}) (Acting (λ p h. Connection (Closed_at c)))
closed_at n = does (λ p h. Connection (Closed_at n)) (λ p h. tt)

close : (c : ℕ) → K (Unit {0}) (Acting (λ p h. Out (Close c)))
close n = does (λ p h. Out (Close n)) (λ p h. tt)

runs_out : (d : Due) → K (Unit {0}) (due.RunsOut d)
runs_out d =
    w.join (Calls d.1 ticks stays) (λ _. Then (ending.ClosesConnection d.0) (λ _. Then (Calls d.1 closes leaves) (λ _. Returns tt))) (calls d.1 ticks stays) (λ _.
    w.join (ending.ClosesConnection d.0) (λ _. Then (Calls d.1 closes leaves) (λ _. Returns tt))
    (w.join (Acting (λ p h. Connection (Closed_at d.0))) (λ _. Acting (λ p h. Out (Close d.0))) (closed_at d.0) (λ _. close d.0)) (λ _.
    w.join (Calls d.1 closes leaves) (λ _. Returns tt) (calls d.1 closes leaves) (λ _. w.returns tt)))

high : High K
high = record {
  sends = λ n packet. does (λ p h. Out (Send n (written packet))) (λ p h. tt);
  closed = closed_at;
  close = close;
  fed = λ n piece. does (λ p h. Connection (Fed n piece)) (λ p h. tt);
  accepted = λ n client. does (λ p h. Connection (Accepted n client)) (λ p h. tt);
  roomed = λ n bytes. does (λ p h. Connection (Roomed n bytes)) (λ p h. tt);
  begun = λ client. does (λ p h. Session (Begun client)) (λ p h. tt);
  joined = λ n client q continued room. calls client (connects q continued room) (moves n);
  named = λ number. does (λ p h. Named number) (λ p h. tt);
  began = does (λ p h. Began) (λ p h. tt);
  moved = λ homes. does (λ p h. Moved homes) (λ p h. tt);
  ticks_of = ticks_of IsSilent silent_kind;
  finishes_of = finishes_of IsSilent silent_kind;
  run_out = w.looks (λ p h. run_outs h.sessions h.at) (Each due.RunsOut) (λ ds. each K w due.RunsOut ds runs_out);
}

serves : (n : ℕ) (client : List ℕ) (k : Packet) → K (Unit {0}) (serving.ServesPacket n client k)
serves n client k =
    w.looks (λ p h. serving.room_for client k h) (serving.ServesIn n client k)
    (λ room. w.join (Calls client (λ at. takes k at room) stays) (serving.DoesReaction n client k room) (calls client (λ at. takes k at room) stays) (does_reaction K w high n client k room))

pub queues_silent : (copies : List Copy) → K (Unit {0}) (Queues copies)
queues_silent copies = queues_all K w copies

pub due_silent : K (Unit {0}) due.DoesDue
due_silent = does_due K w high

-- ---- events that give out no frame
abbrev pub IsPlain : EventKind → Type 0
IsPlain (kinds.Frame bytes) = ⊥
IsPlain (kinds.Linked peer) = ⊥
IsPlain (kinds.Ship peer) = ⊥
IsPlain (kinds.More peer after) = ⊥
IsPlain kind = Unit {0}

answers_silent : (kind : EventKind) → IsPlain kind → K (Unit {0}) (turns.AnswersEvent kind)
answers_silent kinds.Started plain = w.returns tt
answers_silent (kinds.Opened n) plain = opens K w high n (does (λ p h. Connection (Opened n)) (λ p h. tt))
answers_silent (kinds.Piece n bytes) plain =
    piece_of K w high serves (λ n. record { of = λ x p h acts d. absurd d }) (λ n code of. record { of = λ x p h acts d. of.of x p h acts d }) (λ n client. record { of = λ x p h acts d. absurd d }) (λ n client code of. record { of = λ x p h acts d. of.of x p h acts d }) n bytes
answers_silent (kinds.Closed n) plain = leaves_of K w high n
answers_silent (kinds.Room n bytes) plain = makes_room K w high n bytes
answers_silent (kinds.Frame bytes) plain = absurd plain
answers_silent (kinds.Linked peer) plain = absurd plain
answers_silent (kinds.Ship peer) plain = absurd plain
answers_silent (kinds.More peer after) plain = absurd plain
answers_silent kinds.Tick plain = w.returns tt
answers_silent (kinds.Evict client) plain = evicts K w client
answers_silent (kinds.Table homes) plain = takes_table K w high homes

first_silent : (kind : EventKind) → K (Unit {0}) (turns.AwaitsStart kind)
first_silent kinds.Started = starts K w high
first_silent (kinds.Opened n) = w.returns tt
first_silent (kinds.Piece n bytes) = w.returns tt
first_silent (kinds.Closed n) = w.returns tt
first_silent (kinds.Room n bytes) = w.returns tt
first_silent (kinds.Frame bytes) = w.returns tt
first_silent (kinds.Linked peer) = w.returns tt
first_silent (kinds.Ship peer) = w.returns tt
first_silent (kinds.More peer after) = w.returns tt
first_silent kinds.Tick = w.returns tt
first_silent (kinds.Evict client) = w.returns tt
first_silent (kinds.Table homes) = w.returns tt

-- ---- what follows of silent acts
silent_gives : (a : Act) → IsSilent a → given_in a ≡ []
silent_gives (Bridge (Put peer m)) s = refl
silent_gives (Bridge (Left_out what)) s = refl
silent_gives (Bridge (Took peer number m copies lost)) s = absurd s
silent_gives (Bridge (Got peer number)) s = absurd s
silent_gives (Bridge (Believed peer dots)) s = absurd s
silent_gives (Bridge (Greeted peer g)) s = absurd s
silent_gives (Bridge (Gave f)) s = absurd s
silent_gives a s = refl

pub none_given : (acts : List Act) → AllSilent acts → frames_given acts ≡ []
none_given [] s = refl
none_given (a ∷ acts) s = λ i. silent_gives a s.0 i ++ none_given acts s.1 i

silent_hears : (a : Act) → IsSilent a → heard_in a ≡ []
silent_hears (Bridge (Put peer m)) s = refl
silent_hears (Bridge (Left_out what)) s = refl
silent_hears (Bridge (Took peer number m copies lost)) s = absurd s
silent_hears (Bridge (Got peer number)) s = absurd s
silent_hears (Bridge (Believed peer dots)) s = absurd s
silent_hears (Bridge (Greeted peer g)) s = absurd s
silent_hears (Bridge (Gave f)) s = absurd s
silent_hears a s = refl

pub none_heard : (acts : List Act) → AllSilent acts → gather heard_in acts ≡ []
none_heard [] s = refl
none_heard (a ∷ acts) s = λ i. silent_hears a s.0 i ++ none_heard acts s.1 i

-- ---- an event at a node that has started, once what is due is done
pub record Answering (p : Place) (h : HeldView) (kind : EventKind) (acts : List Act) : Type 0 where
  pub first : List Act
  pub rest : List Act
  pub mid : HeldView
  pub is : acts ≡ first ++ rest
  pub runs : Runs p h first mid
  pub silent : AllSilent first
  pub does : turns.AnswersEvent kind (Some tt) p mid rest

answering : (kind : EventKind) (x : Unit {0}) (p : Place) (h : HeldView) (acts : List Act) → Then due.DoesDue (λ _. turns.AnswersEvent kind) (Some x) p h acts → Answering p h kind acts
answering kind x p h acts (inl d) = none_some (sym d.0)
answering kind x p h acts (inr (y, own, mid, rest, one, runs, more, is)) = record { first = own; rest = rest; mid = mid; is = is; runs = runs; silent = due_silent.of y p h own one; does = more }

-- a second Started, to which a node does nothing
goes : (kind : EventKind) (x : Unit {0}) (p : Place) (h : HeldView) (acts : List Act) → turns.AnswersAfterDue kind (Some x) p h acts → Answering p h kind acts
goes kinds.Started x p h acts d = record { first = []; rest = acts; mid = h; is = refl; runs = refl; silent = tt; does = d }
goes (kinds.Opened n) x p h acts d = answering (kinds.Opened n) x p h acts d
goes (kinds.Piece n bytes) x p h acts d = answering (kinds.Piece n bytes) x p h acts d
goes (kinds.Closed n) x p h acts d = answering (kinds.Closed n) x p h acts d
goes (kinds.Room n bytes) x p h acts d = answering (kinds.Room n bytes) x p h acts d
goes (kinds.Frame bytes) x p h acts d = answering (kinds.Frame bytes) x p h acts d
goes (kinds.Linked peer) x p h acts d = answering (kinds.Linked peer) x p h acts d
goes (kinds.Ship peer) x p h acts d = answering (kinds.Ship peer) x p h acts d
goes (kinds.More peer after) x p h acts d = answering (kinds.More peer after) x p h acts d
goes kinds.Tick x p h acts d = answering kinds.Tick x p h acts d
goes (kinds.Evict client) x p h acts d = answering (kinds.Evict client) x p h acts d
goes (kinds.Table homes) x p h acts d = answering (kinds.Table homes) x p h acts d

-- what a step comes to, after the act that takes the moment
pub record Turning (p : Place) (h : HeldView) (e : NodeEvent) (acts : List Act) : Type 0 where
  pub rest : List Act
  pub mid : HeldView
  pub is : acts ≡ MomentTaken e.at ∷ rest
  pub runs : Runs p h (MomentTaken e.at ∷ []) mid
  pub does : turns.Turn e.kind (Some tt) p mid rest

moment_is : (b : Bool) (x : Unit {0}) (a : Act) (acts : List Act) → cond b ((Some x ≡ None) × (acts ≡ [])) ((Some x ≡ Some tt) × (acts ≡ a ∷ [])) → acts ≡ a ∷ []
moment_is true x a acts d = none_some (sym d.0)
moment_is false x a acts d = d.1

pub turning : (e : NodeEvent) (p : Place) (h : HeldView) (acts : List Act) → turns.Decides e (Some tt) p h acts → Turning p h e acts
turning e p h acts (inl d) = none_some (sym d.0)
turning e p h acts (inr (x, own, mid, rest, one, runs, more, is)) =
    let alone : own ≡ MomentTaken e.at ∷ [] = moment_is (not (nat_lt e.at (2 ^ 62))) x (MomentTaken e.at) own one in
    record { rest = rest; mid = mid; is = is ∙ ap (λ xs. xs ++ rest) alone; runs = subst (λ xs. Runs p h xs mid) alone runs; does = more }

-- of a node that has started
turn_by : (b : Bool) (kind : EventKind) (p : Place) (h : HeldView) (acts : List Act) → b ≡ true → cond b (turns.AnswersAfterDue kind (Some tt) p h acts) (turns.AwaitsStart kind (Some tt) p h acts) → Answering p h kind acts
turn_by true kind p h acts started d = goes kind tt p h acts d
turn_by false kind p h acts started d = absurd (let z : false ≡ true = started in cc)

pub answering_of : (e : NodeEvent) (p : Place) (h : HeldView) (acts : List Act) → h.started ≡ true → turns.Decides e (Some tt) p h acts → Answering p h e.kind acts
answering_of e p h acts started d =
    let t = turning e p h acts d in
    let same : t.mid.started ≡ h.started = ap (λ (v : HeldView). v.started) (t.runs.2 ∙ t.runs.1.1) in
    let a = turn_by t.mid.started e.kind p t.mid t.rest (same ∙ started) t.does in
    record {
      first = MomentTaken e.at ∷ a.first;
      rest = a.rest;
      mid = a.mid;
      is = t.is ∙ ap (λ xs. MomentTaken e.at ∷ xs) a.is;
      runs = (t.mid, (tt, t.runs.2 ∙ t.runs.1.1), a.runs);
      silent = (tt, a.silent);
      does = a.does;
    }

-- and of another one
turn_before : (b : Bool) (kind : EventKind) (p : Place) (h : HeldView) (acts : List Act) → b ≡ false → cond b (turns.AnswersAfterDue kind (Some tt) p h acts) (turns.AwaitsStart kind (Some tt) p h acts) → AllSilent acts
turn_before true kind p h acts started d = absurd (let z : true ≡ false = started in cc)
turn_before false kind p h acts started d = (first_silent kind).of tt p h acts d

pub silent_before : (e : NodeEvent) (p : Place) (h : HeldView) (acts : List Act) → h.started ≡ false → turns.Decides e (Some tt) p h acts → AllSilent acts
silent_before e p h acts started d =
    let t = turning e p h acts d in
    let same : t.mid.started ≡ h.started = ap (λ (v : HeldView). v.started) (t.runs.2 ∙ t.runs.1.1) in
    subst AllSilent (sym t.is) (tt, turn_before t.mid.started e.kind p t.mid t.rest (same ∙ started) t.does)

pub silent_of : (kind : EventKind) (p : Place) (h : HeldView) (acts : List Act) → IsPlain kind → turns.AnswersEvent kind (Some tt) p h acts → AllSilent acts
silent_of kind p h acts plain d = (answers_silent kind plain).of tt p h acts d

-- ---- what was taken of the lanes stays
same_lane : (b : BridgeView) (peer : ℕ) (m : Forward) (j : ℕ) → peer < length b.lanes → (lane_to (puts peer m b) j).took ≡ (lane_to b j).took
same_lane b peer m j below = elim (nat_cases peer j) [
  | inl e ↦ subst (λ n. (lane_to (puts peer m b) n).took ≡ (lane_to b n).took) e (ap (λ l. l.took) (lane_here b.lanes peer (with_put m (lane_of b.lanes peer)) below))
  | inr ne ↦ ap (λ l. l.took) (lane_there b.lanes peer (with_put m (lane_of b.lanes peer)) j ne)
]

queued_by : (b : Bool) (o : Offer) (n : ℕ) → (if b then o else Full) ≡ Queued n → b ≡ true
queued_by true o n e = refl
queued_by false o n e = absurd cc

connection_lanes : (h : HeldView) (a : ConnectionAct) → (after_connection_act h a).bridge ≡ h.bridge
connection_lanes h (Opened n) = refl
connection_lanes h (Fed n piece) = refl
connection_lanes h (Accepted n client) = refl
connection_lanes h (Roomed n bytes) = refl
connection_lanes h (Closed_at n) = refl

session_lanes : (h : HeldView) (a : SessionAct) → (called h a).bridge ≡ h.bridge
session_lanes h (Begun client) = refl
session_lanes h (Called s) = refl
session_lanes h (Over client) = refl

-- so many lanes, and so many messages taken of each
pub record TookAlike (h h' : HeldView) : Type 0 where
  pub lanes : length h'.bridge.lanes ≡ length h.bridge.lanes
  pub took : (j : ℕ) → (lane_to h'.bridge j).took ≡ (lane_to h.bridge j).took

alike_by : (h h' : HeldView) → h'.bridge ≡ h.bridge → TookAlike h h'
alike_by h h' e = record { lanes = ap (λ (b : BridgeView). length b.lanes) e; took = λ j. ap (λ (b : BridgeView). (lane_to b j).took) e }

pub alike_then : (h mid h' : HeldView) → TookAlike h mid → TookAlike mid h' → TookAlike h h'
alike_then h mid h' a b = record { lanes = b.lanes ∙ a.lanes; took = λ j. b.took j ∙ a.took j }

took_act : (p : Place) (h : HeldView) (a : Act) → IsSilent a → Allowed p h a → TookAlike h (next h a)
took_act p h (Bridge (Put peer m)) s allowed =
    let below : peer < length h.bridge.lanes = ltb-true peer (length h.bridge.lanes) (queued_by (has_lanes h.bridge peer) (offer_of (lane_to h.bridge peer)) allowed.0 allowed.1) in
    record { lanes = length-set h.bridge.lanes peer (with_put m (lane_to h.bridge peer)); took = λ j. same_lane h.bridge peer m j below }
took_act p h (Bridge (Left_out what)) s allowed = record { lanes = refl; took = λ j. refl }
took_act p h (Bridge (Took peer number m copies lost)) s allowed = absurd s
took_act p h (Bridge (Got peer number)) s allowed = absurd s
took_act p h (Bridge (Believed peer dots)) s allowed = absurd s
took_act p h (Bridge (Greeted peer g)) s allowed = absurd s
took_act p h (Bridge (Gave f)) s allowed = absurd s
took_act p h (Connection a) s allowed = alike_by h (after_connection_act h a) (connection_lanes h a)
took_act p h (Session a) s allowed = alike_by h (called h a) (session_lanes h a)
took_act p h a s allowed = record { lanes = refl; took = λ j. refl }

pub took_alike : (p : Place) (acts : List Act) (h h' : HeldView) → AllSilent acts → Runs p h acts h' → TookAlike h h'
took_alike p [] h h' s r = alike_by h h' (ap (λ (v : HeldView). v.bridge) r)
took_alike p (a ∷ acts) h h' s r = alike_then h r.0 h' (subst (TookAlike h) (sym r.1.1) (took_act p h a s.0 r.1.0)) (took_alike p acts r.0 h' s.1 r.2)

-- the next number too
pub next_of : (h h' : HeldView) (from number : ℕ) → TookAlike h h' → is_next from number h'.bridge ≡ is_next from number h.bridge
next_of h h' from number a = λ i. nat_lt from (a.lanes i) && nat_eq number (suc (a.took from i))

pub next_within : (h : HeldView) (from number : ℕ) → is_next from number h.bridge ≡ true → from < length h.bridge.lanes
next_within h from number e = ltb-true from (length h.bridge.lanes) (and_true (has_lanes h.bridge from) (nat_eq number (suc (lane_to h.bridge from).took)) e).0

silent_takes : (j : ℕ) (a : Act) → IsSilent a → by_bridge (took_by j) a ≡ []
silent_takes j (Bridge (Put peer m)) s = refl
silent_takes j (Bridge (Left_out what)) s = refl
silent_takes j (Bridge (Took peer number m copies lost)) s = absurd s
silent_takes j (Bridge (Got peer number)) s = absurd s
silent_takes j (Bridge (Believed peer dots)) s = absurd s
silent_takes j (Bridge (Greeted peer g)) s = absurd s
silent_takes j (Bridge (Gave f)) s = absurd s
silent_takes j a s = refl

pub none_taken : (j : ℕ) (acts : List Act) → AllSilent acts → gather (by_bridge (took_by j)) acts ≡ []
none_taken j [] s = refl
none_taken j (a ∷ acts) s = λ i. silent_takes j a s.0 i ++ none_taken j acts s.1 i
