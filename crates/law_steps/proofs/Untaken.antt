-- Work by which no session takes a packet, and work that leaves connections as they are.
use Rattle.std.proofs.Common.{◌≡◌, ℕ, Bool, List, [], ◌∷◌, ◌++◌, Option, Some, refl, ap, ◌∙◌, subst, sym}
use Rattle.bridge_deltas.specs.declared.offer.Offer.{Offer}
use Rattle.bridge_deltas.specs.declared.offer.Offer.TheVariants.{Queued, Full, AtEnd}
use Rattle.bridge_frames.specs.declared.forward.Forward.{Forward}
use Rattle.session_table.specs.Dues.{Due}
use Rattle.home_table.specs.Table.{Table}
use Rattle.bridge_routes.specs.declared.plain.PlainCopy.{PlainCopy as Copy}
use Rattle.bridge_routes.specs.declared.destinations.Route.{Route}
use Rattle.mqtt_message.specs.declared.delivery.Delivery.{Delivery}
use Rattle.mqtt_message.specs.declared.message.Message.{Message}
use Rattle.mqtt_packets.specs.declared.packet.Packet.{Packet}
use Rattle.mqtt_packets.specs.Written.{written}
use Rattle.mqtt_sessions.specs.Reaction.{Reaction}
use Rattle.replica_store.specs.declared.operation.Operation.{Operation}
use Rattle.replica_store.specs.Making.{put_of, subscribe_of}
use Rattle.law_sessions.specs.Runs.{Event, connects, queues, rooms, takes, answers, closes, ticks, finishes, loses}
use Rattle.session_table.specs.Calls.{stays, leaves, moves}
use Rattle.session_table.specs.Seats.{run_outs}
use Rattle.node_work.specs.declared.counts.Missed.{Missed}
use Rattle.node_work.specs.declared.counts.Missed.TheVariants.{LaneFull}
use Rattle.node_work.specs.declared.granted.Granted.{Granted}
use Rattle.node_work.specs.declared.outcome.Output.TheVariants.{Send, Close}
use Rattle.node_work.specs.Acts.{Act, Began, Moved, Store, Connection, Session, Bridge, Out, Named, Acknowledged, Passed, Dropped, Made, Runs, gather}
use Rattle.node_work.specs.Calling.{Calls}
use Rattle.node_work.specs.Doings.{PutsInLaneBy}
use Rattle.node_work.specs.Held.Bridge.{Put, Left_out}
use Rattle.node_work.specs.Held.Connections.{ConnectionAct, Accepted, Closed as Shut, Fed, Roomed}
use Rattle.node_work.specs.Held.Making.{number_at_end, put_at_end, removal, removal_below}
use Rattle.node_work.specs.Held.Sessions.{SessionStep, Begun, Called, Over}
use Rattle.node_work.specs.Passing.{turn_at_end}
use Rattle.node_work.specs.View.{Place, HeldView}
use Rattle.node_work.specs.Working.{Doing, Acting, Looks, Returns, Then, Each}
use Rattle.node_work.proofs.Working.{gather-append}
use Rattle.node_clients.specs.Ending as ending
use Rattle.node_clients.specs.Serving as serving
use Rattle.broker_node.specs.Due as due
use Rattle.law_runs.proofs.Keeping.{Property, Keeps}
use Rattle.law_steps.proofs.Above.{High, does_due, does_reaction, parts}
use Rattle.law_steps.proofs.Below.{Low, IsNoBadFrame, IsSmall, due_of, each, follows}
use Rattle.law_steps.proofs.Joining.{Closed, j_returns, j_stops, j_acting, j_numbered, j_looks, j_finds, j_if, j_where, j_then, j_calls}
use Rattle.law_steps.specs.Taking.{TakeNothing, taken_by, taken_in}
use Rattle.law_steps.proofs.Leaving.{Leaves, Order, leaves_closed, leaves_one}

-- an event in which a session takes no packet
abbrev pub IsUntaken : Event → Type 0
IsUntaken (takes k now room) = ⊥
IsUntaken e = Unit {0}

small_untaken : (e : Event) → IsSmall e → IsUntaken e
small_untaken (queues d now) small = tt
small_untaken (rooms bytes now) small = tt
small_untaken (answers id codes) small = tt
small_untaken (closes now) small = tt
small_untaken (connects q continued room now) small = absurd small
small_untaken (takes k now room) small = absurd small
small_untaken (ticks now) small = absurd small
small_untaken (finishes now) small = absurd small
small_untaken loses small = absurd small

-- it holds of each act of work on sessions and messages alone
pub record Ones (T : Property) : Type 0 where
  pub made : (p : Place) (h : HeldView) (o : Operation) → T p h (Store (Made o) ∷ [])
  pub called : (p : Place) (h : HeldView) (s : SessionStep) → IsUntaken s.event → T p h (Session (Called s) ∷ [])
  pub over : (p : Place) (h : HeldView) (client : List ℕ) → T p h (Session (Over client) ∷ [])
  pub put : (p : Place) (h : HeldView) (peer : ℕ) (m : Forward) → T p h (Bridge (Put peer m) ∷ [])
  pub missed : (p : Place) (h : HeldView) (what : Missed) → T p h (Bridge (Left_out what) ∷ [])
  pub passed : (p : Place) (h : HeldView) (m : Message) (copies : List Copy) (lost : ℕ) (routes : List (ℕ × Route)) → T p h (Passed m copies lost routes ∷ [])
  pub dropped : (p : Place) (h : HeldView) → T p h (Dropped ∷ [])
  pub acknowledged : (p : Place) (h : HeldView) (client : List ℕ) (packet at : ℕ) (given : List Granted) (os : List Delivery) → T p h (Acknowledged client packet at given os ∷ [])

module _ (T : Property) (c : Closed T) (one : Ones T) where
  abbrev pub K : (A : Type 0) → (Option A → Doing) → Type 0
  K A P = Keeps T P

  pub calling : (client : List ℕ) (event : ℕ → Event) (on : Option ℕ → Option ℕ) → ((at : ℕ) → IsUntaken (event at)) → K Reaction (Calls client event on)
  calling client event on un = j_calls T c client event on (λ p h s is. one.called p h s (subst IsUntaken (sym is) (un h.at)))

  puts_by : (peer : ℕ) (m : Forward) (o : Offer) → K (Unit {0}) (PutsInLaneBy peer m o)
  puts_by peer m (Queued n) = j_acting T c (λ p h. Bridge (Put peer m)) (λ p h. one.put p h peer m)
  puts_by peer m Full = j_acting T c (λ p h. Bridge (Left_out LaneFull)) (λ p h. one.missed p h LaneFull)
  puts_by peer m AtEnd = j_stops T c

  pub low : Low K
  low = record {
    returns = j_returns T c;
    stops = j_stops T c;
    looks = j_looks T c;
    finds = j_finds T c;
    by_test = j_if T c;
    by_whether = j_where T c;
    join = j_then T c;
    calls = λ client event on small. calling client event on (λ at. small_untaken (event at) (small at));
    put = λ content. j_numbered T c (λ p h. put_at_end p.id h) (λ p h. Store (Made (put_of p.id content h.store))) (λ p h. one.made p h (put_of p.id content h.store));
    subscribe = λ entry. j_numbered T c (λ p h. number_at_end p.id h) (λ p h. Store (Made (subscribe_of p.id entry h.store))) (λ p h. one.made p h (subscribe_of p.id entry h.store));
    remove = λ client to. j_numbered T c (λ p h. number_at_end p.id h) (λ p h. Store (Made (removal p.id client to h.store))) (λ p h. one.made p h (removal p.id client to h.store));
    remove_below = λ client version. j_numbered T c (λ p h. number_at_end p.id h) (λ p h. Store (Made (removal_below p.id client version h.store))) (λ p h. one.made p h (removal_below p.id client version h.store));
    over = λ client. j_acting T c (λ p h. Session (Over client)) (λ p h. one.over p h client);
    passed = λ m x. j_numbered T c turn_at_end (λ p h. Passed m x.0 x.1.0 x.1.1) (λ p h. one.passed p h m x.0 x.1.0 x.1.1);
    puts = puts_by;
    missed = λ what other. j_acting T c (λ p h. Bridge (Left_out what)) (λ p h. one.missed p h what);
    dropped = j_acting T c (λ p h. Dropped) (λ p h. one.dropped p h);
    acknowledged = λ client packet given os. j_acting T c (λ p h. Acknowledged client packet h.at given os) (λ p h. one.acknowledged p h client packet h.at given os);
  }

  pub ticks_of : (client : List ℕ) → K (Unit {0}) (ending.Ticks client)
  ticks_of client = j_then T c (Calls client ticks stays) (ending.FollowsReaction client) (calling client ticks stays (λ at. tt)) (follows K low client)

  finishes_of : (client : List ℕ) → K (Unit {0}) (ending.Finishes client)
  finishes_of client = j_then T c (Calls client finishes stays) (ending.FollowsReaction client) (calling client finishes stays (λ at. tt)) (follows K low client)

  -- where it holds of what is done to connections, and of what a node gives out and does of its own, too
  module _ (connection : (p : Place) (h : HeldView) (a : ConnectionAct) → T p h (Connection a ∷ [])) (out : (p : Place) (h : HeldView) (c : ℕ) (packet : Packet) → T p h (Out (Send c (written packet)) ∷ [])) (shut : (p : Place) (h : HeldView) (c : ℕ) → T p h (Out (Close c) ∷ []))
      (begins : (p : Place) (h : HeldView) (client : List ℕ) → T p h (Session (Begun client) ∷ [])) (named : (p : Place) (h : HeldView) (number : ℕ) → T p h (Named number ∷ [])) (began : (p : Place) (h : HeldView) → T p h (Began ∷ [])) (moved : (p : Place) (h : HeldView) (homes : Table) → T p h (Moved homes ∷ [])) where
    closes_of : (n : ℕ) → K (Unit {0}) (ending.ClosesConnection n)
    closes_of n =
        j_then T c (Acting (λ p h. Connection (Shut n))) (λ _. Acting (λ p h. Out (Close n))) (j_acting T c (λ p h. Connection (Shut n)) (λ p h. connection p h (Shut n))) (λ _. j_acting T c (λ p h. Out (Close n)) (λ p h. shut p h n))

    runs_out : (d : Due) → K (Unit {0}) (due.RunsOut d)
    runs_out d =
        j_then T c (Calls d.1 ticks stays) (λ _. Then (ending.ClosesConnection d.0) (λ _. Then (Calls d.1 closes leaves) (λ _. Returns tt))) (calling d.1 ticks stays (λ at. tt)) (λ _.
        j_then T c (ending.ClosesConnection d.0) (λ _. Then (Calls d.1 closes leaves) (λ _. Returns tt)) (closes_of d.0) (λ _.
        j_then T c (Calls d.1 closes leaves) (λ _. Returns tt) (calling d.1 closes leaves (λ at. tt)) (λ _. j_returns T c tt)))

    pub high : High K
    high = record {
      sends = λ n packet. j_acting T c (λ p h. Out (Send n (written packet))) (λ p h. out p h n packet);
      closed = λ n. j_acting T c (λ p h. Connection (Shut n)) (λ p h. connection p h (Shut n));
      close = λ n. j_acting T c (λ p h. Out (Close n)) (λ p h. shut p h n);
      fed = λ n piece. j_acting T c (λ p h. Connection (Fed n piece)) (λ p h. connection p h (Fed n piece));
      accepted = λ n client. j_acting T c (λ p h. Connection (Accepted n client)) (λ p h. connection p h (Accepted n client));
      roomed = λ n bytes. j_acting T c (λ p h. Connection (Roomed n bytes)) (λ p h. connection p h (Roomed n bytes));
      begun = λ client. j_acting T c (λ p h. Session (Begun client)) (λ p h. begins p h client);
      joined = λ n client q continued room. calling client (connects q continued room) (moves n) (λ at. tt);
      named = λ number. j_acting T c (λ p h. Named number) (λ p h. named p h number);
      began = j_acting T c (λ p h. Began) (λ p h. began p h);
      moved = λ homes. j_acting T c (λ p h. Moved homes) (λ p h. moved p h homes);
      ticks_of = ticks_of;
      finishes_of = finishes_of;
      run_out = j_looks T c (λ p h. run_outs h.sessions h.at) (Each due.RunsOut) (λ ds. each K low due.RunsOut ds runs_out);
    }

-- ---- no session takes a packet
abbrev pub Untaken : Property
Untaken p h acts = TakeNothing acts

untaken_closed : Closed Untaken
untaken_closed = record { none = λ p h. refl; both = λ p h mid xs ys runs a b. gather-append taken_in xs ys ∙ (λ i. a i ++ b i) }

taken_none : (client : List ℕ) (e : Event) → IsUntaken e → taken_by client e ≡ []
taken_none client (connects q continued room now) un = refl
taken_none client (queues d now) un = refl
taken_none client (rooms bytes now) un = refl
taken_none client (takes k now room) un = absurd un
taken_none client (answers id codes) un = refl
taken_none client (closes now) un = refl
taken_none client (ticks now) un = refl
taken_none client (finishes now) un = refl
taken_none client loses un = refl

untaken_ones : Ones Untaken
untaken_ones = record {
  made = λ p h o. refl;
  called = λ p h s un. ap (λ (xs : List (List ℕ × Packet)). xs ++ []) (taken_none s.client s.event un);
  over = λ p h client. refl;
  put = λ p h peer m. refl;
  missed = λ p h what. refl;
  passed = λ p h m copies lost routes. refl;
  dropped = λ p h. refl;
  acknowledged = λ p h client packet at given os. refl;
}

untaken_low : Low (K Untaken untaken_closed untaken_ones)
untaken_low = low Untaken untaken_closed untaken_ones

untaken_high : High (K Untaken untaken_closed untaken_ones)
untaken_high = high Untaken untaken_closed untaken_ones (λ p h a. refl) (λ p h n packet. refl) (λ p h n. refl) (λ p h client. refl) (λ p h number. refl) (λ p h. refl) (λ p h homes. refl)

-- by what is due
pub due_untaken : (x : Unit {0}) (p : Place) (h : HeldView) (acts : List Act) → due.DoesDue (Some x) p h acts → TakeNothing acts
due_untaken = (does_due (K Untaken untaken_closed untaken_ones) untaken_low untaken_high).of

-- by what follows from a call of a session
pub reaction_untaken : (n : ℕ) (client : List ℕ) (k : Packet) (room : Bool) (r : Reaction) (x : Unit {0}) (p : Place) (h : HeldView) (acts : List Act) → serving.DoesReaction n client k room r (Some x) p h acts → TakeNothing acts
reaction_untaken n client k room r = (does_reaction (K Untaken untaken_closed untaken_ones) untaken_low untaken_high n client k room r).of

-- once a client's connection is closed
pub parts_untaken : (client : List ℕ) (x : Unit {0}) (p : Place) (h : HeldView) (acts : List Act) → ending.Parts client (Some x) p h acts → TakeNothing acts
parts_untaken client = (parts (K Untaken untaken_closed untaken_ones) untaken_low untaken_high client).of

-- ---- connections stay as they are
abbrev pub SameConnections : HeldView → HeldView → Type 0
SameConnections h h' = h'.connections ≡ h.connections

same_order : Order SameConnections
same_order = record { same = λ h. refl; after = λ h mid h' a b. b ∙ a }

abbrev Same : Property
Same = Leaves SameConnections same_order

abbrev same_closed : Closed Same
same_closed = leaves_closed SameConnections same_order

same_ones : Ones Same
same_ones = record {
  made = λ p h o. leaves_one SameConnections same_order p h (Store (Made o)) (λ _. refl);
  called = λ p h s un. leaves_one SameConnections same_order p h (Session (Called s)) (λ _. refl);
  over = λ p h client. leaves_one SameConnections same_order p h (Session (Over client)) (λ _. refl);
  put = λ p h peer m. leaves_one SameConnections same_order p h (Bridge (Put peer m)) (λ _. refl);
  missed = λ p h what. leaves_one SameConnections same_order p h (Bridge (Left_out what)) (λ _. refl);
  passed = λ p h m copies lost routes. leaves_one SameConnections same_order p h (Passed m copies lost routes) (λ _. refl);
  dropped = λ p h. leaves_one SameConnections same_order p h Dropped (λ _. refl);
  acknowledged = λ p h client packet at given os. leaves_one SameConnections same_order p h (Acknowledged client packet at given os) (λ _. refl);
}

-- by what is done of a session once its client's connection is closed
pub parts_same : (client : List ℕ) (x : Unit {0}) (p : Place) (h h' : HeldView) (acts : List Act) → ending.Parts client (Some x) p h acts → Runs p h acts h' → h'.connections ≡ h.connections
parts_same client x p h h' acts d runs =
    let w = low Same same_closed same_ones in
    (j_then Same same_closed (Calls client closes leaves) (λ _. ending.DoesDueOf client) (calling Same same_closed same_ones client closes leaves (λ at. tt))
    (λ _. due_of (K Same same_closed same_ones) w (ticks_of Same same_closed same_ones) client)).of x p h acts d h' runs
