-- Work each of whose acts is of a kind.
use Rattle.std.proofs.Common.{ℕ, List, Option, subst, sym}
use Rattle.bridge_deltas.specs.declared.offer.Offer.{Offer}
use Rattle.bridge_deltas.specs.declared.offer.Offer.TheVariants.{Queued, Full, AtEnd}
use Rattle.bridge_frames.specs.declared.forward.Forward.{Forward}
use Rattle.bridge_routes.specs.declared.plain.PlainCopy.{PlainCopy as Copy}
use Rattle.bridge_routes.specs.declared.destinations.Route.{Route}
use Rattle.mqtt_message.specs.declared.delivery.Delivery.{Delivery}
use Rattle.mqtt_message.specs.declared.message.Message.{Message}
use Rattle.mqtt_sessions.specs.Reaction.{Reaction}
use Rattle.replica_store.specs.declared.operation.Operation.{Operation}
use Rattle.replica_store.specs.Making.{put_of, subscribe_of}
use Rattle.law_sessions.specs.Runs.{Event, connects, ticks, finishes}
use Rattle.session_table.specs.Calls.{stays}
use Rattle.node_work.specs.declared.counts.Missed.{Missed}
use Rattle.node_work.specs.declared.counts.Missed.TheVariants.{LaneFull}
use Rattle.node_work.specs.declared.granted.Granted.{Granted}
use Rattle.node_work.specs.Acts.{Act, Store, Session, Bridge, Acknowledged, Passed, Dropped, Made}
use Rattle.node_work.specs.Calling.{Calls}
use Rattle.node_work.specs.Doings.{PutsInLaneBy}
use Rattle.node_work.specs.Held.Bridge.{Put, Left_out}
use Rattle.node_work.specs.Held.Making.{number_at_end, put_at_end, removal, removal_below}
use Rattle.node_work.specs.Held.Sessions.{SessionStep, Called, Over}
use Rattle.node_work.specs.Passing.{turn_at_end}
use Rattle.node_work.specs.View.{Place, HeldView}
use Rattle.node_work.specs.Working.{Doing, Acting}
use Rattle.node_clients.specs.Ending as ending
use Rattle.law_runs.proofs.Keeping.{Keeps}
use Rattle.law_steps.proofs.Below.{Low, IsNoBadFrame, IsSmall, follows}
use Rattle.law_steps.proofs.Joining.{All, Closed, all_closed, j_returns, j_stops, j_acting, j_numbered, j_looks, j_finds, j_if, j_where, j_then, j_calls}

-- a call that begins no connection
abbrev pub IsCalmCall : Event → Type 0
IsCalmCall (connects q continued room now) = ⊥
IsCalmCall e = Unit {0}

-- the acts of work on sessions and messages are of the kind
pub record Kind (Q : Act → Type 0) : Type 0 where
  pub made : (o : Operation) → Q (Store (Made o))
  pub called : (s : SessionStep) → IsCalmCall s.event → Q (Session (Called s))
  pub over : (client : List ℕ) → Q (Session (Over client))
  pub put : (peer : ℕ) (m : Forward) → Q (Bridge (Put peer m))
  pub missed : (what : Missed) → IsNoBadFrame what → Q (Bridge (Left_out what))
  pub passed : (m : Message) (copies : List Copy) (lost : ℕ) (routes : List (ℕ × Route)) → Q (Passed m copies lost routes)
  pub dropped : Q Dropped
  pub acknowledged : (client : List ℕ) (packet at : ℕ) (given : List Granted) (os : List Delivery) → Q (Acknowledged client packet at given os)

module _ (Q : Act → Type 0) (k : Kind Q) where
  abbrev pub K : (A : Type 0) → (Option A → Doing) → Type 0
  K A P = Keeps (All Q) P

  abbrev c : Closed (All Q)
  c = all_closed Q

  pub acting : (a : Place → HeldView → Act) → ((p : Place) (h : HeldView) → Q (a p h)) → K (Unit {0}) (Acting a)
  acting a one = j_acting (All Q) c a (λ p h. (one p h, tt))

  puts_by : (peer : ℕ) (m : Forward) (o : Offer) → K (Unit {0}) (PutsInLaneBy peer m o)
  puts_by peer m (Queued n) = acting (λ p h. Bridge (Put peer m)) (λ p h. k.put peer m)
  puts_by peer m Full = acting (λ p h. Bridge (Left_out LaneFull)) (λ p h. k.missed LaneFull tt)
  puts_by peer m AtEnd = j_stops (All Q) c

  -- a call that begins no connection
  pub calling : (client : List ℕ) (event : ℕ → Event) (on : Option ℕ → Option ℕ) → ((at : ℕ) → IsCalmCall (event at)) → K Reaction (Calls client event on)
  calling client event on calm = j_calls (All Q) c client event on (λ p h s is. (k.called s (subst IsCalmCall (sym is) (calm h.at)), tt))

  small_calm : (e : Event) → IsSmall e → IsCalmCall e
  small_calm (connects q continued room now) small = small
  small_calm e small = tt

  pub low : Low K
  low = record {
    returns = j_returns (All Q) c;
    stops = j_stops (All Q) c;
    looks = j_looks (All Q) c;
    finds = j_finds (All Q) c;
    by_test = j_if (All Q) c;
    by_whether = j_where (All Q) c;
    join = j_then (All Q) c;
    calls = λ client event on small. calling client event on (λ at. small_calm (event at) (small at));
    put = λ content. j_numbered (All Q) c (λ p h. put_at_end p.id h) (λ p h. Store (Made (put_of p.id content h.store))) (λ p h. (k.made (put_of p.id content h.store), tt));
    subscribe = λ entry. j_numbered (All Q) c (λ p h. number_at_end p.id h) (λ p h. Store (Made (subscribe_of p.id entry h.store))) (λ p h. (k.made (subscribe_of p.id entry h.store), tt));
    remove = λ client to. j_numbered (All Q) c (λ p h. number_at_end p.id h) (λ p h. Store (Made (removal p.id client to h.store))) (λ p h. (k.made (removal p.id client to h.store), tt));
    remove_below = λ client version. j_numbered (All Q) c (λ p h. number_at_end p.id h) (λ p h. Store (Made (removal_below p.id client version h.store))) (λ p h. (k.made (removal_below p.id client version h.store), tt));
    over = λ client. acting (λ p h. Session (Over client)) (λ p h. k.over client);
    passed = λ m x. j_numbered (All Q) c turn_at_end (λ p h. Passed m x.0 x.1.0 x.1.1) (λ p h. (k.passed m x.0 x.1.0 x.1.1, tt));
    puts = puts_by;
    missed = λ what other. acting (λ p h. Bridge (Left_out what)) (λ p h. k.missed what other);
    dropped = acting (λ p h. Dropped) (λ p h. k.dropped);
    acknowledged = λ client packet given os. acting (λ p h. Acknowledged client packet h.at given os) (λ p h. k.acknowledged client packet h.at given os);
  }

  pub ticks_of : (client : List ℕ) → K (Unit {0}) (ending.Ticks client)
  ticks_of client = j_then (All Q) c (Calls client ticks stays) (ending.FollowsReaction client) (calling client ticks stays (λ at. tt)) (follows K low client)

  pub finishes_of : (client : List ℕ) → K (Unit {0}) (ending.Finishes client)
  finishes_of client = j_then (All Q) c (Calls client finishes stays) (ending.FollowsReaction client) (calling client finishes stays (λ at. tt)) (follows K low client)
