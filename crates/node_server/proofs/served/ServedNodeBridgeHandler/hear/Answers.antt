use Rattle.std.proofs.Common.{sym, subst}
use Rattle.std.proofs.lemmas.Result.{IfErr-weaker, IfOk-weaker}
use Rattle.broker_node.specs.declared.event.Event.{Event}
use Rattle.node_keeper.specs.declared.fault.KeeperFault.{KeeperFault}
use Rattle.node_server.proofs.Halting.{crashed, made_cause}
use Rattle.node_server.specs.Serving.{IsAnsweredToAll, IsHalted}
use Rattle.node_server.proofs.served.ServedNodeBridgeHandler.hear.Goals as goal

pub returns-in-Ok-clause-ok : goal.returns-in-Ok-clause-ok
returns-in-Ok-clause-ok g c =
    let k = c.args.self.now.keeper in
    IfOk-weaker c.give_all.result _ _
    (λ given is.
    subst (λ (e : Event). IsAnsweredToAll k e given c.give_all.new.keeper) c.peer_event_of-event.ensures
    (subst (λ last. IsAnsweredToAll k c.peer_event_of-event.result given last) (sym is.2)
    (record { made = c.in-Ok.made.items; taken = record { decided = c.in-Ok.ensures.ok; rows = c.in-Ok.ensures.rows }; passed = (is.0, is.1) })))
    c.give_all.ensures.ok

pub returns-in-Ok-clause-fault : goal.returns-in-Ok-clause-fault
returns-in-Ok-clause-fault g c =
    let k = c.args.self.now.keeper in
    let last = c.give_all.new.keeper in
    let cause = made_cause _ _ _ c.in-Ok.made _ _ c.in-Ok.ensures.ok (λ h up below idle. (c.in-Ok.ensures.idle h up below idle).0) in
    IfErr-weaker c.give_all.result _ _
    (λ fault is.
    subst (λ (e : Event). IsHalted k e fault last) c.peer_event_of-event.ensures
    (subst (λ (f : KeeperFault). IsHalted k c.peer_event_of-event.result f last) (sym is.0)
    (crashed k c.decide.new.self last c.peer_event_of-event.result (cause is.1) c.in-Ok.ensures.rows is.2)))
    c.give_all.ensures.fault

pub returns-clause-fault : goal.returns-clause-fault
returns-clause-fault g c =
    subst (λ (e : Event). IsHalted c.args.self.now.keeper e c.in-Err.fault c.decide.new.self) c.peer_event_of-event.ensures
    (record { down = c.in-Err.ensures.down; cause = c.in-Err.ensures.cause; rows = c.in-Err.ensures.rows; nothing = c.in-Err.ensures.dropped })
