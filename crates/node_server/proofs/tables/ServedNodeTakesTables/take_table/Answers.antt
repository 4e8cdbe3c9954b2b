use Rattle.std.proofs.Common.{sym, subst}
use Rattle.std.proofs.lemmas.Result.{IfErr-weaker, IfOk-weaker}
use Rattle.broker_node.specs.declared.event.Event.{Event}
use Rattle.node_keeper.specs.declared.fault.KeeperFault.{KeeperFault}
use Rattle.node_server.proofs.Halting.{crashed, made_cause}
use Rattle.node_server.specs.Serving.{IsAnsweredToClients, IsHalted}
use Rattle.node_server.proofs.tables.ServedNodeTakesTables.take_table.Goals as goal

pub returns-in-Ok-clause-ok : goal.returns-in-Ok-clause-ok
returns-in-Ok-clause-ok g c =
    let k = c.args.self.now.keeper in
    IfOk-weaker c.hand_over.result _ _
    (λ handed is.
    subst (λ (e : Event). IsAnsweredToClients k e handed.items c.hand_over.new.keeper) c.table_event-event.ensures
    (subst (λ last. IsAnsweredToClients k c.table_event-event.result handed.items last) (sym is.1)
    (record { made = c.in-Ok.made.items; taken = record { decided = c.in-Ok.ensures.ok; rows = c.in-Ok.ensures.rows }; passed = is.0 })))
    c.hand_over.ensures.ok

pub returns-in-Ok-clause-fault : goal.returns-in-Ok-clause-fault
returns-in-Ok-clause-fault g c =
    let k = c.args.self.now.keeper in
    let last = c.hand_over.new.keeper in
    let cause = made_cause _ _ _ c.in-Ok.made _ _ c.in-Ok.ensures.ok (λ h up below idle. (c.in-Ok.ensures.idle h up below idle).0) in
    IfErr-weaker c.hand_over.result _ _
    (λ fault is.
    subst (λ (e : Event). IsHalted k e fault last) c.table_event-event.ensures
    (subst (λ (f : KeeperFault). IsHalted k c.table_event-event.result f last) (sym is.0)
    (crashed k c.decide.new.self last c.table_event-event.result (cause is.1) c.in-Ok.ensures.rows is.2)))
    c.hand_over.ensures.fault

pub returns-clause-fault : goal.returns-clause-fault
returns-clause-fault g c =
    subst (λ (e : Event). IsHalted c.args.self.now.keeper e c.in-Err.fault c.decide.new.self) c.table_event-event.ensures
    (record { down = c.in-Err.ensures.down; cause = c.in-Err.ensures.cause; rows = c.in-Err.ensures.rows; nothing = c.in-Err.ensures.dropped })
