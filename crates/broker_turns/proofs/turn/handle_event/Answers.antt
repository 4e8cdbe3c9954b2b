use Rattle.broker_turns.proofs.Breaking.{broken_memory_err, tells_client}
use Rattle.broker_turns.proofs.turn.handle_event.Goals as goal

pub returns-in_err-release-in-Ok-clause-fault : goal.returns-in_err-release-in-Ok-clause-fault
returns-in_err-release-in-Ok-clause-fault g c =
    broken_memory_err g.H.Handler.handles g.H.BridgeHandler.hears g.H.Handler.refuses g.H.BridgeHandler.declines c.args.event.at c.from_residual.result c.args.handler.now c.handle.new.self c.from_residual.ensures.1
    (tells_client g.H.Handler.handles g.H.BridgeHandler.hears c.args.handler.now c.args.event c.in-Ok.outputs.items c.handle.new.self c.in-Ok.ensures.ok)
