use Rattle.std.proofs.Common.{sym, subst}
use Rattle.bridge_frames.specs.declared.body.FrameBody.{FrameBody}
use Rattle.node_work.specs.Working.{ComesTo}
use Rattle.broker_node.specs.Bridge.{TakesBody}
use Rattle.broker_node.proofs.bridge.take.Goals as goal

pub returns-in-Got : goal.returns-in-Got
returns-in-Got c = subst (λ (b : FrameBody). ComesTo (λ x. x) c.got.result c.args.work.now c.got.new.self (TakesBody c.args.from b)) (sym c.in-Got.is) c.got.ensures
