use Rattle.std.proofs.Common.{sym, ◌∙◌}
use Rattle.node_work.specs.declared.counts.Missed.TheVariants.{BadFrame}
use Rattle.node_work.specs.Doings.{Misses}
use Rattle.node_work.specs.Frames.{is_for_node}
use Rattle.node_work.proofs.Working.{comes_when}
use Rattle.broker_node.specs.Bridge.{TakesBody}
use Rattle.broker_node.proofs.Hearing.{from_other}
use Rattle.broker_node.proofs.bridge.hear_frame.Goals as goal

pub returns-then-is_for : goal.returns-then-is_for
returns-then-is_for c =
    let f = c.args.frame in
    comes_when (λ x. x) c.take.result c.args.work.now c.take.new.work (λ p h. is_for_node p f) (TakesBody f.from f.body) (Misses BadFrame) (sym c.is_for.ensures ∙ c.if-is_for.true) c.take.ensures

pub take-requires : goal.take-requires
take-requires c = from_other c.args.work.now.place c.args.frame (sym c.is_for.ensures ∙ c.if-is_for.true)
