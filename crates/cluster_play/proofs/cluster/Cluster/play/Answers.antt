use Rattle.std.proofs.Common.{◌∙◌, ap, inl, inr}
use Rattle.cluster_play.specs.Clusters.{world}
use Rattle.cluster_play.proofs.Played.{play_more, refused}
use Rattle.cluster_play.proofs.cluster.Cluster.play.Goals as goal

pub returns-in-Err-clause-err : goal.returns-in-Err-clause-err
returns-in-Err-clause-err c =
    refused c.args.self.now _ (world c.loop-step.self) c.args.steps.now c.loop-step.step-index c.step-item.result c.loop-step.lines.items c.in-Err.fault
    c.loop-step-test.true c.step-item.is c.loop-step.invariant.played
    (elim c.in-Err.ensures.err [ inl e ↦ inl e | inr h ↦ inr (h.0, ap world h.1) ])
    c.eq-self.ensures

pub loop-step-preserved : goal.loop-step-preserved
loop-step-preserved c = record {
  played = play_more (world c.args.self.now) (world c.loop-step.self) (world c.step.new.self) c.args.steps.now c.loop-step.step-index c.step-item.result c.loop-step.lines.items c.step.new.lines.items
      c.loop-step-test.true c.step-item.is c.loop-step.invariant.played c.in-Ok.ensures.ok;
  ready = c.in-Ok.ensures.spent ∙ c.loop-step.invariant.ready;
}
