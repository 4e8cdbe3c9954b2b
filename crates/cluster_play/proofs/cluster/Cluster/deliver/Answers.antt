use Rattle.std.proofs.Common.{List, ℕ, refl, sym, ap, inl, inr, arith, subst}
use Rattle.std.proofs.lemmas.Result.{on_ok_weaker, IfErr-weaker}
use Rattle.broker_node.specs.declared.event.Event.{Event}
use Rattle.broker_node.specs.declared.event.EventKind.TheVariants as kinds
use Rattle.cluster_play.specs.declared.step.Step.TheVariants as steps
use Rattle.cluster_play.specs.Clusters.{site_of, world}
use Rattle.cluster_play.specs.Playing.{IsDoneAt, MemoryRunsOut}
use Rattle.cluster_play.specs.Worlds.{OfEvent}
use Rattle.cluster_play.proofs.Events.{delivery_out, map_past}
use Rattle.cluster_play.proofs.cluster.Cluster.deliver.Goals as goal

pub returns-then-node-len-clause-err : goal.returns-then-node-len-clause-err
returns-then-node-len-clause-err c =
    let f = c.in-Some.frame.now in
    inr (inr (f, sym c.in-Some.ensures, (refl, map_past site_of c.args.self.now.nodes.items f.to (omega (arith, c.args.self.now.nodes.ok.0)))), refl)

pub returns-clause-ok : goal.returns-clause-ok
returns-clause-ok c =
    let f = c.in-Some.frame.now in
    let same = ap (λ (bytes : List ℕ). record { at = c.args.at; kind = kinds.Frame bytes }) c.in_ok-bytes.ensures in
    on_ok_weaker c.event.result (λ d.
    let e = subst (λ (v : Event). IsDoneAt (world c.args.self.now) f.to (OfEvent v) c.args.lines.now.items c.event.new.lines.items (world c.event.new.self)) same d in
    (e.0, (f, sym c.in-Some.ensures, e.1), e.2)) c.event.ensures.ok

pub returns-clause-err : goal.returns-clause-err
returns-clause-err c =
    let f = c.in-Some.frame.now in
    let same = ap (λ (bytes : List ℕ). record { at = c.args.at; kind = kinds.Frame bytes }) c.in_ok-bytes.ensures in
    IfErr-weaker c.event.result _ _ (λ k e. inl (
      e.0,
      delivery_out (world c.args.self.now) (world c.event.new.self) c.args.number c.args.at f (sym c.in-Some.ensures)
          (subst (λ (v : Event). MemoryRunsOut (world c.args.self.now) (steps.Event f.to v) (world c.event.new.self)) same e.1),
    )) c.event.ensures.err
