use Rattle.std.proofs.Common.{◌≡◌, ◌⊎◌, IfErr, inl, sym, subst}
use Rattle.std.proofs.lemmas.Result.{on_ok_weaker, IfErr-weaker}
use Rattle.cluster_play.specs.declared.step.Step.{Step}
use Rattle.cluster_play.specs.Clusters.{world}
use Rattle.cluster_play.specs.Playing.{IsDoneStep, MemoryRunsOut}
use Rattle.cluster_play.specs.Worlds.{Lacks}
use Rattle.cluster_play.specs.declared.fault.PlayFault.TheVariants.{NoMemory}
use Rattle.cluster_play.proofs.cluster.Cluster.step.Goals as goal

pub returns-in-Deliver-clause-ok : goal.returns-in-Deliver-clause-ok
returns-in-Deliver-clause-ok c =
    on_ok_weaker c.deliver.result (λ e. subst (λ (s : Step). IsDoneStep (world c.args.self.now) s c.args.lines.now.items c.deliver.new.lines.items (world c.deliver.new.self)) (sym c.in-Deliver.is) e) c.deliver.ensures.ok

pub returns-in-Deliver-clause-err : goal.returns-in-Deliver-clause-err
returns-in-Deliver-clause-err c = subst (λ (s : Step). IfErr c.deliver.result (λ f.
    ((f ≡ NoMemory) × MemoryRunsOut (world c.args.self.now) s (world c.deliver.new.self)) ⊎ (Lacks (world c.args.self.now) s f × (c.deliver.new.self ≡ c.args.self.now)))) (sym c.in-Deliver.is) c.deliver.ensures.err

pub returns-in_ok-find_node-in-Event-clause-ok : goal.returns-in_ok-find_node-in-Event-clause-ok
returns-in_ok-find_node-in-Event-clause-ok c =
    on_ok_weaker c.event.result (λ e. subst (λ (s : Step). IsDoneStep (world c.args.self.now) s c.args.lines.now.items c.event.new.lines.items (world c.event.new.self)) (sym c.in-Event.is) e) c.event.ensures.ok

pub returns-in_ok-find_node-in-Event-clause-err : goal.returns-in_ok-find_node-in-Event-clause-err
returns-in_ok-find_node-in-Event-clause-err c =
    IfErr-weaker c.event.result _ _ (λ f e. inl (e.0, subst (λ (s : Step). MemoryRunsOut (world c.args.self.now) s (world c.event.new.self)) (sym c.in-Event.is) e.1)) c.event.ensures.err

pub returns-in_ok-find_node-in-CrashBefore-clause-ok : goal.returns-in_ok-find_node-in-CrashBefore-clause-ok
returns-in_ok-find_node-in-CrashBefore-clause-ok c =
    on_ok_weaker c.crash_before.result
    (λ e. subst (λ (s : Step). IsDoneStep (world c.args.self.now) s c.args.lines.now.items c.crash_before.new.lines.items (world c.crash_before.new.self)) (sym c.in-CrashBefore.is) e) c.crash_before.ensures.ok

pub returns-in_ok-find_node-in-CrashAfter-clause-ok : goal.returns-in_ok-find_node-in-CrashAfter-clause-ok
returns-in_ok-find_node-in-CrashAfter-clause-ok c =
    on_ok_weaker c.crash_after.result
    (λ e. subst (λ (s : Step). IsDoneStep (world c.args.self.now) s c.args.lines.now.items c.crash_after.new.lines.items (world c.crash_after.new.self)) (sym c.in-CrashAfter.is) e) c.crash_after.ensures.ok
