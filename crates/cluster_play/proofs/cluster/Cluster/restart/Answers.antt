use Rattle.std.proofs.Common.{◌<◌, ◌++◌, ◌∷◌, [], ◌∙◌, Err, ap, sym, arith, length}
use Rattle.std.proofs.lemmas.List.{append-nil}
use Rattle.node_keeper.specs.Views.{node_of, rows_of}
use Rattle.cluster_play.specs.Clusters.{site_of}
use Rattle.cluster_play.specs.declared.line.Line.TheVariants.{Fault}
use Rattle.cluster_play.specs.Worlds.{Faulted, Restarted}
use Rattle.cluster_play.proofs.Events.{never_stopped, not_restarted, restarted, stays_down}
use Rattle.cluster_play.proofs.cluster.Cluster.restart.Goals as goal

pub returns-in-Ok-clause-ok : goal.returns-in-Ok-clause-ok
returns-in-Ok-clause-ok c =
    let nodes = c.args.self.now.nodes in
    let i = c.args.node in
    let k = c.index_mut.result.now in
    let below : i < length nodes.items = omega (arith, nodes.ok.0, c.requires) in (
      Restarted i (node_of k).homes,
      restarted nodes.items c.args.self.now.frames.items i k below c.index_mut.ensures.value c.reopen.new.self (c.in-Ok.ensures.ok tt tt).1,
      c.reserve.ensures.items ∙ sym (append-nil c.args.lines.now.items),
    )

pub returns-in-Err-clause-ok : goal.returns-in-Err-clause-ok
returns-in-Err-clause-ok c =
    let nodes = c.args.self.now.nodes in
    let i = c.args.node in
    let k = c.index_mut.result.now in
    let below : i < length nodes.items = omega (arith, nodes.ok.0, c.requires) in
    let e = c.in-Err.ensures in
    let marks = e.err tt tt in
    let fault = c.in-Err.fault in (
      Faulted i fault,
      not_restarted nodes.items c.args.self.now.frames.items i k below c.index_mut.ensures.value fault c.reopen.new.self (stays_down (site_of k) (rows_of c.reopen.new.self) fault e.fault marks (λ x. e.bad tt tt (ap Err x)) (λ x. e.device (ap Err x))) e.down marks,
      c.tell.ensures.fault (never_stopped fault e.fault) ∙ ap (λ xs. xs ++ Fault i fault ∷ []) c.reserve.ensures.items,
    )
