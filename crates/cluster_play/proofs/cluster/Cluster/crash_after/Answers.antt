use Rattle.std.proofs.Common.{◌<◌, ◌++◌, ◌∷◌, [], ◌∙◌, Err, ap, arith, length}
use Rattle.cluster_play.specs.declared.line.Line.TheVariants.{Crash, Down, Fault}
use Rattle.cluster_play.specs.Worlds.{Lost}
use Rattle.cluster_play.proofs.Events.{crash_refused, in_memory, same_site, lost_done}
use Rattle.cluster_play.proofs.cluster.Cluster.crash_after.Goals as goal

pub returns-in-Ok-clause-ok : goal.returns-in-Ok-clause-ok
returns-in-Ok-clause-ok c =
    let nodes = c.args.self.now.nodes in
    let i = c.args.node in
    let k = c.index_mut-keeper.result.now in
    let below : i < length nodes.items = omega (arith, nodes.ok.0, c.requires) in
    let done = (c.in-Ok.ensures.ok tt tt).1 in (
      Lost i c.args.event.now done.done.acts,
      lost_done nodes.items c.args.self.now.frames.items i k below c.index_mut-keeper.ensures.value c.args.event.now c.in-Ok._lost.items c.handle.new.self c.crash.new.self done c.handle.ensures.place
          c.crash.ensures.node c.crash.ensures.rows,
      c.push_reserved.ensures.items ∙ ap (λ xs. xs ++ Crash i ∷ []) c.reserve.ensures.items,
    )

pub returns-in-Err-clause-ok : goal.returns-in-Err-clause-ok
returns-in-Err-clause-ok c =
    let nodes = c.args.self.now.nodes in
    let i = c.args.node in
    let k = c.index_mut-keeper.result.now in
    let below : i < length nodes.items = omega (arith, nodes.ok.0, c.requires) in
    let e = c.in-Err.ensures in
    crash_refused nodes.items c.args.self.now.frames.items i k below c.index_mut-keeper.ensures.value c.args.event.now c.args.lines.now.items c.tell.new.lines.items c.in-Err.fault c.handle.new.self e.cause (in_memory c.in-Err.fault (λ x. e.bad (ap Err x)) (λ x. e.device (ap Err x)))
    (λ d. same_site k c.handle.new.self (c.handle.ensures.stopped d).1 (c.handle.ensures.stopped d).2) e.down (e.err tt tt)
    (λ is. c.tell.ensures.down is ∙ ap (λ xs. xs ++ Down i ∷ []) c.reserve.ensures.items)
    (λ is. c.tell.ensures.fault is ∙ ap (λ xs. xs ++ Fault i c.in-Err.fault ∷ []) c.reserve.ensures.items)
