use Rattle.std.proofs.Common.{◌<◌, ◌++◌, ◌∷◌, [], ◌∙◌, Err, ap, inr, refl, arith, length}
use Rattle.std.proofs.lemmas.Result.{IfErr-weaker}
use Rattle.std.proofs.Math.ListN.{set}
use Rattle.cluster_play.specs.declared.line.Line.TheVariants.{Down, Fault}
use Rattle.cluster_play.specs.Runs.{client_lines, frame_lines}
use Rattle.cluster_play.specs.Worlds.{Released, frames_in}
use Rattle.cluster_play.proofs.Events.{both_ok, in_memory, same_site, event_done, event_refused, world_of}
use Rattle.cluster_play.proofs.cluster.Cluster.event.Goals as goal

pub returns-in-Ok-clause-ok : goal.returns-in-Ok-clause-ok
returns-in-Ok-clause-ok c =
    let nodes = c.args.self.now.nodes in
    let frames = c.args.self.now.frames.items in
    let i = c.args.node in
    let k = c.index_mut.result.now in
    let k' = c.handle.new.self in
    let outputs = c.in-Ok.outputs.items in
    let below : i < length nodes.items = omega (arith, nodes.ok.0, c.requires) in
    let done = (c.in-Ok.ensures.ok tt tt).1 in
    both_ok c.release.result c.release.ensures.frames c.release.ensures.lines (λ fs ls. (
      Released i c.args.event.now done.done.acts outputs,
      event_done nodes.items frames i k below c.index_mut.ensures.value c.args.event.now outputs k' c.release.new.frames.items done c.handle.ensures.place fs,
      ls ∙ ap (λ xs. xs ++ (client_lines i outputs ++ frame_lines (length frames) (frames_in outputs))) c.reserve.ensures.items,
    ))

-- the node took the event, and what it gives out found no room
pub returns-in-Ok-clause-err : goal.returns-in-Ok-clause-err
returns-in-Ok-clause-err c =
    let nodes = c.args.self.now.nodes in
    let frames = c.args.self.now.frames.items in
    let i = c.args.node in
    let k = c.index_mut.result.now in
    let k' = c.handle.new.self in
    let e = c.args.event.now in
    let outputs = c.in-Ok.outputs.items in
    let below : i < length nodes.items = omega (arith, nodes.ok.0, c.requires) in
    let done = (c.in-Ok.ensures.ok tt tt).1 in
    let fs = frames ++ frames_in outputs in
    IfErr-weaker c.release.result _ _ (λ f is. (
      is,
      inr (
        i,
        e,
        done.done.acts,
        outputs,
        world_of (set nodes.items i k') fs,
        event_done nodes.items frames i k below c.index_mut.ensures.value e outputs k' fs done c.handle.ensures.place refl,
        refl,
      ),
    )) c.release.ensures.err

pub returns-in-Err-clause-ok : goal.returns-in-Err-clause-ok
returns-in-Err-clause-ok c =
    let nodes = c.args.self.now.nodes in
    let frames = c.args.self.now.frames.items in
    let i = c.args.node in
    let k = c.index_mut.result.now in
    let below : i < length nodes.items = omega (arith, nodes.ok.0, c.requires) in
    let e = c.in-Err.ensures in
    let lines = c.args.lines.now.items in
    event_refused nodes.items frames i k below c.index_mut.ensures.value c.args.event.now lines c.tell.new.lines.items c.in-Err.fault c.handle.new.self e.cause (in_memory c.in-Err.fault (λ x. e.bad (ap Err x)) (λ x. e.device (ap Err x)))
    (λ d. same_site k c.handle.new.self (c.handle.ensures.stopped d).1 (c.handle.ensures.stopped d).2) e.down (e.err tt tt)
    (λ is. c.tell.ensures.down is ∙ ap (λ xs. xs ++ Down i ∷ []) c.reserve.ensures.items)
    (λ is. c.tell.ensures.fault is ∙ ap (λ xs. xs ++ Fault i c.in-Err.fault ∷ []) c.reserve.ensures.items)
