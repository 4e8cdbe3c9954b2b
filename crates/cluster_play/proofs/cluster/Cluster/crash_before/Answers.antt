use Rattle.std.proofs.Common.{◌<◌, ◌++◌, ◌∷◌, [], ◌∙◌, sym, ap, arith, length}
use Rattle.cluster_play.specs.declared.line.Line.TheVariants.{Crash, Down}
use Rattle.cluster_play.specs.Worlds.{Cut, Was_down}
use Rattle.cluster_play.proofs.Events.{cut_done, cut_down}
use Rattle.cluster_play.proofs.cluster.Cluster.crash_before.Goals as goal

pub returns-then-is_up-clause-ok : goal.returns-then-is_up-clause-ok
returns-then-is_up-clause-ok c =
    let nodes = c.args.self.now.nodes in
    let i = c.args.node in
    let k = c.index_mut-keeper.result.now in
    let below : i < length nodes.items = omega (arith, nodes.ok.0, c.requires) in (
      Cut i,
      cut_done nodes.items c.args.self.now.frames.items i k below c.index_mut-keeper.ensures.value c.crash.new.self (sym c.is_up.ensures ∙ c.if-is_up.true) c.crash.ensures.node c.crash.ensures.rows,
      c.push_reserved.ensures.items ∙ ap (λ xs. xs ++ Crash i ∷ []) c.reserve.ensures.items,
    )

pub returns-else-is_up-clause-ok : goal.returns-else-is_up-clause-ok
returns-else-is_up-clause-ok c =
    let nodes = c.args.self.now.nodes in
    let i = c.args.node in
    let k = c.index_mut-keeper.result.now in
    let below : i < length nodes.items = omega (arith, nodes.ok.0, c.requires) in (
      Was_down i,
      cut_down nodes.items c.args.self.now.frames.items i k below c.index_mut-keeper.ensures.value (sym c.is_up.ensures ∙ c.if-is_up.false),
      c.push_reserved-else-is_up.ensures.items ∙ ap (λ xs. xs ++ Down i ∷ []) c.reserve.ensures.items,
    )
