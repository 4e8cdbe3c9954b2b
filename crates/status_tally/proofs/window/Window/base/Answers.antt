use Rattle.std.proofs.Common.{◌∙◌, ◌<◌, ◌≤◌, drop, sym, ap, add-one, arith}
use Rattle.std.specs.Int.{abs_diff}
use Rattle.status_tally.specs.Windows.{base}
use Rattle.status_tally.proofs.Counted.{absent, counts, passed}
use Rattle.status_tally.proofs.window.Window.base.Goals.{in-Some+else-abs_diff-le-RECENT, in-None}
use Rattle.status_tally.proofs.window.Window.base.Goals as goal

pub returns-then-abs_diff-le-RECENT : goal.returns-then-abs_diff-le-RECENT
returns-then-abs_diff-le-RECENT c =
    let marks = c.self.inside.marks.items in
    let near : abs_diff c.in-Some.mark.now.at c.args.at ≤ 10000 = omega (arith, c.abs_diff.ensures) in
    sym (counts c.args.at marks c.loop-index.index c.in-Some.mark.now (sym c.in-Some.ensures) near) ∙ c.loop-index.invariant ∙ ap (base c.args.at) c.self.view_is

pub loop-index-preserved : goal.loop-index-preserved
loop-index-preserved c =
    let marks = c.self.inside.marks.items in
    let at = c.args.at in
    let i = c.loop-index.index in
    let next = ap (λ k. base at (drop k marks)) (add-one i) in
    elim c.match-get.branch [
      | in-Some+else-abs_diff-le-RECENT w ↦
          let far : 10000 < abs_diff w.in-Some.mark.now.at at = omega (arith, w.abs_diff.ensures) in
          next ∙ passed at marks i w.in-Some.mark.now (sym w.in-Some.ensures) far ∙ c.loop-index.invariant
      | in-None w ↦ next ∙ absent at marks i (sym w.in-None.ensures) ∙ c.loop-index.invariant
    ]
