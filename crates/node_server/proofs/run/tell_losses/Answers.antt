use Rattle.std.proofs.Common.{◌∙◌, ap, subst, sym}
use Rattle.std.proofs.lemmas.Result.{on_ok_weaker}
use Rattle.door_bounds.specs.Views.{inside_of as bounded_in}
use Rattle.door_guard.specs.Views.{inside_of as guarded_in}
use Rattle.door_limits.specs.Views.{inside_of as limited_in}
use Rattle.node_server.proofs.Losing.{counted_in, finished_with}
use Rattle.door_tables.specs.Views.{inside_of as tabled_in}
use Rattle.node_server.proofs.run.tell_losses.Goals as goal

pub returns : goal.returns
returns g c =
    on_ok_weaker c.finish.result
    (λ is. record {
      at = c.now-at.result;
      told = c.now-at.ensures;
      counts = c.counts.result;
      counted = counted_in c.args.node.now c.inside-5.result.now c.counts.result
          (c.inside-5.ensures ∙ ap tabled_in (c.inside-4.ensures ∙ ap guarded_in (c.inside-3.ensures ∙ ap bounded_in (c.inside-2.ensures ∙ ap limited_in c.inside.ensures)))) c.counts.ensures;
      finished = finished_with g.E.Write.contents c.now-at.result c.counts.result c.losses_of-losses.result c.args.node.now c.finish.new.self c.losses_of-losses.ensures is;
    }) c.finish.ensures
