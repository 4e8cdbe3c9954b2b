use Rattle.std.proofs.Common.{◌++◌, sym, ap, ◌∙◌}
use Rattle.std.specs.FinMap as map
use Rattle.session_table.proofs.Tables.{keys_of_set}
use Rattle.session_table.proofs.times.DueTimes.into_pairs.Goals as goal

pub loop-due-init : goal.loop-due-init
loop-due-init c =
    (λ i. c.new-out.ensures.items i ++ c.into_iter-due-iterator.ensures.into_iter_gives.0 i)
    ∙ sym (ap map.keys (sym c.self.view_is) ∙ keys_of_set c.self.inside.order.keys c.into_iter-due-iterator.ensures.into_iter_gives.4)
