use Rattle.std.proofs.Common.{◌∙◌, ap, sym}
use Rattle.std.specs.FinMap as map
use Rattle.session_table.proofs.Tables.{has_of, remove_table, same_pair}
use Rattle.session_table.proofs.times.DueTimes.take.Goals as goal

pub returns-clause-left : goal.returns-clause-left
returns-clause-left c =
    remove_table c.self.inside.order.keys c.take.new.self.keys c.args.due.now c.take.ensures.updates.0
    ∙ ap (λ m. map.remove m c.args.due.now) c.self.view_is

pub returns-clause-found : goal.returns-clause-found
returns-clause-found c =
    c.take.ensures.variant ∙ sym (has_of c.self.inside.order.keys c.args.due.now) ∙ ap (λ m. map.contains_key m c.args.due.now) c.self.view_is

pub returns-clause-same : goal.returns-clause-same
returns-clause-same c = same_pair c.take.result c.args.due.now c.take.ensures.same_key
