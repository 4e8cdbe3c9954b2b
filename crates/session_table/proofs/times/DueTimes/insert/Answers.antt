use Rattle.std.proofs.Common.{◌∙◌, ap}
use Rattle.std.specs.FinMap as map
use Rattle.session_table.proofs.Tables.{insert_table}
use Rattle.session_table.proofs.times.DueTimes.insert.Goals as goal

pub returns-clause-ok : goal.returns-clause-ok
returns-clause-ok c =
    insert_table c.self.inside.order.keys c.insert.new.self.keys c.args.due c.in_ok-insert.ensures.updates.0
    ∙ ap (λ m. map.insert m c.args.due tt) c.self.view_is
