use Rattle.std.proofs.Common.{◌∙◌, ap}
use Rattle.std.specs.Cmp.{nat_cmp_total}
use Rattle.std.specs.FinMap.{nat_cmp-IsAntisymmetric}
use Rattle.std.specs.FinMap as map
use Rattle.law_maps.proofs.Tables.{insert_table}
use Rattle.node_work.proofs.held.connections.Connections.put.Goals as goal

pub returns-clause-ok : goal.returns-clause-ok
returns-clause-ok c =
    insert_table nat_cmp_total nat_cmp-IsAntisymmetric c.self.inside.table.entries c.insert.new.self.entries c.args.connection c.args.found c.in_ok-insert.ensures.updates.0
    ∙ ap (λ m. map.insert m c.args.connection c.args.found) c.self.view_is
