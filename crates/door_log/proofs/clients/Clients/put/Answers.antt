use Rattle.std.proofs.Common.{ap, ◌∙◌}
use Rattle.std.specs.Cmp.{nat_cmp_total}
use Rattle.std.specs.FinMap.{nat_cmp-IsAntisymmetric}
use Rattle.std.specs.FinMap as map
use Rattle.law_maps.proofs.Tables.{insert_table}
use Rattle.door_log.specs.Stages.{Stages}
use Rattle.door_log.proofs.clients.Clients.put.Goals as goal

pub returns : goal.returns
returns c =
    insert_table nat_cmp_total nat_cmp-IsAntisymmetric c.self.inside.stages.entries c.insert.new.self.entries c.args.connection c.args.stage
    c.in_ok-insert.ensures.updates.0
    ∙ ap (λ (m : Stages). map.insert m c.args.connection c.args.stage) c.self.view_is
