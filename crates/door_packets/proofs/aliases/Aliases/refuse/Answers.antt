use Rattle.std.proofs.Common.{ap, ◌∙◌}
use Rattle.std.specs.Cmp.{nat_cmp_total}
use Rattle.std.specs.FinMap.{nat_cmp-IsAntisymmetric}
use Rattle.std.specs.FinSet as set
use Rattle.std.specs.Ordering.{nat_cmp}
use Rattle.law_maps.proofs.Tables.{add_table}
use Rattle.door_packets.proofs.aliases.Aliases.refuse.Goals as goal

pub returns : goal.returns
returns c =
    add_table nat_cmp_total nat_cmp-IsAntisymmetric c.self.inside.refused.keys c.insert.new.self.keys c.args.alias c.in_ok-insert.ensures.updates.0
    ∙ ap (λ (m : set.FinSet nat_cmp). set.insert m c.args.alias) c.self.view_is
