use Rattle.std.proofs.Common.{ap, ◌∙◌}
use Rattle.std.specs.Cmp.{nat_cmp_total}
use Rattle.std.specs.FinMap.{nat_cmp-IsAntisymmetric}
use Rattle.std.specs.FinSet as set
use Rattle.std.specs.Ordering.{nat_cmp}
use Rattle.law_maps.proofs.Tables.{leave_table}
use Rattle.door_packets.proofs.aliases.Aliases.allow.Goals as goal

pub returns : goal.returns
returns c =
    leave_table nat_cmp_total nat_cmp-IsAntisymmetric c.self.inside.refused.keys c.remove.new.self.keys c.args.alias c.remove.ensures.updates.0
    ∙ ap (λ (m : set.FinSet nat_cmp). set.remove m c.args.alias) c.self.view_is
