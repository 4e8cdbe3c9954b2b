use Rattle.std.proofs.Common.{sym, ap, ◌∙◌}
use Rattle.std.specs.Cmp.{nat_cmp_total}
use Rattle.std.specs.FinSet as set
use Rattle.std.specs.Ordering.{nat_cmp}
use Rattle.law_maps.proofs.Tables.{contains_table}
use Rattle.door_packets.proofs.aliases.Aliases.contains.Goals as goal

pub returns : goal.returns
returns c =
    c.contains.ensures ∙ sym (contains_table nat_cmp_total c.self.inside.refused.keys c.args.alias)
    ∙ ap (λ (m : set.FinSet nat_cmp). set.contains m c.args.alias) c.self.view_is
