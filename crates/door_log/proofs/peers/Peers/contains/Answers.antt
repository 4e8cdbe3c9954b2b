use Rattle.std.proofs.Common.{sym, ap, ◌∙◌}
use Rattle.std.specs.Cmp.{nat_cmp_total}
use Rattle.std.specs.FinSet as set
use Rattle.std.specs.Ordering.{nat_cmp}
use Rattle.law_maps.proofs.Tables.{contains_table}
use Rattle.door_log.proofs.peers.Peers.contains.Goals as goal

pub returns : goal.returns
returns c =
    c.contains.ensures ∙ sym (contains_table nat_cmp_total c.self.inside.numbers.keys c.args.peer)
    ∙ ap (λ (m : set.FinSet nat_cmp). set.contains m c.args.peer) c.self.view_is
