use Rattle.std.proofs.Common.{sym, ap, ◌∙◌}
use Rattle.std.specs.FinSet as set
use Rattle.std.specs.Ordering.{nat_cmp}
use Rattle.door_mqtt3.proofs.ExchangeLaws.{len_list}
use Rattle.door_mqtt3.proofs.exchanges.OpenExchanges.len.Goals as goal

pub returns : goal.returns
returns c = c.len.ensures.len ∙ sym (len_list c.self.inside.identifiers.keys c.len.ensures.ordered) ∙ ap (λ (m : set.FinSet nat_cmp). set.len m) c.self.view_is
