use Rattle.std.proofs.Common.{rules}
use Rattle.subscription_set.specs.Matching.{HasPlainFilter}
use Rattle.subscription_set.proofs.Grouping.{pair_in, selected_from_retain}
use Rattle.subscription_set.proofs.by_filter.plain_in.Goals as goal

pub returns : goal.returns
returns c = selected_from_retain _ HasPlainFilter pair_in _ (λ x b f' k. search rules) _ _ c.retain.ensures.filtered
