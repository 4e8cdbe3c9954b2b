use Rattle.std.proofs.Common.{ap}
use Rattle.std.specs.FinMap as map
use Rattle.causal_context.specs.Dots.{dot_cmp}
use Rattle.subscription_set.specs.Standing.{Entries}
use Rattle.subscription_set.proofs.Filtered.{matched_new}
use Rattle.subscription_set.proofs.Indexing.{indexed_new}
use Rattle.subscription_set.proofs.indexed.IndexedEntries.new.Goals as goal

pub invariant_of-result : goal.invariant_of-result
invariant_of-result c = record {
  indexed = indexed_new c.new.result.entries c.new-2.result.clients c.new-2.result.filters c.new.ensures.empty c.new-2.ensures.clients c.new-2.ensures.filters;
  matched = matched_new (map.from_entries c.new.result.entries) c.new-2.result.matches (ap (λ (es : Entries). map.from_entries {R = dot_cmp} es) c.new.ensures.empty) c.new-2.ensures.matches;
}
