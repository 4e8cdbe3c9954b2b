use Rattle.std.proofs.Common.{length, ap, ◌∙◌}
use Rattle.std.specs.List.{filter}
use Rattle.std.specs.FinMap as map
use Rattle.subscription_set.specs.Entries.{same_text}
use Rattle.subscription_set.specs.Standing.{latest}
use Rattle.subscription_set.specs.Indexing.{ByDot}
use Rattle.subscription_set.proofs.Counting.{none_counted, counted}
use Rattle.subscription_set.proofs.indexed.IndexedEntries.live_of.Goals as goal

pub returns-in-None : goal.returns-in-None
returns-in-None c =
    let m : ByDot = map.from_entries c.self.inside.entries.entries in
    none_counted m c.self.inside.index.clients c.self.inside.index.filters c.self.inside.live c.self.invariant.indexed c.args.client.now c.in-None.ensures
    ∙ ap (λ (x : ByDot). length (filter (λ y. same_text c.args.client.now y.1.client) (latest (map.entries x)))) c.self.view_is

pub returns-in-Some : goal.returns-in-Some
returns-in-Some c =
    let m : ByDot = map.from_entries c.self.inside.entries.entries in
    counted m c.self.inside.index.clients c.self.inside.index.filters c.self.inside.live c.self.invariant.indexed c.args.client.now c.in-Some.filters.now c.in-Some.ensures c.len.result c.len.ensures
    ∙ ap (λ (x : ByDot). length (filter (λ y. same_text c.args.client.now y.1.client) (latest (map.entries x)))) c.self.view_is
