use Rattle.std.proofs.Common.{[], map as map_list, IfOk, IsOk, refl, subst}
use Rattle.std.specs.FinMap as map
use Rattle.mqtt_topics.specs.Matching.{Matches}
use Rattle.filter_trie.specs.Selected.{IsSelected}
use Rattle.subscription_set.specs.Standing.{Entries, latest, live}
use Rattle.subscription_set.proofs.Standings.{entries_are}
use Rattle.subscription_set.proofs.set.SubscriptionSet.matching.Goals as goal

pub returns-clause-selected : goal.returns-clause-selected
unfolding live
returns-clause-selected c =
    let P : Entries → Type 0 = λ es. IfOk c.latest_matching.result (λ out. IsSelected (λ e. Matches e.filter c.args.name.now) (map_list (λ x. x.1) (latest es)) (map_list (λ r. r.now) out.items)) in
    subst P (entries_are c.self.inside.seen (map.entries c.self.inside.entries) c.args.self.now (map.entries c.self.inside.entries) c.self.invariant c.self.view_is refl) c.latest_matching.ensures.selected

pub returns-clause-none : goal.returns-clause-none
unfolding live
returns-clause-none c =
    let P : Entries → Type 0 = λ es. IsSelected (λ e. Matches e.filter c.args.name.now) (map_list (λ x. x.1) (latest es)) [] → IsOk c.latest_matching.result in
    subst P (entries_are c.self.inside.seen (map.entries c.self.inside.entries) c.args.self.now (map.entries c.self.inside.entries) c.self.invariant c.self.view_is refl) c.latest_matching.ensures.none
