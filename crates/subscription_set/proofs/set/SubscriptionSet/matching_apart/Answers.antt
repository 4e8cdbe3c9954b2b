use Rattle.std.proofs.Common.{[], map as map_list, IfOk, IsOk, refl, subst}
use Rattle.std.specs.FinMap as map
use Rattle.mqtt_topics.specs.Matching.{Matches}
use Rattle.filter_trie.specs.Selected.{IsSelected}
use Rattle.subscription_set.specs.Members.{AreInTurn, IsPlainFor}
use Rattle.subscription_set.specs.Standing.{Entries, latest, live}
use Rattle.subscription_set.proofs.Standings.{entries_are}
use Rattle.subscription_set.proofs.set.SubscriptionSet.matching_apart.Goals as goal

pub returns-clause-plain : goal.returns-clause-plain
unfolding live
returns-clause-plain c =
    let P : Entries → Type 0 = λ es. IfOk c.latest_apart.result (λ out. IsSelected (IsPlainFor c.args.name.now) (map_list (λ x. x.1) (latest es)) (map_list (λ r. r.now) out.plain.items)) in
    subst P (entries_are c.self.inside.seen (map.entries c.self.inside.entries) c.args.self.now (map.entries c.self.inside.entries) c.self.invariant c.self.view_is refl) c.latest_apart.ensures.plain

pub returns-clause-in_turn : goal.returns-clause-in_turn
unfolding live
returns-clause-in_turn c =
    let P : Entries → Type 0 = λ es. IfOk c.latest_apart.result (λ out. AreInTurn c.args.turn c.args.name.now (map_list (λ x. x.1) (latest es)) (map_list (λ r. r.now) out.in_turn.items)) in
    subst P (entries_are c.self.inside.seen (map.entries c.self.inside.entries) c.args.self.now (map.entries c.self.inside.entries) c.self.invariant c.self.view_is refl) c.latest_apart.ensures.in_turn

pub returns-clause-none : goal.returns-clause-none
unfolding live
returns-clause-none c =
    let P : Entries → Type 0 = λ es. IsSelected (λ e. Matches e.filter c.args.name.now) (map_list (λ x. x.1) (latest es)) [] → IsOk c.latest_apart.result in
    subst P (entries_are c.self.inside.seen (map.entries c.self.inside.entries) c.args.self.now (map.entries c.self.inside.entries) c.self.invariant c.self.view_is refl) c.latest_apart.ensures.none
