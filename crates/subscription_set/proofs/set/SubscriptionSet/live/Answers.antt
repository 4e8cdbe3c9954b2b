use Rattle.std.proofs.Common.{map as map_list}
use Rattle.std.specs.Map.Iter.{deref_pair}
use Rattle.std.proofs.Common.{refl}
use Rattle.std.specs.FinMap as map
use Rattle.std.proofs.Common.{◌≡◌, [], IfOk, IsOk, subst}
use Rattle.subscription_set.specs.Standing.{latest, live}
use Rattle.subscription_set.proofs.Standings.{entries_are}
use Rattle.subscription_set.proofs.set.SubscriptionSet.live.Goals as goal

pub returns-clause-live : goal.returns-clause-live
unfolding live
returns-clause-live c = subst (λ es. IfOk c.latest_among.result (λ out. map_list deref_pair out.items ≡ latest es)) (entries_are c.self.inside.seen (map.entries c.self.inside.entries) c.args.self.now (map.entries c.self.inside.entries) c.self.invariant c.self.view_is refl) c.latest_among.ensures.latest

pub returns-clause-none : goal.returns-clause-none
unfolding live
returns-clause-none c = subst (λ es. latest es ≡ [] → IsOk c.latest_among.result) (entries_are c.self.inside.seen (map.entries c.self.inside.entries) c.args.self.now (map.entries c.self.inside.entries) c.self.invariant c.self.view_is refl) c.latest_among.ensures.none
