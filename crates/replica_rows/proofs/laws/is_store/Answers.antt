use Rattle.std.proofs.Common.{subst, ap, ◌∙◌}
use Rattle.std.specs.FinMap as map
use Rattle.subscription_set.specs.Standing.{seen_of, standing}
use Rattle.replica_rows.specs.ReadingSteps.{AllCanStand, AllHaveSpellings}
use Rattle.replica_rows.proofs.Stores.{ranges_spell, each_store}
use Rattle.replica_rows.proofs.laws.is_store.Goals as goal

pub returns : goal.returns
returns c =
    each_store c.args.store.now c.has_seen.ensures
    (ranges_spell _ _ c.ranges-taken.result.now c.taken.ensures c.ranges-taken.ensures.ranges c.ranges-taken.ensures.set)
    (ranges_spell _ _ c.ranges-seen.result.now (c.seen.ensures ∙ ap seen_of c.subscriptions.ensures) c.ranges-seen.ensures.ranges c.ranges-seen.ensures.set)
    (subst (λ m. AllCanStand (standing m)) c.subscriptions-2.ensures c.all_can_stand.ensures) (subst (λ r. AllHaveSpellings (map.entries r)) c.retained.ensures c.all_have_spellings.ensures)
