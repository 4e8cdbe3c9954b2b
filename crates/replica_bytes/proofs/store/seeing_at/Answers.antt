use Rattle.std.proofs.Common.{◌∙◌, refl, sym, subst, true≢false}
use Rattle.causal_context.specs.SetLattice.{IsSubset}
use Rattle.replica_bytes.specs.Stores.{seeing}
use Rattle.replica_bytes.proofs.Sets.{seen_fails, seen_passes}
use Rattle.replica_bytes.proofs.store.seeing_at.Goals as goal

pub returns-then-not-is_below-clause-exact : goal.returns-then-not-is_below-clause-exact
unfolding seeing
returns-then-not-is_below-clause-exact c =
    let fails = seen_fails c.args.taken.now c.in_ok-subscriptions.subscriptions (λ all. true≢false (sym (c.is_below.ensures.1 (subst (IsSubset c.args.taken.now) (sym c.seen.ensures) all)) ∙ c.if-not-is_below.true)) in
    rw (c.in_ok-subscriptions.ensures.exact, fails) refl

pub returns-clause-exact : goal.returns-clause-exact
unfolding seeing
returns-clause-exact c =
    let passes = seen_passes c.args.taken.now c.in_ok-subscriptions.subscriptions (subst (IsSubset c.args.taken.now) c.seen.ensures (c.is_below.ensures.0 c.if-not-is_below.false)) in
    rw (c.in_ok-subscriptions.ensures.exact, passes) refl

pub returns-clause-seen : goal.returns-clause-seen
returns-clause-seen c = subst (IsSubset c.args.taken.now) c.seen.ensures (c.is_below.ensures.0 c.if-not-is_below.false)
