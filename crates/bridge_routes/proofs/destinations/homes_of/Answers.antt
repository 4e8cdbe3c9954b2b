use Rattle.std.proofs.Common.{ℕ, List, subst}
use Rattle.std.proofs.lemmas.List.{take_all}
use Rattle.home_table.specs.Homes.{IsHome}
use Rattle.bridge_routes.specs.Routes.{IsHomeOf, Pairwise}
use Rattle.bridge_routes.proofs.Pairs.{pairs_referred, pairs_step}
use Rattle.bridge_routes.proofs.destinations.homes_of.Goals as goal

pub loop-entry-preserved : goal.loop-entry-preserved
loop-entry-preserved c =
    let Is : List ℕ → Type 0 = λ x. IsHome c.args.table.now x c.home_of.result in
    let has = subst Is c.client.ensures (subst Is c.as_str.ensures.same c.home_of.ensures.home) in
    pairs_step (λ r home. IsHomeOf c.args.table.now r.now home) c.args.matching.now c.loop-entry.entry-index c.entry-item.result c.loop-entry.homes.items c.push.new.self.items c.home_of.result
    c.loop-entry-test.true c.entry-item.is c.in_ok-push.ensures.items has c.loop-entry.invariant

pub returns-clause-homes : goal.returns-clause-homes
returns-clause-homes c =
    let all = subst (λ rs. Pairwise (λ r home. IsHomeOf c.args.table.now r.now home) rs c.loop-entry.homes.items) (take_all c.loop-entry.entry-index c.args.matching.now c.loop-entry-test.false) c.loop-entry.invariant in
    pairs_referred (IsHomeOf c.args.table.now) c.args.matching.now c.loop-entry.homes.items all
