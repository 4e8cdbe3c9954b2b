use Rattle.std.proofs.Common.{[], IfOk, IsOk, subst}
use Rattle.bridge_routes.specs.Copies.{AreLive, IsFor}
use Rattle.bridge_routes.specs.Tables.{referents}
use Rattle.subscription_set.specs.Standing.{live}
use Rattle.bridge_routes.proofs.selected.found.Goals as goal

pub returns-clause-found : goal.returns-clause-found
returns-clause-found c = subst (λ m. IfOk c.matching.result (λ out. AreLive (IsFor m) (live c.args.subscriptions.now) (referents out.items))) c.message.ensures c.matching.ensures.selected

pub returns-clause-none : goal.returns-clause-none
returns-clause-none c = subst (λ m. AreLive (IsFor m) (live c.args.subscriptions.now) [] → IsOk c.matching.result) c.message.ensures c.matching.ensures.none
