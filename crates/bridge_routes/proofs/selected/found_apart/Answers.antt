use Rattle.std.proofs.Common.{[], IfOk, IsOk, subst}
use Rattle.subscription_set.specs.Members.{AreInTurn}
use Rattle.subscription_set.specs.Standing.{live}
use Rattle.bridge_routes.specs.Copies.{AreLive, IsFor, IsPlainFor, entries_in}
use Rattle.bridge_routes.specs.Tables.{referents}
use Rattle.bridge_routes.proofs.selected.found_apart.Goals as goal

pub returns-clause-plain : goal.returns-clause-plain
returns-clause-plain c = subst (λ m. IfOk c.matching_apart.result (λ out. AreLive (IsPlainFor m) (live c.args.subscriptions.now) (referents out.plain.items))) c.message.ensures c.matching_apart.ensures.plain

pub returns-clause-in_turn : goal.returns-clause-in_turn
returns-clause-in_turn c = subst (λ m. IfOk c.matching_apart.result (λ out. AreInTurn c.args.turn m.topic (entries_in (live c.args.subscriptions.now)) (referents out.in_turn.items))) c.message.ensures c.matching_apart.ensures.in_turn

pub returns-clause-none : goal.returns-clause-none
returns-clause-none c = subst (λ m. AreLive (IsFor m) (live c.args.subscriptions.now) [] → IsOk c.matching_apart.result) c.message.ensures c.matching_apart.ensures.none
