use Rattle.std.proofs.Common.{[], refl, rules}
use Rattle.std.specs.Ordering.{is_lt}
use Rattle.std.proofs.lemmas.List.Sorted.{ranks_by, answers_always}
use Rattle.subscription_set.specs.Filing.{text_cmp}
use Rattle.bridge_routes.specs.Gathered.{client_of}
use Rattle.subscription_set.proofs.Spreading.{text_total, text_anti}
use Rattle.bridge_routes.proofs.InOrder.{sorted_shown, gathered_stable}
use Rattle.bridge_routes.proofs.gathered.sort_by_client.Goals as goal

pub returns-clause-order : goal.returns-clause-order
returns-clause-order c = sorted_shown text_total text_anti client_of _ (c.in_ok-sort_by.ensures.sorted (λ a b. is_lt (text_cmp a.now.client b.now.client)) (ranks_by text_total (λ r. r.now.client)) (answers_always _ _ _ (λ f a r g h. search rules)))

pub returns-clause-same : goal.returns-clause-same
returns-clause-same c = gathered_stable text_total text_anti client_of (λ q. (record { client = q; filter = []; options = 0; identifier = 0; version = 0 }, refl)) _ _ (c.in_ok-sort_by.ensures.stable (λ a b. is_lt (text_cmp a.now.client b.now.client)) (ranks_by text_total (λ r. r.now.client)) (answers_always _ _ _ (λ f a r g h. search rules)))
