use Rattle.std.proofs.lemmas.Map.Iter.{rest_all}
use Rattle.row_store.proofs.Noting.{made_once, made_settled}
use Rattle.row_store.proofs.gathered.in_order.Goals as goal

pub returns-clause-once : goal.returns-clause-once
returns-clause-once c =
    made_once c.args.befores.entries c.args.lefts.entries c.loop-key.out.items c.loop-key.key-iterator (rest_all (λ e. e) _ _ _ c.in-None.is c.next.ensures.steps) c.into_iter-key-iterator.ensures.into_iter_gives.5 c.loop-key.invariant

pub returns-clause-settled : goal.returns-clause-settled
returns-clause-settled c =
    made_settled c.args.befores.entries c.args.lefts.entries c.loop-key.out.items c.loop-key.key-iterator (rest_all (λ e. e) _ _ _ c.in-None.is c.next.ensures.steps) c.into_iter-key-iterator.ensures.into_iter_gives.5 c.loop-key.invariant
