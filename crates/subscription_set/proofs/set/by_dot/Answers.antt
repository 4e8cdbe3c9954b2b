use Rattle.std.specs.Vec.Iter.{into_iter_items}
use Rattle.std.proofs.Common.{refl, arith}
use Rattle.subscription_set.proofs.Joins.{on_err}
use Rattle.subscription_set.proofs.Merges.{none_filed, not_filed, filed_more, all_filed, none_long, several}
use Rattle.subscription_set.proofs.set.by_dot.Goals as goal

pub loop-dot-init : goal.loop-dot-init
loop-dot-init c = none_filed c.args.entries.items (into_iter_items c.into_iter-dot-iterator.result) c.new-made.result c.into_iter-dot-iterator.ensures.into_iter_gives.0 c.new-made.ensures c.requires

pub add-requires : goal.add-requires
add-requires c = not_filed c.args.entries.items (into_iter_items c.loop-dot.dot-iterator) (into_iter_items c.next.new.self) c.in-Some.dot c.in-Some.entry c.loop-dot.made c.in-Some.ensures.steps.0 c.loop-dot.invariant

pub loop-dot-preserved : goal.loop-dot-preserved
loop-dot-preserved c = filed_more c.args.entries.items (into_iter_items c.loop-dot.dot-iterator) (into_iter_items c.next.new.self) c.in-Some.dot c.in-Some.entry c.loop-dot.made c.in-Some.ensures.steps.0 c.loop-dot.invariant c.add.new.self c.in-Some.entry refl c.in_ok-add.ensures.ok

pub returns-clause-made : goal.returns-clause-made
returns-clause-made c = all_filed c.args.entries.items (into_iter_items c.loop-dot.dot-iterator) c.loop-dot.made (none_long c.loop-dot.dot-iterator.rest.items (let h = c.in-None.ensures.steps in let k = c.loop-dot.dot-iterator.rest.ok in omega arith)) c.requires c.loop-dot.invariant

pub returns-in_err-add-clause-memory : goal.returns-in_err-add-clause-memory
returns-in_err-add-clause-memory c = on_err c.from_residual.result (several c.args.entries.items (into_iter_items c.loop-dot.dot-iterator) (into_iter_items c.next.new.self) c.in-Some.dot c.in-Some.entry c.loop-dot.made c.in-Some.ensures.steps.0 c.loop-dot.invariant
    (λ none. (let no = c.in_err-add.ensures.first none in cc)))
