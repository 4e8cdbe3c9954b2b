use Rattle.std.proofs.Common.{refl, ap, ◌∙◌, length, arith}
use Rattle.std.specs.FinMap as map
use Rattle.subscription_set.proofs.Merges.{none_filed, not_filed, filed_more, same_filed, some_left}
use Rattle.subscription_set.proofs.set.copied.Goals as goal

pub loop-dot-init : goal.loop-dot-init
loop-dot-init c = none_filed (map.entries c.args.entries.now) c.into_iter-dot-iterator.result c.new-copy.result (c.into_iter-dot-iterator.ensures.into_iter_gives ∙ c.iter-dot-items.ensures) c.new-copy.ensures (map.entries_sorted c.args.entries.now)

pub add-requires : goal.add-requires
add-requires c = not_filed (map.entries c.args.entries.now) c.loop-dot.dot-iterator c.next.new.self c.in-Some.dot.now c.in-Some.entry.now c.loop-dot.copy c.in-Some.ensures.steps c.loop-dot.invariant

pub loop-dot-preserved : goal.loop-dot-preserved
loop-dot-preserved c = filed_more (map.entries c.args.entries.now) c.loop-dot.dot-iterator c.next.new.self c.in-Some.dot.now c.in-Some.entry.now c.loop-dot.copy c.in-Some.ensures.steps c.loop-dot.invariant c.add.new.self c.in_ok-entry.entry c.in_ok-entry.ensures c.in_ok-add.ensures.ok

pub returns-clause-same : goal.returns-clause-same
returns-clause-same c = same_filed (map.entries c.args.entries.now) c.loop-dot.dot-iterator c.loop-dot.copy c.args.entries.now c.in-None.ensures.steps.0 refl c.loop-dot.invariant

pub returns-in_err-entry-clause-none : goal.returns-in_err-entry-clause-none
returns-in_err-entry-clause-none c = λ none. absurd (omega (arith, ap length none, some_left (map.entries c.args.entries.now) c.loop-dot.dot-iterator c.next.new.self c.in-Some.dot.now c.in-Some.entry.now c.loop-dot.copy c.in-Some.ensures.steps c.loop-dot.invariant))

pub returns-in_err-add-clause-none : goal.returns-in_err-add-clause-none
returns-in_err-add-clause-none c = λ none. absurd (omega (arith, ap length none, some_left (map.entries c.args.entries.now) c.loop-dot.dot-iterator c.next.new.self c.in-Some.dot.now c.in-Some.entry.now c.loop-dot.copy c.in-Some.ensures.steps c.loop-dot.invariant))
