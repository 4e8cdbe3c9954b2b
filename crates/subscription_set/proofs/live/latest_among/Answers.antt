use Rattle.std.proofs.Common.{map as map_list, sym, ◌∙◌}
use Rattle.std.specs.FinMap as map
use Rattle.std.specs.Map.Iter.{deref_pair}
use Rattle.subscription_set.specs.Standing.{is_latest}
use Rattle.subscription_set.proofs.Walking.{none_next}
use Rattle.subscription_set.proofs.live.latest_among.Goals as goal

pub returns-in_err-push-clause-none : goal.returns-in_err-push-clause-none
returns-in_err-push-clause-none c = λ none. absurd (none_next (is_latest (map.entries c.args.entries.now)) (c.in-Some.dot.now, c.in-Some.entry.now) (map_list deref_pair c.loop-dot.out.items) c.loop-dot.dot-iterator c.next.new.self (map.entries c.args.entries.now)
    c.in-Some.ensures.steps (sym c.is_the_latest.ensures ∙ c.if-is_the_latest.true) c.loop-dot.invariant none)
