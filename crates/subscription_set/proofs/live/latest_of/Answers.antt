use Rattle.std.proofs.Common.{◌++◌, ◌&&◌, map as map_list, sym, ap, ◌∙◌}
use Rattle.std.specs.FinMap as map
use Rattle.std.specs.List.{filter}
use Rattle.std.specs.Map.Iter.{deref_pair}
use Rattle.std.proofs.lemmas.List.{append-nil}
use Rattle.subscription_set.specs.Entries.{same_text}
use Rattle.subscription_set.specs.Standing.{Entries, is_latest}
use Rattle.subscription_set.proofs.Lists.{filter-filter}
use Rattle.subscription_set.proofs.Walking.{none_next}
use Rattle.subscription_set.proofs.live.latest_of.Goals as goal

pub returns-clause-latest : goal.returns-clause-latest
returns-clause-latest c =
    sym (append-nil (map_list deref_pair c.loop-dot.out.items))
    ∙ ap (λ (l : Entries). map_list deref_pair c.loop-dot.out.items ++ filter (λ x. same_text c.args.client.now x.1.client && is_latest (map.entries c.args.entries.now) x) l) (sym c.in-None.ensures.steps.0)
    ∙ c.loop-dot.invariant
    ∙ sym (filter-filter (λ x. same_text c.args.client.now x.1.client) (is_latest (map.entries c.args.entries.now)) (map.entries c.args.entries.now))

pub returns-in_err-push-clause-none : goal.returns-in_err-push-clause-none
returns-in_err-push-clause-none c = λ none. absurd (none_next (λ x. same_text c.args.client.now x.1.client && is_latest (map.entries c.args.entries.now) x) (c.in-Some.dot.now, c.in-Some.entry.now) (map_list deref_pair c.loop-dot.out.items) c.loop-dot.dot-iterator c.next.new.self (map.entries c.args.entries.now)
    c.in-Some.ensures.steps (sym c.is_live_of.ensures ∙ c.if-is_live_of.true) c.loop-dot.invariant (sym (filter-filter (λ x. same_text c.args.client.now x.1.client) (is_latest (map.entries c.args.entries.now)) (map.entries c.args.entries.now)) ∙ none))
