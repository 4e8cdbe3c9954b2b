use Rattle.std.proofs.Common.{ap, ◌∙◌, ◌||◌}
use Rattle.std.proofs.lemmas.Bool.{false≢true}
use Rattle.std.proofs.lemmas.List.{get_or_default}
use Rattle.std.specs.List.{list_any}
use Rattle.std.specs.Ordering.{eq_by_cmp}
use Rattle.causal_context.specs.Dots.{dot_cmp}
use Rattle.subscription_set.specs.Joining.{leaving_in}
use Rattle.subscription_set.specs.Standing.{Entries}
use Rattle.subscription_set.proofs.Joins.{leaving_none, leaving_more, leaving_all, leaving_nowhere}
use Rattle.subscription_set.proofs.plan.leaving.Goals as goal

pub loop-range-init : goal.loop-range-init
loop-range-init c = leaving_none c.args.entries.now c.args.other_seen.now c.args.others.now c.ranges-range-items.result.now c.new-out.result.items c.new-out.ensures.items

pub within-requires : goal.within-requires
within-requires c = c.ranges-range-items.ensures.ranges.sound.fine c.loop-range.range-index _ c.loop-range-test.true

pub loop-range-preserved : goal.loop-range-preserved
loop-range-preserved c =
    leaving_more c.args.entries.now c.args.other_seen.now c.args.others.now c.ranges-range-items.result.now c.loop-range.range-index _ c.loop-range-test.true
    (get_or_default c.ranges-range-items.result.now c.loop-range.range-index _ _ c.loop-range-test.true) c.loop-range.out.items c.add_leaving.new.out.items c.loop-range.invariant
    (λ q. c.in_ok-add_leaving.ensures.ok q ∙ ap (λ (es : Entries). list_any (eq_by_cmp dot_cmp q) c.loop-range.out.items || list_any (leaving_in c.args.other_seen.now c.args.others.now q) es) c.within.ensures)

pub returns-clause-leaving : goal.returns-clause-leaving
returns-clause-leaving c = leaving_all c.args.entries.now c.args.other_seen.now c.args.others.now c.ranges-range-items.result.now c.loop-range.range-index c.loop-range-test.false c.ranges-range-items.ensures.set c.loop-range.out.items c.loop-range.invariant

pub returns-in_err-add_leaving-clause-none : goal.returns-in_err-add_leaving-clause-none
returns-in_err-add_leaving-clause-none c = λ none. absurd (false≢true (c.in_err-add_leaving.ensures.none (λ q.
    ap (λ (es : Entries). list_any (eq_by_cmp dot_cmp q) c.loop-range.out.items || list_any (leaving_in c.args.other_seen.now c.args.others.now q) es) c.within.ensures
    ∙ leaving_nowhere c.args.entries.now c.args.other_seen.now c.args.others.now none c.ranges-range-items.result.now c.loop-range.range-index _ c.loop-range.out.items c.loop-range.invariant q)))
