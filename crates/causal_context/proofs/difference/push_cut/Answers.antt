use Rattle.std.proofs.Common.{◌≡◌, ◌+◌, arith, get_or, sym, subst, Result, Ok, Err, OnErr}
use Rattle.std.proofs.lemmas.List.{get_or_default}
use Rattle.causal_context.specs.declared.ranges.Range.{Range}
use Rattle.causal_context.specs.RangeSteps.{StartsAfter}
use Rattle.causal_context.proofs.RangeLemmas.{not_so, read_at, starts_after}
use Rattle.causal_context.proofs.Cutting.{IsCutting, skip_cut, cut_within, cut_past, no_more_cuts, left_of_cut, left_uncut}
use Rattle.causal_context.proofs.difference.push_cut.Goals as goal
use Rattle.causal_context.proofs.difference.push_cut.Goals.{then-not-ends_before+in_ok-push_some+else-cut-range, else-not-ends_before, then-loop-place-test+else-starts_by, else-loop-place-test}

abbrev zero_range : Range
zero_range = record { node = 0; first = 0; last = 0 }

pub returns-then-cut-range-clause-cut : goal.returns-then-cut-range-clause-cut
returns-then-cut-range-clause-cut c =
    let cuts = c.args.cuts.now in
    cut_past c.args.out.now.items c.args.range cuts c.requires.cuts c.requires.fine c.loop-place.place c.loop-place.first c.loop-place.out.items c.loop-place.invariant
    (get_or cuts c.loop-place.place zero_range) c.loop-place-test.true (read_at cuts c.loop-place.place zero_range c.loop-place-test.true)
    (c.starts_by.ensures.0 c.if-starts_by.true) (not_so c.ends_before.result c.ends_before.ensures c.if-not-ends_before.true) c.push_some.new.out.items c.in_ok-push_some.ensures.ok c.if-cut-range.true

pub loop-place-preserved : goal.loop-place-preserved
loop-place-preserved c =
    let cuts = c.args.cuts.now in
    let kept : (first : _) (out : _) → c.if-not-ends_before.first ≡ first → c.if-not-ends_before.out ≡ out → IsCutting c.args.out.now.items c.args.range cuts (c.loop-place.place + 1) first out.items
    → IsCutting c.args.out.now.items c.args.range cuts (c.loop-place.place + 1) c.if-not-ends_before.first c.if-not-ends_before.out.items =
    λ first out is is_out h. subst (λ n. IsCutting c.args.out.now.items c.args.range cuts (c.loop-place.place + 1) n c.if-not-ends_before.out.items) (sym is) (subst (λ v. IsCutting c.args.out.now.items c.args.range cuts (c.loop-place.place + 1) first v.items) (sym is_out) h) in
    elim c.if-not-ends_before.branch [
      | then-not-ends_before+in_ok-push_some+else-cut-range w ↦ kept _ _ w.first-is w.out-is
          (cut_within c.args.out.now.items c.args.range cuts c.requires.cuts c.requires.fine c.loop-place.place c.loop-place.first c.loop-place.out.items c.loop-place.invariant
          (get_or cuts c.loop-place.place zero_range) c.loop-place-test.true (read_at cuts c.loop-place.place zero_range c.loop-place-test.true)
          (c.starts_by.ensures.0 c.if-starts_by.true) (not_so c.ends_before.result c.ends_before.ensures w.if-not-ends_before.true) w.push_some.new.out.items w.in_ok-push_some.ensures.ok w.if-cut-range.false)
      | else-not-ends_before w ↦ kept _ _ w.first-is w.out-is
          (skip_cut c.args.out.now.items c.args.range cuts c.requires.cuts c.requires.fine c.loop-place.place c.loop-place.first c.loop-place.out.items c.loop-place.invariant
          (get_or cuts c.loop-place.place zero_range) c.loop-place-test.true (read_at cuts c.loop-place.place zero_range c.loop-place-test.true)
          (c.ends_before.ensures.0 w.if-not-ends_before.false))
    ]

pub returns-clause-cut : goal.returns-clause-cut
returns-clause-cut c =
    let cuts = c.args.cuts.now in
    let place = c.loop-place.place in
    no_more_cuts c.args.out.now.items c.args.range cuts c.requires.cuts c.requires.fine place c.loop-place.first c.loop-place.out.items c.loop-place.invariant c.push_some-2.new.out.items
    (λ e lt. elim c.loop-place-test.branch [
      | then-loop-place-test+else-starts_by w ↦ subst (StartsAfter (record { node = c.args.range.node; number = c.args.range.last })) (get_or_default cuts place zero_range e lt)
          (starts_after (record { node = c.args.range.node; number = c.args.range.last }) (get_or cuts place zero_range) (not_so w.starts_by.result w.starts_by.ensures w.if-starts_by.false))
      | else-loop-place-test w ↦ absurd (omega arith)
    ]) c.in_ok-push_some-2.ensures.ok

on_err : {A E : Type 0} {P : Type 0} (r : Result A E) → P → OnErr r P
on_err (Ok a) p = tt
on_err (Err e) p = p

pub returns-in_err-push_some-clause-memory : goal.returns-in_err-push_some-clause-memory
returns-in_err-push_some-clause-memory c =
    let cuts = c.args.cuts.now in
    on_err _ (left_of_cut c.args.out.now.items c.args.range cuts c.requires.cuts c.requires.fine c.loop-place.place c.loop-place.first c.loop-place.out.items c.loop-place.invariant
    (get_or cuts c.loop-place.place zero_range) c.loop-place-test.true (read_at cuts c.loop-place.place zero_range c.loop-place-test.true)
    (c.starts_by.ensures.0 c.if-starts_by.true) (not_so c.ends_before.result c.ends_before.ensures c.if-not-ends_before.true) c.in_err-push_some.ensures.memory)

pub returns-in_err-push_some-2-clause-memory : goal.returns-in_err-push_some-2-clause-memory
returns-in_err-push_some-2-clause-memory c =
    let cuts = c.args.cuts.now in
    let place = c.loop-place.place in
    on_err _ (left_uncut c.args.out.now.items c.args.range cuts c.requires.cuts c.requires.fine place c.loop-place.first c.loop-place.out.items c.loop-place.invariant c.args.range.last c.loop-place.invariant.to (omega arith)
    (λ e lt. elim c.loop-place-test.branch [
      | then-loop-place-test+else-starts_by w ↦ subst (StartsAfter (record { node = c.args.range.node; number = c.args.range.last })) (get_or_default cuts place zero_range e lt)
          (starts_after (record { node = c.args.range.node; number = c.args.range.last }) (get_or cuts place zero_range) (not_so w.starts_by.result w.starts_by.ensures w.if-starts_by.false))
      | else-loop-place-test w ↦ absurd (omega arith)
    ]))
