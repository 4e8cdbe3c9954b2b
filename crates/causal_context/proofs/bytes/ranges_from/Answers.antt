use Rattle.std.proofs.Common.{arith, refl, sym, ◌∙◌, inl, inr}
use Rattle.std.proofs.lemmas.Result.{err_from_is_err_and}
use Rattle.causal_context.proofs.SpellingLaws.{none_read, one_read, read_fails_so, read_malformed, all_read, first_read}
use Rattle.causal_context.proofs.bytes.ranges_from.Goals as goal

pub loop-init : goal.loop-init
loop-init c = record { read = rw c.new-ranges.ensures.items (none_read c.args.count c.args.bytes.now); began = inl (refl, refl) }

pub loop-preserved : goal.loop-preserved
loop-preserved c = record {
  read = rw c.in_ok-push.ensures.items (one_read c.args.count c.args.bytes.now c.loop.counter c.loop.ranges.items c.loop.before c.loop.rest.now c.loop-test.true c.loop.invariant.read
      c.in_ok-range.range c.in_ok-range.after.now c.in_ok-range.ensures.exact (sym c.may_come_next.ensures ∙ c.if-not-may_come_next.false));
  began = inr (first_read c.args.count c.args.bytes.now c.loop.before c.loop.rest.now c.loop.invariant.began (omega (arith, c.loop-test.true)) c.in_ok-range.range c.in_ok-range.after.now c.in_ok-range.ensures.exact (sym c.may_come_next.ensures ∙ c.if-not-may_come_next.false));
}

pub returns-in_err-range-clause-exact : goal.returns-in_err-range-clause-exact
returns-in_err-range-clause-exact c = let p = err_from_is_err_and c.from_residual.result c.from_residual.ensures.1 in
    rw (p.1, p.2) (read_fails_so c.args.count c.args.bytes.now c.loop.counter c.loop.ranges.items c.loop.before c.loop.rest.now c.loop-test.true c.loop.invariant.read c.in_err-range.field-0.0 c.in_err-range.ensures.exact)

pub returns-then-not-may_come_next-clause-exact : goal.returns-then-not-may_come_next-clause-exact
returns-then-not-may_come_next-clause-exact c =
    read_malformed c.args.count c.args.bytes.now c.loop.counter c.loop.ranges.items c.loop.before c.loop.rest.now c.loop-test.true c.loop.invariant.read
    c.in_ok-range.range c.in_ok-range.after.now c.in_ok-range.ensures.exact (sym c.may_come_next.ensures ∙ c.if-not-may_come_next.true)

pub returns-clause-exact : goal.returns-clause-exact
returns-clause-exact c = all_read c.args.count c.args.bytes.now c.loop.counter c.loop.ranges.items c.loop.before c.loop.rest.now (omega arith) c.loop.invariant.read

pub returns-in_err-push-clause-no_memory : goal.returns-in_err-push-clause-no_memory
returns-in_err-push-clause-no_memory c =
    let first = first_read c.args.count c.args.bytes.now c.loop.before c.loop.rest.now c.loop.invariant.began (omega (arith, c.loop-test.true)) c.in_ok-range.range c.in_ok-range.after.now c.in_ok-range.ensures.exact (sym c.may_come_next.ensures ∙ c.if-not-may_come_next.false) in
    λ _. first
