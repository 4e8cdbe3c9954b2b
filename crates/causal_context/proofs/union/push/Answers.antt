use Rattle.std.proofs.Common.{◌-◌, arith, refl, subst, sym}
use Rattle.causal_context.specs.Ranges.{IsApart}
use Rattle.causal_context.specs.RangeSteps.{StartsUpTo}
use Rattle.causal_context.proofs.RangeLemmas.{pushed, all_apart, extended}
use Rattle.causal_context.proofs.union.push.Goals as goal
use Rattle.causal_context.proofs.union.push.Goals.{then-last-range-via-then-last-range, then-last-range-via-else-last-range+then-last-range-2}

pub returns-then-last-range : goal.returns-then-last-range
returns-then-last-range c =
    let start = subst (λ x. StartsUpTo x c.args.range) (sym c.index-last.ensures) (c.requires.after (c.len-count.result - 1) c.index-last.result.now (omega arith)) in
    let apart : IsApart c.index-last.result.now c.args.range = elim c.then-last-range.branch [
      | then-last-range-via-then-last-range w ↦ record { nodes = omega arith; numbers = λ e. omega arith }
      | then-last-range-via-else-last-range+then-last-range-2 w ↦ record { nodes = omega (arith, start.nodes); numbers = λ e. omega arith }
    ] in
    record {
      ok = rw c.in_ok-push-2.ensures.items (pushed c.args.out.now.items c.args.range c.requires.sound c.requires.fine c.requires.after
          (all_apart c.args.out.now.items (c.len-count.result - 1) c.index-last.result.now c.args.range c.requires.sound (omega arith) c.index-last.ensures apart));
    }

pub returns : goal.returns
returns c = record { ok = extended c.args.out.now.items (c.len-count.result - 1) c.index-last.result.now c.args.range _ c.requires.sound c.requires.fine c.requires.after (omega arith) c.index-last.ensures (omega arith) (omega arith) (omega arith) refl }
