use Rattle.std.proofs.Common.{◌≡◌, ◌+◌, take, get_or, arith}
use Rattle.std.specs.Prelude.{sum}
use Rattle.std.proofs.Math.Nat.{mod-add-mod}
use Rattle.std.proofs.lemmas.List.Sums.{sum_by_more}
use Rattle.home_table.proofs.table.sum_place.Goals as goal

pub loop-b-preserved : goal.loop-b-preserved
loop-b-preserved c =
    let more : sum (take (c.loop-b.b-index + 1) c.args.identifier.now) ≡ sum (take c.loop-b.b-index c.args.identifier.now) + get_or c.args.identifier.now c.loop-b.b-index 0 =
    sum_by_more (λ b. b) c.args.identifier.now c.loop-b.b-index 0 c.loop-b-test.true in (
      rw (c.from-in-loop-b.ensures, c.from.ensures, c.loop-b.invariant.0, more) (mod-add-mod (sum (take c.loop-b.b-index c.args.identifier.now)) c.args.nodes (get_or c.args.identifier.now c.loop-b.b-index 0)),
      rw c.from-in-loop-b.ensures (omega arith),
    )
