use Rattle.node_rows.proofs.Kept.{dots_below}
use Rattle.node_rows.proofs.among.dots_among.Goals as goal

pub returns : goal.returns
returns c =
    let both = dots_below c.args.nodes c.ranges-2.result.now c.args.dots.now c.ranges-2.ensures.ranges c.ranges-2.ensures.set in
    (λ holds. both.0 (c.are_among.ensures.0 holds), λ among. c.are_among.ensures.1 (both.1 among))
