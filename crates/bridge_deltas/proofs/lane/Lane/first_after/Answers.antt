use Rattle.std.proofs.Common.{◌≡◌, ◌+◌, ◌-◌, ◌≤◌, min, length, refl, subst, arith}
use Rattle.std.proofs.lemmas.Grind.{common_steps}
use Rattle.bridge_lanes.specs.Changes.{KeptLane}
use Rattle.bridge_deltas.specs.More.{frames_after}
use Rattle.bridge_deltas.proofs.Framing.{later_frames}
use Rattle.bridge_deltas.proofs.lane.Lane.first_after.Goals as goal

pub returns-clause-frames : goal.returns-clause-frames
returns-clause-frames c =
    let l = c.self.inside in
    let passed = c.min-passed.result in
    let inside : l.gone ≤ length l.messages.items = c.self.invariant.0 in
    let is : passed ≡ min (c.args.after - (l.base + l.gone)) (length l.messages.items - l.gone) = first_of (omega (arith, c.min-passed.ensures, c.saturating_sub.ensures, c.len.ensures), grind (arith, common_steps)) in
    subst (λ (k : KeptLane). c.in_ok-out.out.items ≡ frames_after c.args.from c.args.to c.args.after k.lane) c.self.view_is
    (later_frames c.args.from c.args.to c.args.after l.base l.gone passed (l.gone + passed) (l.base + l.gone + passed) c.count_fitting-count.result l.took l.messages.items c.in_ok-out.out.items inside is refl refl c.count_fitting-count.ensures.count c.in_ok-out.ensures.frames)
