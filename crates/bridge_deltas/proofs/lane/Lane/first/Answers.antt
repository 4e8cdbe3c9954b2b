use Rattle.std.proofs.Common.{◌≡◌, suc, ◌+◌, min, length, drop, subst, ap, ◌∙◌, arith}
use Rattle.std.proofs.Common.{length-drop}
use Rattle.std.proofs.lemmas.Grind.{common_steps}
use Rattle.bridge_lanes.specs.Changes.{KeptLane}
use Rattle.bridge_deltas.specs.Lane.{first_frames, frames_from}
use Rattle.bridge_deltas.proofs.Framing.{first_taken}
use Rattle.bridge_deltas.proofs.lane.Lane.first.Goals as goal

pub returns-clause-frames : goal.returns-clause-frames
returns-clause-frames c =
    let l = c.self.inside in
    let count : c.min-count.result ≡ min (length (drop l.gone l.messages.items)) 64 = first_of (omega (arith, length-drop l.gone l.messages.items, c.min-count.ensures, c.len.ensures), grind (arith, common_steps)) in
    subst (λ (k : KeptLane). c.in_ok-out.out.items ≡ first_frames c.args.from c.args.to k.lane) c.self.view_is
    (c.in_ok-out.ensures.frames ∙ ap (λ ms. frames_from c.args.from c.args.to (suc (l.base + l.gone)) ms) (first_taken 64 c.min-count.result (drop l.gone l.messages.items) count))
