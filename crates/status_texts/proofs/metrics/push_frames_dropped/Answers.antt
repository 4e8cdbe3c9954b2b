use Rattle.status_texts.specs.Metrics.{with_frames_dropped}
use Rattle.status_texts.proofs.metrics.push_frames_dropped.Goals as goal

pub returns : goal.returns
unfolding with_frames_dropped
returns c = rw (c.in_ok-push_reason.ensures, c.in_ok-push_family.ensures) at c.push_reason-2.ensures
