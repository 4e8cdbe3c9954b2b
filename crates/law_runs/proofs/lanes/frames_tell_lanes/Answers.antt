use Rattle.law_runs.proofs.LaneLaws.{forward_frames, got_frames}
use Rattle.law_runs.proofs.lanes.frames_tell_lanes.Goals as goal

pub returns : goal.returns
returns c = record { forward = forward_frames; got = got_frames }
