use Rattle.bridge_frames.proofs.FrameLaws.{is_spelled, one_frame, read_again}
use Rattle.bridge_frames.proofs.laws.frames_are_read.Goals as goal

pub returns-clause-again : goal.returns-clause-again
returns-clause-again c = read_again

pub returns-clause-spelled : goal.returns-clause-spelled
returns-clause-spelled c = is_spelled

pub returns-clause-one : goal.returns-clause-one
returns-clause-one c = one_frame
