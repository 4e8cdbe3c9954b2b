use Rattle.std.proofs.Common.{◌≡◌, drop}
use Rattle.status_tally.specs.Counting.{with_frames}
use Rattle.status_tally.proofs.count.count_frames.Given as goal

abbrev pub invariant-loop-frame : goal.invariant-loop-frame
invariant-loop-frame l = with_frames (drop l.frame-index l.frames) l.total ≡ with_frames l.frames l.fn.total
