use Rattle.std.proofs.Common.{◌≡◌, ◌++◌, length}
use Rattle.cluster_play.specs.Runs.{frame_lines}
use Rattle.cluster_play.proofs.release.number_frames.Given as goal

abbrev pub invariant-loop-frame : goal.invariant-loop-frame
invariant-loop-frame l = record { lines : l.lines.items ≡ l.fn.lines.items ++ frame_lines (length l.fn.frames.items) l.yielded; frames : l.frames.items ≡ l.fn.frames.items ++ l.yielded }
