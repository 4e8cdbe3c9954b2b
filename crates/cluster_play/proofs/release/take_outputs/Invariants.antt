use Rattle.std.proofs.Common.{◌≡◌, ◌++◌}
use Rattle.cluster_play.specs.Runs.{client_lines}
use Rattle.cluster_play.specs.Worlds.{frames_in}
use Rattle.cluster_play.proofs.release.take_outputs.Given as goal

abbrev pub invariant-loop-output : goal.invariant-loop-output
invariant-loop-output l = record { lines : l.lines.items ≡ l.fn.lines.items ++ client_lines l.node l.yielded; frames : l.frames.items ≡ l.fn.frames.items ++ frames_in l.yielded }
