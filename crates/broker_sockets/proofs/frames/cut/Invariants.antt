use Rattle.std.proofs.Common.{◌≡◌, ◌++◌, length}
use Rattle.broker_sockets.specs.Buffers.{joined}
use Rattle.broker_sockets.specs.Frames.{AreFrames, IsBegun}
use Rattle.broker_sockets.proofs.frames.cut.Given as goal

abbrev pub invariant-loop-rest : goal.invariant-loop-rest
invariant-loop-rest l =
    IsBegun l.held.items × AreFrames l.frames.items
    × (joined l.frames.items ++ l.held.items ++ l.rest ≡ l.fn.held.items ++ l.fn.piece)

abbrev pub decreases-loop-rest : goal.decreases-loop-rest
decreases-loop-rest l = length l.rest
