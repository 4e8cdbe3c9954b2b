use Rattle.std.proofs.Common.{ap, ◌∙◌}
use Rattle.std.specs.Prelude.{is_some}
use Rattle.door_packets.proofs.Marking.{added}
use Rattle.door_packets.proofs.marks.Marks.add.Goals as goal

pub returns : goal.returns
returns c = λ q. ap is_some (c.in_ok-insert.ensures.updates.0 q) ∙ added _ _
