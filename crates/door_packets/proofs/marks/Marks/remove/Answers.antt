use Rattle.std.proofs.Common.{ap, ◌∙◌}
use Rattle.std.specs.Prelude.{is_some}
use Rattle.door_packets.proofs.Marking.{removed}
use Rattle.door_packets.proofs.marks.Marks.remove.Goals as goal

pub returns : goal.returns
returns c = λ q. ap is_some (c.remove.ensures.updates.0 q) ∙ removed _ _
