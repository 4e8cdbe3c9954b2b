use Rattle.bridge_lanes.specs.Reading.{IsLane, lane_in}
use Rattle.bridge_deltas.proofs.Telling.{all_unmapped}
use Rattle.bridge_deltas.proofs.links.opened.Goals as goal

pub lanes_of-requires : goal.lanes_of-requires
lanes_of-requires c = all_unmapped IsLane lane_in c.args.read.items c.requires.sound
