use Rattle.law_runs.proofs.RoomTold.{room_is_told}
use Rattle.law_runs.proofs.connecting.room_is_told.Goals as goal

pub returns : goal.returns
returns c = room_is_told
