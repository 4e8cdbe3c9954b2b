use Rattle.law_sessions.proofs.RoomLaws.{keeps_untold}
use Rattle.law_sessions.proofs.room.untold_room_is_not_counted.Goals as goal

pub returns : goal.returns
returns c = keeps_untold
