use Rattle.law_sessions.proofs.RoomLaws.{keeps_left, keeps_room, keeps_waiting}
use Rattle.law_sessions.proofs.room.room_is_kept.Goals as goal

pub returns-clause-sent : goal.returns-clause-sent
returns-clause-sent c = keeps_room

pub returns-clause-left : goal.returns-clause-left
returns-clause-left c = keeps_left

pub returns-clause-waits : goal.returns-clause-waits
returns-clause-waits c = keeps_waiting
