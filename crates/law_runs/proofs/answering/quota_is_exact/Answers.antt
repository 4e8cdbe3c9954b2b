use Rattle.law_runs.proofs.RoomLaws.{quota_is_exact, passed_has_room, room_is_exact}
use Rattle.law_runs.proofs.answering.quota_is_exact.Goals as goal

pub returns-clause-quota : goal.returns-clause-quota
returns-clause-quota c = quota_is_exact

pub returns-clause-room : goal.returns-clause-room
returns-clause-room c = passed_has_room

pub returns-clause-exact : goal.returns-clause-exact
returns-clause-exact c = room_is_exact
