use Rattle.law_doors.proofs.Ordered.{held_back_in_order, room_is_used}
use Rattle.law_doors.proofs.laws.held_back_comes_in_order.Goals as goal

pub returns : goal.returns
returns c = record { order = held_back_in_order; room = room_is_used }
