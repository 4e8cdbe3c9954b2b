use Rattle.law_doors.proofs.Asks.{others_ask_for_themselves, sessions_are_asked_for, sessions_are_bounded}
use Rattle.law_doors.proofs.laws.sessions_are_asked_for.Goals as goal

pub returns : goal.returns
returns c = record { asked = sessions_are_asked_for; bounded = sessions_are_bounded; others = others_ask_for_themselves }
