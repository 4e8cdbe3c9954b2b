use Rattle.law_doors.proofs.Refusing.{refusals_are_of_packets}
use Rattle.law_doors.proofs.laws.refusals_are_of_packets.Goals as goal

pub returns : goal.returns
returns c = refusals_are_of_packets
