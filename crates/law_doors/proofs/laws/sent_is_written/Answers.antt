use Rattle.law_doors.proofs.Tells.{sent_is_written}
use Rattle.law_doors.proofs.laws.sent_is_written.Goals as goal

pub returns : goal.returns
returns c = sent_is_written
