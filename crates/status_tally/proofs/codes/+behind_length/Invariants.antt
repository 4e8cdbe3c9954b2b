use Rattle.std.proofs.Common.{length}
use Rattle.status_tally.proofs.codes.+behind_length.Given as goal

abbrev pub decreases-behind_length : goal.decreases-behind_length
decreases-behind_length l = length l.bytes.now
