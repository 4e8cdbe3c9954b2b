use Rattle.std.proofs.Common.{length}
use Rattle.door_bounds.proofs.resident.+behind_space.Given as goal

abbrev pub decreases-behind_space : goal.decreases-behind_space
decreases-behind_space l = length l.text.now
