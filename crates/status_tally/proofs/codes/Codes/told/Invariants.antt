use Rattle.std.proofs.Common.{◌≡◌}
use Rattle.status_tally.specs.Codes.{told_below}
use Rattle.status_tally.proofs.codes.Codes.told.Given as goal

abbrev pub invariant-loop-code : goal.invariant-loop-code
invariant-loop-code l = l.told.items ≡ told_below l.code l.self
