use Rattle.std.proofs.Common.{◌≡◌, replicate}
use Rattle.status_tally.proofs.codes.Codes.new.Given as goal

abbrev pub invariant-loop : goal.invariant-loop
invariant-loop l = l.counts.items ≡ replicate l.counter 0
