use Rattle.std.proofs.Common.{◌≡◌, replicate}
use Rattle.status_tally.specs.Links.{new_link}
use Rattle.status_tally.proofs.links.Links.new.Given as goal

abbrev pub invariant-loop : goal.invariant-loop
invariant-loop l = l.links.items ≡ replicate l.counter new_link
