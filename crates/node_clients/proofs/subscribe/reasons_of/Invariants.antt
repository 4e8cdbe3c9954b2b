use Rattle.std.proofs.Common.{◌≡◌, take, map}
use Rattle.node_clients.proofs.subscribe.reasons_of.Given as goal

abbrev pub invariant-loop-each : goal.invariant-loop-each
invariant-loop-each l = l.reasons.items ≡ map (λ g. g.reason) (take l.each-index l.grants)
