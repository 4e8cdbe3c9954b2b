use Rattle.broker_turns.specs.Bridging.{HearsAll, near}
use Rattle.broker_turns.proofs.links.hear_all.Given as goal

abbrev pub invariant-loop-bytes : goal.invariant-loop-bytes
invariant-loop-bytes g l =
    HearsAll g.H.BridgeHandler.hears l.at l.yielded (near l.initial.handler l.initial.clients.slab l.initial.links) (near l.handler l.clients.slab l.links)
