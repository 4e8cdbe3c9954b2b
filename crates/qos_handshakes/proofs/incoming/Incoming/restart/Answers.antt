use Rattle.std.proofs.Common.{sym, ◌∙◌, ap}
use Rattle.qos_handshakes.proofs.Arrivals.{here-before}
use Rattle.qos_handshakes.specs.Incoming.{opened_here}
use Rattle.qos_handshakes.proofs.incoming.Incoming.restart.Goals as goal

pub invariant_of-self : goal.invariant_of-self
invariant_of-self c = sym (ap opened_here c.mark_of_before.ensures ∙ here-before c.self.inside.exchanges.entries)
