use Rattle.std.proofs.Common.{sym}
use Rattle.qos_handshakes.proofs.Owed.{none-there}
use Rattle.qos_handshakes.proofs.outgoing.Outgoing.entry_from.Goals as goal

pub returns-in_default-at : goal.returns-in_default-at
returns-in_default-at c = absurd (none-there c.args.place c.in-Some.found _ (sym c.in-Some.ensures) (sym c.in_default-at.ensures))
