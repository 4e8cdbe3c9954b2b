use Rattle.std.proofs.Common.{sym}
use Rattle.broker_turns.proofs.Naming.{minded_same}
use Rattle.broker_turns.proofs.clients.Clients.send.Goals as goal

pub invariant_of-self-clause-minded : goal.invariant_of-self-clause-minded
invariant_of-self-clause-minded g c =
    minded_same c.note.new.self.slab c.args.key c.in-Some.client.now c.send.new.self c.note.new.self.minded (sym c.in-Some.ensures.value) c.send.ensures.told
