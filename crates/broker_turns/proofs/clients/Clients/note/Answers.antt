use Rattle.std.proofs.Common.{◌∙◌, ap}
use Rattle.broker_turns.specs.Numbers.{is_among}
use Rattle.broker_turns.proofs.Naming.{among-last, named-pushed}
use Rattle.broker_turns.proofs.clients.Clients.note.Goals as goal

pub invariant_of-self : goal.invariant_of-self
invariant_of-self g c = record { named = named-pushed c.args.self.now.slab _ _ c.push.new.self.items c.args.key c.push.ensures.items c.args.self.now.named; minded = c.args.self.now.minded }

pub returns-in_ok-push-clause-named : goal.returns-in_ok-push-clause-named
returns-in_ok-push-clause-named g c there = ap (λ keys. is_among keys c.args.key) c.in_ok-push.ensures.items ∙ among-last _ c.args.key
