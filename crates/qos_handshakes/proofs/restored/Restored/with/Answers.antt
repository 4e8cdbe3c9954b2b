use Rattle.std.proofs.Common.{arith}
use Rattle.qos_handshakes.proofs.RestoringLaws.{parts, released-order, free-stage, putting-waiting, putting-published, putting-released}
use Rattle.qos_handshakes.proofs.restored.Restored.with.Goals as goal

pub put_first-requires-clause-free : goal.put_first-requires-clause-free
put_first-requires-clause-free c =
    let p = rw (← c.self.view_is) at c.requires in free-stage c.self.inside.next_place c.args.place c.self.inside.copies.entries c.args.entry.stage (parts c.self.inside.next_place c.args.place c.args.entry c.self.inside.copies.entries p).stage

pub invariant_of-result : goal.invariant_of-result
invariant_of-result c = rw c.in_ok-put_first.ensures (putting-waiting _ _ _ _ _ _ _ _ c.args.entry c.self.invariant (rw (← c.self.view_is) at c.requires) c.in-Waiting.is)

pub invariant_of-result-in-Published : goal.invariant_of-result-in-Published
invariant_of-result-in-Published c = rw c.in_ok-put_first.ensures (putting-published _ _ _ _ _ _ _ _ _ c.args.entry c.self.invariant (rw (← c.self.view_is) at c.requires) c.in-Published.is)

pub overflow_add-order : goal.overflow_add-order
overflow_add-order c = omega (arith, released-order c.self.inside.next_place c.args.place c.in-Released.id c.in-Released.order c.args.entry c.self.inside.copies.entries (rw (← c.self.view_is) at c.requires) c.in-Released.is)

pub invariant_of-result-in-Released : goal.invariant_of-result-in-Released
invariant_of-result-in-Released c = rw c.in_ok-put_first.ensures (putting-released _ _ _ _ _ _ _ _ _ _ _ _ c.args.entry c.self.invariant (rw (← c.self.view_is) at c.requires) c.in-Released.is c.in_ok-insert-in-Released.ensures.updates.0 c.max.ensures)
