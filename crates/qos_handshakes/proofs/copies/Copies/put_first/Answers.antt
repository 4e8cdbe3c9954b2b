use Rattle.std.proofs.Common.{◌∙◌}
use Rattle.qos_handshakes.proofs.RestoringLaws.{padded-indexed, inserted-first, put-first, put-none}
use Rattle.qos_handshakes.proofs.copies.Copies.put_first.Goals as goal

pub invariant_of-self : goal.invariant_of-self
invariant_of-self c = padded-indexed _ _ _ c.self.invariant c.grow.ensures.padded c.grow.ensures.small

pub invariant_of-self-in_err-insert : goal.invariant_of-self-in_err-insert
invariant_of-self-in_err-insert c = rw c.in_err-insert.ensures.err (padded-indexed _ _ _ c.self.invariant c.grow.ensures.padded c.grow.ensures.small)

pub invariant_of-self-then-id-ne0 : goal.invariant_of-self-then-id-ne0
invariant_of-self-then-id-ne0 c =
    rw c.set.ensures (put-first c.self.inside.entries.entries _ _ c.id_of-id.result c.args.place c.args.entry (padded-indexed _ _ _ c.self.invariant c.grow.ensures.padded c.grow.ensures.small) c.requires.counted (rw (← c.self.view_is) at c.requires.free) c.id_of-id.ensures c.if-id-ne0.true c.in_ok-grow.ensures.long
    (c.in_ok-insert.ensures.entries ∙ inserted-first c.args.place c.args.entry _ (rw (← c.self.view_is) at c.requires.before)) c.insert.ensures.ordered)

pub invariant_of-self-else-id-ne0 : goal.invariant_of-self-else-id-ne0
invariant_of-self-else-id-ne0 c =
    put-none c.self.inside.entries.entries _ _ c.id_of-id.result c.args.place c.args.entry (padded-indexed _ _ _ c.self.invariant c.grow.ensures.padded c.grow.ensures.small) c.requires.counted (rw (← c.self.view_is) at c.requires.free) c.id_of-id.ensures c.if-id-ne0.false
    (c.in_ok-insert.ensures.entries ∙ inserted-first c.args.place c.args.entry _ (rw (← c.self.view_is) at c.requires.before)) c.insert.ensures.ordered

pub returns-then-id-ne0 : goal.returns-then-id-ne0
returns-then-id-ne0 c = rw (← c.self.view_is) (c.in_ok-insert.ensures.entries ∙ inserted-first c.args.place c.args.entry _ (rw (← c.self.view_is) at c.requires.before))
