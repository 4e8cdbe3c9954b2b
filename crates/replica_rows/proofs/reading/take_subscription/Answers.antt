use Rattle.std.proofs.Common.{inr}
use Rattle.row_store.specs.Rows.{entry_of}
use Rattle.replica_rows.proofs.Taking.{taken_once, taken_twice}
use Rattle.replica_rows.proofs.reading.take_subscription.Goals as goal

pub returns-then-is_some-clause-bad : goal.returns-then-is_some-clause-bad
returns-then-is_some-clause-bad c =
    inr (taken_twice (entry_of c.args.row.now) c.args.standing.now.entries (c.in_ok-dot.dot, c.in_ok-dot.entry) c.in_ok-insert.field-0 c.is_some.result c.in_ok-dot.ensures.found c.in_ok-insert.ensures.old c.is_some.ensures c.if-is_some.true)

pub returns-clause-ok : goal.returns-clause-ok
returns-clause-ok c =
    taken_once (entry_of c.args.row.now) c.args.standing.now.entries c.insert.new.self.entries (c.in_ok-dot.dot, c.in_ok-dot.entry) c.in_ok-insert.field-0 c.is_some.result c.in_ok-dot.ensures.found c.in_ok-insert.ensures.old c.is_some.ensures c.if-is_some.false c.in_ok-insert.ensures.updates.0
