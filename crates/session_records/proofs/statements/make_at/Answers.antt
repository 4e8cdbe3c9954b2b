use Rattle.std.proofs.Common.{subst}
use Rattle.std.specs.Result.{OnOk}
use Rattle.sqlite.specs.Held.{state}
use Rattle.session_records.specs.Connections.{GoesOn}
use Rattle.session_records.specs.Stored.{held}
use Rattle.session_records.proofs.Interleaving.{at_both, at_first}
use Rattle.session_records.proofs.statements.make_at.Goals as goal

pub returns-then-place-second-clause-goes : goal.returns-then-place-second-clause-goes
returns-then-place-second-clause-goes g c clean is =
    let old = state g.S.Store c.args.tx.now.conn.now in
    subst (λ d. OnOk c.make_pair.result (GoesOn old (state g.S.Store c.make_pair.new.tx.conn.now) d))
    (at_both (held old.now) c.args.first.now c.args.second.now c.args.place c.index-first-place.result c.index-second-place.result c.requires c.index-first-place.is c.if-place-second.true c.index-second-place.is)
    (c.make_pair.ensures.goes clean is)

pub returns-else-place-second-clause-goes : goal.returns-else-place-second-clause-goes
returns-else-place-second-clause-goes g c clean is =
    let old = state g.S.Store c.args.tx.now.conn.now in
    subst (λ d. OnOk c.make_change.result (GoesOn old (state g.S.Store c.make_change.new.tx.conn.now) d))
    (at_first (held old.now) c.args.first.now c.args.second.now c.args.place c.index-first-place.result c.requires c.index-first-place.is c.if-place-second.false)
    (c.make_change.ensures.goes clean is)
