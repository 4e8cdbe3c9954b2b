use Rattle.std.proofs.Common.{sym, ap, subst, ◌∙◌, take, drop}
use Rattle.sqlite.specs.Held.{state}
use Rattle.session_records.specs.Connections.{GoesOn}
use Rattle.session_records.specs.Stored.{held}
use Rattle.session_records.proofs.Interleaving.{split_made}
use Rattle.session_records.proofs.statements.make_first.Goals as goal

pub returns-clause-goes : goal.returns-clause-goes
returns-clause-goes g c clean begun is =
    let old = state g.S.Store c.args.tx.now.conn.now in
    let changes = c.args.changes.now in
    let parts = c.split_at.ensures in
    subst (GoesOn old (state g.S.Store c.make_run.new.tx.conn.now))
    (split_made (held old.now) changes c.split_at.result.0.now c.split_at.result.1.now c.puts_in.result
    (parts.front ∙ ap (λ n. take n changes) (sym parts.front_len)) (parts.back ∙ ap (λ n. drop n changes) (sym parts.front_len)) c.puts_in.ensures.within)
    (c.in_ok-make_run.ensures.goes clean begun is)
