use Rattle.std.proofs.lemmas.Result.{err_from_is_err_and}
use Rattle.sqlite.specs.Held.{state}
use Rattle.session_records.proofs.Means.{numbered_text, numbered_plain}
use Rattle.session_records.proofs.Causes.{numbered_excused}
use Rattle.session_records.proofs.Loads.{plain_text, numbered_typed}
use Rattle.session_records.proofs.Orders.{shown_numbered}
use Rattle.session_records.proofs.statements.has_form.Goals as goal

pub returns-clause-typed : goal.returns-clause-typed
returns-clause-typed g c clean has =
    let old = state g.S.Store c.args.conn.now in
    let new = state g.S.Store c.ask.new.conn in
    let shown = c.in_ok-found.ensures.shown clean in
    (λ h. numbered_typed old new c.in_ok-found.found.items has shown (rw c.deref.ensures.value at (c.are_rows.ensures.0 h)), λ typed. c.are_rows.ensures.1 (rw c.deref.ensures.value (shown_numbered old new c.in_ok-found.found.items has shown typed)))

pub returns-clause-same : goal.returns-clause-same
returns-clause-same g c clean has = c.in_ok-found.ensures.same clean (plain_text numbered_text (state g.S.Store c.args.conn.now) has numbered_plain)

pub returns-clause-stays : goal.returns-clause-stays
returns-clause-stays g c clean has = c.ask.ensures.stays clean (plain_text numbered_text (state g.S.Store c.args.conn.now) has numbered_plain)

pub returns-clause-survives : goal.returns-clause-survives
returns-clause-survives g c has = c.ask.ensures.survives (plain_text numbered_text (state g.S.Store c.args.conn.now) has numbered_plain)

pub returns-in_err-found-clause-stays : goal.returns-in_err-found-clause-stays
returns-in_err-found-clause-stays g c clean has = c.ask.ensures.stays clean (plain_text numbered_text (state g.S.Store c.args.conn.now) has numbered_plain)

pub returns-in_err-found-clause-survives : goal.returns-in_err-found-clause-survives
returns-in_err-found-clause-survives g c has = c.ask.ensures.survives (plain_text numbered_text (state g.S.Store c.args.conn.now) has numbered_plain)

pub returns-in_err-found-clause-cause : goal.returns-in_err-found-clause-cause
returns-in_err-found-clause-cause g c clean has free =
    let p = err_from_is_err_and c.from_residual.result c.from_residual.ensures.1 in
    rw (p.1, p.2) (numbered_excused (state g.S.Store c.args.conn.now) (state g.S.Store c.ask.new.conn) c.in_err-found.field-0.0 has free (c.in_err-found.ensures.fails clean))
