use Rattle.std.proofs.Common.{arith, ◌≡◌, ap, subst, ◌∙◌, Result, Ok, Err, OnOk}
use Rattle.sqlite.specs.declared.error.Error.{Error}
use Rattle.sqlite.specs.Held.{state}
use Rattle.sqlite.specs.State.{State, HasCleanDisk}
use Rattle.row_store.specs.Rows.{Content, after_all}
use Rattle.session_records.specs.Connections.{GoesOn, IsBegun}
use Rattle.session_records.specs.Stored.{held}
use Rattle.session_records.proofs.Effects.{goes_then}
use Rattle.session_records.proofs.Interleaving.{some_before}
use Rattle.session_records.proofs.statements.make_run.Goals as goal

goes_on : {T : Type 0} (a b c : State) (x y z : Content) (r : Result T Error) → GoesOn a b x → y ≡ z → OnOk r (GoesOn b c y) → OnOk r (GoesOn a c z)
goes_on a b c x y z (Ok v) one same two = subst (GoesOn a c) same (goes_then a b c x y one two)
goes_on a b c x y z (Err e) one same two = tt

pub returns-clause-goes : goal.returns-clause-goes
returns-clause-goes g c clean begun is =
    let old = state g.S.Store c.args.tx.now.conn.now in
    let mid = state g.S.Store c.make_both.new.tx.conn.now in
    let new = state g.S.Store c.make_both-2.new.tx.conn.now in
    let first = c.args.first.now in
    let alone = c.split_at.result.0.now in
    let paired = c.split_at.result.1.now in
    let before : HasCleanDisk mid = omega (arith, c.make_both-2.ensures.survives.clean) in
    let until = c.in_ok-make_both.ensures.goes before begun is in
    let still : IsBegun mid = record { is_open = until.shown.is_open; mode = until.shown.mode } in
    goes_on old mid new (after_all (held old.now) alone) (after_all (after_all (held mid.now) first) paired) _ c.make_both-2.result until
    (ap (λ d. after_all (after_all d first) paired) until.holds ∙ some_before (held old.now) first c.args.second.now alone paired _ c.requires c.split_at.ensures.front c.split_at.ensures.back)
    (c.make_both-2.ensures.goes clean still until.formed)
