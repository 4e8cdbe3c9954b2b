use Rattle.std.proofs.Common.{◌∷◌, [], true≢false, sym, ap, ◌∙◌, Some}
use Rattle.node_rows.proofs.Placing.{found_here, found_later}
use Rattle.node_rows.proofs.versions.value_at.Goals as goal

pub returns-then-is_at : goal.returns-then-is_at
returns-then-is_at c =
    ap Some c.deref.ensures.value
    ∙ found_here c.args.rows.now c.loop-row.row-index c.row-item.result (6, ([], c.args.place ∷ [])) c.loop-row-test.true c.row-item.is c.loop-row.invariant (c.is_at.ensures.0 c.if-is_at.true)

pub loop-row-preserved : goal.loop-row-preserved
loop-row-preserved c =
    found_later c.args.rows.now c.loop-row.row-index c.row-item.result (6, ([], c.args.place ∷ [])) c.loop-row-test.true c.row-item.is c.loop-row.invariant (λ same. true≢false (sym (c.is_at.ensures.1 same) ∙ c.if-is_at.false))
