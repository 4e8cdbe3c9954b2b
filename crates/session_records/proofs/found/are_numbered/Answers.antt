use Rattle.std.proofs.Common.{rules, true≢false, sym, ◌∙◌}
use Rattle.session_records.proofs.Ids.{numbered_next}
use Rattle.session_records.proofs.found.are_numbered.Goals as goal

pub returns-then-not-is_above-clause-numbered : goal.returns-then-not-is_above-clause-numbered
returns-then-not-is_above-clause-numbered c all ids =
    let next = numbered_next c.args.rows.now c.loop-i.i c.index-rows-i.result c.index-rows-i-in-loop-i.result (search rules) (search rules) c.index-rows-i.is c.index-rows-i-in-loop-i.is all ids in
    absurd (true≢false (sym (c.is_above.ensures.ids next.low_id next.high_id next.less) ∙ c.if-not-is_above.true))
