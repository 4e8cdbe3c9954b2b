use Rattle.std.proofs.Common.{true≢false, sym, ◌∙◌}
use Rattle.node_rows.proofs.Marks.{is_mark, other_mark}
use Rattle.node_rows.proofs.mark.named_at.Goals as goal

pub returns-then-is_of : goal.returns-then-is_of
returns-then-is_of c = is_mark c.args.value.now c.in_ok-version.version c.in_ok-version.node c.in_ok-version.named c.args.id c.are_bytes.ensures c.in_ok-version.ensures (c.is_of.ensures.0 c.if-is_of.true)

pub returns-else-is_of : goal.returns-else-is_of
returns-else-is_of c =
    other_mark c.args.value.now c.in_ok-version.version c.in_ok-version.node c.in_ok-version.named c.args.id c.ranges.id.fits c.in_ok-version.ensures (λ own. true≢false (sym (c.is_of.ensures.1 own) ∙ c.if-is_of.false))
