use Rattle.std.proofs.Common.{◌∙◌}
use Rattle.session_rows.proofs.ToldLaws.{rows-made}
use Rattle.session_rows.proofs.told.rows.Goals as goal

pub returns : goal.returns
returns c =
    rows-made c.args.client.now c.args.value.now c.args.outgoing.now.box.copies _ c.new-rows.result.items _ _ c.in_ok-own_row.field-0 c.new-rows.ensures.items c.in_ok-push.ensures.items c.in_ok-own_row.ensures.row (c.deref.ensures.value ∙ c.in_ok-places.ensures.all) c.are_placed.ensures.rise c.in_ok-push_rows.ensures
