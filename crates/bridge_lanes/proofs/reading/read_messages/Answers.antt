use Rattle.std.proofs.Common.{suc, ◌+◌, List, map}
use Rattle.std.proofs.lemmas.Result.{err_from_is_err_and}
use Rattle.bridge_frames.specs.declared.forward.Forward.{Forward}
use Rattle.row_store.specs.Rows.{entry_of}
use Rattle.bridge_lanes.specs.Reading.{AreMessages, IsMessage}
use Rattle.bridge_lanes.proofs.Lanes.{handed, next_read, none_at}
use Rattle.bridge_lanes.proofs.reading.read_messages.Goals as goal

pub returns-in_err-message-clause-finds : goal.returns-in_err-message-clause-finds
returns-in_err-message-clause-finds c =
    let p = err_from_is_err_and c.from_residual.result c.from_residual.ensures.1 in
    handed {Y = Forward} (λ ms. ms.items) (λ m. m) (AreMessages c.args.peer (suc c.args.base) (map entry_of c.args.rows.now)) (IsMessage c.args.peer (c.args.base + c.loop-i.i + 1) (entry_of c.index-rows-i.result)) c.from_residual.result c.in_err-message.field-0.0 p.0 p.1 p.2
    (none_at c.args.peer c.args.base c.loop-i.i c.args.rows.now c.index-rows-i.result c.loop-i-test.true c.index-rows-i.is) c.in_err-message.ensures.finds

pub loop-i-preserved : goal.loop-i-preserved
loop-i-preserved c =
    next_read c.args.peer c.args.base c.loop-i.i c.args.rows.now c.index-rows-i.result c.loop-i.messages.items c.push_back.new.self.items c.in_ok-message.message c.loop-i-test.true c.index-rows-i.is c.loop-i.invariant c.in_ok-message.ensures.finds c.in_ok-push_back.ensures.items
