use Rattle.std.proofs.Common.{suc, ◌-◌, map, length, true≢false, sym, ◌∙◌}
use Rattle.std.specs.declared.alloc.Global.{Global}
use Rattle.std.specs.declared.collections.VecDeque.{VecDeque}
use Rattle.std.proofs.lemmas.Result.{err_from_is_err_and}
use Rattle.bridge_frames.specs.declared.forward.Forward.{Forward}
use Rattle.row_store.specs.Rows.{entry_of}
use Rattle.bridge_lanes.specs.Reading.{AreMessages, IsLaneOf, lane_in}
use Rattle.bridge_lanes.proofs.Lanes.{cannot_be, counted_rows, handed, lane_is, no_messages, no_numbers}
use Rattle.bridge_lanes.proofs.reading.read_lane.Goals as goal

pub returns-in_default-clause-finds : goal.returns-in_default-clause-finds
returns-in_default-clause-finds c = no_numbers c.args.peer (map entry_of c.args.messages.now) (map entry_of c.args.numbers.now) c.in_default.ensures

pub returns-then-not-can_be-clause-finds : goal.returns-then-not-can_be-clause-finds
returns-then-not-can_be-clause-finds c =
    cannot_be c.args.peer (map entry_of c.args.messages.now) (map entry_of c.args.numbers.now) (length c.args.messages.now) c.in-Some.last_put c.in-Some.took (counted_rows c.args.messages.now) c.in-Some.ensures
    (λ can. true≢false (sym (c.can_be.ensures.1 can) ∙ c.if-not-can_be.true))

pub returns-in_err-messages-clause-finds : goal.returns-in_err-messages-clause-finds
returns-in_err-messages-clause-finds c =
    let p = err_from_is_err_and c.from_residual.result c.from_residual.ensures.1 in
    handed {Y = VecDeque Forward Global} lane_in (λ ms. ms.items) (IsLaneOf c.args.peer (map entry_of c.args.messages.now) (map entry_of c.args.numbers.now)) (AreMessages c.args.peer (suc (c.in-Some.last_put - length c.args.messages.now)) (map entry_of c.args.messages.now)) c.from_residual.result c.in_err-messages.field-0.0 p.0 p.1 p.2
    (no_messages c.args.peer (map entry_of c.args.messages.now) (map entry_of c.args.numbers.now) (length c.args.messages.now) c.in-Some.last_put c.in-Some.took (counted_rows c.args.messages.now) c.in-Some.ensures) c.in_err-messages.ensures.finds

pub returns-clause-finds : goal.returns-clause-finds
returns-clause-finds c =
    lane_is c.args.peer (map entry_of c.args.messages.now) (map entry_of c.args.numbers.now) (length c.args.messages.now) c.in-Some.last_put c.in-Some.took (counted_rows c.args.messages.now) c.in-Some.ensures
    c.in_ok-messages.messages.items (c.can_be.ensures.0 c.if-not-can_be.false) c.in_ok-messages.ensures.finds
