use Rattle.std.proofs.Common.{arith}
use Rattle.std.specs.Prelude.{vec_capacity, vec_len}
use Rattle.mqtt_message.proofs.RoomLaws.{on_err}
use Rattle.session_rows.proofs.RiseLaws.{rise-length}
use Rattle.session_rows.proofs.WrittenLaws.{no_room}
use Rattle.session_rows.proofs.field.put_identifiers.Goals as goal

pub overflow_cast-ids : goal.overflow_cast-ids
overflow_cast-ids c = omega (arith, rise-length c.args.ids.now c.requires)

pub returns-in_err-put_u16-clause-full : goal.returns-in_err-put_u16-clause-full
returns-in_err-put_u16-clause-full c =
    let old = c.args.out.now in
    let now = c.loop-id.out in
    on_err c.from_residual-in_err-put_u16.result _
    (no_room c.args.ids.now c.loop-id.id-index old.items now.items (vec_len old) (vec_capacity old) (vec_len now) (vec_capacity now)
    (omega arith) c.loop-id.invariant.items old.ok.0 now.ok.0 c.loop-id.invariant.capacity c.in_err-put_u16.ensures.full)
