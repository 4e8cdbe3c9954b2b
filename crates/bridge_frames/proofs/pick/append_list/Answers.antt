use Rattle.std.proofs.Common.{◌≡◌, ◌+◌, ◌<◌, length, take, ap, length-append, arith, rules}
use Rattle.std.specs.Prelude.{flat_map, vec_len, vec_capacity}
use Rattle.mqtt_message.proofs.RoomLaws.{on_err}
use Rattle.bridge_frames.specs.Forwards.{pick}
use Rattle.bridge_frames.proofs.ForwardLaws.{one_more}
use Rattle.bridge_frames.proofs.pick.append_list.Goals as goal

pub returns-in_err-append-clause-full : goal.returns-in_err-append-clause-full
returns-in_err-append-clause-full c =
    let old = c.args.out.now in
    let now = c.loop-pick.out in
    let inside : c.loop-pick.pick-index < length c.args.list.now = omega (arith, c.loop-pick-test.true) in
    let some = flat_map pick.bytes (take c.loop-pick.pick-index c.args.list.now) in
    let one : vec_capacity now < vec_len now + length (pick.bytes c.pick-item.result) = search rules in
    let all = one_more pick.bytes c.args.list.now c.loop-pick.pick-index c.pick-item.result inside c.pick-item.is in
    let before : vec_len old ≡ length old.items = omega (arith, old.ok.0) in
    let here : vec_len now ≡ length now.items = omega (arith, now.ok.0) in
    on_err c.from_residual.result (vec_capacity old < vec_len old + length (flat_map pick.bytes c.args.list.now))
    (omega (arith, all, one, before, here, ap length c.loop-pick.invariant.items, length-append old.items some, c.loop-pick.invariant.capacity))
