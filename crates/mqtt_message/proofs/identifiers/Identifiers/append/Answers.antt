use Rattle.std.proofs.Common.{ℕ, List, ◌<◌, ◌+◌, length, subst, ◌∙◌, arith}
use Rattle.std.specs.Prelude.{vec_len, vec_capacity}
use Rattle.mqtt_message.specs.Parts.{identifiers}
use Rattle.mqtt_message.proofs.RoomLaws.{on_err, no_room}
use Rattle.mqtt_message.proofs.identifiers.Identifiers.append.Goals as goal

pub returns-in_err-put_u32-clause-full : goal.returns-in_err-put_u32-clause-full
returns-in_err-put_u32-clause-full c =
    let old = c.args.out.now in
    let now = c.loop-n.out in
    let Full : List ℕ → Type 0 = λ ns. vec_capacity old < vec_len old + length (identifiers.bytes ns) in
    on_err c.from_residual-in_err-put_u32.result (Full c.args.self.now)
    (subst Full (c.deref-n-items.ensures.value ∙ c.self.view_is)
    (no_room c.deref-n-items.result.now c.loop-n.n-index old.items now.items (vec_len old) (vec_capacity old) (vec_len now) (vec_capacity now)
    (omega arith) c.loop-n.invariant.items old.ok.0 now.ok.0 c.loop-n.invariant.capacity c.in_err-put_u32.ensures.full))
