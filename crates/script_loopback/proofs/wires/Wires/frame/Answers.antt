use Rattle.std.proofs.Common.{Ok, Err, refl}
use Rattle.script_loopback.specs.Network.{forth}
use Rattle.script_loopback.proofs.Joining.{carries-at, frames-by, handed, reached-within}
use Rattle.script_loopback.proofs.wires.Wires.frame.Goals as goal

pub returns-in_err-place : goal.returns-in_err-place
returns-in_err-place g c =
    frames-by g.S.Sockets.connects g.S.Sockets.accepts g.S.Sockets.reads g.S.Sockets.writes _ _ _ _ _ _ (Err c.in_err-place.field-0.0) (c.reach.new.sockets, c.reach.new.wires.items) _ _
    c.deref.ensures.value c.from-from.ensures c.in_err-place.ensures (handed c.from_residual.result _ c.from_residual.ensures.1, refl) refl refl

pub returns : goal.returns
returns g c =
    let there = reached-within g.S.Sockets.connects g.S.Sockets.accepts c.deref.result.now c.args.to c.from-from.result c.in_ok-place.place (c.args.sockets.now, c.args.self.now.links.items) (c.reach.new.sockets, c.reach.new.wires.items) c.index_mut.result.now c.in_ok-place.ensures in
    frames-by g.S.Sockets.connects g.S.Sockets.accepts g.S.Sockets.reads g.S.Sockets.writes _ _ _ _ _ _ (Ok c.in_ok-place.place) (c.reach.new.sockets, c.reach.new.wires.items) _ _
    c.deref.ensures.value c.from-from.ensures c.in_ok-place.ensures
    (carries-at g.S.Sockets.reads g.S.Sockets.writes forth c.in_ok-place.place c.args.bytes.now c.args.bytes.now _ _ _ _ c.index_mut.result.now
    (record { dialled = c.carry.new.near; accepted = c.carry.new.far }) _ there c.index_mut.ensures.value refl c.carry.ensures refl)
    refl refl
