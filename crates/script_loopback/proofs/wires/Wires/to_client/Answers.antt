use Rattle.std.proofs.Common.{◌≡◌, ◌∙◌, ap, position, Some, refl, sym}
use Rattle.std.proofs.lemmas.List.Quantifiers.{position-Some}
use Rattle.script_loopback.specs.Network.{back, is_at}
use Rattle.script_loopback.proofs.Joining.{carries-at, gives-at}
use Rattle.script_loopback.proofs.wires.Wires.to_client.Goals as goal

pub returns : goal.returns
returns g c =
    let found : position (is_at c.args.node c.args.connection) c.args.self.now.clients.items ≡ Some c.in-Some.place = cc (c.in-Some.ensures, c.deref.ensures.value) in
    let there = position-Some (is_at c.args.node c.args.connection) c.args.self.now.clients.items c.in-Some.place c.index_mut.result.now found in
    gives-at g.S.Sockets.reads g.S.Sockets.writes back _ _ _ c.args.bytes _ _ _ found
    (carries-at g.S.Sockets.reads g.S.Sockets.writes back c.in-Some.place c.args.bytes.items c.deref-2.result.now _ _ _ _ c.index_mut.result.now
    (record { dialled = c.carry.new.far; accepted = c.carry.new.near }) _ there.0 c.index_mut.ensures.value c.deref-2.ensures.value c.carry.ensures refl)
    refl refl
