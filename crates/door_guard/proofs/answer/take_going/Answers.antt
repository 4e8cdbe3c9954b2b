use Rattle.std.proofs.Common.{refl}
use Rattle.door_packets.specs.declared.step.Step.TheVariants.{Tells}
use Rattle.door_guard.specs.Clients.{client_of}
use Rattle.door_guard.proofs.Meets.{came_told, goes_live}
use Rattle.door_guard.proofs.Steps.{done_tells}
use Rattle.door_guard.proofs.Told.{if_ok}
use Rattle.door_guard.proofs.answer.take_going.Goals as goal

pub returns-clause-ok : goal.returns-clause-ok
returns-clause-ok g c =
    let rights = g.A.Access.rights c.args.access.now in
    let handles = g.H.Handler.handles in
    let moment = c.args.place.0 in
    let connection = c.args.place.1 in
    let bytes = c.args.bytes in
    let clients = c.args.known.now.clients in
    let refusals = c.args.known.now.refusals in
    let outputs = c.args.outputs.now.items in
    if_ok c.tell.result
    (λ told. came_told handles rights moment connection bytes bytes.items c.args.inside.now c.tell.new.inside clients c.tell.new.known.clients (refusals, outputs) (c.tell.new.known.refusals, c.tell.new.outputs.items) refl c.requires
    (done_tells handles rights moment connection bytes.items bytes c.args.inside.now c.tell.new.inside clients c.tell.new.known.clients refusals refusals outputs (c.tell.new.known.refusals, c.tell.new.outputs.items) (Tells bytes.items) refl refl
    (goes_live handles rights moment connection bytes.items (client_of clients connection) c.requires) refl told))
    c.tell.ensures.ok
