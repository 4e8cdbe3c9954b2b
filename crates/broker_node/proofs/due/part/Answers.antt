use Rattle.std.proofs.Common.{Some}
use Rattle.law_sessions.specs.Runs.{closes}
use Rattle.session_table.specs.Calls.{leaves}
use Rattle.node_work.specs.Calling.{Calls}
use Rattle.node_work.specs.Working.{Returns}
use Rattle.node_work.proofs.Working.{did_then, did_nothing}
use Rattle.broker_node.proofs.due.part.Goals as goal

pub returns : goal.returns
returns c =
    let m = c.part.new.self in
    did_then (Calls c.args.client.now closes leaves) (λ _. Returns tt) c.args.work.now m m c.in_ok-part.field-0 (Some tt) c.in_ok-part.ensures (did_nothing m tt)
