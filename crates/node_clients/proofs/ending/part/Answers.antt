use Rattle.law_sessions.specs.Runs.{closes}
use Rattle.session_table.specs.Calls.{leaves}
use Rattle.node_work.specs.Calling.{Calls}
use Rattle.node_work.proofs.Working.{then_goes}
use Rattle.node_clients.specs.Ending.{DoesDueOf}
use Rattle.node_clients.proofs.ending.part.Goals as goal

pub returns : goal.returns
returns c =
    let client = c.args.client.now in
    then_goes (Calls client closes leaves) (λ _. DoesDueOf client) (λ x. x) c.do_due.result c.args.work.now c.part.new.self c.do_due.new.work c.in_ok-_reaction._reaction c.in_ok-_reaction.ensures c.do_due.ensures
