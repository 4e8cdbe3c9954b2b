use Rattle.law_sessions.specs.Runs.{ticks}
use Rattle.session_table.specs.Calls.{stays}
use Rattle.node_work.specs.Calling.{Calls}
use Rattle.node_work.proofs.Working.{then_goes}
use Rattle.node_clients.specs.Ending.{FollowsReaction}
use Rattle.node_clients.proofs.ending.tick.Goals as goal

pub returns : goal.returns
returns c =
    let client = c.args.client.now in
    then_goes (Calls client ticks stays) (FollowsReaction client) (λ x. x) c.follow.result c.args.work.now c.tick.new.self c.follow.new.work c.in_ok-reaction.reaction c.in_ok-reaction.ensures c.follow.ensures
