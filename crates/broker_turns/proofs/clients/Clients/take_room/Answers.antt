use Rattle.std.proofs.Common.{sym, ◌∙◌}
use Rattle.broker_turns.proofs.Turning.{at-value}
use Rattle.broker_turns.proofs.clients.Clients.take_room.Goals as goal

pub returns : goal.returns
returns g c =
    let found = sym c.in-Some.ensures.value in
    (c.in-Some.client.now, found, sym c.takes_more.ensures ∙ c.if-not-takes_more.false, c.room.ensures, at-value _ _ _ _ found)
