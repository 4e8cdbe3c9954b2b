use Rattle.law_serving.proofs.Balancing.{streams_take_what_is_given}
use Rattle.law_serving.proofs.turns.streams_take_what_is_given.Goals as goal

pub returns : goal.returns
returns g c =
    streams_take_what_is_given g.row.T.Denot
