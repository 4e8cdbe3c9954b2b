use Rattle.broker_sockets.proofs.Steadying.{goes_on, not_later}
use Rattle.broker_sockets.proofs.laws.steady_clock_goes_on_where_set_back.Goals as goal

pub returns : goal.returns
returns g c = record { goes_on = goes_on g.C.Clocks.reads; later = not_later g.C.Clocks.reads }
