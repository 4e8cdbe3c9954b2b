use Rattle.broker_sockets.proofs.Steadying.{goes_evenly}
use Rattle.broker_sockets.proofs.laws.steady_clock_goes_evenly.Goals as goal

pub returns : goal.returns
returns g c = goes_evenly g.C.Clocks.reads
