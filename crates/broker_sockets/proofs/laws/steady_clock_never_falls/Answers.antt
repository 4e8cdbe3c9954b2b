use Rattle.broker_sockets.proofs.Steadying.{begins, never_falls}
use Rattle.broker_sockets.proofs.laws.steady_clock_never_falls.Goals as goal

pub returns : goal.returns
returns g c = record { begins = begins g.C.Clocks.reads; rises = never_falls g.C.Clocks.reads }
