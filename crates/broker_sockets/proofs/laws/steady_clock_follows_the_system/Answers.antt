use Rattle.broker_sockets.proofs.Steadying.{catches, caught_up, not_ahead_of_it}
use Rattle.broker_sockets.proofs.laws.steady_clock_follows_the_system.Goals as goal

pub returns : goal.returns
returns g c = record { behind = not_ahead_of_it g.C.Clocks.reads; comes_up = caught_up g.C.Clocks.reads; catches_up = catches g.C.Clocks.reads }
