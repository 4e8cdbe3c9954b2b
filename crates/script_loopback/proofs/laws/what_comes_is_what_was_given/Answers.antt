use Rattle.script_loopback.proofs.Honesty.{carries_what_is_given}
use Rattle.script_loopback.proofs.laws.what_comes_is_what_was_given.Goals as goal

pub returns : goal.returns
returns g c = carries_what_is_given g.S.Sockets.reads g.S.Sockets.writes
