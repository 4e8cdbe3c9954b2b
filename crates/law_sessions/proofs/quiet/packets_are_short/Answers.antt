use Rattle.law_sessions.proofs.LiftLaws.{keeps_sizes}
use Rattle.law_sessions.proofs.quiet.packets_are_short.Goals as goal

pub returns : goal.returns
returns c = keeps_sizes
