use Rattle.law_steps.proofs.Arriving.{forwards_are_answered}
use Rattle.law_steps.proofs.ForwardRuns.{forwards_are_taken}
use Rattle.law_steps.proofs.forwarding.forwards_are_taken.Goals as goal

pub returns-clause-answered : goal.returns-clause-answered
returns-clause-answered c = forwards_are_answered

pub returns-clause-taken : goal.returns-clause-taken
returns-clause-taken c = forwards_are_taken
