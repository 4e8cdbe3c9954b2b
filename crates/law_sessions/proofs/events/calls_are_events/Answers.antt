use Rattle.law_sessions.proofs.EventLaws.{calls_are_events}
use Rattle.law_sessions.proofs.events.calls_are_events.Goals as goal

pub returns : goal.returns
returns c = calls_are_events
