use Rattle.session_table.specs.Calls.{reaction_of}
use Rattle.session_table.proofs.Calling.{spelled_at}
use Rattle.session_table.proofs.sessions.Sessions.answer.Goals as goal

pub returns-clause-called : goal.returns-clause-called
returns-clause-called c = c.call.ensures.called

pub returns-clause-spelled : goal.returns-clause-spelled
returns-clause-spelled c = spelled_at (reaction_of c.call.result) c.call.ensures.spelled

pub returns-clause-goes : goal.returns-clause-goes
returns-clause-goes c = c.call.ensures.goes
