use Rattle.session_table.proofs.sessions.Sessions.make_room.Goals as goal

pub returns-clause-called : goal.returns-clause-called
returns-clause-called c = c.call.ensures.called

pub returns-clause-goes : goal.returns-clause-goes
returns-clause-goes c = c.call.ensures.goes
