use Rattle.mqtt_sessions.specs.Saved.{state_of}
use Rattle.session_table.specs.declared.call.Call.TheVariants.{Connect}
use Rattle.session_table.proofs.Calling.{may_connect, turned_as, wanted_as}
use Rattle.session_table.proofs.call.turn.Goals as goal

pub connect-requires-clause-continued : goal.connect-requires-clause-continued
connect-requires-clause-continued c = may_connect c.args.call c.in-Connect.connect c.in-Connect.continued c.in-Connect.room c.in-Connect.now (state_of c.args.session.now) c.in-Connect.is c.requires.may

pub returns-in-Connect-clause-turned : goal.returns-in-Connect-clause-turned
returns-in-Connect-clause-turned c = turned_as c.args.call (Connect c.in-Connect.connect c.in-Connect.continued c.in-Connect.room c.in-Connect.now) (state_of c.args.session.now) _ _ c.in-Connect.is c.requires.may c.connect.ensures.called

pub returns-in-Connect-clause-wants : goal.returns-in-Connect-clause-wants
returns-in-Connect-clause-wants c = wanted_as c.args.call (Connect c.in-Connect.connect c.in-Connect.continued c.in-Connect.room c.in-Connect.now) (state_of c.args.session.now) _ _ c.in-Connect.is c.connect.ensures.called
