use Rattle.std.proofs.Common.{ap, ◌∙◌}
use Rattle.std.proofs.lemmas.Result.{IfOk-weaker}
use Rattle.session_table.specs.Seats.{connected}
use Rattle.session_table.proofs.sessions.Sessions.were_connected.Goals as goal

pub returns-clause-clients : goal.returns-clause-clients
returns-clause-clients c = IfOk-weaker c.connected_in.result _ _ (λ out is. is ∙ ap connected c.self.view_is) c.connected_in.ensures.clients

pub returns-clause-none : goal.returns-clause-none
returns-clause-none c = λ none. c.connected_in.ensures.none (ap connected c.self.view_is ∙ none)
