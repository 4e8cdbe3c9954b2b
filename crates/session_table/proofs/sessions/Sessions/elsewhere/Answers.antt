use Rattle.std.proofs.Common.{[], sym, subst}
use Rattle.std.proofs.lemmas.Result.{IfOk-weaker}
use Rattle.session_table.specs.Seats.{AreElsewhere, Seats}
use Rattle.session_table.proofs.sessions.Sessions.elsewhere.Goals as goal

pub returns-clause-clients : goal.returns-clause-clients
returns-clause-clients c =
    IfOk-weaker c.elsewhere_in.result _ _ (λ out is. subst (λ (s : Seats). AreElsewhere c.args.homes.now c.args.node s out.items) c.self.view_is is) c.elsewhere_in.ensures.clients

pub returns-clause-none : goal.returns-clause-none
returns-clause-none c = λ none. c.elsewhere_in.ensures.none (subst (λ (s : Seats). AreElsewhere c.args.homes.now c.args.node s []) (sym c.self.view_is) none)
