use Rattle.std.proofs.Common.{Some, sym, subst}
use Rattle.bridge_routes.specs.declared.destinations.Route.{Route}
use Rattle.node_work.specs.Doings.{RoutesBy}
use Rattle.node_work.specs.Working.{ComesTo, Did}
use Rattle.node_work.proofs.Working.{did_nothing}
use Rattle.node_work.proofs.work.Work.route.Goals as goal

pub returns-in-Nothing-clause-comes : goal.returns-in-Nothing-clause-comes
returns-in-Nothing-clause-comes c = subst (λ (r : Route). Did c.args.self.now c.args.self.now (RoutesBy c.args.peer r (Some tt))) (sym c.in-Nothing.is) (did_nothing c.args.self.now tt)

pub returns-in-Lane-clause-comes : goal.returns-in-Lane-clause-comes
returns-in-Lane-clause-comes c = subst (λ (r : Route). ComesTo (λ x. x) c.offer.result c.args.self.now c.offer.new.self (RoutesBy c.args.peer r)) (sym c.in-Lane.is) c.offer.ensures
