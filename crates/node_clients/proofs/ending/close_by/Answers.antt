use Rattle.std.proofs.Common.{sym, subst}
use Rattle.std.specs.Option.{option_copied}
use Rattle.node_work.specs.Working.{ComesTo}
use Rattle.node_clients.specs.Ending.{ClosesBy}
use Rattle.node_clients.proofs.ending.close_by.Goals as goal

pub returns-in-Some : goal.returns-in-Some
returns-in-Some c =
    subst (λ o. ComesTo (λ x. x) c.close_for.result c.args.work.now c.close_for.new.work (ClosesBy c.args.connection (option_copied o))) (sym c.in-Some.is) c.close_for.ensures
