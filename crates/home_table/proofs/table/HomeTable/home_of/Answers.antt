use Rattle.std.proofs.Common.{subst}
use Rattle.home_table.specs.Table.{IsTable}
use Rattle.home_table.proofs.HomeLaws.{home_alone}
use Rattle.home_table.proofs.table.HomeTable.home_of.Goals as goal

pub returns-clause-alone : goal.returns-clause-alone
returns-clause-alone c = λ node home.
    home_alone c.args.self.now c.args.identifier.now node c.sought_home.result (subst IsTable c.self.view_is c.self.invariant) home c.sought_home.ensures.home
