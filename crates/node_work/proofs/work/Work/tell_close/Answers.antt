use Rattle.std.proofs.Common.{refl}
use Rattle.node_work.specs.declared.outcome.Output.TheVariants.{Close}
use Rattle.node_work.specs.Acts.{Out}
use Rattle.node_work.proofs.Working.{comes_act}
use Rattle.node_work.proofs.work.Work.tell_close.Goals as goal

pub returns-clause-comes : goal.returns-clause-comes
returns-clause-comes c = comes_act c.give.result (λ p h. Out (Close c.args.connection)) c.args.self.now c.give.new.self tt refl c.give.ensures.ok c.give.ensures.fault
