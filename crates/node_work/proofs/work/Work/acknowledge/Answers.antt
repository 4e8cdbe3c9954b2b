use Rattle.std.proofs.Common.{refl}
use Rattle.node_work.specs.Acts.{Acknowledged}
use Rattle.node_work.proofs.Working.{did_silent}
use Rattle.node_work.proofs.work.Work.acknowledge.Goals as goal

pub returns-clause-comes : goal.returns-clause-comes
returns-clause-comes c = λ client packet grants offers is.
    let w = c.args.self.now in
    did_silent (λ p h. Acknowledged client packet h.at grants offers) w w.held is refl refl refl
