use Rattle.std.proofs.Common.{◌∙◌, ap}
use Rattle.replica_store.specs.Retained.{retained_join}
use Rattle.replica_store.proofs.Keeping.{empty_below, empty-join}
use Rattle.replica_store.proofs.retained.RetainedMap.copy.Goals as goal

pub returns-clause-copy : goal.returns-clause-copy
returns-clause-copy c = c.in_ok-join.ensures.ok ∙ ap (λ s. retained_join s c.args.self.now) c.new-copy.ensures ∙ empty-join c.args.self.now

pub returns-in_err-join-clause-none : goal.returns-in_err-join-clause-none
returns-in_err-join-clause-none c = λ none. (let below = c.in_err-join.ensures.below (empty_below c.args.self.now c.new-copy.result none) in cc)
