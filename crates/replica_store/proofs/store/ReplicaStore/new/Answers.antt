use Rattle.std.proofs.Common.{sym, ap, ◌∙◌}
use Rattle.std.specs.FinSet as set
use Rattle.causal_context.specs.Dots.{dot_cmp}
use Rattle.replica_store.proofs.store.ReplicaStore.new.Goals as goal

pub invariant_of-result : goal.invariant_of-result
invariant_of-result c = λ q there. (let none = set.contains-empty dot_cmp q in let same = sym (ap (λ d. set.contains d q) c.new.ensures) ∙ there in cc)
