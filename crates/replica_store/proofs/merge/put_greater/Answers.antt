use Rattle.std.proofs.Common.{◌∙◌, ap, subst, sym}
use Rattle.std.specs.Vec.Iter.{into_iter_items}
use Rattle.replica_store.specs.Merging.{with_all, AllHeld}
use Rattle.replica_store.proofs.Keeping.{held_still}
use Rattle.replica_store.proofs.merge.put_greater.Goals as goal

pub loop-topic-preserved : goal.loop-topic-preserved
loop-topic-preserved c =
    let m = c.loop-topic.topics in
    let rest = into_iter_items c.next.new.self in
    let step = c.in-Some.ensures.steps.0 in
    record {
      left = ap (λ s. with_all s rest) c.replace.ensures ∙ sym (ap (with_all m) step) ∙ c.loop-topic.invariant.left;
      held = subst (λ s. AllHeld s rest) (sym c.replace.ensures) (held_still m c.in-Some.topic c.in-Some.kept rest (subst (AllHeld m) step c.loop-topic.invariant.held).1);
    }
