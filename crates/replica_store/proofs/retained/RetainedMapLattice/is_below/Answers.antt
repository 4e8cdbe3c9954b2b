use Rattle.std.proofs.Common.{subst, sym}
use Rattle.replica_store.specs.Retained.{Retained, RetainedBelow}
use Rattle.replica_store.proofs.Keeping.{below_is}
use Rattle.replica_store.proofs.retained.RetainedMapLattice.is_below.Goals as goal

pub returns : goal.returns
returns c =
    let s = c.self.inside.topics in
    let t = c.other.inside.topics in (
      λ e. subst (λ (x : Retained). RetainedBelow x c.args.other.now) c.self.view_is (subst (RetainedBelow s) c.other.view_is ((below_is s t).0 (c.are_below.ensures.0 e))),
      λ b. c.are_below.ensures.1 ((below_is s t).1 (subst (λ (x : Retained). RetainedBelow x t) (sym c.self.view_is) (subst (RetainedBelow c.args.self.now) (sym c.other.view_is) b))),
    )
