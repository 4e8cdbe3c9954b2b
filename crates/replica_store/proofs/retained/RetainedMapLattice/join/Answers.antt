use Rattle.std.proofs.Common.{◌∙◌, ap, subst, sym, map as map_list}
use Rattle.std.specs.FinMap as map
use Rattle.std.specs.Map.Iter.{deref_pair}
use Rattle.replica_store.specs.Retained.{retained_join}
use Rattle.replica_store.specs.RetainedLattice.{retained_lattice}
use Rattle.replica_store.specs.Merging.{NoneHeld, AllHeld, with_all}
use Rattle.replica_store.proofs.Keeping.{none_held, greater_held, all_joined, joined_kept}
use Rattle.replica_store.proofs.retained.RetainedMapLattice.join.Goals as goal

pub add_fresh-requires : goal.add_fresh-requires
add_fresh-requires c =
    let s = c.self.inside.topics in
    subst (NoneHeld s) (sym (ap (map_list deref_pair) c.deref.ensures.value ∙ c.in_ok-news.ensures.fresh)) (none_held s (map.entries c.other.inside.topics))

pub put_greater-requires : goal.put_greater-requires
put_greater-requires c =
    let s = c.self.inside.topics in
    let mid = c.in_ok-add_fresh.ensures.ok ∙ ap (with_all s) (ap (map_list deref_pair) c.deref.ensures.value ∙ c.in_ok-news.ensures.fresh) in
    subst (λ m. AllHeld m c.in_ok-news.news.greater.items) (sym mid) (subst (AllHeld _) (sym c.in_ok-news.ensures.greater) (greater_held s (map.entries c.other.inside.topics)))

pub invariant_of-self-2 : goal.invariant_of-self-2
invariant_of-self-2 c =
    let s = c.self.inside.topics in
    let mid = c.in_ok-add_fresh.ensures.ok ∙ ap (with_all s) (ap (map_list deref_pair) c.deref.ensures.value ∙ c.in_ok-news.ensures.fresh) in
    joined_kept s c.other.inside.topics c.put_greater.new.topics c.self.invariant.0 c.other.invariant.0
    (c.put_greater.ensures ∙ (λ i. with_all (mid i) (c.in_ok-news.ensures.greater i)) ∙ all_joined s c.other.inside.topics)
    c.self.inside.greatest c.other.inside.greatest c.max-self-inside.result c.self.invariant.1 c.other.invariant.1 c.max-self-inside.ensures

pub returns-clause-ok : goal.returns-clause-ok
returns-clause-ok c =
    let s = c.self.inside.topics in
    let mid = c.in_ok-add_fresh.ensures.ok ∙ ap (with_all s) (ap (map_list deref_pair) c.deref.ensures.value ∙ c.in_ok-news.ensures.fresh) in
    c.put_greater.ensures ∙ (λ i. with_all (mid i) (c.in_ok-news.ensures.greater i)) ∙ all_joined s c.other.inside.topics
    ∙ (λ i. retained_join (c.self.view_is i) (c.other.view_is i))

pub returns-then-is_below-clause-ok : goal.returns-then-is_below-clause-ok
returns-then-is_below-clause-ok c = sym (retained_lattice.commutative c.args.self.now c.args.other.now ∙ retained_lattice.from_order c.args.other.now c.args.self.now (c.is_below.ensures.0 c.if-is_below.true))
