use Rattle.std.proofs.Common.{◌≡◌, Some, None, not, inl, inr, sym, ap, subst, ◌∙◌}
use Rattle.std.specs.FinMap as map
use Rattle.std.specs.FinSet as set
use Rattle.mqtt_topics.specs.Topics.{IsShared}
use Rattle.subscription_set.specs.Indexing.{ByDot, Stands, stands_as}
use Rattle.subscription_set.specs.Members.{AreSeated, Seats}
use Rattle.subscription_set.proofs.Membership.{seated_gone, seated_left, seated_none, stood_none, stood_some}
use Rattle.subscription_set.proofs.grouped.GroupedEntries.remove.Goals as goal

pub invariant_of-self : goal.invariant_of-self
invariant_of-self c =
    let none : map.get c.self.inside.entries c.args.dot ≡ None = sym c.take.ensures.value ∙ c.in_default.is in
    subst (λ (n : ByDot). AreSeated n c.self.inside.members) (sym c.take.ensures.left) (seated_none c.self.inside.entries c.args.dot c.self.inside.members none c.self.invariant)

pub invariant_of-self-then-not-is_shared : goal.invariant_of-self-then-not-is_shared
invariant_of-self-then-not-is_shared c =
    let e = c.in-Some.entry in
    let there : map.get c.self.inside.entries c.args.dot ≡ Some e = sym c.take.ensures.value ∙ c.in-Some.is in
    let plain : IsShared e.filter → ⊥ = λ s. (let yes = c.is_shared.ensures.shared.1 (subst IsShared (sym c.filter.ensures) s) in let no = c.if-not-is_shared.true in cc) in
    subst (λ (n : ByDot). AreSeated n c.self.inside.members) (sym c.take.ensures.left) (seated_left c.self.inside.entries c.args.dot e there c.self.inside.members c.self.invariant (inl plain))

pub invariant_of-self-then-is_none : goal.invariant_of-self-then-is_none
invariant_of-self-then-is_none c =
    let e = c.in-Some.entry in
    let m = c.self.inside.entries in
    let there : map.get m c.args.dot ≡ Some e = sym c.take.ensures.value ∙ c.in-Some.is in
    let last : Stands (map.remove m c.args.dot) e.client (Some e.filter) → ⊥ = λ s.
    stood_none c.take.new.self c.client.result.now c.filter-2.result.now c.standing.result c.standing.ensures (c.is_none.ensures ∙ ap not c.if-is_none.true)
    ((subst (λ (n : ByDot). Stands n c.client.result.now (Some c.filter-2.result.now)) (sym c.take.ensures.left)
    (s.0, (λ i. stands_as (c.client.ensures i) (Some (c.filter-2.ensures i)) (map.get (map.remove m c.args.dot) s.0)) ∙ s.1))) in
    let seats = c.remove.ensures ∙ (λ i. set.remove c.self.inside.members ((c.as_text.ensures.same ∙ c.filter-then-is_none.ensures) i, c.client-then-is_none.ensures i)) in
    subst (λ (v : Seats). AreSeated c.take.new.self v) (sym seats) (subst (λ (n : ByDot). AreSeated n (set.remove c.self.inside.members (e.filter, e.client))) (sym c.take.ensures.left)
    (seated_gone m c.args.dot e there c.self.inside.members c.self.invariant last))

pub invariant_of-self-else-is_none : goal.invariant_of-self-else-is_none
invariant_of-self-else-is_none c =
    let e = c.in-Some.entry in
    let m = c.self.inside.entries in
    let there : map.get m c.args.dot ≡ Some e = sym c.take.ensures.value ∙ c.in-Some.is in
    let one = stood_some c.take.new.self c.client.result.now c.filter-2.result.now c.standing.result c.standing.ensures (c.is_none.ensures ∙ ap not c.if-is_none.false) in
    let other : Stands (map.remove m c.args.dot) e.client (Some e.filter) =
    subst (λ (n : ByDot). Stands n e.client (Some e.filter)) c.take.ensures.left (one.0, (λ i. stands_as (sym c.client.ensures i) (Some (sym c.filter-2.ensures i)) (map.get c.take.new.self one.0)) ∙ one.1) in
    subst (λ (n : ByDot). AreSeated n c.self.inside.members) (sym c.take.ensures.left) (seated_left m c.args.dot e there c.self.inside.members c.self.invariant (inr other))
