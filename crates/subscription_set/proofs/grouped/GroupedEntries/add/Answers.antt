use Rattle.std.proofs.Common.{◌≡◌, None, sym, ap, subst, ◌∙◌}
use Rattle.std.specs.FinMap as map
use Rattle.std.specs.FinSet as set
use Rattle.mqtt_topics.specs.Topics.{IsShared}
use Rattle.subscription_set.specs.Indexing.{ByDot}
use Rattle.subscription_set.specs.Members.{AreSeated, Seats}
use Rattle.subscription_set.proofs.Membership.{put_back, seated_by, seated_put}
use Rattle.subscription_set.proofs.grouped.GroupedEntries.add.Goals as goal

pub invariant_of-self : goal.invariant_of-self
invariant_of-self c =
    let none : map.get c.self.inside.entries c.args.dot ≡ None = ap (λ (m : ByDot). map.get m c.args.dot) c.self.view_is ∙ c.requires in
    let plain : IsShared c.args.entry.filter → ⊥ = λ s. (let yes = c.is_shared.ensures.shared.1 (subst IsShared (sym c.filter.ensures) s) in let no = c.if-not-is_shared.true in cc) in
    seated_by c.add.result c.self.inside.entries c.add.new.self c.args.dot c.args.entry c.self.inside.members none plain c.add.ensures.ok c.add.ensures.err c.self.invariant

pub invariant_of-self-in-Ok : goal.invariant_of-self-in-Ok
invariant_of-self-in-Ok c =
    let m = c.self.inside.entries in
    let none : map.get m c.args.dot ≡ None = ap (λ (x : ByDot). map.get x c.args.dot) c.self.view_is ∙ c.requires in
    let shared : IsShared c.args.entry.filter = subst IsShared c.filter.ensures (c.is_shared.ensures.shared.0 c.if-not-is_shared.false) in
    let filter = c.as_text.ensures.same ∙ c.in_ok-filter.ensures ∙ c.filter-2.ensures in
    let client = c.in_ok-client.ensures ∙ c.client.ensures in
    let seats = c.in-Ok.ensures.ok ∙ (λ i. set.insert c.self.inside.members (filter i, client i)) in
    subst (λ (v : Seats). AreSeated c.add-2.new.self v) (sym seats) (subst (λ (n : ByDot). AreSeated n (set.insert c.self.inside.members (c.args.entry.filter, c.args.entry.client))) (sym c.in_ok-add.ensures.ok)
    (seated_put m c.args.dot c.args.entry none c.self.inside.members c.self.invariant shared))

pub invariant_of-self-in-Err : goal.invariant_of-self-in-Err
invariant_of-self-in-Err c =
    let m = c.self.inside.entries in
    let none : map.get m c.args.dot ≡ None = ap (λ (x : ByDot). map.get x c.args.dot) c.self.view_is ∙ c.requires in
    let back = c.take.ensures.left ∙ ap (λ (x : ByDot). map.remove x c.args.dot) c.in_ok-add.ensures.ok ∙ put_back m c.args.dot c.args.entry none in
    subst (λ (v : Seats). AreSeated c.take.new.self v) (sym c.in-Err.ensures.err) (subst (λ (n : ByDot). AreSeated n c.self.inside.members) (sym back) c.self.invariant)

pub returns-clause-err : goal.returns-clause-err
returns-clause-err c =
    let m = c.self.inside.entries in
    let none : map.get m c.args.dot ≡ None = ap (λ (x : ByDot). map.get x c.args.dot) c.self.view_is ∙ c.requires in
    c.take.ensures.left ∙ ap (λ (x : ByDot). map.remove x c.args.dot) c.in_ok-add.ensures.ok ∙ put_back m c.args.dot c.args.entry none ∙ c.self.view_is
