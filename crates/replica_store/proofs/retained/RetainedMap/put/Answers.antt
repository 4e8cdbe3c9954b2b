use Rattle.std.proofs.Common.{ℕ, max, refl, sym, ap, ◌∙◌}
use Rattle.std.specs.FinMap as map
use Rattle.replica_store.specs.Contents.{topic_in}
use Rattle.replica_store.specs.Retained.{retained_join, one_put}
use Rattle.replica_store.specs.Merging.{is_newer}
use Rattle.replica_store.proofs.Keeping.{given, put_in, left_out, put_kept}
use Rattle.replica_store.proofs.retained.RetainedMap.put.Goals as goal

pub returns-then-not-wins-clause-ok : goal.returns-then-not-wins-clause-ok
returns-then-not-wins-clause-ok c =
    let s = c.self.inside.topics in
    let kept = given c.args.stamp c.args.content in
    let asked = c.wins.ensures ∙ (λ i. is_newer (c.get.ensures i) (record { stamp = c.args.stamp; message = c.message.ensures i })) ∙ ap (λ topic. is_newer (map.get s topic) kept) c.topic.ensures in
    sym c.self.view_is
    ∙ left_out s s c.args.stamp c.args.content (topic_in c.args.content) kept refl refl (sym asked ∙ c.if-not-wins.true)
    ∙ ap (λ m. retained_join m (one_put (topic_in c.args.content) kept)) c.self.view_is

pub invariant_of-self-2 : goal.invariant_of-self-2
invariant_of-self-2 c =
    let s = c.self.inside.topics in
    let kept = given c.args.stamp c.args.content in
    let asked = c.wins.ensures ∙ (λ i. is_newer (c.get.ensures i) (record { stamp = c.args.stamp; message = c.message.ensures i })) ∙ ap (λ topic. is_newer (map.get s topic) kept) c.topic.ensures in
    let wins = (λ i. is_newer (map.get s (c.in_ok-topic.ensures.topic i)) (c.in_ok-topic.ensures.kept i)) ∙ sym asked ∙ c.if-not-wins.false in
    put_kept s c.insert.new.self c.args.stamp c.args.content c.self.invariant.0
    (put_in s c.insert.new.self c.args.stamp c.args.content c.in_ok-topic.topic c.in_ok-topic.kept c.in_ok-topic.ensures.topic c.in_ok-topic.ensures.kept wins c.in_ok-insert.ensures.ok)
    c.self.inside.greatest c.max-self-inside.result c.self.invariant.1 (c.max-self-inside.ensures ∙ ap (λ (n : ℕ). max c.self.inside.greatest n) c.count.ensures.same)

pub returns-clause-ok : goal.returns-clause-ok
returns-clause-ok c =
    let s = c.self.inside.topics in
    let kept = given c.args.stamp c.args.content in
    let asked = c.wins.ensures ∙ (λ i. is_newer (c.get.ensures i) (record { stamp = c.args.stamp; message = c.message.ensures i })) ∙ ap (λ topic. is_newer (map.get s topic) kept) c.topic.ensures in
    let wins = (λ i. is_newer (map.get s (c.in_ok-topic.ensures.topic i)) (c.in_ok-topic.ensures.kept i)) ∙ sym asked ∙ c.if-not-wins.false in
    put_in s c.insert.new.self c.args.stamp c.args.content c.in_ok-topic.topic c.in_ok-topic.kept c.in_ok-topic.ensures.topic c.in_ok-topic.ensures.kept wins c.in_ok-insert.ensures.ok
    ∙ ap (λ m. retained_join m (one_put (topic_in c.args.content) kept)) c.self.view_is
