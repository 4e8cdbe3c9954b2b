use Rattle.std.proofs.Common.{◌∙◌, ap, arith}
use Rattle.std.specs.FinMap as map
use Rattle.replica_store.proofs.Trees.{removed, rises, counted_out, can_lose_out, at_most}
use Rattle.replica_store.proofs.topics.Topics.remove.Goals as goal

pub count_after-self-inside-requires-clause-most : goal.count_after-self-inside-requires-clause-most
count_after-self-inside-requires-clause-most c = (let most = at_most c.self.inside.entries.entries in let count = c.self.invariant.1 in let len = c.len-held.ensures.len in let small = c.len-held.ensures.small in omega (arith, most, count, len, small))

pub count_after-self-inside-requires-clause-least : goal.count_after-self-inside-requires-clause-least
count_after-self-inside-requires-clause-least c =
    can_lose_out c.self.inside.entries.entries c.remove-old.new.self.entries c.args.topic.now c.remove-old.result c.remove-old.ensures.value c.remove-old.ensures.entries
    c.has_message-lost.result c.has_message-lost.ensures c.self.inside.messages c.self.invariant.1

pub invariant_of-self : goal.invariant_of-self
invariant_of-self c =
    counted_out c.self.inside.entries.entries c.remove-old.new.self.entries c.args.topic.now c.remove-old.result c.remove-old.ensures.ordered c.remove-old.ensures.value c.remove-old.ensures.entries
    c.has_message-lost.result c.has_message-lost.ensures c.self.inside.messages c.count_after-self-inside.result c.self.invariant.1 c.count_after-self-inside.ensures

pub returns : goal.returns
returns c =
    removed c.self.inside.entries.entries c.remove-old.new.self.entries c.args.topic.now c.self.invariant.0 (rises c.remove-old.new.self.entries c.remove-old.ensures.ordered) c.remove-old.ensures.updates.0
    ∙ ap (λ m. map.remove m c.args.topic.now) c.self.view_is
