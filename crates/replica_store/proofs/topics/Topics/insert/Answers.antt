use Rattle.std.proofs.Common.{◌∙◌, ap, arith}
use Rattle.std.specs.FinMap as map
use Rattle.replica_store.proofs.Trees.{found_in, inserted, counted, can_lose, at_most}
use Rattle.replica_store.proofs.topics.Topics.insert.Goals as goal

pub returns-in_default-clause-full : goal.returns-in_default-clause-full
returns-in_default-clause-full c = found_in c.self.inside.entries.entries c.args.self.now c.args.topic c.self.invariant.0 c.self.view_is ∙ c.in_default.ensures.absent

pub count_after-self-inside-requires-clause-least : goal.count_after-self-inside-requires-clause-least
count_after-self-inside-requires-clause-least c =
    can_lose c.self.inside.entries.entries c.insert.new.self.entries c.args.topic c.args.kept c.in-Ok.old c.in-Ok.ensures.was_ordered c.in-Ok.ensures.old c.in-Ok.ensures.entries
    c.is_some-gained.result c.has_message-lost.result c.is_some-gained.ensures c.has_message-lost.ensures c.self.inside.messages c.self.invariant.1

pub count_after-self-inside-requires-clause-most : goal.count_after-self-inside-requires-clause-most
count_after-self-inside-requires-clause-most c = (let most = at_most c.self.inside.entries.entries in let count = c.self.invariant.1 in let len = c.len-held.ensures.len in let small = c.len-held.ensures.small in omega (arith, most, count, len, small))

pub invariant_of-self-2 : goal.invariant_of-self-2
invariant_of-self-2 c =
    counted c.self.inside.entries.entries c.insert.new.self.entries c.args.topic c.args.kept c.in-Ok.old c.self.invariant.0 c.in-Ok.ensures.was_ordered c.in-Ok.ensures.old c.in-Ok.ensures.entries
    c.is_some-gained.result c.has_message-lost.result c.is_some-gained.ensures c.has_message-lost.ensures c.self.inside.messages c.count_after-self-inside.result c.self.invariant.1 c.count_after-self-inside.ensures

pub returns-clause-ok : goal.returns-clause-ok
returns-clause-ok c =
    inserted c.self.inside.entries.entries c.insert.new.self.entries c.args.topic c.args.kept c.self.invariant.0 c.in-Ok.ensures.entries
    ∙ ap (λ m. map.insert m c.args.topic c.args.kept) c.self.view_is
