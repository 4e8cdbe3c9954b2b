use Rattle.std.proofs.Common.{ap, sym, ◌∙◌}
use Rattle.std.specs.FinSet as set
use Rattle.causal_context.specs.Ranges.{covered}
use Rattle.std.proofs.lemmas.Result.{on_ok_weaker}
use Rattle.causal_context.proofs.RangeSets.{contains-set_of, set_of_insert}
use Rattle.causal_context.proofs.context.Context.insert.Goals as goal

pub returns-clause-ok : goal.returns-clause-ok
returns-clause-ok c = on_ok_weaker c.put.result
    (λ u. set_of_insert c.self.inside.ranges.items c.put.new.ranges.items c.args.self.now c.args.dot (record { node = c.node.result; first = c.number.result; last = c.number.result })
    u (λ i. record { node = c.node.ensures i; first = c.number.ensures.same i; last = c.number.ensures.same i }) c.self.view_is) c.put.ensures.ok

pub returns-clause-there : goal.returns-clause-there
returns-clause-there c = λ there. c.put.ensures.there
    ((λ i. covered (record { node = c.node.ensures i; number = c.number.ensures.same i }) c.self.inside.ranges.items)
    ∙ sym (contains-set_of c.self.inside.ranges.items c.args.dot) ∙ ap (λ s. set.contains s c.args.dot) c.self.view_is ∙ there)

pub returns-clause-beside : goal.returns-clause-beside
returns-clause-beside c = λ m low high there. c.put.ensures.beside m (rw c.number.ensures.same low) (rw c.number.ensures.same high)
    ((λ i. covered (record { node = c.node.ensures i; number = m }) c.self.inside.ranges.items)
    ∙ sym (contains-set_of c.self.inside.ranges.items (record { node = c.args.dot.node; number = m })) ∙ ap (λ s. set.contains s (record { node = c.args.dot.node; number = m })) c.self.view_is ∙ there)
