use Rattle.std.proofs.Common.{sym, ap, ◌∙◌}
use Rattle.std.specs.FinSet as set
use Rattle.causal_context.specs.Dots.{dot_cmp_total, dot_cmp_antisym}
use Rattle.subscription_set.specs.Filing.{spread}
use Rattle.subscription_set.proofs.Spreading.{text_total, text_anti, put_back, taken_out, take_written, filled_left, filled_last, spread_absent, spread_take_last}
use Rattle.subscription_set.proofs.by_filter.ByFilter.remove.Goals as goal

pub returns-in_default : goal.returns-in_default
returns-in_default c =
    ap spread c.in_default.ensures.err ∙ spread_absent text_total text_anti dot_cmp_total dot_cmp_antisym c.self.inside.dots c.args.filter.now c.args.dot c.in_default.ensures.absent
    ∙ ap (λ v. set.remove v (c.args.filter.now, c.args.dot)) c.self.view_is

pub invariant_of-self-then-is_empty : goal.invariant_of-self-then-is_empty
invariant_of-self-then-is_empty c =
    filled_last text_total text_anti dot_cmp_total dot_cmp_antisym c.self.inside.dots c.replace.new.self c.remove-then-is_empty.new.self c.args.filter.now c.new.result c.in-Ok.ensures.ok c.remove-then-is_empty.ensures.left c.self.invariant

pub returns-then-is_empty : goal.returns-then-is_empty
returns-then-is_empty c =
    ap spread (taken_out text_total text_anti dot_cmp_total dot_cmp_antisym c.self.inside.dots c.replace.new.self c.remove-then-is_empty.new.self c.args.filter.now c.new.result c.in-Ok.ensures.ok c.remove-then-is_empty.ensures.left)
    ∙ spread_take_last text_total text_anti dot_cmp_total dot_cmp_antisym c.self.inside.dots c.args.filter.now c.in-Ok.own c.args.dot c.in-Ok.ensures.before
    (λ y. ap (λ s. set.contains s y) (sym c.remove.ensures) ∙ c.if-is_empty.ensures y)
    ∙ ap (λ v. set.remove v (c.args.filter.now, c.args.dot)) c.self.view_is

pub invariant_of-self-2 : goal.invariant_of-self-2
invariant_of-self-2 c =
    let m = c.self.inside.dots in
    let f = c.args.filter.now in
    let written = put_back text_total text_anti dot_cmp_total dot_cmp_antisym c.replace-2.result m c.replace.new.self c.replace-2.new.self f c.new.result c.remove.new.self c.in-Ok.ensures.ok c.replace-2.ensures.ok c.replace-2.ensures.absent in
    filled_left text_total text_anti dot_cmp_total dot_cmp_antisym m c.replace-2.new.self f c.remove.new.self written c.if-is_empty.ensures c.self.invariant

pub returns : goal.returns
returns c =
    let m = c.self.inside.dots in
    let f = c.args.filter.now in
    let written = put_back text_total text_anti dot_cmp_total dot_cmp_antisym c.replace-2.result m c.replace.new.self c.replace-2.new.self f c.new.result c.remove.new.self c.in-Ok.ensures.ok c.replace-2.ensures.ok c.replace-2.ensures.absent in
    take_written text_total text_anti dot_cmp_total dot_cmp_antisym m c.replace-2.new.self f c.in-Ok.own c.remove.new.self c.args.dot c.in-Ok.ensures.before written c.remove.ensures
    ∙ ap (λ v. set.remove v (f, c.args.dot)) c.self.view_is
