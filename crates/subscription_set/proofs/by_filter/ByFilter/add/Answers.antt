use Rattle.std.proofs.Common.{refl, ap, ◌∙◌}
use Rattle.std.proofs.lemmas.Result.{on_ok_weaker, on_err_weaker}
use Rattle.std.specs.FinMap as map
use Rattle.std.specs.FinSet as set
use Rattle.causal_context.specs.Dots.{dot_cmp_total, dot_cmp_antisym}
use Rattle.subscription_set.specs.Filing.{spread}
use Rattle.subscription_set.proofs.Spreading.{text_total, text_anti, put_new, put_back, put_written, same_written, filled_first, filled_written}
use Rattle.subscription_set.proofs.by_filter.ByFilter.add.Goals as goal

pub invariant_of-self : goal.invariant_of-self
invariant_of-self c = filled_first text_total text_anti dot_cmp_total dot_cmp_antisym c.add_first.result c.self.inside.dots c.replace.new.self c.add_first.new.dots c.args.filter.now c.args.dot
    c.in_default.ensures.err c.add_first.ensures.ok c.add_first.ensures.err c.self.invariant

pub returns-in_default-clause-ok : goal.returns-in_default-clause-ok
returns-in_default-clause-ok c =
    let one = set.insert set.empty c.args.dot in
    on_ok_weaker c.add_first.result
    (λ put. put_new text_total text_anti dot_cmp_total dot_cmp_antisym c.self.inside.dots c.add_first.new.dots c.args.filter.now one c.args.dot c.in_default.ensures.absent
    (put ∙ ap (λ m. map.insert m c.args.filter.now one) c.in_default.ensures.err) refl
    ∙ ap (λ v. set.insert v (c.args.filter.now, c.args.dot)) c.self.view_is)
    c.add_first.ensures.ok

pub invariant_of-self-2 : goal.invariant_of-self-2
invariant_of-self-2 c =
    let m = c.self.inside.dots in
    let f = c.args.filter.now in
    let written = put_back text_total text_anti dot_cmp_total dot_cmp_antisym c.replace-2.result m c.replace.new.self c.replace-2.new.self f c.new.result c.insert-added.new.self c.in-Ok.ensures.ok c.replace-2.ensures.ok c.replace-2.ensures.absent in
    filled_written text_total text_anti dot_cmp_total dot_cmp_antisym c.insert-added.result m c.replace-2.new.self f c.in-Ok.own c.insert-added.new.self c.args.dot c.in-Ok.ensures.before written c.insert-added.ensures.ok c.insert-added.ensures.err c.self.invariant

pub returns-clause-ok : goal.returns-clause-ok
returns-clause-ok c =
    let m = c.self.inside.dots in
    let f = c.args.filter.now in
    let written = put_back text_total text_anti dot_cmp_total dot_cmp_antisym c.replace-2.result m c.replace.new.self c.replace-2.new.self f c.new.result c.insert-added.new.self c.in-Ok.ensures.ok c.replace-2.ensures.ok c.replace-2.ensures.absent in
    on_ok_weaker c.insert-added.result
    (λ put. put_written text_total text_anti dot_cmp_total dot_cmp_antisym m c.replace-2.new.self f c.in-Ok.own c.insert-added.new.self c.args.dot c.in-Ok.ensures.before written put
    ∙ ap (λ v. set.insert v (f, c.args.dot)) c.self.view_is)
    c.insert-added.ensures.ok

pub returns-clause-err : goal.returns-clause-err
returns-clause-err c =
    let m = c.self.inside.dots in
    let f = c.args.filter.now in
    let written = put_back text_total text_anti dot_cmp_total dot_cmp_antisym c.replace-2.result m c.replace.new.self c.replace-2.new.self f c.new.result c.insert-added.new.self c.in-Ok.ensures.ok c.replace-2.ensures.ok c.replace-2.ensures.absent in
    on_err_weaker c.insert-added.result
    (λ same. ap spread (same_written text_total text_anti dot_cmp_total dot_cmp_antisym m c.replace-2.new.self f c.in-Ok.own c.insert-added.new.self c.in-Ok.ensures.before written same) ∙ c.self.view_is)
    c.insert-added.ensures.err
