use Rattle.std.proofs.Common.{◌≡◌, Some, None, rules, ap, sym, subst, ◌∙◌}
use Rattle.std.proofs.lemmas.Result.{on_ok_weaker, on_err_weaker}
use Rattle.std.specs.FinMap as map
use Rattle.std.specs.FinSet as set
use Rattle.std.specs.Option.{option_copied_mut}
use Rattle.causal_context.specs.Dots.{Dots, dot_cmp_total, dot_cmp_antisym}
use Rattle.subscription_set.specs.Filing.{IsFilled, spread, text_cmp}
use Rattle.law_maps.proofs.Tables.{get_table, insert_table}
use Rattle.subscription_set.proofs.Spreading.{text_total, text_anti, same_written, put_written, put_new, filled_written, filled_new}
use Rattle.subscription_set.proofs.groups.Groups.add.Goals as goal

pub invariant_of-self : goal.invariant_of-self
invariant_of-self c =
    let es = c.self.inside.by_text.entries in
    let fs = (c.get_mut.follows.lender c.insert.new.self).entries in
    let m : map.FinMap text_cmp Dots = map.from_entries es in
    let is : map.get m c.args.text.now ≡ Some c.in-Some.dots.now = get_table text_total es c.args.text.now ∙ sym c.get_mut.ensures.value ∙ ap option_copied_mut c.in-Some.is in
    let written = insert_table text_total text_anti es fs c.args.text.now c.insert.new.self ((c.get_mut.follows.holds c.insert.new.self).3 (search rules)).0 in
    filled_written text_total text_anti dot_cmp_total dot_cmp_antisym c.insert.result m (map.from_entries fs) c.args.text.now c.in-Some.dots.now c.insert.new.self c.args.dot is written c.insert.ensures.ok c.insert.ensures.err c.self.invariant

pub returns-in-Some-clause-ok : goal.returns-in-Some-clause-ok
returns-in-Some-clause-ok c =
    let es = c.self.inside.by_text.entries in
    let fs = (c.get_mut.follows.lender c.insert.new.self).entries in
    let m : map.FinMap text_cmp Dots = map.from_entries es in
    let is : map.get m c.args.text.now ≡ Some c.in-Some.dots.now = get_table text_total es c.args.text.now ∙ sym c.get_mut.ensures.value ∙ ap option_copied_mut c.in-Some.is in
    let written = insert_table text_total text_anti es fs c.args.text.now c.insert.new.self ((c.get_mut.follows.holds c.insert.new.self).3 (search rules)).0 in
    on_ok_weaker c.insert.result (λ put. put_written text_total text_anti dot_cmp_total dot_cmp_antisym m (map.from_entries fs) c.args.text.now c.in-Some.dots.now c.insert.new.self c.args.dot is written put ∙ ap (λ v. set.insert v (c.args.text.now, c.args.dot)) c.self.view_is) c.insert.ensures.ok

pub returns-in-Some-clause-err : goal.returns-in-Some-clause-err
returns-in-Some-clause-err c =
    let es = c.self.inside.by_text.entries in
    let fs = (c.get_mut.follows.lender c.insert.new.self).entries in
    let m : map.FinMap text_cmp Dots = map.from_entries es in
    let is : map.get m c.args.text.now ≡ Some c.in-Some.dots.now = get_table text_total es c.args.text.now ∙ sym c.get_mut.ensures.value ∙ ap option_copied_mut c.in-Some.is in
    let written = insert_table text_total text_anti es fs c.args.text.now c.insert.new.self ((c.get_mut.follows.holds c.insert.new.self).3 (search rules)).0 in
    on_err_weaker c.insert.result (λ same. ap spread (same_written text_total text_anti dot_cmp_total dot_cmp_antisym m (map.from_entries fs) c.args.text.now c.in-Some.dots.now c.insert.new.self is written same) ∙ c.self.view_is) c.insert.ensures.err

pub invariant_of-self-2 : goal.invariant_of-self-2
invariant_of-self-2 c =
    let es = c.get_mut.follows.lender-at-none.entries in
    let fs = c.insert-3.new.self.entries in
    let written = insert_table text_total text_anti es fs c.in_ok-own.own c.insert-2.new.self c.in_ok-insert-2.ensures.updates.0 in
    filled_new text_total text_anti dot_cmp_total dot_cmp_antisym (map.from_entries es) (map.from_entries fs) c.in_ok-own.own c.insert-2.new.self c.args.dot written (c.in_ok-insert.ensures.ok ∙ ap (λ s. set.insert s c.args.dot) c.new-dots.ensures)
    (subst (λ t. IsFilled (map.from_entries {R = text_cmp} t.entries)) (sym c.get_mut.follows.holds-at-none) c.self.invariant)

pub returns-clause-ok : goal.returns-clause-ok
returns-clause-ok c =
    let es = c.get_mut.follows.lender-at-none.entries in
    let fs = c.insert-3.new.self.entries in
    let m : map.FinMap text_cmp Dots = map.from_entries es in
    let none : map.get m c.in_ok-own.own ≡ None =
    (λ i. map.get (map.from_entries {R = text_cmp} (c.get_mut.follows.holds-at-none i).entries) (c.in_ok-own.ensures i))
    ∙ get_table text_total c.self.inside.by_text.entries c.args.text.now ∙ sym c.get_mut.ensures.value ∙ ap option_copied_mut c.in_default.is in
    let written = insert_table text_total text_anti es fs c.in_ok-own.own c.insert-2.new.self c.in_ok-insert-2.ensures.updates.0 in
    put_new text_total text_anti dot_cmp_total dot_cmp_antisym m (map.from_entries fs) c.in_ok-own.own c.insert-2.new.self c.args.dot none written (c.in_ok-insert.ensures.ok ∙ ap (λ s. set.insert s c.args.dot) c.new-dots.ensures)
    ∙ (λ i. set.insert ((ap (λ t. spread (map.from_entries {R = text_cmp} t.entries)) c.get_mut.follows.holds-at-none ∙ c.self.view_is) i) (c.in_ok-own.ensures i, c.args.dot))
