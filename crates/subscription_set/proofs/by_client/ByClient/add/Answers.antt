use Rattle.std.proofs.Common.{List, ℕ, ◌≡◌, Some, None, rules, ap, sym, subst, ◌∙◌}
use Rattle.std.proofs.lemmas.Result.{on_ok_weaker, on_err_weaker}
use Rattle.std.specs.FinMap as map
use Rattle.std.specs.FinSet as set
use Rattle.std.specs.Option.{option_copied_mut}
use Rattle.subscription_set.specs.Filing.{Filed, IsFilled, spread, text_cmp}
use Rattle.law_maps.proofs.Tables.{get_table, insert_table}
use Rattle.subscription_set.proofs.Spreading.{text_total, text_anti, filed_total, filed_anti, same_written, put_written, put_new, filled_written, filled_new}
use Rattle.subscription_set.proofs.by_client.ByClient.add.Goals as goal

pub invariant_of-self : goal.invariant_of-self
invariant_of-self c =
    let es = c.self.inside.by_client.entries in
    let fs = (c.get_mut.follows.lender c.add.new.self).entries in
    let m : map.FinMap text_cmp Filed = map.from_entries es in
    let is : map.get m c.args.client.now ≡ Some c.in-Some.filters.now = get_table text_total es c.args.client.now ∙ sym c.get_mut.ensures.value ∙ ap option_copied_mut c.in-Some.is in
    let written = insert_table text_total text_anti es fs c.args.client.now c.add.new.self ((c.get_mut.follows.holds c.add.new.self).3 (search rules)).0 in
    filled_written text_total text_anti filed_total filed_anti c.add.result m (map.from_entries fs) c.args.client.now c.in-Some.filters.now c.add.new.self (c.as_text.result.now, c.args.dot) is written c.add.ensures.ok c.add.ensures.err c.self.invariant

pub returns-in-Some-clause-ok : goal.returns-in-Some-clause-ok
returns-in-Some-clause-ok c =
    let es = c.self.inside.by_client.entries in
    let fs = (c.get_mut.follows.lender c.add.new.self).entries in
    let m : map.FinMap text_cmp Filed = map.from_entries es in
    let is : map.get m c.args.client.now ≡ Some c.in-Some.filters.now = get_table text_total es c.args.client.now ∙ sym c.get_mut.ensures.value ∙ ap option_copied_mut c.in-Some.is in
    let written = insert_table text_total text_anti es fs c.args.client.now c.add.new.self ((c.get_mut.follows.holds c.add.new.self).3 (search rules)).0 in
    on_ok_weaker c.add.result (λ put. put_written text_total text_anti filed_total filed_anti m (map.from_entries fs) c.args.client.now c.in-Some.filters.now c.add.new.self (c.as_text.result.now, c.args.dot) is written put ∙ (λ i. set.insert (c.self.view_is i) (c.args.client.now, (c.as_text.ensures.same i, c.args.dot)))) c.add.ensures.ok

pub returns-in-Some-clause-err : goal.returns-in-Some-clause-err
returns-in-Some-clause-err c =
    let es = c.self.inside.by_client.entries in
    let fs = (c.get_mut.follows.lender c.add.new.self).entries in
    let m : map.FinMap text_cmp Filed = map.from_entries es in
    let is : map.get m c.args.client.now ≡ Some c.in-Some.filters.now = get_table text_total es c.args.client.now ∙ sym c.get_mut.ensures.value ∙ ap option_copied_mut c.in-Some.is in
    let written = insert_table text_total text_anti es fs c.args.client.now c.add.new.self ((c.get_mut.follows.holds c.add.new.self).3 (search rules)).0 in
    on_err_weaker c.add.result (λ same. ap spread (same_written text_total text_anti filed_total filed_anti m (map.from_entries fs) c.args.client.now c.in-Some.filters.now c.add.new.self is written same) ∙ c.self.view_is) c.add.ensures.err

pub invariant_of-self-2 : goal.invariant_of-self-2
invariant_of-self-2 c =
    let es = c.get_mut.follows.lender-at-none.entries in
    let fs = c.insert.new.self.entries in
    let written = insert_table text_total text_anti es fs c.in_ok-own.own c.add-2.new.self c.in_ok-insert.ensures.updates.0 in
    filled_new text_total text_anti filed_total filed_anti (map.from_entries es) (map.from_entries fs) c.in_ok-own.own c.add-2.new.self (c.as_text-2.result.now, c.args.dot) written (c.in_ok-add.ensures.ok ∙ ap (λ s. set.insert s (c.as_text-2.result.now, c.args.dot)) c.new-filters.ensures)
    (subst (λ t. IsFilled (map.from_entries {R = text_cmp} t.entries)) (sym c.get_mut.follows.holds-at-none) c.self.invariant)

pub returns-clause-ok : goal.returns-clause-ok
returns-clause-ok c =
    let es = c.get_mut.follows.lender-at-none.entries in
    let fs = c.insert.new.self.entries in
    let m : map.FinMap text_cmp Filed = map.from_entries es in
    let none : map.get m c.in_ok-own.own ≡ None =
    (λ i. map.get (map.from_entries {R = text_cmp} (c.get_mut.follows.holds-at-none i).entries) (c.in_ok-own.ensures i))
    ∙ get_table text_total c.self.inside.by_client.entries c.args.client.now ∙ sym c.get_mut.ensures.value ∙ ap option_copied_mut c.in_default.is in
    let written = insert_table text_total text_anti es fs c.in_ok-own.own c.add-2.new.self c.in_ok-insert.ensures.updates.0 in
    put_new text_total text_anti filed_total filed_anti m (map.from_entries fs) c.in_ok-own.own c.add-2.new.self (c.as_text-2.result.now, c.args.dot) none written (c.in_ok-add.ensures.ok ∙ ap (λ s. set.insert s (c.as_text-2.result.now, c.args.dot)) c.new-filters.ensures)
    ∙ (λ i. set.insert ((ap (λ t. spread (map.from_entries {R = text_cmp} t.entries)) c.get_mut.follows.holds-at-none ∙ c.self.view_is) i) (c.in_ok-own.ensures i, (c.as_text-2.ensures.same i, c.args.dot)))

pub invariant_of-self-in_err-add : goal.invariant_of-self-in_err-add
invariant_of-self-in_err-add c = subst (λ t. IsFilled (map.from_entries {R = text_cmp} t.entries)) (sym c.get_mut.follows.holds-at-none) c.self.invariant

pub invariant_of-self-in_err-own : goal.invariant_of-self-in_err-own
invariant_of-self-in_err-own c = subst (λ t. IsFilled (map.from_entries {R = text_cmp} t.entries)) (sym c.get_mut.follows.holds-at-none) c.self.invariant

pub invariant_of-self-in_err-insert : goal.invariant_of-self-in_err-insert
invariant_of-self-in_err-insert c =
    subst (λ (es : List (List ℕ × Filed)). IsFilled (map.from_entries {R = text_cmp} es)) (sym c.in_err-insert.ensures.err)
    (subst (λ t. IsFilled (map.from_entries {R = text_cmp} t.entries)) (sym c.get_mut.follows.holds-at-none) c.self.invariant)
