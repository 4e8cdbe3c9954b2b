use Rattle.std.proofs.Common.{◌≡◌, Some, None, rules, ap, sym, subst, ◌∙◌}
use Rattle.std.proofs.lemmas.Result.{on_ok_weaker, on_err_weaker}
use Rattle.std.specs.FinMap as map
use Rattle.std.specs.FinSet as set
use Rattle.std.specs.Option.{option_copied_mut}
use Rattle.subscription_set.specs.Members.{Clients}
use Rattle.subscription_set.specs.Filing.{IsFilled, spread, text_cmp}
use Rattle.law_maps.proofs.Tables.{get_table, insert_table}
use Rattle.subscription_set.proofs.Spreading.{text_total, text_anti, same_written, put_written, put_new, filled_written, filled_new}
use Rattle.subscription_set.proofs.members.Members.add.Goals as goal

pub invariant_of-self : goal.invariant_of-self
invariant_of-self c =
    let es = c.self.inside.by_filter.entries in
    let fs = (c.get_mut.follows.lender c.insert.new.self).entries in
    let m : map.FinMap text_cmp Clients = map.from_entries es in
    let is : map.get m c.args.filter.now ≡ Some c.in-Some.clients.now = get_table text_total es c.args.filter.now ∙ sym c.get_mut.ensures.value ∙ ap option_copied_mut c.in-Some.is in
    let written = insert_table text_total text_anti es fs c.args.filter.now c.insert.new.self ((c.get_mut.follows.holds c.insert.new.self).3 (search rules)).0 in
    filled_written text_total text_anti text_total text_anti c.insert.result m (map.from_entries fs) c.args.filter.now c.in-Some.clients.now c.insert.new.self c.args.client.now is written c.insert.ensures.ok c.insert.ensures.err c.self.invariant

pub returns-in-Some-clause-ok : goal.returns-in-Some-clause-ok
returns-in-Some-clause-ok c =
    let es = c.self.inside.by_filter.entries in
    let fs = (c.get_mut.follows.lender c.insert.new.self).entries in
    let m : map.FinMap text_cmp Clients = map.from_entries es in
    let is : map.get m c.args.filter.now ≡ Some c.in-Some.clients.now = get_table text_total es c.args.filter.now ∙ sym c.get_mut.ensures.value ∙ ap option_copied_mut c.in-Some.is in
    let written = insert_table text_total text_anti es fs c.args.filter.now c.insert.new.self ((c.get_mut.follows.holds c.insert.new.self).3 (search rules)).0 in
    on_ok_weaker c.insert.result (λ put. put_written text_total text_anti text_total text_anti m (map.from_entries fs) c.args.filter.now c.in-Some.clients.now c.insert.new.self c.args.client.now is written put ∙ ap (λ v. set.insert v (c.args.filter.now, c.args.client.now)) c.self.view_is) c.insert.ensures.ok

pub returns-in-Some-clause-err : goal.returns-in-Some-clause-err
returns-in-Some-clause-err c =
    let es = c.self.inside.by_filter.entries in
    let fs = (c.get_mut.follows.lender c.insert.new.self).entries in
    let m : map.FinMap text_cmp Clients = map.from_entries es in
    let is : map.get m c.args.filter.now ≡ Some c.in-Some.clients.now = get_table text_total es c.args.filter.now ∙ sym c.get_mut.ensures.value ∙ ap option_copied_mut c.in-Some.is in
    let written = insert_table text_total text_anti es fs c.args.filter.now c.insert.new.self ((c.get_mut.follows.holds c.insert.new.self).3 (search rules)).0 in
    on_err_weaker c.insert.result (λ same. ap spread (same_written text_total text_anti text_total text_anti m (map.from_entries fs) c.args.filter.now c.in-Some.clients.now c.insert.new.self is written same) ∙ c.self.view_is) c.insert.ensures.err

pub invariant_of-self-2 : goal.invariant_of-self-2
invariant_of-self-2 c =
    let es = c.get_mut.follows.lender-at-none.entries in
    let fs = c.insert-3.new.self.entries in
    let written = insert_table text_total text_anti es fs c.in_ok-own.own c.insert-2.new.self c.in_ok-insert-2.ensures.updates.0 in
    filled_new text_total text_anti text_total text_anti (map.from_entries es) (map.from_entries fs) c.in_ok-own.own c.insert-2.new.self c.args.client.now written (c.in_ok-insert.ensures.ok ∙ ap (λ s. set.insert s c.args.client.now) c.new-clients.ensures)
    (subst (λ t. IsFilled (map.from_entries {R = text_cmp} t.entries)) (sym c.get_mut.follows.holds-at-none) c.self.invariant)

pub returns-clause-ok : goal.returns-clause-ok
returns-clause-ok c =
    let es = c.get_mut.follows.lender-at-none.entries in
    let fs = c.insert-3.new.self.entries in
    let m : map.FinMap text_cmp Clients = map.from_entries es in
    let none : map.get m c.in_ok-own.own ≡ None =
    (λ i. map.get (map.from_entries {R = text_cmp} (c.get_mut.follows.holds-at-none i).entries) (c.in_ok-own.ensures i))
    ∙ get_table text_total c.self.inside.by_filter.entries c.args.filter.now ∙ sym c.get_mut.ensures.value ∙ ap option_copied_mut c.in_default.is in
    let written = insert_table text_total text_anti es fs c.in_ok-own.own c.insert-2.new.self c.in_ok-insert-2.ensures.updates.0 in
    put_new text_total text_anti text_total text_anti m (map.from_entries fs) c.in_ok-own.own c.insert-2.new.self c.args.client.now none written (c.in_ok-insert.ensures.ok ∙ ap (λ s. set.insert s c.args.client.now) c.new-clients.ensures)
    ∙ (λ i. set.insert ((ap (λ t. spread (map.from_entries {R = text_cmp} t.entries)) c.get_mut.follows.holds-at-none ∙ c.self.view_is) i) (c.in_ok-own.ensures i, c.args.client.now))
