use Rattle.std.proofs.Common.{◌≡◌, Some, None, rules, ap, sym, ◌∙◌}
use Rattle.std.specs.FinMap as map
use Rattle.std.specs.FinSet as set
use Rattle.std.specs.Option.{option_copied_mut}
use Rattle.subscription_set.specs.Members.{Clients}
use Rattle.subscription_set.specs.Filing.{spread, text_cmp}
use Rattle.law_maps.proofs.Tables.{get_table, insert_table, remove_table}
use Rattle.subscription_set.proofs.Spreading.{text_total, text_anti, take_written, take_last, filled_left, filled_last, spread_absent}
use Rattle.subscription_set.proofs.members.Members.remove.Goals as goal
use Rattle.subscription_set.proofs.members.Members.remove.Goals.{in-Some-1, in-None-1}

pub invariant_of-self : goal.invariant_of-self
invariant_of-self c =
    let es = c.self.inside.by_filter.entries in
    let fs = (c.get_mut.follows.lender c.remove.new.self).entries in
    let written = insert_table text_total text_anti es fs c.args.filter.now c.remove.new.self ((c.get_mut.follows.holds c.remove.new.self).3 (search rules)).0 in
    let gone = remove_table text_total text_anti fs c.remove-then-is_empty.new.self.entries c.args.filter.now c.remove-then-is_empty.ensures.updates.0 in
    filled_last text_total text_anti text_total text_anti (map.from_entries es) (map.from_entries fs) (map.from_entries c.remove-then-is_empty.new.self.entries) c.args.filter.now c.remove.new.self written gone c.self.invariant

pub invariant_of-self-else-is_empty : goal.invariant_of-self-else-is_empty
invariant_of-self-else-is_empty c =
    let es = c.self.inside.by_filter.entries in
    let fs = (c.get_mut.follows.lender c.remove.new.self).entries in
    let written = insert_table text_total text_anti es fs c.args.filter.now c.remove.new.self ((c.get_mut.follows.holds c.remove.new.self).3 (search rules)).0 in
    filled_left text_total text_anti text_total text_anti (map.from_entries es) (map.from_entries fs) c.args.filter.now c.remove.new.self written c.if-is_empty.ensures c.self.invariant

pub returns-then-is_empty : goal.returns-then-is_empty
returns-then-is_empty c =
    let es = c.self.inside.by_filter.entries in
    let fs = (c.get_mut.follows.lender c.remove.new.self).entries in
    let m : map.FinMap text_cmp Clients = map.from_entries es in
    let is : map.get m c.args.filter.now ≡ Some c.in-Some.clients.now = get_table text_total es c.args.filter.now ∙ sym c.get_mut.ensures.value ∙ ap option_copied_mut c.in-Some.is in
    let written = insert_table text_total text_anti es fs c.args.filter.now c.remove.new.self ((c.get_mut.follows.holds c.remove.new.self).3 (search rules)).0 in
    let gone = remove_table text_total text_anti fs c.remove-then-is_empty.new.self.entries c.args.filter.now c.remove-then-is_empty.ensures.updates.0 in
    let left = take_last text_total text_anti text_total text_anti m (map.from_entries fs) (map.from_entries c.remove-then-is_empty.new.self.entries) c.args.filter.now c.in-Some.clients.now c.remove.new.self c.args.client.now is written c.remove.ensures c.if-is_empty.ensures gone
    ∙ ap (λ v. set.remove v (c.args.filter.now, c.args.client.now)) c.self.view_is in
    elim c.match-remove.branch [ in-Some-1 w ↦ w.self-is ∙ left | in-None-1 w ↦ w.self-is ∙ left ]

pub returns-else-is_empty : goal.returns-else-is_empty
returns-else-is_empty c =
    let es = c.self.inside.by_filter.entries in
    let fs = (c.get_mut.follows.lender c.remove.new.self).entries in
    let m : map.FinMap text_cmp Clients = map.from_entries es in
    let is : map.get m c.args.filter.now ≡ Some c.in-Some.clients.now = get_table text_total es c.args.filter.now ∙ sym c.get_mut.ensures.value ∙ ap option_copied_mut c.in-Some.is in
    let written = insert_table text_total text_anti es fs c.args.filter.now c.remove.new.self ((c.get_mut.follows.holds c.remove.new.self).3 (search rules)).0 in
    take_written text_total text_anti text_total text_anti m (map.from_entries fs) c.args.filter.now c.in-Some.clients.now c.remove.new.self c.args.client.now is written c.remove.ensures
    ∙ ap (λ v. set.remove v (c.args.filter.now, c.args.client.now)) c.self.view_is

pub returns-in_default : goal.returns-in_default
returns-in_default c =
    let es = c.self.inside.by_filter.entries in
    let m : map.FinMap text_cmp Clients = map.from_entries es in
    let none : map.get m c.args.filter.now ≡ None = get_table text_total es c.args.filter.now ∙ sym c.get_mut.ensures.value ∙ ap option_copied_mut c.in_default.is in
    ap (λ t. spread (map.from_entries {R = text_cmp} t.entries)) c.get_mut.follows.holds-at-none ∙ spread_absent text_total text_anti text_total text_anti m c.args.filter.now c.args.client.now none
    ∙ ap (λ v. set.remove v (c.args.filter.now, c.args.client.now)) c.self.view_is
