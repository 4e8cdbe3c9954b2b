use Rattle.std.proofs.Common.{◌≡◌, ◌<◌, ℕ, List, length, sym, ap, subst, ◌∙◌}
use Rattle.std.specs.FinSet as set
use Rattle.std.specs.List.{HoldsAt}
use Rattle.std.specs.List.Sorted.{IsStrictlySortedBy}
use Rattle.std.specs.declared.cmp.Ordering.TheVariants.{Equal}
use Rattle.subscription_set.specs.Filing.{text_cmp}
use Rattle.subscription_set.proofs.Seating.{IsPlaceFor, absent_set, taken_set, taken_sorted}
use Rattle.subscription_set.proofs.Spreading.{text_total, text_anti}
use Rattle.subscription_set.proofs.clients.take_out.Goals as goal

pub returns-in-Ok-clause-order : goal.returns-in-Ok-clause-order
returns-in-Ok-clause-order c = subst (IsStrictlySortedBy text_cmp) (sym c.remove.ensures.items) (taken_sorted text_total text_anti c.args.clients.now.items c.in-Ok.place c.requires)

pub returns-in-Ok-clause-left : goal.returns-in-Ok-clause-left
returns-in-Ok-clause-left c =
    let xs : List (List ℕ) = c.args.clients.now.items in
    let i = c.in-Ok.place in
    let x = c.args.client.now in
    ap (λ (ks : List (List ℕ)). set.from_list {R = text_cmp} ks) c.remove.ensures.items
    ∙ taken_set text_total text_anti xs i x c.requires (subst (λ (l : List (List ℕ)). i < length l) c.as_slice.ensures.value c.in-Ok.ensures.bound)
    (subst (λ (l : List (List ℕ)). HoldsAt (λ y. text_cmp y x ≡ Equal) l i) c.as_slice.ensures.value c.in-Ok.ensures.position)

pub returns-in_default-clause-left : goal.returns-in_default-clause-left
returns-in_default-clause-left c =
    let i = c.in_default.field-0 in
    let x = c.args.client.now in
    absent_set text_total text_anti c.args.clients.now.items i x c.requires (subst (λ (l : List (List ℕ)). IsPlaceFor text_total text_anti l x i) c.as_slice.ensures.value c.in_default.ensures.position)
