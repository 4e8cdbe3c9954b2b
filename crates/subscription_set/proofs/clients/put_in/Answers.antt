use Rattle.std.proofs.Common.{◌≡◌, ◌<◌, ℕ, List, length, sym, ap, subst, ◌∙◌}
use Rattle.std.specs.FinSet as set
use Rattle.std.specs.List.{HoldsAt, insert}
use Rattle.std.specs.List.Sorted.{IsStrictlySortedBy}
use Rattle.std.specs.declared.cmp.Ordering.TheVariants.{Equal}
use Rattle.subscription_set.specs.Filing.{text_cmp}
use Rattle.subscription_set.proofs.Seating.{IsPlaceFor, put_set, put_sorted, there_set}
use Rattle.subscription_set.proofs.Spreading.{text_total, text_anti}
use Rattle.subscription_set.proofs.clients.put_in.Goals as goal

pub returns-in-Ok-clause-ok : goal.returns-in-Ok-clause-ok
returns-in-Ok-clause-ok c =
    let i = c.in-Ok.field-0 in
    let x = c.args.client.now in
    there_set text_total text_anti c.args.clients.now.items i x (subst (λ (l : List (List ℕ)). i < length l) c.as_slice.ensures.value c.in-Ok.ensures.bound)
    (subst (λ (l : List (List ℕ)). HoldsAt (λ y. text_cmp y x ≡ Equal) l i) c.as_slice.ensures.value c.in-Ok.ensures.position)

pub returns-in_ok-insert-in-Err-clause-order : goal.returns-in_ok-insert-in-Err-clause-order
returns-in_ok-insert-in-Err-clause-order c =
    let xs : List (List ℕ) = c.args.clients.now.items in
    let i = c.in-Err.place in
    let x = c.args.client.now in
    let put = c.in_ok-insert-in-Err.ensures.items ∙ ap (insert xs i) c.in_ok-own-in-Err.ensures in
    subst (IsStrictlySortedBy text_cmp) (sym put) (put_sorted text_total text_anti xs i x c.requires (subst (λ (l : List (List ℕ)). IsPlaceFor text_total text_anti l x i) c.as_slice.ensures.value c.in-Err.ensures.position))

pub returns-in_ok-insert-in-Err-clause-ok : goal.returns-in_ok-insert-in-Err-clause-ok
returns-in_ok-insert-in-Err-clause-ok c =
    let xs : List (List ℕ) = c.args.clients.now.items in
    let i = c.in-Err.place in
    let put = c.in_ok-insert-in-Err.ensures.items ∙ ap (insert xs i) c.in_ok-own-in-Err.ensures in
    ap (λ (ks : List (List ℕ)). set.from_list {R = text_cmp} ks) put ∙ put_set text_total text_anti xs i c.args.client.now
