use Rattle.std.proofs.Common.{◌≡◌, ◌+◌, ◌++◌, ◌∷◌, [], List, Some, Ok, drop, map, ap, sym, subst, ◌∙◌, arith, append-nil}
use Rattle.std.proofs.lemmas.List.{drop_all, drop_more, map-append}
use Rattle.std.proofs.lemmas.Result.{err_from_is_err_and}
use Rattle.row_store.specs.Noted.{pair_of, plain_value}
use Rattle.row_journal.specs.Fields.{or_malformed}
use Rattle.row_journal.specs.Items.{item_of}
use Rattle.row_journal.specs.Spelling.{last_put, pairs_in}
use Rattle.row_journal.proofs.EndLaws.{onto_none, onto_read, read_more, read_stops}
use Rattle.row_journal.proofs.items.changes_in.Goals as goal

pub loop-item-init : goal.loop-item-init
loop-item-init c = rw (c.new-changes.ensures.items, c.new-before.ensures.items) (onto_none (pairs_in [] (map item_of c.args.items.now)))

pub returns-in_err-value : goal.returns-in_err-value
returns-in_err-value c =
    let p = err_from_is_err_and c.from_residual.result c.from_residual.ensures.1 in
    let items = c.args.items.now in
    let i = c.loop-item.item-index in
    let next : drop i items ≡ c.item-item.result ∷ drop (i + 1) items = drop_more items i c.item-item.result c.loop-item-test.true ∙ ap (λ x. x ∷ drop (i + 1) items) (sym c.item-item.is) in
    let before = c.loop-item.before.items in
    let fails = read_stops (map pair_of c.loop-item.changes.items) before (item_of c.item-item.result) (map item_of (drop (i + 1) items)) c.in_err-value.field-0.0 (pairs_in [] (map item_of items))
    (rw (sym c.deref.ensures.value) c.in_err-value.ensures) (ap (λ xs. onto_read (map pair_of c.loop-item.changes.items) (pairs_in before (map item_of xs))) (sym next) ∙ c.loop-item.invariant) in
    rw (p.1, p.2) fails

pub loop-item-preserved : goal.loop-item-preserved
loop-item-preserved c =
    let items = c.args.items.now in
    let i = c.loop-item.item-index in
    let next : drop i items ≡ c.item-item.result ∷ drop (i + 1) items = drop_more items i c.item-item.result c.loop-item-test.true ∙ ap (λ x. x ∷ drop (i + 1) items) (sym c.item-item.is) in
    let before = c.loop-item.before.items in
    let done = map pair_of c.loop-item.changes.items in
    let more = read_more done before (item_of c.item-item.result) (map item_of (drop (i + 1) items)) (plain_value c.in_ok-value.value) (pairs_in [] (map item_of items))
    (rw (sym c.deref.ensures.value) c.in_ok-value.ensures) (ap (λ xs. onto_read done (pairs_in before (map item_of xs))) (sym next) ∙ c.loop-item.invariant) in
    rw (c.in_ok-push.ensures.items, map-append pair_of c.loop-item.changes.items (c.in_ok-change_of.field-0 ∷ []), c.in_ok-change_of.ensures, c.in_ok-before.ensures) more

pub returns : goal.returns
returns c =
    let done = map pair_of c.loop-item.changes.items in
    ap or_malformed (sym (ap (λ xs. onto_read done (pairs_in c.loop-item.before.items (map item_of xs))) (sym (drop_all c.loop-item.item-index c.args.items.now c.loop-item-test.false)) ∙ c.loop-item.invariant)) ∙ ap Ok (append-nil done)
