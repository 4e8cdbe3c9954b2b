use Rattle.std.proofs.Common.{◌≡◌, ◌≤◌, ℕ, suc, ◌+◌, ◌-◌, map, [], ◌∷◌, sym, ◌∙◌, subst, arith}
use Rattle.std.proofs.lemmas.List.{map-append}
use Rattle.std.proofs.lemmas.Result.{err_from_is_err_and}
use Rattle.mqtt_fields.specs.Reading.{◌>>=◌}
use Rattle.row_journal.specs.Fields.{values_at}
use Rattle.row_journal.proofs.NumbersLaws.{onto, onto_more, onto_stops}
use Rattle.row_journal.specs.Items.{item_of}
use Rattle.row_journal.specs.Spelling.{item}
use Rattle.row_journal.proofs.items.list_at.Goals as goal

-- what is left to read, with one change more
left : (count i : ℕ) → i + 1 ≤ count → count - i ≡ suc (count - (i + 1))
left count i more = omega arith

pub returns-in_err-change : goal.returns-in_err-change
returns-in_err-change c =
    let before = map item_of c.loop-i.list.items in
    let Left : ℕ → Type 0 = λ k. (values_at item k c.loop-i.rest.now >>= λ more. onto before more) ≡ values_at item c.args.count c.args.bytes.now in
    let here = subst Left (left c.args.count c.loop-i.i (omega arith)) c.loop-i.invariant in
    let p = err_from_is_err_and c.from_residual.result c.from_residual.ensures.1 in
    rw (p.1, p.2) (onto_stops item before (c.args.count - (c.loop-i.i + 1)) c.loop-i.rest.now c.in_err-change.field-0.0 (values_at item c.args.count c.args.bytes.now) c.in_err-change.ensures here)

pub loop-i-preserved : goal.loop-i-preserved
loop-i-preserved c =
    let before = map item_of c.loop-i.list.items in
    let Left : ℕ → Type 0 = λ k. (values_at item k c.loop-i.rest.now >>= λ more. onto before more) ≡ values_at item c.args.count c.args.bytes.now in
    let here = subst Left (left c.args.count c.loop-i.i (omega arith)) c.loop-i.invariant in
    rw (c.in_ok-push.ensures.items, map-append item_of c.loop-i.list.items (c.in_ok-change.change ∷ [])) (sym (onto_more item before (c.args.count - (c.loop-i.i + 1)) c.loop-i.rest.now (item_of c.in_ok-change.change, c.in_ok-change.after.now) c.in_ok-change.ensures) ∙ here)
