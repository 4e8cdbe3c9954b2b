use Rattle.std.proofs.Common.{◌≡◌, ◌≤◌, ℕ, suc, ◌+◌, ◌-◌, sym, ◌∙◌, subst, arith}
use Rattle.std.specs.Int.{w16}
use Rattle.std.proofs.lemmas.Result.{err_from_is_err_and}
use Rattle.mqtt_fields.specs.Reading.{◌>>=◌}
use Rattle.mqtt_fields.specs.Numbers.{number}
use Rattle.mqtt_message.specs.Spelling.{values_at}
use Rattle.mqtt_message.proofs.NumbersLaws.{onto, onto_more, onto_stops}
use Rattle.session_rows.proofs.field.numbers_at.Goals as goal

-- what is left to read, with one number more
left : (count i : ℕ) → i + 1 ≤ count → count - i ≡ suc (count - (i + 1))
left count i more = omega arith

pub returns-in_err-n-clause-exact : goal.returns-in_err-n-clause-exact
returns-in_err-n-clause-exact c =
    let Left : ℕ → Type 0 = λ k. (values_at (number w16) k c.loop-i.rest.now >>= λ more. onto c.loop-i.numbers.items more) ≡ values_at (number w16) c.args.count c.args.bytes.now in
    let here = subst Left (left c.args.count c.loop-i.i (omega arith)) c.loop-i.invariant in
    let p = err_from_is_err_and c.from_residual.result c.from_residual.ensures.1 in
    rw (p.1, p.2) (onto_stops (number w16) c.loop-i.numbers.items (c.args.count - (c.loop-i.i + 1)) c.loop-i.rest.now c.in_err-n.field-0.0 (values_at (number w16) c.args.count c.args.bytes.now) c.in_err-n.ensures.exact here)

pub loop-i-preserved : goal.loop-i-preserved
loop-i-preserved c =
    let Left : ℕ → Type 0 = λ k. (values_at (number w16) k c.loop-i.rest.now >>= λ more. onto c.loop-i.numbers.items more) ≡ values_at (number w16) c.args.count c.args.bytes.now in
    let here = subst Left (left c.args.count c.loop-i.i (omega arith)) c.loop-i.invariant in
    rw c.in_ok-push.ensures.items (sym (onto_more (number w16) c.loop-i.numbers.items (c.args.count - (c.loop-i.i + 1)) c.loop-i.rest.now (c.in_ok-n.n, c.in_ok-n.after.now) c.in_ok-n.ensures.exact) ∙ here)
