use Rattle.std.proofs.Common.{◌≡◌, ◌≤◌, inr, ℕ, suc, ◌+◌, ◌-◌, sym, ◌∙◌, subst, arith}
use Rattle.std.proofs.lemmas.Result.{err_from_is_err_and}
use Rattle.mqtt_fields.specs.Reading.{◌>>=◌}
use Rattle.mqtt_message.specs.Spelling.{values_at}
use Rattle.mqtt_message.proofs.NumbersLaws.{onto, onto_more, onto_stops}
use Rattle.replica_bytes.specs.Memory.{HasText}
use Rattle.replica_bytes.proofs.Loops.{begun}
use Rattle.bridge_frames.specs.Forwards.{pick}
use Rattle.bridge_frames.proofs.ForwardLaws.{pick_begins}
use Rattle.bridge_frames.proofs.pick.list_at.Goals as goal

-- what is left to read, with one pick more
left : (count i : ℕ) → i + 1 ≤ count → count - i ≡ suc (count - (i + 1))
left count i more = omega arith

pub returns-in_err-pick-clause-exact : goal.returns-in_err-pick-clause-exact
returns-in_err-pick-clause-exact c =
    let Left : ℕ → Type 0 = λ k. (values_at pick k c.loop-i.rest.now >>= λ more. onto c.loop-i.list.items more) ≡ values_at pick c.args.count c.args.bytes.now in
    let here = subst Left (left c.args.count c.loop-i.i (omega arith)) c.loop-i.invariant.read in
    let p = err_from_is_err_and c.from_residual.result c.from_residual.ensures.1 in
    rw (p.1, p.2) (onto_stops pick c.loop-i.list.items (c.args.count - (c.loop-i.i + 1)) c.loop-i.rest.now c.in_err-pick.field-0.0 (values_at pick c.args.count c.args.bytes.now) c.in_err-pick.ensures.exact here)

pub loop-i-preserved : goal.loop-i-preserved
loop-i-preserved c =
    let Left : ℕ → Type 0 = λ k. (values_at pick k c.loop-i.rest.now >>= λ more. onto c.loop-i.list.items more) ≡ values_at pick c.args.count c.args.bytes.now in
    let here = subst Left (left c.args.count c.loop-i.i (omega arith)) c.loop-i.invariant.read in
    record {
      read = rw c.in_ok-push.ensures.items (sym (onto_more pick c.loop-i.list.items (c.args.count - (c.loop-i.i + 1)) c.loop-i.rest.now (c.in_ok-pick.pick, c.in_ok-pick.after.now) c.in_ok-pick.ensures.exact) ∙ here);
      began = inr (begun HasText c.loop-i.i c.args.bytes.now c.loop-i.rest.now c.loop-i.invariant.began (pick_begins c.loop-i.rest.now (c.in_ok-pick.pick, c.in_ok-pick.after.now) c.in_ok-pick.ensures.exact));
    }

pub returns-in_err-push-clause-no_memory : goal.returns-in_err-push-clause-no_memory
returns-in_err-push-clause-no_memory c =
    let wants = begun HasText c.loop-i.i c.args.bytes.now c.loop-i.rest.now c.loop-i.invariant.began (pick_begins c.loop-i.rest.now (c.in_ok-pick.pick, c.in_ok-pick.after.now) c.in_ok-pick.ensures.exact) in
    λ _. (omega (arith, c.loop-i-test.true), wants)
