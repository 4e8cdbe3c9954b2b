use Rattle.std.proofs.Common.{arith, inr}
use Rattle.std.proofs.lemmas.Result.{err_from_is_err_and}
use Rattle.replica_bytes.specs.Memory.{EntryWants}
use Rattle.replica_bytes.specs.Values.{dot_entry}
use Rattle.replica_bytes.proofs.Loops.{begun, dot_entry_begins, one_read, stops}
use Rattle.replica_bytes.proofs.subscriptions.entries_at.Goals as goal

pub returns-in_err-entry-clause-exact : goal.returns-in_err-entry-clause-exact
returns-in_err-entry-clause-exact c =
    let p = err_from_is_err_and c.from_residual.result c.from_residual.ensures.1 in
    rw (p.1, p.2) (stops dot_entry c.args.count c.args.bytes.now c.loop-i.i c.loop-i.entries.items c.loop-i.rest.now c.in_err-entry.field-0.0 c.loop-i-test.true c.in_err-entry.ensures.exact c.loop-i.invariant.read)

pub returns-in_err-push-clause-no_memory : goal.returns-in_err-push-clause-no_memory
returns-in_err-push-clause-no_memory c =
    let wants = begun EntryWants c.loop-i.i c.args.bytes.now c.loop-i.rest.now c.loop-i.invariant.began (dot_entry_begins c.loop-i.rest.now (c.in_ok-entry.entry, c.in_ok-entry.after.now) c.in_ok-entry.ensures.exact) in
    λ _. (omega (arith, c.loop-i-test.true), wants)

pub loop-i-preserved : goal.loop-i-preserved
loop-i-preserved c = record {
  read = rw c.in_ok-push.ensures.items (one_read dot_entry c.args.count c.args.bytes.now c.loop-i.i c.loop-i.entries.items c.loop-i.rest.now (c.in_ok-entry.entry, c.in_ok-entry.after.now) c.loop-i-test.true c.in_ok-entry.ensures.exact c.loop-i.invariant.read);
  began = inr (begun EntryWants c.loop-i.i c.args.bytes.now c.loop-i.rest.now c.loop-i.invariant.began (dot_entry_begins c.loop-i.rest.now (c.in_ok-entry.entry, c.in_ok-entry.after.now) c.in_ok-entry.ensures.exact));
}
