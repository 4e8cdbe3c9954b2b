use Rattle.std.proofs.Common.{rules, inr}
use Rattle.std.proofs.lemmas.Result.{err_from_is_err_and}
use Rattle.replica_bytes.specs.Memory.{HasText}
use Rattle.replica_bytes.specs.Values.{topic_entry}
use Rattle.replica_bytes.proofs.Loops.{begun, topic_entry_begins, one_read, stops}
use Rattle.replica_bytes.proofs.retained.topics_at.Goals as goal

pub returns-in_err-entry-clause-exact : goal.returns-in_err-entry-clause-exact
returns-in_err-entry-clause-exact c =
    let p = err_from_is_err_and c.from_residual.result c.from_residual.ensures.1 in
    rw (p.1, p.2) (stops topic_entry c.args.count c.args.bytes.now c.loop-i.i c.loop-i.entries.items c.loop-i.rest.now c.in_err-entry.field-0.0 c.loop-i-test.true c.in_err-entry.ensures.exact c.loop-i.invariant.read)

pub loop-i-preserved : goal.loop-i-preserved
loop-i-preserved c = record {
  read = rw c.in_ok-push.ensures.items (one_read topic_entry c.args.count c.args.bytes.now c.loop-i.i c.loop-i.entries.items c.loop-i.rest.now (c.in_ok-entry.entry, c.in_ok-entry.after.now) c.loop-i-test.true c.in_ok-entry.ensures.exact c.loop-i.invariant.read);
  began = inr (begun HasText c.loop-i.i c.args.bytes.now c.loop-i.rest.now c.loop-i.invariant.began (topic_entry_begins c.loop-i.rest.now (c.in_ok-entry.entry, c.in_ok-entry.after.now) c.in_ok-entry.ensures.exact));
  own = search rules;
}
