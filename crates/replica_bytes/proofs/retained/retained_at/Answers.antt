use Rattle.std.proofs.Common.{rules, ◌<◌, length}
use Rattle.replica_bytes.specs.Memory.{HasText, RetainedWants}
use Rattle.replica_bytes.specs.Values.{topic_entry}
use Rattle.replica_bytes.proofs.Loops.{read_some, topic_entry_begins}
use Rattle.replica_bytes.proofs.retained.retained_at.Goals as goal

pub returns-in_err-retained-clause-no_memory : goal.returns-in_err-retained-clause-no_memory
returns-in_err-retained-clause-no_memory c =
    let wants : 0 < length c.in_ok-entries.entries.items → RetainedWants c.args.bytes.now = λ some. record {
      count = c.in_ok-count.count;
      rest = c.in_ok-count.rest.now;
      read = c.in_ok-count.ensures.exact;
      wants = read_some topic_entry HasText topic_entry_begins c.in_ok-count.count c.in_ok-count.rest.now (c.in_ok-entries.entries.items, c.in_ok-entries.rest.now) c.in_ok-entries.ensures.exact some;
    } in
    search (rules, wants)
