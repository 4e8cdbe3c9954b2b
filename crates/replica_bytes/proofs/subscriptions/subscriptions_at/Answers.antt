use Rattle.std.proofs.Common.{rules, ◌<◌, length, inr}
use Rattle.replica_bytes.specs.Memory.{EntryWants, SubscriptionsWant, WantsSome}
use Rattle.replica_bytes.specs.Values.{dot_entry}
use Rattle.replica_bytes.proofs.Loops.{read_some, dot_entry_begins}
use Rattle.replica_bytes.proofs.subscriptions.subscriptions_at.Goals as goal

pub returns-in_err-entries-clause-no_memory : goal.returns-in_err-entries-clause-no_memory
returns-in_err-entries-clause-no_memory c =
    let wants : WantsSome EntryWants c.in_ok-count.count c.in_ok-count.rest.now → SubscriptionsWant c.args.bytes.now = λ some. inr (record {
      value = c.in_ok-seen.seen;
      rest = c.in_ok-seen.rest.now;
      read = c.in_ok-seen.ensures.exact;
      wants = record { count = c.in_ok-count.count; rest = c.in_ok-count.rest.now; read = c.in_ok-count.ensures.exact; wants = some };
    }) in
    search (rules, wants)

pub returns-in_err-set-clause-no_memory : goal.returns-in_err-set-clause-no_memory
returns-in_err-set-clause-no_memory c =
    let wants : 0 < length c.in_ok-entries.entries.items → SubscriptionsWant c.args.bytes.now = λ some. inr (record {
      value = c.in_ok-seen.seen;
      rest = c.in_ok-seen.rest.now;
      read = c.in_ok-seen.ensures.exact;
      wants = record {
        count = c.in_ok-count.count;
        rest = c.in_ok-count.rest.now;
        read = c.in_ok-count.ensures.exact;
        wants = read_some dot_entry EntryWants dot_entry_begins c.in_ok-count.count c.in_ok-count.rest.now (c.in_ok-entries.entries.items, c.in_ok-entries.rest.now) c.in_ok-entries.ensures.exact some;
      };
    }) in
    search (rules, wants)
