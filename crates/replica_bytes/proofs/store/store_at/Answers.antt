use Rattle.std.proofs.Common.{rules, inl, inr}
use Rattle.replica_bytes.specs.Memory.{RetainedWants, SubscriptionsWant, WantsMemory}
use Rattle.replica_bytes.proofs.store.store_at.Goals as goal

pub returns-in_err-subscriptions-clause-no_memory : goal.returns-in_err-subscriptions-clause-no_memory
returns-in_err-subscriptions-clause-no_memory c =
    let wants : SubscriptionsWant c.in_ok-taken.rest.now → WantsMemory c.args.bytes.now = λ w. inr (record {
      value = c.in_ok-taken.taken;
      rest = c.in_ok-taken.rest.now;
      read = c.in_ok-taken.ensures.exact;
      wants = inl w;
    }) in
    search (rules, wants)

pub returns-in_err-retained-clause-no_memory : goal.returns-in_err-retained-clause-no_memory
returns-in_err-retained-clause-no_memory c =
    let wants : RetainedWants c.in_ok-subscriptions.rest.now → WantsMemory c.args.bytes.now = λ w. inr (record {
      value = c.in_ok-taken.taken;
      rest = c.in_ok-taken.rest.now;
      read = c.in_ok-taken.ensures.exact;
      wants = inr (record { value = c.in_ok-subscriptions.subscriptions; rest = c.in_ok-subscriptions.rest.now; read = c.in_ok-subscriptions.ensures.read; wants = w });
    }) in
    search (rules, wants)
