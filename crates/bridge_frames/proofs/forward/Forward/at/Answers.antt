use Rattle.std.proofs.Common.{rules, inl, inr}
use Rattle.replica_bytes.specs.Memory.{HasText}
use Rattle.bridge_frames.specs.Memory.{ForwardWants, PicksWant}
use Rattle.bridge_frames.proofs.forward.Forward.at.Goals as goal

pub returns-in_err-picks-clause-no_memory : goal.returns-in_err-picks-clause-no_memory
returns-in_err-picks-clause-no_memory c =
    let wants : PicksWant c.in_ok-plain.rest.now → ForwardWants c.args.bytes.now = λ w. record { value = c.in_ok-plain.plain; rest = c.in_ok-plain.rest.now; read = c.in_ok-plain.ensures.exact; wants = inl w } in
    search (rules, wants)

pub returns-in_err-message-clause-no_memory : goal.returns-in_err-message-clause-no_memory
returns-in_err-message-clause-no_memory c =
    let wants : HasText c.in_ok-picks.rest.now → ForwardWants c.args.bytes.now = λ w. record {
      value = c.in_ok-plain.plain;
      rest = c.in_ok-plain.rest.now;
      read = c.in_ok-plain.ensures.exact;
      wants = inr (record { value = c.in_ok-picks.picks; rest = c.in_ok-picks.rest.now; read = c.in_ok-picks.ensures.exact; wants = w });
    } in
    search (rules, wants)
