use Rattle.std.proofs.Common.{rules}
use Rattle.replica_bytes.specs.Memory.{After}
use Rattle.bridge_frames.specs.Forwards.{lane_number}
use Rattle.bridge_frames.specs.Memory.{ForwardWants}
use Rattle.bridge_frames.proofs.body.forward_at.Goals as goal

pub returns-in_err-forward-clause-no_memory : goal.returns-in_err-forward-clause-no_memory
returns-in_err-forward-clause-no_memory c =
    let wants : ForwardWants c.in_ok-number.rest.now → After lane_number ForwardWants c.args.bytes.now = λ w. record { value = c.in_ok-number.number; rest = c.in_ok-number.rest.now; read = c.in_ok-number.ensures.exact; wants = w } in
    search (rules, wants)
