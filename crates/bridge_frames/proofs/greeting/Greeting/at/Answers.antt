use Rattle.std.proofs.Common.{rules}
use Rattle.causal_context.specs.Spelling as contexts
use Rattle.bridge_frames.specs.Memory.{GreetingWants}
use Rattle.bridge_frames.proofs.greeting.Greeting.at.Goals as goal

pub returns-in_err-dots-clause-no_memory : goal.returns-in_err-dots-clause-no_memory
returns-in_err-dots-clause-no_memory c =
    let wants : contexts.WantsMemory c.in_ok-took.rest.now → GreetingWants c.args.bytes.now = λ w. record {
      value = c.in_ok-_format._format;
      rest = c.in_ok-_format.rest.now;
      read = c.in_ok-_format.ensures.exact;
      wants = record {
        value = c.in_ok-gone.gone;
        rest = c.in_ok-gone.rest.now;
        read = c.in_ok-gone.ensures.exact;
        wants = record { value = c.in_ok-took.took; rest = c.in_ok-took.rest.now; read = c.in_ok-took.ensures.exact; wants = w };
      };
    } in
    search (rules, wants)
