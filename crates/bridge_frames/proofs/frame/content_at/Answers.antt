use Rattle.std.proofs.Common.{rules}
use Rattle.bridge_frames.specs.Memory.{BodyWants, ContentWants}
use Rattle.bridge_frames.proofs.FrameLaws.{head_read}
use Rattle.bridge_frames.proofs.frame.content_at.Goals as goal

pub returns-in_err-body-clause-no_memory : goal.returns-in_err-body-clause-no_memory
returns-in_err-body-clause-no_memory c =
    let wants : BodyWants c.in_ok-kind.kind c.in_ok-to.rest.now → ContentWants c.args.bytes.now = λ w. record {
      front = (c.in_ok-kind.kind, (c.in_ok-from.from, c.in_ok-to.to));
      rest = c.in_ok-to.rest.now;
      read = head_read c.args.bytes.now c.in_ok-kind.rest.now c.in_ok-from.rest.now c.in_ok-to.rest.now c.in_ok-kind.kind c.in_ok-from.from c.in_ok-to.to c.in_ok-kind.ensures.exact c.in_ok-from.ensures.exact c.in_ok-to.ensures.exact;
      wants = w;
    } in
    search (rules, wants)
