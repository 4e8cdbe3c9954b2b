use Rattle.std.proofs.Common.{length, ap, arith}
use Rattle.causal_context.proofs.SpellingLaws.{bytes_same, length-ranges_bytes}
use Rattle.causal_context.proofs.context.Context.bytes_len.Goals as goal

pub returns : goal.returns
returns c =
    let ranges = c.self.inside.ranges.items in
    omega (arith, length-ranges_bytes ranges, ap length (bytes_same ranges c.args.self.now c.self.invariant c.self.view_is))
