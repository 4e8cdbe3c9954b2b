use Rattle.std.proofs.Common.{drop, ap, ◌∙◌}
use Rattle.bridge_deltas.specs.Shipped.{dots_with}
use Rattle.bridge_deltas.proofs.Confirming.{dots_behind}
use Rattle.bridge_deltas.proofs.buffer.dots_with.Goals as goal

pub loop-i-init : goal.loop-i-init
loop-i-init c =
    ap (λ s. dots_with s (drop c.args.confirmed c.args.deltas.now.items)) c.in_ok-dots.ensures.same ∙ dots_behind c.args.belief.now c.args.confirmed c.args.deltas.now.items c.requires
