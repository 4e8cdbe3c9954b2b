use Rattle.std.proofs.Common.{◌++◌, ◌∙◌, ap}
use Rattle.broker_sockets.proofs.Buffering.{behind-more}
use Rattle.broker_sockets.specs.Buffers.{behind}
use Rattle.broker_sockets.proofs.queue.append.Goals as goal

pub returns-clause-ok : goal.returns-clause-ok
returns-clause-ok c =
    rw (c.in_ok-push_back.ensures.items, c.replace-full.ensures.value, c.replace-full.ensures.after, c.in_ok-reserve.ensures.items)
    (behind-more c.args.rest.now.items c.args.last.now c.in_ok-fresh.fresh ∙ ap (λ t. behind c.args.rest.now.items c.args.last.now ++ t) c.in_ok-fresh.ensures)
