use Rattle.std.proofs.Common.{ap, ◌∙◌}
use Rattle.subscription_set.specs.Standing.{seen_of}
use Rattle.node_rows.proofs.Opening.{all_among, far_seen, far_taken}
use Rattle.node_rows.proofs.among.is_among.Goals as goal

pub returns-then-not-dots_among : goal.returns-then-not-dots_among
returns-then-not-dots_among c = far_taken c.args.nodes c.args.store.now c.taken.result.now c.dots_among.result c.taken.ensures c.dots_among.ensures c.if-not-dots_among.true

pub returns-then-not-dots_among-2 : goal.returns-then-not-dots_among-2
returns-then-not-dots_among-2 c = far_seen c.args.nodes c.args.store.now c.seen.result.now c.dots_among-2.result (c.seen.ensures ∙ ap seen_of c.subscriptions.ensures) c.dots_among-2.ensures c.if-not-dots_among-2.true

pub returns : goal.returns
returns c =
    all_among c.args.nodes c.args.store.now c.taken.result.now c.seen.result.now c.retained.result.now c.stamps_among.result c.taken.ensures (c.dots_among.ensures.0 c.if-not-dots_among.false) (c.seen.ensures ∙ ap seen_of c.subscriptions.ensures)
    (c.dots_among-2.ensures.0 c.if-not-dots_among-2.false) c.retained.ensures c.stamps_among.ensures
