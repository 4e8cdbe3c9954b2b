use Rattle.std.proofs.Common.{◌∙◌}
use Rattle.qos_handshakes.proofs.RiseLaws.{ended, keys-identifiers, sorted-rise}
use Rattle.qos_handshakes.proofs.incoming.identifiers_in.Goals as goal

pub returns-clause-all : goal.returns-clause-all
returns-clause-all c = ended c.loop-id.ids.items c.loop-id.id-iterator _ c.loop-id.invariant.all c.in-None.ensures.steps.0 ∙ keys-identifiers c.args.exchanges.now.entries

pub returns-clause-rise : goal.returns-clause-rise
returns-clause-rise c =
    let all = ended c.loop-id.ids.items c.loop-id.id-iterator _ c.loop-id.invariant.all c.in-None.ensures.steps.0 in
    sorted-rise c.loop-id.ids.items (rw all c.keys-id-items.ensures.ordered) c.loop-id.invariant.small
