use Rattle.qos_handshakes.proofs.RangeLaws.{releases-range}
use Rattle.qos_handshakes.proofs.outgoing.Outgoing.releases.Goals as goal

pub returns-clause-identifiers : goal.returns-clause-identifiers
returns-clause-identifiers c = releases-range (λ ids. ids.items) _ c.releases.result c.are_in_range.ensures c.releases.ensures.ids
