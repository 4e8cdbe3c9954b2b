use Rattle.law_handshakes.proofs.OutboxLaws.{kept-where}
use Rattle.law_handshakes.proofs.outbox.entries_are_kept_where_they_make_a_session.Goals as goal

pub returns : goal.returns
returns c = kept-where
