use Rattle.std.proofs.Common.{ap, ◌∙◌}
use Rattle.session_table.specs.Listing.{seats_in, table}
use Rattle.session_table.proofs.SeatMaps.{seats_empty}
use Rattle.session_table.proofs.Calling.{kept_empty}
use Rattle.session_table.proofs.sessions.Sessions.new.Goals as goal

pub invariant_of-result : goal.invariant_of-result
invariant_of-result c = kept_empty (table c.new.result.entries) _ (ap table c.new.ensures.empty) c.new-2.ensures c.new-3.ensures c.new-4.ensures

pub returns : goal.returns
returns c = ap (λ es. seats_in (table es)) c.new.ensures.empty ∙ seats_empty
