use Rattle.session_table.specs.Listing.{table}
use Rattle.session_table.proofs.RowLaws.{all-durable}
use Rattle.session_table.proofs.sessions.Sessions.are_durable.Goals as goal

pub returns : goal.returns
returns c = all-durable c.stays_durable.ensures (table c.self.inside.seats.entries) _ c.self.view_is c.self.invariant.told
