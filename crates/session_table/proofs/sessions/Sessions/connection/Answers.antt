use Rattle.std.proofs.Common.{ap, ◌∙◌}
use Rattle.std.specs.FinMap as map
use Rattle.std.specs.Option.{option_and_then}
use Rattle.session_table.specs.Listing.{table}
use Rattle.session_table.specs.Seats.{Seat}
use Rattle.session_table.proofs.Calling.{connection_here}
use Rattle.session_table.proofs.sessions.Sessions.connection.Goals as goal

pub returns : goal.returns
returns c =
    c.connection_of.ensures ∙ connection_here c.args.client.now (table c.self.inside.seats.entries)
    ∙ ap (λ m. option_and_then (λ (s : Seat). s.connection) (map.get m c.args.client.now)) c.self.view_is
