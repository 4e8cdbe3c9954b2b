use Rattle.std.proofs.Common.{ap, ◌∙◌}
use Rattle.std.specs.FinMap as map
use Rattle.session_table.proofs.SeatMaps.{count_of}
use Rattle.session_table.proofs.sessions.Sessions.count.Goals as goal

pub returns : goal.returns
returns c = c.len.ensures.len ∙ count_of c.self.inside.seats.entries c.len.ensures.ordered ∙ ap map.len c.self.view_is
