use Rattle.std.proofs.Common.{is_some, sym, ap, ◌∙◌}
use Rattle.std.specs.FinMap as map
use Rattle.session_table.specs.Listing.{table}
use Rattle.law_maps.proofs.Texts.{get_table}
use Rattle.session_table.proofs.SeatMaps.{some_seat}
use Rattle.session_table.proofs.sessions.Sessions.has.Goals as goal

pub returns : goal.returns
returns c =
    c.contains_key.ensures ∙ ap is_some (sym (get_table c.self.inside.seats.entries c.args.client.now)) ∙ sym (some_seat (table c.self.inside.seats.entries) c.args.client.now)
    ∙ ap (λ m. is_some (map.get m c.args.client.now)) c.self.view_is
