use Rattle.std.proofs.Common.{◌≡◌, Some, None, sym, ap, ◌∙◌}
use Rattle.std.specs.FinMap as map
use Rattle.std.specs.Option.{option_and_then, option_copied, option_map}
use Rattle.mqtt_sessions.specs.Ending.{end_due}
use Rattle.session_table.specs.Listing.{seat_of, table}
use Rattle.session_table.specs.Seats.{Seat}
use Rattle.law_maps.proofs.Texts.{get_table}
use Rattle.session_table.proofs.SeatMaps.{get_seat}
use Rattle.session_table.proofs.Calling.{end_here}
use Rattle.session_table.proofs.sessions.Sessions.end_due.Goals as goal

pub returns-in-Some : goal.returns-in-Some
returns-in-Some c =
    let is : map.get (table c.self.inside.seats.entries) c.args.client.now ≡ Some c.deref.result.now = get_table c.self.inside.seats.entries c.args.client.now ∙ sym c.get.ensures.value ∙ ap option_copied c.in-Some.is ∙ ap Some (sym c.deref.ensures) in
    end_here c.args.client.now (table c.self.inside.seats.entries) c.deref.result.now c.end_due.result (c.self.invariant.run c.args.client.now c.deref.result.now is) is c.end_due.ensures
    ∙ ap (λ m. option_and_then (λ (s : Seat). end_due s.session.kept) (map.get m c.args.client.now)) c.self.view_is

pub returns-in-None : goal.returns-in-None
returns-in-None c =
    let is : map.get (table c.self.inside.seats.entries) c.args.client.now ≡ None = get_table c.self.inside.seats.entries c.args.client.now ∙ sym c.get.ensures.value ∙ ap option_copied c.in-None.is in
    sym (ap (λ m. option_and_then (λ (s : Seat). end_due s.session.kept) (map.get m c.args.client.now)) (sym c.self.view_is)
    ∙ ap (option_and_then (λ (s : Seat). end_due s.session.kept)) (get_seat (table c.self.inside.seats.entries) c.args.client.now ∙ ap (λ o. option_map seat_of o) is))
