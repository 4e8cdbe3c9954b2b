use Rattle.std.proofs.Common.{◌≡◌, Some, None, sym, ap, ◌∙◌}
use Rattle.std.specs.FinMap as map
use Rattle.std.specs.Option.{option_and_then, option_copied, option_map}
use Rattle.mqtt_sessions.specs.Aliases.{topic_for}
use Rattle.mqtt_sessions.specs.State.{aliases_of}
use Rattle.session_table.specs.Listing.{seat_of, table}
use Rattle.session_table.specs.Seats.{Seat}
use Rattle.law_maps.proofs.Texts.{get_table}
use Rattle.session_table.proofs.SeatMaps.{get_seat}
use Rattle.session_table.proofs.Calling.{topic_here}
use Rattle.session_table.proofs.sessions.Sessions.alias_topic.Goals as goal

pub returns-in-Some-clause-topic : goal.returns-in-Some-clause-topic
returns-in-Some-clause-topic c =
    let is : map.get (table c.self.inside.seats.entries) c.args.client.now ≡ Some c.deref.result.now = get_table c.self.inside.seats.entries c.args.client.now ∙ sym c.get.ensures.value ∙ ap option_copied c.in-Some.is ∙ ap Some (sym c.deref.ensures) in
    topic_here (c.alias_topic.result ≡ None) c.args.client.now (table c.self.inside.seats.entries) c.deref.result.now c.args.alias (option_copied c.alias_topic.result) (c.self.invariant.run c.args.client.now c.deref.result.now is) is
    c.alias_topic.ensures.topic
    ∙ ap (λ m. option_and_then (λ (s : Seat). topic_for c.args.alias (aliases_of s.session.link)) (map.get m c.args.client.now)) c.self.view_is

pub returns-in-None-clause-topic : goal.returns-in-None-clause-topic
returns-in-None-clause-topic c =
    let is : map.get (table c.self.inside.seats.entries) c.args.client.now ≡ None = get_table c.self.inside.seats.entries c.args.client.now ∙ sym c.get.ensures.value ∙ ap option_copied c.in-None.is in
    sym (ap (λ m. option_and_then (λ (s : Seat). topic_for c.args.alias (aliases_of s.session.link)) (map.get m c.args.client.now)) (sym c.self.view_is)
    ∙ ap (option_and_then (λ (s : Seat). topic_for c.args.alias (aliases_of s.session.link))) (get_seat (table c.self.inside.seats.entries) c.args.client.now ∙ ap (λ o. option_map seat_of o) is))
