use Rattle.std.proofs.Common.{sym, ap, subst, ◌∙◌}
use Rattle.std.proofs.lemmas.Result.{on_ok_weaker}
use Rattle.std.specs.FinMap as map
use Rattle.session_table.specs.Listing.{seats_in, table}
use Rattle.session_table.specs.Rows.{LeadsOn}
use Rattle.session_table.specs.Seats.{Seats}
use Rattle.session_table.proofs.SeatMaps.{seats_remove}
use Rattle.session_table.proofs.Calling.{kept_out}
use Rattle.session_table.proofs.RowLaws.{gone-leads, no-session, none-leads, session-told}
use Rattle.session_table.proofs.sessions.Sessions.remove.Goals as goal

pub invariant_of-self : goal.invariant_of-self
invariant_of-self c =
    kept_out c.args.client.now (table c.self.inside.seats.entries) (table c.take_out.new.seats.entries) c.self.inside.listing c.take_out.new.listing c.self.invariant c.take_out.ensures.gone c.take_out.ensures.listed

pub returns-in_default-clause-gone : goal.returns-in_default-clause-gone
returns-in_default-clause-gone c = ap seats_in c.take_out.ensures.gone ∙ seats_remove (table c.self.inside.seats.entries) c.args.client.now ∙ ap (λ m. map.remove m c.args.client.now) c.self.view_is

pub returns-in_default-clause-leads : goal.returns-in_default-clause-leads
returns-in_default-clause-leads c =
    let P : Seats → Type 0 = λ m. LeadsOn m c.args.changes.now.items c.args.changes.now.items (seats_in (table c.take_out.new.seats.entries)) in
    subst P c.self.view_is
    (none-leads c.args.client.now (table c.self.inside.seats.entries) (table c.take_out.new.seats.entries) c.args.changes.now.items (sym c.in_default.is ∙ c.take_out.ensures.session) c.take_out.ensures.gone)

pub invariant_of-self-2 : goal.invariant_of-self-2
invariant_of-self-2 c =
    kept_out c.args.client.now (table c.self.inside.seats.entries) (table c.take_out.new.seats.entries) c.self.inside.listing c.take_out.new.listing c.self.invariant c.take_out.ensures.gone c.take_out.ensures.listed

pub returns-clause-gone : goal.returns-clause-gone
returns-clause-gone c = ap seats_in c.take_out.ensures.gone ∙ seats_remove (table c.self.inside.seats.entries) c.args.client.now ∙ ap (λ m. map.remove m c.args.client.now) c.self.view_is

pub returns-clause-leads : goal.returns-clause-leads
returns-clause-leads c =
    let t = table c.self.inside.seats.entries in
    let u = table c.take_out.new.seats.entries in
    let is = sym c.in-Some.is ∙ c.take_out.ensures.session in
    let P : Seats → Type 0 = λ m. LeadsOn m c.args.changes.now.items c.leave.new.changes.items (seats_in u) in
    on_ok_weaker c.leave.result (λ l. subst P c.self.view_is
    (gone-leads c.args.client.now t u c.in-Some.session c.args.changes.now.items c.leave.new.changes.items is c.take_out.ensures.gone c.self.invariant.told l))
    (c.leave.ensures c.args.client.now (session-told c.args.client.now t c.in-Some.session is c.self.invariant.told))

pub returns-clause-none : goal.returns-clause-none
returns-clause-none c = λ none.
    absurd (no-session c.args.client.now (table c.self.inside.seats.entries) c.in-Some.session (sym c.in-Some.is ∙ c.take_out.ensures.session) (ap (λ m. map.get m c.args.client.now) c.self.view_is ∙ none))
