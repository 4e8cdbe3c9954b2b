use Rattle.std.proofs.Common.{ap, ◌∙◌, None}
use Rattle.std.proofs.lemmas.Option.{IfSome_then}
use Rattle.std.proofs.lemmas.Result.{on_ok_weaker, on_err_weaker}
use Rattle.std.specs.FinMap as map
use Rattle.mqtt_sessions.specs.Saved.{state_of}
use Rattle.session_table.specs.Listing.{seats_in, table}
use Rattle.law_maps.proofs.Texts.{get_removed, insert_taken}
use Rattle.session_table.proofs.SeatMaps.{seats_remove}
use Rattle.session_table.proofs.Calling.{kept_out}
use Rattle.session_table.proofs.sessions.Sessions.insert.Goals as goal

pub put_in-requires-clause-kept : goal.put_in-requires-clause-kept
put_in-requires-clause-kept c =
    kept_out c.args.client (table c.self.inside.seats.entries) (table c.take_out.new.seats.entries) c.self.inside.listing c.take_out.new.listing c.self.invariant c.take_out.ensures.gone c.take_out.ensures.listed

pub put_in-requires-clause-absent : goal.put_in-requires-clause-absent
put_in-requires-clause-absent c = ap (λ m. map.get m c.args.client) c.take_out.ensures.gone ∙ get_removed (table c.self.inside.seats.entries) c.args.client

pub returns-clause-ok : goal.returns-clause-ok
returns-clause-ok c =
    on_ok_weaker c.put_in.result (λ h. IfSome_then (state_of c.args.session) h (λ s e.
    e
    ∙ ap (λ m. map.insert m c.args.client (record { session = s; connection = None }))
    (ap seats_in c.take_out.ensures.gone ∙ seats_remove (table c.self.inside.seats.entries) c.args.client ∙ ap (λ m. map.remove m c.args.client) c.self.view_is)
    ∙ insert_taken c.args.self.now c.args.client (record { session = s; connection = None }))) c.put_in.ensures.ok

pub returns-clause-err : goal.returns-clause-err
returns-clause-err c =
    on_err_weaker c.put_in.result (λ e.
    ap seats_in (e ∙ c.take_out.ensures.gone) ∙ seats_remove (table c.self.inside.seats.entries) c.args.client ∙ ap (λ m. map.remove m c.args.client) c.self.view_is) c.put_in.ensures.err
