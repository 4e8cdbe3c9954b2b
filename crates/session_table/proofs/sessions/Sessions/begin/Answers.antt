use Rattle.std.proofs.Common.{◌≡◌, None, ap, ◌∙◌}
use Rattle.std.proofs.lemmas.Option.{MatchOption-at_some}
use Rattle.std.proofs.lemmas.Result.{on_ok_weaker, on_err_weaker}
use Rattle.std.specs.FinMap as map
use Rattle.mqtt_sessions.specs.State.{new_session}
use Rattle.session_table.specs.Seats.{begun}
use Rattle.law_maps.proofs.Texts.{insert_taken, remove_taken}
use Rattle.session_table.proofs.RowLaws.{begun-leads}
use Rattle.session_table.proofs.sessions.Sessions.begin.Goals as goal

pub returns-clause-ok : goal.returns-clause-ok
returns-clause-ok c =
    on_ok_weaker c.insert.result (λ h.
    MatchOption-at_some _ (λ s. c.insert.new.self ≡ map.insert c.remove.new.self c.args.client (record { session = s; connection = None })) (new_session c.args.client) c.in_ok-session.ensures.state h
    ∙ (λ i. map.insert (c.remove.ensures.gone i) c.args.client (begun c.args.client)) ∙ insert_taken c.args.self.now c.args.client (begun c.args.client)) c.insert.ensures.ok

pub returns-clause-err : goal.returns-clause-err
returns-clause-err c =
    on_err_weaker c.insert.result (λ e. e ∙ ap (λ m. map.remove m c.args.client) c.remove.ensures.gone ∙ remove_taken c.args.self.now c.args.client) c.insert.ensures.err

pub returns-clause-leads : goal.returns-clause-leads
returns-clause-leads c =
    on_ok_weaker c.insert.result (λ h.
    begun-leads c.args.client c.args.self.now c.remove.new.self c.insert.new.self _ c.args.changes.now.items c.remove.new.changes.items c.begin_told.new.changes.items c.remove.ensures.gone c.in_ok-remove.ensures.leads
    c.in_ok-session.ensures.leads c.in_ok-session.ensures.state
    (MatchOption-at_some _ (λ s. c.insert.new.self ≡ map.insert c.remove.new.self c.args.client (record { session = s; connection = None })) (new_session c.args.client) c.in_ok-session.ensures.state h)) c.insert.ensures.ok
