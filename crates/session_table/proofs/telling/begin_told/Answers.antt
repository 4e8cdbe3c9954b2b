use Rattle.std.proofs.Common.{◌≡◌, Some, ap, ◌∙◌}
use Rattle.mqtt_sessions.specs.Saved.{begun_session}
use Rattle.session_table.proofs.RowLaws.{told-begun}
use Rattle.session_table.proofs.telling.begin_told.Goals as goal

pub returns-clause-told : goal.returns-clause-told
returns-clause-told c =
    let is : c.new-session.result ≡ Some (begun_session c.args.client.now) = c.new-session.ensures ∙ ap (λ n. Some (begun_session n)) c.in_ok-copy.ensures in
    (told-begun c.tellings_lead.ensures.begin c.args.client.now c.args.changes.now.items c.tell.new.changes.items c.new-session.result c.tell.new.session c.as_str-text.ensures.fits is c.in_ok-tell.ensures).0

pub returns-clause-leads : goal.returns-clause-leads
returns-clause-leads c =
    let is : c.new-session.result ≡ Some (begun_session c.args.client.now) = c.new-session.ensures ∙ ap (λ n. Some (begun_session n)) c.in_ok-copy.ensures in
    (told-begun c.tellings_lead.ensures.begin c.args.client.now c.args.changes.now.items c.tell.new.changes.items c.new-session.result c.tell.new.session c.as_str-text.ensures.fits is c.in_ok-tell.ensures).1
