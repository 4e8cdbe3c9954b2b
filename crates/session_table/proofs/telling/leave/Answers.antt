use Rattle.session_table.proofs.RowLaws.{left-on}
use Rattle.session_table.proofs.telling.leave.Goals as goal

pub returns : goal.returns
returns c = λ client told.
    left-on c.tellings_lead.ensures.removal client c.args.session c.in-Ok.gone c.args.changes.now.items c.removals.new.before.items c.append.new.self.items c.in-Ok.ensures.removes c.in-Ok.ensures.before told c.in_ok-append.ensures.items
