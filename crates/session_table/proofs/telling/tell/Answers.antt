use Rattle.session_table.proofs.RowLaws.{tells-on}
use Rattle.session_table.proofs.telling.tell.Goals as goal

pub returns : goal.returns
returns c =
    tells-on c.args.session.now c.changes.new.self c.in-Ok.own c.args.changes.now.items c.changes.new.before.items c.append.new.self.items c.in-Ok.ensures.tells c.in-Ok.ensures.before c.in_ok-append.ensures.items
