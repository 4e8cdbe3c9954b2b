use Rattle.std.proofs.Common.{◌≡◌, Some, None, sym, refl, ◌∙◌}
use Rattle.broker_turns.specs.Lines.{link_of}
use Rattle.broker_turns.proofs.Linking.{get_or-default, supplied-at}
use Rattle.broker_turns.proofs.links.ship_to.Goals as goal

pub returns-clause-ok : goal.returns-clause-ok
returns-clause-ok g c =
    let d = c.args.links.now in
    let is = rw c.from.ensures at c.in-Some.is in
    let found : link_of d c.args.peer ≡ Some c.in-Some.line = get_or-default d c.args.peer None c.index-links-from.result c.requires ∙ is in
    supplied-at _ c.args.at c.args.peer c.in-Some.line c.in-Some-asks_for.kind _ _ _ found (sym c.in-Some-asks_for.ensures) c.in_ok-hear_one.ensures.ok
    (record { handler = refl; clients = refl; links = rw c.from-2.ensures at c.mark.ensures })
