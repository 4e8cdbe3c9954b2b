use Rattle.std.proofs.Common.{◌≡◌, Some, None, ◌∙◌}
use Rattle.broker_turns.specs.Lines.{link_of}
use Rattle.broker_turns.proofs.Linking.{framed-set, get_or-default}
use Rattle.broker_turns.proofs.lines.give_one.Goals as goal

pub returns-in_ok-push-clause-ok : goal.returns-in_ok-push-clause-ok
returns-in_ok-push-clause-ok g c =
    let d = c.args.links.now in
    let peer = c.from-peer.result in
    let found : link_of d peer ≡ Some c.in-Some.line = get_or-default d peer None c.index-links-peer.result c.if-peer-links.true ∙ c.in-Some.is in
    framed-set d peer c.args.frame c.in-Some.line c.push.new.self c.if-peer-links.true c.from-peer.ensures found c.in_ok-push.ensures
