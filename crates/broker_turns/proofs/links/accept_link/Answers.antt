use Rattle.broker_sockets.specs.declared.ready.Watched.TheVariants.{Link}
use Rattle.broker_turns.proofs.Breaking.{came_and_watched}
use Rattle.broker_turns.proofs.links.accept_link.Goals as goal

pub returns-in_default-insert-clause-fault : goal.returns-in_default-insert-clause-fault
returns-in_default-insert-clause-fault g c =
    came_and_watched g.S.Sockets.accepts g.S.Readiness.watches g.S.Sockets.connects g.S.Sockets.reads c.args.listener.now c.in-Some.stream (Link c.vacant_key.result) c.watch.result c.args.sockets.now c.accept.new.self c.watch.new.self c.in-Some.ensures c.watch.ensures.watched
