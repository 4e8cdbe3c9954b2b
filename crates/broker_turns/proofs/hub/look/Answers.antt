use Rattle.std.proofs.lemmas.Result.{IfOk-weaker}
use Rattle.broker_turns.specs.Turns.{IsEither, IsFound}
use Rattle.broker_turns.proofs.hub.look.Goals as goal

pub returns : goal.returns
returns g c =
    let told = c.in_ok-found.ensures in
    IfOk-weaker c.joined.result (λ all. IsEither c.in_ok-found.found c.args.more.now all) (λ ready. IsFound g.S.Readiness.finds c.args.sockets.now c.args.more.now ready c.ready.new.self)
    (λ ready either. record { found = c.in_ok-found.found; told = told; either = either })
    c.joined.ensures
