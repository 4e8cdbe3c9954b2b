use Rattle.door_limits.proofs.Letting.{failed, stopped_so}
use Rattle.door_limits.proofs.Sweeping.{fewer, sweeping_more}
use Rattle.door_limits.specs.Faults.{IsStopped, IsStoppedLate}
use Rattle.door_limits.proofs.limited.Limited.sweep.Goals as goal

pub loop-connection-smaller : goal.loop-connection-smaller
loop-connection-smaller g c =
    fewer c.loop-connection.self.limits.within c.args.at c.loop-connection.self.connections c.let_go.new.self.connections c.in-Some.connection
    c.in_ok-let_go.ensures.ok.given c.in-Some.ensures.some c.in_ok-let_go.ensures.ok.told.connections

pub loop-connection-preserved : goal.loop-connection-preserved
loop-connection-preserved g c =
    sweeping_more g.H.Handler.handles c.args.at c.in-Some.connection c.args.self.now c.loop-connection.self c.let_go.new.self c.args.outputs.now.items
    c.loop-connection.outputs.items c.let_go.new.outputs.items c.loop-connection.invariant c.in-Some.ensures.some c.in_ok-let_go.ensures.ok

pub returns-in_err-let_go-clause-fault : goal.returns-in_err-let_go-clause-fault
returns-in_err-let_go-clause-fault g c =
    failed c.from_residual.result c.in_err-let_go.field-0.0
    (IsStopped (λ fault. IsStoppedLate g.H.Handler.handles g.H.Handler.refuses c.args.at fault c.args.self.now c.let_go.new.self.inside)) c.from_residual.ensures.1
    (stopped_so c.in_err-let_go.field-0.0 _ (λ fault. IsStoppedLate g.H.Handler.handles g.H.Handler.refuses c.args.at fault c.args.self.now c.let_go.new.self.inside)
    (λ fault refused. record {
      cuts = c.loop-connection.invariant.cuts;
      reached = c.loop-connection.self;
      each = c.loop-connection.invariant.each;
      connection = c.in-Some.connection;
      late = c.in-Some.ensures.some;
      refused = refused;
    }) c.in_err-let_go.ensures.fault)
