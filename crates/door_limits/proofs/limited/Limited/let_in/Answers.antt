use Rattle.std.proofs.Common.{Vec, inr, sym, ap, ◌∙◌}
use Rattle.std.specs.declared.alloc.Global.{Global}
use Rattle.broker_sockets.specs.declared.events.Output.{Output}
use Rattle.door_limits.proofs.Letting.{failed, let_in_as, stopped_so, ticked, unticked}
use Rattle.door_limits.specs.Answering.{IsTold}
use Rattle.door_limits.specs.Connected.{after}
use Rattle.door_limits.specs.Faults.{IsStopped, IsUnanswered}
use Rattle.door_limits.proofs.limited.Limited.let_in.Goals.{then-ticks+in_ok-sweep, else-ticks}
use Rattle.door_limits.proofs.limited.Limited.let_in.Goals as goal

pub returns-in_err-sweep-clause-fault : goal.returns-in_err-sweep-clause-fault
returns-in_err-sweep-clause-fault g c =
    let given = c.in_ok-outputs.outputs.items in
    let passed = c.in_ok-outputs.ensures.ok in
    let told : IsTold g.H.Handler.handles c.args.event given c.args.self.now c.tell.new.self =
    record { answered = passed.answered; connections = passed.connections ∙ ap (after given) c.in_ok-meet.ensures; limits = passed.limits } in
    failed c.from_residual-in_err-sweep.result c.in_err-sweep.field-0.0
    (IsStopped (λ fault. IsUnanswered g.H.Handler.handles g.H.Handler.refuses c.args.event fault c.args.self.now c.sweep.new.self.inside)) c.from_residual-in_err-sweep.ensures.1
    (stopped_so c.in_err-sweep.field-0.0 _ (λ fault. IsUnanswered g.H.Handler.handles g.H.Handler.refuses c.args.event fault c.args.self.now c.sweep.new.self.inside)
    (λ fault late. inr (record { ticks = sym c.is_tick-ticks.ensures ∙ c.if-ticks.true; given = given; between = c.tell.new.self; told = told; late = late }))
    c.in_err-sweep.ensures.fault)

pub returns-clause-ok : goal.returns-clause-ok
returns-clause-ok g c =
    let given = c.in_ok-outputs.outputs.items in
    let passed = c.in_ok-outputs.ensures.ok in
    let told : IsTold g.H.Handler.handles c.args.event given c.args.self.now c.tell.new.self =
    record { answered = passed.answered; connections = passed.connections ∙ ap (after given) c.in_ok-meet.ensures; limits = passed.limits } in
    elim c.if-ticks.branch [
      | then-ticks+in_ok-sweep w ↦
          let_in_as g.H.Handler.handles c.args.event w.sweep.new.outputs.items c.if-ticks.outputs.items c.args.self.now w.sweep.new.self c.if-ticks.self w.self-is
          (ap (λ (v : Vec Output Global). v.items) w.outputs-is)
          (ticked g.H.Handler.handles c.args.event given w.sweep.new.outputs.items c.args.self.now c.tell.new.self w.sweep.new.self (sym c.is_tick-ticks.ensures ∙ w.if-ticks.true) told
          w.in_ok-sweep.ensures.ok)
      | else-ticks w ↦
          let_in_as g.H.Handler.handles c.args.event given c.if-ticks.outputs.items c.args.self.now c.tell.new.self c.if-ticks.self w.self-is
          (ap (λ (v : Vec Output Global). v.items) w.outputs-is)
          (unticked g.H.Handler.handles c.args.event given c.args.self.now c.tell.new.self (sym c.is_tick-ticks.ensures ∙ w.if-ticks.false) told)
    ]
