use Rattle.std.proofs.Common.{◌∷◌, [], ◌++◌, ◌∙◌, ap, refl}
use Rattle.std.proofs.lemmas.Result.{on_ok_weaker}
use Rattle.mqtt_packets.specs.Written.{written}
use Rattle.node_work.specs.declared.outcome.Output.TheVariants.{Send}
use Rattle.node_work.specs.Acts.{Out}
use Rattle.node_work.proofs.Working.{comes_act}
use Rattle.node_work.proofs.work.Work.put_out.Goals as goal

pub returns-clause-comes : goal.returns-clause-comes
returns-clause-comes c =
    let w = c.args.self.now in
    let sent = c.new-bytes.ensures ∙ c.in_ok-written.ensures.ok in
    comes_act c.give.result (λ p h. Out (Send c.args.connection (written c.args.packet.now))) w c.give.new.self tt refl
    (on_ok_weaker c.give.result (λ e. e ∙ ap (λ bs. record w { outputs = w.outputs ++ Send c.args.connection bs ∷ [] }) sent) c.give.ensures.ok) c.give.ensures.fault

pub returns-clause-ok : goal.returns-clause-ok
returns-clause-ok c =
    let w = c.args.self.now in
    let sent = c.new-bytes.ensures ∙ c.in_ok-written.ensures.ok in
    on_ok_weaker c.give.result (λ e. e ∙ ap (λ bs. record w { outputs = w.outputs ++ Send c.args.connection bs ∷ [] }) sent) c.give.ensures.ok
