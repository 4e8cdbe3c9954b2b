use Rattle.std.proofs.Common.{◌≡◌, ◌≤◌, ◌<◌, ℕ, true, false, Ok, Result, ◌∷◌, [], ◌++◌, ◌∙◌, ap, arith, length, refl}
use Rattle.std.specs.Prelude.{nat_le}
use Rattle.std.proofs.lemmas.Bool.Decides.{nat_tests}
use Rattle.std.proofs.lemmas.Result.{on_ok_weaker}
use Rattle.mqtt_packets.specs.Written.{written}
use Rattle.mqtt_sessions.specs.Answers.{fits}
use Rattle.node_work.specs.declared.outcome.Output.TheVariants.{Send}
use Rattle.node_work.specs.declared.fault.NodeFault.{NodeFault}
use Rattle.node_work.specs.Acts.{Out}
use Rattle.node_work.specs.Doings.{Sends}
use Rattle.node_work.specs.Working.{Returns}
use Rattle.node_work.proofs.Working.{comes_act, comes_if, comes_if_not, did_nothing}
use Rattle.node_work.proofs.work.Work.send.Goals as goal

short : (n limit : ℕ) → n ≤ limit → nat_le n limit ≡ true
short n limit h = grind (arith, nat_tests)

long : (n limit : ℕ) → limit < n → nat_le n limit ≡ false
long n limit h = grind (arith, nat_tests)

pub returns-then-len-limit-clause-comes : goal.returns-then-len-limit-clause-comes
returns-then-len-limit-clause-comes c =
    let w = c.args.self.now in
    let p = c.args.packet.now in
    let is = c.in_ok-bytes.ensures.ok in
    let over : fits c.args.limit p ≡ false = long (length (written p)) c.args.limit (omega (arith, ap length is, c.if-len-limit.true)) in
    let fine : Result _ NodeFault = Ok tt in
    comes_if_not (λ x. x) fine w w (fits c.args.limit p) (Sends c.args.connection p) (Returns tt) over (did_nothing w tt)

pub returns-clause-comes : goal.returns-clause-comes
returns-clause-comes c =
    let w = c.args.self.now in
    let p = c.args.packet.now in
    let o = Send c.args.connection (written p) in
    let is = c.in_ok-bytes.ensures.ok in
    let fit : fits c.args.limit p ≡ true = short (length (written p)) c.args.limit (omega (arith, ap length is)) in
    comes_if (λ x. x) c.give.result w c.give.new.self (fits c.args.limit p) (Sends c.args.connection p) (Returns tt) fit
    (comes_act c.give.result (λ p h. Out o) w c.give.new.self tt refl
    (on_ok_weaker c.give.result (λ e. e ∙ ap (λ bs. record w { outputs = w.outputs ++ Send c.args.connection bs ∷ [] }) (c.new-bytes.ensures ∙ is)) c.give.ensures.ok) c.give.ensures.fault)
