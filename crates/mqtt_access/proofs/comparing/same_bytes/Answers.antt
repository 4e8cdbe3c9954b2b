use Rattle.std.proofs.Common.{◌≡◌, get_or, ap, arith}
use Rattle.std.proofs.lemmas.Bool.{eqb-true, eq-eqb}
use Rattle.std.proofs.lemmas.Grind.{same_number_lists}
use Rattle.mqtt_access.proofs.Xors.{same_more}
use Rattle.mqtt_access.proofs.comparing.same_bytes.Goals as goal

pub loop-i-preserved : goal.loop-i-preserved
loop-i-preserved c =
    let a = c.args.a.now in
    let b = c.args.b.now in
    let i = c.loop-i.i in
    same_more c.loop-i.differing (get_or a i 0) (get_or b i 0) i (λ k. get_or a k 0 ≡ get_or b k 0) c.loop-i.invariant (λ e. e, λ e. e)

pub returns : goal.returns
returns c = (
  λ none. same_number_lists c.args.a.now c.args.b.now c.if-a-b.false (λ k inside. c.loop-i.invariant.0 (eqb-true c.loop-i.differing 0 none) k (omega (arith, inside, c.loop-i-test.false))),
  λ same. eq-eqb c.loop-i.differing 0 (c.loop-i.invariant.1 (λ k _. ap (λ bytes. get_or bytes k 0) same)),
)
