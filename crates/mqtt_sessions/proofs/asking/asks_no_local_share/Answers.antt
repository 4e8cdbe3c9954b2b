use Rattle.std.proofs.Common.{refl}
use Rattle.mqtt_sessions.proofs.AskingLaws.{asks_at, asks_not}
use Rattle.mqtt_sessions.proofs.asking.asks_no_local_share.Goals as goal

pub returns-then-is_no_local_share : goal.returns-then-is_no_local_share
returns-then-is_no_local_share c =
    (λ _. asks_at c.args.filters.now c.loop-each.each-index c.each-item.result c.loop-each-test.true c.each-item.is (c.is_no_local_share.ensures.0 c.if-is_no_local_share.true), λ _. refl)

pub loop-each-preserved : goal.loop-each-preserved
loop-each-preserved c =
    asks_not c.args.filters.now c.loop-each.each-index c.each-item.result c.loop-each-test.true c.each-item.is (λ n. let t = c.is_no_local_share.ensures.1 n in let f = c.if-is_no_local_share.false in cc) c.loop-each.invariant
