use Rattle.std.proofs.Common.{take}
use Rattle.mqtt_sessions.specs.Asking.{AsksNoLocalShare}
use Rattle.mqtt_sessions.proofs.asking.asks_no_local_share.Given as goal

abbrev pub invariant-loop-each : goal.invariant-loop-each
invariant-loop-each l = ¬ AsksNoLocalShare (take l.each-index l.filters)
