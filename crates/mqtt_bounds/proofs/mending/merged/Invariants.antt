use Rattle.std.proofs.Common.{◌≡◌, ◌++◌, drop}
use Rattle.mqtt_bounds.specs.Bounded.{merged}
use Rattle.mqtt_bounds.proofs.mending.merged.Given as goal

abbrev pub invariant-loop-code : goal.invariant-loop-code
invariant-loop-code l = l.all.items ++ merged (drop l.code-index l.codes) l.left ≡ merged l.codes l.asked
