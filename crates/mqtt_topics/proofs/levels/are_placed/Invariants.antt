use Rattle.std.proofs.Common.{◌↔◌, length}
use Rattle.mqtt_topics.specs.Levels.{levels, levels_left, ArePlaced}
use Rattle.mqtt_topics.proofs.levels.are_placed.Given as goal

abbrev pub invariant-loop-level : goal.invariant-loop-level
invariant-loop-level l = ArePlaced (levels_left l.levels) ↔ ArePlaced (levels l.text)

abbrev pub decreases-loop-level : goal.decreases-loop-level
decreases-loop-level l = length (levels_left l.levels)
