use Rattle.std.proofs.Common.{◌≡◌}
use Rattle.mqtt_topics.specs.Levels.{levels, levels_left}
use Rattle.mqtt_access.specs.Filled.{has_level}
use Rattle.mqtt_access.proofs.filled.has_level.Given as goal

abbrev pub invariant-loop-level : goal.invariant-loop-level
invariant-loop-level l = record {
  can : (goal.iterator-loop-level).can_next l.level-iterator;
  ends : (goal.iterator-loop-level).is_finite l.level-iterator;
  same : has_level l.wanted (levels_left l.level-iterator) ≡ has_level l.wanted (levels l.filter);
}
