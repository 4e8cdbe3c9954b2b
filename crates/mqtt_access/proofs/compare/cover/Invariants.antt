use Rattle.std.proofs.Common.{◌≡◌}
use Rattle.mqtt_topics.specs.Levels.{levels, levels_left}
use Rattle.mqtt_access.specs.Comparing.{cover}
use Rattle.mqtt_access.specs.Filled.{filled_left}
use Rattle.mqtt_access.proofs.compare.cover.Given as goal

abbrev pub invariant-loop-level : goal.invariant-loop-level
invariant-loop-level l = record {
  can : (goal.iterator-loop-level).can_next l.level-iterator;
  ends : (goal.iterator-loop-level).is_finite l.level-iterator;
  same : cover (filled_left l.level-iterator) (levels_left l.others) ≡ cover (filled_left l.fn.rule) (levels l.asked);
}
