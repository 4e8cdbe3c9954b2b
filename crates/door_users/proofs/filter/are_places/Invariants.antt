use Rattle.std.proofs.Common.{◌≡◌}
use Rattle.mqtt_topics.specs.Levels.{levels, levels_left}
use Rattle.door_users.specs.RuleLines.{are_places}
use Rattle.door_users.proofs.filter.are_places.Given as goal

abbrev pub invariant-loop-level : goal.invariant-loop-level
invariant-loop-level l = record {
  can : (goal.iterator-loop-level).can_next l.level-iterator;
  ends : (goal.iterator-loop-level).is_finite l.level-iterator;
  same : are_places (levels_left l.level-iterator) ≡ are_places (levels l.filter);
}
