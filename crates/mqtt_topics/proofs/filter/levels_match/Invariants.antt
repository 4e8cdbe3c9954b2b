use Rattle.std.proofs.Common.{◌↔◌}
use Rattle.mqtt_topics.specs.Levels.{levels, levels_left, ArePlaced}
use Rattle.mqtt_topics.specs.Matching.{LevelsMatch}
use Rattle.mqtt_topics.proofs.filter.levels_match.Given as goal

abbrev pub invariant-loop-level : goal.invariant-loop-level
invariant-loop-level l = record {
  can : (goal.iterator-loop-level).can_next l.level-iterator;
  ends : (goal.iterator-loop-level).is_finite l.level-iterator;
  placed : ArePlaced (levels_left l.level-iterator);
  same : LevelsMatch (levels_left l.level-iterator) (levels_left l.names) ↔ LevelsMatch (levels l.filter) (levels l.name);
}
