use Rattle.std.proofs.Common.{◌≡◌, ◌+◌, ◌≤◌, length}
use Rattle.door_users.specs.Lines.{lines_left}
use Rattle.door_users.specs.Rules.{after_lines, rules_in, rules_of, state_of}
use Rattle.door_users.proofs.rules.read_permissions.Given as goal

abbrev pub invariant-loop-line : goal.invariant-loop-line
invariant-loop-line l = record {
  can : (goal.iterator-loop-line).can_next l.line-iterator;
  ends : (goal.iterator-loop-line).is_finite l.line-iterator;
  bound : l.number + length (lines_left l.line-iterator) ≤ length l.text + 2;
  same : rules_in (after_lines l.number (state_of l.reading) (lines_left l.line-iterator)) ≡ rules_of l.text;
}
