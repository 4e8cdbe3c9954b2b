use Rattle.std.proofs.Common.{◌≡◌, ◌+◌, ◌≤◌, length}
use Rattle.door_users.specs.Accounts.{accounts_of, with_lines}
use Rattle.door_users.specs.Lines.{lines_left}
use Rattle.door_users.proofs.users.Users.parse.Given as goal

abbrev pub invariant-loop-line : goal.invariant-loop-line
invariant-loop-line l = record {
  can : (goal.iterator-loop-line).can_next l.line-iterator;
  ends : (goal.iterator-loop-line).is_finite l.line-iterator;
  bound : l.number + length (lines_left l.line-iterator) ≤ length l.text + 2;
  same : with_lines l.number l.accounts.items (lines_left l.line-iterator) ≡ accounts_of l.text;
}
