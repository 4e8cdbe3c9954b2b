use Rattle.std.proofs.Common.{◌≡◌, length}
use Rattle.std.specs.List.{list_any}
use Rattle.status_pages.specs.Hosts.{is_among, is_named, names_left}
use Rattle.status_pages.proofs.hosts.is_among.Given as goal

-- one of those that are left is it, where one of all is
abbrev pub invariant-loop-left : goal.invariant-loop-left
invariant-loop-left l = list_any (is_named l.host) (names_left l.left) ≡ is_among l.host l.names

abbrev pub decreases-loop-left : goal.decreases-loop-left
decreases-loop-left l = length (names_left l.left)
