use Rattle.std.proofs.Common.{◌≡◌, drop}
use Rattle.status_tally.specs.Windows.{base}
use Rattle.status_tally.proofs.window.Window.base.Given as goal

-- none of the marks so far counts
abbrev pub invariant-loop-index : goal.invariant-loop-index
invariant-loop-index l = base l.at (drop l.index l.self-inside.marks.items) ≡ base l.at l.self-inside.marks.items
