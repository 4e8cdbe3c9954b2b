-- What is told of what was dropped.
use Rattle.std.specs.Prelude.{ℕ, ◌==◌, not, Bool, List, ◌++◌, codes, count_by}
use Rattle.cli_reports.specs.Report.{line}
use Rattle.row_store.specs.declared.row.Change.{Change}
use Rattle.row_store.specs.Leading.{key_in}

-- a change of a session's own row; the others are of messages
abbrev pub is_of_session : Change → Bool
is_of_session change = (key_in change).0 == 2

-- how many sessions, and how many messages
abbrev pub told : List Change → List ℕ
told changes = line (codes "sessions ") (count_by is_of_session changes) ++ line (codes "messages ") (count_by (λ change. not (is_of_session change)) changes)
