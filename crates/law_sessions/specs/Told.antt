-- What the tellings of a history lead to.
use Rattle.std.specs.Prelude.{◌≡◌, List, [], ◌∷◌, map, Option}
use Rattle.std.specs.FinMap.{from_entries}
use Rattle.mqtt_sessions.specs.Removed.{Removes}
use Rattle.mqtt_sessions.specs.State.{watched}
use Rattle.row_store.specs.declared.row.Change.{Change}
use Rattle.row_store.specs.Rows.{Content, after_all}
use Rattle.law_sessions.specs.Leading.{AreExact, IsSince, after_plains, told_rows}
use Rattle.session_rows.specs.Changes.{plain_of}
use Rattle.session_rows.specs.Durable.{Durable}
use Rattle.session_rows.specs.Rows.{rows_of}
use Rattle.law_sessions.specs.Histories.{Point, Move, calls, tells, TellsAt, History, Begins, durable_at}

-- what is noted, and the copies, go on from what was told last
abbrev pub StaysSince : Type 0
StaysSince = (start : Point) (moves : List Move) (end : Point) → Begins start → History start moves end
    → IsSince end.last end.session.told end.session.tracked.state.kept.client (watched end.session.tracked)

-- changes that lead from the rows that were told last to those of now, and name each row that differs once, and no other
pub record Leads (last : Option Durable) (changes : List Change) (now : Durable) : Type 0 where
  pub lead : after_plains (from_entries (told_rows last)) (map plain_of changes) ≡ from_entries (rows_of now)
  pub exact : AreExact last (map plain_of changes)

abbrev pub ToldChangesLead : Type 0
ToldChangesLead = (start : Point) (moves : List Move) (old : Point) (changes : List Change) (new : Point) → Begins start → History start moves old → TellsAt old changes new → Leads old.last changes (durable_at old)

-- the rows of a store that makes the changes of each telling
abbrev pub stored : Content → List Move → Content
stored c [] = c
stored c (calls e r ∷ ms) = stored c ms
stored c (tells changes ∷ ms) = stored (after_all c changes) ms

-- they are those that were told last
abbrev pub StoresTold : Type 0
StoresTold = (start : Point) (moves : List Move) (end : Point) → Begins start → History start moves end → stored (from_entries (told_rows start.last)) moves ≡ from_entries (told_rows end.last)

-- changes that leave none of the rows that were told last, and name each of these once, and no other
pub record Empties (last : Option Durable) (changes : List Change) : Type 0 where
  pub none : after_plains (from_entries (told_rows last)) (map plain_of changes) ≡ from_entries []
  pub exact : AreExact last (map plain_of changes)

-- as do the removals of a session that is over
abbrev pub RemovalsLeaveNone : Type 0
RemovalsLeaveNone = (start : Point) (moves : List Move) (end : Point) (changes : List Change) → Begins start → History start moves end → Removes end.session changes → Empties end.last changes
