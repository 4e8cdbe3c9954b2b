-- What a node's rows hold, in figures.
use Rattle.std.specs.Prelude.{◌≡◌, ℕ, ◌+◌, ◌*◌, ◌<◌, ◌==◌, ◌&&◌, Bool, false, List, [], ◌∷◌, length, count_by, slice_index}
use Rattle.std.specs.FinMap as map
use Rattle.causal_context.specs.Dots.{Dots, greatest_of}
use Rattle.replica_store.specs.Retained.{with_message}
use Rattle.row_store.specs.declared.row.Row.{Row}
use Rattle.row_store.specs.Rows.{entry_of, Plain}
use Rattle.subscription_set.specs.Standing.{live}
use Rattle.node_rows.specs.declared.reading.Opened.{Opened}
use Rattle.node_rows.specs.Reading.{IsLasting, IsOpened, Say}
use Rattle.node_rows.specs.Rows.{Lasting}
use Rattle.replica_store.specs.Newest.{newest_of}
use Rattle.cli_reports.specs.declared.figures.Figures.{Figures}

-- two bytes that are the number of a node, the highest first
abbrev pub is_for : ℕ → List ℕ → Bool
is_for node (high ∷ low ∷ []) = high * 256 + low == node
is_for node _ = false

-- kind 7 and the number of the node: a message that waits for it
abbrev pub is_message_for : ℕ → Plain → Bool
is_message_for node row = (row.0.0 == 7) && is_for node row.0.1.0

-- of each of so many nodes, how many of the rows are messages that wait for it
pub record AreWaiting (rows : List Row) (nodes : ℕ) (counts : List ℕ) : Type 0 where
  pub each : length counts ≡ nodes
  pub are : (node : ℕ) → node < nodes → slice_index counts node ≡ count_by (λ row. is_message_for node (entry_of row)) rows

-- of each of so many nodes, its greatest number among the dots
pub record AreGreatest (dots : Dots) (nodes : ℕ) (numbers : List ℕ) : Type 0 where
  pub each : length numbers ≡ nodes
  pub are : (node : ℕ) → node < nodes → slice_index numbers node ≡ greatest_of dots node

-- the figures of what was opened from the rows: sessions, subscriptions that are live, topics that have a message, messages that wait
-- for each node, the last operation of each node that was taken, and the greatest version of the table of homes under which this node made a subscription that stands
pub record AreFigures (rows : List Row) (id nodes : ℕ) (opened : Opened) (figures : Figures) : Type 0 where
  pub sessions : figures.sessions ≡ map.len opened.sessions
  pub subscriptions : figures.subscriptions ≡ length (live opened.store.subscriptions)
  pub retained : figures.retained ≡ length (with_message (map.entries opened.store.retained))
  pub waiting : AreWaiting rows nodes figures.waiting.items
  pub taken : AreGreatest opened.store.taken nodes figures.taken.items
  pub newest : figures.newest ≡ newest_of id opened.store

-- the rows say what lasts of node `id` of so many, and these are the figures of what is opened from it
pub record IsReported (rows : List Row) (id nodes : ℕ) (figures : Figures) : Type 0 where
  pub lasting : Lasting
  pub opened : Opened
  pub lasts : IsLasting id nodes lasting
  pub said : Say rows id lasting
  pub is : IsOpened id nodes lasting opened
  pub are : AreFigures rows id nodes opened figures
