-- What a call of a store of rows does to what it shows.
use Rattle.std.specs.Prelude.{◌≡◌, ◌≢◌, ◌⊎◌, Result, Err, Vec, map, IfOk, OnOk, OnErr}
use Rattle.row_store.specs.declared.store.RowStore.{Ghosts}
use Rattle.row_store.specs.declared.store.RowFault.{RowFault}
use Rattle.row_store.specs.declared.store.RowFault.TheVariants.{BadRow}
use Rattle.std.specs.FinMap.{entries}
use Rattle.std.specs.declared.alloc.Global.{Global}
use Rattle.row_store.specs.declared.row.Row.{Row}
use Rattle.row_store.specs.Rows.{Content, entry_of}
use Rattle.row_journal.specs.Journal.{shown}

-- it shows this afterwards, or what it showed; so does what a crash leaves
pub record Makes {R : Type 0} (g : Ghosts R) (old new : R) (result : Result (Unit {0}) RowFault) (made : Content) : Type 0 where
  pub ok : g.is_clean new → g.is_open old → OnOk result (g.is_open new × (shown (g.content new) ≡ made))
  pub err : g.is_clean new → g.is_open new → OnErr result (shown (g.content new) ≡ shown (g.content old))
  pub crash : g.is_clean new → g.is_open old → (c : Content) → g.may_leave new c → (shown c ≡ shown (g.content old)) ⊎ (shown c ≡ made)
  pub rows : result ≢ Err BadRow
  pub was_clean : g.is_clean new → g.is_clean old
  pub was_open : g.is_clean new → g.is_open new → g.is_open old

-- it gives what it shows, in the order of the keys, and so does what a crash leaves
pub record Loads {R : Type 0} (g : Ghosts R) (old new : R) (result : Result (Vec Row Global) RowFault) : Type 0 where
  pub ok : g.is_clean new → g.is_open old → IfOk result (λ rows. map entry_of rows.items ≡ entries (shown (g.content old)))
  pub same : g.is_clean new → g.is_open new → shown (g.content new) ≡ shown (g.content old)
  pub crash : g.is_clean new → g.is_open old → (c : Content) → g.may_leave new c → shown c ≡ shown (g.content old)
  pub rows : g.is_clean new → g.is_open old → result ≢ Err BadRow
  pub stays_open : g.is_clean new → g.is_open old → OnOk result (g.is_open new)
  pub was_clean : g.is_clean new → g.is_clean old
  pub was_open : g.is_clean new → g.is_open new → g.is_open old
