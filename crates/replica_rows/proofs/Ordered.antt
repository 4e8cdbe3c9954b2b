-- The rows that changes make, as a list.
use Rattle.std.proofs.Common.{◌≡◌, ℕ, ◌<◌, T, map as map_list, List, [], ◌∷◌, ◌++◌, length, length-append, Some, Result, Ok, Err, sym, ap, subst, ◌∙◌, arith}
use Rattle.std.specs.Prelude.{IfOk, Vec}
use Rattle.std.specs.declared.alloc.Global.{Global}
use Rattle.std.specs.FinMap as map
use Rattle.mqtt_fields.specs.declared.fault.NoMemory.{NoMemory}
use Rattle.replica_store.specs.States.{State}
use Rattle.row_store.specs.declared.row.Change.{Change}
use Rattle.row_store.specs.declared.row.Row.{Row}
use Rattle.row_store.specs.declared.memory.RowKey.{RowKey}
use Rattle.row_store.specs.Cells.{Cell, filled}
use Rattle.row_store.specs.Rows.{Content, key_cmp, entry_of, content_of, after, after_all}
use Rattle.row_store.proofs.Keys.{keys_total, exact_keys}
use Rattle.replica_rows.specs.Rows.{AreRowsOf}
use Rattle.replica_rows.specs.Reading.{AreAllRowsOf}

same_content : (c : Content) (rows : List Row) → map_list entry_of rows ≡ map.entries c → content_of rows ≡ c
same_content c rows is = map.same_map keys_total exact_keys (content_of rows) c (λ key. map.get-from_entries keys_total (map_list entry_of rows) key ∙ ap (map.find key_cmp key) is ∙ sym (map.get-entries c key))

listed : (c : Content) (rows : List Row) (s : State) → map_list entry_of rows ≡ map.entries c → AreRowsOf c s → AreAllRowsOf rows s
listed c rows s is are = record {
  rise = subst (λ es. T (map.is_sorted key_cmp es)) (sym is) (map.entries_sorted c);
  are = subst (λ x. AreRowsOf x s) (sym (same_content c rows is)) are;
}

pub rows_listed : (c d : Content) (s : State) (r : Result (Vec Row Global) NoMemory) → c ≡ d → AreRowsOf d s → IfOk r (λ rows. map_list entry_of rows.items ≡ map.entries c) → IfOk r (λ rows. AreAllRowsOf rows.items s)
rows_listed c d s (Ok rows) is are all = listed c rows.items s all (subst (λ x. AreRowsOf x s) (sym is) are)
rows_listed c d s (Err e) is are all = tt

-- of places of which one is filled there are rows
pub some_filled : (c : Content) (rows : List Row) (left rest cells : List (RowKey × Cell)) (key : RowKey) (value : Vec ℕ Global) → left ≡ (key, Some value) ∷ rest
    → map_list entry_of rows ++ filled left ≡ filled cells → filled cells ≡ map.entries c → 0 < length (map.entries c)
some_filled c rows left rest cells key value is listed all =
    omega (arith, ap length listed, ap length all, length-append (map_list entry_of rows) (filled left), ap (λ l. length (filled l)) is)

-- the changes that are left, at one
pub one_made : (c new d : Content) (left rest : List Change) (change : Change) → left ≡ change ∷ rest → new ≡ after c change → after_all c left ≡ d → after_all new rest ≡ d
one_made c new d left rest change is made so_far = ap (λ x. after_all x rest) made ∙ sym (ap (after_all c) is) ∙ so_far

pub all_made : (c d : Content) (left : List Change) → left ≡ [] → after_all c left ≡ d → c ≡ d
all_made c d left is so_far = sym (ap (after_all c) is) ∙ so_far
