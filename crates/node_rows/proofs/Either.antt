-- What is read of rows of any version.
use Rattle.std.proofs.Common.{◌≡◌, inl, inr, ℕ, T, List, [], ◌∷◌, map as map_list, Option, Some, None, Result, Ok, Err, sym, ap, subst, ◌∙◌}
use Rattle.std.specs.FinMap as map
use Rattle.std.specs.FinMap.Entries.{find-put, put}
use Rattle.row_store.specs.declared.row.Row.{Row}
use Rattle.row_store.specs.declared.store.RowFault.{RowFault}
use Rattle.row_store.specs.declared.store.RowFault.TheVariants.{NoMemory, Device, BadRow}
use Rattle.row_store.specs.Rows.{entry_of, key_cmp, Plain}
use Rattle.row_store.proofs.Keys.{keys_total}
use Rattle.node_rows.specs.declared.reading.Opened.{Opened}
use Rattle.node_rows.specs.Reading.{Recovers, IsLasting, IsOpened, Say, SayNothing, SayNothingNow, SayNow}
use Rattle.node_rows.specs.Rows.{Lasting}
use Rattle.node_rows.specs.Versions.{AreOlder, are_first, raised, raised_all, raised_each, seen_key, seen_value, with_seen}
use Rattle.node_rows.proofs.OneNode.{no_first, two_marks}
use Rattle.node_rows.proofs.Raising.{raised_up}

-- rows that aren't of an older version say what they say in version 3
pub third_found : (rows : List Row) (id nodes : ℕ) (r : Result Opened RowFault) → (AreOlder (map_list entry_of rows) → ⊥)
    → Recovers (λ (o : Opened). (x : Lasting) × IsLasting id nodes x × SayNow rows id x × IsOpened id nodes x o) (SayNothingNow rows id nodes) r
    → Recovers (λ (o : Opened). (x : Lasting) × IsLasting id nodes x × Say rows id x × IsOpened id nodes x o) (SayNothing rows id nodes) r
third_found rows id nodes (Ok o) not found = (found.0, found.1, inl found.2, found.3)
third_found rows id nodes (Err NoMemory) not found = tt
third_found rows id nodes (Err BadRow) not found = none
  where
    none : SayNothing rows id nodes
    none x lasting (inl now) = found x lasting now
    none x lasting (inr older) = not older.older
third_found rows id nodes (Err Device) not found = found

-- rows don't go where the dots that were seen are put
some_row : (seen : Option (List ℕ)) (row : Plain) (rows : List Plain) → [] ≡ with_seen seen (row ∷ rows) → ⊥
some_row None row rows same = absurd (cc)
some_row (Some value) row rows same =
    let found : map.find key_cmp seen_key (put key_cmp seen_key value (row ∷ rows)) ≡ Some value = find-put key_cmp keys_total seen_key seen_key value (row ∷ rows) in
    let none : None ≡ Some value = ap (map.find key_cmp seen_key) same ∙ found in
    absurd (cc)

-- rows of an older version say what they say as they stand in version 3
module _ (rows made : List Row) (id : ℕ) (are : map_list entry_of made ≡ raised_all (map_list entry_of rows)) (up : T (map.is_sorted key_cmp (map_list entry_of rows))) (older : AreOlder (map_list entry_of rows)) where
  no_rows : (es : List Row) → es ≡ [] → map_list entry_of es ≡ raised_all (map_list entry_of rows) → ⊥
  no_rows [] none same = by rows older same
    where
      by : (rs : List Row) → AreOlder (map_list entry_of rs) → [] ≡ raised_all (map_list entry_of rs) → ⊥
      by [] first same = first
      by (r ∷ rs) first same = some_row (seen_value (map_list entry_of (r ∷ rs))) (raised (are_first (map_list entry_of (r ∷ rs))) (entry_of r)) (raised_each (are_first (map_list entry_of (r ∷ rs))) (map_list entry_of rs)) same
  no_rows (e ∷ es) none same = absurd (cc)

  says : (x : Lasting) → SayNow made id x → Say rows id x
  says x (inl new) = absurd (no_rows made new.0 are)
  says x (inr of_made) = inr (record { older = older; rise = up; are = λ key. ap (λ es. map.get {R = key_cmp} (map.from_entries es) key) (sym are) ∙ of_made.are key })

  said : (x : Lasting) → Say rows id x → SayNow made id x
  said x (inl (inl new)) = absurd (no_first rows new.0 older)
  said x (inl (inr of_rows)) = absurd (two_marks id rows x of_rows older)
  said x (inr of_rows) = inr (record {
    rise = subst (λ es. T (map.is_sorted key_cmp es)) (sym are) (raised_up (map_list entry_of rows) up);
    are = λ key. ap (λ es. map.get {R = key_cmp} (map.from_entries es) key) are ∙ of_rows.are key;
  })

pub raised_found : (rows made : List Row) (id nodes : ℕ) (r : Result Opened RowFault) → map_list entry_of made ≡ raised_all (map_list entry_of rows) → T (map.is_sorted key_cmp (map_list entry_of rows)) → AreOlder (map_list entry_of rows)
    → Recovers (λ (o : Opened). (x : Lasting) × IsLasting id nodes x × SayNow made id x × IsOpened id nodes x o) (SayNothingNow made id nodes) r
    → Recovers (λ (o : Opened). (x : Lasting) × IsLasting id nodes x × Say rows id x × IsOpened id nodes x o) (SayNothing rows id nodes) r
raised_found rows made id nodes (Ok o) are up first found = (found.0, found.1, says rows made id are up first found.0 found.2, found.3)
raised_found rows made id nodes (Err NoMemory) are up first found = tt
raised_found rows made id nodes (Err BadRow) are up first found = λ x lasting say. found x lasting (said rows made id are up first x say)
raised_found rows made id nodes (Err Device) are up first found = found
