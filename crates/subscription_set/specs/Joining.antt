-- What a merge takes out and brings.
use Rattle.std.specs.Prelude.{◌≡◌, Bool, false, not, ◌&&◌, cond, is_some, List, Option, Some, None}
use Rattle.std.specs.List.{list_any}
use Rattle.std.specs.Ordering.{eq_by_cmp}
use Rattle.std.specs.FinMap as map
use Rattle.std.specs.FinSet as set
use Rattle.causal_context.specs.Dots.{Dots, Dot, dot_cmp}
use Rattle.subscription_set.specs.Entries.{Entry}
use Rattle.subscription_set.specs.Merging.{same_entry}
use Rattle.subscription_set.specs.Indexing.{ByDot}
use Rattle.subscription_set.specs.Statuses.{Status}

-- the other has seen the entry's dot, and has not the same entry there
abbrev pub leaves_with : Dots → ByDot → Dot × Entry → Bool
leaves_with seen others x = set.contains seen x.0 && not (same_entry (Some x.1) (map.get others x.0))

abbrev pub leaving_in : Dots → ByDot → Dot → Dot × Entry → Bool
leaving_in seen others q x = eq_by_cmp dot_cmp q x.0 && leaves_with seen others x

-- the same of what there may be at a dot
abbrev pub leaves_from : ByDot → Dots → ByDot → Dot → Bool
leaves_from m seen others q = is_some (map.get m q) && (set.contains seen q && not (same_entry (map.get m q) (map.get others q)))

-- the dots whose entries a merge takes out
abbrev pub AreLeaving : ByDot → Dots → ByDot → List Dot → Type 0
AreLeaving m seen others out = (q : Dot) → list_any (eq_by_cmp dot_cmp q) out ≡ leaves_from m seen others q

-- what stands here leaves by the join: the other has seen its dot, and has not the same entry there
abbrev pub is_leaving : Option Status → Option Status → Bool
is_leaving (Some (Some e)) (Some y) = not (same_entry (Some e) y)
is_leaving (Some (Some e)) None = false
is_leaving (Some None) y = false
is_leaving None y = false

-- the dots of the other's entries that were not seen here
abbrev pub AreUnseen : Dots → ByDot → List Dot → Type 0
AreUnseen seen others out = (q : Dot) → list_any (eq_by_cmp dot_cmp q) out ≡ (is_some (map.get others q) && not (set.contains seen q))

-- with the other's entries at the dots, where none stood
abbrev pub IsBrought : ByDot → ByDot → List Dot → ByDot → Type 0
IsBrought m others dots n = (q : Dot) → map.get n q ≡ cond (is_some (map.get m q)) (map.get m q) (cond (list_any (eq_by_cmp dot_cmp q) dots) (map.get others q) None)

-- without the entries at the dots
abbrev pub IsCleared : ByDot → List Dot → ByDot → Type 0
IsCleared m dots n = (q : Dot) → map.get n q ≡ cond (list_any (eq_by_cmp dot_cmp q) dots) None (map.get m q)
