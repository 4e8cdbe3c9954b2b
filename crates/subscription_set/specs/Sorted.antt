-- Lists of pairs whose keys rise.
use Rattle.std.specs.Prelude.{Bool, not, T, List, Option, Some, None}
use Rattle.std.specs.List.{list_any}
use Rattle.std.specs.declared.cmp.Ordering.{Ordering}
use Rattle.std.specs.Ordering.{eq_by_cmp}
use Rattle.std.specs.FinMap.Entries.{is_sorted, where_key}

-- the keys strictly rise
abbrev pub Rises : {K X : Type 0} → (K → K → Ordering) → List (K × X) → Type 0
Rises R es = T (is_sorted R es)

-- the pairs without those of the keys
abbrev pub without_keys : {K X : Type 0} → (K → K → Ordering) → List K → List (K × X) → List (K × X)
without_keys R keys es = where_key R (λ x. not (list_any (eq_by_cmp R x) keys)) es

-- there is a pair of the key
abbrev pub has_key : {K X : Type 0} → (K → K → Ordering) → K → List (K × X) → Bool
has_key R q es = list_any (λ e. eq_by_cmp R q e.0) es

-- the first that there is
abbrev pub first_of : {X : Type 0} → Option X → Option X → Option X
first_of None y = y
first_of (Some x) y = Some x
