-- Clients, each at a moment or another number.
use Rattle.std.specs.Prelude.{ℕ, List, [], ◌∷◌}
use Rattle.std.specs.Coded.{Coded, coded×, coded_list, coded_ℕ}
use base.Stored.{coded_unit}
use Rattle.std.specs.Cmp.Lexicographic.{slice_cmp}
use Rattle.std.specs.FinMap.{FinMap}
use Rattle.std.specs.FinMap as map
use Rattle.std.specs.Ordering.{nat_cmp, ordering_then}
use Rattle.std.specs.declared.cmp.Ordering.{Ordering}

-- a moment, and the client that is due then
abbrev pub Due : Type 0
Due = ℕ × List ℕ

-- by moment, and then by the client's bytes
abbrev pub due_cmp : Due → Due → Ordering
due_cmp a b = ordering_then (nat_cmp a.0 b.0) (slice_cmp nat_cmp a.1 b.1)

-- a set of these, as a map to nothing
abbrev pub Dues : Type 0
Dues = FinMap due_cmp (Unit {0})

abbrev pub coded_dues : Coded Dues
coded_dues = map.code (coded× coded_ℕ (coded_list coded_ℕ)) coded_unit

abbrev pub set_of : List Due → Dues
set_of [] = map.empty
set_of (d ∷ ds) = map.insert (set_of ds) d tt

-- these in order, each once
abbrev pub in_order : List Due → List Due
in_order ds = map.keys (set_of ds)
