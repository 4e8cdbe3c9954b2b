-- What matches among the pairs of a map by topic filter, and of one by topic name: MQTT 5.0, 4.7.
use Rattle.std.specs.Prelude.{ℕ, List}
use Rattle.std.specs.Ordering.{nat_cmp}
use Rattle.std.specs.Cmp.Lexicographic.{slice_cmp}
use Rattle.std.specs.FinMap.{FinMap}
use Rattle.std.specs.FinMap as map
use Rattle.mqtt_topics.specs.Matching.{Matches}
use Rattle.filter_trie.specs.Selected.{IsSelected}

-- a map by text, in the order of bytes
abbrev pub ByText : Type 0 → Type 0
ByText V = FinMap {K = List ℕ} (slice_cmp nat_cmp) V

-- the pairs whose filter matches the name, in the order of the filters' bytes
abbrev pub AreFiltersFor : {V : Type 0} → ByText V → List ℕ → List (List ℕ × V) → Type 0
AreFiltersFor pairs name out = IsSelected (λ e. Matches e.0 name) (map.entries pairs) out

-- the pairs whose name the filter matches, in the order of the names' bytes
abbrev pub AreNamesFor : {V : Type 0} → ByText V → List ℕ → List (List ℕ × V) → Type 0
AreNamesFor pairs filter out = IsSelected (λ e. Matches filter e.0) (map.entries pairs) out
