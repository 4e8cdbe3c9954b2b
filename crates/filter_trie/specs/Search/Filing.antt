-- What a table of counts knows of filters.
use Rattle.std.specs.Prelude.{ℕ, ◌≢◌, List}
use Rattle.filter_trie.specs.declared.beginnings.Beginnings.{Beginnings}
use Rattle.filter_trie.specs.Search.Counting.{hashes, times, total, count, Covers}

-- the count of a hash
abbrev pub counted : Beginnings → ℕ → ℕ
counted b h = count b.counts.entries h

-- each hash of the text is counted
abbrev pub IsFiled : Beginnings → List ℕ → Type 0
IsFiled b text = (h : ℕ) → times h (hashes 0 text) ≢ 0 → counted b h ≢ 0

-- those of all these texts are counted, each as often as it is there
abbrev pub AreFiled : Beginnings → List (List ℕ) → Type 0
AreFiled b texts = (h : ℕ) → Covers (counted b h) (total texts h)
