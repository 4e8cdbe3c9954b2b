-- Where a walk over keys goes on.
use Rattle.std.specs.Prelude.{ℕ, List, Option, Some, None}
use Rattle.filter_trie.specs.declared.seeks.Onward.{Onward}
use Rattle.filter_trie.specs.declared.seeks.Onward.TheVariants.{Next, From, End}
use Rattle.filter_trie.specs.Search.Seeking.{IsNext}

-- no key that has P is passed over: `read` gives the text of a bound
abbrev pub Leads : {K : Type 0} → (K → List ℕ) → (List ℕ → Type 0) → List ℕ → Onward K → Type 0
Leads read P key Next = Unit {0}
Leads read P key (From bound) = IsNext P key (Some (read bound))
Leads read P key End = IsNext P key None

-- for want of a bound at the next key
abbrev pub from_text : {K : Type 0} → Option K → Onward K
from_text None = Next
from_text (Some bound) = From bound
