-- The texts that the parts of a bound stand for.
use Rattle.std.specs.Prelude.{ℕ, List, ◌++◌, take, Option, Some, None}
use Rattle.filter_trie.specs.declared.steps.Step.{Step}
use Rattle.filter_trie.specs.declared.steps.Bound.{Bound}
use Rattle.filter_trie.specs.declared.steps.Seek.{Seek}
use Rattle.filter_trie.specs.declared.steps.Seek.TheVariants.{Next, To}
use Rattle.filter_trie.specs.Search.Seeking.{IsNext}

-- a level and what follows it
abbrev pub step_text : Step → List ℕ
step_text s = s.level.now ++ s.tail.now

abbrev pub some_step : Option Step → Option (List ℕ)
some_step None = None
some_step (Some s) = Some (step_text s)

-- what the bound keeps of a key, and its step there
abbrev pub bound_text : List ℕ → Bound → List ℕ
bound_text key b = take b.start key ++ step_text b.step

abbrev pub some_bound : List ℕ → Option Bound → Option (List ℕ)
some_bound key None = None
some_bound key (Some b) = Some (bound_text key b)

-- where a walk goes on past the key, if that is known, skips none of the texts that have P
abbrev pub Seeks : (List ℕ → Type 0) → List ℕ → Seek → Type 0
Seeks P key Next = Unit {0}
Seeks P key (To bound) = IsNext P key (some_bound key bound)
