-- Which node is the home of a client identifier.
use Rattle.std.specs.Prelude.{◌≡◌, ◌⊎◌, ℕ, ◌<◌, ◌≤◌, ◌%◌, List, ◌++◌, length, take, sum, codes, decimal, slice_index, IsTrue, Some, None}
use Rattle.std.specs.Ordering.{nat_cmp}
use Rattle.std.specs.Cmp.Lexicographic.{slice_cmp}
use Rattle.std.specs.Str.{all_ascii_digits}
use Rattle.std.specs.FinMap.{FinMap}
use Rattle.std.specs.FinMap as map
use Rattle.home_table.specs.Table.{Table}

-- a whole number of any length in decimal, without leading zeros
pub record IsWholeNumber (text : List ℕ) : Type 0 where
  pub some : 0 < length text
  pub digits : IsTrue (all_ascii_digits text)
  pub plain : slice_index text 0 ≡ 48 → length text ≡ 1

-- an identifier that the node of this number gives by itself: `auto-{node}-{number}`
abbrev pub IsAutomatic : List ℕ → ℕ → Type 0
IsAutomatic identifier node =
    (number : List ℕ) × IsWholeNumber number × (identifier ≡ codes "auto-" ++ (decimal node ++ (codes "-" ++ number)))

-- no node of the table gives the identifier by itself
abbrev pub IsChosen : Table → List ℕ → Type 0
IsChosen t identifier = (node : ℕ) → node < length t.nodes → ¬ (IsAutomatic identifier node)

-- no part of the identifier from its front, of more than `least` bytes, is a prefix of the map
abbrev pub NoLonger : FinMap (slice_cmp nat_cmp) ℕ → List ℕ → ℕ → Type 0
NoLonger homes identifier least = (k : ℕ) → least < k → k ≤ length identifier → map.get homes (take k identifier) ≡ None

-- the longest prefix that the identifier begins with is at the node
abbrev pub IsByPrefix : FinMap (slice_cmp nat_cmp) ℕ → List ℕ → ℕ → Type 0
IsByPrefix homes identifier node =
    (k : ℕ) × (k ≤ length identifier) × (map.get homes (take k identifier) ≡ Some node) × NoLonger homes identifier k

-- the identifier begins with no prefix of the map
abbrev pub HasNoPrefix : FinMap (slice_cmp nat_cmp) ℕ → List ℕ → Type 0
HasNoPrefix homes identifier = (k : ℕ) → k ≤ length identifier → map.get homes (take k identifier) ≡ None

-- the home of an identifier: the node that gives it by itself, or else the node of the longest prefix, or else the one whose
-- number is the sum of the identifier's bytes modulo the number of nodes
abbrev pub IsHome : Table → List ℕ → ℕ → Type 0
IsHome t identifier node =
    ((node < length t.nodes) × IsAutomatic identifier node)
    ⊎ (IsChosen t identifier × IsByPrefix t.homes identifier node)
    ⊎ (IsChosen t identifier × HasNoPrefix t.homes identifier × (node ≡ sum identifier % length t.nodes))
