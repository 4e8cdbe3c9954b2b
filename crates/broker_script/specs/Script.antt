-- Which texts are scripts, and where another text stops being one.
use Rattle.std.specs.Prelude.{◌≡◌, ◌<◌, ◌≤◌, ℕ, Bool, true, false, not, Option, Some, None, List, [], ◌∷◌, map, length, take, slice_index_or, ◌++◌, ◌+◌, ◌⊎◌}
use Rattle.std.specs.List.{AllByRecursion}
use Rattle.std.specs.Str.{IsAscii, bytes_eq}
use Rattle.broker_script.specs.declared.command.Command.{Command}
use Rattle.broker_script.specs.Line.{Word, literal, node_count, node_number, home_prefix, line_words, spelling, IsInRange, lines, words, is_kept, kept_words}

-- at most 16,777,216 bytes, each of them below 128
abbrev pub IsText : List ℕ → Type 0
IsText script = (length script ≤ 16777216) × IsAscii script

-- the N of the words of `nodes N`, and 0 for other words
abbrev pub count_in : List Word → ℕ
count_in (literal _ ∷ node_count n ∷ []) = n
count_in _ = 0

-- a word that may stand on a line after `nodes n`: a node is below n
abbrev pub Fits : ℕ → Word → Type 0
Fits n (node_number k) = k < n
Fits n (node_count _) = ⊥
Fits n _ = Unit {0}

-- words that may stand on a line after `nodes n`
abbrev pub FitsAll : ℕ → List Word → Type 0
FitsAll n line = AllByRecursion (Fits n) line

-- the prefix of the words of `home PREFIX NODE`
abbrev pub prefix_in : List Word → Option (List ℕ)
prefix_in (literal _ ∷ home_prefix prefix ∷ _) = Some prefix
prefix_in _ = None

-- which lines may stand before another, by their prefixes: before a home, a home of another prefix
abbrev pub may_precede : Option (List ℕ) → Option (List ℕ) → Bool
may_precede before None = true
may_precede None (Some prefix) = false
may_precede (Some other) (Some prefix) = not (bytes_eq other prefix)

-- homes come first, and no prefix twice
abbrev pub AreInTurn : List (List Word) → Type 0
AreInTurn [] = Unit {0}
AreInTurn (line ∷ lines) = AllByRecursion (λ later. may_precede (prefix_in line) (prefix_in later) ≡ true) lines × AreInTurn lines

-- lines in an order that a script may have: `nodes N` first and once, with N from 1 to 8; then the homes, and then the steps
abbrev pub IsOrdered : List (List Word) → Type 0
IsOrdered [] = Unit {0}
IsOrdered (first ∷ rest) = (1 ≤ count_in first) × (count_in first ≤ 8) × AllByRecursion (FitsAll (count_in first)) rest × AreInTurn rest

-- commands in an order that a script may have
abbrev pub IsSound : List Command → Type 0
IsSound commands = IsOrdered (map line_words commands)

-- the first i lines of a text spell these commands, which a script may begin with
pub record Begins (text : List ℕ) (i : ℕ) (commands : List Command) : Type 0 where
  pub spelled : kept_words (take i (lines text)) ≡ map spelling commands
  pub in_range : AllByRecursion IsInRange commands
  pub sound : IsSound commands

-- the text is a script that spells these commands
pub record IsScript (script : List ℕ) (commands : List Command) : Type 0 where
  pub text : IsText script
  pub spelled : kept_words (lines script) ≡ map spelling commands
  pub in_range : AllByRecursion IsInRange commands
  pub sound : IsSound commands
  pub some : 0 < length commands

-- what reading a line makes of the commands before it
abbrev pub Reads : List ℕ → List Command → List Command → Type 0
Reads line old new =
    ((is_kept line ≡ false) × (new ≡ old))
    ⊎ ((is_kept line ≡ true)
    × (command : Command) × (words line ≡ spelling command) × IsInRange command
    × (new ≡ old ++ command ∷ []) × IsSound new)

-- the line isn't skipped, and no command that it spells may stand after these
abbrev pub Refuses : List ℕ → List Command → Type 0
Refuses line old =
    (is_kept line ≡ true)
    × ((command : Command) → IsInRange command → words line ≡ spelling command → IsSound (old ++ command ∷ []) → ⊥)

-- line number k, from 1, is the first that can't go on, or k is 1 and each line is skipped
abbrev pub StopsAt : List ℕ → ℕ → Type 0
StopsAt text k =
    ((i : ℕ) × (commands : List Command)
    × (k ≡ i + 1) × Begins text i commands × Refuses (slice_index_or (lines text) i []) commands)
    ⊎ ((k ≡ 1) × (kept_words (lines text) ≡ []))

-- a script's fault at a line, from 1
pub record FaultsAt (script : List ℕ) (k : ℕ) : Type 0 where
  pub text : IsText script
  pub stops : StopsAt script k
