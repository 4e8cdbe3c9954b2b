-- Laws of the grammar.
use Rattle.std.specs.Prelude.{◌≡◌, ℕ, List, map}
use Rattle.broker_script.specs.declared.command.Command.{Command}
use Rattle.broker_script.specs.Line.{line_words}
use Rattle.broker_script.specs.Script.{IsScript, FaultsAt}

-- two readings of a script say the same
abbrev pub ReadsOneWay : Type 0
ReadsOneWay = (script : List ℕ) (a b : List Command) → IsScript script a → IsScript script b → map line_words a ≡ map line_words b

-- a text with a fault at a line is no script
abbrev pub FaultExcludesScript : Type 0
FaultExcludesScript = (script : List ℕ) (k : ℕ) (commands : List Command) → FaultsAt script k → IsScript script commands → ⊥

-- a text has a fault at one line at most
abbrev pub FirstFaultIsUnique : Type 0
FirstFaultIsUnique = (script : List ℕ) (j k : ℕ) → FaultsAt script j → FaultsAt script k → j ≡ k
