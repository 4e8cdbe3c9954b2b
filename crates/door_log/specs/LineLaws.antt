-- Laws of the text of a log.
use Rattle.std.specs.Prelude.{◌≡◌, ◌<◌, ℕ, List, map}
use Rattle.std.specs.List.{AllByRecursion}
use Rattle.door_log.specs.Escaping.{escaped}
use Rattle.door_log.specs.Lines.{entry_text, log_text}
use Rattle.door_log.specs.declared.line.LogEntry.{LogEntry}

abbrev pub AreBytes : List ℕ → Type 0
AreBytes bytes = AllByRecursion (λ b. b < 256) bytes

-- the same text is of the same identifier
abbrev pub IdentifiersReadBack : Type 0
IdentifiersReadBack = (a b : List ℕ) → AreBytes a → AreBytes b → escaped a ≡ escaped b → a ≡ b

-- the same text is of the same lines
abbrev pub LinesStayApart : Type 0
LinesStayApart = (es fs : List LogEntry) → log_text es ≡ log_text fs → map entry_text es ≡ map entry_text fs
