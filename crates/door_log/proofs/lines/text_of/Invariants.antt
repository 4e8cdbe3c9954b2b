use Rattle.std.proofs.Common.{◌≡◌, ◌++◌, drop}
use Rattle.std.specs.Prelude.{string_bytes}
use Rattle.door_log.specs.Lines.{log_text}
use Rattle.door_log.specs.Writing.{mended}
use Rattle.door_log.proofs.lines.text_of.Given as goal

-- with the lines that are left, all are there
abbrev pub invariant-loop-entry : goal.invariant-loop-entry
invariant-loop-entry l = string_bytes l.text ++ log_text (drop l.entry-index l.entries) ≡ mended l.broken ++ log_text l.entries
