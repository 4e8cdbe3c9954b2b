-- Reason Codes that were given, as the page and the metrics show them.
use Rattle.std.specs.Prelude.{ℕ, List, [], ◌∷◌, ◌++◌, codes}
use Rattle.std.specs.Fmt.{decimal}
use Rattle.door_log.specs.Escaping.{reason_text}
use Rattle.door_log.specs.Reasons.{words_of}
use Rattle.status_figures.specs.declared.codes.CodeCount.{CodeCount}

-- in the page: what the code stands for, the code, and how often it was given
unfoldable pub code_row : List ℕ → ℕ → List ℕ → ℕ → List ℕ
code_row before code words count =
    codes "<tr><th>" ++ before ++ words ++ codes " (" ++ reason_text code ++ codes ")</th><td>" ++ decimal count ++ codes "</td></tr>\n"

abbrev pub with_code_rows : List ℕ → List CodeCount → List ℕ → List ℕ
with_code_rows before [] text = text
with_code_rows before (one ∷ more) text = with_code_rows before more (text ++ code_row before one.code (words_of one.code) one.count)

-- in the metrics
unfoldable pub code_line : List ℕ → List ℕ → ℕ → List ℕ
code_line name code count = name ++ codes "{code=\"" ++ code ++ codes "\"} " ++ decimal count ++ codes "\n"

abbrev pub with_code_lines : List ℕ → List CodeCount → List ℕ → List ℕ
with_code_lines name [] text = text
with_code_lines name (one ∷ more) text = with_code_lines name more (text ++ code_line name (reason_text one.code) one.count)
