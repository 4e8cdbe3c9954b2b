-- The lines of a file.
use Rattle.std.specs.Prelude.{ℕ, List, [], Bool, ◌==◌, Option, Some, None}
use Rattle.std.specs.List.{slice_split}
use Rattle.door_users.specs.declared.lines.FileLines.{FileLines}
use denote.Ref.{Bor}

abbrev pub is_newline : ℕ → Bool
is_newline b = b == 10

abbrev pub is_space : ℕ → Bool
is_space b = b == 32

-- a newline stands between two lines
abbrev pub file_lines : List ℕ → List (List ℕ)
file_lines text = slice_split is_newline text

-- the lines that an iterator has left
abbrev pub rest_lines : Option (Bor (List ℕ)) → List (List ℕ)
rest_lines None = []
rest_lines (Some text) = file_lines text.now

abbrev pub lines_left : FileLines → List (List ℕ)
lines_left s = rest_lines s.rest
