-- Lines of the tables of the page.
use Rattle.std.specs.Prelude.{ℕ, ◌/◌, ◌%◌, ◌==◌, Bool, List, ◌++◌, codes, Option, Some, None, if◌then◌else◌}
use Rattle.std.specs.Fmt.{decimal}

unfoldable pub label_cell : List ℕ → List ℕ
label_cell label = codes "<tr><th>" ++ label ++ codes "</th>"

unfoldable pub cell : List ℕ → List ℕ
cell value = codes "<td>" ++ value ++ codes "</td>"

unfoldable pub number_cell : ℕ → List ℕ
number_cell n = codes "<td>" ++ decimal n ++ codes "</td>"

-- a text, and then a line of a label and what it is of
unfoldable pub with_row : List ℕ → List ℕ → List ℕ → List ℕ
with_row label value text = text ++ label_cell label ++ cell value ++ codes "</tr>\n"

unfoldable pub with_number : List ℕ → ℕ → List ℕ → List ℕ
with_number label n text = text ++ label_cell label ++ number_cell n ++ codes "</tr>\n"

-- of a number that is a loss, which is red where there is any
abbrev pub loss_class : ℕ → List ℕ
loss_class n = if n == 0 then codes "none" else codes "apart"

unfoldable pub row_start : List ℕ → List ℕ
row_start class = codes "<tr class=\"" ++ class ++ codes "\">"

unfoldable pub head_cell : List ℕ → List ℕ
head_cell label = codes "<th>" ++ label ++ codes "</th>"

unfoldable pub with_loss : List ℕ → ℕ → List ℕ → List ℕ
with_loss label n text = text ++ row_start (loss_class n) ++ head_cell label ++ number_cell n ++ codes "</tr>\n"

unfoldable pub days_text : ℕ → List ℕ
days_text seconds = decimal (seconds / 86400) ++ codes " d " ++ decimal (seconds / 3600 % 24) ++ codes " h "

unfoldable pub minutes_text : ℕ → List ℕ
minutes_text seconds = decimal (seconds / 60 % 60) ++ codes " min " ++ decimal (seconds % 60) ++ codes " s"

-- so many seconds, in days, hours, minutes and seconds
abbrev pub uptime_text : ℕ → List ℕ
uptime_text seconds = days_text seconds ++ minutes_text seconds

-- of a text, which is red where something lacks
abbrev pub lack_class : Bool → List ℕ
lack_class lacks = if lacks then codes "apart" else codes "none"

unfoldable pub with_state : Bool → List ℕ → List ℕ → List ℕ → List ℕ
with_state lacks label value text = text ++ row_start (lack_class lacks) ++ head_cell label ++ cell value ++ codes "</tr>\n"

-- so many bytes, in megabytes of 1,000,000 with one digit behind the point
unfoldable pub megabytes_text : ℕ → List ℕ
megabytes_text bytes = decimal (bytes / 1000000) ++ codes "." ++ decimal (bytes / 100000 % 10) ++ codes " MB"

-- these words where there are none
abbrev pub size_text : List ℕ → Option ℕ → List ℕ
size_text none None = none
size_text none (Some bytes) = megabytes_text bytes
