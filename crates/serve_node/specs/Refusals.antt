-- What is told where nobody can be accepted, where nobody can tell how much memory is held, where clients are held back, and where a link of another node is closed.
use Rattle.std.specs.Prelude.{ℕ, List, ◌++◌, ◌||◌, ◌==◌, if◌then◌else◌, codes}
use Rattle.cli_stops.specs.Answers.{answer_text}
use Rattle.cli_stops.specs.declared.answer.Answer.{Answer}
use Rattle.cli_stops.specs.declared.answer.Answer.TheVariants.{Number}

-- the system's numbers for a limit of open files: its own, and that of the program
abbrev pub refusal_text : Answer → List ℕ
refusal_text (Number number) = if (number == 23) || (number == 24) then codes "too many open files" else answer_text (Number number)
refusal_text answer = answer_text answer

abbrev pub refusal_line : Answer → List ℕ
refusal_line answer = codes "broker: accepting clients: " ++ refusal_text answer ++ codes "\n"

-- the limit on memory doesn't hold
abbrev pub unread_line : List ℕ
unread_line = codes "broker: reading /proc/self/statm: it can not be read, so --most-memory limits nothing\n"

-- clients that publish wait
abbrev pub held_line : List ℕ
held_line = codes "broker: more than 4096 messages wait for another node: clients that publish are held back\n"

-- a link comes from elsewhere than the bridges of the table
unfoldable pub stranger_line : List ℕ → List ℕ
stranger_line address = codes "broker: a link from " ++ address ++ codes " was closed: no bridge of the table of homes has that address (--bridge-from-anywhere takes it)\n"
