-- What comes of reading a line, and a file.
use Rattle.std.specs.Prelude.{◌≡◌, ℕ, Result, Ok, Err}
use Rattle.door_users.specs.declared.fault.FileFault.{FileFault}
use Rattle.door_users.specs.declared.fault.FileFault.TheVariants.{NoMemory as NoMemoryForFile, Line}
use Rattle.door_users.specs.declared.fault.LineFlaw.{LineFlaw}
use Rattle.door_users.specs.declared.fault.Unread.{Unread}
use Rattle.door_users.specs.declared.fault.Unread.TheVariants.{NoMemory, Flaw}

infixl 10 ◌>>=◌
-- and then, unless there was a flaw
abbrev pub ◌>>=◌ : {A B E : Type 0} → Result A E → (A → Result B E) → Result B E
(Ok x) >>= f = f x
(Err e) >>= f = Err e

-- what was told of a line is so; want of memory says nothing of it
abbrev pub Fails : {Y : Type 0} → Unread → Result Y LineFlaw → Type 0
Fails NoMemory read = Unit {0}
Fails (Flaw flaw) read = read ≡ Err flaw

-- what a function returned, seen by view, is what the line gives, unless memory ran out
abbrev pub Gives : {X Y : Type 0} → (X → Y) → Result X Unread → Result Y LineFlaw → Type 0
Gives view (Ok x) read = read ≡ Ok (view x)
Gives view (Err e) read = Fails e read

-- the same of a file: its first line with a flaw, and which flaw
abbrev pub FileFails : {Y : Type 0} → FileFault → Result Y (ℕ × LineFlaw) → Type 0
FileFails NoMemoryForFile read = Unit {0}
FileFails (Line number flaw) read = read ≡ Err (number, flaw)

abbrev pub FileGives : {X Y : Type 0} → (X → Y) → Result X FileFault → Result Y (ℕ × LineFlaw) → Type 0
FileGives view (Ok x) read = read ≡ Ok (view x)
FileGives view (Err e) read = FileFails e read

-- a flaw, with the number of its line
abbrev pub at_line : {A : Type 0} → ℕ → Result A LineFlaw → Result A (ℕ × LineFlaw)
at_line number (Ok x) = Ok x
at_line number (Err flaw) = Err (number, flaw)
