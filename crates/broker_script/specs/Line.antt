-- How a line of a script is spelled. Each command has one spelling: the words of its line, with one space between two.
use Rattle.std.specs.Prelude.{◌==◌, ◌<◌, ◌≤◌, ◌^◌, ℕ, Bool, true, false, List, [], ◌∷◌, map, filter, codes, length, string_bytes, All, if◌then◌else◌}
use Rattle.std.specs.List.{slice_split, AllByRecursion}
use Rattle.std.specs.Fmt.{decimal}
use Rattle.hex.specs.Hex.{encode_lower, IsBytes}
use Rattle.broker_script.specs.declared.command.Command.{Command}
use Rattle.broker_script.specs.declared.command.Command.TheVariants.{Nodes, Home, Event, CrashBefore, CrashAfter, Restart, Deliver}
use Rattle.broker_script.specs.declared.event.NodeEvent.{NodeEvent}
use Rattle.broker_script.specs.declared.event.NodeEvent.TheVariants.{Start, Open, Bytes, Close, Ship, Link, Tick, Evict, Move}

-- a word of a line, by what it says
pub data Word : Type 0 where
  literal : List ℕ → Word
  node_count : ℕ → Word
  node_number : ℕ → Word
  whole_number : ℕ → Word
  hex_bytes : List ℕ → Word
  client_identifier : List ℕ → Word
  home_prefix : List ℕ → Word
  table_version : ℕ → Word

-- the words of an event's line: a case for each event that a script may have
abbrev pub event_words : NodeEvent → List Word
event_words (Start node moment) = literal (codes "start") ∷ node_number node ∷ whole_number moment ∷ []
event_words (Open node connection moment) =
    literal (codes "open") ∷ node_number node ∷ whole_number connection ∷ whole_number moment ∷ []
event_words (Bytes node connection moment piece) =
    literal (codes "bytes") ∷ node_number node ∷ whole_number connection ∷ whole_number moment ∷ hex_bytes piece.items ∷ []
event_words (Close node connection moment) =
    literal (codes "close") ∷ node_number node ∷ whole_number connection ∷ whole_number moment ∷ []
event_words (Ship node peer moment) = literal (codes "ship") ∷ node_number node ∷ node_number peer ∷ whole_number moment ∷ []
event_words (Link node peer moment) = literal (codes "link") ∷ node_number node ∷ node_number peer ∷ whole_number moment ∷ []
event_words (Tick node moment) = literal (codes "tick") ∷ node_number node ∷ whole_number moment ∷ []
event_words (Evict node client moment) =
    literal (codes "evict") ∷ node_number node ∷ client_identifier (string_bytes client) ∷ whole_number moment ∷ []
event_words (Move node version prefix home moment) =
    literal (codes "move") ∷ node_number node ∷ table_version version ∷ home_prefix (string_bytes prefix) ∷ node_number home ∷ whole_number moment ∷ []

-- the words of a command's line: a case for each line that a script may have
abbrev pub line_words : Command → List Word
line_words (Nodes nodes) = literal (codes "nodes") ∷ node_count nodes ∷ []
line_words (Home prefix node) = literal (codes "home") ∷ home_prefix (string_bytes prefix) ∷ node_number node ∷ []
line_words (Event event) = event_words event
line_words (CrashBefore event) = literal (codes "crash") ∷ literal (codes "before") ∷ event_words event
line_words (CrashAfter event) = literal (codes "crash") ∷ literal (codes "after") ∷ event_words event
line_words (Restart node) = literal (codes "restart") ∷ node_number node ∷ []
line_words (Deliver frame moment) = literal (codes "deliver") ∷ whole_number frame ∷ whole_number moment ∷ []

-- the text of a word: numbers in decimal without leading zeros, bytes in lower case hexadecimal, identifiers and prefixes as
-- they are
abbrev pub spelled : Word → List ℕ
spelled (literal text) = text
spelled (node_count n) = decimal n
spelled (node_number n) = decimal n
spelled (whole_number n) = decimal n
spelled (hex_bytes bytes) = encode_lower bytes
spelled (client_identifier bytes) = bytes
spelled (home_prefix bytes) = bytes
spelled (table_version n) = decimal n

-- the texts of an event's words
abbrev pub event_spelling : NodeEvent → List (List ℕ)
event_spelling event = map spelled (event_words event)

-- the texts of a command's words
abbrev pub spelling : Command → List (List ℕ)
spelling command = map spelled (line_words command)

-- a word as it is: from 1 byte to so many, each from 33 to 126
abbrev pub IsPlain : ℕ → List ℕ → Type 0
IsPlain most bytes = (0 < length bytes) × (length bytes ≤ most) × All (λ b. (33 ≤ b) × (b ≤ 126)) bytes

-- what a word may say: nodes below 2^16, whole numbers below 2^64, one byte at least, a client identifier of at most 256
-- bytes, a prefix of at most 255, versions below 2^32
abbrev pub IsWordInRange : Word → Type 0
IsWordInRange (literal _) = Unit {0}
IsWordInRange (node_count n) = n < 2 ^ 16
IsWordInRange (node_number n) = n < 2 ^ 16
IsWordInRange (whole_number n) = n < 2 ^ 64
IsWordInRange (hex_bytes bytes) = (0 < length bytes) × IsBytes bytes
IsWordInRange (client_identifier bytes) = IsPlain 256 bytes
IsWordInRange (home_prefix bytes) = IsPlain 255 bytes
IsWordInRange (table_version n) = n < 2 ^ 32

-- each word of an event's line may say what it does
abbrev pub IsEventInRange : NodeEvent → Type 0
IsEventInRange event = AllByRecursion IsWordInRange (event_words event)

-- each word of a command's line may say what it does
abbrev pub IsInRange : Command → Type 0
IsInRange command = AllByRecursion IsWordInRange (line_words command)

-- the lines of a text: its parts between line feeds
abbrev pub lines : List ℕ → List (List ℕ)
lines text = slice_split (λ b. b == 10) text

-- the words of a line: its parts between spaces
abbrev pub words : List ℕ → List (List ℕ)
words line = slice_split (λ b. b == 32) line

-- a line that isn't skipped: it isn't empty and doesn't begin with `#`
abbrev pub is_kept : List ℕ → Bool
is_kept [] = false
is_kept (b ∷ _) = if◌then◌else◌ (b == 35) false true

-- the words of the lines that aren't skipped
abbrev pub kept_words : List (List ℕ) → List (List (List ℕ))
kept_words ls = map words (filter is_kept ls)
