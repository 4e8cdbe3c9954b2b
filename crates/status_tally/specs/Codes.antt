-- Reason Codes that are counted (MQTT 5.0, 2.4).
use Rattle.std.specs.Prelude.{ℕ, zero, suc, ◌<◌, ◌==◌, nat_lt, List, [], ◌∷◌, ◌++◌, Option, Some, None, slice_index_or, slice_set, if◌then◌else◌}
use Rattle.broker_sockets.specs.declared.events.Output.{Output}
use Rattle.broker_sockets.specs.declared.events.Output.TheVariants.{Send, Close}
use Rattle.status_figures.specs.declared.codes.CodeCount.{CodeCount}
use Rattle.status_tally.specs.Counting.{more}

-- what follows the Remaining Length, whose last byte is below 128 (1.5.5)
abbrev pub behind_length : List ℕ → List ℕ
behind_length [] = []
behind_length (b ∷ bytes) = if nat_lt b 128 then bytes else behind_length bytes

-- codes of failures are 128 and above (2.4)
abbrev pub failure : ℕ → Option ℕ
failure code = if nat_lt code 128 then None else Some code

-- behind the flags of a CONNACK (3.2.2)
abbrev pub second_of : List ℕ → Option ℕ
second_of (flags ∷ code ∷ rest) = failure code
second_of _ = None

-- at the front of what a DISCONNECT says (3.14.2)
abbrev pub first_of : List ℕ → Option ℕ
first_of (code ∷ rest) = failure code
first_of [] = None

-- the code with which a CONNACK, which begins with 0x20, refuses a client
abbrev pub refused_by : List ℕ → Option ℕ
refused_by [] = None
refused_by (first ∷ rest) = if first == 32 then second_of (behind_length rest) else None

-- and that with which a DISCONNECT, which begins with 0xE0, ends a connection
abbrev pub ended_by : List ℕ → Option ℕ
ended_by [] = None
ended_by (first ∷ rest) = if first == 224 then first_of (behind_length rest) else None

-- ---- counts, by the codes

abbrev pub count_at : ℕ → List ℕ → ℕ
count_at code counts = slice_index_or counts code 0

-- one more of a code
abbrev pub more_of : ℕ → List ℕ → List ℕ
more_of code counts = slice_set counts code (more 1 (count_at code counts))

abbrev pub with_code : Option ℕ → List ℕ → List ℕ
with_code None counts = counts
with_code (Some code) counts = more_of code counts

abbrev pub refused_after : List Output → List ℕ → List ℕ
refused_after [] counts = counts
refused_after (Send connection bytes ∷ outputs) counts = refused_after outputs (with_code (refused_by bytes.items) counts)
refused_after (Close connection ∷ outputs) counts = refused_after outputs counts

abbrev pub ended_after : List Output → List ℕ → List ℕ
ended_after [] counts = counts
ended_after (Send connection bytes ∷ outputs) counts = ended_after outputs (with_code (ended_by bytes.items) counts)
ended_after (Close connection ∷ outputs) counts = ended_after outputs counts

-- ---- what is told of them: those that were given, below a code, the least first

abbrev pub one_of : ℕ → ℕ → List CodeCount
one_of code count = if count == 0 then [] else record { code = code; count = count } ∷ []

abbrev pub told_below : ℕ → List ℕ → List CodeCount
told_below zero counts = []
told_below (suc code) counts = told_below code counts ++ one_of code (count_at code counts)
