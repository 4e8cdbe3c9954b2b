-- What is given out for a stream, and what it takes.
use Rattle.std.specs.Prelude.{◌≡◌, ℕ, List, [], ◌∷◌, ◌++◌, ◌&&◌, flat_map, if◌then◌else◌, Bool, false, Option, Some, None}
use Rattle.std.specs.List.{AllByRecursion}
use Rattle.broker_sockets.specs.Answers.{carried}
use Rattle.broker_sockets.specs.declared.ready.Watched.{Watched}
use Rattle.law_serving.specs.Calls.{Call, Lets_go, Tells, Through, Watches, Writes}
use Rattle.law_serving.specs.Channels.{Channel, Gift, Goes, gifts_in, is_same}

-- what the handler gives out for a name, in order: bytes, or the end
abbrev pub for_name : Watched → List Gift → List (Option (List ℕ))
for_name name [] = []
for_name name (gift ∷ gifts) = if is_same gift.name name then gift.bytes ∷ for_name name gifts else for_name name gifts

-- the bytes up to the end; what is given after that comes to nothing
abbrev pub until_end : List (Option (List ℕ)) → List ℕ
until_end [] = []
until_end (Some bytes ∷ more) = bytes ++ until_end more
until_end (None ∷ more) = []

module _ {T : Type 0} where
  abbrev pub gives : Call T → List Gift
  gives (Tells told) = gifts_in told
  gives _ = []

  -- all bytes that calls give out for a name
  abbrev pub given_for : Watched → List (Call T) → List ℕ
  given_for name calls = until_end (for_name name (flat_map gives calls))

  -- all bytes that its stream takes
  abbrev pub takes : Watched → Call T → List ℕ
  takes name (Writes other stream offered answer after) = if is_same other name then carried answer offered else []
  takes name _ = []

  abbrev pub taken_by : Watched → List (Call T) → List ℕ
  taken_by name calls = flat_map (takes name) calls

  -- a stream is opened under the name, or closed
  abbrev pub turns : Watched → Call T → Bool
  turns name (Watches other stream answer) = answer && is_same other name
  turns name (Lets_go other asked) = is_same other name
  turns name _ = false

-- while a stream is open, what it takes, and then what waits, is what waited, and then all that is given out for it: whole, once, and in order
abbrev pub StreamsTakeWhatIsGiven : Type 0 → Type 0
StreamsTakeWhatIsGiven T =
    (name : Watched) (calls : List (Call T)) (x x' : Channel T) → x.closing ≡ false → Through (Goes name) calls (Some x) (Some x') → AllByRecursion (λ call. turns name call ≡ false) calls
    → x.waits ++ given_for name calls ≡ taken_by name calls ++ x'.waits
