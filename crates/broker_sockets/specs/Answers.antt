-- What a socket's answer carries.
use Rattle.std.specs.Prelude.{◌≡◌, ℕ, List, [], ◌≤◌, ◌<◌, length, take, drop}
use Rattle.std.specs.Io.{StartsWith}
use Rattle.broker_sockets.specs.declared.network.Answer.{Answer}
use Rattle.broker_sockets.specs.declared.network.Answer.TheVariants.{Later, Bytes, Gone}

-- no more bytes than so many
abbrev pub IsWithin : Answer → ℕ → Type 0
IsWithin Later most = Unit {0}
IsWithin (Bytes n) most = n ≤ most
IsWithin Gone most = Unit {0}

-- at least one byte, where any were carried
abbrev pub CarriesSome : Answer → Type 0
CarriesSome Later = Unit {0}
CarriesSome (Bytes n) = 0 < n
CarriesSome Gone = Unit {0}

-- the bytes that were carried, of those in a buffer
abbrev pub carried : Answer → List ℕ → List ℕ
carried Later buffer = []
carried (Bytes n) buffer = take n buffer
carried Gone buffer = []

-- what still waits
abbrev pub left_after : Answer → List ℕ → List ℕ
left_after Later bytes = bytes
left_after (Bytes n) bytes = drop n bytes
left_after Gone bytes = bytes

-- a stream was offered some of the first bytes that wait, and those that it took don't wait any more
pub record Offers {S T : Type 0} (writes : S → T → List ℕ → Answer → S → T → Type 0) (unsent : List ℕ) (s : S) (t : T) (answer : Answer) (left : List ℕ) (s' : S) (t' : T) : Type 0 where
  pub offered : List ℕ
  pub some : 0 < length offered
  pub first : StartsWith unsent offered
  pub asked : writes s t offered answer s' t'
  pub within : IsWithin answer (length offered)
  pub left_is : left ≡ left_after answer unsent
