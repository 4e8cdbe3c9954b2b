-- Frames in a stream of bytes: four bytes count what follows, highest byte first, and so many bytes follow.
use Rattle.std.specs.Prelude.{◌≡◌, ◌+◌, ◌*◌, ◌≤◌, ◌<◌, ◌++◌, ℕ, List, [], ◌∷◌, length, Bool, true, false, Option, Some, None, IfSome, IsSomeAnd, Vec}
use Rattle.std.specs.List.{All}
use Rattle.std.specs.declared.alloc.Global.{Global}
use Rattle.broker_sockets.specs.Buffers.{joined}

-- how many bytes follow the first four
abbrev pub announced : List ℕ → Option ℕ
announced [] = None
announced (a ∷ []) = None
announced (a ∷ b ∷ []) = None
announced (a ∷ b ∷ c ∷ []) = None
announced (a ∷ b ∷ c ∷ d ∷ rest) = Some (((a * 256 + b) * 256 + c) * 256 + d)

-- a frame that isn't whole yet
abbrev pub IsBegun : List ℕ → Type 0
IsBegun bytes = IfSome (announced bytes) (λ n. (n ≤ 268435456) × (length bytes < 4 + n))

-- one frame, whole
abbrev pub IsFrame : List ℕ → Type 0
IsFrame bytes = IsSomeAnd (announced bytes) (λ n. (n ≤ 268435456) × (length bytes ≡ 4 + n))

-- the beginning of a frame that is longer than a frame may be
abbrev pub IsTooLong : List ℕ → Type 0
IsTooLong bytes = IsSomeAnd (announced bytes) (λ n. 268435456 < n)

abbrev pub IsHeld : List ℕ → Type 0
IsHeld bytes = IfSome (announced bytes) (λ n. n ≤ 268435456 → length bytes ≤ 4 + n)

abbrev pub AreFrames : List (Vec ℕ Global) → Type 0
AreFrames frames = All (λ frame. IsFrame frame.items) frames

-- bytes are frames, and then a frame that isn't whole yet, or the beginning of one that is too long
abbrev pub IsCut : List ℕ → List (Vec ℕ Global) → List ℕ → Bool → Type 0
IsCut bytes frames rest true = AreFrames frames × IsBegun rest × (joined frames ++ rest ≡ bytes)
IsCut bytes frames rest false = AreFrames frames × ((front more : List ℕ) × IsTooLong front × (joined frames ++ front ++ more ≡ bytes))
