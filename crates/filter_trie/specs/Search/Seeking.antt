-- Where a walk over texts in the order of bytes goes on.
use Rattle.std.specs.Prelude.{ℕ, ◌-◌, ◌<◌, ◌≡◌, ◌≢◌, ◌⊎◌, List, [], ◌∷◌, ◌++◌, length, take, Option, Some, None}
use denote.Ref.{Bor}

-- a text stands before another in the order of bytes: where they first differ its byte is less, or it ends there
abbrev pub IsBefore : List ℕ → List ℕ → Type 0
IsBefore [] [] = ⊥
IsBefore [] (y ∷ ys) = Unit {0}
IsBefore (x ∷ xs) [] = ⊥
IsBefore (x ∷ xs) (y ∷ ys) = (x < y) ⊎ ((x ≡ y) × IsBefore xs ys)

-- a text isn't below the bound; without a bound no text is so
abbrev pub IsFrom : Option (List ℕ) → List ℕ → Type 0
IsFrom None text = ⊥
IsFrom (Some bound) text = IsBefore text bound → ⊥

-- the bound is after the key
abbrev pub IsPast : List ℕ → Option (List ℕ) → Type 0
IsPast key None = Unit {0}
IsPast key (Some bound) = IsBefore key bound

-- past the key the texts that have P begin at the bound
abbrev pub IsNext : (List ℕ → Type 0) → List ℕ → Option (List ℕ) → Type 0
IsNext P key bound = IsPast key bound × ((text : List ℕ) → P text → IsBefore key text → IsFrom bound text)

-- a level has no separator
abbrev pub IsLevel : List ℕ → Type 0
IsLevel [] = Unit {0}
IsLevel (b ∷ bs) = (b ≢ 47) × IsLevel bs

-- the first level of a text, and the text after its separator if there is one
abbrev pub IsCut : List ℕ → List ℕ → Option (Bor (List ℕ)) → Type 0
IsCut text level None = (text ≡ level) × IsLevel level
IsCut text level (Some later) = (text ≡ level ++ 47 ∷ later.now) × IsLevel level

-- a text is the level, or goes on after it
abbrev pub IsAt : List ℕ → List ℕ → Type 0
IsAt level text = (text ≡ level) ⊎ ((later : List ℕ) × (text ≡ level ++ 47 ∷ later))

-- a text is `#`, or begins with the level `+`
abbrev pub IsWild : List ℕ → Type 0
IsWild text = (text ≡ 35 ∷ []) ⊎ IsAt (43 ∷ []) text

-- two texts begin with the same level, and go on after it
abbrev pub ShareLevel : List ℕ → List ℕ → Type 0
ShareLevel one other = (level : List ℕ) × (a : List ℕ) × (b : List ℕ) × IsLevel level × (one ≡ level ++ 47 ∷ a) × (other ≡ level ++ 47 ∷ b)

-- a bound for what is left of a key is one for the key; without it the earlier one stays
abbrev pub deeper : List ℕ → List ℕ → Option (List ℕ) → Option (List ℕ) → Option (List ℕ)
deeper key rest None best = best
deeper key rest (Some bound) best = Some (take (length key - length rest) key ++ bound)
