-- Buffers of bytes, one after another.
use Rattle.std.specs.Prelude.{ℕ, List, [], ◌∷◌, ◌++◌, ◌<◌, length, Vec}
use Rattle.std.specs.declared.alloc.Global.{Global}

abbrev pub joined : List (Vec ℕ Global) → List ℕ
joined [] = []
joined (buffer ∷ buffers) = buffer.items ++ joined buffers

-- what waits behind the first buffer
abbrev pub behind : List (Vec ℕ Global) → Vec ℕ Global → List ℕ
behind rest last = joined rest ++ last.items

abbrev pub HasBytes : Vec ℕ Global → Type 0
HasBytes buffer = 0 < length buffer.items
