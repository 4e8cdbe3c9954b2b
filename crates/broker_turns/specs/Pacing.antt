-- Turns that begin one after another, and how much each reads from a client's socket.
use Rattle.std.specs.Prelude.{◌≡◌, ◌+◌, ◌*◌, ◌≤◌, ◌<◌, ℕ, List, [], ◌∷◌, length, min, Some}
use Rattle.broker_turns.specs.declared.pace.Pace.{Pace}
use Rattle.broker_turns.specs.Pace.{is_long, paced}

-- a turn begins at a moment
pub record IsBegun (at : ℕ) (pace pace' : Pace) : Type 0 where
  pub most : pace'.most ≡ paced (is_long pace.last at) pace.most
  pub last : pace'.last ≡ Some at

-- a turn: when it began, and how much it reads from a client's socket at most
pub record Begun : Type 0 where
  pub at : ℕ
  pub most : ℕ

-- turns that begin one after another
abbrev pub AreBegun : Pace → List Begun → Pace → Type 0
AreBegun pace [] pace' = pace' ≡ pace
AreBegun pace (turn ∷ turns) pace' = (next : Pace) × IsBegun turn.at pace next × (turn.most ≡ next.most) × AreBegun next turns pace'

-- the last of some turns
abbrev pub last_of : Begun → List Begun → Begun
last_of a [] = a
last_of a (b ∷ rest) = last_of b rest

-- each but the last took at most 100 milliseconds
abbrev pub AreShort : Begun → List Begun → Type 0
AreShort a [] = Unit {0}
AreShort a (b ∷ rest) = (b.at ≤ a.at + 100) × AreShort b rest

-- each but the last took more
abbrev pub AreLong : Begun → List Begun → Type 0
AreLong a [] = Unit {0}
AreLong a (b ∷ rest) = (a.at + 100 < b.at) × AreLong b rest

-- whatever came before, after short turns each turn reads 512 bytes more, up to 65,536: so after 127 of them it reads all
abbrev pub GrowsBack : Type 0
GrowsBack =
    (pace pace' : Pace) (a : Begun) (rest : List Begun) → AreBegun pace (a ∷ rest) pace' → AreShort a rest
    → (last_of a rest).most ≡ min (a.most + length rest * 512) 65536

-- and after seven long turns it reads 512 bytes
abbrev pub ShrinksFast : Type 0
ShrinksFast =
    (pace pace' : Pace) (a : Begun) (rest : List Begun) → AreBegun pace (a ∷ rest) pace' → AreLong a rest → 7 ≤ length rest
    → (last_of a rest).most ≡ 512
