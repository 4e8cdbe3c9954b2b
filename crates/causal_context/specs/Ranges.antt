-- Ranges of dots, and the set that a list of them stands for.
use Rattle.std.specs.Prelude.{◌≡◌, ℕ, suc, zero, ◌+◌, ◌-◌, ◌<◌, ◌≤◌, ◌^◌, Bool, true, ◌&&◌, ◌==◌, nat_le, List, [], ◌∷◌, ◌++◌, length, slice_index_or}
use Rattle.std.specs.List.{list_any}
use Rattle.std.specs.FinSet as set
use Rattle.causal_context.specs.Dots.{Dot, Dots}
use Rattle.causal_context.specs.declared.ranges.Range.{Range}

-- the dots of a node from a number on
abbrev pub dots_from : ℕ → ℕ → ℕ → List Dot
dots_from node first zero = []
dots_from node first (suc n) = record { node = node; number = first } ∷ dots_from node (first + 1) n

unfoldable pub dots_in : List Range → List Dot
dots_in [] = []
dots_in (r ∷ rs) = dots_from r.node r.first (r.last + 1 - r.first) ++ dots_in rs

-- the set that ranges stand for
abbrev pub set_of : List Range → Dots
set_of rs = set.from_list (dots_in rs)

-- whether the dot is in the range
abbrev pub covers : Dot → Range → Bool
covers d r = (r.node == d.node) && (nat_le r.first d.number && nat_le d.number r.last)

-- whether it is in one of them
abbrev pub covered : Dot → List Range → Bool
covered d rs = list_any (covers d) rs

-- not empty, and of dots: a node of two bytes, numbers from 1 to 2^62 - 1
pub record IsFine (r : Range) : Type 0 where
  pub node : r.node < 2 ^ 16
  pub from : 1 ≤ r.first
  pub not_empty : r.first ≤ r.last
  pub below : r.last < 2 ^ 62

-- a stands before b, and does not touch it
pub record IsApart (a b : Range) : Type 0 where
  pub nodes : a.node ≤ b.node
  pub numbers : a.node ≡ b.node → a.last + 1 < b.first

-- each is fine, and they are in order, apart from each other
pub record IsSound (rs : List Range) : Type 0 where
  pub fine : (k : ℕ) (d : Range) → k < length rs → IsFine (slice_index_or rs k d)
  pub apart : (i j : ℕ) (d : Range) → i < j → j < length rs → IsApart (slice_index_or rs i d) (slice_index_or rs j d)

-- the ranges of a context: sound, and no more than four bytes can count
pub record IsContext (rs : List Range) : Type 0 where
  pub sound : IsSound rs
  pub few : length rs < 2 ^ 32

-- each dot of a is one of b
abbrev pub AreBelow : List Range → List Range → Type 0
AreBelow a b = (q : Dot) → covered q a ≡ true → covered q b ≡ true

-- two sound lists of ranges that stand for one set are one list
abbrev pub SpelledOnce : Type 0
SpelledOnce = (a b : List Range) → IsSound a → IsSound b → set_of a ≡ set_of b → a ≡ b
