-- What the steps over lists of ranges do.
use Rattle.std.specs.Prelude.{◌≡◌, ◌⊎◌, ℕ, ◌+◌, ◌-◌, ◌<◌, ◌≤◌, ◌^◌, true, not, ◌||◌, ◌&&◌, List, length, slice_index_or}
use Rattle.causal_context.specs.Dots.{Dot}
use Rattle.causal_context.specs.declared.ranges.Range.{Range}
use Rattle.causal_context.specs.Ranges.{covers, covered, IsSound, IsApart}

-- the range of one number
abbrev pub one_number : ℕ → ℕ → Range
one_number node number = record { node = node; first = number; last = number }

-- the range starts at the dot or before it
pub record StartsBy (d : Dot) (r : Range) : Type 0 where
  pub nodes : r.node ≤ d.node
  pub numbers : r.node ≡ d.node → r.first ≤ d.number

-- the range starts after the dot
pub record StartsAfter (d : Dot) (r : Range) : Type 0 where
  pub nodes : d.node ≤ r.node
  pub numbers : r.node ≡ d.node → d.number < r.first

-- the range ends before the dot
pub record EndsBefore (d : Dot) (r : Range) : Type 0 where
  pub nodes : r.node ≤ d.node
  pub numbers : r.node ≡ d.node → r.last < d.number

-- the first i ranges start at the dot or before it, the others after it
pub record IsStarted (rs : List Range) (d : Dot) (i : ℕ) : Type 0 where
  pub in_range : i ≤ length rs
  pub by : (k : ℕ) (e : Range) → k < i → StartsBy d (slice_index_or rs k e)
  pub after : (k : ℕ) (e : Range) → i ≤ k → k < length rs → StartsAfter d (slice_index_or rs k e)

-- the first i ranges end before the dot
pub record ArePassed (rs : List Range) (i : ℕ) (d : Dot) : Type 0 where
  pub in_range : i ≤ length rs
  pub before : (k : ℕ) (e : Range) → k < i → EndsBefore d (slice_index_or rs k e)

-- n is the greatest number of the node in the ranges, 0 where there is none
pub record IsLastOf (rs : List Range) (node n : ℕ) : Type 0 where
  pub reached : (n ≡ 0) ⊎ (covered (record { node = node; number = n }) rs ≡ true)
  pub above : (k : ℕ) → covered (record { node = node; number = k }) rs ≡ true → k ≤ n
  pub below : n < 2 ^ 62

-- the range before the place has the number before the dot's, or a later one
pub record ReachesAt (rs : List Range) (i : ℕ) (d : Dot) : Type 0 where
  pub positive : 1 ≤ i
  pub node : (e : Range) → (slice_index_or rs (i - 1) e).node ≡ d.node
  pub number : (e : Range) → d.number ≤ (slice_index_or rs (i - 1) e).last + 1

-- the range at the place begins right after the dot
pub record FollowsAt (rs : List Range) (i : ℕ) (d : Dot) : Type 0 where
  pub in_range : i < length rs
  pub node : (e : Range) → (slice_index_or rs i e).node ≡ d.node
  pub number : (e : Range) → (slice_index_or rs i e).first ≡ d.number + 1

-- a starts no later than b
pub record StartsUpTo (a b : Range) : Type 0 where
  pub nodes : a.node ≤ b.node
  pub numbers : a.node ≡ b.node → a.first ≤ b.first

abbrev pub AllStartUpTo : List Range → Range → Type 0
AllStartUpTo rs b = (k : ℕ) (d : Range) → k < length rs → StartsUpTo (slice_index_or rs k d) b

-- a is a part of b
pub record LiesIn (a b : Range) : Type 0 where
  pub node : a.node ≡ b.node
  pub from : b.first ≤ a.first
  pub to : a.last ≤ b.last

-- new has what old and the range have
pub record IsJoined (old : List Range) (range : Range) (new : List Range) : Type 0 where
  pub sound : IsSound new
  pub starts : AllStartUpTo new range
  pub members : (q : Dot) → covered q new ≡ (covered q old || covers q range)

-- a and b overlap, or one ends right before the other
pub record Touches (a b : Range) : Type 0 where
  pub node : a.node ≡ b.node
  pub from : b.first ≤ a.last + 1
  pub to : a.first ≤ b.last + 1

-- the ranges from the place i to before j touch the range; those before and after stand apart from it
pub record AreTouched (rs : List Range) (r : Range) (i j : ℕ) : Type 0 where
  pub order : i ≤ j
  pub in_range : j ≤ length rs
  pub before : (k : ℕ) (e : Range) → k < i → IsApart (slice_index_or rs k e) r
  pub touch : (k : ℕ) (e : Range) → i ≤ k → k < j → Touches (slice_index_or rs k e) r
  pub after : (k : ℕ) (e : Range) → j ≤ k → k < length rs → IsApart r (slice_index_or rs k e)

-- out has the dots of both
pub record IsUnion (a b out : List Range) : Type 0 where
  pub sound : IsSound out
  pub members : (q : Dot) → covered q out ≡ (covered q a || covered q b)

-- new has what old has, and what the range has and the cuts have not; the cuts up to the place end by the range's end
pub record IsCutBy (old : List Range) (range : Range) (cuts : List Range) (place : ℕ) (new : List Range) : Type 0 where
  pub sound : IsSound new
  pub starts : AllStartUpTo new (record { node = range.node; first = range.last; last = range.last })
  pub passed : ArePassed cuts place (record { node = range.node; number = range.last + 1 })
  pub members : (q : Dot) → covered q new ≡ (covered q old || (covers q range && not (covered q cuts)))

-- out has what the ranges have and the cuts have not
pub record AreCut (ranges cuts out : List Range) : Type 0 where
  pub sound : IsSound out
  pub members : (q : Dot) → covered q out ≡ (covered q ranges && not (covered q cuts))
