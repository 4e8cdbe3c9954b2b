-- Lists of operations, and what they say of each dot and topic. An operation is a delta mutator under its dot
-- (Almeida, Shoker, Baquero, section 4).
use Rattle.std.specs.Prelude.{◌≡◌, ◌≤◌, ℕ, true, false, List, [], ◌∷◌, Option, Some, None, ◌⊎◌}
use Rattle.std.specs.Ordering.{is_lt}
use Rattle.std.specs.FinSet as set
use Rattle.causal_context.specs.Dots.{Dot, Dots}
use Rattle.causal_context.specs.OrderLattice.{NotAbove}
use Rattle.subscription_set.specs.declared.entry.Entry.{Entry}
use Rattle.subscription_set.specs.Entries.{same_subscription, recency_cmp}
use Rattle.subscription_set.specs.Statuses.{Status}
use Rattle.replica_store.specs.declared.operation.Operation.{Operation}
use Rattle.replica_store.specs.declared.operation.Operation.TheVariants.{Subscribe, Remove, Put}
use Rattle.replica_store.specs.declared.content.Content.{Content}
use Rattle.replica_store.specs.Contents.{topic_in, message_in}
use Rattle.replica_store.specs.declared.kept.Kept.{Kept}
use Rattle.replica_store.specs.Retained.{kept_cmp}

abbrev pub dot_of : Operation → Dot
dot_of (Subscribe dot entry cover) = dot
dot_of (Remove dot cover) = dot
dot_of (Put dot stamp content) = dot

-- the dots whose subscriptions it ends
abbrev pub cover_of : Operation → Dots
cover_of (Subscribe dot entry cover) = cover
cover_of (Remove dot cover) = cover
cover_of (Put dot stamp content) = set.empty

-- it removes nothing
abbrev pub IsEmptyRemove : Operation → Type 0
IsEmptyRemove (Subscribe dot entry cover) = ⊥
IsEmptyRemove (Remove dot cover) = cover ≡ set.empty
IsEmptyRemove (Put dot stamp content) = ⊥

-- the operation is in the list
abbrev pub Among : Operation → List Operation → Type 0
Among o [] = ⊥
Among o (p ∷ ps) = (o ≡ p) ⊎ Among o ps

-- no dot has two operations; an operation may stand there more than once
abbrev pub HaveOwnDots : List Operation → Type 0
HaveOwnDots O = (o p : Operation) → Among o O → Among p O → dot_of o ≡ dot_of p → o ≡ p

-- there is a Subscribe of the entry at the dot
abbrev pub Subscribes : List Operation → Dot → Entry → Type 0
Subscribes O dot entry = (cover : Dots) × Among (Subscribe dot entry cover) O

-- some cover has the dot
abbrev pub Covers : List Operation → Dot → Type 0
Covers O dot = (o : Operation) × Among o O × (set.contains (cover_of o) dot ≡ true)

-- there is an operation at the dot
abbrev pub HasOperation : List Operation → Dot → Type 0
HasOperation O dot = (o : Operation) × Among o O × (dot_of o ≡ dot)

-- seen: it is the dot of an operation, or in a cover
abbrev pub Sees : List Operation → Dot → Type 0
Sees O dot = HasOperation O dot ⊎ Covers O dot

-- stands: a Subscribe whose dot is in no cover
pub record Stands (O : List Operation) (dot : Dot) (entry : Entry) : Type 0 where
  pub subscribed : Subscribes O dot entry
  pub uncovered : ¬ Covers O dot

-- live: what stands, if no later subscription of the client to the filter stands
pub record IsLive (O : List Operation) (dot : Dot) (entry : Entry) : Type 0 where
  pub stands : Stands O dot entry
  pub latest : (other : Dot) (its : Entry) → Stands O other its → same_subscription entry its ≡ true → is_lt (recency_cmp (dot, entry) (other, its)) ≡ false

-- removed: it was seen, and nothing stands at it
pub record IsRemoved (O : List Operation) (dot : Dot) : Type 0 where
  pub seen : Sees O dot
  pub nothing : (entry : Entry) → ¬ Stands O dot entry

-- the status of a dot: unseen, removed, or present with the entry that stands
abbrev pub HasStatus : List Operation → Dot → Option Status → Type 0
HasStatus O dot None = ¬ Sees O dot
HasStatus O dot (Some None) = IsRemoved O dot
HasStatus O dot (Some (Some entry)) = Stands O dot entry

-- there is a Put of the topic with this stamp and message, or with this stamp and none
abbrev pub Puts : List Operation → List ℕ → Kept → Type 0
Puts O topic kept = (dot : Dot) × (content : Content) × Among (Put dot kept.stamp content) O × (topic_in content ≡ topic) × (message_in content ≡ kept.message)

-- the greatest Put of the topic
pub record IsGreatestPut (O : List Operation) (topic : List ℕ) (kept : Kept) : Type 0 where
  pub put : Puts O topic kept
  pub greatest : (other : Kept) → Puts O topic other → NotAbove kept_cmp other kept

-- kept: what the greatest Put of the topic put, if there is one
abbrev pub HasKept : List Operation → List ℕ → Option Kept → Type 0
HasKept O topic None = (kept : Kept) → ¬ Puts O topic kept
HasKept O topic (Some kept) = IsGreatestPut O topic kept

-- the greatest count of the Puts, 0 where there is none
pub record IsGreatestCount (O : List Operation) (count : ℕ) : Type 0 where
  pub above : (topic : List ℕ) (kept : Kept) → Puts O topic kept → kept.stamp.count ≤ count
  pub reached : (count ≡ 0) ⊎ ((topic : List ℕ) × (kept : Kept) × Puts O topic kept × (kept.stamp.count ≡ count))
