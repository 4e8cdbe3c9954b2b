-- The operation that a node makes next, by the operations that it has taken.
use Rattle.std.specs.Prelude.{◌≡◌, ◌↔◌, ℕ, ◌+◌, ◌^◌, ◌<◌, true, List, Option, Some, ◌⊎◌}
use Rattle.std.specs.FinSet as set
use Rattle.causal_context.specs.Dots.{Dot, Dots}
use Rattle.subscription_set.specs.declared.entry.Entry.{Entry}
use Rattle.subscription_set.specs.Entries.{is_of, is_of_below}
use Rattle.replica_store.specs.declared.operation.Operation.{Operation}
use Rattle.replica_store.specs.declared.operation.Operation.TheVariants.{Subscribe, Remove, Put}
use Rattle.replica_store.specs.Stamps.{Stamp}
use Rattle.replica_store.specs.Operations.{dot_of, Among, Stands, IsGreatestCount}

-- the node's own next number, below 2^62: 1, or the one after the greatest
pub record IsNextDot (i : ℕ) (O : List Operation) (dot : Dot) : Type 0 where
  pub node : dot.node ≡ i
  pub above : (o : Operation) → Among o O → (dot_of o).node ≡ i → (dot_of o).number < dot.number
  pub below : dot.number < 2 ^ 62
  pub after : (dot.number ≡ 1) ⊎ ((o : Operation) × Among o O × ((dot_of o).node ≡ i) × (dot.number ≡ (dot_of o).number + 1))

-- exactly the dots of what stands of the client and, where one is given, to the filter
abbrev pub CoversWhatStands : List Operation → List ℕ → Option (List ℕ) → Dots → Type 0
CoversWhatStands O client to cover = (dot : Dot) → (set.contains cover dot ≡ true) ↔ ((entry : Entry) × Stands O dot entry × (is_of client to entry ≡ true))

-- exactly the dots of what stands of the client and was made under a version of the table of homes below one
abbrev pub CoversWhatStandsBelow : List Operation → List ℕ → ℕ → Dots → Type 0
CoversWhatStandsBelow O client version cover = (dot : Dot) → (set.contains cover dot ≡ true) ↔ ((entry : Entry) × Stands O dot entry × (is_of_below client version entry ≡ true))

-- what a Remove covers: what stands of a client, or of a client to a filter, or of a client and under a version below one
abbrev pub IsRemoval : List Operation → Dots → Type 0
IsRemoval O cover =
    ((client : List ℕ) × (to : Option (List ℕ)) × CoversWhatStands O client to cover)
    ⊎ ((client : List ℕ) × (version : ℕ) × CoversWhatStandsBelow O client version cover)

-- the count after the greatest of the Puts, below 2^62
pub record IsNextStamp (i : ℕ) (O : List Operation) (stamp : Stamp) : Type 0 where
  pub node : stamp.node ≡ i
  pub before : ℕ
  pub greatest : IsGreatestCount O before
  pub count : stamp.count ≡ before + 1
  pub below : stamp.count < 2 ^ 62

-- by the version of the node's table of homes too, under which a subscription is made
abbrev pub IsNextOperation : ℕ → ℕ → List Operation → Operation → Type 0
IsNextOperation i version O (Subscribe dot entry cover) = IsNextDot i O dot × CoversWhatStands O entry.client (Some entry.filter) cover × (entry.version ≡ version)
IsNextOperation i version O (Remove dot cover) = IsNextDot i O dot × IsRemoval O cover × ((covered : Dot) × (set.contains cover covered ≡ true))
IsNextOperation i version O (Put dot stamp content) = IsNextDot i O dot × IsNextStamp i O stamp
