-- The state of a list of operations.
use Rattle.std.specs.Prelude.{◌≡◌, ℕ, true, List, [], ◌∷◌, map as map_list, Some, None, ◌↔◌, if◌then◌else◌}
use Rattle.std.specs.FinSet as set
use Rattle.std.specs.FinMap as map
use Rattle.causal_context.specs.Dots.{Dot, Dots}
use Rattle.subscription_set.specs.declared.entry.Entry.{Entry}
use Rattle.subscription_set.specs.Statuses.{Statuses, statuses_join}
use Rattle.replica_store.specs.declared.operation.Operation.{Operation}
use Rattle.replica_store.specs.declared.operation.Operation.TheVariants.{Subscribe, Remove, Put}
use Rattle.replica_store.specs.Contents.{topic_in, message_in}
use Rattle.replica_store.specs.Operations.{Among, HasOperation, HasStatus, HasKept}
use Rattle.replica_store.specs.Retained.{one_put}
use Rattle.replica_store.specs.States.{State, nothing, state_join}

-- the state has the dots of the operations, the status of each dot, and of each topic what is kept
pub record IsStateOf (O : List Operation) (s : State) : Type 0 where
  pub taken : (dot : Dot) → (set.contains s.taken dot ≡ true) ↔ HasOperation O dot
  pub subscriptions : (dot : Dot) → HasStatus O dot (map.get s.subscriptions dot)
  pub retained : (topic : List ℕ) → HasKept O topic (map.get s.retained topic)

-- each dot of the cover is removed
unfoldable pub removed : Dots → Statuses
removed cover = map.from_entries (map_list (λ dot. (dot, None)) (set.items cover))

-- the entry at its dot, or none where the cover has the dot
abbrev pub uncovered_entry : Dot → Entry → Dots → List (Dot × Entry)
uncovered_entry dot entry cover = if set.contains cover dot then [] else ((dot, entry) ∷ [])

-- the delta of one operation: what it adds to any state
unfoldable pub delta_of : Operation → State
delta_of (Subscribe dot entry cover) = record { taken = set.insert set.empty dot; subscriptions = statuses_join (removed cover) (map.insert map.empty dot (Some entry)); retained = map.empty }
delta_of (Remove dot cover) = record { taken = set.insert set.empty dot; subscriptions = removed (set.insert cover dot); retained = map.empty }
delta_of (Put dot stamp content) = record { taken = set.insert set.empty dot; subscriptions = removed (set.insert set.empty dot); retained = one_put (topic_in content) (record { stamp = stamp; message = message_in content }) }

-- the deltas of the operations, joined in turn
abbrev pub joined_deltas : List Operation → State
joined_deltas [] = nothing
joined_deltas (o ∷ O) = state_join (delta_of o) (joined_deltas O)

-- the same operations, in whatever order and however often
pub record SameOperations (O P : List Operation) : Type 0 where
  pub there : (o : Operation) → Among o O → Among o P
  pub back : (o : Operation) → Among o P → Among o O
