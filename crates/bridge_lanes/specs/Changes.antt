-- Which changes lead from the rows of lanes to those of others: those of the keys at which the rows differ.
use Rattle.std.specs.Prelude.{◌≡◌, ◌≢◌, ◌⊎◌, ℕ, zero, suc, ◌==◌, ◌||◌, Bool, true, List, [], ◌∷◌, map, Option, Some, None}
use Rattle.std.specs.List.{AllByRecursion}
use Rattle.bridge_lanes.specs.Lanes.{Lanes, new_lane}
use Rattle.row_store.specs.Gathered.{AreOnce}
use Rattle.row_store.specs.Leading.{IsNamed, key_in, value_in}
use Rattle.row_store.specs.declared.row.Change.{Change}
use Rattle.row_store.specs.Rows.{Key, Plain}
use Rattle.bridge_frames.specs.declared.forward.Forward.{Forward}
use Rattle.bridge_lanes.specs.Rows.{Messages, message_key, row_at}

abbrev pub is_lane_kind : ℕ → Bool
is_lane_kind n = n == 7 || n == 8

-- it names a key of kind 7 or 8 at which the row of the new lanes, or that there is none, isn't that of the old, and leaves there what the new have
pub record IsLaneChange (old new : Lanes Forward) (change : Change) : Type 0 where
  pub kind : is_lane_kind (key_in change).0 ≡ true
  pub differs : row_at old (key_in change) ≢ row_at new (key_in change)
  pub leaves : value_in change ≡ row_at new (key_in change)

-- each is such a one, each key at which the rows differ is named, and each once, in the order of the keys
pub record AreLaneChanges (old new : Lanes Forward) (changes : List Change) : Type 0 where
  pub each : AllByRecursion (IsLaneChange old new) changes
  pub complete : (key : Key) → (row_at old key ≡ row_at new key) ⊎ IsNamed changes key
  pub once : AreOnce changes

-- ---- what was told

-- the lanes to and from one other node, and what their rows say
pub record KeptLane : Type 0 where
  pub lane : Messages
  pub told : Messages

abbrev pub new_kept : KeptLane
new_kept = record { lane = new_lane; told = new_lane }

-- with their rows told as they are
abbrev pub told_now : KeptLane → KeptLane
told_now k = record { lane = k.lane; told = k.lane }

abbrev pub now_of : List KeptLane → Lanes Forward
now_of ks = map (λ k. k.lane) ks

abbrev pub told_of : List KeptLane → Lanes Forward
told_of ks = map (λ k. k.told) ks

-- ---- changes in lists

-- what is left at a key: bytes, or no row
abbrev pub Left : Type 0
Left = Key × Option (List ℕ)

abbrev pub left_of : Change → Left
left_of change = (key_in change, value_in change)

abbrev pub put : Plain → Left
put row = (row.0, Some row.1)

-- so many messages go, from a number on
abbrev pub removals : ℕ → ℕ → ℕ → List Left
removals peer n zero = []
removals peer n (suc count) = (message_key peer n, None) ∷ removals peer (suc n) count
