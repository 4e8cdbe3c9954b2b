-- How the changes of the rows of lanes are made, by counts of what is gone and of what was told.
use Rattle.std.specs.Prelude.{◌≡◌, ◌⊎◌, ℕ, suc, ◌+◌, ◌-◌, ◌<◌, ◌≤◌, ◌^◌, ◌==◌, ◌&&◌, min, List, [], ◌∷◌, ◌++◌, length, drop, map, Some, if◌then◌else◌}
use Rattle.bridge_frames.specs.declared.forward.Forward.{Forward}
use Rattle.bridge_lanes.specs.Rows.{last_put, message_rows, numbers_key, numbers_value, each}
use Rattle.bridge_lanes.specs.Changes.{KeptLane, Left, put, removals}

-- so many of those that were told are gone, and so many of those that wait were told
abbrev pub gone_count : KeptLane → ℕ
gone_count k = min (k.lane.gone - k.told.gone) (length k.told.waiting)

abbrev pub told_count : KeptLane → ℕ
told_count k = last_put k.told - k.lane.gone

-- a message that was told and is gone is removed, and one that waits and wasn't told is put
abbrev pub message_changes : ℕ → KeptLane → List Left
message_changes peer k =
    removals peer (suc k.told.gone) (gone_count k) ++ map put (message_rows peer (suc (k.lane.gone + told_count k)) (drop (told_count k) k.lane.waiting))

-- the numbers are put where one of them is another
abbrev pub numbers_changes : ℕ → KeptLane → List Left
numbers_changes peer k =
    if (last_put k.told == last_put k.lane) && (k.told.took == k.lane.took) then [] else (numbers_key peer, Some (numbers_value (last_put k.lane) k.lane.took)) ∷ []

abbrev pub changes_of : List KeptLane → List Left
changes_of ks = each message_changes 0 ks ++ each numbers_changes 0 ks

-- Of the messages that were told some are gone and the others still wait, and so do those that were put in since; where none of
-- those that were told still waits, some of those that were put in since may be gone too. No fewer are taken than were told.
pub record IsLater (k : KeptLane) : Type 0 where
  pub gone : List Forward
  pub kept : List Forward
  pub fresh : List Forward
  pub were : k.told.waiting ≡ gone ++ kept
  pub are : k.lane.waiting ≡ kept ++ fresh
  pub numbers : (k.told.gone + length gone ≡ k.lane.gone) ⊎ ((kept ≡ []) × (k.told.gone + length gone ≤ k.lane.gone))
  pub took : k.told.took ≤ k.lane.took

-- the lanes come after those that were told, and have numbers for all that wait and all that were taken
abbrev pub IsSoundLane : KeptLane → Type 0
IsSoundLane k = IsLater k × (last_put k.lane < 2 ^ 62) × (k.lane.took < 2 ^ 62)
