-- Which copies of a message from another node a node makes (MQTT 5.0, 4.8.2).
use Rattle.std.specs.Prelude.{◌≡◌, ℕ, suc, ◌+◌, ◌⊎◌, cond, List, [], ◌∷◌, ◌++◌, length, Option, Some, None}
use Rattle.bridge_frames.specs.declared.forward.Forward.{Forward}
use Rattle.bridge_routes.specs.declared.plain.PlainCopy.{PlainCopy as Copy}
use Rattle.bridge_routes.specs.Copies.{AreCopies}
use Rattle.bridge_routes.specs.Routes.{Pairwise}
use Rattle.bridge_routes.specs.Taken.{IsPickedCopy}
use Rattle.mqtt_message.specs.Expiry.{IsBefore}
use Rattle.subscription_set.specs.Standing.{live}
use Rattle.node_work.specs.Passing.{seated, unseated}
use Rattle.node_work.specs.View.{HeldView}

-- the picks whose subscriptions are still here, and how many are gone
abbrev pub found : List (Option Copy) → List Copy
found [] = []
found (None ∷ xs) = found xs
found (Some x ∷ xs) = x ∷ found xs

abbrev pub gone : List (Option Copy) → ℕ
gone [] = 0
gone (None ∷ xs) = suc (gone xs)
gone (Some x ∷ xs) = gone xs

-- where it is for plain subscriptions, a copy for each client with some that match; and then one for each pick whose session and
-- subscription are here; the other picks are lost
pub record AreHanded (h : HeldView) (m : Forward) (copies : List Copy) (lost : ℕ) : Type 0 where
  pub plain : List Copy
  pub picked : List (Option Copy)
  pub are_copies : cond m.plain (AreCopies (live h.store.subscriptions) m.message plain) (plain ≡ [])
  pub are_picked : Pairwise (IsPickedCopy (live h.store.subscriptions) m.message) m.picks picked
  pub copies_are : copies ≡ seated h plain ++ seated h (found picked)
  pub lost_are : lost ≡ gone picked + length (unseated h (found picked))

-- until its deadline; afterwards none, and nothing is lost
abbrev pub IsHanded : HeldView → Forward → List Copy → ℕ → Type 0
IsHanded h m copies lost = (IsBefore h.at m.message.deadline × AreHanded h m copies lost) ⊎ ((IsBefore h.at m.message.deadline → ⊥) × (copies ≡ []) × (lost ≡ 0))
