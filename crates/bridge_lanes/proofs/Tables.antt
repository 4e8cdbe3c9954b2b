-- One lane changed.
use Rattle.std.proofs.Common.{◌≡◌, ◌≢◌, ℕ, zero, suc, ◌<◌, refl, sym, length}
use Rattle.std.proofs.Math.ListN.{set}
use Rattle.std.proofs.lemmas.List.{get_or-set_same, get_or-set_other}
use Rattle.bridge_lanes.specs.Lanes.{LaneView, Lanes, lane_of, new_lane, new_lanes}

module _ {A : Type 0} (lanes : Lanes A) (p : ℕ) (l : LaneView A) where
  pub lane_here : p < length lanes → lane_of (set lanes p l) p ≡ l
  lane_here below = get_or-set_same lanes p l new_lane below

  pub lane_there : (q : ℕ) → p ≢ q → lane_of (set lanes p l) q ≡ lane_of lanes q
  lane_there q ne = get_or-set_other lanes p q l new_lane (λ e. ne (sym e))

pub lane_new : {A : Type 0} (nodes j : ℕ) → lane_of {A = A} (new_lanes nodes) j ≡ new_lane
lane_new zero j = refl
lane_new (suc n) zero = refl
lane_new (suc n) (suc j) = lane_new n j
