-- What a node keeps for the other nodes of its cluster, and what becomes of it.
use Rattle.std.specs.Prelude.{◌≡◌, ◌⊎◌, ℕ, suc, ◌&&◌, nat_eq, nat_lt, Bool, true, false, List, [], ◌++◌, length, get_or, slice_set, replicate, Option, Some, None, if◌then◌else◌, refl}
use Rattle.std.specs.Coded.{Coded, code_by, coded×, coded_list}
use Rattle.std.specs.FinSet as set
use Rattle.causal_context.specs.Dots.{Dots, coded_dot}
use Rattle.causal_context.specs.SetLattice.{IsSubset}
use Rattle.replica_store.specs.States.{State, coded_state}
use Rattle.row_store.specs.Leading.{AllDiffer, LeadWithin}
use Rattle.row_store.specs.declared.row.Change.{Change}
use Rattle.bridge_lanes.specs.Lanes.{Lanes, lane_of, with_put, with_took, with_got}
use Rattle.bridge_frames.specs.declared.forward.Forward.{Forward}
use Rattle.bridge_frames.specs.declared.greeting.Greeting.{Greeting}
use Rattle.bridge_lanes.specs.Changes.{is_lane_kind}
use Rattle.bridge_lanes.specs.Rows.{Messages, row_at}
use Rattle.bridge_deltas.specs.declared.offer.Offer.{Offer}
use Rattle.bridge_deltas.specs.declared.offer.Offer.TheVariants.{Queued, Full, AtEnd}
use Rattle.bridge_deltas.specs.Buffer.{with_delta}
use Rattle.bridge_deltas.specs.Lane.{coded_messages, offer_of}
use Rattle.bridge_deltas.specs.Shipped.{IsShipped}

-- by the numbers of the other nodes, the dots that each is known to have taken; the last deltas that were made or merged here, the
-- oldest first; and, by the numbers of the other nodes, the lanes to and from each
pub record BridgeView : Type 0 where
  pub beliefs : List Dots
  pub deltas : List State
  pub lanes : Lanes Forward

-- what is kept after a restart: the lanes, and nothing else
abbrev pub woken_bridge : Lanes Forward → BridgeView
woken_bridge lanes = record { beliefs = replicate (length lanes) set.empty; deltas = []; lanes = lanes }

-- what is known of a node
abbrev pub belief_of : BridgeView → ℕ → Dots
belief_of b peer = get_or b.beliefs peer set.empty

-- the lanes to and from a node, if it has some
abbrev pub lane_to : BridgeView → ℕ → Messages
lane_to b peer = lane_of b.lanes peer

abbrev pub has_lanes : BridgeView → ℕ → Bool
has_lanes b peer = nat_lt peer (length b.lanes)

-- what is known of a node of the cluster
abbrev pub known_of : BridgeView → ℕ → Option Dots
known_of b peer = if has_lanes b peer then Some (belief_of b peer) else None

-- ---- deltas and beliefs

-- one more delta is kept
abbrev pub keeps : State → BridgeView → BridgeView
keeps d b = record b { deltas = with_delta d b.deltas }

-- a node has taken the dots
abbrev pub believes : ℕ → Dots → BridgeView → BridgeView
believes peer dots b = record b { beliefs = slice_set b.beliefs peer (set.union (belief_of b peer) dots) }

-- a node says what it has taken, where a link begins: that stands in place of what was known of it
abbrev pub greets : ℕ → Greeting → BridgeView → BridgeView
greets peer g b = record b { beliefs = slice_set b.beliefs peer g.dots }

-- what is sent of the state to a node: nothing exactly where it is known to have taken all
abbrev pub IsToShip : ℕ → BridgeView → State → Option State → Type 0
IsToShip peer b s None = (has_lanes b peer ≡ false) ⊎ IsSubset s.taken (belief_of b peer)
IsToShip peer b s (Some t) = (has_lanes b peer ≡ true) × (IsSubset s.taken (belief_of b peer) → ⊥) × IsShipped (belief_of b peer) b.deltas s t

-- ---- lanes
abbrev pub with_lane : ℕ → Messages → BridgeView → BridgeView
with_lane peer l b = record b { lanes = slice_set b.lanes peer l }

-- what becomes of a message for a node; one without lanes gets nothing
abbrev pub offer_to : ℕ → BridgeView → Offer
offer_to peer b = if has_lanes b peer then offer_of (lane_to b peer) else Full

-- it joins the lane to a node
abbrev pub puts : ℕ → Forward → BridgeView → BridgeView
puts peer m b = with_lane peer (with_put m (lane_to b peer)) b

abbrev pub offered : Offer → ℕ → Forward → BridgeView → BridgeView
offered (Queued n) peer m b = puts peer m b
offered Full peer m b = b
offered AtEnd peer m b = b

-- the number is that of the next message to take of a node's lane, and is taken
abbrev pub is_next : ℕ → ℕ → BridgeView → Bool
is_next peer number b = has_lanes b peer && nat_eq number (suc (lane_to b peer).took)

abbrev pub takes : ℕ → ℕ → BridgeView → BridgeView
takes peer number b = with_lane peer (with_took number (lane_to b peer)) b

-- a node has taken the messages up to the number
abbrev pub gets : ℕ → ℕ → BridgeView → BridgeView
gets peer number b = with_lane peer (with_got number (lane_to b peer)) b

-- changes are appended that lead from the rows of lanes before to those after, and name none that doesn't differ
abbrev pub LanesTell : Lanes Forward → List Change → List Change → Lanes Forward → Type 0
LanesTell old before after new = (own : List Change) × (after ≡ before ++ own) × LeadWithin is_lane_kind (row_at old) (row_at new) own × AllDiffer (row_at old) (row_at new) own

-- it is stored as its parts
abbrev pub coded_bridge : Coded BridgeView
coded_bridge =
    code_by (List Dots × (List State × Lanes Forward)) (coded× (coded_list (set.code coded_dot)) (coded× (coded_list coded_state) (coded_list coded_messages)))
    (λ b. (b.beliefs, (b.deltas, b.lanes))) (λ p. record { beliefs = p.0; deltas = p.1.0; lanes = p.1.1 }) (λ _. refl)
