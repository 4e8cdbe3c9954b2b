-- What goes to other nodes of a message, each by its own lane.
use Rattle.std.proofs.Common.{◌≡◌, ℕ, zero, suc, ◌+◌, ◌≤◌, not, nat_eq, nat_lt, if◌then◌else◌, Bool, true, false, cond, List, [], ◌∷◌, filter, map as map_list, inl, inr, Some, sym, ap, ◌∙◌, subst, arith}
use Rattle.std.specs.List.{AllByRecursion, range_with_len}
use Rattle.std.proofs.lemmas.List.{get_or-set_other, length-set}
use Rattle.bridge_deltas.specs.declared.offer.Offer.{Offer}
use Rattle.bridge_deltas.specs.declared.offer.Offer.TheVariants.{Queued, Full, AtEnd}
use Rattle.bridge_deltas.specs.Lane.{offer_of}
use Rattle.bridge_frames.specs.declared.forward.Forward.{Forward}
use Rattle.bridge_lanes.specs.Rows.{Messages}
use Rattle.bridge_lanes.specs.Lanes.{new_lane}
use Rattle.bridge_routes.specs.declared.destinations.Route.{Route}
use Rattle.bridge_routes.specs.declared.destinations.Route.TheVariants.{Nothing, Lane, TooLarge}
use Rattle.node_bridge.specs.View.{BridgeView, offer_to, with_lane}
use Rattle.node_work.specs.declared.counts.Missed.TheVariants.{LaneFull}
use Rattle.node_work.specs.Acts.{Act, Bridge, Runs}
use Rattle.node_work.specs.Doings.{PutsInLaneBy, RoutesBy, Routes}
use Rattle.node_work.specs.Held.Bridge.{Put, Left_out}
use Rattle.node_work.specs.Passing.{others}
use Rattle.node_work.specs.View.{Place, HeldView, nodes_of}
use Rattle.node_work.specs.Working.{Each}
use Rattle.law_runs.specs.StepPublishing.{IsPutInLane, IsRouted, AreRouted}
use Rattle.law_runs.proofs.Keeping.{none_some}
use Rattle.law_runs.proofs.Splits.{left_by}

-- ---- other nodes
abbrev pub IsOther : ℕ → List (ℕ × Route) → Type 0
IsOther peer xs = AllByRecursion (λ (x : ℕ × Route). peer ≡ x.0 → ⊥) xs

-- no node is named twice
abbrev pub AreApart : List (ℕ × Route) → Type 0
AreApart [] = Unit {0}
AreApart (x ∷ xs) = IsOther x.0 xs × AreApart xs

module _ (keep : ℕ → Bool) (f : ℕ → Route) where
  abbrev named : ℕ → ℕ → List (ℕ × Route)
  named k n = map_list (λ peer. (peer, f peer)) (filter keep (range_with_len k n))

  later_by : (peer k : ℕ) (ns : List ℕ) (b : Bool) → peer + 1 ≤ k → IsOther peer (map_list (λ n. (n, f n)) ns) → IsOther peer (map_list (λ n. (n, f n)) (cond b (k ∷ ns) ns))
  later_by peer k ns true less rest = ((λ e. omega (arith, e, less)), rest)
  later_by peer k ns false less rest = rest

  later : (peer k n : ℕ) → peer + 1 ≤ k → IsOther peer (named k n)
  later peer k zero less = tt
  later peer k (suc n) less = later_by peer k (filter keep (range_with_len (k + 1) n)) (keep k) less (later peer (k + 1) n (omega (arith, less)))

  apart_by : (k : ℕ) (ns : List ℕ) (b : Bool) → IsOther k (map_list (λ n. (n, f n)) ns) → AreApart (map_list (λ n. (n, f n)) ns) → AreApart (map_list (λ n. (n, f n)) (cond b (k ∷ ns) ns))
  apart_by k ns true first rest = (first, rest)
  apart_by k ns false first rest = rest

  each_apart : (k n : ℕ) → AreApart (named k n)
  each_apart k zero = tt
  each_apart k (suc n) = apart_by k (filter keep (range_with_len (k + 1) n)) (keep k) (later k (k + 1) n (omega arith)) (each_apart (k + 1) n)

pub are_apart : (p : Place) (f : ℕ → Route) → AreApart (map_list (λ peer. (peer, f peer)) (others p))
are_apart p f = each_apart (λ n. not (nat_eq n p.id)) f 0 (nodes_of p)

-- ---- one lane is apart from another
offer_apart : (b : BridgeView) (peer q : ℕ) (l : Messages) → (peer ≡ q → ⊥) → offer_to q (with_lane peer l b) ≡ offer_to q b
offer_apart b peer q l apart = λ i.
    if nat_lt q (length-set b.lanes peer l i) then offer_of (get_or-set_other b.lanes peer q l new_lane (λ e. apart (sym e)) i) else Full

-- ---- one route
offered : (peer : ℕ) (m : Forward) (o : Offer) (x : Unit {0}) (p : Place) (h : HeldView) (acts : List Act) → PutsInLaneBy peer m o (Some x) p h acts → IsPutInLane peer m o acts
offered peer m (Queued n) x p h acts d = d.1
offered peer m Full x p h acts d = d.1
offered peer m AtEnd x p h acts d = none_some (sym d.0)

routed : (b : BridgeView) (peer : ℕ) (route : Route) (x : Unit {0}) (p : Place) (h : HeldView) (acts : List Act) → offer_to peer h.bridge ≡ offer_to peer b → RoutesBy peer route (Some x) p h acts → IsRouted b peer route acts
routed b peer Nothing x p h acts same d = d.1
routed b peer (Lane m) x p h acts same d = subst (λ o. IsPutInLane peer m o acts) same (offered peer m (offer_to peer h.bridge) x p h acts d)
routed b peer TooLarge x p h acts same d = d.1

-- it leaves the other lanes
module _ (p : Place) (h mid : HeldView) (acts : List Act) (runs : Runs p h acts mid) (q : ℕ) where
  left_by_offer : (peer : ℕ) (m : Forward) (o : Offer) → (peer ≡ q → ⊥) → IsPutInLane peer m o acts → offer_to q mid.bridge ≡ offer_to q h.bridge
  left_by_offer peer m (Queued n) apart d = ap (λ (v : HeldView). offer_to q v.bridge) (left_by p h mid (Bridge (Put peer m)) acts d runs) ∙ offer_apart h.bridge peer q _ apart
  left_by_offer peer m Full apart d = ap (λ (v : HeldView). offer_to q v.bridge) (left_by p h mid (Bridge (Left_out LaneFull)) acts d runs)
  left_by_offer peer m AtEnd apart d = absurd d

  left_by_route : (b : BridgeView) (peer : ℕ) (route : Route) → (peer ≡ q → ⊥) → IsRouted b peer route acts → offer_to q mid.bridge ≡ offer_to q h.bridge
  left_by_route b peer Nothing apart d = ap (λ (v : HeldView). offer_to q v.bridge) (subst (λ zs. Runs p h zs mid) d runs)
  left_by_route b peer (Lane m) apart d = left_by_offer peer m (offer_to peer b) apart d
  left_by_route b peer TooLarge apart d = ap (λ (v : HeldView). offer_to q v.bridge) (left_by p h mid (Bridge (Left_out LaneFull)) acts d runs)

-- ---- one after the other
abbrev AreAlike : BridgeView → HeldView → List (ℕ × Route) → Type 0
AreAlike b h xs = AllByRecursion (λ (x : ℕ × Route). offer_to x.0 h.bridge ≡ offer_to x.0 b) xs

still_alike : (b : BridgeView) (peer : ℕ) (route : Route) (p : Place) (h mid : HeldView) (acts : List Act) → Runs p h acts mid → IsRouted b peer route acts → (xs : List (ℕ × Route)) → IsOther peer xs → AreAlike b h xs → AreAlike b mid xs
still_alike b peer route p h mid acts runs d [] apart alike = tt
still_alike b peer route p h mid acts runs d (x ∷ xs) apart alike =
    (left_by_route p h mid acts runs x.0 b peer route apart.0 d ∙ alike.0, still_alike b peer route p h mid acts runs d xs apart.1 alike.1)

all_routed : (b : BridgeView) (xs : List (ℕ × Route)) (x : Unit {0}) (p : Place) (h : HeldView) (acts : List Act) → AreApart xs → AreAlike b h xs → Each Routes xs (Some x) p h acts → AreRouted b xs acts
all_routed b [] x p h acts apart alike d = d.1
all_routed b (r ∷ rs) x p h acts apart alike (inl d) = none_some (sym d.0)
all_routed b (r ∷ rs) x p h acts apart alike (inr (y, own, mid, rest, one, runs, more, is)) =
    let d = routed b r.0 r.1 y p h own alike.0 one in
    (own, rest, is, d, all_routed b rs x p mid rest apart.1 (still_alike b r.0 r.1 p h mid own runs d rs apart.0 alike.1) more)

all_alike : (b : BridgeView) (h : HeldView) → ((q : ℕ) → offer_to q h.bridge ≡ offer_to q b) → (xs : List (ℕ × Route)) → AreAlike b h xs
all_alike b h alike [] = tt
all_alike b h alike (x ∷ xs) = (alike x.0, all_alike b h alike xs)

pub each_routed : (b : BridgeView) (xs : List (ℕ × Route)) (x : Unit {0}) (p : Place) (h : HeldView) (acts : List Act) → AreApart xs → ((q : ℕ) → offer_to q h.bridge ≡ offer_to q b) → Each Routes xs (Some x) p h acts → AreRouted b xs acts
each_routed b xs x p h acts apart alike d = all_routed b xs x p h acts apart (all_alike b h alike xs) d
