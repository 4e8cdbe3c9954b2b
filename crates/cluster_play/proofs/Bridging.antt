-- What a node keeps for the other nodes, through its acts.
use Rattle.std.proofs.Common.{◌≡◌, ℕ, ◌+◌, ◌-◌, ◌≤◌, ◌<◌, ◌^◌, zero, suc, true, false, nat_lt, List, [], ◌∷◌, ◌++◌, get_or, length, length-append, replicate, refl, sym, ap, ◌∙◌, ◌⊎◌, inl, inr, subst, arith}
use Rattle.std.specs.List.{AllByRecursion}
use Rattle.std.specs.FinSet as set
use Rattle.std.specs.Prelude.{Bool, drop, if◌then◌else◌}
use Rattle.std.proofs.Math.ListN.{length-set, set as slice_set}
use Rattle.std.proofs.lemmas.Bool.Decides.{nat_tests}
use Rattle.std.proofs.lemmas.List.{length-drop}
use Rattle.bridge_deltas.specs.declared.offer.Offer.TheVariants.{Queued, Full, AtEnd}
use Rattle.bridge_deltas.specs.Lane.{next_number, offer_of}
use Rattle.bridge_frames.specs.declared.forward.Forward.{Forward}
use Rattle.bridge_frames.specs.declared.greeting.Greeting.{Greeting}
use Rattle.causal_context.specs.Dots.{Dot, Dots, dot_cmp, dot_cmp_total}
use Rattle.bridge_lanes.specs.Rows.{Messages, last_put}
use Rattle.bridge_lanes.specs.Lanes.{Lanes, Waits, lane_of, new_lane, new_lanes, up_to, with_got, with_put, with_took}
use Rattle.node_bridge.specs.View.{BridgeView, belief_of, believes, greets, has_lanes, keeps, lane_to, offer_to, with_lane, woken_bridge}
use Rattle.replica_store.specs.States.{State}
use Rattle.node_work.specs.Acts.{Act, MomentTaken, Began, Moved, Store, Connection, Session, Bridge, Out, Named, Acknowledged, Passed, Dropped, Made, Merged, Does, Runs, gather, heard_in}
use Rattle.node_work.specs.Held.Bridge.{BridgeAct, Put, Took, Got, Believed, Greeted, Gave, Left_out, MayBridge, bridged, heard_of}
use Rattle.node_work.specs.Held.Connections.{ConnectionAct, Opened, Fed, Accepted, Roomed, Closed, after_connection_act}
use Rattle.node_work.specs.Held.Sessions.{SessionAct, Begun, Called, Over, called}
use Rattle.node_work.specs.View.{Place, HeldView}
use Rattle.cluster_play.proofs.Bools.{or_true}
use Rattle.cluster_play.proofs.Sites.{get_within}
use Rattle.cluster_play.proofs.Splits.{all_front}

-- in a cluster of so many nodes: lanes to and from each, with numbers below 2^62, and what is known of each node is so
pub record IsKept (count : ℕ) (took : ℕ → Dot → Bool) (b : BridgeView) : Type 0 where
  pub lanes : length b.lanes ≡ count
  pub below : (peer : ℕ) → last_put (lane_to b peer) < 2 ^ 62
  pub beliefs : (peer : ℕ) (d : Dot) → set.contains (belief_of b peer) d ≡ true → took peer d ≡ true

-- what another node is said to have taken it has
abbrev pub IsSo : (ℕ → Dot → Bool) → BridgeAct → Type 0
IsSo took (Put peer m) = Unit {0}
IsSo took (Took peer number m copies lost) = Unit {0}
IsSo took (Got peer number) = Unit {0}
IsSo took (Believed peer dots) = (d : Dot) → set.contains dots d ≡ true → took peer d ≡ true
IsSo took (Greeted peer g) = (d : Dot) → set.contains g.dots d ≡ true → took peer d ≡ true
IsSo took (Gave f) = Unit {0}
IsSo took (Left_out what) = Unit {0}

abbrev pub AreSo : (ℕ → Dot → Bool) → List BridgeAct → Type 0
AreSo took acts = AllByRecursion (IsSo took) acts

-- what stays where more is taken
pub kept_more : (count : ℕ) (took more : ℕ → Dot → Bool) (b : BridgeView) → ((i : ℕ) (d : Dot) → took i d ≡ true → more i d ≡ true) → IsKept count took b → IsKept count more b
kept_more count took more b f k = record { lanes = k.lanes; below = k.below; beliefs = λ peer d h. f peer d (k.beliefs peer d h) }

-- ---- at the start, and after a restart
pub one_of_alike : {A : Type 0} (n i : ℕ) (x : A) → get_or (replicate n x) i x ≡ x
one_of_alike zero i x = refl
one_of_alike (suc n) zero x = refl
one_of_alike (suc n) (suc i) x = one_of_alike n i x

pub woken_kept : (count : ℕ) (took : ℕ → Dot → Bool) (lanes : Lanes Forward) → length lanes ≡ count → ((peer : ℕ) → last_put (lane_of lanes peer) < 2 ^ 62) → IsKept count took (woken_bridge lanes)
woken_kept count took lanes long below = record {
  lanes = long;
  below = below;
  beliefs = λ peer d h. absurd (let no : false ≡ true = sym (ap (λ (s : Dots). set.contains s d) (one_of_alike (length lanes) peer set.empty) ∙ set.contains-empty dot_cmp d) ∙ h in cc);
}

pub new_below : (count peer : ℕ) → last_put (lane_of {A = Forward} (new_lanes count) peer) < 2 ^ 62
new_below count peer = subst (λ (l : Messages). last_put l < 2 ^ 62) (sym (one_of_alike count peer new_lane)) (omega arith)

-- ---- one of a list after one change
pub get_changed : {A : Type 0} (xs : List A) (i j : ℕ) (v d : A) → ((i ≡ j) × (get_or (slice_set xs i v) j d ≡ v)) ⊎ (get_or (slice_set xs i v) j d ≡ get_or xs j d)
get_changed [] i j v d = inr refl
get_changed (x ∷ xs) zero zero v d = inl (refl, refl)
get_changed (x ∷ xs) zero (suc j) v d = inr refl
get_changed (x ∷ xs) (suc i) zero v d = inr refl
get_changed (x ∷ xs) (suc i) (suc j) v d = elim (get_changed xs i j v d) [ inl e ↦ inl (ap suc e.0, e.1) | inr e ↦ inr e ]

module _ (count : ℕ) (took : ℕ → Dot → Bool) where
  -- ---- lanes
  with_lane_kept : (b : BridgeView) (peer : ℕ) (l : Messages) → IsKept count took b → last_put l < 2 ^ 62 → IsKept count took (with_lane peer l b)
  with_lane_kept b peer l k low = record {
    lanes = length-set b.lanes peer l ∙ k.lanes;
    below = λ j. elim (get_changed b.lanes peer j l new_lane) [
      | inl e ↦ subst (λ (m : Messages). last_put m < 2 ^ 62) (sym e.1) low
      | inr e ↦ subst (λ (m : Messages). last_put m < 2 ^ 62) (sym e) (k.below j)
    ];
    beliefs = k.beliefs;
  }

  offered_below : (a c : Bool) (l : Messages) (n : ℕ) → nat_lt (next_number l) (2 ^ 62) ≡ c → (if a then (if c then Queued (next_number l) else AtEnd) else Full) ≡ Queued n → next_number l < 2 ^ 62
  offered_below false c l n is e = absurd (let no : Full ≡ Queued n = e in cc)
  offered_below true false l n is e = absurd (let no : AtEnd ≡ Queued n = e in cc)
  offered_below true true l n is e = grind (arith, nat_tests)

  put_below : (b : BridgeView) (peer n : ℕ) (m : Forward) → offer_to peer b ≡ Queued n → last_put (with_put m (lane_to b peer)) < 2 ^ 62
  put_below b peer n m e =
      let l = lane_to b peer in
      let low : next_number l < 2 ^ 62 = has (has_lanes b peer) e in
      let long : length (l.waiting ++ m ∷ []) ≡ length l.waiting + 1 = length-append l.waiting (m ∷ []) in
      omega (arith, low, long)
    where
      has : (a : Bool) → (if a then offer_of (lane_to b peer) else Full) ≡ Queued n → next_number (lane_to b peer) < 2 ^ 62
      has false e = absurd (let no : Full ≡ Queued n = e in cc)
      has true e = offered_below (nat_lt (length (lane_to b peer).waiting) 65536) (nat_lt (next_number (lane_to b peer)) (2 ^ 62)) (lane_to b peer) n refl e

  -- what a node has taken no longer waits
  got_same : (l : Messages) (number : ℕ) → last_put (with_got number l) ≡ last_put l
  got_same l number =
      let k = up_to number l in
      let least : k ≤ length l.waiting = omega arith in
      let rest : length (drop k l.waiting) ≡ length l.waiting - k = length-drop k l.waiting in
      omega (arith, least, rest)

  -- ---- beliefs
  believes_kept : (b : BridgeView) (peer : ℕ) (dots : Dots) → IsKept count took b → ((d : Dot) → set.contains dots d ≡ true → took peer d ≡ true) → IsKept count took (believes peer dots b)
  believes_kept b peer dots k so = record {
    lanes = k.lanes;
    below = k.below;
    beliefs = λ j d h. elim (get_changed b.beliefs peer j (set.union (belief_of b peer) dots) set.empty) [
      | inl e ↦ subst (λ i. took i d ≡ true) e.0 (elim (or_true (set.contains (belief_of b peer) d) (set.contains dots d) (sym (set.contains-union dot_cmp_total (belief_of b peer) dots d) ∙ sym (ap (λ (s : Dots). set.contains s d) e.1) ∙ h)) [
        | inl x ↦ k.beliefs peer d x
        | inr y ↦ so d y
      ])
      | inr e ↦ k.beliefs j d (sym (ap (λ (s : Dots). set.contains s d) e) ∙ h)
    ];
  }

  greets_kept : (b : BridgeView) (peer : ℕ) (g : Greeting) → IsKept count took b → ((d : Dot) → set.contains g.dots d ≡ true → took peer d ≡ true) → IsKept count took (greets peer g b)
  greets_kept b peer g k so = record {
    lanes = k.lanes;
    below = k.below;
    beliefs = λ j d h. elim (get_changed b.beliefs peer j g.dots set.empty) [
      | inl e ↦ subst (λ i. took i d ≡ true) e.0 (so d (sym (ap (λ (s : Dots). set.contains s d) e.1) ∙ h))
      | inr e ↦ k.beliefs j d (sym (ap (λ (s : Dots). set.contains s d) e) ∙ h)
    ];
  }

  keeps_kept : (b : BridgeView) (d : State) → IsKept count took b → IsKept count took (keeps d b)
  keeps_kept b d k = record { lanes = k.lanes; below = k.below; beliefs = k.beliefs }

  -- ---- acts
  kept_by : (b c : BridgeView) → c ≡ b → IsKept count took b → IsKept count took c
  kept_by b c e k = subst (IsKept count took) (sym e) k

  connection_kept : (h : HeldView) (a : ConnectionAct) → (after_connection_act h a).bridge ≡ h.bridge
  connection_kept h (Opened c) = refl
  connection_kept h (Fed c piece) = refl
  connection_kept h (Accepted c client) = refl
  connection_kept h (Roomed c bytes) = refl
  connection_kept h (Closed c) = refl

  session_kept : (h : HeldView) (a : SessionAct) → (called h a).bridge ≡ h.bridge
  session_kept h (Begun client) = refl
  session_kept h (Called step) = refl
  session_kept h (Over client) = refl

  bridge_kept : (p : Place) (h : HeldView) (a : BridgeAct) → IsKept count took h.bridge → MayBridge p h a → AreSo took (heard_of a) → IsKept count took (bridged h a).bridge
  bridge_kept p h (Put peer m) k may so = with_lane_kept h.bridge peer (with_put m (lane_to h.bridge peer)) k (put_below h.bridge peer may.0 m may.1)
  bridge_kept p h (Took peer number m copies lost) k may so = with_lane_kept h.bridge peer (with_took number (lane_to h.bridge peer)) k (k.below peer)
  bridge_kept p h (Got peer number) k may so =
      with_lane_kept h.bridge peer (with_got number (lane_to h.bridge peer)) k (subst (λ n. n < 2 ^ 62) (sym (got_same (lane_to h.bridge peer) number)) (k.below peer))
  bridge_kept p h (Believed peer dots) k may so = believes_kept h.bridge peer dots k so.0
  bridge_kept p h (Greeted peer g) k may so = greets_kept h.bridge peer g k so.0
  bridge_kept p h (Gave f) k may so = k
  bridge_kept p h (Left_out what) k may so = k

  act_kept : (p : Place) (h m : HeldView) (a : Act) → IsKept count took h.bridge → Does p h a m → AreSo took (heard_in a) → IsKept count took m.bridge
  act_kept p h m (MomentTaken at) k d so = kept_by h.bridge m.bridge (ap (λ (v : HeldView). v.bridge) d.1) k
  act_kept p h m Began k d so = kept_by h.bridge m.bridge (ap (λ (v : HeldView). v.bridge) d.1) k
  act_kept p h m (Moved homes) k d so = kept_by h.bridge m.bridge (ap (λ (v : HeldView). v.bridge) d.1) k
  act_kept p h m (Store (Made o)) k d so = kept_by _ m.bridge (ap (λ (v : HeldView). v.bridge) d.1) (keeps_kept h.bridge _ k)
  act_kept p h m (Store (Merged t)) k d so = kept_by _ m.bridge (ap (λ (v : HeldView). v.bridge) d.1) (keeps_kept h.bridge t k)
  act_kept p h m (Connection c) k d so = kept_by h.bridge m.bridge (ap (λ (v : HeldView). v.bridge) d.1 ∙ connection_kept h c) k
  act_kept p h m (Session c) k d so = kept_by h.bridge m.bridge (ap (λ (v : HeldView). v.bridge) d.1 ∙ session_kept h c) k
  act_kept p h m (Bridge b) k d so = kept_by (bridged h b).bridge m.bridge (ap (λ (v : HeldView). v.bridge) d.1) (bridge_kept p h b k d.0 so)
  act_kept p h m (Out o) k d so = kept_by h.bridge m.bridge (ap (λ (v : HeldView). v.bridge) d.1) k
  act_kept p h m (Named number) k d so = kept_by h.bridge m.bridge (ap (λ (v : HeldView). v.bridge) d.1) k
  act_kept p h m (Acknowledged client packet at grants offers) k d so = kept_by h.bridge m.bridge (ap (λ (v : HeldView). v.bridge) d.1) k
  act_kept p h m (Passed x copies lost routes) k d so = kept_by h.bridge m.bridge (ap (λ (v : HeldView). v.bridge) d.1) k
  act_kept p h m Dropped k d so = kept_by h.bridge m.bridge (ap (λ (v : HeldView). v.bridge) d.1) k

  pub acts_kept : (p : Place) (acts : List Act) (h h' : HeldView) → IsKept count took h.bridge → Runs p h acts h' → AreSo took (gather heard_in acts) → IsKept count took h'.bridge
  acts_kept p [] h h' k r so = kept_by h.bridge h'.bridge (ap (λ (v : HeldView). v.bridge) r) k
  acts_kept p (a ∷ acts) h h' k r so =
      let parts = all_front (IsSo took) (heard_in a) (gather heard_in acts) so in
      acts_kept p acts r.0 h' (act_kept p h r.0 a k r.1 parts.0) r.2 parts.1

-- a message that waits has a number that lanes give
pub waits_numbered : (count : ℕ) (took : ℕ → Dot → Bool) (b : BridgeView) (peer number : ℕ) (m : Forward) → IsKept count took b → Waits (lane_to b peer) number m → (1 ≤ number) × (number < 2 ^ 62)
waits_numbered count took b peer number m k w =
    let l = lane_to b peer in
    let within : w.0 < length l.waiting = get_within l.waiting w.0 m w.2 in
    let low = k.below peer in
    let is = w.1 in
    (omega (arith, is), omega (arith, is, low, within))
