-- What becomes of a message at the other nodes.
use Rattle.std.proofs.Common.{Bor, ◌≡◌, ℕ, ◌+◌, ◌-◌, ◌<◌, ◌≤◌, ◌^◌, ◌⊎◌, suc, arith, Bool, true, false, not, cond, List, [], ◌∷◌, length, filter, map as map_list, Vec, inl, inr, refl, sym, ap, ◌∙◌}
use Rattle.std.specs.Prelude.{nat_eq}
use Rattle.std.specs.List.{range_with_len}
use Rattle.std.proofs.lemmas.Bool.Decides.{nat_tests}
use Rattle.home_table.specs.Table.{Table}
use Rattle.bridge_routes.specs.declared.groups.GroupPick.{GroupPick}
use Rattle.bridge_routes.specs.Tables.{referents}
use Rattle.bridge_routes.specs.declared.destinations.Destinations.{Destinations}
use Rattle.bridge_routes.specs.declared.destinations.HomedPick.{HomedPick}
use Rattle.bridge_routes.specs.declared.destinations.Route.{Route}
use Rattle.bridge_routes.specs.Routes.{AreFor, IsHomeOf, IsHomed, Pairwise, pick_to}
use Rattle.mqtt_message.specs.declared.message.Message.{Message}
use Rattle.node_work.specs.Passing.{AreRoutes, others}
use Rattle.node_work.specs.View.{Place, HeldView, nodes_of}
use Rattle.node_clients.specs.Passing.{route_to, routes_to}
use Rattle.node_clients.proofs.Homes.{home_stands}
use Rattle.subscription_set.specs.Entries.{Entry}

pub is_itself : (i j k : ℕ) → i ≡ j → j ≡ k → nat_eq i k ≡ true
is_itself i j k e f = grind (arith, nat_tests)

pub is_other : (i j k : ℕ) → (i ≡ j → ⊥) → j ≡ k → nat_eq i k ≡ false
is_other i j k e f = grind (arith, nat_tests)

-- a node without another one
pub alone : (p : Place) → nodes_of p ≡ 1 → p.id ≡ 0 → others p ≡ []
alone p one first = λ i. filter (λ n. not (nat_eq n (first i))) (range_with_len 0 (one i))

-- ---- the other nodes from one on
module _ (p : Place) (m : Message) (d : Destinations) where
  abbrev pub routes_from : ℕ → List (ℕ × Route)
  routes_from i = map_list (route_to m d) (filter (λ n. not (nat_eq n p.id)) (range_with_len i (nodes_of p - i)))

  more_nodes : (i : ℕ) → i < nodes_of p → nodes_of p - i ≡ suc (nodes_of p - (i + 1))
  more_nodes i below = omega arith

  by_node : (i : ℕ) (b : Bool) → i < nodes_of p → nat_eq i p.id ≡ b
      → routes_from i ≡ map_list (route_to m d) (cond (not b) (i ∷ filter (λ n. not (nat_eq n p.id)) (range_with_len (i + 1) (nodes_of p - (i + 1)))) (filter (λ n. not (nat_eq n p.id)) (range_with_len (i + 1) (nodes_of p - (i + 1)))))
  by_node i b below is =
      let rest = filter (λ n. not (nat_eq n p.id)) (range_with_len (i + 1) (nodes_of p - (i + 1))) in
      ap (λ k. map_list (route_to m d) (filter (λ n. not (nat_eq n p.id)) (range_with_len i k))) (more_nodes i below)
      ∙ ap (λ (t : Bool). map_list (route_to m d) (cond (not t) (i ∷ rest) rest)) is

  pub routes_skip : (i : ℕ) → i < nodes_of p → nat_eq i p.id ≡ true → routes_from i ≡ routes_from (i + 1)
  routes_skip i below is = by_node i true below is

  pub routes_next : (i : ℕ) → i < nodes_of p → nat_eq i p.id ≡ false → routes_from i ≡ route_to m d i ∷ routes_from (i + 1)
  routes_next i below is = by_node i false below is

  pub routes_begin : routes_to p m d ≡ routes_from 0
  routes_begin = ap (λ k. map_list (route_to m d) (filter (λ n. not (nat_eq n p.id)) (range_with_len 0 k))) (let e : nodes_of p ≡ nodes_of p - 0 = omega arith in e)

  pub routes_end : (i : ℕ) → nodes_of p ≤ i → routes_from i ≡ []
  routes_end i end = ap (λ k. map_list (route_to m d) (filter (λ n. not (nat_eq n p.id)) (range_with_len i k))) (let e : nodes_of p - i ≡ 0 = omega arith in e)

-- ---- where the clients of subscriptions and picks are at home
module _ (t : Table) where
  homes_stand : (matching : List Entry) → (homes : List ℕ) × Pairwise (IsHomeOf t) matching homes × (length homes ≡ length matching)
  homes_stand [] = ([], tt, refl)
  homes_stand (x ∷ xs) = let h = home_stands t x.client in let r = homes_stand xs in (h.0 ∷ r.0, (h.1, r.1), ap suc r.2)

  picks_stand : (picks : List GroupPick) → (out : List HomedPick) × Pairwise (IsHomed t) picks out × (length out ≡ length picks)
  picks_stand [] = ([], tt, refl)
  picks_stand (x ∷ xs) = let h = home_stands t x.client in let r = picks_stand xs in (record { pick = pick_to x; home = h.0 } ∷ r.0, ((refl, h.1), r.1), ap suc r.2)

abbrev with_list : {X Z : Type 0} → Vec X Z → (xs : List X) → length xs < 2 ^ 63 → Vec X Z
with_list v xs small = record { ptr = v.ptr; len = length xs; cap = length xs; alloc = v.alloc; items = xs; ok = (refl, omega arith); small = small }

pub as_many : {X : Type 0} (rs : List (Bor X)) → length (referents rs) ≡ length rs
as_many [] = refl
as_many (r ∷ rs) = ap suc (as_many rs)

-- where there is no other node, nothing goes anywhere
pub are_routes : (p : Place) (h : HeldView) (matching : List Entry) (picks : List GroupPick) (m : Message) (d : Destinations) → length matching < 2 ^ 63 → length picks < 2 ^ 63
    → (others p ≡ []) ⊎ AreFor h.homes matching picks d → AreRoutes p h matching picks m (routes_to p m d)
are_routes p h matching picks m d few few_picks (inr for) = (d, for, refl)
are_routes p h matching picks m d few few_picks (inl none) =
    let at_homes = homes_stand h.homes matching in
    let at_picks = picks_stand h.homes picks in
    let at : Destinations = record {
      homes = with_list d.homes at_homes.0 (let e = at_homes.2 in omega arith);
      picks = with_list d.picks at_picks.0 (let e = at_picks.2 in omega arith);
    } in
    (at, (at_homes.1, at_picks.1), ap (map_list (route_to m d)) none ∙ sym (ap (map_list (route_to m at)) none))
