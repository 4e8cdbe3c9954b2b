-- What the figures of a node say of its cluster is so.
use Rattle.std.proofs.Common.{◌≡◌, ◌∙◌, ℕ, ◌<◌, ◌==◌, ◌&&◌, Bool, true, false, cond, List, length, map, Option, Some, None, get_or, refl, sym, ap, subst, arith}
use Rattle.std.specs.Prelude.{Contains, is_none, not}
use Rattle.std.specs.List.{list_all}
use Rattle.std.specs.Cmp.{both_ways}
use Rattle.std.specs.FinSet as set
use Rattle.std.proofs.lemmas.Bool.{eqb-true}
use Rattle.std.proofs.lemmas.Bool.Decides.{nat_tests}
use Rattle.std.proofs.lemmas.List.{get_or-map, length-map}
use Rattle.std.proofs.lemmas.List.Folds.{list_all_at}
use Rattle.causal_context.specs.Dots.{Dots, dot_cmp}
use Rattle.causal_context.specs.SetLattice.{IsSubset}
use Rattle.cluster_play.specs.Histories.{taken}
use Rattle.cluster_play.specs.Worlds.{World}
use Rattle.cluster_play.proofs.Agreeing.{nodes_alike}
use Rattle.cluster_play.proofs.Believing.{lacks_nothing_there}
use Rattle.node_figures.proofs.Counting.{none_lacks}
use Rattle.node_bridge.specs.View.{BridgeView, belief_of, has_lanes, known_of, lane_to}
use Rattle.node_figures.specs.Peers.{Seen, lacking_by, missing_by, others, peer_at, seen, waiting_of}
use Rattle.status_figures.specs.Figures.{agrees, all_agree, has_room, is_caught_up, is_equal, is_short}
use Rattle.status_figures.specs.declared.figures.Figures.{Figures}
use Rattle.status_figures.specs.declared.peer.Peer.{Peer}
use Rattle.law_status.specs.Agreeing.{BothEqualAgree, CaughtUpIsSo, EqualHasNoMore, EqualIsSo, HasAllOf, Shows}

-- ---- what isn't lacking is known

known_is : (b : Bool) (dots known : Dots) → cond b (Some dots) None ≡ Some known → known ≡ dots
known_is true dots known h = cc
known_is false dots known h = cc

subset_by : (own : Dots) (b : BridgeView) (peer : ℕ) (o : Option Dots) → known_of b peer ≡ o → lacking_by own o ≡ 0 → IsSubset own (belief_of b peer)
subset_by own b peer None is none q has = let never = (none_lacks own set.empty).0 none q has in let not_so = set.contains-empty dot_cmp q in cc
subset_by own b peer (Some known) is none q has =
    let same : known ≡ belief_of b peer = known_is (has_lanes b peer) (belief_of b peer) known is in
    subst (λ (dots : Dots). set.contains dots q ≡ true) same ((none_lacks own known).0 none q has)

-- what is known of a peer, where nothing of it is missing
known_here : (own : Dots) (o : Option Dots) → missing_by own o ≡ 0 → (known : Dots) → o ≡ Some known → IsSubset known own
known_here own None none known is = absurd (cc)
known_here own (Some dots) none known is =
    let same : dots ≡ known = cc in
    subst (λ (ds : Dots). IsSubset ds own) same ((none_lacks dots own).0 none)

both_left : (a b : Bool) → (a && b) ≡ true → a ≡ true
both_left true b e = refl
both_left false b e = e

both_right : (a b : Bool) → (a && b) ≡ true → b ≡ true
both_right true b e = e
both_right false b e = cc

lacks_none : (peer : Peer) → is_equal peer ≡ true → peer.lacking ≡ 0
lacks_none peer e =
    let counts = both_right peer.heard (peer.lacking == 0 && peer.missing == 0) e in
    eqb-true peer.lacking 0 (both_left (peer.lacking == 0) (peer.missing == 0) counts)

misses_none : (peer : Peer) → is_equal peer ≡ true → peer.missing ≡ 0
misses_none peer e =
    let counts = both_right peer.heard (peer.lacking == 0 && peer.missing == 0) e in
    eqb-true peer.missing 0 (both_right (peer.lacking == 0) (peer.missing == 0) counts)

-- ---- who is shown

-- each peer that is shown is one of the other nodes, as it is
pub record IsShown (w : World) (i : ℕ) (figures : Figures) (shows : Shows w i figures) (peer : Peer) : Type 0 where
  pub lacks : peer.lacking ≡ lacking_by shows.held.store.taken (known_of shows.held.bridge peer.number)
  pub misses : peer.missing ≡ missing_by shows.held.store.taken (known_of shows.held.bridge peer.number)
  pub waits : peer.waiting ≡ waiting_of shows.held peer.number
  pub room : peer.room ≡ 65536

shown : (w : World) (i : ℕ) (figures : Figures) (shows : Shows w i figures) (peer : Peer) → Contains figures.peers.items peer → IsShown w i figures shows peer
shown w i figures shows peer among =
    let peers = figures.peers.items in
    let k = among.0 in
    let at = peer_at shows.holds.site.node.homes shows.held shows.tally shows.since shows.at in
    let numbers = others shows.holds.site.node.place.id (length shows.holds.site.node.homes.nodes) in
    let same : map seen peers ≡ map at numbers = shows.are.peers in
    let as_many : length numbers ≡ length peers = sym (length-map numbers at) ∙ sym (ap (λ (xs : List Seen). length xs) same) ∙ length-map peers seen in
    let within : k < length numbers = omega (arith, among.1) in
    let here : get_or (map seen peers) k (seen peer) ≡ seen peer = get_or-map seen peers k peer (seen peer) among.1 ∙ ap seen among.2 in
    let there : get_or (map at numbers) k (seen peer) ≡ at (get_or numbers k 0) = get_or-map at numbers k 0 (seen peer) within in
    let is : seen peer ≡ at (get_or numbers k 0) = sym here ∙ ap (λ (xs : List Seen). get_or xs k (seen peer)) same ∙ there in
    let number : get_or numbers k 0 ≡ peer.number = sym (ap (λ (s : Seen). s.number) is) in
    record {
      lacks = ap (λ (s : Seen). s.lacking) is ∙ ap (λ n. lacking_by shows.held.store.taken (known_of shows.held.bridge n)) number;
      misses = ap (λ (s : Seen). s.missing) is ∙ ap (λ n. missing_by shows.held.store.taken (known_of shows.held.bridge n)) number;
      waits = ap (λ (s : Seen). s.waiting) is ∙ ap (λ n. waiting_of shows.held n) number;
      room = ap (λ (s : Seen). s.room) is;
    }

pub equal_has_all : EqualIsSo
equal_has_all run w r i figures shows peer among equal =
    let none : peer.lacking ≡ 0 = lacks_none peer equal in
    let lacks = (shown w i figures shows peer among).lacks in
    lacks_nothing_there run w r i shows.held shows.holds peer.number
    (subset_by shows.held.store.taken shows.held.bridge peer.number (known_of shows.held.bridge peer.number) refl (sym lacks ∙ none))

pub equal_has_no_more : EqualHasNoMore
equal_has_no_more w i figures shows peer among equal =
    let misses = (shown w i figures shows peer among).misses in
    known_here shows.held.store.taken (known_of shows.held.bridge peer.number) (sym misses ∙ misses_none peer equal)

-- ---- all agree

all_pass : (b : Bool) (peers : List Peer) (peer : Peer) → agrees peer ≡ b → list_all agrees peers ≡ true → Contains peers peer → b ≡ true
all_pass true peers peer is all among = refl
all_pass false peers peer is all among =
    let not_all = list_all_at agrees peers among.0 peer among.1 (ap agrees among.2 ∙ is) in
    cc

peers_agree : (figures : Figures) → is_caught_up figures ≡ true → list_all agrees figures.peers.items ≡ true
peers_agree figures all =
    let rest = both_right (is_none figures.refusal) (not (is_short figures.usage) && all_agree figures) all in
    both_right (not (is_short figures.usage)) (all_agree figures) rest

-- a peer that has room is shown with fewer messages than may wait
room_left : (peer : Peer) (n : ℕ) → peer.waiting ≡ n → peer.room ≡ 65536 → has_room peer ≡ true → n < 65536
room_left peer n is most room = let fewer : peer.waiting < peer.room = grind (arith, nat_tests) in omega arith

pub caught_up_has_all : CaughtUpIsSo
caught_up_has_all run w r i figures shows all peer among =
    let agrees_so = all_pass (agrees peer) figures.peers.items peer refl (peers_agree figures all) among in
    let well = both_right peer.linked (is_equal peer && has_room peer) agrees_so in
    let equal = both_left (is_equal peer) (has_room peer) well in
    record {
      linked = both_left peer.linked (is_equal peer && has_room peer) agrees_so;
      heard = both_left peer.heard (peer.lacking == 0 && peer.missing == 0) equal;
      all = equal_has_all run w r i figures shows peer among equal;
      no_more = equal_has_no_more w i figures shows peer among equal;
      room = room_left peer (length (lane_to shows.held.bridge peer.number).waiting) (shown w i figures shows peer among).waits (shown w i figures shows peer among).room
          (both_right (is_equal peer) (has_room peer) well);
    }

pub both_agree : BothEqualAgree
both_agree run w r i j f g shows other of_j of_i =
    let j_has = equal_has_all run w r i f shows of_j.peer of_j.among of_j.equal in
    let i_has = equal_has_all run w r j g other of_i.peer of_i.among of_i.equal in
    let All : ℕ → ℕ → Type 0 = λ a b. HasAllOf run a b in
    let there : HasAllOf run j i = subst (λ n. All n i) of_j.number j_has in
    let here : HasAllOf run i j = subst (λ n. All n j) of_i.number i_has in
    nodes_alike run w r i j shows.held other.held shows.holds other.holds (λ d. both_ways (taken i run d) (taken j run d) (there d) (here d))
