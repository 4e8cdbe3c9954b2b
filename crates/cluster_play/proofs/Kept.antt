-- The invariant over whole runs.
use Rattle.std.proofs.Common.{◌≡◌, ℕ, false, List, [], Some, option_map, sym, ap, ◌∙◌, subst, length}
use Rattle.std.proofs.lemmas.List.{length-replicate}
use Rattle.std.specs.List.{slice_get}
use Rattle.std.specs.FinSet as set
use Rattle.causal_context.specs.Dots.{dot_cmp}
use Rattle.bridge_lanes.specs.Lanes.{new_lane, new_lanes}
use Rattle.node_keeper.specs.Keeping.{AreOf}
use Rattle.node_rows.proofs.OneNode.{rows_tell_all}
use Rattle.node_work.specs.View.{HeldView, NodeView, Place, fresh, place_of}
use Rattle.cluster_play.specs.Worlds.{Site, World}
use Rattle.cluster_play.specs.Runs.{Played}
use Rattle.cluster_play.specs.Histories.{IsNewSite, IsStart, Reached}
use Rattle.cluster_play.proofs.Bools.{some_is, none-some}
use Rattle.cluster_play.proofs.Paths.{along_from}
use Rattle.cluster_play.proofs.Bridging.{new_below, woken_kept}
use Rattle.cluster_play.proofs.Fresh.{fresh_can_last, fresh_rows}
use Rattle.cluster_play.proofs.Explaining.{Explains, Past, Seated, past, past_more}
use Rattle.cluster_play.proofs.Invariant.{step_explains}
use Rattle.cluster_play.proofs.Parts.{sound_nothing}

-- at the start nothing is made or taken, and each node holds nothing
new_seat : (start : World) (count i : ℕ) (s : Site) → slice_get start.sites i ≡ Some s → IsNewSite count i s → Seated (past start []) count i s
new_seat start count i s there is =
    let place : s.node.place ≡ place_of i is.homes = ap (λ (n : NodeView). n.place) is.node in
    let table : s.node.homes ≡ is.homes = ap (λ (n : NodeView). n.homes) is.node in
    let first : HeldView = fresh is.homes in
    let rows : AreOf (place_of i is.homes) s.rows first = fresh_rows (place_of i is.homes) is.homes s.rows is.rows in
    let at : fresh s.node.homes ≡ first = ap fresh table in
    record {
      id = ap (λ (p : Place). p.id) place;
      nodes = ap (λ (p : Place). p.nodes) place ∙ is.fits;
      held = first;
      homes = table;
      first = s.node.homes;
      was = ap (option_map (λ (t : Site). t.node.homes)) there;
      moves = sym at;
      rows = subst (λ (p : Place). AreOf p s.rows first) (sym place) rows;
      lasts = fresh_can_last is.homes;
      up = λ h u. some_is (sym u ∙ ap (λ (n : NodeView). n.up) is.node);
      holding = record { grown = record { own_dots = λ o p a b e. absurd a; sound = sound_nothing []; own = λ o a e. absurd a }; deltas = tt };
      kept = woken_kept count (λ j d. false) (new_lanes (length is.homes.nodes)) (length-replicate (length is.homes.nodes) new_lane ∙ is.fits) (new_below (length is.homes.nodes));
      listed = λ d. set.contains-empty dot_cmp d;
    }

start_explained : (w : World) → IsStart w → Explains (past w []) w
start_explained w s = record {
  few = s.few;
  own_dots = λ o p a b e. absurd a;
  plain = λ o a. absurd a;
  sites = λ i n at. new_seat w (length w.sites) i n at (s.sites i n at);
  frames = λ n f a. none-some (subst (λ fs. slice_get fs n ≡ Some f) s.frames a);
}

pub explained : (run : List Played) (w : World) (r : Reached run w) → Explains (past r.start run) w
explained = along_from (λ start run w. Explains (past start run) w)
    (λ run m w w' r x honest h. subst (λ (p : Past). Explains p w') (past_more r.start run m) (step_explains rows_tell_all (past r.start run) w w' m.step x m.fate honest h))
    start_explained
