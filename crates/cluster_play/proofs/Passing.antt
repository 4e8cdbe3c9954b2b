-- The copies of a message that is passed on.
use Rattle.std.proofs.Common.{List, ◌∷◌, ◌++◌, refl, subst}
use Rattle.replica_store.specs.Operations.{dot_of}
use Rattle.replica_store.proofs.Views.{live_is}
use Rattle.node_work.specs.Acts.{Act, Passed, Runs}
use Rattle.cluster_play.specs.Worlds.{World}
use Rattle.cluster_play.specs.Runs.{Played}
use Rattle.cluster_play.specs.Histories.{Reached, site, taken_amid, operations_amid}
use Rattle.cluster_play.specs.Agreement.{HoldsAmid, AnswersByOperations}
use Rattle.cluster_play.specs.Copying.{PassesMessageOn, MakesItsCopies}
use Rattle.cluster_play.proofs.Operations.{own_some}
use Rattle.cluster_play.proofs.Paths.{commits_acts, midway}
use Rattle.cluster_play.proofs.Rows.{committed}
use Rattle.cluster_play.proofs.Amid.{amid_acts, runs_split}
use Rattle.cluster_play.proofs.Showing.{node_holds_amid}

pub copies_as_taken : (run later : List Played) (m : Played) (w : World) → Reached (run ++ m ∷ later) w → (before : List Act) (s : PassesMessageOn m before) → MakesItsCopies run m before s
copies_as_taken run later m w r before s =
    let i = site m.fate in
    let a = Passed s.message s.copies s.lost s.routes in
    let rest = a ∷ s.after in
    let half = midway run (m ∷ later) w r in
    let e = commits_acts m.fate before s.after a s.acts in
    let c = committed half.mid m.step m.fate half.path.0 e.0 half.path.1 e.1 in
    let place = c.was.node.place in
    let parts = runs_split place before rest c.before c.after (subst (λ acts. Runs place c.before acts c.after) s.acts c.steps.runs) in
    let there : HoldsAmid half.mid m i before parts.0 = record {
      event = e.0;
      commits = e.1;
      at = refl;
      rest = rest;
      acts = s.acts;
      held = c.before;
      holds = record { site = c.was; at = c.at; up = c.up };
      runs = parts.1;
    } in
    let by : AnswersByOperations (operations_amid i run before) parts.0 = node_holds_amid run half.mid half.path.0 m half.reached half.honest.0 half.path.1 i before parts.0 there in
    let own = own_some _ (λ o. taken_amid i run before (dot_of o)) (amid_acts run later m w r before s.after a s.acts).grown.own_dots in
    record {
      world = half.mid;
      reached = half.reached;
      held = parts.0;
      there = there;
      made = parts.2.1.0.1;
      live = live_is (operations_amid i run before) parts.0.store own by.state;
    }
