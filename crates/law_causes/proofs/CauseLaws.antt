-- Each operation has its cause, in every run.
use Rattle.std.proofs.Common.{◌≡◌, ◌⊎◌, inl, inr, ℕ, ◌+◌, ◌==◌, cond, Bool, true, false, List, ◌∷◌, ◌++◌, Some, None, refl, subst}
use Rattle.std.proofs.lemmas.Bool.{eqb-true, eqb-false}
use Rattle.home_table.specs.Homes.{IsHome}
use Rattle.replica_store.specs.declared.operation.Operation.{Operation}
use Rattle.replica_store.specs.Operations.{dot_of, HaveOwnDots}
use Rattle.replica_store.specs.StateOf.{IsStateOf}
use Rattle.replica_store.proofs.Views.{cover_is, cover_below_is}
use Rattle.node_work.specs.Acts.{Act, Store, Made, Runs}
use Rattle.node_work.specs.View.{Place, HeldView}
use Rattle.node_clients.specs.Ending.{ends_below}
use Rattle.broker_node.specs.declared.event.EventKind.{EventKind}
use Rattle.cluster_play.specs.Worlds.{World}
use Rattle.cluster_play.specs.Runs.{Played}
use Rattle.cluster_play.specs.Histories.{Reached, site, acts_of, taken_amid, operations_amid}
use Rattle.cluster_play.specs.Agreement.{HoldsAmid}
use Rattle.cluster_play.proofs.Amid.{amid_acts, runs_split}
use Rattle.cluster_play.proofs.Operations.{own_some}
use Rattle.cluster_play.proofs.Paths.{commits_acts, midway}
use Rattle.cluster_play.proofs.Rows.{committed}
use Rattle.cluster_play.proofs.Showing.{node_holds_amid}
use Rattle.law_causes.specs.Causes.{EndsBelow, IsOfSubscribe, IsOfUnsubscribe, IsOfMessage, IsOfEnd, IsOfEviction, HasOneCause, OperationsHaveCauses}
use Rattle.law_causes.proofs.Causing.{IsCaused, all_caused}

pub below_by : (b : Bool) (node : ℕ) (p : Place) (held : HeldView) (client : List ℕ) → IsHome held.homes client node → (node == p.id) ≡ b → EndsBelow held.homes p.id client (cond b (held.homes.version + 1) held.homes.version)
below_by true node p held client home e = (node, home, inl (eqb-true node p.id e, refl))
below_by false node p held client home e = (node, home, inr (eqb-false node p.id e, refl))

have_causes : (run later : List Played) (m : Played) (w : World) → Reached (run ++ m ∷ later) w → (before after : List Act) (o : Operation) → acts_of m.fate ≡ before ++ Store (Made o) ∷ after → HasOneCause run m before after o
have_causes run later m w r before after o is =
    let i = site m.fate in
    let a = Store (Made o) in
    let half = midway run (m ∷ later) w r in
    let e = commits_acts m.fate before after a is in
    let c = committed half.mid m.step m.fate half.path.0 e.0 half.path.1 e.1 in
    let place = c.was.node.place in
    let parts = runs_split place before (a ∷ after) c.before c.after (subst (λ acts. Runs place c.before acts c.after) is c.steps.runs) in
    let there : HoldsAmid half.mid m i before parts.0 = record {
      event = e.0;
      commits = e.1;
      at = refl;
      rest = a ∷ after;
      acts = is;
      held = c.before;
      holds = record { site = c.was; at = c.at; up = c.up };
      runs = parts.1;
    } in
    let O = operations_amid i run before in
    let state : IsStateOf O parts.0.store = (node_holds_amid run half.mid half.path.0 m half.reached half.honest.0 half.path.1 i before parts.0 there).state in
    let own : HaveOwnDots O = own_some _ (λ o. taken_amid i run before (dot_of o)) (amid_acts run later m w r before after a is).grown.own_dots in
    record {
      world = half.mid;
      reached = half.reached;
      held = parts.0;
      there = there;
      cause = by O place parts.0 e.0.kind own state (all_caused e.0 place c.before (acts_of m.fate) c.steps.does before after o parts.0 is parts.1);
    }
  where
    by : (O : List Operation) (p : Place) (held : HeldView) (kind : EventKind) → HaveOwnDots O → IsStateOf O held.store → IsCaused kind p held before o after
        → IsOfSubscribe before o ⊎ IsOfUnsubscribe O before o ⊎ IsOfMessage before o ⊎ IsOfEnd O held.homes p.id after o ⊎ IsOfEviction O kind o
    by O p held kind own state (inl (x, (inl d))) = inl (record {
      after = x;
      subscribe = d.subscribe;
      now = d.now;
      room = d.room;
      event = d.event;
      asked = d.asked;
      filter = d.filter;
      among = d.among;
      dot = _;
      cover = _;
      version = _;
      is = d.is;
    })
    by O p held kind own state (inl (x, (inr d))) = inr (inl (record {
      after = x;
      unsubscribe = d.unsubscribe;
      now = d.now;
      room = d.room;
      event = d.event;
      asked = d.asked;
      text = d.text;
      among = d.among;
      dot = _;
      cover = _;
      is = d.is;
      covers = λ dot. cover_is O held.store own state x.call.client (Some d.text) dot;
    }))
    by O p held kind own state (inr (inl (x, d))) = inr (inr (inl (record { after = x; message = d.message; asks = d.asks; retain = d.retain; dot = _; stamp = _; is = d.is })))
    by O p held kind own state (inr (inr (inl d))) = inr (inr (inr (inl (record {
      client = d.client;
      rest = d.rest;
      over = d.follows;
      version = ends_below d.node p held;
      below = below_by (d.node == p.id) d.node p held d.client d.home refl;
      dot = _;
      cover = _;
      is = d.is;
      covers = λ dot. cover_below_is O held.store own state d.client (ends_below d.node p held) dot;
    }))))
    by O p held kind own state (inr (inr (inr d))) = inr (inr (inr (inr (record {
      client = d.client;
      event = d.event;
      dot = _;
      cover = _;
      is = d.is;
      covers = λ dot. cover_is O held.store own state d.client None dot;
    }))))

pub operations_have_causes : OperationsHaveCauses
operations_have_causes = λ run later m w r before after o is. have_causes run later m w r before after o is
