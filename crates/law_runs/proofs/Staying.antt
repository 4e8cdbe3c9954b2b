-- What a step makes stays.
use Rattle.std.proofs.Common.{◌≡◌, ℕ, true, List, [], ◌∷◌, ◌++◌, Some, refl, ◌∙◌, subst}
use Rattle.session_table.specs.Seats.{Seat}
use Rattle.law_runs.proofs.Clients.{client_is}
use Rattle.law_nodes.specs.Lives.{life}
use Rattle.cluster_play.proofs.Lives.{sessions_are_runs_amid}
use Rattle.causal_context.specs.Dots.{Dot}
use Rattle.replica_store.specs.declared.operation.Operation.{Operation}
use Rattle.replica_store.specs.Operations.{dot_of}
use Rattle.node_work.specs.Acts.{Act, Store, Session, Made, Runs}
use Rattle.law_sessions.specs.Runs.{Reacts}
use Rattle.node_work.specs.Held.Sessions.{Called, HappensAt, IsCall, seat_at}
use Rattle.node_work.specs.View.{HeldView}
use Rattle.broker_node.specs.declared.event.Event.{Event}
use Rattle.broker_node.specs.Turns.{Decides}
use Rattle.cluster_play.specs.Worlds.{World, Happens}
use Rattle.cluster_play.specs.Runs.{Played, IsHonestStep}
use Rattle.cluster_play.specs.Agreement.{HoldsAmid}
use Rattle.cluster_play.specs.Histories.{Reached, site, acts_of, taken, moves_amid}
use Rattle.cluster_play.proofs.Amid.{runs_split}
use Rattle.cluster_play.proofs.Catching.{operations_of_a_step}
use Rattle.cluster_play.proofs.Keeping.{keeps_operations}
use Rattle.cluster_play.proofs.Paths.{commits_acts, midway}
use Rattle.cluster_play.proofs.Rows.{committed}
use Rattle.law_runs.specs.Staying.{CallsSession, HasTaken, StaysMade}

-- a dot that is taken is listed in the rows
pub has_taken : (run : List Played) (w : World) (i : ℕ) (dot : Dot) → Reached run w → taken i run dot ≡ true → HasTaken run w i dot
has_taken run w i dot r is = record {
  taken = is;
  rows = λ s at. (let k = keeps_operations run w r i s at in record { said = k.said; are = k.are; listed = k.listed dot ∙ is });
}

-- an operation among the acts
abbrev pub stays_made : (run later : List Played) (m : Played) (w : World) → Reached (run ++ m ∷ later) w → (first last : List Act) (o : Operation) → acts_of m.fate ≡ first ++ Store (Made o) ∷ last → StaysMade run later m w o
stays_made run later m w r first last o is =
    let made = operations_of_a_step run later m w r first last o is in
    record { first = first; last = last; acts = is; next = made.0; stays = has_taken (run ++ m ∷ later) w (site m.fate) (dot_of o) r made.1 }

-- the session that is called, at its node amid the step
pub record Finds (run : List Played) (m : Played) (before : List Act) (c : CallsSession m before) : Type 0 where
  pub world : World
  pub reached : Reached run world
  pub held : HeldView
  pub there : HoldsAmid world m (site m.fate) before held
  pub seat : Seat
  pub found : seat_at c.step.client held ≡ Some seat

-- a call of a session in a step: what the event came to, and what the node held then
pub record CalledAt (run : List Played) (m : Played) (before : List Act) (c : CallsSession m before) : Type 0 where
  pub finds : Finds run m before c
  pub event : Event
  pub decides : Decides event (Some tt) finds.there.holds.site.node.place finds.there.held (acts_of m.fate)
  pub end : HeldView
  pub runs : Runs finds.there.holds.site.node.place finds.there.held (acts_of m.fate) end
  pub client : finds.seat.session.kept.client ≡ c.step.client
  pub at : c.step.at ≡ finds.held.at
  pub moment : HappensAt finds.held.at c.step.event
  pub reacts : Reacts finds.seat.session c.step.event c.step.reaction c.step.after
  pub next : World
  pub happens : Happens finds.world m.step m.fate next
  pub honest : IsHonestStep finds.world.frames m.step

pub called_at : (run later : List Played) (m : Played) (w : World) → Reached (run ++ m ∷ later) w → (before : List Act) (c : CallsSession m before) → CalledAt run m before c
called_at run later m w r before c =
    let a = Session (Called c.step) in
    let rest = a ∷ c.after in
    let half = midway run (m ∷ later) w r in
    let e = commits_acts m.fate before c.after a c.acts in
    let s = committed half.mid m.step m.fate half.path.0 e.0 half.path.1 e.1 in
    let place = s.was.node.place in
    let parts = runs_split place before rest s.before s.after (subst (λ acts. Runs place s.before acts s.after) c.acts s.steps.runs) in
    let call : IsCall parts.0 c.step = parts.2.1.0 in
    let there : HoldsAmid half.mid m (site m.fate) before parts.0 = record {
      event = e.0;
      commits = e.1;
      at = refl;
      rest = rest;
      acts = c.acts;
      held = s.before;
      holds = record { site = s.was; at = s.at; up = s.up };
      runs = parts.1;
    } in
    record {
      event = e.0;
      decides = s.steps.does;
      end = s.after;
      runs = s.steps.runs;
      client = client_is c.step.client (life c.step.client (moves_amid (site m.fate) run before) []) call.seat.session
          (sessions_are_runs_amid run half.mid m half.reached (site m.fate) before parts.0 there c.step.client call.seat call.found);
      at = call.at;
      moment = call.moment;
      reacts = call.reacts;
      next = half.path.0;
      happens = half.path.1;
      honest = half.honest.0;
      finds = record {
        world = half.mid;
        reached = half.reached;
        held = parts.0;
        there = there;
        seat = call.seat;
        found = call.found;
      };
    }
