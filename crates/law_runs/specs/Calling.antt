-- A call of a session stays one of the calls that made it.
use Rattle.std.specs.Prelude.{◌≡◌, ◌⊎◌, ℕ, List, [], ◌∷◌, ◌++◌}
use Rattle.law_sessions.specs.Runs.{Step}
use Rattle.law_nodes.specs.Lives.{life, step_in}
use Rattle.law_nodes.specs.Moves.{Move, Acted}
use Rattle.node_work.specs.Acts.{Act, Session}
use Rattle.node_work.specs.Held.Sessions.{Begun, Called, Over}
use Rattle.cluster_play.specs.Worlds.{World}
use Rattle.cluster_play.specs.Runs.{Played}
use Rattle.cluster_play.specs.Histories.{Reached, site, moment_amid, moves_at}
use Rattle.law_runs.specs.Staying.{CallsSession}

-- among moves of its node the client's session is over, or begins anew
pub record SessionIsOver (client : List ℕ) (moves : List Move) : Type 0 where
  pub before : List Move
  pub after : List Move
  pub is : (moves ≡ before ++ Acted (Session (Over client)) ∷ after) ⊎ (moves ≡ before ++ Acted (Session (Begun client)) ∷ after)

-- the call is at the moment of its node, and one of the node's moves; until the session is over it is one of the calls of which the session
-- is made, in its place
pub record StaysCalled (run later : List Played) (m : Played) (before : List Act) (c : CallsSession m before) : Type 0 where
  pub at : c.step.at ≡ moment_amid (site m.fate) run before
  pub earlier : List Move
  pub after : List Move
  pub moves : moves_at (site m.fate) (run ++ m ∷ later) ≡ earlier ++ Acted (Session (Called c.step)) ∷ after
  pub stays :
      SessionIsOver c.step.client after
      ⊎ ((since : List Step) × (life c.step.client (moves_at (site m.fate) (run ++ m ∷ later)) [] ≡ life c.step.client earlier [] ++ step_in c.step ∷ since))

-- in every later world: so the copies that a step makes are told of by what is proved of every run of a session
abbrev pub CallsStay : Type 0
CallsStay = (run later : List Played) (m : Played) (w : World) → Reached (run ++ m ∷ later) w → (before : List Act) (c : CallsSession m before) → StaysCalled run later m before c
