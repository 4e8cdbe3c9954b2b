-- What becomes of a copy at QoS 1 or 2 once its session has it (MQTT 5.0, 4.1, 4.3 and 4.6).
use Rattle.std.specs.Prelude.{◌≡◌, ◌⊎◌, ℕ, true, false, List, [], ◌∷◌, ◌++◌, Some, slice_get}
use Rattle.law_deliveries.specs.Copies.{GoesFrom, channel_over, no_channel}
use Rattle.law_handshakes.specs.Resends.{published}
use Rattle.mqtt_message.specs.declared.delivery.Delivery.{Delivery}
use Rattle.mqtt_sessions.specs.Saved.{durable_of}
use Rattle.mqtt_sessions.specs.Sending.{is_once}
use Rattle.mqtt_sessions.specs.State.{State, new_session}
use Rattle.qos_handshakes.specs.Outbox.{waiting}
use Rattle.law_sessions.specs.Runs.{Step, Run, queues}
use Rattle.session_rows.specs.Durable.{Durable}
use Rattle.node_keeper.specs.Keeping.{AreLasting}
use Rattle.law_nodes.specs.Lives.{life, step_in}
use Rattle.law_nodes.specs.Moves.{Move}
use Rattle.node_rows.specs.Rows.{Lasting}
use Rattle.node_work.specs.Acts.{Act}
use Rattle.node_work.specs.Held.Sessions.{SessionStep}
use Rattle.cluster_play.specs.Worlds.{Site, World}
use Rattle.cluster_play.specs.Runs.{Played}
use Rattle.cluster_play.specs.Histories.{Reached, site, moves_at}
use Rattle.law_runs.specs.Calling.{SessionIsOver, StaysCalled}
use Rattle.law_runs.specs.Staying.{CallsSession}

-- ---- the sessions that rows have
-- what the rows of a node say of a client's session is what lasts of it, as its calls and losses since it last began make it of a new one
pub record IsOfItsLife (run : List Played) (i : ℕ) (client : List ℕ) (d : Durable) : Type 0 where
  pub session : State
  pub lived : Run (new_session client) (life client (moves_at i run) []) session
  pub lasts : d ≡ durable_of session

-- also at a node that is down
abbrev pub SessionsOfRowsAreRuns : Type 0
SessionsOfRowsAreRuns =
    (run : List Played) (w : World) → Reached run w → (i : ℕ) (s : Site) (said : Lasting) → slice_get w.sites i ≡ Some s → AreLasting s.node.place s.rows said
    → (client : List ℕ) (d : Durable) → said.sessions client ≡ Some d → IsOfItsLife run i client d

-- ---- copies
-- the rows of a node have the session of a client, where the copy has gone by the delivery rules since a call of it: the call said that the
-- queue is full; or from the call on the copy waits until an event sends it first or leaves it out, and once sent it is unfinished until
-- it is answered or too long to be sent again (GoesFrom)
pub record RowsHaveCopy (run : List Played) (i : ℕ) (s : Site) (earlier : List Move) (call : SessionStep) (x : Delivery) : Type 0 where
  pub said : Lasting
  pub are : AreLasting s.node.place s.rows said
  pub durable : Durable
  pub found : said.sessions call.client ≡ Some durable
  pub life_is : IsOfItsLife run i call.client durable
  pub since : List Step
  pub calls : life call.client (moves_at i run) [] ≡ life call.client earlier [] ++ step_in call ∷ since
  pub goes :
      (call.reaction.full ≡ true)
      ⊎ GoesFrom (channel_over no_channel (life call.client earlier [])) (step_in call ∷ since) x (waiting durable.copies) (published durable.copies)

-- a call of a client's session queues a copy at QoS 1 or 2
pub record QueuesCopy (m : Played) (before : List Act) (x : Delivery) : Type 0 where
  pub call : CallsSession m before
  pub now : ℕ
  pub event : call.step.event ≡ queues x now
  pub twice : is_once x.qos ≡ false

-- in every later world, running or down, until the session is over or begins anew
abbrev pub CopyStays : Type 0
CopyStays =
    (run later : List Played) (m : Played) (w : World) → Reached (run ++ m ∷ later) w
    → (before : List Act) (x : Delivery) (q : QueuesCopy m before x) (s : Site) → slice_get w.sites (site m.fate) ≡ Some s
    → (c : StaysCalled run later m before q.call) × (SessionIsOver q.call.step.client c.after ⊎ RowsHaveCopy (run ++ m ∷ later) (site m.fate) s c.earlier q.call.step x)
