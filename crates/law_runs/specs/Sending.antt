-- What goes out to clients in a run.
use Rattle.std.specs.Prelude.{◌⊎◌, ℕ, List, ◌∷◌, ◌++◌}
use Rattle.node_work.specs.declared.outcome.Output.TheVariants.{Send}
use Rattle.node_work.specs.Acts.{Act}
use Rattle.law_runs.specs.StepSending.{IsIn, IsOwnPacket, SentBy}
use Rattle.cluster_play.specs.Worlds.{World}
use Rattle.cluster_play.specs.Runs.{Played}
use Rattle.cluster_play.specs.Histories.{Reached, outputs_of}
use Rattle.law_runs.specs.Staying.{CallsSession}

-- a step calls a session, which gives these bytes out on the connection
pub record CallSends (m : Played) (connection : ℕ) (bytes : List ℕ) : Type 0 where
  pub before : List Act
  pub call : CallsSession m before
  pub sent : SentBy call.step connection bytes

-- the bytes that a step gives out on a connection are a packet of such a call, or CONNACK or DISCONNECT
abbrev pub OutputsAreOfCalls : Type 0
OutputsAreOfCalls =
    (run later : List Played) (m : Played) (w : World) → Reached (run ++ m ∷ later) w
    → (connection : ℕ) (bytes : List ℕ) → IsIn (Send connection bytes) (outputs_of m.fate) → CallSends m connection bytes ⊎ IsOwnPacket bytes
