-- A run: the steps that were played, each with what it came to.
use Rattle.std.specs.Prelude.{◌≡◌, ℕ, ◌+◌, ◌++◌, List, [], ◌∷◌, Some, flat_map, length, slice_get}
use Rattle.broker_node.specs.declared.event.EventKind.{EventKind}
use Rattle.broker_node.specs.declared.event.EventKind.TheVariants as kinds
use Rattle.node_work.specs.declared.frame.Frame.{Frame}
use Rattle.node_work.specs.declared.outcome.Output.{Output}
use Rattle.node_work.specs.declared.outcome.Output.TheVariants.{Send, Close, Frame as Release}
use Rattle.cluster_play.specs.declared.line.Line.{Line}
use Rattle.cluster_play.specs.declared.line.Line.TheVariants as lines
use Rattle.cluster_play.specs.declared.step.Step.{Step}
use Rattle.cluster_play.specs.declared.step.Step.TheVariants as steps
use Rattle.cluster_play.specs.Worlds.{World, Fate, Released, Lost, Cut, Faulted, Was_down, Restarted, Happens, frames_in}

-- a step, and what it came to
pub record Played : Type 0 where
  pub step : Step
  pub fate : Fate

-- from one world to another, one step after the other
abbrev pub Run : World → List Played → World → Type 0
Run w [] w' = w' ≡ w
Run w (m ∷ ms) w' = (mid : World) × Happens w m.step m.fate mid × Run mid ms w'

abbrev pub steps_of : List Played → List Step
steps_of [] = []
steps_of (m ∷ ms) = m.step ∷ steps_of ms

-- the frames that a step released
abbrev pub frames_released : Fate → List Frame
frames_released (Released i e acts outputs) = frames_in outputs
frames_released (Lost i e acts) = []
frames_released (Cut i) = []
frames_released (Faulted i fault) = []
frames_released (Was_down i) = []
frames_released (Restarted i homes) = []

-- the line of what goes to a client
abbrev pub client_line : ℕ → Output → List Line
client_line i (Send connection bytes) = lines.Sent i connection bytes ∷ []
client_line i (Close connection) = lines.Closed i connection ∷ []
client_line i (Release frame) = []

-- what goes to clients, in order
abbrev pub client_lines : ℕ → List Output → List Line
client_lines i outputs = flat_map (client_line i) outputs

-- frames under their numbers, of which so many are given
abbrev pub frame_lines : ℕ → List Frame → List Line
frame_lines given [] = []
frame_lines given (f ∷ fs) = lines.Frame (given + 1) f.from f.to f.kind ∷ frame_lines (given + 1) fs

-- the lines of a step, where so many frames were released before it
abbrev pub lines_of : ℕ → Fate → List Line
lines_of given (Released i e acts outputs) = client_lines i outputs ++ frame_lines given (frames_in outputs)
lines_of given (Lost i e acts) = lines.Crash i ∷ []
lines_of given (Cut i) = lines.Crash i ∷ []
lines_of given (Faulted i fault) = lines.Fault i fault ∷ []
lines_of given (Was_down i) = lines.Down i ∷ []
lines_of given (Restarted i homes) = []

-- the lines of a run
abbrev pub printed : ℕ → List Played → List Line
printed given [] = []
printed given (m ∷ ms) = lines_of given m.fate ++ printed (given + length (frames_released m.fate)) ms

-- a frame that an event brings was released before
abbrev pub IsKnown : List Frame → EventKind → Type 0
IsKnown sent kinds.Started = Unit {0}
IsKnown sent (kinds.Opened connection) = Unit {0}
IsKnown sent (kinds.Piece connection bytes) = Unit {0}
IsKnown sent (kinds.Closed connection) = Unit {0}
IsKnown sent (kinds.Room connection bytes) = Unit {0}
IsKnown sent (kinds.Frame bytes) = (n : ℕ) × (frame : Frame) × (slice_get sent n ≡ Some frame) × (bytes ≡ frame.bytes)
IsKnown sent (kinds.Linked peer) = Unit {0}
IsKnown sent (kinds.Ship peer) = Unit {0}
IsKnown sent (kinds.More peer after) = Unit {0}
IsKnown sent kinds.Tick = Unit {0}
IsKnown sent (kinds.Evict client) = Unit {0}
IsKnown sent (kinds.Table homes) = Unit {0}

-- an event that brings no frame
abbrev pub BringsNone : EventKind → Type 0
BringsNone kinds.Started = Unit {0}
BringsNone (kinds.Opened connection) = Unit {0}
BringsNone (kinds.Piece connection bytes) = Unit {0}
BringsNone (kinds.Closed connection) = Unit {0}
BringsNone (kinds.Room connection bytes) = Unit {0}
BringsNone (kinds.Frame bytes) = ⊥
BringsNone (kinds.Linked peer) = Unit {0}
BringsNone (kinds.Ship peer) = Unit {0}
BringsNone (kinds.More peer after) = Unit {0}
BringsNone kinds.Tick = Unit {0}
BringsNone (kinds.Evict client) = Unit {0}
BringsNone (kinds.Table homes) = Unit {0}

-- a step that brings no frame of its own: a delivery brings one that was released, and a crash before an event none
abbrev pub BringsNoFrame : Step → Type 0
BringsNoFrame (steps.Event i e) = BringsNone e.kind
BringsNoFrame (steps.Deliver number at) = Unit {0}
BringsNoFrame (steps.CrashBefore i e) = Unit {0}
BringsNoFrame (steps.CrashAfter i e) = BringsNone e.kind
BringsNoFrame (steps.Restart i) = Unit {0}

abbrev pub IsHonestStep : List Frame → Step → Type 0
IsHonestStep sent (steps.Event i e) = IsKnown sent e.kind
IsHonestStep sent (steps.Deliver number at) = Unit {0}
IsHonestStep sent (steps.CrashBefore i e) = Unit {0}
IsHonestStep sent (steps.CrashAfter i e) = IsKnown sent e.kind
IsHonestStep sent (steps.Restart i) = Unit {0}

-- no frame is forged
abbrev pub IsHonest : List Frame → List Played → Type 0
IsHonest sent [] = Unit {0}
IsHonest sent (m ∷ ms) = IsHonestStep sent m.step × IsHonest (sent ++ frames_released m.fate) ms
