-- How runs begin, go on and are played.
use Rattle.std.specs.Prelude.{◌≡◌, ℕ, ◌++◌, List, [], Some, length}
use Rattle.std.specs.List.{AllByRecursion}
use Rattle.node_work.specs.declared.frame.Frame.{Frame}
use Rattle.cluster_play.specs.declared.fault.PlayFault.{PlayFault}
use Rattle.cluster_play.specs.declared.line.Line.{Line}
use Rattle.cluster_play.specs.declared.step.Step.{Step}
use Rattle.cluster_play.specs.Worlds.{World, Fate, Happens, Lacks, nth_from_one}
use Rattle.cluster_play.specs.Runs.{Played, Run, BringsNoFrame, IsHonest, steps_of, printed}
use Rattle.cluster_play.specs.Histories.{IsStart, Reached}
use Rattle.cluster_play.specs.Playing.{IsPlayed}

-- a frame keeps its number
abbrev pub FramesStay : Type 0
FramesStay = (run : List Played) (w w' : World) → Run w run w' → (number : ℕ) (f : Frame) → nth_from_one w.frames number ≡ Some f → nth_from_one w'.frames number ≡ Some f

-- a run goes on where another ends
abbrev pub RunsCompose : Type 0
RunsCompose = (ms ns : List Played) (w mid w' : World) → Run w ms mid → Run mid ns w' → Run w (ms ++ ns) w'

-- new nodes without a frame are reached
abbrev pub StartIsReached : Type 0
StartIsReached = (w : World) → IsStart w → Reached [] w

-- a world that is reached stays so after an honest run
abbrev pub RunsGoOn : Type 0
RunsGoOn = (ms ns : List Played) (w w' : World) → Reached ms w → Run w ns w' → IsHonest w.frames ns → Reached (ms ++ ns) w'

-- steps that bring no frame of their own forge none
abbrev pub FramelessStepsAreHonest : Type 0
FramelessStepsAreHonest = (sent : List Frame) (run : List Played) → AllByRecursion BringsNoFrame (steps_of run) → IsHonest sent run

-- so a world that is reached stays so when such steps are played, one by one or several at a time
abbrev pub PlayedIsReached : Type 0
PlayedIsReached =
    (run : List Played) (w w' : World) (steps : List Step) (lines : List Line) → Reached run w → AllByRecursion BringsNoFrame steps → IsPlayed w steps lines w'
    → (more : List Played) × (steps_of more ≡ steps) × Reached (run ++ more) w' × (lines ≡ printed (length w.frames) more)

-- a step that happens lacks nothing
abbrev pub LacksNothing : Type 0
LacksNothing = (w w' : World) (step : Step) (fate : Fate) (fault : PlayFault) → Happens w step fate w' → ¬ Lacks w step fault
