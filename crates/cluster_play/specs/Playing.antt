-- What playing steps comes to.
use Rattle.std.specs.Prelude.{◌≡◌, ◌⊎◌, ℕ, true, false, ◌++◌, List, ◌∷◌, length}
use Rattle.broker_node.specs.declared.event.Event.{Event}
use Rattle.node_work.specs.declared.outcome.Output.{Output}
use Rattle.node_work.specs.Acts.{Act}
use Rattle.cluster_play.specs.declared.cluster.Cluster.{Cluster}
use Rattle.cluster_play.specs.declared.fault.PlayFault.{PlayFault}
use Rattle.cluster_play.specs.declared.fault.PlayFault.TheVariants.{BadTables, UnknownNode, UnknownFrame, NoMemory, Spent}
use Rattle.cluster_play.specs.declared.line.Line.{Line}
use Rattle.cluster_play.specs.declared.step.Step.{Step}
use Rattle.cluster_play.specs.Clusters.{world, is_spent}
use Rattle.cluster_play.specs.Worlds.{Site, World, Fate, Released, Befalls, Happens, Lacks}
use Rattle.cluster_play.specs.Runs.{Played, Run, steps_of, lines_of, printed}

-- there is a run over exactly these steps, and these are its lines
abbrev pub IsPlayed : World → List Step → List Line → World → Type 0
IsPlayed w steps lines w' = (run : List Played) × (steps_of run ≡ steps) × Run w run w' × (lines ≡ printed (length w.frames) run)

-- there is a run over the steps before one that the world lacks something for
abbrev pub StopsAt : World → List Step → PlayFault → World → Type 0
StopsAt w steps fault w' = (run : List Played) × (step : Step) × (rest : List Step) × (steps ≡ steps_of run ++ step ∷ rest) × Run w run w' × Lacks w' step fault

-- memory was refused at a step: before anything happened, or for what its node gave out, which goes on
abbrev pub MemoryRunsOut : World → Step → World → Type 0
MemoryRunsOut w step w' =
    (w' ≡ w)
    ⊎ ((i : ℕ) × (e : Event) × (acts : List Act) × (outputs : List Output) × (done : World) × Happens w step (Released i e acts outputs) done × (w'.sites ≡ done.sites))

-- there is a run over the steps before one at which memory was refused
abbrev pub StopsShort : World → List Step → World → Type 0
StopsShort w steps w' =
    (run : List Played) × (step : Step) × (rest : List Step) × (mid : World) × (steps ≡ steps_of run ++ step ∷ rest) × Run w run mid × MemoryRunsOut mid step w'

-- why steps aren't played, and what that leaves
abbrev pub IsRefused : Cluster → List Step → PlayFault → Cluster → Type 0
IsRefused c steps BadTables c' = ⊥
IsRefused c steps UnknownNode c' = StopsAt (world c) steps UnknownNode (world c') × (is_spent c' ≡ false)
IsRefused c steps UnknownFrame c' = StopsAt (world c) steps UnknownFrame (world c') × (is_spent c' ≡ false)
IsRefused c steps NoMemory c' = StopsShort (world c) steps (world c') × (is_spent c' ≡ true)
IsRefused c steps Spent c' = (is_spent c ≡ true) × (c' ≡ c)

-- something that may come to these fates happened, with its lines
abbrev pub IsDoneAs : World → (Fate → World → Type 0) → List Line → List Line → World → Type 0
IsDoneAs w May lines lines' w' = (fate : Fate) × May fate w' × (lines' ≡ lines ++ lines_of (length w.frames) fate)

abbrev pub IsDoneAt : World → ℕ → (Site → Fate → Type 0) → List Line → List Line → World → Type 0
IsDoneAt w i Of = IsDoneAs w (Befalls w i Of)

abbrev pub IsDoneStep : World → Step → List Line → List Line → World → Type 0
IsDoneStep w step = IsDoneAs w (Happens w step)
