-- Runs that go on.
use Rattle.std.proofs.Common.{◌≡◌, List, [], ◌++◌, ◌∷◌, length, refl, sym, subst}
use Rattle.std.specs.List.{AllByRecursion}
use Rattle.broker_node.specs.declared.event.EventKind.{EventKind}
use Rattle.broker_node.specs.declared.event.EventKind.TheVariants as kinds
use Rattle.node_work.specs.declared.frame.Frame.{Frame}
use Rattle.cluster_play.specs.declared.line.Line.{Line}
use Rattle.cluster_play.specs.declared.step.Step.{Step}
use Rattle.cluster_play.specs.declared.step.Step.TheVariants as steps
use Rattle.cluster_play.specs.Worlds.{World}
use Rattle.cluster_play.specs.Runs.{Played, Run, steps_of, frames_released, printed, IsKnown, BringsNone, BringsNoFrame, IsHonestStep, IsHonest}
use Rattle.cluster_play.specs.Histories.{IsStart, Reached}
use Rattle.cluster_play.specs.Playing.{IsPlayed}
use Rattle.cluster_play.proofs.Paths.{run_join, step_frames}

honest_join : (ms ns : List Played) (w mid : World) → Run w ms mid → IsHonest w.frames ms → IsHonest mid.frames ns → IsHonest w.frames (ms ++ ns)
honest_join [] ns w mid r h k = subst (λ (v : World). IsHonest v.frames ns) r k
honest_join (m ∷ ms) ns w mid r h k =
    let frames = step_frames w m.step m.fate r.0 r.1 in
    (h.0, subst (λ fs. IsHonest fs (ms ++ ns)) frames (honest_join ms ns r.0 mid r.2 (subst (λ fs. IsHonest fs ms) (sym frames) h.1) k))

pub start_is_reached : (w : World) → IsStart w → Reached [] w
start_is_reached w s = record { start = w; is_start = s; path = refl; honest = tt }

pub goes_on : (ms ns : List Played) (w w' : World) → Reached ms w → Run w ns w' → IsHonest w.frames ns → Reached (ms ++ ns) w'
goes_on ms ns w w' r path honest = record {
  start = r.start;
  is_start = r.is_start;
  path = run_join ms ns r.start w w' r.path path;
  honest = subst (λ fs. IsHonest fs (ms ++ ns)) r.is_start.frames (honest_join ms ns r.start w r.path (subst (λ fs. IsHonest fs ms) (sym r.is_start.frames) r.honest) honest);
}

known_free : (sent : List Frame) (e : EventKind) → BringsNone e → IsKnown sent e
known_free sent kinds.Started h = tt
known_free sent (kinds.Opened c) h = tt
known_free sent (kinds.Piece c bytes) h = tt
known_free sent (kinds.Closed c) h = tt
known_free sent (kinds.Room c bytes) h = tt
known_free sent (kinds.Frame bytes) h = absurd h
known_free sent (kinds.Linked peer) h = tt
known_free sent (kinds.Ship peer) h = tt
known_free sent (kinds.More peer after) h = tt
known_free sent kinds.Tick h = tt
known_free sent (kinds.Evict client) h = tt
known_free sent (kinds.Table homes) h = tt

honest_step : (sent : List Frame) (step : Step) → BringsNoFrame step → IsHonestStep sent step
honest_step sent (steps.Event i e) h = known_free sent e.kind h
honest_step sent (steps.Deliver number at) h = tt
honest_step sent (steps.CrashBefore i e) h = tt
honest_step sent (steps.CrashAfter i e) h = known_free sent e.kind h
honest_step sent (steps.Restart i) h = tt

pub honest_free : (sent : List Frame) (run : List Played) → AllByRecursion BringsNoFrame (steps_of run) → IsHonest sent run
honest_free sent [] h = tt
honest_free sent (m ∷ run) h = (honest_step sent m.step h.0, honest_free (sent ++ frames_released m.fate) run h.1)

pub played_is_reached : (run : List Played) (w w' : World) (steps : List Step) (lines : List Line) → Reached run w → AllByRecursion BringsNoFrame steps → IsPlayed w steps lines w'
    → (more : List Played) × (steps_of more ≡ steps) × Reached (run ++ more) w' × (lines ≡ printed (length w.frames) more)
played_is_reached run w w' steps lines r free p =
    (p.0, p.1, goes_on run p.0 w w' r p.2 (honest_free w.frames p.0 (subst (AllByRecursion BringsNoFrame) (sym p.1) free)), p.3)
