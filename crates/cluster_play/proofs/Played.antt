-- Steps that are played, one after the other.
use Rattle.std.proofs.Common.{◌≡◌, ◌<◌, ◌+◌, ℕ, zero, suc, List, [], ◌∷◌, ◌++◌, ◌⊎◌, inl, inr, refl, sym, ap, ◌∙◌, append_assoc, take, drop, get_or, length, length-append, subst, arith}
use Rattle.std.proofs.lemmas.List.{append-nil, take_more}
use denote.Enum.Bare.{sameb}
use Rattle.cluster_play.specs.contracts.fault.PlayFault.{the_type}
use Rattle.cluster_play.specs.declared.cluster.Cluster.{Cluster}
use Rattle.cluster_play.specs.declared.fault.PlayFault.{PlayFault}
use Rattle.cluster_play.specs.declared.fault.PlayFault.TheVariants.{BadTables, UnknownNode, UnknownFrame, NoMemory, Spent}
use Rattle.cluster_play.specs.declared.line.Line.{Line}
use Rattle.cluster_play.specs.declared.step.Step.{Step}
use Rattle.cluster_play.specs.declared.step.Step.TheVariants as steps
use Rattle.cluster_play.specs.Clusters.{world, is_spent}
use Rattle.cluster_play.specs.Playing.{IsPlayed, StopsAt, StopsShort, MemoryRunsOut, IsRefused, IsDoneStep}
use Rattle.cluster_play.specs.Runs.{Played, Run, steps_of, frames_released, lines_of, printed}
use Rattle.cluster_play.specs.Worlds.{World, Lacks}
use Rattle.cluster_play.proofs.Paths.{run_join, step_frames}

steps_more : (run : List Played) (m : Played) → steps_of (run ++ m ∷ []) ≡ steps_of run ++ m.step ∷ []
steps_more [] m = refl
steps_more (n ∷ run) m = ap (λ ss. n.step ∷ ss) (steps_more run m)

printed_more : (run : List Played) (m : Played) (w mid : World) → Run w run mid → printed (length w.frames) (run ++ m ∷ []) ≡ printed (length w.frames) run ++ lines_of (length mid.frames) m.fate
printed_more [] m w mid r = append-nil (lines_of (length w.frames) m.fate) ∙ ap (λ (v : World). lines_of (length v.frames) m.fate) (sym r)
printed_more (n ∷ run) m w mid r =
    let given : length w.frames + length (frames_released n.fate) ≡ length r.0.frames = sym (ap length (step_frames w n.step n.fate r.0 r.1) ∙ length-append w.frames (frames_released n.fate)) in
    let later : printed (length w.frames + length (frames_released n.fate)) (run ++ m ∷ []) ≡ printed (length w.frames + length (frames_released n.fate)) run ++ lines_of (length mid.frames) m.fate =
    subst (λ k. printed k (run ++ m ∷ []) ≡ printed k run ++ lines_of (length mid.frames) m.fate) (sym given) (printed_more run m r.0 mid r.2) in
    ap (λ ls. lines_of (length w.frames) n.fate ++ ls) later ∙ sym (append_assoc (lines_of (length w.frames) n.fate) (printed (length w.frames + length (frames_released n.fate)) run) (lines_of (length mid.frames) m.fate))

-- one more step is played
pub play_more : (w mid w' : World) (steps : List Step) (k : ℕ) (step : Step) (lines lines' : List Line) → k < length steps → step ≡ get_or steps k step
    → IsPlayed w (take k steps) lines mid → IsDoneStep mid step lines lines' w' → IsPlayed w (take (k + 1) steps) lines' w'
play_more w mid w' steps k step lines lines' lt is before h =
    let m : Played = record { step = step; fate = h.0 } in (
      before.0 ++ m ∷ [],
      steps_more before.0 m ∙ ap (λ ss. ss ++ step ∷ []) before.1 ∙ sym (take_more steps k step lt ∙ ap (λ s. take k steps ++ s ∷ []) (sym is)),
      run_join before.0 (m ∷ []) w mid w' before.2 (w', h.1, refl),
      h.2 ∙ ap (λ ls. ls ++ lines_of (length mid.frames) h.0) before.3 ∙ sym (printed_more before.0 m w mid before.2),
    )

parts : (steps : List Step) (k : ℕ) (step : Step) → k < length steps → step ≡ get_or steps k step → steps ≡ take k steps ++ step ∷ drop (k + 1) steps
parts [] k step lt is = absurd (omega arith)
parts (s ∷ ss) zero step lt is = ap (λ x. x ∷ ss) (sym is)
parts (s ∷ ss) (suc k) step lt is =
    let e : suc (k + 1) ≡ suc k + 1 = omega arith in
    subst (λ n. s ∷ ss ≡ take (suc k) (s ∷ ss) ++ step ∷ drop n (s ∷ ss)) e (ap (λ xs. s ∷ xs) (parts ss k step (omega arith) is))

-- the step can't be played
stops : (w mid : World) (steps : List Step) (k : ℕ) (step : Step) (lines : List Line) (fault : PlayFault) → k < length steps → step ≡ get_or steps k step
    → IsPlayed w (take k steps) lines mid → Lacks mid step fault → StopsAt w steps fault mid
stops w mid steps k step lines fault lt is before lacks =
    (before.0, step, drop (k + 1) steps, parts steps k step lt is ∙ ap (λ ss. ss ++ step ∷ drop (k + 1) steps) (sym before.1), before.2, lacks)

-- memory is refused at the step
short : (w mid w' : World) (steps : List Step) (k : ℕ) (step : Step) (lines : List Line) → k < length steps → step ≡ get_or steps k step
    → IsPlayed w (take k steps) lines mid → MemoryRunsOut mid step w' → StopsShort w steps w'
short w mid w' steps k step lines lt is before out =
    (before.0, step, drop (k + 1) steps, mid, parts steps k step lt is ∙ ap (λ ss. ss ++ step ∷ drop (k + 1) steps) (sym before.1), before.2, out)

lacks_memory : {P : Type 0} (w : World) (step : Step) → Lacks w step NoMemory → P
lacks_memory w (steps.Event i e) h = let no = h.0 in cc
lacks_memory w (steps.Deliver number at) (inl h) = let no = h.0 in cc
lacks_memory w (steps.Deliver number at) (inr h) = let no = h.2.0 in cc
lacks_memory w (steps.CrashBefore i e) h = let no = h.0 in cc
lacks_memory w (steps.CrashAfter i e) h = let no = h.0 in cc
lacks_memory w (steps.Restart i) h = let no = h.0 in cc

lacks_tables : {P : Type 0} (w : World) (step : Step) → Lacks w step BadTables → P
lacks_tables w (steps.Event i e) h = let no = h.0 in cc
lacks_tables w (steps.Deliver number at) (inl h) = let no = h.0 in cc
lacks_tables w (steps.Deliver number at) (inr h) = let no = h.2.0 in cc
lacks_tables w (steps.CrashBefore i e) h = let no = h.0 in cc
lacks_tables w (steps.CrashAfter i e) h = let no = h.0 in cc
lacks_tables w (steps.Restart i) h = let no = h.0 in cc

lacks_spent : {P : Type 0} (w : World) (step : Step) → Lacks w step Spent → P
lacks_spent w (steps.Event i e) h = let no = h.0 in cc
lacks_spent w (steps.Deliver number at) (inl h) = let no = h.0 in cc
lacks_spent w (steps.Deliver number at) (inr h) = let no = h.2.0 in cc
lacks_spent w (steps.CrashBefore i e) h = let no = h.0 in cc
lacks_spent w (steps.CrashAfter i e) h = let no = h.0 in cc
lacks_spent w (steps.Restart i) h = let no = h.0 in cc

pub refused : (c c' : Cluster) (mid : World) (steps : List Step) (k : ℕ) (step : Step) (lines : List Line) (fault : PlayFault) → k < length steps → step ≡ get_or steps k step
    → IsPlayed (world c) (take k steps) lines mid → ((fault ≡ NoMemory) × MemoryRunsOut mid step (world c')) ⊎ (Lacks mid step fault × (world c' ≡ mid)) → is_spent c' ≡ sameb the_type fault NoMemory → IsRefused c steps fault c'
refused c c' mid steps k step lines BadTables lt is before (inl e) spent = let no = e.0 in cc
refused c c' mid steps k step lines UnknownNode lt is before (inl e) spent = let no = e.0 in cc
refused c c' mid steps k step lines UnknownFrame lt is before (inl e) spent = let no = e.0 in cc
refused c c' mid steps k step lines NoMemory lt is before (inl e) spent = (short (world c) mid (world c') steps k step lines lt is before e.1, spent)
refused c c' mid steps k step lines Spent lt is before (inl e) spent = let no = e.0 in cc
refused c c' mid steps k step lines BadTables lt is before (inr h) spent = lacks_tables mid step h.0
refused c c' mid steps k step lines UnknownNode lt is before (inr h) spent = (subst (StopsAt (world c) steps UnknownNode) (sym h.1) (stops (world c) mid steps k step lines UnknownNode lt is before h.0), spent)
refused c c' mid steps k step lines UnknownFrame lt is before (inr h) spent = (subst (StopsAt (world c) steps UnknownFrame) (sym h.1) (stops (world c) mid steps k step lines UnknownFrame lt is before h.0), spent)
refused c c' mid steps k step lines NoMemory lt is before (inr h) spent = lacks_memory mid step h.0
refused c c' mid steps k step lines Spent lt is before (inr h) spent = lacks_spent mid step h.0
