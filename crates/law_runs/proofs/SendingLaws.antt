-- What goes out is of calls.
use Rattle.std.proofs.Common.{◌⊎◌, inl, inr, ℕ, List, ◌∷◌, subst}
use Rattle.node_work.specs.declared.outcome.Output.{Output}
use Rattle.node_work.specs.declared.outcome.Output.TheVariants.{Send}
use Rattle.node_work.specs.Acts.{Act}
use Rattle.broker_node.specs.declared.event.Event.{Event}
use Rattle.law_runs.specs.StepSending.{IsIn, IsOwnPacket, SentAmong}
use Rattle.law_runs.proofs.StepSendingLaws.{sends_are_of_calls}
use Rattle.cluster_play.specs.Worlds.{Site, World, Fate, Released, Lost, Cut, Faulted, Was_down, Restarted, TakesEvent, Becomes}
use Rattle.cluster_play.specs.Runs.{Played}
use Rattle.cluster_play.specs.Histories.{acts_of, outputs_of}
use Rattle.cluster_play.proofs.Paths.{befell, midway}
use Rattle.law_runs.specs.Sending.{CallSends, OutputsAreOfCalls}

-- of a step that a node took
taken : (s s' : Site) (e : Event) (acts : List Act) (outputs : List Output) (connection : ℕ) (bytes : List ℕ) → TakesEvent s e acts outputs s' → IsIn (Send connection bytes) outputs → SentAmong acts connection bytes ⊎ IsOwnPacket bytes
taken s s' e acts outputs connection bytes t i =
    let d = t.commits.done in
    subst (λ xs. SentAmong xs connection bytes ⊎ IsOwnPacket bytes) t.does
    (sends_are_of_calls e s.node.place d.before d.acts d.steps.does connection bytes (subst (IsIn (Send connection bytes)) d.steps.given i))

by_fate : (w : World) (j : ℕ) (s : Site) (fate : Fate) (w' : World) (connection : ℕ) (bytes : List ℕ) → Becomes w j s fate w' → IsIn (Send connection bytes) (outputs_of fate) → SentAmong (acts_of fate) connection bytes ⊎ IsOwnPacket bytes
by_fate w j s (Released k e acts outputs) w' connection bytes b i = taken s b.1.0 e acts outputs connection bytes b.1.1 i
by_fate w j s (Lost k e acts) w' connection bytes b i = absurd i
by_fate w j s (Cut k) w' connection bytes b i = absurd i
by_fate w j s (Faulted k fault) w' connection bytes b i = absurd i
by_fate w j s (Was_down k) w' connection bytes b i = absurd i
by_fate w j s (Restarted k homes) w' connection bytes b i = absurd i

called : (m : Played) (connection : ℕ) (bytes : List ℕ) → SentAmong (acts_of m.fate) connection bytes ⊎ IsOwnPacket bytes → CallSends m connection bytes ⊎ IsOwnPacket bytes
called m connection bytes (inl s) = inl (record { before = s.before; call = record { step = s.step; after = s.after; acts = s.acts_are }; sent = s.sent })
called m connection bytes (inr own) = inr own

pub outputs_are_of_calls : OutputsAreOfCalls
outputs_are_of_calls = λ run later m w r connection bytes i. (
    let half = midway run (m ∷ later) w r in
    let b = befell half.mid m.step m.fate half.path.0 half.path.1 in
    called m connection bytes (by_fate half.mid b.i b.was m.fate half.path.0 connection bytes b.becomes i))
