-- Laws of every step are laws of every run.
use Rattle.std.proofs.Common.{◌≡◌, ℕ, Bool, true, false, cond, List, [], ◌∷◌, ◌++◌, Some, refl, sym, ap, ◌∙◌, append_assoc}
use Rattle.causal_context.specs.Dots.{Dot}
use Rattle.mqtt_message.specs.declared.message.Message.{Message}
use Rattle.replica_store.specs.declared.operation.Operation.TheVariants.{Put}
use Rattle.replica_store.specs.Stamps.{Stamp}
use Rattle.node_work.specs.Acts.{Act, Store, Session, Made}
use Rattle.node_work.specs.Held.Sessions.{Called}
use Rattle.node_work.specs.Passing.{content_given}
use Rattle.broker_node.specs.declared.event.Event.{Event}
use Rattle.law_runs.specs.StepPublishing.{AcceptsPublish, BeginsWithPassingOn}
use Rattle.law_runs.proofs.Passing.{accepted_is_passed_on}
use Rattle.cluster_play.specs.Worlds.{World}
use Rattle.cluster_play.specs.Runs.{Played}
use Rattle.cluster_play.specs.Histories.{Reached, acts_of, event_committed}
use Rattle.cluster_play.proofs.Paths.{midway}
use Rattle.cluster_play.proofs.Rows.{committed}
use Rattle.law_runs.specs.Publishing.{IsPassedOn, PutStays}
use Rattle.law_runs.specs.Staying.{CallsSession as Called_in}
use Rattle.law_runs.proofs.Staying.{called_at, stays_made}
use Rattle.law_steps.proofs.Frames.{frames_are_of_events}
use Rattle.law_runs.proofs.FirstConnect.{first_connect_is_answered}
use Rattle.law_steps.specs.Lifted.{IsStepOf, StepsOfRunsAreSteps, FramesOfRunsAreOfEvents, FirstConnectsOfRunsAreAnswered, PublishesArePassedOn}

step_of : (run later : List Played) (m : Played) (w : World) → Reached (run ++ m ∷ later) w → (e : Event) → event_committed m.fate ≡ Some e → IsStepOf run m e
step_of run later m w r e commits =
    let half = midway run (m ∷ later) w r in
    let c = committed half.mid m.step m.fate half.path.0 e half.path.1 commits in
    record { world = half.mid; reached = half.reached; held = c.before; holds = record { site = c.was; at = c.at; up = c.up }; last = c.after; does = c.steps.does; runs = c.steps.runs }

pub steps_of_runs_are_steps : StepsOfRunsAreSteps
steps_of_runs_are_steps = λ run later m w r e commits. step_of run later m w r e commits

pub frames_of_runs_are_of_events : FramesOfRunsAreOfEvents
frames_of_runs_are_of_events = λ run later m w r e commits. (let s = step_of run later m w r e commits in (s, frames_are_of_events e s.holds.site.node.place s.held s.last (acts_of m.fate) s.does s.runs))

pub first_connects_of_runs_are_answered : FirstConnectsOfRunsAreAnswered
first_connects_of_runs_are_answered = λ run later m w r e commits c piece kind.
    (let s = step_of run later m w r e commits in (s, λ started. first_connect_is_answered e s.holds.site.node.place s.held (acts_of m.fate) s.does c piece kind started))

module _ (run later : List Played) (m : Played) (w : World) (r : Reached (run ++ m ∷ later) w) (before : List Act) (k : Called_in m before) (x : Message) where
  put_by : (b : Bool) (xs : List Act) → cond b ((dot : Dot) × (stamp : Stamp) × (xs ≡ Store (Made (Put dot stamp (content_given x))) ∷ [])) (xs ≡ []) → (rest : List Act) → k.after ≡ xs ++ rest → b ≡ true → PutStays run later m w before k x
  put_by true xs d rest is so =
      let call = Session (Called k.step) in
      let a = Store (Made (Put d.0 d.1 (content_given x))) in
      let acts : acts_of m.fate ≡ (before ++ call ∷ []) ++ a ∷ rest = k.acts ∙ ap (λ zs. before ++ call ∷ zs) (is ∙ ap (λ zs. zs ++ rest) d.2) ∙ sym (append_assoc before (call ∷ []) (a ∷ rest)) in
      record { dot = d.0; stamp = d.1; made = stays_made run later m w r (before ++ call ∷ []) rest (Put d.0 d.1 (content_given x)) acts; follows = refl }
  put_by false xs d rest is so = absurd (let z : false ≡ true = so in cc)

  passed_on : AcceptsPublish k.step x → IsPassedOn run later m w before k x
  passed_on accepts =
      let here = called_at run later m w r before k in
      let f = here.finds in
      let passes : BeginsWithPassingOn x k.step.at f.held.bridge k.after =
      accepted_is_passed_on here.event f.there.holds.site.node.place f.there.held f.held (acts_of m.fate) here.decides before k.after k.step x k.acts f.there.runs accepts in
      record { world = f.world; reached = f.reached; held = f.held; there = f.there; passes = passes; put = put_by x.retain passes.puts passes.put passes.rest passes.is }

pub publishes_are_passed_on : PublishesArePassedOn
publishes_are_passed_on = λ run later m w r before k x accepts. passed_on run later m w r before k x accepts
