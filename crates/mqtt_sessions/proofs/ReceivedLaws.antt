-- What the code answers to a PUBREC, as steps.
use Rattle.std.proofs.Common.{◌≡◌, ◌∙◌, true, ℕ, ◌<◌, ◌≤◌, List, [], ◌++◌, Result, Ok, Err, None, ap, sym, subst, inl, inr}
use Rattle.std.specs.Prelude.{IfErr, IfOk, OnErr}
use Rattle.qos_handshakes.specs.declared.answers.Rec.TheVariants as rec
use Rattle.qos_handshakes.specs.Outbox.{Outbox, ReceivedStep, Sent}
use Rattle.mqtt_sessions.specs.declared.reaction.Output.{Output}
use Rattle.mqtt_sessions.specs.declared.fault.SessionFault.{SessionFault}
use Rattle.mqtt_sessions.specs.declared.fault.SessionFault.TheVariants.{NoMemory as OutOfMemory}
use Rattle.mqtt_sessions.specs.Called.{IsFault}
use Rattle.mqtt_sessions.specs.Answers.{pubrel}
use Rattle.mqtt_sessions.specs.Packets.{PubrecStep, PubrecWants}
use Rattle.mqtt_sessions.specs.Reaction.{Reaction, Comes, answered, gives_out, nothing, publishes_of, says}
use Rattle.mqtt_sessions.specs.Sending.{Flushes}
use Rattle.mqtt_sessions.proofs.ArrivingLaws.{answer-fits}
use Rattle.mqtt_sessions.specs.State.{State, sent_from, with_outbox}

module _ (id reason now limit : ℕ) (s : State) (mid : Outbox) where
  pub released : (result : Result Reaction SessionFault) (new : State) → ReceivedStep s.outbox id reason rec.Release mid → IfOk result (λ r. Comes (answered limit (pubrel id 0) None (with_outbox s mid)) r new)
      → IfOk result (λ r. PubrecStep id reason now limit s r new)
  released (Ok r) new takes comes = record { answer = rec.Release; mid = mid; takes = takes; goes_on = comes }
  released (Err e) new takes comes = comes

  pub unknown : (result : Result Reaction SessionFault) (new : State) → reason < 128 → ReceivedStep s.outbox id reason rec.Unknown mid → IfOk result (λ r. Comes (answered limit (pubrel id 146) None (with_outbox s mid)) r new)
      → IfOk result (λ r. PubrecStep id reason now limit s r new)
  unknown (Ok r) new below takes comes = record { answer = rec.Unknown; mid = mid; takes = takes; goes_on = inl (below, comes) }
  unknown (Err e) new below takes comes = comes

  pub ignored : (r : Reaction) (new : State) → 128 ≤ reason → ReceivedStep s.outbox id reason rec.Unknown mid → r ≡ nothing → new ≡ with_outbox s mid → PubrecStep id reason now limit s r new
  ignored r new above takes is left = record { answer = rec.Unknown; mid = mid; takes = takes; goes_on = inr (above, is, left) }

  pub ends : (r : Reaction) (new : State) (before packets : List Output) → ReceivedStep s.outbox id reason rec.Ended mid
      → (sents : List Sent) × (after : Outbox) × Flushes now limit s.room mid sents after × (packets ≡ before ++ publishes_of sents) × (new ≡ sent_from s after now sents) → before ≡ [] → r ≡ says packets → PubrecStep id reason now limit s r new
  ends r new before packets takes goes none is = record {
    answer = rec.Ended;
    mid = mid;
    takes = takes;
    goes_on = record { after = goes.1; sents = goes.0; flushes = goes.2; reacts = is ∙ ap says (rw none at goes.3); left = goes.4 };
  }

  -- where it wants memory
  wants-fault : (result : Result Reaction SessionFault) (Ends : Type 0) → IfErr result (λ e. e ≡ OutOfMemory) → OnErr result (PubrecWants id reason limit s) → IfErr result (λ e. IsFault (PubrecWants id reason limit s) Ends e)
  wants-fault (Ok r) Ends is wants = tt
  wants-fault (Err e) Ends is wants = subst (λ (f : SessionFault). IsFault (PubrecWants id reason limit s) Ends f) (sym is) wants

  released-wants : (result : Result Reaction SessionFault) → ReceivedStep s.outbox id reason rec.Release mid → OnErr result (gives_out (answered limit (pubrel id 0) None (with_outbox s mid)).reaction ≡ true)
      → OnErr result (PubrecWants id reason limit s)
  released-wants (Ok r) takes given = tt
  released-wants (Err e) takes given = record { answer = rec.Release; mid = mid; takes = takes; wants = answer-fits limit (pubrel id 0) (with_outbox s mid) given }

  unknown-wants : (result : Result Reaction SessionFault) → reason < 128 → ReceivedStep s.outbox id reason rec.Unknown mid → OnErr result (gives_out (answered limit (pubrel id 146) None (with_outbox s mid)).reaction ≡ true)
      → OnErr result (PubrecWants id reason limit s)
  unknown-wants (Ok r) below takes given = tt
  unknown-wants (Err e) below takes given = record { answer = rec.Unknown; mid = mid; takes = takes; wants = (below, answer-fits limit (pubrel id 146) (with_outbox s mid) given) }

  pub released-fault : (result : Result Reaction SessionFault) (Ends : Type 0) → ReceivedStep s.outbox id reason rec.Release mid → IfErr result (λ e. e ≡ OutOfMemory)
      → OnErr result (gives_out (answered limit (pubrel id 0) None (with_outbox s mid)).reaction ≡ true) → IfErr result (λ e. IsFault (PubrecWants id reason limit s) Ends e)
  released-fault result Ends takes is given = wants-fault result Ends is (released-wants result takes given)

  pub unknown-fault : (result : Result Reaction SessionFault) (Ends : Type 0) → reason < 128 → ReceivedStep s.outbox id reason rec.Unknown mid → IfErr result (λ e. e ≡ OutOfMemory)
      → OnErr result (gives_out (answered limit (pubrel id 146) None (with_outbox s mid)).reaction ≡ true) → IfErr result (λ e. IsFault (PubrecWants id reason limit s) Ends e)
  unknown-fault result Ends below takes is given = wants-fault result Ends is (unknown-wants result below takes given)
