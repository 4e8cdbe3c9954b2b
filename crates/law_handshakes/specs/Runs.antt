-- Lists of calls, each with its answer.
use Rattle.std.specs.Prelude.{◌≡◌, ℕ, List, [], ◌∷◌, Option}
use Rattle.qos_handshakes.specs.declared.answers.Offer.{Offer}
use Rattle.qos_handshakes.specs.declared.answers.Ack.{Ack}
use Rattle.qos_handshakes.specs.declared.answers.Rec.{Rec}
use Rattle.mqtt_message.specs.declared.delivery.Delivery.{Delivery}
use Rattle.qos_handshakes.specs.Outbox.{Outbox, Sent, OfferStep, AcknowledgeStep, CompleteStep, ReceivedStep, ResumeStep, ReleasesStep, LostStep, NextStep}

-- one call, with its answer; `asked` is `next`, `listed` is `releases`
pub data Step : Type 0 where
  offered : Delivery → Offer → Step
  acknowledged : ℕ → Ack → Step
  completed : ℕ → Ack → Step
  received : ℕ → ℕ → Rec → Step
  resumed : ℕ → Step
  listed : List ℕ → Step
  asked : ℕ → ℕ → Option Sent → Step
  lost : Step

-- what holds before such a call and after it
abbrev pub Takes : Outbox → Step → Outbox → Type 0
Takes old (offered c answer) new = OfferStep old c answer new
Takes old (acknowledged id answer) new = AcknowledgeStep old id answer new
Takes old (completed id answer) new = CompleteStep old id answer new
Takes old (received id reason answer) new = ReceivedStep old id reason answer new
Takes old (resumed maximum) new = ResumeStep old maximum new
Takes old (listed ids) new = ReleasesStep old ids new
Takes old (asked now limit answer) new = NextStep now limit old answer new
Takes old lost new = LostStep old new

-- calls one after the other
abbrev pub Run : Outbox → List Step → Outbox → Type 0
Run old [] new = new ≡ old
Run old (step ∷ steps) new = (mid : Outbox) × Takes old step mid × Run mid steps new
