-- What a node holds amid its acts.
use Rattle.std.specs.Prelude.{ℕ, List, ◌∷◌, ◌++◌}
use Rattle.bridge_routes.specs.declared.plain.PlainCopy.{PlainCopy as Copy}
use Rattle.bridge_routes.specs.declared.destinations.Route.{Route}
use Rattle.mqtt_message.specs.declared.delivery.Delivery.{Delivery}
use Rattle.mqtt_message.specs.declared.message.Message.{Message}
use Rattle.node_work.specs.declared.granted.Granted.{Granted}
use Rattle.node_work.specs.Acts.{Act, Acknowledged, Passed, Runs, AreAnswers}
use Rattle.node_work.specs.Passing.{IsPassed}
use Rattle.node_work.specs.View.{Place, HeldView}

abbrev pub PassedAreCopies : Type 0
PassedAreCopies =
    (p : Place) (h h' : HeldView) (before after : List Act) (m : Message) (copies : List Copy) (lost : ℕ) (routes : List (ℕ × Route))
    → Runs p h (before ++ Passed m copies lost routes ∷ after) h' → (mid : HeldView) × Runs p h before mid × IsPassed p mid m copies lost routes

abbrev pub AcknowledgedAreAnswers : Type 0
AcknowledgedAreAnswers =
    (p : Place) (h h' : HeldView) (before after : List Act) (client : List ℕ) (packet at : ℕ) (grants : List Granted) (offers : List Delivery)
    → Runs p h (before ++ Acknowledged client packet at grants offers ∷ after) h'
    → (mid : HeldView) × Runs p h before mid × AreAnswers mid at grants offers
