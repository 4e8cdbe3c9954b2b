-- That a message whose deadline has passed goes no further (MQTT 5.0, 3.3.2.3.3).
use Rattle.std.specs.Prelude.{◌≡◌, ℕ, List, ◌∷◌, ◌++◌, Some}
use Rattle.bridge_routes.specs.declared.plain.PlainCopy.{PlainCopy as Copy}
use Rattle.bridge_routes.specs.declared.destinations.Route.{Route}
use Rattle.mqtt_message.specs.declared.message.Message.{Message}
use Rattle.mqtt_message.specs.Expiry.{IsBefore}
use Rattle.node_work.specs.Acts.{Act, Passed, Runs}
use Rattle.node_work.specs.View.{Place, HeldView}
use Rattle.broker_node.specs.declared.event.Event.{Event}
use Rattle.broker_node.specs.Turns.{Decides}

-- in every step: where a message is passed on, and so its copies and what goes to other nodes are made, its deadline hasn't come at the node's
-- moment, if it has one
abbrev pub ExpiredGoNoFurther : Type 0
ExpiredGoNoFurther =
    (e : Event) (p : Place) (h held : HeldView) (acts : List Act) → Decides e (Some tt) p h acts
    → (before after : List Act) (m : Message) (copies : List Copy) (lost : ℕ) (routes : List (ℕ × Route)) → acts ≡ before ++ Passed m copies lost routes ∷ after → Runs p h before held → IsBefore held.at m.deadline
