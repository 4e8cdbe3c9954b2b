-- The retained messages that a SUBSCRIBE asks for, on their way to the client (MQTT 5.0, 3.3.1.3 and 3.8.4).
use Rattle.std.specs.Prelude.{◌≡◌, ℕ, List, [], ◌∷◌, ◌++◌, map as map_list, Option, Some, None}
use Rattle.bridge_routes.specs.Deliveries.{offer_of}
use Rattle.mqtt_message.specs.declared.delivery.Delivery.{Delivery}
use Rattle.mqtt_message.specs.declared.message.Message.{Message}
use Rattle.replica_store.specs.declared.kept.Kept.{Kept}
use Rattle.replica_store.specs.Answers.{IsAnswer}
use Rattle.node_work.specs.declared.granted.Asked.{Asked}
use Rattle.node_work.specs.declared.granted.Granted.{Granted}

-- a filter that asks for them: the messages that answer it at the moment, in the order of their topics
abbrev pub IsOffered : ℕ → List (List ℕ × Kept) → Option Asked → List Delivery → Type 0
IsOffered at kept None offers = offers ≡ []
IsOffered at kept (Some a) offers = (messages : List Message) × IsAnswer a.filter at kept messages × (offers ≡ map_list (offer_of a.options a.identifiers) messages)

-- each filter in order
abbrev pub AreOffered : ℕ → List (List ℕ × Kept) → List Granted → List Delivery → Type 0
AreOffered at kept [] offers = offers ≡ []
AreOffered at kept (g ∷ gs) offers = (own : List Delivery) × (rest : List Delivery) × IsOffered at kept g.asked own × AreOffered at kept gs rest × (offers ≡ own ++ rest)
