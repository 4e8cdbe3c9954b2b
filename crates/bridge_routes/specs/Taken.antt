-- What a message from another node makes for the members of shared groups that it picked (MQTT 5.0, 4.8.2).
use Rattle.std.specs.Prelude.{◌≡◌, List, [], ◌∷◌, Option, Some, None}
use Rattle.bridge_frames.specs.declared.pick.Pick.{Pick}
use Rattle.bridge_routes.specs.Copies.{AreLive, IsFor}
use Rattle.bridge_routes.specs.Deliveries.{copy_for}
use Rattle.bridge_routes.specs.declared.plain.PlainCopy.{PlainCopy}
use Rattle.mqtt_message.specs.declared.message.Message.{Message}
use Rattle.subscription_set.specs.Entries.{Entry}
use Rattle.subscription_set.specs.Standing.{Entries}

-- the client's subscription to the filter, which matches
abbrev pub IsPicked : Message → Pick → Entry → Type 0
IsPicked m p e = (e.client ≡ p.client) × (e.filter ≡ p.filter) × IsFor m e

-- its copy, unless the subscription is gone
abbrev pub copy_by : Message → Pick → List Entry → Option PlainCopy
copy_by m p [] = None
copy_by m p (e ∷ es) = Some (record { client = p.client; delivery = copy_for m (e ∷ es) })

abbrev pub IsPickedCopy : Entries → Message → Pick → Option PlainCopy → Type 0
IsPickedCopy live m p copy = (own : List Entry) × AreLive (IsPicked m p) live own × (copy ≡ copy_by m p own)
