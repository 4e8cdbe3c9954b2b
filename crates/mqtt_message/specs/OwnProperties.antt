-- The properties that belong to an application message, and go with it from its publisher to its receivers
-- (MQTT 5.0, 3.3.2.3).
use Rattle.std.specs.Prelude.{ℕ, ◌==◌, ◌||◌, ◌&&◌, Bool, List, filter, IsTrue}
use Rattle.std.specs.List.{list_all}
use Rattle.mqtt_fields.specs.declared.value.Property.{Property}
use Rattle.mqtt_fields.specs.declared.table.Place.{Place}
use Rattle.mqtt_fields.specs.declared.table.Place.TheVariants as places
use Rattle.mqtt_fields.specs.Block.{properties}
use Rattle.mqtt_packets.specs.Values.{is_valid_property, are_valid}

-- Payload Format Indicator, Content Type, Response Topic, Correlation Data and User Property
abbrev pub is_own_id : ℕ → Bool
is_own_id id = (id == 1) || ((id == 3) || ((id == 8) || ((id == 9) || (id == 38))))

abbrev pub is_own : Property → Bool
is_own p = is_own_id p.id

-- those of a list, in its order
abbrev pub own : List Property → List Property
own ps = filter is_own ps

-- properties that a packet may have at this place
pub record IsAllowed (place : Place) (ps : List Property) : Type 0 where
  pub fits : (properties place).Fits ps
  pub valid : IsTrue (are_valid ps)

abbrev pub is_allowed_own : Property → Bool
is_allowed_own p = is_own p && is_valid_property p

-- a message's properties: those of a PUBLISH, and no others than its own
pub record AreOwn (ps : List Property) : Type 0 where
  pub fits : (properties places.Publish).Fits ps
  pub each : IsTrue (list_all is_allowed_own ps)
