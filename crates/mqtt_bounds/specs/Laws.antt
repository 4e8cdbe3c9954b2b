-- What holds of every packet.
use Rattle.std.specs.Prelude.{◌≡◌, ◌≤◌, ℕ, List, length, Bool, false, Option, Some, None}
use Rattle.std.specs.List.{AllByRecursion}
use Rattle.mqtt_fields.specs.Properties.{first_four}
use Rattle.mqtt_fields.specs.declared.value.Property.{Property}
use Rattle.mqtt_packets.specs.declared.packet.Packet.{Packet}
use Rattle.mqtt_packets.specs.declared.packet.Packet.TheVariants as packets
use Rattle.mqtt_packets.specs.declared.publish.Publish.{Publish}
use Rattle.mqtt_packets.specs.declared.subscribe.Subscribe.{Subscribe}
use Rattle.mqtt_packets.specs.declared.subscribe.SubscribeFilter.{SubscribeFilter}
use Rattle.mqtt_bounds.specs.Bounded.{bounded, user_properties}
use Rattle.mqtt_bounds.specs.Bounds.{levels}
use Rattle.mqtt_bounds.specs.declared.bounds.Bounds.{Bounds}
use Rattle.mqtt_bounds.specs.declared.verdict.Mend.{Mend}
use Rattle.mqtt_bounds.specs.declared.verdict.Verdict.TheVariants.{Goes, Becomes}

-- no more than may be
abbrev pub IsUpTo : Option ℕ → ℕ → Type 0
IsUpTo None count = Unit {0}
IsUpTo (Some most) count = count ≤ most

abbrev pub AreUpTo : Option ℕ → Option ℕ → Type 0
AreUpTo most None = Unit {0}
AreUpTo most (Some count) = IsUpTo most count

-- the Session Expiry Interval that they ask for isn't too long
abbrev pub ExpiresWithin : Bounds → List Property → Type 0
ExpiresWithin b ps = AreUpTo b.longest_expiry (first_four 17 ps)

-- there is room, and neither its user properties nor its levels are too many
pub record IsPublishWithin (b : Bounds) (full : Bool) (p : Publish) : Type 0 where
  pub room : full ≡ false
  pub properties : IsUpTo b.most_properties (user_properties p.properties)
  pub levels : IsUpTo b.most_levels (levels p.topic)

-- there is room, and neither its filters nor the levels of one are too many
pub record IsSubscribeWithin (b : Bounds) (full : Bool) (s : Subscribe) : Type 0 where
  pub room : full ≡ false
  pub filters : IsUpTo b.most_filters (length s.filters)
  pub levels : AllByRecursion (λ f. IsUpTo b.most_levels (levels f.filter)) s.filters

-- a packet breaks no limit
abbrev pub IsWithin : Bounds → Bool → Packet → Type 0
IsWithin b full (packets.Connect c) = ExpiresWithin b c.properties
IsWithin b full (packets.Publish p) = IsPublishWithin b full p
IsWithin b full (packets.Subscribe s) = IsSubscribeWithin b full s
IsWithin b full (packets.Disconnect e) = ExpiresWithin b e.properties
IsWithin b full p = Unit {0}

abbrev pub GoesWhereWithin : Type 0
GoesWhereWithin = (b : Bounds) (full : Bool) (p : Packet) → IsWithin b full p → (m : Mend) × (bounded b full p ≡ Goes m)

pub record OnlyWithinGoes : Type 0 where
  pub same : (b : Bounds) (full : Bool) (p : Packet) (m : Mend) → bounded b full p ≡ Goes m → IsWithin b full p
  pub other : (b : Bounds) (full : Bool) (p q : Packet) (m : Mend) → bounded b full p ≡ Becomes q m → IsWithin b full q
