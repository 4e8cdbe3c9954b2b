-- With which code what breaks a limit is refused, and how its client learns of it.
use Rattle.std.specs.Prelude.{◌≡◌, ◌≢◌, ◌<◌, ◌⊎◌, ℕ, suc, List, [], ◌∷◌, length, Bool, true, false, Option, Some, None}
use Rattle.mqtt_fields.specs.Properties.{first_two}
use Rattle.mqtt_fields.specs.declared.options.Qos.TheVariants.{AtMostOnce, AtLeastOnce, ExactlyOnce}
use Rattle.mqtt_packets.specs.declared.packet.Packet.{Packet}
use Rattle.mqtt_packets.specs.declared.packet.Packet.TheVariants as packets
use Rattle.mqtt_packets.specs.declared.publish.Publish.{Publish}
use Rattle.mqtt_packets.specs.declared.reasons.Reasons.{Reasons}
use Rattle.mqtt_packets.specs.declared.subscribe.Subscribe.{Subscribe}
use Rattle.mqtt_packets.specs.declared.subscribe.SubscribeFilter.{SubscribeFilter}
use Rattle.mqtt_bounds.specs.Bounded.{ack_with, bounded, mended, user_properties}
use Rattle.mqtt_bounds.specs.Bounds.{levels}
use Rattle.mqtt_bounds.specs.Laws.{IsUpTo}
use Rattle.mqtt_bounds.specs.declared.bounds.Bounds.{Bounds}
use Rattle.mqtt_bounds.specs.declared.verdict.Mend.{Mend}
use Rattle.mqtt_bounds.specs.declared.verdict.Verdict.{Verdict}
use Rattle.mqtt_bounds.specs.declared.verdict.Verdict.TheVariants.{Becomes, Ends, Refused}

-- more than may be
abbrev pub IsOver : Option ℕ → ℕ → Type 0
IsOver None count = ⊥
IsOver (Some most) count = most < count

-- ---- PUBLISH

-- Quota exceeded (0x97) without room and for user properties, else Topic Name invalid (0x90) for levels
abbrev pub BreaksWith : Bounds → Bool → Publish → ℕ → Type 0
BreaksWith b full p code =
    ((code ≡ 151) × ((full ≡ true) ⊎ IsOver b.most_properties (user_properties p.properties)))
    ⊎ ((code ≡ 144) × (full ≡ false) × IsUpTo b.most_properties (user_properties p.properties) × IsOver b.most_levels (levels p.topic))

-- it sets no Topic Alias
abbrev pub SetsNone : Publish → Type 0
SetsNone p = (p.topic ≡ []) ⊎ (first_two 35 p.properties ≡ None)

-- The connection ends for one that comes again at QoS 2, and for one that sets a Topic Alias. Others are acknowledged with the code, at QoS 0 by nothing.
pub record IsRefusedWith (p : Publish) (code : ℕ) (v : Verdict) : Type 0 where
  pub again : p.qos ≡ ExactlyOnce → p.dup ≡ true → v ≡ Ends code
  pub alias : (a : ℕ) → p.topic ≢ [] → first_two 35 p.properties ≡ Some a → v ≡ Ends code
  pub at_0 : SetsNone p → p.qos ≡ AtMostOnce → v ≡ Refused None
  pub at_1 : SetsNone p → p.qos ≡ AtLeastOnce → v ≡ Refused (Some (packets.Puback (ack_with p code)))
  pub at_2 : SetsNone p → p.qos ≡ ExactlyOnce → p.dup ≡ false → v ≡ Refused (Some (packets.Pubrec (ack_with p code)))

abbrev pub PublishIsRefused : Type 0
PublishIsRefused = (b : Bounds) (full : Bool) (p : Publish) (code : ℕ) → BreaksWith b full p code → IsRefusedWith p code (bounded b full (packets.Publish p))

-- ---- SUBSCRIBE

-- a filter behind so many others: Quota exceeded (0x97) without room and beyond the last that may be there, else Topic Filter invalid (0x8F) for levels
abbrev pub FilterBreaksWith : Bounds → Bool → ℕ → SubscribeFilter → ℕ → Type 0
FilterBreaksWith b full before f code =
    ((code ≡ 151) × ((full ≡ true) ⊎ IsOver b.most_filters (suc before)))
    ⊎ ((code ≡ 143) × (full ≡ false) × IsUpTo b.most_filters (suc before) × IsOver b.most_levels (levels f.filter))

pub record IsFilterWithin (b : Bounds) (full : Bool) (before : ℕ) (f : SubscribeFilter) : Type 0 where
  pub room : full ≡ false
  pub place : IsUpTo b.most_filters (suc before)
  pub levels : IsUpTo b.most_levels (levels f.filter)

-- of filters behind so many others those that break no limit, in their order
abbrev pub AreWithin : Bounds → Bool → ℕ → List SubscribeFilter → List SubscribeFilter → Type 0
AreWithin b full before [] asked = asked ≡ []
AreWithin b full before (f ∷ fs) asked =
    ((code : ℕ) × FilterBreaksWith b full before f code × AreWithin b full (suc before) fs asked)
    ⊎ (IsFilterWithin b full before f × (more : List SubscribeFilter) × (asked ≡ f ∷ more) × AreWithin b full (suc before) fs more)

-- the codes of filters in their order: its own for each that breaks a limit, and those that were given for the others
abbrev pub AreCodes : Bounds → Bool → ℕ → List SubscribeFilter → List ℕ → List ℕ → Type 0
AreCodes b full before [] given all = (given ≡ []) × (all ≡ [])
AreCodes b full before (f ∷ fs) given [] = ⊥
AreCodes b full before (f ∷ fs) given (code ∷ all) =
    (FilterBreaksWith b full before f code × AreCodes b full (suc before) fs given all)
    ⊎ (IsFilterWithin b full before f × (more : List ℕ) × (given ≡ code ∷ more) × AreCodes b full (suc before) fs more all)

-- where filters break limits and others don't, the others are asked for, and SUBACK has the codes of all in their order; where each breaks one a SUBACK with their
-- codes answers in place of the node
pub record SubscribeIsRefused : Type 0 where
  pub some : (b : Bounds) (full : Bool) (s t : Subscribe) (m : Mend) → bounded b full (packets.Subscribe s) ≡ Becomes (packets.Subscribe t) m
      → AreWithin b full 0 s.filters t.filters × (t ≡ record s { filters = t.filters })
      × ((suback : Reasons) → suback.identifier ≡ s.identifier → length suback.reasons ≡ length t.filters
      → (all : List ℕ) × AreCodes b full 0 s.filters suback.reasons all × (mended m (packets.Suback suback) ≡ Some (packets.Suback (record suback { reasons = all }))))
  pub each : (b : Bounds) (full : Bool) (s : Subscribe) (answer : Option Packet) → bounded b full (packets.Subscribe s) ≡ Refused answer
      → (all : List ℕ) × AreCodes b full 0 s.filters [] all
      × (answer ≡ Some (packets.Suback (record { identifier = s.identifier; properties = []; reasons = all })))
