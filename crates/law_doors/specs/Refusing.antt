-- What is refused, by the packets.
use Rattle.std.specs.Prelude.{◌≡◌, ℕ, zero, suc, Bool, List, [], ◌∷◌, count_by, not, if◌then◌else◌}
use Rattle.door_guard.specs.Counts.{Refusal, refused_by}
use Rattle.door_guard.specs.Counts.Refusal.{Filters as FiltersRefused, Publish as PublishRefused}
use Rattle.door_packets.specs.Packets.{publish_step, subscribe_step}
use Rattle.door_packets.specs.Rights.{Rights}
use Rattle.door_packets.specs.declared.access.Login.{Login}
use Rattle.mqtt_packets.specs.declared.publish.Publish.{Publish}
use Rattle.mqtt_packets.specs.declared.subscribe.Subscribe.{Subscribe}

-- so many filters, where there are any
abbrev pub filters_refused : ℕ → List Refusal
filters_refused zero = []
filters_refused (suc n) = FiltersRefused (suc n) ∷ []

-- What is refused where this packet came from a client that was let in, which is what is counted:
pub record RefusalsAreOfPackets (r : Rights) : Type 0 where
  -- one PUBLISH, where it isn't allowed, whatever its QoS
  pub publishes : (bytes : List ℕ) (p : Publish) (allowed : Bool) → refused_by (publish_step allowed bytes p) ≡ (if allowed then [] else PublishRefused ∷ [])
  -- of a SUBSCRIBE each filter to which this client may not subscribe
  pub filters : (l : Login) (bytes : List ℕ) (s : Subscribe) → refused_by (subscribe_step r l bytes s) ≡ filters_refused (count_by (λ f. not (r.may_subscribe l f.filter)) s.filters)
