-- What outlives the connections of a session (MQTT 5.0, 4.1).
use Rattle.std.specs.Prelude.{◌≡◌, ℕ, ◌<◌, ◌^◌, true, false, cond, ◌&&◌, List, [], Option, Some, None}
use Rattle.std.specs.List.{AllByRecursion}
use Rattle.mqtt_fields.specs.Numbers.{IsText}
use Rattle.mqtt_packets.specs.declared.connect.Will.{Will}
use Rattle.mqtt_message.specs.Accepted.{IsPublishable}
use Rattle.qos_handshakes.specs.Entries.{Entries}
use Rattle.qos_handshakes.specs.Incoming.{of_identifiers, rise}
use Rattle.qos_handshakes.specs.Restored.{agree, restored}
use Rattle.session_rows.specs.declared.session.Opened.{Opened}
use Rattle.session_rows.specs.Fields.{Main, main, copy, copy_of}
use Rattle.session_rows.specs.Reachable.{IsReachable}

-- the client, what there is beside the copies, and the copies by place
pub record Durable : Type 0 where
  pub client : List ℕ
  pub main : Main
  pub copies : Entries

abbrev pub IsPublishableIf : Option Will → Type 0
IsPublishableIf None = Unit {0}
IsPublishableIf (Some w) = IsPublishable w

abbrev pub IsMomentIf : Option ℕ → Type 0
IsMomentIf None = Unit {0}
IsMomentIf (Some at) = at < 2 ^ 62

-- each part has a spelling
pub record HasForm (d : Durable) : Type 0 where
  pub client : IsText d.client
  pub main : main.Fits d.main
  pub copies : AllByRecursion (λ e. (e.0 < 2 ^ 64) × (e.1.here ≡ false) × copy.Fits (copy_of e.1)) d.copies

-- a will that can be published, a moment below 2^62
pub record IsSound (m : Main) : Type 0 where
  pub publishable : IsPublishableIf m.will
  pub moment : IsMomentIf m.closed

-- what no session contradicts: the incoming identifiers rise, the copies agree with each other and the next place, and calls can lead to
-- both
pub record IsDurable (d : Durable) : Type 0 where
  pub form : HasForm d
  pub sound : IsSound d.main
  pub rise : rise d.main.incoming ≡ true
  pub agree : agree d.main.next_place d.copies ≡ true
  pub reachable : IsReachable d.main.incoming d.copies

-- ---- a session that is made again of it: the exchanges are open, and there is no connection
abbrev pub opened_of : Durable → Opened
opened_of d = record {
  client = d.client;
  expiry = d.main.expiry;
  closed = d.main.closed;
  will = d.main.will;
  incoming = of_identifiers d.main.incoming;
  outgoing = record { box = restored d.main.next_place d.copies; touched = [] };
}

-- where its identifiers rise and its copies agree
abbrev pub opened_if : Durable → Option Opened
opened_if d = cond (rise d.main.incoming && agree d.main.next_place d.copies) (Some (opened_of d)) None
