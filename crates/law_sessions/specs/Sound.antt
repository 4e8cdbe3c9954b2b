-- What is durable of a session has rows that open it again.
use Rattle.std.specs.Prelude.{◌≡◌, ℕ, ◌<◌, ◌^◌, List, ◌⊎◌, map, IfSome, Option, Some, Result, Ok, Err}
use Rattle.std.specs.List.{AllByRecursion}
use Rattle.mqtt_fields.specs.Numbers.{IsBlob, IsText}
use Rattle.mqtt_fields.specs.Properties.{first_four}
use Rattle.mqtt_message.specs.Spellings.{delivery}
use Rattle.mqtt_packets.specs.declared.connect.Connect.{Connect}
use Rattle.mqtt_packets.specs.Written.{HasSpelling}
use Rattle.mqtt_sessions.specs.declared.fault.SessionFault.{SessionFault}
use Rattle.mqtt_sessions.specs.declared.fault.SessionFault.TheVariants.{NoMemory}
use Rattle.mqtt_sessions.specs.Saved.{Saved, OpensFrom, reopened}
use Rattle.mqtt_sessions.specs.State.{IsPublishableIf}
use Rattle.row_store.specs.declared.row.Row.{Row}
use Rattle.row_store.specs.Rows.{entry_of}
use Rattle.law_sessions.specs.Runs.{Event, connects, queues, takes, closes}
use Rattle.session_rows.specs.Durable.{Durable, IsDurable}
use Rattle.session_rows.specs.Rows.{rows_of}
use Rattle.law_sessions.specs.Histories.{Point, Move, calls, tells, History, begun, opened_point, durable_at}

-- A CONNECT whose will can be published, as `connect` demands; that a will's payload is Binary Data, and that the Session
-- Expiry Interval is a Four Byte Integer, the type `Connect` holds.
pub record IsSoundConnect (c : Connect) : Type 0 where
  pub publishable : IsPublishableIf c.will
  pub payload : IfSome c.will (λ w. IsBlob w.payload)
  pub expiry : IfSome (first_four 17 c.properties) (λ n. n < 2 ^ 32)

-- A call with what the contracts of `Session` demand; each delivery has a spelling, as the law of its type says.
abbrev pub IsSoundEvent : Event → Type 0
IsSoundEvent (connects c continued room now) = IsSoundConnect c
IsSoundEvent (queues d now) = delivery.Fits d
IsSoundEvent (takes p now room) = HasSpelling p
IsSoundEvent (closes now) = now < 2 ^ 62
IsSoundEvent e = Unit {0}

abbrev pub IsSoundMove : Move → Type 0
IsSoundMove (calls e r) = IsSoundEvent e
IsSoundMove (tells changes) = Unit {0}

-- the client is a text
abbrev pub BeginsSound : Point → Type 0
BeginsSound p = ((client : List ℕ) × IsText client × (p ≡ begun client)) ⊎ ((d : Durable) × IsDurable d × (p ≡ opened_point d))

-- the rows of a session are those of one, and so are those that were told last
pub record AreDurable (p : Point) : Type 0 where
  pub now : IsDurable (durable_at p)
  pub last : IfSome p.last IsDurable

abbrev pub StaysDurable : Type 0
StaysDurable = (start : Point) (moves : List Move) (end : Point) → BeginsSound start → AllByRecursion IsSoundMove moves → History start moves end → AreDurable end

-- what is opened from its rows is this session, or memory was wanting
abbrev pub OpensTo : Durable → Result (Option Saved) SessionFault → Type 0
OpensTo d (Ok s) = s ≡ Some (reopened d)
OpensTo d (Err e) = e ≡ NoMemory

abbrev pub DurableOpens : Type 0
DurableOpens = (d : Durable) (rows : List Row) (result : Result (Option Saved) SessionFault) → IsDurable d → map entry_of rows ≡ rows_of d → OpensFrom rows result → OpensTo d result
