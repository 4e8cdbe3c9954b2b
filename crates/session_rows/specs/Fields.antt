-- How the rows of a session are spelled: what it keeps beside its copies, and each of its copies.
use Rattle.std.specs.Prelude.{ℕ, zero, suc, ◌<◌, ◌^◌, ◌==◌, ◌&&◌, ◌++◌, nat_lt, Bool, true, false, cond, List, length, Option, Some, None, flat_map}
use Rattle.std.specs.Int.{w8, w16, w32, w64}
use Rattle.std.specs.List.{AllByRecursion}
use Rattle.mqtt_fields.specs.declared.fault.FieldFault.TheVariants.{Malformed}
use Rattle.mqtt_fields.specs.declared.options.Qos.{Qos}
use Rattle.mqtt_fields.specs.declared.table.Place.TheVariants as places
use Rattle.mqtt_fields.specs.declared.value.Property.{Property}
use Rattle.mqtt_fields.specs.Block.{properties}
use Rattle.mqtt_fields.specs.Field.{Field, after, tested, seen}
use Rattle.mqtt_fields.specs.Numbers.{number, text, long}
use Rattle.mqtt_fields.specs.Reading.{◌>>=◌}
use Rattle.mqtt_packets.specs.declared.connect.Will.{Will}
use Rattle.mqtt_message.specs.declared.delivery.Delivery.{Delivery}
use Rattle.mqtt_message.specs.Parts.{qos}
use Rattle.mqtt_message.specs.Spelling.{coded, flag, optional, values_at}
use Rattle.mqtt_message.specs.Spellings.{delivery}
use Rattle.qos_handshakes.specs.declared.copies.Entry.{Entry}
use Rattle.qos_handshakes.specs.declared.copies.Stage.{Stage}
use Rattle.qos_handshakes.specs.declared.copies.Stage.TheVariants.{Waiting, Published, Released}

-- a number of values in four bytes, and the values
abbrev pub many : {A : Type 0} → Field A → Field (List A)
many f = record {
  at = λ bs. (number w32).at bs >>= λ n. values_at f n.0 n.1;
  bytes = λ xs. (number w32).bytes (length xs) ++ flat_map f.bytes xs;
  Fits = λ xs. (length xs < 2 ^ 32) × AllByRecursion f.Fits xs;
}

-- a byte 0 and a moment of 0 while the client is connected, or a byte 1 and the moment of the close
abbrev pub closed_at : Bool × ℕ → Option (Option ℕ)
closed_at (false, n) = cond (n == 0) (Some None) None
closed_at (true, n) = Some (Some n)

abbrev pub closed_parts : Option ℕ → Bool × ℕ
closed_parts None = (false, 0)
closed_parts (Some n) = (true, n)

abbrev pub closed : Field (Option ℕ)
closed = coded closed_at closed_parts (after flag (λ _. number w64))

-- a will: topic, payload, properties, QoS, RETAIN
abbrev pub is_short : List ℕ → Bool
is_short bytes = nat_lt (length bytes) 65536

abbrev pub payload : Field (List ℕ)
payload = tested is_short Malformed long

abbrev pub WillParts : Type 0
WillParts = List ℕ × (List ℕ × (List Property × (Qos × Bool)))

abbrev pub will_of : WillParts → Will
will_of x = record { retain = x.1.1.1.1; qos = x.1.1.1.0; properties = x.1.1.0; topic = x.0; payload = x.1.0 }

abbrev pub will_parts : Will → WillParts
will_parts w = (w.topic, (w.payload, (w.properties, (w.qos, w.retain))))

unfoldable pub will : Field Will
will = seen will_of will_parts (after text (λ _. after payload (λ _. after (properties places.Will) (λ _. after qos (λ _. flag)))))

-- ---- a session beside its copies: the Session Expiry Interval in seconds, since when it is closed, its will, the
-- identifiers of unfinished incoming exchanges, and the next place of its queue
pub record Main : Type 0 where
  pub expiry : ℕ
  pub closed : Option ℕ
  pub will : Option Will
  pub incoming : List ℕ
  pub next_place : ℕ

abbrev pub MainParts : Type 0
MainParts = ℕ × (Option ℕ × (Option Will × (List ℕ × ℕ)))

abbrev pub main_of_parts : MainParts → Main
main_of_parts x = record { expiry = x.0; closed = x.1.0; will = x.1.1.0; incoming = x.1.1.1.0; next_place = x.1.1.1.1 }

abbrev pub main_parts : Main → MainParts
main_parts m = (m.expiry, (m.closed, (m.will, (m.incoming, m.next_place))))

unfoldable pub main : Field Main
main = seen main_of_parts main_parts (after (number w32) (λ _. after closed (λ _. after (optional will) (λ _. after (many (number w16)) (λ _. number w64)))))

-- ---- a copy: its Packet Identifier, 0, 1 or 2 as it waits, was published or released, the order of its release, and
-- the delivery; what it hasn't is 0
abbrev pub stage_by : ℕ → ℕ → ℕ → Option Stage
stage_by zero id order = cond ((id == 0) && (order == 0)) (Some Waiting) None
stage_by (suc zero) id order = cond (order == 0) (Some (Published id)) None
stage_by (suc (suc zero)) id order = Some (Released id order)
stage_by (suc (suc (suc n))) id order = None

abbrev pub StageParts : Type 0
StageParts = ℕ × (ℕ × ℕ)

abbrev pub stage_at : StageParts → Option Stage
stage_at x = stage_by x.1.0 x.0 x.1.1

abbrev pub stage_parts : Stage → StageParts
stage_parts Waiting = (0, (0, 0))
stage_parts (Published id) = (id, (1, 0))
stage_parts (Released id order) = (id, (2, order))

abbrev pub parts : Field StageParts
parts = after (number w16) (λ _. after (number w8) (λ _. number w64))

abbrev pub stage : Field Stage
stage = coded stage_at stage_parts parts

abbrev pub Copy : Type 0
Copy = Stage × Delivery

unfoldable pub copy : Field Copy
copy = after stage (λ _. delivery)

-- whether its PUBLISH was sent on this connection isn't kept
abbrev pub copy_of : Entry → Copy
copy_of x = (x.stage, x.delivery)

abbrev pub entry_of : Copy → Entry
entry_of x = record { stage = x.0; here = false; delivery = x.1 }
