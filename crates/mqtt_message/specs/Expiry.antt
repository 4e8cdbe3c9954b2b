-- Message Expiry Interval (MQTT 5.0, 3.3.2.3.3) and Will Delay Interval (3.1.3.2.2). Moments are in
-- milliseconds, intervals in seconds.
use Rattle.std.specs.Prelude.{ℕ, ◌+◌, ◌-◌, ◌*◌, ◌/◌, ◌<◌, ◌==◌, nat_le, min, Option, Some, None, if◌then◌else◌, unwrap_or}
use Rattle.mqtt_fields.specs.Properties.{first_four}
use Rattle.mqtt_packets.specs.declared.connect.Will.{Will}

-- the moment when a message expires that was accepted at this one; none without an interval
abbrev pub deadline_after : ℕ → Option ℕ → Option ℕ
deadline_after now None = None
deadline_after now (Some interval) = Some (now + 1000 * interval)

-- the deadline hasn't passed
abbrev pub IsBefore : ℕ → Option ℕ → Type 0
IsBefore now None = Unit {0}
IsBefore now (Some deadline) = now < deadline

-- the interval that is left, in whole seconds rounded up, as far as four bytes hold it
abbrev pub interval_left : ℕ → Option ℕ → Option ℕ
interval_left now None = None
interval_left now (Some deadline) =
    Some (if nat_le deadline now then 0 else min 4294967295 ((deadline - now + 999) / 1000))

-- the moment when a closed session ends; never at 4,294,967,295 (3.1.2.11.2)
abbrev pub session_end : ℕ → ℕ → Option ℕ
session_end closed_at expiry = if expiry == 4294967295 then None else Some (closed_at + 1000 * expiry)

-- the moment when a will is to be published: after its delay, or when the session ends, whichever is first
abbrev pub first_of : ℕ → Option ℕ → ℕ
first_of moment None = moment
first_of moment (Some end) = min moment end

abbrev pub due_of : Will → ℕ → ℕ → ℕ
due_of will closed_at expiry =
    first_of (closed_at + 1000 * unwrap_or (first_four 24 will.properties) 0) (session_end closed_at expiry)
