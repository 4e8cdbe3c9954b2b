-- What entries may be those of a session, and what is made of them.
use Rattle.std.specs.Prelude.{ℕ, ◌+◌, ◌^◌, ◌==◌, Bool, true, false, not, ◌&&◌, ◌||◌, [], ◌∷◌, is_some, nat_le, nat_lt}
use Rattle.mqtt_fields.specs.declared.options.Qos.{Qos}
use Rattle.mqtt_fields.specs.declared.options.Qos.TheVariants.{AtMostOnce, AtLeastOnce, ExactlyOnce}
use Rattle.qos_handshakes.specs.declared.copies.Entry.{Entry}
use Rattle.qos_handshakes.specs.declared.copies.Stage.{Stage}
use Rattle.qos_handshakes.specs.declared.copies.Stage.TheVariants.{Waiting, Published, Released}
use Rattle.qos_handshakes.specs.Entries.{Entries, find_id}
use Rattle.qos_handshakes.specs.Outbox.{Outbox, waits, order_above}

-- the place of the first entry, or the next place
abbrev pub first_place : ℕ → Entries → ℕ
first_place next [] = next
first_place next (e ∷ es) = e.0

abbrev pub all_wait : Entries → Bool
all_wait [] = true
all_wait (e ∷ es) = waits e.1.stage && all_wait es

abbrev pub was_released : ℕ → Stage → Bool
was_released order Waiting = false
was_released order (Published id) = false
was_released order (Released id o) = o == order

-- an entry was released in this order
abbrev pub has_order : ℕ → Entries → Bool
has_order order [] = false
has_order order (e ∷ es) = was_released order e.1.stage || has_order order es

-- an identifier that no entry has
abbrev pub is_free : ℕ → Entries → Bool
is_free id es = not (id == 0) && not (is_some (find_id id es))

-- Those that wait stand at the last places, without a gap; the exchanges have distinct identifiers, and distinct orders
-- of release below 2^62.
abbrev pub stage_fits : ℕ → Entries → ℕ → Stage → Bool
stage_fits next later place Waiting = all_wait later && (place + 1 == first_place next later)
stage_fits next later place (Published id) = is_free id later
stage_fits next later place (Released id order) = is_free id later && (nat_le 1 order && (nat_lt order (2 ^ 62) && not (has_order order later)))

abbrev pub is_asked : Qos → Bool
is_asked AtMostOnce = false
is_asked AtLeastOnce = true
is_asked ExactlyOnce = true

-- An entry before the later ones: places rise from 1, and there is no connection that has sent it.
abbrev pub precedes : ℕ → Entries → ℕ → Entry → Bool
precedes next later place x = nat_le 1 place && (nat_lt place (first_place next later) && (not x.here && (is_asked x.delivery.qos && stage_fits next later place x.stage)))

-- entries that don't contradict each other, nor the next place
abbrev pub agree : ℕ → Entries → Bool
agree next [] = nat_le 1 next && nat_le next (2 ^ 62)
agree next (e ∷ es) = precedes next es e.0 e.1 && agree next es

-- what a session has of them: all that is durable, and no connection
abbrev pub restored : ℕ → Entries → Outbox
restored next es = record { copies = es; next_place = next; next_order = order_above es; maximum = 0 }
