-- Calls of a client's session, and what follows from them.
use Rattle.std.specs.Prelude.{◌≡◌, ℕ, Bool, List, [], ◌∷◌, Option, Some, None, ◌⊎◌}
use Rattle.mqtt_sessions.specs.Reaction.{Reaction, nothing}
use Rattle.mqtt_sessions.specs.State.{State}
use Rattle.law_sessions.specs.Runs.{Event, queues, Reacts, ends_of}
use Rattle.session_table.specs.Calls.{stays}
use Rattle.session_table.specs.Seats.{Seat}
use Rattle.node_work.specs.Acts.{Session}
use Rattle.node_work.specs.Held.Sessions.{Called, seat_at}
use Rattle.bridge_routes.specs.declared.plain.PlainCopy.{PlainCopy as Copy}
use Rattle.node_work.specs.Working.{Doing, Looks, Returns, Then, Each}

-- one call at the node's moment, with its reaction: a step of the client's session, where it has one; it stops where the
-- session would need a number that can't be had
abbrev pub CallsAt : List ℕ → (ℕ → Event) → (Option ℕ → Option ℕ) → Option Seat → Option Reaction → Doing
CallsAt client event on None out p h acts = (out ≡ Some nothing) × (acts ≡ [])
CallsAt client event on (Some seat) out p h acts =
    ((out ≡ None) × ends_of (event h.at) seat.session × (acts ≡ []))
    ⊎ ((r : Reaction) × (after : State) × (out ≡ Some r) × Reacts seat.session (event h.at) r after
    × (acts ≡ Session (Called (record { client = client; on = on seat.connection; at = h.at; event = event h.at; reaction = r; after = after })) ∷ []))

abbrev pub Calls : List ℕ → (ℕ → Event) → (Option ℕ → Option ℕ) → Option Reaction → Doing
Calls client event on = Looks (λ p h. seat_at client h) (CallsAt client event on)

-- a copy joins its session, and goes out where it can (MQTT 5.0, 4.3 and 4.9)
abbrev pub QueuesOne : Copy → Option (Unit {0}) → Doing
QueuesOne x = Then (Calls x.client (queues x.delivery) stays) (λ _. Returns tt)

abbrev pub Queues : List Copy → Option (Unit {0}) → Doing
Queues copies = Each QueuesOne copies
