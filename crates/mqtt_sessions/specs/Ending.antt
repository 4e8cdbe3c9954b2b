-- How connections and sessions end, and wills are published (MQTT 5.0, 3.1.2.10, 3.1.2.11.2, 3.1.3.2.2 and 3.14).
use Rattle.std.specs.Prelude.{◌≡◌, ℕ, ◌+◌, ◌*◌, ◌^◌, ◌==◌, ◌&&◌, not, Bool, true, false, cond, nat_le, nat_lt, List, Option, Some, None, IsSome}
use Rattle.mqtt_fields.specs.Properties.{first_four}
use Rattle.mqtt_packets.specs.declared.connect.Will.{Will}
use Rattle.mqtt_packets.specs.declared.ended.Ended.{Ended}
use Rattle.mqtt_message.specs.declared.message.Message.{Message}
use Rattle.mqtt_message.specs.Accepted.{accepted_will}
use Rattle.mqtt_message.specs.Expiry.{due_of, session_end}
use Rattle.mqtt_sessions.specs.declared.kept.Phase.{Phase}
use Rattle.mqtt_sessions.specs.declared.kept.Phase.TheVariants.{Connected, Closed}
use Rattle.mqtt_sessions.specs.declared.reaction.Ask.{Ask}
use Rattle.mqtt_sessions.specs.declared.reaction.Ask.TheVariants.{Pass}
use Rattle.mqtt_sessions.specs.Reaction.{Reaction, Outcome, Comes, nothing, refused, gives_out}
use Rattle.mqtt_sessions.specs.State.{Kept, Link, State, cut}

-- ---- DISCONNECT
-- Normal disconnection withdraws the will (3.14.4)
abbrev pub will_after : ℕ → Option Will → Option Will
will_after code will = cond (code == 0) None will

abbrev pub left_by : Ended → ℕ → State → Outcome
left_by p expiry s = record {
  reaction = record nothing { end = Some 0 };
  left = cut (record s { kept = record s.kept { expiry = expiry; will = will_after p.reason s.kept.will } });
}

-- its Session Expiry Interval replaces the old one; one that isn't 0 after 0 is a Protocol Error (3.14.2.2.2)
abbrev pub disconnected_by : Option ℕ → Ended → ℕ → State → Outcome
disconnected_by None p limit s = left_by p s.kept.expiry s
disconnected_by (Some expiry) p limit s = cond ((s.kept.expiry == 0) && not (expiry == 0)) (refused limit 130 s) (left_by p expiry s)

abbrev pub disconnected : Ended → ℕ → State → Outcome
disconnected p limit s = disconnected_by (first_four 17 p.properties) p limit s

-- ---- the connection is gone, also after a step that closed it
abbrev pub ClosedStep : ℕ → State → Reaction → State → Type 0
ClosedStep now s r new = (r ≡ nothing) × (new ≡ cut (record s { kept = record s.kept { phase = Closed now } }))

abbrev pub is_connected : Phase → Bool
is_connected Connected = true
is_connected (Closed at) = false

-- ---- what is due
-- no packet came for one and a half times the Keep Alive (3.1.2.10)
abbrev pub has_run_out : Option Link → ℕ → Bool
has_run_out None now = false
has_run_out (Some l) now = nat_lt 0 l.keep_alive && nat_le (l.last + 1500 * l.keep_alive) now

-- the moment from which on it has
abbrev pub runs_out_at : Option Link → Option ℕ
runs_out_at None = None
runs_out_at (Some l) = cond (nat_lt 0 l.keep_alive) (Some (l.last + 1500 * l.keep_alive)) None

-- a moment that is below 2^64
abbrev pub in_time : Option ℕ → Option ℕ
in_time None = None
in_time (Some at) = cond (nat_lt at (2 ^ 64)) (Some at) None

-- the end of a closed session
abbrev pub end_by : Phase → ℕ → Option ℕ
end_by Connected expiry = None
end_by (Closed at) expiry = session_end at expiry

abbrev pub end_due : Kept → Option ℕ
end_due k = end_by k.phase k.expiry

-- the moment of a closed session's will
abbrev pub will_by : Option Will → Phase → ℕ → Option ℕ
will_by None phase expiry = None
will_by (Some w) Connected expiry = None
will_by (Some w) (Closed at) expiry = Some (due_of w at expiry)

abbrev pub will_due : Kept → Option ℕ
will_due k = will_by k.will k.phase k.expiry

abbrev pub is_due : Option ℕ → ℕ → Bool
is_due None now = false
is_due (Some at) now = nat_le at now

abbrev pub message_of : Option Will → List ℕ → ℕ → Option Message
message_of None client now = None
message_of (Some w) client now = Some (accepted_will w client now)

-- the will's message, where it is published now
abbrev pub will_message : Kept → ℕ → Option Message
will_message k now = message_of k.will k.client now

abbrev pub ask_of : Option Message → Option Ask
ask_of None = None
ask_of (Some m) = Some (Pass m)

-- the will, if there is one, is published, and is there no more
abbrev pub passes_will : ℕ → Bool → State → Outcome
passes_will now over s = record {
  reaction = record nothing { ask = ask_of (will_message s.kept now); over = over };
  left = record s { kept = record s.kept { will = None } };
}

-- one thing: Keep Alive timeout, else the will, else the end
abbrev pub timed_out : Option Link → State → Outcome
timed_out None s = record { reaction = nothing; left = s }
timed_out (Some l) s = refused l.limit 141 s

abbrev pub ticked_if : Bool → Bool → Bool → ℕ → State → Outcome
ticked_if true will end now s = timed_out s.link s
ticked_if false true end now s = passes_will now false s
ticked_if false false end now s = record { reaction = record nothing { over = end }; left = s }

abbrev pub ticked : ℕ → State → Outcome
ticked now s = ticked_if (has_run_out s.link now) (is_due (will_due s.kept) now) (is_due (end_due s.kept) now) now s

-- the session ends now, without a connection; its will is published first (3.1.2.5)
abbrev pub finished : ℕ → State → Outcome
finished now s = passes_will now true (cut s)

abbrev pub TickStep : ℕ → State → Reaction → State → Type 0
TickStep now s r new = Comes (ticked now s) r new

abbrev pub FinishStep : ℕ → State → Reaction → State → Type 0
FinishStep now s r new = Comes (finished now s) r new

-- memory is wanted for a will that is published now, and at the end for any
abbrev pub TickWants : ℕ → State → Type 0
TickWants now s = gives_out (ticked now s).reaction ≡ true

abbrev pub HasWill : State → Type 0
HasWill s = IsSome s.kept.will
