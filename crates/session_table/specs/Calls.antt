-- What a call of a client's session comes to.
use Rattle.std.specs.Prelude.{◌≡◌, ◌<◌, ◌^◌, ℕ, Bool, List, Option, Some, None, Result, Ok, Err, IfSome, ◌≤◌, ◌≢◌, [], option_and_then, option_map}
use Rattle.std.specs.Option.{ForSome}
use Rattle.std.specs.FinMap as map
use Rattle.mqtt_packets.specs.Written.{HasSpelling}
use Rattle.mqtt_sessions.specs.Connecting.{MayConnect}
use Rattle.mqtt_sessions.specs.Reaction.{Reaction, AreSpelled}
use Rattle.mqtt_sessions.specs.Saved.{state_of}
use Rattle.mqtt_sessions.specs.State.{State, IsPublishableIf}
use Rattle.mqtt_sessions.specs.declared.fault.SessionFault.{SessionFault}
use Rattle.mqtt_sessions.specs.declared.fault.SessionFault.TheVariants.{NoMemory, NumbersAtEnd, Spent, BadRow}
use Rattle.law_sessions.specs.Runs.{Event, connects, queues, rooms, takes, answers, closes, ticks, finishes, loses, MayCome, Reacts, ends_of}
use Rattle.session_table.specs.Listing.{moments_of}
use Rattle.session_table.specs.Seats.{Seat, Seats}
use Rattle.session_table.specs.Wants.{WantsAt}
use Rattle.session_table.specs.declared.call.Addressed.{Addressed}
use Rattle.session_table.specs.declared.call.Call.{Call}
use Rattle.session_table.specs.declared.call.Call.TheVariants.{Connect, Queue, Room, Packet, Answer, Closed, Tick, Finish}
use Rattle.session_table.specs.declared.call.On.{On}
use Rattle.session_table.specs.declared.call.On.TheVariants.{Moves, Stays, Leaves}
use Rattle.session_table.specs.declared.seated.Seated.{Seated}

-- none where the client has no session, else a step of it. `on` gives the connection that the client is on afterwards, by the
-- one before. After a fault nothing is said of the table; memory is wanting only where the call may want it
abbrev pub IsCalled : List ℕ → Event → (Option ℕ → Option ℕ) → Seats → Result (Option Reaction) SessionFault → Seats → Type 0
IsCalled client e on old (Ok None) new = (map.get old client ≡ None) × (new ≡ old)
IsCalled client e on old (Ok (Some r)) new =
    (seat : Seat) × (after : State) × (map.get old client ≡ Some seat) × Reacts seat.session e r after
    × (new ≡ map.insert old client (record { session = after; connection = on seat.connection }))
IsCalled client e on old (Err NumbersAtEnd) new = (seat : Seat) × (map.get old client ≡ Some seat) × ends_of e seat.session
IsCalled client e on old (Err NoMemory) new = (seat : Seat) × (map.get old client ≡ Some seat) × WantsAt e on seat.session seat.connection
IsCalled client e on old (Err Spent) new = ⊥
IsCalled client e on old (Err BadRow) new = ⊥

-- the client stays where it is, is on a connection, and on none
abbrev pub stays : Option ℕ → Option ℕ
stays connection = connection

abbrev pub moves : ℕ → Option ℕ → Option ℕ
moves connection before = Some connection

abbrev pub leaves : Option ℕ → Option ℕ
leaves before = None

-- a session that isn't continued is new
abbrev pub MayConnectAt : Bool → Option Seat → Type 0
MayConnectAt continued old = IfSome old (λ seat. MayConnect continued seat.session)

-- ---- as the code hands them on
abbrev pub event_of : Call → Event
event_of (Connect connect continued room now) = connects connect.now continued room now
event_of (Queue delivery now) = queues delivery now
event_of (Room bytes now) = rooms bytes now
event_of (Packet packet now room) = takes packet.now now room
event_of (Answer id codes) = answers id codes.now
event_of (Closed now) = closes now
event_of (Tick now) = ticks now
event_of (Finish now) = finishes now

abbrev pub on_of : On → Option ℕ → Option ℕ
on_of (Moves connection) = moves connection
on_of Stays = stays
on_of Leaves = leaves

-- what the session's own calls ask of their arguments
abbrev pub Asks : Call → Type 0
Asks (Connect connect continued room now) = IsPublishableIf connect.now.will
Asks (Queue delivery now) = Unit {0}
Asks (Room bytes now) = Unit {0}
Asks (Packet packet now room) = HasSpelling packet.now × (now < 2 ^ 62)
Asks (Answer id codes) = (1 ≤ id) × (codes.now ≢ [])
Asks (Closed now) = now < 2 ^ 62
Asks (Tick now) = now < 2 ^ 62
Asks (Finish now) = now < 2 ^ 62

-- what it gives, without its address
abbrev pub reaction_of : Result (Option Addressed) SessionFault → Result (Option Reaction) SessionFault
reaction_of (Ok given) = Ok (option_map (λ x. x.reaction) given)
reaction_of (Err fault) = Err fault

-- and it goes to the connection that the client is on then
abbrev pub GoesTo : List ℕ → Seats → Option Addressed → Type 0
GoesTo client seats given = IfSome given (λ x. x.to ≡ option_and_then (λ s. s.connection) (map.get seats client))

-- what it gives has spellings; SUBACK and UNSUBACK at any moment
abbrev pub GivesSpelled : Event → Reaction → Type 0
GivesSpelled (connects c continued room now) r = AreSpelled now r.packets
GivesSpelled (queues d now) r = AreSpelled now r.packets
GivesSpelled (rooms bytes now) r = AreSpelled now r.packets
GivesSpelled (takes p now room) r = AreSpelled now r.packets
GivesSpelled (answers id codes) r = (now : ℕ) → AreSpelled now r.packets
GivesSpelled (closes now) r = AreSpelled now r.packets
GivesSpelled (ticks now) r = AreSpelled now r.packets
GivesSpelled (finishes now) r = AreSpelled now r.packets
GivesSpelled loses r = Unit {0}

-- the same of what there may be
abbrev pub IsSpelledIf : ℕ → Option Reaction → Type 0
IsSpelledIf now given = IfSome given (λ r. AreSpelled now r.packets)

-- and of the session
abbrev pub MayTurn : Event → Option State → Type 0
MayTurn e old = ForSome old (MayCome e)

abbrev pub MayTurnAt : Event → Option Seat → Type 0
MayTurnAt e old = ForSome old (λ seat. MayCome e seat.session)

-- a step of the session, or a fault
abbrev pub IsTurned : Event → State → Result Reaction SessionFault → Option State → Type 0
IsTurned e s (Ok r) new = (after : State) × (new ≡ Some after) × Reacts s e r after
IsTurned e s (Err NumbersAtEnd) new = ends_of e s
IsTurned e s (Err NoMemory) new = Unit {0}
IsTurned e s (Err Spent) new = ⊥
IsTurned e s (Err BadRow) new = ⊥

-- the same of a seat, whose moments are listed anew
abbrev pub IsSeated : Event → (Option ℕ → Option ℕ) → State → Option ℕ → Result Reaction SessionFault → Seated → Type 0
IsSeated e on s connection (Ok r) new =
    (after : State) × (state_of new.session ≡ Some after) × Reacts s e r after × (new.connection ≡ on connection) × (new.listed ≡ moments_of after (on connection))
IsSeated e on s connection (Err NumbersAtEnd) new = ends_of e s
IsSeated e on s connection (Err NoMemory) new = Unit {0}
IsSeated e on s connection (Err Spent) new = ⊥
IsSeated e on s connection (Err BadRow) new = ⊥
