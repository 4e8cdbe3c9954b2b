-- What is known of a connection of a client, and what comes of that which happens on it.
use Rattle.std.specs.Prelude.{◌≡◌, ◌==◌, ℕ, List, [], ◌∷◌, ◌++◌, Bool, Option, Some, None, flat_map, if◌then◌else◌}
use Rattle.broker_sockets.specs.declared.events.EventKind.{EventKind}
use Rattle.broker_sockets.specs.declared.events.EventKind.TheVariants as kinds
use Rattle.broker_sockets.specs.declared.events.Output.{Output}
use Rattle.broker_sockets.specs.declared.events.Output.TheVariants as outputs
use Rattle.mqtt_packets.specs.declared.packet.Packet.{Packet}
use Rattle.door_packets.specs.Answers.{connack, disconnect}
use Rattle.door_guard.specs.Clients.{client_of}
use Rattle.door_guard.specs.Counts.{Refusal, Refused, refused_by, refused_on}
use Rattle.door_guard.specs.Counts.Refusal.{Message}
use Rattle.door_packets.specs.Rights.{Rights}
use Rattle.door_packets.specs.Sending.{IsSpelled, mended}
use Rattle.door_packets.specs.Going.{may_go}
use Rattle.door_packets.specs.Walk.{Walked, fresh, is_leaving, left}
use Rattle.door_packets.specs.Coming.{come}
use Rattle.door_packets.specs.declared.client.Client.{Client}
use Rattle.door_packets.specs.declared.client.Stage.{Stage}
use Rattle.door_packets.specs.declared.client.Stage.TheVariants as stages
use Rattle.door_guard.specs.declared.clients.Clients.{Clients}
use Rattle.door_packets.specs.declared.codes.Awaited.{Awaited}
use Rattle.door_packets.specs.declared.step.Step.{Step}
use Rattle.door_packets.specs.declared.step.Step.TheVariants as steps

-- ---- what is told of a connection, and what goes out on it

-- it is open, it is gone, it has so much room, or bytes came
pub data Notice : Type 0 where
  Open : Notice
  Gone : Notice
  Space : (bytes : ℕ) → Notice
  Piece : (bytes : List ℕ) → Notice

-- what the handler inside is told: something as it came, or a packet
pub data Said : Type 0 where
  Same : (notice : Notice) → Said
  Made : (packet : Packet) → Said

abbrev pub IsSaid : Said → Notice → Type 0
IsSaid (Same n) m = m ≡ n
IsSaid (Made p) m = (bs : List ℕ) × IsSpelled p bs × (m ≡ Piece bs)

abbrev pub AreSaid : List Said → List Notice → Type 0
AreSaid [] [] = Unit {0}
AreSaid (s ∷ ss) (m ∷ ms) = IsSaid s m × AreSaid ss ms
AreSaid _ _ = ⊥

-- bytes, or its end
pub data Outgoing : Type 0 where
  Bytes : (bytes : List ℕ) → Outgoing
  End : Outgoing

-- ---- how far it has come

-- what is still to be done for bytes that came, and the SUBACK that is to come
pub record Doing : Type 0 where
  pub todo : List Step
  pub awaited : Option Awaited

abbrev pub idle : Doing
idle = record { todo = []; awaited = None }

pub record Held : Type 0 where
  pub client : Client
  pub doing : Doing

pub data Happening : Type 0 where
  -- it is opened
  Opens : Happening
  -- it is gone
  Goes : Happening
  -- it has so much room
  Spaces : (bytes : ℕ) → Happening
  -- bytes come; the sessions of these clients have to end
  Comes : (marked : List ℕ → Bool) (bytes : List ℕ) → Happening
  -- the next thing is done
  Does : Happening
  -- it is done
  Rests : Happening
  -- the handler inside gives these bytes for it
  Gets : (bytes : List ℕ) → Happening
  -- the handler inside closes it
  Closes : Happening
  -- the handler inside is told that its end went out
  Leaves : Happening

-- how far it has come then, what the handler inside is told, and what goes out
pub record Effect : Type 0 where
  pub held : Option Held
  pub told : List Said
  pub out : List Outgoing

abbrev pub quiet : Option Held → Effect
quiet s = record { held = s; told = []; out = [] }

abbrev pub says : Option Held → Said → Effect
says s said = record { held = s; told = said ∷ []; out = [] }

abbrev pub sends : Option Held → List ℕ → Effect
sends s bytes = record { held = s; told = []; out = Bytes bytes ∷ [] }

-- its end goes out: DISCONNECT, and the close
abbrev pub ends : Held → Effect
ends x = record { held = Some (record { client = left x.client; doing = x.doing }); told = []; out = Bytes disconnect ∷ End ∷ [] }

-- ---- one thing

abbrev pub gone_by : Stage → List Said
gone_by (stages.Waiting room) = []
gone_by stages.Open = Same Gone ∷ []
gone_by stages.Over = Same Gone ∷ []
gone_by stages.Leaving = Same Gone ∷ []

-- the handler inside is told so where it was told that it is open
abbrev pub gone_at : Option Held → List Said
gone_at None = []
gone_at (Some x) = gone_by x.client.stage

-- room is kept until the handler inside is told that it is open
abbrev pub spaced_by : ℕ → Held → Stage → Effect
spaced_by n x (stages.Waiting room) = quiet (Some (record { client = record x.client { stage = stages.Waiting (Some n) }; doing = x.doing }))
spaced_by n x stages.Open = says (Some x) (Same (Space n))
spaced_by n x stages.Over = says (Some x) (Same (Space n))
spaced_by n x stages.Leaving = quiet (Some x)

abbrev pub spaced : ℕ → Option Held → Effect
spaced n None = quiet None
spaced n (Some x) = spaced_by n x x.client.stage

abbrev pub working : Walked → Held
working w = record { client = w.client; doing = record { todo = w.steps; awaited = None } }

abbrev pub came : Rights → (List ℕ → Bool) → List ℕ → Option Held → Option Held
came r marked bytes None = None
came r marked bytes (Some x) = Some (working (come r marked x.client bytes))

abbrev pub after : Held → List Step → Option Awaited → Option Held
after x more awaited = Some (record { client = x.client; doing = record { todo = more; awaited = awaited } })

abbrev pub done : Held → List Step → Step → Effect
done x more steps.Opens = says (after x more None) (Same Open)
done x more (steps.Rooms n) = says (after x more None) (Same (Space n))
done x more (steps.Tells bytes) = says (after x more None) (Same (Piece bytes))
done x more (steps.Asks p awaited) = says (after x more awaited) (Made p)
done x more (steps.Acks bytes) = sends (after x more None) bytes
done x more (steps.Subacks bytes n) = sends (after x more None) bytes
done x more steps.Drops = quiet (after x more None)
done x more (steps.TurnsAway code) = record { held = None; told = []; out = Bytes (connack code) ∷ End ∷ [] }
done x more steps.Ends = ends (record { client = x.client; doing = record { todo = more; awaited = None } })

-- where its end went out nothing is done any more
abbrev pub does_next : Held → List Step → Effect
does_next x [] = quiet (Some x)
does_next x (step ∷ more) = if is_leaving x.client then quiet (after x more None) else done x more step

abbrev pub does : Option Held → Effect
does None = quiet None
does (Some x) = does_next x x.doing.todo

abbrev pub rests : Option Held → Option Held
rests None = None
rests (Some x) = after x x.doing.todo None

-- what this client may not receive ends its connection
abbrev pub got : Rights → Held → List ℕ → Effect
got r x bytes = if may_go r x.client.login bytes then sends (Some x) bytes else ends x

abbrev pub gets : Rights → List ℕ → Option Held → Effect
gets r bytes None = quiet None
gets r bytes (Some x) = if is_leaving x.client then quiet (Some x) else got r x (mended x.doing.awaited bytes)

abbrev pub closed : Option Held → List Outgoing
closed None = []
closed (Some x) = if is_leaving x.client then [] else End ∷ []

abbrev pub leaves : Option Held → Effect
leaves None = quiet None
leaves (Some x) = if is_leaving x.client then says None (Same Gone) else quiet (Some x)

abbrev pub effect : Rights → Option Held → Happening → Effect
effect r s Opens = quiet (Some (record { client = fresh; doing = idle }))
effect r s Goes = record { held = None; told = gone_at s; out = [] }
effect r s (Spaces n) = spaced n s
effect r s (Comes marked bytes) = quiet (came r marked bytes s)
effect r s Does = does s
effect r s Rests = quiet (rests s)
effect r s (Gets bytes) = gets r bytes s
effect r s Closes = record { held = None; told = []; out = closed s }
effect r s Leaves = leaves s

-- ---- what is refused

abbrev pub refused_next : Held → List Step → List Refusal
refused_next x [] = []
refused_next x (step ∷ more) = if is_leaving x.client then [] else refused_by step

-- where the next thing is done
abbrev pub refused_where : Option Held → List Refusal
refused_where None = []
refused_where (Some x) = refused_next x x.doing.todo

abbrev pub unsent_by : Rights → Held → List ℕ → List Refusal
unsent_by r x bytes = if may_go r x.client.login bytes then [] else Message ∷ []

-- where the handler inside gives these bytes
abbrev pub unsent : Rights → List ℕ → Option Held → List Refusal
unsent r bytes None = []
unsent r bytes (Some x) = if is_leaving x.client then [] else unsent_by r x (mended x.doing.awaited bytes)

abbrev pub refused_at : Rights → Option Held → Happening → List Refusal
refused_at r s Opens = []
refused_at r s Goes = []
refused_at r s (Spaces n) = []
refused_at r s (Comes marked bytes) = []
refused_at r s Does = refused_where s
refused_at r s Rests = []
refused_at r s (Gets bytes) = unsent r bytes s
refused_at r s Closes = []
refused_at r s Leaves = []

-- ---- one after another

abbrev pub held_after : Rights → Option Held → List Happening → Option Held
held_after r s [] = s
held_after r s (h ∷ hs) = held_after r (effect r s h).held hs

abbrev pub told_in : Rights → Option Held → List Happening → List Said
told_in r s [] = []
told_in r s (h ∷ hs) = (effect r s h).told ++ told_in r (effect r s h).held hs

abbrev pub out_in : Rights → Option Held → List Happening → List Outgoing
out_in r s [] = []
out_in r s (h ∷ hs) = (effect r s h).out ++ out_in r (effect r s h).held hs

abbrev pub refused_in : Rights → Option Held → List Happening → List Refusal
refused_in r s [] = []
refused_in r s (h ∷ hs) = refused_at r s h ++ refused_in r (effect r s h).held hs

-- what comes from outside
abbrev pub met_one : Happening → List Notice
met_one Opens = Open ∷ []
met_one Goes = Gone ∷ []
met_one (Spaces n) = Space n ∷ []
met_one (Comes marked bytes) = Piece bytes ∷ []
met_one _ = []

abbrev pub met_in : List Happening → List Notice
met_in hs = flat_map met_one hs

-- what is still to be done
abbrev pub todo_of : Option Held → List Step
todo_of None = []
todo_of (Some x) = x.doing.todo

-- nothing comes from outside before all is done that was to be done
abbrev pub IsOrderly : Rights → Option Held → List Happening → Type 0
IsOrderly r s [] = Unit {0}
IsOrderly r s (h ∷ hs) = ((met_one h ≡ [] → ⊥) → todo_of s ≡ []) × IsOrderly r (effect r s h).held hs

-- what the handler inside gives
abbrev pub given_one : Happening → List Outgoing
given_one (Gets bytes) = Bytes bytes ∷ []
given_one Closes = End ∷ []
given_one _ = []

abbrev pub given_in : List Happening → List Outgoing
given_in hs = flat_map given_one hs

-- ---- what is for one connection, of events and of what goes out

abbrev pub of_output : ℕ → Output → List Outgoing
of_output q (outputs.Send connection bytes) = if connection == q then Bytes bytes.items ∷ [] else []
of_output q (outputs.Close connection) = if connection == q then End ∷ [] else []

abbrev pub on : ℕ → List Output → List Outgoing
on q given = flat_map (of_output q) given

abbrev pub noted : ℕ → EventKind → List Notice
noted q kinds.Started = []
noted q (kinds.Opened connection) = if connection == q then Open ∷ [] else []
noted q (kinds.Piece connection bytes) = if connection == q then Piece bytes.items ∷ [] else []
noted q (kinds.Room connection bytes) = if connection == q then Space bytes ∷ [] else []
noted q (kinds.Closed connection) = if connection == q then Gone ∷ [] else []
noted q kinds.Tick = []

-- ---- all connections

abbrev pub held_by : Doing → Option Client → Option Held
held_by d None = None
held_by d (Some c) = Some (record { client = c; doing = d })

-- this is done for one of them, and nothing for the others
abbrev pub at : ℕ → Doing → ℕ → Doing
at c d q = if c == q then d else idle

abbrev pub none_busy : ℕ → Doing
none_busy q = idle

abbrev pub staged : (ℕ → Doing) → Clients → ℕ → Option Held
staged busy k q = held_by (busy q) (client_of k q)

-- ---- what happens on a connection while the handler inside is called

-- from one stage to another: what came from outside, what the handler inside was told and what it gave, what is refused, and what goes out beyond this
pub record IsPath (r : Rights) (q : ℕ) (s s' : Option Held) (met told : List Notice) (given : List Output) (refused : List Refused) (out out' : List Output) : Type 0 where
  pub happenings : List Happening
  pub held : s' ≡ held_after r s happenings
  pub orderly : IsOrderly r s happenings
  pub comes : met_in happenings ≡ met
  pub tells : AreSaid (told_in r s happenings) told
  pub gives : given_in happenings ≡ on q given
  pub refuses : refused_on q refused ≡ refused_in r s happenings
  pub goes : on q out' ≡ on q out ++ out_in r s happenings
