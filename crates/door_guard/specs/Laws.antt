-- Laws of a handler that guards.
use Rattle.std.specs.Prelude.{◌≡◌, ◌↔◌, ◌⊎◌, ℕ, List, [], ◌∷◌, ◌++◌, true, None, Some, Option, Ok}
use Rattle.std.specs.List.{AllByRecursion}
use Rattle.broker_sockets.specs.declared.bridge.Given.{Given}
use Rattle.broker_sockets.specs.declared.bridge.PeerEvent.{PeerEvent}
use Rattle.broker_sockets.specs.declared.events.Event.{Event}
use Rattle.broker_sockets.specs.declared.events.Output.{Output}
use Rattle.mqtt_packets.specs.Stream.{packet_at}
use Rattle.mqtt_packets.specs.declared.connect.Connect.{Connect}
use Rattle.mqtt_packets.specs.declared.packet.Packet.{Packet}
use Rattle.mqtt_packets.specs.declared.packet.Packet.TheVariants as packets
use Rattle.mqtt_packets.specs.declared.publish.Publish.{Publish}
use Rattle.mqtt_bounds.specs.Pieces.{cut, front_at}
use Rattle.mqtt_bounds.specs.declared.front.Front.TheVariants as fronts
use Rattle.door_guard.specs.Answering.{refusals_of}
use Rattle.door_guard.specs.Calls.{AreMade, Call, given_of, noted_of}
use Rattle.door_guard.specs.Clients.{client_of}
use Rattle.door_guard.specs.Counts.{Refused, all_counted, none_refused, refused_on}
use Rattle.door_guard.specs.Replies.{IsAnswer}
use Rattle.door_packets.specs.Packets.{has_topic, is_will_allowed}
use Rattle.door_packets.specs.Packets.{login_of as names_of}
use Rattle.door_packets.specs.Rights.{Rights}
use Rattle.door_guard.specs.Stages.{AreSaid, Happening, Held, IsOrderly, Outgoing, Said, effect, given_in, held_after, met_in, on, out_in, refused_in, todo_of, told_in}
use Rattle.door_guard.specs.Stages.Happening.{Opens, Comes}
use Rattle.door_guard.specs.Stages.Notice.{Piece}
use Rattle.door_guard.specs.Stages.Outgoing.{Bytes, End}
use Rattle.door_guard.specs.Stages.Said.{Same, Made}
use Rattle.door_packets.specs.Walk.{fresh}
use Rattle.door_packets.specs.Coming.{limit}
use Rattle.door_packets.specs.declared.access.Admission.TheVariants.{Admitted}
use Rattle.door_packets.specs.declared.access.Login.{Login}
use Rattle.door_guard.specs.declared.door.Door.{Door}
use Rattle.door_guard.specs.declared.fault.GuardFault.{GuardFault}
use Rattle.door_guard.specs.declared.fault.GuardFault.TheVariants.{NoMemory, Inside}
use Rattle.door_guard.specs.declared.guarded.Guarded.{Guarded}

-- ---- without users it is the handler inside

module _ {H A : Type 0} (handles : H → Event → List Output → H → Type 0) (hears : H → PeerEvent → Given → H → Type 0) (settles : H → H → Type 0)
    (handles' : Guarded H A → Event → List Output → Guarded H A → Type 0) (hears' : Guarded H A → PeerEvent → Given → Guarded H A → Type 0)
    (settles' : Guarded H A → Guarded H A → Type 0) where
  pub record NoUsersChangeNothing : Type 0 where
    pub handled : (d d' : Guarded H A) (e : Event) (outputs : List Output) → d.door ≡ None → handles' d e outputs d' ↔ (handles d.inside e outputs d'.inside × (d'.door ≡ None))
    pub heard : (d d' : Guarded H A) (e : PeerEvent) (given : Given) → d.door ≡ None → hears' d e given d' ↔ (hears d.inside e given d'.inside × (d'.door ≡ None))
    pub settled : (d d' : Guarded H A) → d.door ≡ None → settles' d d' ↔ (settles d.inside d'.inside × (d'.door ≡ None))
    pub counted : (d : Guarded H A) → d.door ≡ None → refusals_of d.door ≡ none_refused

module _ {H A F : Type 0} (refuses : H → Event → F → H → Type 0) (declines : H → PeerEvent → F → H → Type 0) (stops : H → F → H → Type 0)
    (refuses' : Guarded H A → Event → GuardFault F → Guarded H A → Type 0) (declines' : Guarded H A → PeerEvent → GuardFault F → Guarded H A → Type 0)
    (stops' : Guarded H A → GuardFault F → Guarded H A → Type 0) where
  pub record NoUsersNoFaults : Type 0 where
    pub refused : (d d' : Guarded H A) (e : Event) (fault : F) → d.door ≡ None → refuses' d e (Inside fault) d' ↔ refuses d.inside e fault d'.inside
    pub enough : (d d' : Guarded H A) (e : Event) → d.door ≡ None → refuses' d e NoMemory d' → ⊥
    pub declined : (d d' : Guarded H A) (e : PeerEvent) (fault : F) → d.door ≡ None → declines' d e (Inside fault) d' ↔ declines d.inside e fault d'.inside
    pub enough_to_hear : (d d' : Guarded H A) (e : PeerEvent) → d.door ≡ None → declines' d e NoMemory d' → ⊥
    pub stopped : (d d' : Guarded H A) (fault : F) → stops' d (Inside fault) d' ↔ stops d.inside fault d'.inside
    pub enough_to_settle : (d d' : Guarded H A) → stops' d NoMemory d' → ⊥

-- ---- with users

-- Of one connection, from before its first event: what happened on it. The events that came are those of these calls, and what was given is what the handler
-- inside gave in its own. All that is to be done for an event is done before the next one comes, and before the last call ends. Then this is what the handler
-- inside was told, what was refused, and what went out.
pub record IsFollowed (r : Rights) (q : ℕ) (calls inside : List Call) (refused : List Refused) : Type 0 where
  pub happenings : List Happening
  pub met : met_in happenings ≡ noted_of q calls
  pub given : given_in happenings ≡ on q (given_of inside)
  pub orderly : IsOrderly r None happenings
  pub done : todo_of (held_after r None happenings) ≡ []
  pub told : AreSaid (told_in r None happenings) (noted_of q inside)
  pub refuses : refused_on q refused ≡ refused_in r None happenings
  pub out : on q (given_of calls) ≡ out_in r None happenings

module _ {H A : Type 0} (handles : H → Event → List Output → H → Type 0) (hears : H → PeerEvent → Given → H → Type 0) (settles : H → H → Type 0) (rights : A → Rights)
    (handles' : Guarded H A → Event → List Output → Guarded H A → Type 0) (hears' : Guarded H A → PeerEvent → Given → Guarded H A → Type 0)
    (settles' : Guarded H A → Guarded H A → Type 0) where
  -- whatever calls are made, from where no connection is open, they are calls of the handler inside, each connection is followed, and just what was refused on
  -- one of them is counted
  abbrev pub EachIsFollowed : Type 0
  EachIsFollowed =
      (calls : List Call) (d d' : Guarded H A) (k : Door A) → d.door ≡ Some k → ((q : ℕ) → client_of k.known.clients q ≡ None) → AreMade handles' hears' settles' calls d d'
      → (inside : List Call) × (refused : List Refused) × AreMade handles hears settles inside d.inside d'.inside × (refusals_of d'.door ≡ all_counted refused k.known.refusals)
      × ((q : ℕ) → IsFollowed (rights k.access) q calls inside refused)

-- ---- of what happens on a connection, whatever that is

-- who was let in
abbrev pub login_of : Option Held → Option Login
login_of None = None
login_of (Some x) = x.client.login

-- the bytes that came since it was opened, where these came before
abbrev pub came_by : List ℕ → Happening → List ℕ
came_by came Opens = []
came_by came (Comes marked bytes) = came ++ bytes
came_by came h = came

abbrev pub came_since : List ℕ → List Happening → List ℕ
came_since came [] = came
came_since came (h ∷ hs) = came_since (came_by came h) hs

-- a packet is a CONNECT under these names, whose password is the user's; it may take its identifier, and publish to the topic of its will
pub record IsNamed (r : Rights) (bytes : List ℕ) (l : Login) : Type 0 where
  pub connect : Connect
  pub rest : List ℕ
  pub read : packet_at bytes ≡ Ok (Some (packets.Connect connect, rest))
  pub names : names_of connect ≡ l
  pub admitted : r.admission connect.user_name connect.password ≡ Admitted
  pub connects : r.may_connect (names_of connect) ≡ true
  pub will : is_will_allowed r (names_of connect) connect.will ≡ true

-- so is the first packet of all that came
pub record IsEntered (r : Rights) (came : List ℕ) (l : Login) : Type 0 where
  pub bytes : List ℕ
  pub later : List (List ℕ)
  pub first : (cut limit came).packets ≡ bytes ∷ later
  pub named : IsNamed r bytes l

-- A packet that this client may send: a PUBLISH that names a topic which may be written (of aliases `AliasesAreFollowed` tells), and a SUBSCRIBE to filters to which it may subscribe
abbrev pub MaySend : Rights → Login → Packet → Type 0
MaySend r l (packets.Publish p) = has_topic p ≡ true → r.may_write l p.topic ≡ true
MaySend r l (packets.Subscribe s) = AllByRecursion (λ f. r.may_subscribe l f.filter ≡ true) s.filters
MaySend r l p = Unit {0}

-- bytes begin no packet of at most 1,048,576 bytes
abbrev pub IsUnread : List ℕ → Type 0
IsUnread bs = (front_at limit bs ≡ fronts.TooLong) ⊎ (front_at limit bs ≡ fronts.Broken)

abbrev pub IsNoConnect : Packet → Type 0
IsNoConnect (packets.Connect c) = ⊥
IsNoConnect p = Unit {0}

-- a packet, of one who was let in or wasn't
abbrev pub IsLet : Rights → Option Login → Packet → Type 0
IsLet r None p = IsNoConnect p
IsLet r (Some l) p = MaySend r l p

-- the packet that is read from these bytes, if one is, is so
abbrev pub IsReadLet : Rights → Option Login → List ℕ → Type 0
IsReadLet r l bs = (p : Packet) (rest : List ℕ) → packet_at bs ≡ Ok (Some (p, rest)) → IsLet r l p

abbrev pub MayTell : Rights → Option Login → List ℕ → Type 0
MayTell r l bs = IsReadLet r l bs ⊎ IsUnread bs

abbrev pub MaySay : Rights → Option Login → Said → Type 0
MaySay r l (Same (Piece bs)) = MayTell r l bs
MaySay r l (Same n) = Unit {0}
MaySay r l (Made p) = IsLet r l p

-- a PUBLISH is on a topic that this client may read
abbrev pub MayReceive : Rights → Option Login → Publish → Type 0
MayReceive r l p = (x : Login) × (l ≡ Some x) × (r.may_read x p.topic ≡ true)

-- whole packets, of which each PUBLISH is so
pub record AreReadable (r : Rights) (l : Option Login) (bs : List ℕ) : Type 0 where
  pub whole : (cut 268435460 bs).rest ≡ []
  pub each : AllByRecursion (λ x. (p : Publish) (rest : List ℕ) → packet_at x ≡ Ok (Some (packets.Publish p, rest)) → MayReceive r l p) (cut 268435460 bs).packets

abbrev pub MayGoOut : Rights → Option Login → Outgoing → Type 0
MayGoOut r l (Bytes bs) = AreReadable r l bs ⊎ IsAnswer bs
MayGoOut r l End = Unit {0}

-- it isn't open any more, or nothing of it came yet
abbrev pub IsFreed : Option Held → Type 0
IsFreed None = Unit {0}
IsFreed (Some x) = x.client ≡ fresh

-- On a connection on which these happened, from before its first event:
pub record OnlyTheirs (r : Rights) : Type 0 where
  -- who is let in is named by the CONNECT that came first, and admitted by its password
  pub admitted : (hs : List Happening) (l : Login) → login_of (held_after r None hs) ≡ Some l → IsEntered r (came_since [] hs) l
  -- what the handler inside is told next is what this one may send
  pub told : (hs : List Happening) (h : Happening) → AllByRecursion (MaySay r (login_of (held_after r None hs))) (effect r (held_after r None hs) h).told
  -- what goes out next is what this one may read, or answers it
  pub out : (hs : List Happening) (h : Happening) → AllByRecursion (MayGoOut r (login_of (held_after r None hs))) (effect r (held_after r None hs) h).out
  -- who was let in stays that until the connection is opened anew or is gone
  pub stays : (hs : List Happening) (h : Happening) (l : Login) → login_of (held_after r None hs) ≡ Some l
      → (login_of (effect r (held_after r None hs) h).held ≡ Some l) ⊎ ((login_of (effect r (held_after r None hs) h).held ≡ None) × IsFreed (effect r (held_after r None hs) h).held)
