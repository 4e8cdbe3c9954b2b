-- What a handler with limits makes of an event, from what the handler inside makes of what it is told.
use Rattle.std.specs.Prelude.{◌≡◌, not, ℕ, List, [], ◌∷◌, Bool, true, false, Option, Some, None, is_some}
use Rattle.broker_sockets.specs.declared.bridge.Given.{Given}
use Rattle.broker_sockets.specs.declared.bridge.PeerEvent.{PeerEvent}
use Rattle.broker_sockets.specs.declared.events.Event.{Event}
use Rattle.broker_sockets.specs.declared.events.EventKind.{EventKind}
use Rattle.broker_sockets.specs.declared.events.EventKind.TheVariants.{Started, Opened, Piece, Room, Closed, Tick}
use Rattle.broker_sockets.specs.declared.events.Output.{Output}
use Rattle.broker_sockets.specs.declared.events.Output.TheVariants.{Close}
use Rattle.mqtt_bounds.specs.declared.bounds.Bounds.{Bounds}
use Rattle.door_bounds.specs.Clients.{AreNoted, IsBut, client_of}
use Rattle.door_bounds.specs.Limits.{full_after}
use Rattle.door_bounds.specs.Telling.{AreSteps, IsTold}
use Rattle.door_bounds.specs.Walk.{come, fresh}
use Rattle.door_bounds.specs.declared.bounded.Bounded.{Bounded}
use Rattle.door_bounds.specs.declared.client.Client.{Client}
use Rattle.door_bounds.specs.declared.clients.Clients.{Clients}
use Rattle.door_bounds.specs.declared.door.Door.{Door}

-- ---- memory

-- so much is held
abbrev pub weighed : Option ℕ → Door → Door
weighed held k = record k { full = full_after k.limits.most_memory held k.full }

-- at a tick it is asked how much that is
abbrev pub IsWeighed : EventKind → Door → Door → Type 0
IsWeighed Tick k k' = (held : Option ℕ) × (k' ≡ weighed held k)
IsWeighed kind k k' = k' ≡ k

-- ---- of what the handler inside is told

-- of a client that is opened while there is room, and then of all that comes of it
abbrev pub is_let_in : Door → EventKind → Bool
is_let_in k Started = true
is_let_in k (Opened c) = not k.full
is_let_in k (Piece c bytes) = is_some (client_of k.clients c)
is_let_in k (Room c bytes) = is_some (client_of k.clients c)
is_let_in k (Closed c) = is_some (client_of k.clients c)
is_let_in k Tick = true

-- what goes out where it isn't told: a client for which there is no room is closed
abbrev pub instead : EventKind → List Output
instead (Opened c) = Close c ∷ []
instead kind = []

-- a connection is open from now on, or not any more
abbrev pub IsMet : EventKind → Clients → Clients → Type 0
IsMet (Opened c) k k' = IsBut c (Some fresh) k k'
IsMet (Closed c) k k' = IsBut c None k k'
IsMet kind k k' = k' ≡ k

-- the limits and whether there is room are as they were
abbrev pub Stays : Door → Door → Type 0
Stays k k' = (k'.limits ≡ k.limits) × (k'.full ≡ k.full)

module _ {H : Type 0} (handles : H → Event → List Output → H → Type 0) where
  -- the handler inside is told of the event as it is
  pub record IsPlain (e : Event) (h h' : H) (k k' : Clients) (outputs : List Output) : Type 0 where
    pub met : Clients
    pub meets : IsMet e.kind k met
    pub told : IsTold handles e outputs h h' met k'

  -- bytes came on a connection that is open
  pub record IsCame (b : Bounds) (full : Bool) (at q : ℕ) (bs : List ℕ) (client : Client) (h h' : H) (k k' : Clients) (outputs : List Output) : Type 0 where
    pub known : Clients
    pub kept : IsBut q (Some (come b full client bs).client) k known
    pub did : AreSteps handles at q (come b full client bs).steps h h' known k' [] outputs

  abbrev pub IsCameFrom : Option Client → Bounds → Bool → ℕ → ℕ → List ℕ → H → H → Clients → Clients → List Output → Type 0
  IsCameFrom None b full at q bs h h' k k' outputs = (outputs ≡ []) × (h' ≡ h) × IsBut q None k k'
  IsCameFrom (Some client) b full at q bs h h' k k' outputs = IsCame b full at q bs client h h' k k' outputs

  abbrev pub IsCameOn : Bounds → Bool → ℕ → ℕ → List ℕ → H → H → Clients → Clients → List Output → Type 0
  IsCameOn b full at q bs h h' k k' outputs = IsCameFrom (client_of k q) b full at q bs h h' k k' outputs

  abbrev pub IsPlainOn : Event → H → H → Door → Door → List Output → Type 0
  IsPlainOn e h h' k k' outputs = IsPlain e h h' k.clients k'.clients outputs × Stays k k'

  abbrev pub IsLetIn : EventKind → Event → H → H → Door → Door → List Output → Type 0
  IsLetIn (Piece q bytes) e h h' k k' outputs = IsCameOn k.limits.packets k.full e.at q bytes.items h h' k.clients k'.clients outputs × Stays k k'
  IsLetIn kind e h h' k k' outputs = IsPlainOn e h h' k k' outputs

  abbrev pub IsAnsweredOn : Bool → Event → H → H → Door → Door → List Output → Type 0
  IsAnsweredOn true e h h' k k' outputs = IsLetIn e.kind e h h' k k' outputs
  IsAnsweredOn false e h h' k k' outputs = (outputs ≡ instead e.kind) × (h' ≡ h) × (k' ≡ k)

  abbrev pub IsAnsweredIf : Option Door → Option Door → Event → H → H → List Output → Type 0
  IsAnsweredIf None k' e h h' outputs = handles h e outputs h' × (k' ≡ None)
  IsAnsweredIf (Some k) None e h h' outputs = ⊥
  IsAnsweredIf (Some k) (Some k') e h h' outputs = (m : Door) × IsWeighed e.kind k m × IsAnsweredOn (is_let_in m e.kind) e h h' m k' outputs

  -- without limits the handler inside is told the event, and what it gives goes out
  abbrev pub IsAnswered : {G : Type 0} → Bounded H G → Event → List Output → Bounded H G → Type 0
  IsAnswered d e outputs d' = IsAnsweredIf d.door d'.door e d.inside d'.inside outputs

-- ---- what other nodes bring about, and settling

abbrev pub IsHeardIf : Option Door → Option Door → List Output → Type 0
IsHeardIf None k' outputs = k' ≡ None
IsHeardIf (Some k) None outputs = ⊥
IsHeardIf (Some k) (Some k') outputs = AreNoted outputs k.clients k'.clients × Stays k k'

-- the handler inside is told it as it is, and just what it gives goes out
abbrev pub IsHeard : {H G : Type 0} → (H → PeerEvent → Given → H → Type 0) → Bounded H G → PeerEvent → Given → Bounded H G → Type 0
IsHeard hears d e given d' = hears d.inside e given d'.inside × IsHeardIf d.door d'.door given.outputs.items

abbrev pub IsSettled : {H G : Type 0} → (H → H → Type 0) → Bounded H G → Bounded H G → Type 0
IsSettled settles d d' = settles d.inside d'.inside × (d'.door ≡ d.door)
