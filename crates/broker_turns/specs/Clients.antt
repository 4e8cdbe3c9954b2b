-- What outputs make of clients, for which of them something is due, and how much their connections take.
use Rattle.std.specs.Prelude.{◌≡◌, ℕ, List, [], ◌∷◌, ◌++◌, ◌||◌, ◌&&◌, ◌-◌, ◌<◌, Bool, true, false, eqb, ltb, not, length, if◌then◌else◌, Option, Some, None}
use Rattle.slab.specs.Slab.{Slab, Updates, get}
use Rattle.broker_sockets.specs.declared.events.Output.{Output}
use Rattle.broker_sockets.specs.declared.events.Output.TheVariants.{Send, Close}
use Rattle.broker_turns.specs.declared.clients.Client.{Client}
use Rattle.broker_turns.specs.Numbers.{AreThose, is_among}

module _ {T : Type 0} where
  -- nothing waits for it yet, and the handler wasn't told how much it takes
  abbrev pub fresh : T → Client T
  fresh stream = record { stream = stream; unsent = []; closing = false; untold = true }

  -- something waits for it, or it closes
  abbrev pub is_due : Client T → Bool
  is_due client = client.closing || not (eqb (length client.unsent) 0)

  abbrev pub is_due_at : Option (Client T) → Bool
  is_due_at None = false
  is_due_at (Some client) = is_due client

  -- one that doesn't close takes more where bytes were sent to it since the handler was told how much it takes, and fewer than 262,144 wait
  abbrev pub takes_more : Client T → Bool
  takes_more client = client.untold && (not client.closing && ltb (length client.unsent) 262144)

  abbrev pub takes_more_at : Option (Client T) → Bool
  takes_more_at None = false
  takes_more_at (Some client) = takes_more client

  -- it takes what is missing to 1,048,576 bytes
  abbrev pub room_of : Client T → ℕ
  room_of client = 1048576 - length client.unsent

  -- it is due, or the handler may have to be told how much it takes
  abbrev pub is_noted : Client T → Bool
  is_noted client = client.untold || is_due client

  abbrev pub is_noted_at : Option (Client T) → Bool
  is_noted_at None = false
  is_noted_at (Some client) = is_noted client

  -- each of these is named, and others may be
  abbrev pub AreNamed : Slab (Client T) → List ℕ → Type 0
  AreNamed clients keys = (key : ℕ) → is_noted_at (get clients key) ≡ true → is_among keys key ≡ true

  -- where nothing was sent to it since the handler was told, fewer than 262,144 bytes wait
  abbrev pub IsMinded : Client T → Type 0
  IsMinded client = client.untold ≡ false → length client.unsent < 262144

  abbrev pub AreMinded : Slab (Client T) → Type 0
  AreMinded clients = (key : ℕ) (client : Client T) → get clients key ≡ Some client → IsMinded client

  -- just those that are due, rising
  abbrev pub AreDue : Slab (Client T) → List ℕ → Type 0
  AreDue clients keys = AreThose (λ key. is_due_at (get clients key)) keys

  -- bytes wait behind the others, unless the connection closes; what it takes then isn't told yet
  abbrev pub sent : List ℕ → Client T → Client T
  sent bytes client = if client.closing then client else record client { unsent = client.unsent ++ bytes; untold = true }

  abbrev pub closed : Client T → Client T
  closed client = record client { closing = true }

  -- how much a connection takes, where it takes more than was told, is told from now on
  abbrev pub RoomTaken : ℕ → Slab (Client T) → Option ℕ → Slab (Client T) → Type 0
  RoomTaken key old None new = (takes_more_at (get old key) ≡ false) × (new ≡ old)
  RoomTaken key old (Some bytes) new =
      (client : Client T) × (get old key ≡ Some client) × (takes_more client ≡ true) × (bytes ≡ room_of client) × Updates old new key (Some (record client { untold = false }))

  -- what an output makes of the client of a connection
  abbrev pub told : ℕ → Output → Client T → Client T
  told key (Send connection bytes) client = if eqb connection key then sent bytes.items client else client
  told key (Close connection) client = if eqb connection key then closed client else client

  -- what outputs make of it, in order
  abbrev pub told_all : ℕ → List Output → Client T → Client T
  told_all key [] client = client
  told_all key (output ∷ outputs) client = told_all key outputs (told key output client)

  abbrev pub told_at : ℕ → List Output → Option (Client T) → Option (Client T)
  told_at key outputs None = None
  told_at key outputs (Some client) = Some (told_all key outputs client)

  -- each client has what the outputs make of it
  abbrev pub Released : List Output → Slab (Client T) → Slab (Client T) → Type 0
  Released outputs old new = (key : ℕ) → get new key ≡ told_at key outputs (get old key)
