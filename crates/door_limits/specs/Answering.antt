-- What a door makes of an event, from what the handler inside makes of what it is told.
use Rattle.std.specs.Prelude.{◌≡◌, ◌++◌, ◌∷◌, [], ℕ, List, Bool, true, false, flat_map, Some}
use Rattle.std.specs.FinMap as map
use Rattle.broker_sockets.specs.declared.bridge.Given.{Given}
use Rattle.broker_sockets.specs.declared.bridge.PeerEvent.{PeerEvent}
use Rattle.broker_sockets.specs.declared.events.Event.{Event}
use Rattle.broker_sockets.specs.declared.events.EventKind.{EventKind}
use Rattle.broker_sockets.specs.declared.events.EventKind.TheVariants.{Started, Opened, Piece, Room, Closed, Tick}
use Rattle.broker_sockets.specs.declared.events.Output.{Output}
use Rattle.broker_sockets.specs.declared.events.Output.TheVariants.{Close}
use Rattle.door_limits.specs.Connected.{Connected, IsLate, NoneIsLate, after}
use Rattle.door_limits.specs.Limits.{are_none, has_room}
use Rattle.door_limits.specs.declared.limited.Limited.{Limited}
use Rattle.door_limits.specs.declared.limits.Limits.{Limits}

-- ---- of what the handler inside is told

-- of a client it is told while there is room, and then of all that comes of it
abbrev pub is_told : Limits → Connected → EventKind → Bool
is_told limits known Started = true
is_told limits known (Opened connection) = has_room limits.most (map.len known)
is_told limits known (Piece connection bytes) = map.contains_key known connection
is_told limits known (Room connection bytes) = map.contains_key known connection
is_told limits known (Closed connection) = map.contains_key known connection
is_told limits known Tick = true

-- what is given out where it isn't told: one that found no room is closed
abbrev pub instead : EventKind → List Output
instead Started = []
instead (Opened connection) = Close connection ∷ []
instead (Piece connection bytes) = []
instead (Room connection bytes) = []
instead (Closed connection) = []
instead Tick = []

abbrev pub is_tick : EventKind → Bool
is_tick Started = false
is_tick (Opened connection) = false
is_tick (Piece connection bytes) = false
is_tick (Room connection bytes) = false
is_tick (Closed connection) = false
is_tick Tick = true

abbrev pub met_kind : ℕ → EventKind → Connected → Connected
met_kind at Started known = known
met_kind at (Opened connection) known = map.insert known connection (Some at)
met_kind at (Piece connection bytes) known = known
met_kind at (Room connection bytes) known = known
met_kind at (Closed connection) known = map.remove known connection
met_kind at Tick known = known

-- the connections that are open from the event on
abbrev pub met : Event → Connected → Connected
met e known = met_kind e.at e.kind known

-- a connection is gone
abbrev pub gone : ℕ → ℕ → Event
gone at connection = record { at = at; kind = Closed connection }

-- ---- an event

-- a connection that is closed, and what was given out when the handler inside was told that it is gone
abbrev pub Cut : Type 0
Cut = ℕ × List Output

-- what was given out goes out, and then the close
abbrev pub closings : List Cut → List Output
closings cuts = flat_map (λ c. c.1 ++ Close c.0 ∷ []) cuts

module _ {H : Type 0} (handles : H → Event → List Output → H → Type 0) where
  -- the handler inside is told, and what it gives out is noted
  pub record IsPassed (e : Event) (given : List Output) (d d' : Limited H) : Type 0 where
    pub answered : handles d.inside e given d'.inside
    pub connections : d'.connections ≡ after given d.connections
    pub limits : d'.limits ≡ d.limits

  -- the same, from the event on
  pub record IsTold (e : Event) (given : List Output) (d d' : Limited H) : Type 0 where
    pub answered : handles d.inside e given d'.inside
    pub connections : d'.connections ≡ after given (met e d.connections)
    pub limits : d'.limits ≡ d.limits

  -- of a connection that is late it is told that it is gone
  pub record IsCut (at : ℕ) (cut : Cut) (d d' : Limited H) : Type 0 where
    pub late : IsLate d.limits.within at d.connections cut.0
    pub told : IsTold (gone at cut.0) cut.1 d d'

  -- one after another
  abbrev pub AreCut : ℕ → List Cut → Limited H → Limited H → Type 0
  AreCut at [] d d' = d' ≡ d
  AreCut at (cut ∷ more) d d' = (m : Limited H) × IsCut at cut d m × AreCut at more m d'

  -- until none is late
  pub record AreAllCut (at : ℕ) (cuts : List Cut) (d d' : Limited H) : Type 0 where
    pub each : AreCut at cuts d d'
    pub none : NoneIsLate d'.limits.within at d'.connections

  -- that is done at a tick
  abbrev pub AreCutIf : Bool → ℕ → List Cut → Limited H → Limited H → Type 0
  AreCutIf true at cuts d d' = AreAllCut at cuts d d'
  AreCutIf false at cuts d d' = (cuts ≡ []) × (d' ≡ d)

  -- the handler inside is told of the event; all that it gives out goes out, and then what comes of connections that are late
  pub record IsLetIn (e : Event) (outputs : List Output) (d d' : Limited H) : Type 0 where
    pub given : List Output
    pub between : Limited H
    pub told : IsTold e given d between
    pub cuts : List Cut
    pub swept : AreCutIf (is_tick e.kind) e.at cuts between d'
    pub all : outputs ≡ given ++ closings cuts

  abbrev pub IsAnsweredBy : Bool → Event → List Output → Limited H → Limited H → Type 0
  IsAnsweredBy true e outputs d d' = IsLetIn e outputs d d'
  IsAnsweredBy false e outputs d d' = (outputs ≡ instead e.kind) × (d' ≡ d)

  -- without limits the handler inside is told all, and just what it gives out goes out
  pub record IsHandedOn (e : Event) (outputs : List Output) (d d' : Limited H) : Type 0 where
    pub answered : handles d.inside e outputs d'.inside
    pub connections : d'.connections ≡ d.connections
    pub limits : d'.limits ≡ d.limits

  abbrev pub IsAnsweredIf : Bool → Event → List Output → Limited H → Limited H → Type 0
  IsAnsweredIf true e outputs d d' = IsHandedOn e outputs d d'
  IsAnsweredIf false e outputs d d' = IsAnsweredBy (is_told d.limits d.connections e.kind) e outputs d d'

  -- what a door makes of an event
  abbrev pub IsAnswered : Limited H → Event → List Output → Limited H → Type 0
  IsAnswered d e outputs d' = IsAnsweredIf (are_none d.limits) e outputs d d'

  -- ---- its parts

  -- a connection is let go: the handler inside is told that it is gone, what it gives out goes out, and then the close
  pub record IsLetGo (at connection : ℕ) (d : Limited H) (outputs : List Output) (d' : Limited H) (outputs' : List Output) : Type 0 where
    pub given : List Output
    pub told : IsTold (gone at connection) given d d'
    pub all : outputs' ≡ outputs ++ given ++ Close connection ∷ []

  -- those that are late are let go
  pub record IsSwept (at : ℕ) (d : Limited H) (outputs : List Output) (d' : Limited H) (outputs' : List Output) : Type 0 where
    pub cuts : List Cut
    pub swept : AreAllCut at cuts d d'
    pub all : outputs' ≡ outputs ++ closings cuts

-- ---- what other nodes bring about, and settling

abbrev pub after_if : Bool → List Output → Connected → Connected
after_if true outputs known = known
after_if false outputs known = after outputs known

-- the handler inside is told all that other nodes bring about, and just what it gives out goes out
pub record IsHeard {H : Type 0} (hears : H → PeerEvent → Given → H → Type 0) (d : Limited H) (e : PeerEvent) (given : Given) (d' : Limited H) : Type 0 where
  pub heard : hears d.inside e given d'.inside
  pub connections : d'.connections ≡ after_if (are_none d.limits) given.outputs.items d.connections
  pub limits : d'.limits ≡ d.limits

pub record IsSettled {H : Type 0} (settles : H → H → Type 0) (d d' : Limited H) : Type 0 where
  pub settled : settles d.inside d'.inside
  pub connections : d'.connections ≡ d.connections
  pub limits : d'.limits ≡ d.limits
