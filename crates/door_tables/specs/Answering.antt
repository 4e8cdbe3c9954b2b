-- What a door makes of an event, from what the handler inside makes of what it is told and given.
use Rattle.std.specs.Prelude.{◌≡◌, ℕ, List, Bool, true, false, Option, Some, None}
use Rattle.broker_sockets.specs.declared.bridge.Given.{Given}
use Rattle.broker_sockets.specs.declared.bridge.PeerEvent.{PeerEvent}
use Rattle.broker_sockets.specs.declared.events.Event.{Event}
use Rattle.broker_sockets.specs.declared.events.EventKind.{EventKind}
use Rattle.broker_sockets.specs.declared.events.EventKind.TheVariants.{Tick}
use Rattle.broker_sockets.specs.declared.events.Output.{Output}
use Rattle.home_table.specs.Table.{Table}
use Rattle.door_tables.specs.Newer.{IsNewer}
use Rattle.door_tables.specs.declared.door.Tabled.{Tabled}

abbrev pub is_tick : EventKind → Bool
is_tick Tick = true
is_tick _ = false

-- a newer table, if there is one
abbrev pub IsNewerIf : Table → Option Table → Type 0
IsNewerIf homes None = Unit {0}
IsNewerIf homes (Some other) = IsNewer homes other

-- where tables may come, it is asked once whether there is one
abbrev pub IsAsked : {F : Type 0} → (F → ℕ → Table → Option Table → F → Type 0) → ℕ → Table → Option F → Option Table → Option F → Type 0
IsAsked offers at homes None offered tables' = (offered ≡ None) × (tables' ≡ None)
IsAsked {F = F} offers at homes (Some tables) offered tables' = (after : F) × offers tables at homes offered after × (tables' ≡ Some after)

module _ {H : Type 0} (handles : H → Event → List Output → H → Type 0) (takes : H → ℕ → Table → List Output → H → Type 0) where
  -- the handler takes the table at the moment of the event, if there is one, and else is told the event
  abbrev pub IsGiven : Option Table → Event → H → List Output → H → Type 0
  IsGiven None e h outputs h' = handles h e outputs h'
  IsGiven (Some homes) e h outputs h' = takes h e.at homes outputs h'

  module _ {F : Type 0} (goes_by : H → Table) (offers : F → ℕ → Table → Option Table → F → Type 0) where
    pub record IsTicked (e : Event) (outputs : List Output) (d d' : Tabled H F) : Type 0 where
      pub offered : Option Table
      pub asked : IsAsked offers e.at (goes_by d.inside) d.tables offered d'.tables
      pub newer : IsNewerIf (goes_by d.inside) offered
      pub given : IsGiven offered e d.inside outputs d'.inside

    -- at another event nobody is asked, and the handler inside is told
    pub record IsHandedOn (e : Event) (outputs : List Output) (d d' : Tabled H F) : Type 0 where
      pub answered : handles d.inside e outputs d'.inside
      pub tables : d'.tables ≡ d.tables

    abbrev pub IsAnsweredIf : Bool → Event → List Output → Tabled H F → Tabled H F → Type 0
    IsAnsweredIf true e outputs d d' = IsTicked e outputs d d'
    IsAnsweredIf false e outputs d d' = IsHandedOn e outputs d d'

    abbrev pub IsAnswered : Tabled H F → Event → List Output → Tabled H F → Type 0
    IsAnswered d e outputs d' = IsAnsweredIf (is_tick e.kind) e outputs d d'

module _ {H F : Type 0} where
  -- the handler inside is told what other nodes bring about, and just what it gives out goes out
  abbrev pub IsHeard : (H → PeerEvent → Given → H → Type 0) → Tabled H F → PeerEvent → Given → Tabled H F → Type 0
  IsHeard hears d e given d' = hears d.inside e given d'.inside × (d'.tables ≡ d.tables)

  -- it settles
  abbrev pub IsSettled : (H → H → Type 0) → Tabled H F → Tabled H F → Type 0
  IsSettled settles d d' = settles d.inside d'.inside × (d'.tables ≡ d.tables)
