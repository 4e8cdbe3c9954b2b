-- Laws of a door.
use Rattle.std.specs.Prelude.{◌≡◌, ◌↔◌, ◌<◌, ℕ, List, [], ◌∷◌, None}
use Rattle.broker_sockets.specs.declared.bridge.Given.{Given}
use Rattle.broker_sockets.specs.declared.bridge.PeerEvent.{PeerEvent}
use Rattle.broker_sockets.specs.declared.events.Event.{Event}
use Rattle.broker_sockets.specs.declared.events.Output.{Output}
use Rattle.home_table.specs.Table.{Table}
use Rattle.door_tables.specs.Calls.{AreCalled, AreFor, Call, IsCalled, Made, Plain, Taken}
use Rattle.door_tables.specs.Newer.{IsNewer}
use Rattle.door_tables.specs.declared.door.Tabled.{Tabled}

-- each has a greater version than the one before it
abbrev pub Rise : ℕ → List Table → Type 0
Rise version [] = Unit {0}
Rise version (homes ∷ more) = (version < homes.version) × Rise homes.version more

-- the last of them, or the one of before where there is none
abbrev pub last_of : Table → List Table → Table
last_of homes [] = homes
last_of homes (other ∷ more) = last_of other more

-- the relations of a handler
module _ {H : Type 0} (handles : H → Event → List Output → H → Type 0) (hears : H → PeerEvent → Given → H → Type 0) (settles : H → H → Type 0)
    (goes_by : H → Table) (takes : H → ℕ → Table → List Output → H → Type 0) where
  -- the call is made of the handler, or it takes a table that is newer than the one that it went by
  abbrev pub IsMade : Made → H → H → Type 0
  IsMade (Plain call) h h' = IsCalled handles hears settles call h h'
  IsMade (Taken at homes outputs) h h' = takes h at homes outputs h' × IsNewer (goes_by h) homes

  abbrev pub AreMade : List Made → H → H → Type 0
  AreMade [] h h' = h' ≡ h
  AreMade (made ∷ more) h h' = (m : H) × IsMade made h m × AreMade more m h'

  -- and of the door before it
  module _ {F : Type 0} (handles' : Tabled H F → Event → List Output → Tabled H F → Type 0) (hears' : Tabled H F → PeerEvent → Given → Tabled H F → Type 0)
      (settles' : Tabled H F → Tabled H F → Type 0) where
    -- where no tables may come a call of the door is that call of the handler inside
    pub record NoTablesChangeNothing : Type 0 where
      pub handled : (d d' : Tabled H F) (e : Event) (outputs : List Output) → d.tables ≡ None → handles' d e outputs d' ↔ (handles d.inside e outputs d'.inside × (d'.tables ≡ None))
      pub heard : (d d' : Tabled H F) (e : PeerEvent) (given : Given) → hears' d e given d' ↔ (hears d.inside e given d'.inside × (d'.tables ≡ d.tables))
      pub settled : (d d' : Tabled H F) → settles' d d' ↔ (settles d.inside d'.inside × (d'.tables ≡ d.tables))

    -- each call of the door is just that call of the handler inside, but that a newer table may come in place of a tick
    abbrev pub TablesAreNewer : Type 0
    TablesAreNewer =
        (calls : List Call) (d d' : Tabled H F) → AreCalled handles' hears' settles' calls d d'
        → (made : List Made) × AreFor calls made × AreMade made d.inside d'.inside
