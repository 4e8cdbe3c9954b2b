-- Why a door stops: the handler inside has.
use Rattle.std.specs.Prelude.{ℕ, Bool, true, false, Option, Some, None}
use Rattle.broker_sockets.specs.declared.events.Event.{Event}
use Rattle.home_table.specs.Table.{Table}
use Rattle.door_tables.specs.Answering.{IsAsked, IsNewerIf, is_tick}
use Rattle.door_tables.specs.declared.door.Tabled.{Tabled}

module _ {H Fault : Type 0} (refuses : H → Event → Fault → H → Type 0) (denies : H → ℕ → Table → Fault → H → Type 0) where
  -- the handler can't take the table, if there is one, or refuses the event
  abbrev pub IsDenied : Option Table → Event → H → Fault → H → Type 0
  IsDenied None e h fault h' = refuses h e fault h'
  IsDenied (Some homes) e h fault h' = denies h e.at homes fault h'

  module _ {F : Type 0} (goes_by : H → Table) (offers : F → ℕ → Table → Option Table → F → Type 0) where
    pub record IsUnticked (e : Event) (fault : Fault) (d d' : Tabled H F) : Type 0 where
      pub offered : Option Table
      pub asked : IsAsked offers e.at (goes_by d.inside) d.tables offered d'.tables
      pub newer : IsNewerIf (goes_by d.inside) offered
      pub denied : IsDenied offered e d.inside fault d'.inside

    abbrev pub IsRefusedIf : Bool → Event → Fault → Tabled H F → Tabled H F → Type 0
    IsRefusedIf true e fault d d' = IsUnticked e fault d d'
    IsRefusedIf false e fault d d' = refuses d.inside e fault d'.inside

    abbrev pub IsRefused : Tabled H F → Event → Fault → Tabled H F → Type 0
    IsRefused d e fault d' = IsRefusedIf (is_tick e.kind) e fault d d'
