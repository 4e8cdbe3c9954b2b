-- What a session's end and an eviction remove (MQTT 5.0, 3.1.2.11.2).
use Rattle.std.specs.Prelude.{◌≡◌, ◌⊎◌, ℕ, ◌<◌, true, List, [], ◌∷◌, ◌++◌, None, Some}
use Rattle.causal_context.specs.Dots.{Dot, Dots}
use Rattle.subscription_set.specs.declared.entry.Entry.{Entry}
use Rattle.replica_store.specs.declared.operation.Operation.{Operation}
use Rattle.replica_store.specs.declared.operation.Operation.TheVariants as operations
use Rattle.replica_store.specs.Operations.{Stands}
use Rattle.node_work.specs.Acts.{Act, Store, Made, Session}
use Rattle.node_work.specs.Held.Sessions.{Over}
use Rattle.node_work.specs.View.{HeldView}
use Rattle.broker_node.specs.declared.event.Event.{Event}
use Rattle.broker_node.specs.declared.event.EventKind.TheVariants as kinds
use Rattle.cluster_play.specs.Worlds.{World}
use Rattle.cluster_play.specs.Runs.{Played}
use Rattle.cluster_play.specs.Histories.{Reached, site, event_committed, acts_of, operations_amid}
use Rattle.cluster_play.specs.NextOperations.{CoversWhatStands, CoversWhatStandsBelow}
use Rattle.cluster_play.specs.Agreement.{HoldsAmid}
use Rattle.law_causes.specs.Causes.{EndsBelow}

-- a step makes one Remove last before these of its acts end: of exactly what stands of the client and was made under a version below one
pub record RemovesLast (run : List Played) (m : Played) (before : List Act) (client : List ℕ) (version : ℕ) : Type 0 where
  pub earlier : List Act
  pub dot : Dot
  pub cover : Dots
  pub is : before ≡ earlier ++ Store (Made (operations.Remove dot cover)) ∷ []
  pub covers : CoversWhatStandsBelow (operations_amid (site m.fate) run earlier) client version cover

-- nothing of that stands
abbrev pub NothingStands : List Operation → List ℕ → ℕ → Type 0
NothingStands O client version = (dot : Dot) (entry : Entry) → Stands O dot entry → entry.client ≡ client → entry.version < version → ⊥

-- a session that is over has directly before that its Remove, or there is nothing to remove
pub record EndsWithRemove (run : List Played) (m : Played) (before : List Act) (client : List ℕ) : Type 0 where
  pub world : World
  pub reached : Reached run world
  pub held : HeldView
  pub there : HoldsAmid world m (site m.fate) before held
  pub version : ℕ
  pub below : EndsBelow held.homes there.holds.site.node.place.id client version
  pub removes : RemovesLast run m before client version ⊎ NothingStands (operations_amid (site m.fate) run before) client version

abbrev pub EndsHaveRemoves : Type 0
EndsHaveRemoves =
    (run later : List Played) (m : Played) (w : World) → Reached (run ++ m ∷ later) w
    → (before after : List Act) (client : List ℕ) → acts_of m.fate ≡ before ++ Session (Over client) ∷ after → EndsWithRemove run m before client

-- ---- an eviction

-- the last act of a step is one Remove of exactly all that stands of the client
pub record RemovesAll (run : List Played) (m : Played) (client : List ℕ) : Type 0 where
  pub before : List Act
  pub dot : Dot
  pub cover : Dots
  pub is : acts_of m.fate ≡ before ++ Store (Made (operations.Remove dot cover)) ∷ []
  pub covers : CoversWhatStands (operations_amid (site m.fate) run before) client None cover

-- nothing of the client stands once the step has ended
abbrev pub LeavesNone : List Played → Played → List ℕ → Type 0
LeavesNone run m client = (dot : Dot) (entry : Entry) → Stands (operations_amid (site m.fate) run (acts_of m.fate)) dot entry → entry.client ≡ client → ⊥

-- a node that has started evicts a client so, or there is nothing to remove
pub record EvictsWithRemove (run : List Played) (m : Played) (client : List ℕ) : Type 0 where
  pub world : World
  pub reached : Reached run world
  pub held : HeldView
  pub there : HoldsAmid world m (site m.fate) [] held
  pub removes : held.started ≡ true → RemovesAll run m client ⊎ LeavesNone run m client

abbrev pub EvictionsHaveRemoves : Type 0
EvictionsHaveRemoves =
    (run later : List Played) (m : Played) (w : World) → Reached (run ++ m ∷ later) w
    → (e : Event) (client : List ℕ) → event_committed m.fate ≡ Some e → e.kind ≡ kinds.Evict client → EvictsWithRemove run m client
