-- Which copies a step makes of a message that it passes on.
use Rattle.std.specs.Prelude.{◌≡◌, ◌↔◌, ℕ, ◌++◌, List, ◌∷◌, Some}
use Rattle.causal_context.specs.Dots.{Dot}
use Rattle.mqtt_message.specs.declared.message.Message.{Message}
use Rattle.subscription_set.specs.declared.entry.Entry.{Entry}
use Rattle.subscription_set.specs.Standing.{find_entry, live}
use Rattle.replica_store.specs.Operations.{IsLive}
use Rattle.bridge_routes.specs.declared.destinations.Route.{Route}
use Rattle.node_work.specs.Acts.{Act, Passed}
use Rattle.node_work.specs.Passing.{IsPassed}
use Rattle.bridge_routes.specs.declared.plain.PlainCopy.{PlainCopy as Copy}
use Rattle.node_work.specs.View.{HeldView}
use Rattle.cluster_play.specs.Worlds.{World}
use Rattle.cluster_play.specs.Runs.{Played}
use Rattle.cluster_play.specs.Histories.{Reached, site, acts_of, made, operations_amid}
use Rattle.cluster_play.specs.Agreement.{HoldsAmid}

-- a step passes a message on after these of its acts: it makes these copies, so many picks are lost, and this goes to other nodes
pub record PassesMessageOn (m : Played) (before : List Act) : Type 0 where
  pub message : Message
  pub copies : List Copy
  pub lost : ℕ
  pub routes : List (ℕ × Route)
  pub after : List Act
  pub acts : acts_of m.fate ≡ before ++ Passed message copies lost routes ∷ after

-- the copies are those of the message for what the node holds there, at its place: its turn, its sessions, and the live
-- subscriptions, which are those of the operations that it has taken until then
pub record MakesItsCopies (run : List Played) (m : Played) (before : List Act) (s : PassesMessageOn m before) : Type 0 where
  pub world : World
  pub reached : Reached run world
  pub held : HeldView
  pub there : HoldsAmid world m (site m.fate) before held
  pub made : IsPassed there.holds.site.node.place held s.message s.copies s.lost s.routes
  pub live : (dot : Dot) (entry : Entry) → (find_entry dot (live held.store.subscriptions) ≡ Some entry) ↔ IsLive (operations_amid (site m.fate) run before) dot entry

-- a message that is passed on makes exactly these copies
abbrev pub CopiesAsTaken : Type 0
CopiesAsTaken = (run later : List Played) (m : Played) (w : World) → Reached (run ++ m ∷ later) w → (before : List Act) (s : PassesMessageOn m before) → MakesItsCopies run m before s
