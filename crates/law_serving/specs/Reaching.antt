-- Served nodes among others: what is reached.
use Rattle.std.specs.Prelude.{ℕ, List, [], ◌∷◌, ◌++◌}
use Rattle.cluster_play.specs.Histories.{Reached}
use Rattle.cluster_play.specs.Runs.{IsHonest, Played, Run}
use Rattle.cluster_play.specs.Worlds.{World, world_with}
use Rattle.node_keeper.specs.declared.batch.BatchKeeper.{BatchKeeper}
use Rattle.node_keeper.specs.Batches.{Answered}
use Rattle.row_store.specs.Rows.{Content}
use Rattle.law_serving.specs.Settling.{TurnBegins, served_site}
use Rattle.law_serving.specs.Turns.{AreKnown, frames_of}
use Rattle.law_serving.specs.Serving.{AreCommits}

-- the others go on, and forge no frame
pub record OthersGoOn (w w' : World) : Type 0 where
  pub run : List Played
  pub path : Run w run w'
  pub honest : IsHonest w.frames run

module _ {R : Type 0} (is_open : R → Type 0) (content : R → Content) where
  -- Before each commit the others go on, and leave node i as it stands; each frame that the events bring was released before it.
  abbrev pub AreAmong : World → ℕ → (k : BatchKeeper R) → (commits : List (List Answered)) → (k' : BatchKeeper R) → AreCommits is_open content k commits k' → World → Type 0
  AreAmong w i k [] k' runs w' = OthersGoOn w w' × TurnBegins is_open content w' i k'
  AreAmong w i k (events ∷ more) k' runs w' =
      (mid : World) × OthersGoOn w mid × TurnBegins is_open content mid i k × AreKnown mid.frames events
      × AreAmong (world_with mid i (served_site content runs.0) (frames_of events)) i runs.0 more k' runs.2 w'

  -- the whole run: that of the others before each commit, and that of the commit
  abbrev pub run_among : (w : World) (i : ℕ) (k : BatchKeeper R) (commits : List (List Answered)) (k' : BatchKeeper R) (runs : AreCommits is_open content k commits k') (w' : World)
      → AreAmong w i k commits k' runs w' → List Played
  run_among w i k [] k' runs w' among = among.0.run
  run_among w i k (events ∷ more) k' runs w' among =
      among.1.run ++ (runs.1.run among.0 i among.2).run ++ run_among (world_with among.0 i (served_site content runs.0) (frames_of events)) i runs.0 more k' runs.2 w' among.4

  -- so the world in which it stands in the end is reached, and every law over runs holds of it
  abbrev pub ServedIsReached : Type 0
  ServedIsReached =
      (past : List Played) (w w' : World) (i : ℕ) (k k' : BatchKeeper R) (commits : List (List Answered)) (runs : AreCommits is_open content k commits k') → Reached past w
      → (among : AreAmong w i k commits k' runs w') → Reached (past ++ run_among w i k commits k' runs w' among) w'
