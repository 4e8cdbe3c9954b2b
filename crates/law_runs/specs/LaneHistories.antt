-- What nodes put into their lanes and took of them in a run, read off its moments.
use Rattle.std.specs.Prelude.{ℕ, cond, nat_eq, List, [], ◌∷◌, ◌++◌}
use Rattle.bridge_frames.specs.declared.forward.Forward.{Forward}
use Rattle.node_work.specs.Acts.{Act, Bridge, gather}
use Rattle.node_work.specs.Held.Bridge.{BridgeAct, Put, Took}
use Rattle.cluster_play.specs.Worlds.{Fate}
use Rattle.cluster_play.specs.Runs.{Played}
use Rattle.cluster_play.specs.Histories.{site, acts_of}

-- the message that an act puts into the lane to node j, and the one that it takes of the lane from it
abbrev pub put_by : ℕ → BridgeAct → List Forward
put_by j (Put peer m) = cond (nat_eq peer j) (m ∷ []) []
put_by j a = []

abbrev pub took_by : ℕ → BridgeAct → List Forward
took_by j (Took peer number m copies lost) = cond (nat_eq peer j) (m ∷ []) []
took_by j a = []

abbrev pub by_bridge : {A : Type 0} → (BridgeAct → List A) → Act → List A
by_bridge f (Bridge a) = f a
by_bridge f a = []

-- what the acts that a step committed at node i give
abbrev pub at_node : {A : Type 0} → ℕ → (Act → List A) → Fate → List A
at_node i f fate = cond (nat_eq (site fate) i) (gather f (acts_of fate)) []

-- the messages that node i put into its lane to node j, in order
abbrev pub put : ℕ → ℕ → List Played → List Forward
put i j [] = []
put i j (m ∷ ms) = at_node i (by_bridge (put_by j)) m.fate ++ put i j ms

-- the messages that node i took of the lane from node j, in order
abbrev pub took : ℕ → ℕ → List Played → List Forward
took i j [] = []
took i j (m ∷ ms) = at_node i (by_bridge (took_by j)) m.fate ++ took i j ms
