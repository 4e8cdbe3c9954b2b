-- A frame that is for a node comes from another one.
use Rattle.std.proofs.Common.{◌≡◌, ◌≢◌, ◌&&◌, not, nat_eq, nat_lt, Bool, true, false, eq-eqb}
use Rattle.bridge_frames.specs.declared.frame.BridgeFrame.{BridgeFrame}
use Rattle.node_work.specs.Frames.{is_for_node, names_nodes}
use Rattle.node_work.specs.View.{Place, nodes_of}

not_own : (here own low named : Bool) → own ≡ true → (here && not own && low && named) ≡ true → ⊥
not_own true true low named is e = cc
not_own false true low named is e = cc
not_own here false low named is e = absurd cc

pub from_other : (p : Place) (f : BridgeFrame) → is_for_node p f ≡ true → f.from ≢ p.id
from_other p f is same = not_own (nat_eq f.to p.id) (nat_eq f.from p.id) (nat_lt f.from (nodes_of p)) (names_nodes (nodes_of p) f.body) (eq-eqb f.from p.id same) is
