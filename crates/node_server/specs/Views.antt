-- What is seen of a node that is served: its keeper of batches.
use Rattle.node_keeper.specs.declared.batch.BatchKeeper.{BatchKeeper}
use Rattle.node_server.specs.declared.served.ServedNode.{ServedNode}

abbrev pub keeper_of : {R : Type 0} → ServedNode R → BatchKeeper R
keeper_of s = s.keeper
