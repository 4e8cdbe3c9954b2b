-- What is seen of a keeper of batches: the node, its rows, and the changes that wait.
use Rattle.std.specs.Prelude.{List}
use Rattle.node_keeper.specs.declared.batch.BatchKeeper.{BatchKeeper}
use Rattle.node_work.specs.View.{NodeView}
use Rattle.row_store.specs.declared.row.Change.{Change}

abbrev pub node_in : {R : Type 0} → BatchKeeper R → NodeView
node_in b = b.node

abbrev pub rows_in : {R : Type 0} → BatchKeeper R → R
rows_in b = b.rows

abbrev pub waiting_in : {R : Type 0} → BatchKeeper R → List Change
waiting_in b = b.waiting.items
