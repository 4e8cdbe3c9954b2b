-- What is seen of a keeper: the node, and its rows.
use Rattle.node_keeper.specs.declared.keeper.Keeper.{Keeper}
use Rattle.node_work.specs.View.{NodeView}

abbrev pub node_of : {R : Type 0} → Keeper R → NodeView
node_of k = k.node

abbrev pub rows_of : {R : Type 0} → Keeper R → R
rows_of k = k.rows
