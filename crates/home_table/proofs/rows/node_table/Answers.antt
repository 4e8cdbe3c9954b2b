use Rattle.std.proofs.Common.{◌∙◌}
use Rattle.home_table.specs.Document.{is_node_key}
use Rattle.home_table.proofs.RowLaws.{list_all-keys}
use Rattle.home_table.proofs.rows.node_table.Goals as goal

pub returns-then-has_node_keys : goal.returns-then-has_node_keys
returns-then-has_node_keys c = rw (← c.in_ok-row.ensures, ← (c.if-has_node_keys.ensures ∙ list_all-keys is_node_key c.in_ok-row.row.now.entries))

pub returns-else-has_node_keys : goal.returns-else-has_node_keys
returns-else-has_node_keys c = rw (← c.in_ok-row.ensures, ← (c.if-has_node_keys.ensures ∙ list_all-keys is_node_key c.in_ok-row.row.now.entries))
