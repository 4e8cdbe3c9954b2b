use Rattle.std.proofs.Common.{◌∙◌}
use Rattle.home_table.specs.Document.{is_home_key}
use Rattle.home_table.proofs.RowLaws.{list_all-keys}
use Rattle.home_table.proofs.rows.home_table.Goals as goal

pub returns-then-has_home_keys : goal.returns-then-has_home_keys
returns-then-has_home_keys c = rw (← c.in_ok-row.ensures, ← (c.if-has_home_keys.ensures ∙ list_all-keys is_home_key c.in_ok-row.row.now.entries))

pub returns-else-has_home_keys : goal.returns-else-has_home_keys
returns-else-has_home_keys c = rw (← c.in_ok-row.ensures, ← (c.if-has_home_keys.ensures ∙ list_all-keys is_home_key c.in_ok-row.row.now.entries))
