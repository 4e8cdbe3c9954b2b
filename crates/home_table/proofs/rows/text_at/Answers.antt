use Rattle.home_table.proofs.rows.text_at.Goals as goal

pub returns-in_err-text : goal.returns-in_err-text
returns-in_err-text c = rw (c.from_residual.ensures, ← c.in_err-text.ensures)

pub returns-then-is_value : goal.returns-then-is_value
returns-then-is_value c = rw (← c.in_ok-text.ensures, ← c.if-is_value.ensures)

pub returns-else-is_value : goal.returns-else-is_value
returns-else-is_value c = rw (← c.in_ok-text.ensures, ← c.if-is_value.ensures)
