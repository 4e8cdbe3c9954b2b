use Rattle.std.proofs.Common.{rules}
use Rattle.session_records.proofs.found.are_rows.Goals as goal

pub returns-then-have_form : goal.returns-then-have_form
returns-then-have_form c = (λ h. record { formed = c.have_form.ensures.0 (search rules); rising = c.are_numbered.ensures.rising h }, λ n. c.are_numbered.ensures.numbered n.formed n.rising)
