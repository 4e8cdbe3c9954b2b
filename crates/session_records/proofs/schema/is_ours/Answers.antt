use Rattle.std.proofs.Common.{sym, ◌∙◌}
use Rattle.session_records.proofs.Means.{schema_is}
use Rattle.session_records.proofs.schema.is_ours.Goals as goal

pub returns : goal.returns
returns c = (λ h. c.is_listed.ensures.0 h ∙ sym schema_is, λ e. c.is_listed.ensures.1 (e ∙ schema_is))
