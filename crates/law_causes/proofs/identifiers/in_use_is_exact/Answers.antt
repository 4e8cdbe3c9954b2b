use Rattle.law_causes.proofs.InUseLaws.{in_use_is_refused, in_use_is_told}
use Rattle.law_causes.proofs.identifiers.in_use_is_exact.Goals as goal

pub returns-clause-refused : goal.returns-clause-refused
returns-clause-refused c = in_use_is_refused

pub returns-clause-told : goal.returns-clause-told
returns-clause-told c = in_use_is_told c.codes_answer_what_asked.ensures
