use Rattle.std.proofs.Common.{ap, sym, ◌∙◌}
use Rattle.door_users.specs.Outcomes.{at_line}
use Rattle.door_users.specs.Rules.{after_text, state_of}
use Rattle.door_users.proofs.rules.Reading.read_at.Goals as goal

pub returns-in-Ok-clause-ok : goal.returns-in-Ok-clause-ok
returns-in-Ok-clause-ok c = ap (after_text (state_of c.args.self.now)) (sym c.trim.ensures.trim) ∙ c.in-Ok.ensures.ok

pub returns-in-Err-Flaw-clause-err : goal.returns-in-Err-Flaw-clause-err
returns-in-Err-Flaw-clause-err c =
    ap (at_line c.args.number) (ap (after_text (state_of c.args.self.now)) (sym c.trim.ensures.trim) ∙ (rw c.in-Err-Flaw.field-0-is at c.in-Err-Flaw.ensures.err))
