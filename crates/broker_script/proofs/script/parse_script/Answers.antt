use Rattle.std.proofs.Common.{sym, subst, refl}
use Rattle.std.proofs.lemmas.Str.{IsUtf8-from_ascii}
use Rattle.broker_script.specs.Script.{IsScript, FaultsAt}
use Rattle.broker_script.proofs.Scripts.{answers_script, answers_fault}
use Rattle.broker_script.proofs.script.parse_script.Goals as goal

pub returns-in-Ok-clause-read : goal.returns-in-Ok-clause-read
returns-in-Ok-clause-read c = λ commands s.
    answers_script (λ v. v.items) c.in-Ok.text.now commands c.parse_text.result (c.parse_text.ensures.ok, c.parse_text.ensures.fault)
    (subst (λ t. IsScript t commands) (sym c.in-Ok.ensures.cases.0) s)

pub returns-in-Ok-clause-fault : goal.returns-in-Ok-clause-fault
returns-in-Ok-clause-fault c = λ k f.
    answers_fault (λ v. v.items) c.in-Ok.text.now k c.parse_text.result (c.parse_text.ensures.ok, c.parse_text.ensures.fault)
    (subst (λ t. FaultsAt t k) (sym c.in-Ok.ensures.cases.0) f)

pub returns-in-Err-clause-read : goal.returns-in-Err-clause-read
returns-in-Err-clause-read c = λ commands s. absurd (c.in-Err.ensures.cases.0 (IsUtf8-from_ascii c.args.script.now s.text.1))

pub returns-in-Err-clause-not_text : goal.returns-in-Err-clause-not_text
returns-in-Err-clause-not_text c =
    (λ _ text. c.in-Err.ensures.cases.0 (IsUtf8-from_ascii c.args.script.now text.1), λ _. refl)

pub returns-in-Err-clause-fault : goal.returns-in-Err-clause-fault
returns-in-Err-clause-fault c = λ k f. absurd (c.in-Err.ensures.cases.0 (IsUtf8-from_ascii c.args.script.now f.text.1))
