use Rattle.std.proofs.lemmas.Bool.{false≢true}
use Rattle.std.proofs.Common.{sym, ◌∙◌, subst, ◌++◌, ◌∷◌, []}
use Rattle.broker_script.specs.Script.{IsSound}
use Rattle.broker_script.proofs.Scripts.{refuses_other}
use Rattle.broker_script.proofs.script.read_line.Goals as goal

pub returns-then-not-may_follow-clause-fault : goal.returns-then-not-may_follow-clause-fault
returns-then-not-may_follow-clause-fault c =
    let found = rw c.in-Some.is at c.in_ok-command.ensures.some in
    let no = rw c.if-not-may_follow.true at c.may_follow.ensures.1 in
    λ _. refuses_other c.args.line.now c.args.commands.now.items c.in-Some.command (sym c.is_kept.ensures ∙ c.if-not-is_kept.false) found.0 found.1
    (λ s. false≢true (no (subst (λ xs. IsSound (xs ++ c.in-Some.command ∷ [])) (sym c.deref.ensures.value) s)))
