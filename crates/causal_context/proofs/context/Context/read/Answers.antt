use Rattle.std.proofs.Common.{ℕ, List, Result, Ok, sym, ap, subst, ◌∙◌, arith}
use Rattle.std.proofs.lemmas.Result.{err_from_is_err_and}
use Rattle.mqtt_fields.specs.declared.fault.FieldFault.{FieldFault}
use Rattle.mqtt_fields.specs.Reading.{Fails}
use Rattle.causal_context.specs.Dots.{Dots}
use Rattle.causal_context.specs.Spelling.{context}
use Rattle.causal_context.proofs.SpellingLaws.{spelled_at, read_spells}
use Rattle.causal_context.proofs.context.Context.read.Goals as goal

pub overflow_sub-result : goal.overflow_sub-result
overflow_sub-result c = (read_spells c.args.bytes.now c.in_ok-context.context c.in_ok-context.rest.now (λ i. omega (arith, c.type_inv.bytes i)) c.in_ok-context.ensures.exact).0

pub returns-clause-found : goal.returns-clause-found
returns-clause-found c = (omega arith, (read_spells c.args.bytes.now c.in_ok-context.context c.in_ok-context.rest.now (λ i. omega (arith, c.type_inv.bytes i)) c.in_ok-context.ensures.exact).2)

as_read : Dots → List ℕ → Result (Dots × List ℕ) FieldFault
as_read s rest = Ok (s, rest)

pub returns-clause-exact : goal.returns-clause-exact
unfolding as_read
returns-clause-exact c =
    let left = (read_spells c.args.bytes.now c.in_ok-context.context c.in_ok-context.rest.now (λ i. omega (arith, c.type_inv.bytes i)) c.in_ok-context.ensures.exact).1 in
    c.in_ok-context.ensures.exact ∙ ap (as_read c.in_ok-context.context) (sym left)

pub returns-clause-only : goal.returns-clause-only
unfolding as_read
returns-clause-only c front rest s spells is =
    let left = (read_spells c.args.bytes.now c.in_ok-context.context c.in_ok-context.rest.now (λ i. omega (arith, c.type_inv.bytes i)) c.in_ok-context.ensures.exact).1 in
    sym (ap context.at is ∙ spelled_at front rest s spells) ∙ c.in_ok-context.ensures.exact ∙ ap (as_read c.in_ok-context.context) (sym left)

pub returns-in_err-context-clause-only : goal.returns-in_err-context-clause-only
returns-in_err-context-clause-only c front rest s spells is =
    let p = err_from_is_err_and c.from_residual.result c.from_residual.ensures.1 in
    rw (p.1, p.2) (subst (Fails c.in_err-context.field-0.0) (ap context.at is ∙ spelled_at front rest s spells) c.in_err-context.ensures.exact)
