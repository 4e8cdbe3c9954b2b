use Rattle.std.proofs.Common.{sym, ap, ◌∙◌}
use Rattle.causal_context.specs.Spelling.{context}
use Rattle.causal_context.proofs.SpellingLaws.{context_is}
use Rattle.row_store.specs.Rows.{Plain}
use Rattle.replica_rows.proofs.Keyed.{one_value}
use Rattle.replica_rows.proofs.reading.read_context_row.Goals as goal

pub returns-then-is_empty-clause-found : goal.returns-then-is_empty-clause-found
unfolding context
returns-then-is_empty-clause-found c = λ a is.
    let value = sym (ap (λ (r : Plain). r.1) is.is) ∙ sym c.deref.ensures.value ∙ c.in_ok-dots.ensures.found.0 in
    is.some (one_value context context_is a.1 c.in_ok-dots.dots is.spelled c.in_ok-dots.ensures.found.1 value ∙ c.is_empty-2.ensures.0 c.if-is_empty.true)
