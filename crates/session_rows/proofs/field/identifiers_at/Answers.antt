use Rattle.session_rows.proofs.field.identifiers_at.Goals as goal

pub returns-clause-no_memory : goal.returns-clause-no_memory
returns-clause-no_memory c = λ e. record {
  count = c.in_ok-count.count;
  rest = c.in_ok-count.rest.now;
  read = c.in_ok-count.ensures.exact;
  some = c.numbers_at.ensures.no_memory e;
}
