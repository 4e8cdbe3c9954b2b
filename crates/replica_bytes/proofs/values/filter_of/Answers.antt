use Rattle.std.proofs.Common.{inl, inr, ap, sym, ◌∙◌, Ok}
use Rattle.replica_bytes.specs.Values.{filter_in}
use Rattle.replica_bytes.proofs.Filters.{read_filter, bad_filter}
use Rattle.replica_bytes.proofs.values.filter_of.Goals as goal

pub returns-in-Ok-clause-exact : goal.returns-in-Ok-clause-exact
returns-in-Ok-clause-exact c = ap filter_in (sym c.as_str.ensures.same) ∙ read_filter c.as_str.result.now c.in-Ok.ensures.filter.1 ∙ ap Ok (sym c.in-Ok.ensures.filter.0)

pub returns-in_default-clause-exact : goal.returns-in_default-clause-exact
returns-in_default-clause-exact c = ap filter_in (sym c.as_str.ensures.same) ∙ elim c.in-Err.ensures.fault [
  | inl bad ↦ bad_filter c.as_str.result.now c.in-Err.fault bad
  | inr memory ↦ absurd (c.in_default.not-NoMemory memory.0)
]
