use Rattle.std.proofs.Common.{arith}
use Rattle.causal_context.specs.Spelling.{context}
use Rattle.causal_context.proofs.SpellingLaws.{context_is}
use Rattle.mqtt_fields.proofs.Whole.{whole_found, whole_more, whole_none}
use Rattle.replica_rows.proofs.reading.dots_of.Goals as goal

pub returns-in-Ok-default-empty-clause-found : goal.returns-in-Ok-default-empty-clause-found
unfolding context
returns-in-Ok-default-empty-clause-found c = whole_found context context_is c.args.bytes.now (_, _) c.are_bytes.ensures c.in-Ok-default-empty.ensures.exact (let h = c.in-Ok-default-empty.len_below in omega (arith, h))

pub returns-in-Ok-clause-found : goal.returns-in-Ok-clause-found
unfolding context
returns-in-Ok-clause-found c = whole_more context context_is c.args.bytes.now (_, _) c.in-Ok.ensures.exact (let h = c.in-Ok.len_at_least in omega (arith, h))

pub returns-in-Err-clause-found : goal.returns-in-Err-clause-found
unfolding context
returns-in-Err-clause-found c = whole_none context context_is c.args.bytes.now (λ k. k) c.in-Err.fault c.in-Err.ensures.exact
