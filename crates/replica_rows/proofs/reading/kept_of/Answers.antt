use Rattle.std.proofs.Common.{arith}
use Rattle.replica_bytes.specs.Values.{kept}
use Rattle.replica_bytes.proofs.Wholes.{kept_is}
use Rattle.mqtt_fields.proofs.Whole.{whole_found, whole_more, whole_none}
use Rattle.replica_rows.proofs.reading.kept_of.Goals as goal

pub returns-in-Ok-default-empty-clause-found : goal.returns-in-Ok-default-empty-clause-found
returns-in-Ok-default-empty-clause-found c = whole_found (kept c.args.topic.now) (kept_is c.args.topic.now) c.args.bytes.now (_, _) c.are_bytes.ensures c.in-Ok-default-empty.ensures.exact (let h = c.in-Ok-default-empty.len_below in omega (arith, h))

pub returns-in-Ok-clause-found : goal.returns-in-Ok-clause-found
returns-in-Ok-clause-found c = whole_more (kept c.args.topic.now) (kept_is c.args.topic.now) c.args.bytes.now (_, _) c.in-Ok.ensures.exact (let h = c.in-Ok.len_at_least in omega (arith, h))

pub returns-in-Err-clause-found : goal.returns-in-Err-clause-found
returns-in-Err-clause-found c = whole_none (kept c.args.topic.now) (kept_is c.args.topic.now) c.args.bytes.now (λ k. k) c.in-Err.fault c.in-Err.ensures.exact
