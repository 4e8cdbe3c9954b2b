use Rattle.std.proofs.Common.{arith}
use Rattle.replica_rows.proofs.Whole.{client_found, client_more, client_none}
use Rattle.replica_rows.proofs.reading.entry_of.Goals as goal

pub returns-in-Ok-default-empty-clause-found : goal.returns-in-Ok-default-empty-clause-found
returns-in-Ok-default-empty-clause-found c = client_found c.args.client c.args.bytes.now (_, _) c.are_bytes.ensures c.in-Ok-default-empty.ensures.exact (let h = c.in-Ok-default-empty.len_below in omega (arith, h))

pub returns-in-Ok-clause-found : goal.returns-in-Ok-clause-found
returns-in-Ok-clause-found c = client_more c.args.client c.args.bytes.now (_, _) c.in-Ok.ensures.exact (let h = c.in-Ok.len_at_least in omega (arith, h))

pub returns-in-Err-clause-found : goal.returns-in-Err-clause-found
returns-in-Err-clause-found c = client_none c.args.client c.args.bytes.now c.in-Err.fault c.in-Err.ensures.exact
