use Rattle.std.proofs.Common.{rules}
use Rattle.std.proofs.lemmas.List.Sorted.{IsPartitionPoint-from_clause}
use Rattle.causal_context.proofs.Searching.{starts_by, parted, started_from}
use Rattle.causal_context.proofs.ranges.started.Goals as goal

pub returns : goal.returns
returns c =
    let rs = c.args.ranges.now in
    let point = IsPartitionPoint-from_clause (starts_by (record { node = c.args.node; number = c.args.number })) _ _ c.partition_point.ensures.partitioned (parted rs (record { node = c.args.node; number = c.args.number }) c.requires) (λ a r q k. search rules) in
    started_from rs (record { node = c.args.node; number = c.args.number }) c.partition_point.result c.partition_point.ensures.bound point
