use Rattle.node_rows.proofs.reading.open.Goals as goal

pub read_either-requires : goal.read_either-requires
read_either-requires c = c.are_rising.ensures.0 c.if-are_rising.true
