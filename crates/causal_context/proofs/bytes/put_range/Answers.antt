use Rattle.std.specs.Int.{to_be_bytes, w16, w64}
use Rattle.causal_context.proofs.SpellingLaws.{at_ok, three_parts}
use Rattle.causal_context.proofs.bytes.put_range.Goals as goal

pub returns-clause-items : goal.returns-clause-items
returns-clause-items c = three_parts c.args.out.now.items c.put_u16.new.out.items c.put_u64.new.out.items c.put_u64-2.new.out.items
    (to_be_bytes w16 c.args.range.node) (to_be_bytes w64 c.args.range.first) (to_be_bytes w64 c.args.range.last)
    (at_ok c.put_u16.result c.unwrap.result c.unwrap.ensures c.put_u16.ensures.ok)
    (at_ok c.put_u64.result c.unwrap-2.result c.unwrap-2.ensures c.put_u64.ensures.ok)
    (at_ok c.put_u64-2.result c.unwrap-3.result c.unwrap-3.ensures c.put_u64-2.ensures.ok)
