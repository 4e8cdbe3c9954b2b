use Rattle.std.proofs.Common.{rules, ◌≡◌, ◌<◌, ◌^◌}
use Rattle.std.specs.Prelude.{flat_map}
use Rattle.std.specs.Int.{w32}
use Rattle.std.specs.FinMap as map
use Rattle.mqtt_fields.specs.Numbers.{number}
use Rattle.replica_bytes.specs.Stores.{retained}
use Rattle.replica_bytes.specs.Values.{topic_entry}
use Rattle.replica_bytes.proofs.Loops.{on_ok, put_after, put_begins, begins_so}
use Rattle.replica_bytes.proofs.Wholes.{retained_bytes, retained_fits}
use Rattle.replica_bytes.proofs.retained.append_retained.Goals as goal

pub returns-clause-ok : goal.returns-clause-ok
returns-clause-ok c =
    let counted : c.in-Ok.count ≡ map.len c.args.retained.now = search rules in
    on_ok c.append_topics.result
    (λ is. put_after c.args.out.now.items c.put_u32.new.out.items c.append_topics.new.out.items ((number w32).bytes c.in-Ok.count) (flat_map topic_entry.bytes (map.entries c.args.retained.now)) (retained.bytes c.args.retained.now)
    c.in_ok-put_u32.ensures.ok (retained_bytes c.args.retained.now c.in-Ok.count counted) is)
    c.append_topics.ensures.ok

pub returns-clause-spelling : goal.returns-clause-spelling
returns-clause-spelling c =
    let few : map.len c.args.retained.now < 2 ^ 32 = search rules in
    on_ok c.append_topics.result (retained_fits c.args.retained.now few) c.append_topics.ensures.spelling

pub returns-clause-begins : goal.returns-clause-begins
returns-clause-begins c =
    begins_so c.args.out.now.items c.put_u32.new.out.items c.append_topics.new.out.items (put_begins c.args.out.now.items c.put_u32.new.out.items ((number w32).bytes c.in-Ok.count) c.in_ok-put_u32.ensures.ok) c.append_topics.ensures.begins
