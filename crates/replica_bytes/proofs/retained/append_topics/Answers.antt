use Rattle.std.proofs.Common.{arith, rules, ◌<◌, ◌+◌, length, sym, subst, ◌∙◌}
use Rattle.std.specs.Prelude.{flat_map, vec_len, vec_capacity}
use Rattle.std.specs.FinMap as map
use Rattle.std.specs.List.{AllByRecursion}
use Rattle.mqtt_message.proofs.RoomLaws.{on_err}
use Rattle.replica_bytes.specs.Values.{topic_entry, IsOwn}
use Rattle.replica_bytes.proofs.Loops.{none_written, no_room}
use Rattle.replica_bytes.proofs.Sets.{own_entries}
use Rattle.replica_bytes.proofs.retained.append_topics.Goals as goal

pub loop-topic-init : goal.loop-topic-init
loop-topic-init c =
    let is = c.into_iter-topic-iterator.ensures.into_iter_gives ∙ c.entries-topic-items.ensures.entries in
    record {
      written = none_written topic_entry.bytes (map.entries c.args.retained.now) c.into_iter-topic-iterator.result c.args.out.now.items is;
      capacity = omega arith;
      own = subst (AllByRecursion IsOwn) (sym is) (own_entries c.args.retained.now c.entries-topic-items.ensures.topics);
      fits = λ all. subst (AllByRecursion topic_entry.Fits) is all;
    }

pub returns-in_err-append_topic_entry-clause-full : goal.returns-in_err-append_topic_entry-clause-full
returns-in_err-append_topic_entry-clause-full c =
    let old = c.args.out.now in
    let now = c.loop-topic.out in
    on_err c.from_residual.result (vec_capacity old < vec_len old + length (flat_map topic_entry.bytes (map.entries c.args.retained.now)))
    (no_room topic_entry.bytes (map.entries c.args.retained.now) c.loop-topic.topic-iterator c.next.new.self (c.in-Some.topic.now, c.in-Some.kept.now) old.items now.items (vec_len old) (vec_capacity old) (vec_len now) (vec_capacity now)
    c.in-Some.ensures.steps c.loop-topic.invariant.written (omega (arith, old.ok.0)) (omega (arith, now.ok.0)) c.loop-topic.invariant.capacity (search rules))
