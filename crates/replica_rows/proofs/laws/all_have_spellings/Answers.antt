use Rattle.std.proofs.Common.{subst, sym, ◌∙◌}
use Rattle.std.specs.FinMap as map
use Rattle.std.specs.List.{AllByRecursion}
use Rattle.mqtt_message.specs.Parts.{name}
use Rattle.replica_bytes.specs.Values.{IsOwn, kept}
use Rattle.replica_bytes.proofs.Sets.{own_entries}
use Rattle.replica_rows.proofs.Stores.{one_follows, all_follow, next_of}
use Rattle.replica_rows.proofs.laws.all_have_spellings.Goals as goal

pub loop-topic-init : goal.loop-topic-init
loop-topic-init c =
    let same = c.into_iter-topic-iterator.ensures.into_iter_gives ∙ c.entries-topic-items.ensures.entries in
    record {
      follows = λ all. subst (AllByRecursion (λ x. name.Fits x.0 × (kept x.0).Fits x.1)) same all;
      own = subst (AllByRecursion IsOwn) (sym same) (own_entries c.args.retained.now c.entries-topic-items.ensures.topics);
    }

pub has_spelling-requires : goal.has_spelling-requires
has_spelling-requires c = (next_of IsOwn c.loop-topic.topic-iterator c.next.new.self (c.in-Some.topic.now, c.in-Some.kept.now) c.in-Some.ensures.steps c.loop-topic.invariant.own).0

pub loop-topic-preserved : goal.loop-topic-preserved
loop-topic-preserved c = record {
  follows = one_follows (λ x. name.Fits x.0 × (kept x.0).Fits x.1) (map.entries c.args.retained.now) c.loop-topic.topic-iterator c.next.new.self (c.in-Some.topic.now, c.in-Some.kept.now) c.in-Some.ensures.steps
      (c.has_spelling.ensures.topic, c.has_spelling.ensures.kept) c.loop-topic.invariant.follows;
  own = (next_of IsOwn c.loop-topic.topic-iterator c.next.new.self (c.in-Some.topic.now, c.in-Some.kept.now) c.in-Some.ensures.steps c.loop-topic.invariant.own).1;
}

pub returns : goal.returns
returns c = all_follow (λ x. name.Fits x.0 × (kept x.0).Fits x.1) (map.entries c.args.retained.now) c.loop-topic.topic-iterator c.in-None.ensures.steps.0 c.loop-topic.invariant.follows
